use Rattle.std.proofs.Common.{◌≡◌, ◌∙◌, ◌∷◌, ◌++◌, Contains, List, None, Option, ap, subst, sym}
use Rattle.std.specs.Option.{option_map, option_map_or}
use Rattle.kx_lex.specs.declared.fault.Fault.{Fault}
use Rattle.kx_lex.specs.declared.fault.Fault.TheVariants.{Memory}
use Rattle.kx_symbols.specs.KeyFaults.{content_faults, key_in, other_faults}
use Rattle.kx_lex.specs.declared.name.Name.{Name}
use Rattle.kx_merge.specs.Faults.{name_faults}
use Rattle.kx_tree.specs.Sections.{word_span}
use Rattle.kx_tree.specs.declared.tree.KeyField.{KeyField}
use Rattle.kx_symbols.specs.Keys.{known_under}
use Rattle.kx_merge.proofs.Going.{reported_or_out}
use Rattle.kx_symbols.proofs.keys.read_statement.Goals as goal

pub returns-in_err-next-in-None-clause-faults : goal.returns-in_err-next-in-None-clause-faults
returns-in_err-next-in-None-clause-faults c =
    let context = c.args.context.now in
    let known = known_under context.codes.now context.keysyms.now context.modifiers.now.names c.args.defaults in
    let stated = c.args.stated.now in
    let others = other_faults c.args.file known.modifiers (word_span stated) stated.statement in
    let faults = λ (key : Option (Name × List KeyField)). option_map_or (λ k. name_faults c.args.file stated.span k.0 ++ content_faults c.args.file known stated.span k.1) key others in
    let fault = c.in_err-next-in-None.field-0.0 in
    let none : None ≡ key_in stated.statement = ap (option_map (λ k. (k.0.now, k.1.now))) (sym c.in-None.is) ∙ c.key_in.ensures in
    reported_or_out c.from_residual.result (faults (key_in stated.statement)) fault c.from_residual.ensures.1
    (subst (λ key. Contains (Memory ∷ faults key) fault) none c.in_err-next-in-None.ensures.faults.1)
