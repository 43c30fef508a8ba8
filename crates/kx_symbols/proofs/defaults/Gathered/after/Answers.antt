use Rattle.std.proofs.Common.{◌≡◌, ◌∙◌, ◌∷◌, None, false, Contains, ap, cond, subst, sym}
use Rattle.std.specs.Option.{option_and_then}
use Rattle.kx_actions.specs.Defaults.{default_faults as action_default_faults}
use Rattle.kx_key_fields.specs.Attributes.{with_given}
use Rattle.kx_key_fields.specs.AttributeFields.{named_given}
use Rattle.kx_key_fields.specs.KeyFields.{default_faults as key_default_faults}
use Rattle.kx_key_fields.specs.Words.{is_key_word}
use Rattle.kx_lex.specs.declared.fault.Fault.TheVariants.{Memory}
use Rattle.kx_symbols.specs.KeyFaults.{default_faults}
use Rattle.kx_symbols.specs.Keys.{after_field}
use Rattle.kx_symbols.specs.Known.{Defaults}
use Rattle.kx_merge.proofs.Going.{reported_or_out}
use Rattle.kx_symbols.proofs.Statements.{behind_memory}
use Rattle.kx_symbols.proofs.defaults.Gathered.after.Goals as goal

pub returns-clause-next : goal.returns-clause-next
returns-clause-next c =
    let names = c.args.modifiers.now.names in
    let field = c.args.field.now in
    let old : Defaults = record { actions = c.self.inside.actions; keys = c.self.inside.keys } in
    let new : Defaults = record { actions = c.in_ok-actions.actions; keys = c.self.inside.keys } in
    let no_key : is_key_word field.place.word.bytes ≡ false = ap is_key_word (sym c.as_slice.ensures) ∙ sym c.is_key_word.ensures ∙ c.if-is_key_word.false in
    let keys = ap (λ b. with_given c.self.inside.keys (cond b (option_and_then (λ member. named_given names member field) field.place.member) None)) no_key in
    let both : new ≡ after_field names old field = λ i. record { actions = c.in_ok-actions.ensures.value i; keys = sym keys i } in
    both ∙ ap (λ d. after_field names d field) c.self.view_is

pub returns-in_err-actions-clause-faults : goal.returns-in_err-actions-clause-faults
returns-in_err-actions-clause-faults c =
    let names = c.args.modifiers.now.names in
    let field = c.args.field.now in
    let e = c.in_err-actions.field-0.0 in
    let no_key : is_key_word field.place.word.bytes ≡ false = ap is_key_word (sym c.as_slice.ensures) ∙ sym c.is_key_word.ensures ∙ c.if-is_key_word.false in
    reported_or_out c.from_residual-in_err-actions.result (default_faults c.args.file names field) e c.from_residual-in_err-actions.ensures.1
    (subst (λ b. Contains (Memory ∷ cond b (key_default_faults c.args.file names field) (action_default_faults c.args.file names field)) e) (sym no_key) (behind_memory (action_default_faults c.args.file names field) e c.in_err-actions.ensures.faults.1))
