use Rattle.std.proofs.Common.{◌∷◌, Contains, subst, sym}
use Rattle.kx_include.specs.IncludeFaults.{at}
use Rattle.kx_lex.specs.declared.fault.Fault.TheVariants.{Memory, UnknownField}
use Rattle.kx_tree.specs.Sections.{word_span}
use Rattle.kx_symbols.specs.KeyFaults.{other_faults}
use Rattle.kx_symbols.proofs.Statements.{unknown_blamed}
use Rattle.kx_symbols.proofs.defaults.SectionDefaults.after.Goals as goal

pub returns-in_default : goal.returns-in_default
returns-in_default c =
    let stated = c.args.stated.now in
    let faults = other_faults c.args.file c.args.modifiers.now.names (word_span stated) stated.statement in record {
      next = tt;
      faults = (
        tt,
        subst (λ word. Contains (Memory ∷ faults) (UnknownField (at c.args.file word))) (sym c.word_span.ensures)
            (unknown_blamed c.args.file c.args.modifiers.now.names (word_span stated) stated.statement c.in_default.not-VirtualModifiers c.in_default.not-ModifierMap c.in_default.not-Field),
      );
    }
