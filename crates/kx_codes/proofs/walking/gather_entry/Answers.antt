use Rattle.std.proofs.Common.{◌∷◌, [], None, sym, subst}
use Rattle.kx_include.specs.Expansion.{End, Inc}
use Rattle.kx_include.specs.Shared.{entries_body, links_body}
use Rattle.kx_codes.specs.Gathering.{Blames, Took}
use Rattle.kx_codes.proofs.Behind.{if_err, on_ok}
use Rattle.kx_codes.proofs.walking.gather_entry.Goals as goal

pub returns-in-Include-clause-took : goal.returns-in-Include-clause-took
returns-in-Include-clause-took c = on_ok c.gather_include.result (λ took bodies are.
    subst (λ x. Took c.args.names.now c.args.names.now c.args.gathered.now c.gather_include.new.gathered (entries_body bodies c.args.place (x ∷ []) End)) (sym c.in-Include.is)
    (subst (λ ls. Took c.args.names.now c.args.names.now c.args.gathered.now c.gather_include.new.gathered (Inc c.in-Include.mode None (links_body bodies ls) End)) c.as_slice.ensures.value
    (took c.args.names.now bodies are)))
    c.gather_include.ensures.took

pub returns-in-Include-clause-fault : goal.returns-in-Include-clause-fault
returns-in-Include-clause-fault c = if_err c.gather_include.result (λ e fault bodies are.
    subst (λ x. Blames (entries_body bodies c.args.place (x ∷ []) End) e) (sym c.in-Include.is)
    (subst (λ ls. Blames (Inc c.in-Include.mode None (links_body bodies ls) End) e) c.as_slice.ensures.value
    (fault c.args.names.now bodies are)))
    c.gather_include.ensures.fault
