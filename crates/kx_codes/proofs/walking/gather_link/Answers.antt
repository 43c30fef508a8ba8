use Rattle.std.proofs.Common.{◌≡◌, Some, Ok, Err, ap, subst, ◌∙◌}
use Rattle.std.specs.List.{slice_get}
use Rattle.kx_include.specs.Shared.{body_at}
use Rattle.kx_codes.specs.Gathering.{IsFound}
use Rattle.kx_codes.proofs.Behind.{blamed_included, item_at, on_ok, took_included}
use Rattle.kx_codes.proofs.walking.gather_link.Goals as goal

pub returns-in-Some-Ok-clause-took : goal.returns-in-Some-Ok-clause-took
returns-in-Some-Ok-clause-took c =
    let found : slice_get c.args.done.now c.args.link.map ≡ Some (Ok c.in-Some-Ok.brought) = item_at c.args.done.now c.args.link.map c.in-Some-Ok.field-0.now c.in-Some-Ok.ensures.lookup.3.0 c.in-Some-Ok.ensures.lookup.1 ∙ ap Some c.in-Some-Ok.field-0-is in
    on_ok c.take_all.result (λ takes names bodies are.
    took_included names are.once c.args.gathered.now c.take_all.new.self c.in-Some-Ok.brought c.args.link.mode c.args.link.group (body_at bodies c.args.link.map) (subst (IsFound names (body_at bodies c.args.link.map)) found (are.each_is c.args.link.map)) takes)
    c.take_all.ensures.took

pub returns-in-Some-Err-clause-fault : goal.returns-in-Some-Err-clause-fault
returns-in-Some-Err-clause-fault c =
    let found : slice_get c.args.done.now c.args.link.map ≡ Some (Err c.in-Some-Err.fault) = item_at c.args.done.now c.args.link.map c.in-Some-Err.field-0.now c.in-Some-Err.ensures.lookup.3.0 c.in-Some-Err.ensures.lookup.1 ∙ ap Some c.in-Some-Err.field-0-is in
    λ names bodies are. blamed_included c.args.link.mode c.args.link.group (body_at bodies c.args.link.map) c.in-Some-Err.fault (subst (IsFound names (body_at bodies c.args.link.map)) found (are.each_is c.args.link.map))
