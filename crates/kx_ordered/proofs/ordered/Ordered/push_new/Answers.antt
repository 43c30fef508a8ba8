use Rattle.std.proofs.Common.{sym, ap, ◌∙◌}
use Rattle.std.specs.List.{position}
use Rattle.std.specs.Map.{keys_of, lookup}
use Rattle.kx_ordered.proofs.KeyPlaces.{insert_absent, looked_pushed, missing, place_is}
use Rattle.kx_ordered.proofs.Putting.{put_nowhere}
use Rattle.kx_ordered.proofs.ordered.Ordered.push_new.Goals as goal

pub push-requires : goal.push-requires
push-requires g c =
    let eq = g.K.PartialEq.eq c.args.key in
    let es = c.args.self.now.entries in
    missing eq es (sym (place_is eq es) ∙ sym c.place.ensures.value ∙ c.in-None.is)

pub returns-then-is_none-clause-entries : goal.returns-then-is_none-clause-entries
returns-then-is_none-clause-entries g c =
    let eq = g.K.PartialEq.eq in
    let key = c.args.key in
    let es = c.args.self.now.entries in
    put_nowhere c.put_new_by_order.result (position (eq key) (keys_of es)) c.put_new_by_order.ensures.place c.put_new_by_order.ensures.put
    (λ nowhere pushed. pushed ∙ insert_absent eq key c.args.value es (sym (place_is (eq key) es) ∙ nowhere))

pub returns-then-is_none-clause-updates : goal.returns-then-is_none-clause-updates
returns-then-is_none-clause-updates g c =
    let eq = g.K.PartialEq.eq in
    let key = c.args.key in
    let es = c.args.self.now.entries in
    let entry : g.row.K.Denot × g.row.V.Denot = (key, c.args.value) in
    put_nowhere c.put_new_by_order.result (position (eq key) (keys_of es)) c.put_new_by_order.ensures.place c.put_new_by_order.ensures.put
    (λ nowhere pushed q. ap (lookup (eq q)) pushed ∙ looked_pushed eq g.met.K.Eq.laws es entry (missing (eq key) es (sym (place_is (eq key) es) ∙ nowhere)) q)
