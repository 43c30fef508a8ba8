use Rattle.std.proofs.Common.{◌≡◌, OnOk, ap, subst, ◌∙◌}
use Rattle.std.specs.Map.{lookup}
use Rattle.kx_ordered.proofs.KeyPlaces.{insert_absent, looked_pushed, on_ok, unplaced}
use Rattle.kx_ordered.proofs.ordered.Ordered.push.Goals as goal

pub returns : goal.returns
returns g c =
    let eq = g.K.PartialEq.eq in
    let key = c.args.key in
    let es = c.args.self.now.entries in
    let entry : g.row.K.Denot × g.row.V.Denot = (key, c.args.value) in
    record {
      entries = subst (λ es. OnOk c.put.result (c.put.new.self.entries ≡ es)) (insert_absent eq key c.args.value es (unplaced (eq key) es c.requires)) c.put.ensures.entries;
      updates = on_ok c.put.result (λ pushed q. ap (lookup (eq q)) pushed ∙ looked_pushed eq g.met.K.Eq.laws es entry c.requires q) c.put.ensures.entries;
      unique = c.put.ensures.unique;
      err = c.put.ensures.err;
    }
