use Rattle.std.proofs.Common.{◌≤◌, length, take_all, sym, ap, subst, ◌∙◌}
use Rattle.kx_codes.proofs.Ends.{Reached, all_reached}
use Rattle.kx_codes.proofs.Standing.{length-coded}
use Rattle.kx_codes.proofs.named.NamesByCode.end.Goals as goal

pub returns : goal.returns
returns c =
    let vs = c.args.self.now in
    let same = c.len-place-end.ensures ∙ sym (length-coded c.self.inside.names.entries) ∙ ap length c.self.view_is in
    all_reached c.places.end vs (subst (λ ws. Reached c.places.end ws vs) (take_all c.places.place vs (subst (λ n. n ≤ c.places.place) same c.places-test.false)) c.places.invariant)
