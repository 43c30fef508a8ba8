use Rattle.std.proofs.Common.{◌≡◌, ◌<◌, Some, length, slice_get, refl, sym, ap, subst, ◌∙◌}
use Rattle.std.proofs.lemmas.Option.{slice_get-map, slice_get_read}
use Rattle.std.specs.BTreeMap.{is_at}
use Rattle.std.specs.List.{IsDistinct}
use Rattle.std.specs.Map.{keys_of}
use Rattle.std.specs.Option.{option_map}
use Rattle.indexmap.specs.IndexMap.{with_entries}
use Rattle.indexmap.specs.Layout.{hash_map}
use Rattle.kx_ordered.specs.KeyPlaces.{place_in, with_value}
use Rattle.kx_ordered.proofs.KeyPlaces.{keys-with_value, place_kept, set_is}
use Rattle.kx_ordered.proofs.ordered.Ordered.value_mut.Goals as goal

pub invariant_of-self-lent : goal.invariant_of-self-lent
invariant_of-self-lent g c = λ w.
    let es = c.self.inside.entries.items in
    let place = c.args.place in
    let entry = c.index_mut-entry.result.now in
    let at = slice_get_read es (length es) place entry refl (subst (λ m. place < length m.entries) (sym c.self.view_is) c.requires) c.index_mut-entry.ensures.value in
    let set = set_is es place entry.0 entry.1 w at in (
      λ k. let test = is_at (g.K.Ord.cmp k) in c.self.invariant.0 k ∙ sym (ap (place_in test) set ∙ place_kept test es place w),
      λ compare respects unnumbered. let test = is_at compare in c.self.invariant.1 compare respects unnumbered ∙ sym (ap (place_in test) set ∙ place_kept test es place w),
      subst (IsDistinct g.K.PartialEq.eq) (sym (ap keys_of set ∙ keys-with_value es place w)) c.self.invariant.2,
    )

pub returns : goal.returns
returns g c =
    let es = c.self.inside.entries.items in
    let place = c.args.place in
    let entry = c.index_mut-entry.result.now in
    let at = slice_get_read es (length es) place entry refl (subst (λ m. place < length m.entries) (sym c.self.view_is) c.requires) c.index_mut-entry.ensures.value in (
      (refl, λ w. ap (λ es. hash_map es 0 0) (set_is es place entry.0 entry.1 w at) ∙ ap (λ m. with_entries m (with_value m.entries place w)) c.self.view_is),
      record { writes_back = tt; value = slice_get-map (λ x. x.1) c.args.self.now.entries place ∙ ap (option_map (λ x. x.1)) (subst (λ m. slice_get m.entries place ≡ Some entry) c.self.view_is at) },
    )
