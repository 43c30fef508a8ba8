use Rattle.std.proofs.Common.{sym, ap, subst, ◌∙◌}
use Rattle.std.specs.BTreeMap.{is_at}
use Rattle.std.specs.List.{IsDistinct}
use Rattle.std.specs.Map.{keys_of, lookup}
use Rattle.std.specs.Option.{option_or}
use Rattle.kx_ordered.specs.KeyPlaces.{place_in}
use Rattle.kx_ordered.specs.Numbers.{numbered}
use Rattle.kx_ordered.proofs.Numbers.{nothing}
use Rattle.kx_ordered.proofs.KeyPlaces.{distinct_none}
use Rattle.kx_ordered.proofs.ordered.Ordered.new.Goals as goal

pub invariant_of-result : goal.invariant_of-result
invariant_of-result g c =
    let none = sym c.new.ensures.items in
    let eq = g.K.PartialEq.eq in (
      λ k. let test = is_at (g.K.Ord.cmp k) in ap (λ ns. option_or (numbered ns (g.K.TableKey.number k)) (lookup test c.new-3.result.entries)) c.new-2.ensures.items ∙ ap (λ o. option_or o (lookup test c.new-3.result.entries)) (nothing (g.K.TableKey.number k)) ∙ ap (lookup test) c.new-3.ensures.empty ∙ ap (place_in test) none,
      λ compare respects unnumbered. let test = is_at compare in ap (lookup test) c.new-3.ensures.empty ∙ ap (place_in test) none,
      subst (λ es. IsDistinct eq (keys_of es)) none (distinct_none eq),
    )
