use Rattle.std.proofs.Common.{◌≡◌, Some, None, sym, ap, ◌∙◌}
use Rattle.std.specs.BTreeMap as tree
use Rattle.std.specs.List.{position}
use Rattle.std.specs.Option.{option_or}
use Rattle.indexmap.specs.IndexMap.{keys}
use Rattle.kx_ordered.specs.Numbers.{numbered}
use Rattle.kx_ordered.proofs.KeyPlaces.{by_order, place_is}
use Rattle.kx_ordered.proofs.ordered.Ordered.place.Goals as goal

pub returns-in-Some-clause-value : goal.returns-in-Some-clause-value
returns-in-Some-clause-value g c =
    let k = c.args.key.now in
    let es = c.self.inside.entries.items in
    let looked = tree.get_by (g.K.Ord.cmp k) c.self.inside.places in
    let at : Some c.in-Some.place ≡ numbered c.self.inside.numbers.items (g.K.TableKey.number k) = sym c.in-Some.is ∙ c.place_of.ensures ∙ ap (λ ns. numbered ns c.number.result) c.deref.ensures.value ∙ ap (numbered c.self.inside.numbers.items) c.number.ensures in
    ap (λ o. option_or o looked) at ∙ c.self.invariant.0 k ∙ by_order g.K.PartialEq.eq g.K.Ord.cmp g.met.K.Ord.matches_eq k es ∙ sym (place_is (g.K.PartialEq.eq k) es) ∙ ap (λ m. position (g.K.PartialEq.eq k) (keys m)) c.self.view_is

pub returns-in-None-clause-value : goal.returns-in-None-clause-value
returns-in-None-clause-value g c =
    let k = c.args.key.now in
    let es = c.self.inside.entries.items in
    let looked = tree.get_by (g.K.Ord.cmp k) c.self.inside.places in
    let at : None ≡ numbered c.self.inside.numbers.items (g.K.TableKey.number k) = sym c.in-None.is ∙ c.place_of.ensures ∙ ap (λ ns. numbered ns c.number.result) c.deref.ensures.value ∙ ap (numbered c.self.inside.numbers.items) c.number.ensures in
    c.copied.ensures ∙ c.get.ensures.value ∙ ap (λ o. option_or o looked) at ∙ c.self.invariant.0 k ∙ by_order g.K.PartialEq.eq g.K.Ord.cmp g.met.K.Ord.matches_eq k es ∙ sym (place_is (g.K.PartialEq.eq k) es) ∙ ap (λ m. position (g.K.PartialEq.eq k) (keys m)) c.self.view_is
