use Rattle.std.proofs.Common.{◌≡◌, ◌∙◌, ℕ, None, sym, ap, subst}
use Rattle.std.specs.List.{list_any}
use Rattle.kx_key_lists.specs.Lists.{has_level}
use Rattle.kx_key_lists.specs.Records.{HasValue, KeyLists, value_in}
use Rattle.kx_key_lists.proofs.Values.{key_none, key_some}
use Rattle.kx_key_lists.proofs.key_lists.GroupLists.has_value.Goals as goal

pub returns-clause-some : goal.returns-clause-some
returns-clause-some t c = λ has.
    let inside : KeyLists t.row.X.Denot = record { from = c.self.inside.from; lists = c.self.inside.lists.items } in
    subst HasValue c.self.view_is (key_some inside (sym (c.has_level.ensures ∙ ap (list_any has_level) c.as_slice.ensures.value) ∙ has))

pub returns-clause-none : goal.returns-clause-none
returns-clause-none t c = λ has.
    let inside : KeyLists t.row.X.Denot = record { from = c.self.inside.from; lists = c.self.inside.lists.items } in
    subst (λ key. (g l : ℕ) → value_in key g l ≡ None) c.self.view_is (key_none inside (sym (c.has_level.ensures ∙ ap (list_any has_level) c.as_slice.ensures.value) ∙ has))
