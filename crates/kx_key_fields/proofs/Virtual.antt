-- Masks of virtual modifiers, term by term.
use Rattle.std.proofs.Common.{◌≡◌, ℕ, ◌+◌, ◌<◌, List, [], ◌∷◌, length, drop, get_or, fold, None, Some, refl, sym, ap, ◌∙◌}
use Rattle.std.specs.Option.{option_map}
use Rattle.kx_virtual_mods.specs.Masks.{joined}
use Rattle.kx_tree.specs.declared.tree.Operation.{Operation}
use Rattle.kx_key_fields.specs.VirtualMasks.{term_virtual, with_term}
use Rattle.kx_merge.proofs.Going.{drop_next}

module _ (names : List (List ℕ)) where
  pub none_stays : (os : List Operation) → fold (with_term names) None os ≡ None
  none_stays [] = refl
  none_stays (o ∷ os) = none_stays os

  pub set_goes : (before set : ℕ) (os : List Operation) (i : ℕ) (o : Operation) → i < length os → o ≡ get_or os i o → fold (with_term names) (Some before) os ≡ fold (with_term names) (Some set) (drop i os)
      → fold (with_term names) (Some before) os ≡ fold (with_term names) (option_map (joined o.sign set) (term_virtual names o.term)) (drop (i + 1) os)
  set_goes before set os i o within is left = left ∙ ap (fold (with_term names) (Some set)) (drop_next os i o within is)

  -- a term that is no virtual name leaves nothing
  pub set_ends : (before set : ℕ) (os : List Operation) (i : ℕ) (o : Operation) → i < length os → o ≡ get_or os i o → fold (with_term names) (Some before) os ≡ fold (with_term names) (Some set) (drop i os)
      → None ≡ term_virtual names o.term → None ≡ fold (with_term names) (Some before) os
  set_ends before set os i o within is left none =
      sym (set_goes before set os i o within is left ∙ ap (λ t. fold (with_term names) (option_map (joined o.sign set) t) (drop (i + 1) os)) (sym none) ∙ none_stays (drop (i + 1) os))
