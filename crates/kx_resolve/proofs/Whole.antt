-- What is built key by key is what keys resolve to.
use Rattle.std.proofs.Common.{ℕ, zero, suc, ◌+◌, ◌≡◌, ◌≤◌, All, List, [], Option, None, Some, length, map, true, ap, ◌∙◌, subst, sym, arith, eq-or-lt_of_le, inl, inr}
use Rattle.std.specs.List.{list_any}
use Rattle.std.specs.Str.{bytes_eq}
use Rattle.std.proofs.lemmas.List.{length-append}
use Rattle.kx_builder.specs.Agreement.{ShowsSame}
use Rattle.kx_builder.specs.Resolved.{Resolved}
use Rattle.kx_keys.specs.Selecting.{RealSet}
use Rattle.kx_resolve.proofs.Steps.{resolved_is}
use Rattle.kx_resolve.proofs.Typed.{found_holds}
use Rattle.kx_keys.specs.Bounds.{BoundsBelow, KeepsBounds, TypeHolds}
use Rattle.kx_keys.specs.Keys.{Keyed, key_if_named, keys_below, resolved_of, type_of, types_used}
use Rattle.kx_tables.specs.Keymap.{Keymap}
use Rattle.kx_keys.specs.Typing.{Typing}

pub same_trans : (a b c : Keymap) → ShowsSame a b → ShowsSame b c → ShowsSame a c
same_trans a b c one two = record {
  groups = one.groups ∙ two.groups;
  known = λ code. one.known code ∙ two.known code;
  shown = λ code group mods. one.shown code group mods ∙ two.shown code group mods;
  indicator_maps = one.indicator_maps ∙ two.indicator_maps;
}

module _ (typing : Typing) (used : List (List ℕ)) (keyed : Keyed) where
  one_at_most : (n : ℕ) (o : Option (List ℕ)) → length (key_if_named typing used (keyed.level_actions n) (keyed.key n) n o (keyed.modmap n)) ≤ 1
  one_at_most n None = omega arith
  one_at_most n (Some of_key) = omega arith

  pub below_few : (n : ℕ) → length (keys_below typing used keyed n) ≤ n
  unfolding keys_below
  below_few zero = omega arith
  below_few (suc n) = omega (arith, below_few n, one_at_most n (keyed.name n), length-append (keys_below typing used keyed n) (key_if_named typing used (keyed.level_actions n) (keyed.key n) n (keyed.name n) (keyed.modmap n)))

module _ (typing : Typing) (keyed : Keyed) where
  pub bounds_next : (n : ℕ) → BoundsBelow typing keyed n → ((of_key : List ℕ) → keyed.name n ≡ Some of_key → KeepsBounds typing of_key (keyed.modmap n) (keyed.level_actions n) (keyed.key n)) → BoundsBelow typing keyed (n + 1)
  bounds_next n below keeps = λ code less of_key is.
      let upto : code ≤ n = omega (arith, less) in
      elim (eq-or-lt_of_le upto) [
        | inl same ↦ subst (λ c. KeepsBounds typing of_key (keyed.modmap c) (keyed.level_actions c) (keyed.key c)) (sym same) (keeps of_key (ap keyed.name (sym same) ∙ is))
        | inr before ↦ below code before of_key is
      ]

module _ (real : ℕ → RealSet) (typing : Typing) (used : List (List ℕ)) (keyed : Keyed) (same : used ≡ types_used typing keyed.name keyed.key) where
  pub tree_whole : (old r : Resolved) → old ≡ record { types = map (type_of real typing) used; keys = [] } → r ≡ record old { keys = keys_below typing used keyed 4096 } → r ≡ resolved_of real typing keyed
  tree_whole old r is more =
      more
      ∙ (λ i. record { types = (is i).types; keys = keys_below typing used keyed 4096 })
      ∙ (λ i. record { types = map (type_of real typing) (same i); keys = keys_below typing (same i) keyed 4096 })
      ∙ resolved_is real typing keyed

  pub each_holds : All (TypeHolds real typing) used → (of_name : List ℕ) → list_any (bytes_eq of_name) (types_used typing keyed.name keyed.key) ≡ true → TypeHolds real typing of_name
  each_holds hold of_name there = found_holds (TypeHolds real typing) (types_used typing keyed.name keyed.key) of_name (subst (All (TypeHolds real typing)) same hold) there
