-- What was built is whole and valid, and its keymap is the one that is meant.
use Rattle.std.proofs.Common.{ℕ, ◌≡◌, ◌≤◌, All, List, length, sym, subst}
use Rattle.kx_builder.specs.Agreement.{ShowsSame}
use Rattle.kx_builder.specs.Valid.{IsValid}
use Rattle.kx_builder.specs.IndicatorMaps.{ResolvedIndicator, keymap_with}
use Rattle.kx_builder.specs.Resolved.{Resolved, keymap_of_resolved}
use Rattle.kx_builder.specs.Whole.{IsWhole}
use Rattle.kx_keys.specs.Selecting.{RealSet}
use Rattle.kx_resolve.proofs.Agree.{keymaps_agree}
use Rattle.kx_resolve.proofs.Bounded.{resolved_valid, resolved_whole}
use Rattle.kx_resolve.proofs.IndicatorMaps.{same_with}
use Rattle.kx_resolve.proofs.Whole.{each_holds, same_trans}
use Rattle.kx_keys.specs.Bounds.{BoundsBelow, OneCode, TypeHolds}
use Rattle.kx_keys.specs.Keys.{Keyed, resolved_of, types_used}
use Rattle.kx_resolve.specs.Shown.{keymap_meant}
use Rattle.kx_tables.specs.Keymap.{Keymap}
use Rattle.kx_keys.specs.Typing.{Typing}

module _ (real : ℕ → RealSet) (typing : Typing) (keyed : Keyed) (used : List (List ℕ)) (same : used ≡ types_used typing keyed.name keyed.key) (few : length used ≤ 4097) (hold : All (TypeHolds real typing) used) (bounds : BoundsBelow typing keyed 4096) (built : Resolved) (is : built ≡ resolved_of real typing keyed) where
  all_few : length (types_used typing keyed.name keyed.key) ≤ 4097
  all_few = subst (λ (u : List (List ℕ)). length u ≤ 4097) same few

  all_hold : All (TypeHolds real typing) (types_used typing keyed.name keyed.key)
  all_hold = subst (All (TypeHolds real typing)) same hold

  pub built_whole : IsWhole built
  built_whole = subst IsWhole (sym is) (resolved_whole real typing keyed all_few all_hold bounds)

  pub built_valid : OneCode keyed.name → IsValid built
  built_valid one = subst IsValid (sym is) (resolved_valid real typing keyed all_few all_hold bounds one)

  pub built_agrees : (made : Keymap) (ds : List ResolvedIndicator) → ShowsSame made (keymap_with (keymap_of_resolved built) ds) → ShowsSame made (keymap_with (keymap_meant real typing keyed) ds)
  built_agrees made ds shows =
      same_trans made (keymap_with (keymap_of_resolved (resolved_of real typing keyed)) ds) (keymap_with (keymap_meant real typing keyed) ds)
      (subst (λ r. ShowsSame made (keymap_with (keymap_of_resolved r) ds)) is shows)
      (same_with (keymap_of_resolved (resolved_of real typing keyed)) (keymap_meant real typing keyed) ds (keymaps_agree real typing keyed (each_holds real typing used keyed same hold)))
