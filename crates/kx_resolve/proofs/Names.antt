-- What holds of the key of a code, by what was found for the code.
use Rattle.std.proofs.Common.{ℕ, ◌≡◌, ◌<◌, ◌^◌, ◌++◌, List, Option, Some, subst, ◌∙◌}
use Rattle.std.proofs.lemmas.Option.{same_Some}
use Rattle.kx_basics.specs.KeyNames.{IsKeyName}
use Rattle.kx_builder.specs.Pushes.{with_key}
use Rattle.kx_builder.specs.Resolved.{Resolved}
use Rattle.kx_keys.specs.Bounds.{GroupsAreValid, KeepsBounds}
use Rattle.kx_keys.specs.Keys.{key_if_named, key_of}
use Rattle.kx_keys.specs.LevelActions.{level_actions_of}
use Rattle.kx_compat.specs.Interpretations.{Interpretation}
use Rattle.kx_keys.specs.Selecting.{RealSet}
use Rattle.kx_mods.specs.Mods.{mask}
use Rattle.kx_mods.specs.declared.mods.Mods.{Mods}
use Rattle.kx_symbols.specs.Keys.{KeyContent}
use Rattle.kx_tables.specs.Sound.{RangeHolds}
use Rattle.kx_keys.specs.Given.{given_in}
use Rattle.kx_keys.specs.Typing.{Typing}
use Rattle.kx_keys.specs.GroupTypes.{group_count}

module _ (typing : Typing) (real : ℕ → RealSet) (interpretations : List Interpretation) (modmap : Mods) (fits : mask modmap < 2 ^ 8) where
  abbrev Keeps : List ℕ → Option KeyContent → Type 0
  Keeps name key = KeepsBounds typing name modmap (level_actions_of real interpretations modmap (given_in key)) (given_in key)

  pub bounds_of : (of_code : Option (List ℕ)) (key found : Option KeyContent) (of_key : List ℕ) → Some of_key ≡ of_code → found ≡ key → IsKeyName of_key → RangeHolds (given_in found).range → GroupsAreValid typing (level_actions_of real interpretations modmap (given_in found)) (given_in found) (group_count (given_in found)) → (name : List ℕ) → of_code ≡ Some name → KeepsBounds typing name modmap (level_actions_of real interpretations modmap (given_in key)) (given_in key)
  bounds_of of_code key found of_key named at is range cells name also =
      subst (λ n. Keeps n key) (same_Some of_key name (named ∙ also))
      (subst (Keeps of_key) at (record { short = is.short; bytes = is.visible; mapped = fits; range = range; cells = cells }))

module _ (typing : Typing) (used : List (List ℕ)) (real : ℕ → RealSet) (interpretations : List Interpretation) where
  pub pushed_of : (old new : Resolved) (code : ℕ) (of_code : Option (List ℕ)) (key found : Option KeyContent) (of_key : List ℕ) (modmap mapped : Mods) → Some of_key ≡ of_code → found ≡ key → mapped ≡ modmap → new ≡ with_key old (key_of typing used (level_actions_of real interpretations mapped (given_in found)) (given_in found) code of_key mapped) → new ≡ record old { keys = old.keys ++ key_if_named typing used (level_actions_of real interpretations modmap (given_in key)) (given_in key) code of_code modmap }
  pushed_of old new code of_code key found of_key modmap mapped named at same pushed =
      pushed ∙ (λ i. record old { keys = old.keys ++ key_if_named typing used (level_actions_of real interpretations (same i) (given_in (at i))) (given_in (at i)) code (named i) (same i) })
