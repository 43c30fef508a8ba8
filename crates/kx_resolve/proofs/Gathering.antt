-- What is gathered of the codes with names is all that there is.
use Rattle.std.proofs.Common.{◌≡◌, ℕ, ◌<◌, arith, nat_lt, Bool, true, false, refl, List, ◌++◌, append-nil, Option, Some, ap, sym, ◌∙◌}
use Rattle.std.proofs.lemmas.Bool.Decides.{nat_tests}
use Rattle.std.proofs.lemmas.Option.{none-some}
use Rattle.kx_codes.proofs.Ends.{all_gathered}
use Rattle.kx_codes.specs.Codes.{IsEnd}
use Rattle.kx_resolve.proofs.Steps.{below_next, used_next}
use Rattle.kx_keys.specs.Bounds.{BoundsBelow, KeepsBounds}
use Rattle.kx_keys.specs.Keys.{Keyed, key_if_named, keys_below, type_names_below, type_names_if}
use Rattle.kx_keys.specs.Typing.{Typing}
use Rattle.kx_keys.specs.Given.{KeyGiven}

pub used_whole : (typing : Typing) (name : ℕ → Option (List ℕ)) (key : ℕ → KeyGiven) (end : ℕ) → IsEnd end name → type_names_below typing name key 4096 ≡ type_names_below typing name key end
used_whole typing name key end is = all_gathered (type_names_below typing name key) end name is (λ n none. used_next typing name key n ∙ ap (λ o. type_names_below typing name key n ++ type_names_if typing o (key n)) none ∙ append-nil (type_names_below typing name key n))

pub keys_whole : (typing : Typing) (used : List (List ℕ)) (keyed : Keyed) (end : ℕ) → IsEnd end keyed.name → keys_below typing used keyed 4096 ≡ keys_below typing used keyed end
keys_whole typing used keyed end is = all_gathered (keys_below typing used keyed) end keyed.name is (λ n none. below_next typing used keyed n ∙ ap (λ o. keys_below typing used keyed n ++ key_if_named typing used (keyed.level_actions n) (keyed.key n) n o (keyed.modmap n)) none ∙ append-nil (keys_below typing used keyed n))

pub bounds_whole : (typing : Typing) (keyed : Keyed) (end : ℕ) → IsEnd end keyed.name → BoundsBelow typing keyed end → BoundsBelow typing keyed 4096
bounds_whole typing keyed end is below = λ code few of_key named. by code few of_key named (nat_lt code end) refl
  where
    by : (code : ℕ) → code < 4096 → (of_key : List ℕ) → keyed.name code ≡ Some of_key → (b : Bool) → nat_lt code end ≡ b → KeepsBounds typing of_key (keyed.modmap code) (keyed.level_actions code) (keyed.key code)
    by code few of_key named true h = below code (grind (arith, nat_tests, h)) of_key named
    by code few of_key named false h = absurd (none-some of_key (sym (is.unnamed code (grind (arith, nat_tests, h)) few) ∙ named))
