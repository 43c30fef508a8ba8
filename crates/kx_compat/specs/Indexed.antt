-- How interpretations are found by keysym.
use Rattle.std.specs.Prelude.{◌≡◌, ℕ, nat_eq, Bool, true, false, List, [], filter, map, Option}
use Rattle.std.specs.List.{range_with_len}
use Rattle.std.specs.Map.{lookup}
use Rattle.std.specs.Option.{option_map_or}
use Rattle.kx_compat.specs.Choosing.{allows, least}
use Rattle.kx_compat.specs.Interpretations.{Interpretation}
use Rattle.kx_compat.specs.declared.interpretation_match.WantedKeysym.{WantedKeysym}
use Rattle.kx_compat.specs.declared.interpretation_match.WantedKeysym.TheVariants.{Any, Named}

abbrev pub names_keysym : ℕ → WantedKeysym → Bool
names_keysym keysym Any = false
names_keysym keysym (Named wanted) = nat_eq wanted keysym

abbrev pub wants_any : WantedKeysym → Bool
wants_any Any = true
wants_any (Named wanted) = false

abbrev pub is_named : ℕ → Interpretation → Bool
is_named keysym i = names_keysym keysym i.interpretation_match.keysym

abbrev pub is_for_any : Interpretation → Bool
is_for_any i = wants_any i.interpretation_match.keysym

module _ {V : Type 0} (items : V → List Interpretation) (named : List (ℕ × V)) where
  abbrev pub bucket_in : ℕ → List Interpretation
  bucket_in keysym = option_map_or items (lookup (nat_eq keysym) named) []

  -- those of a keysym, and those of any, each in their order
  pub record IsIndexed (any all : List Interpretation) : Type 0 where
    pub named_are : (keysym : ℕ) → bucket_in keysym ≡ filter (is_named keysym) all
    pub any_are : any ≡ filter is_for_any all

-- for each modifier map, a mask, the one that is chosen of interpretations that are all for the keysym
abbrev pub AreChoices : List Interpretation → Bool → List (Option Interpretation) → Type 0
AreChoices is first choices = choices ≡ map (λ modmap. least (filter (allows first modmap) is)) (range_with_len 0 256)
