-- The interpretation that is chosen for a keysym of a key (the X Keyboard Extension's compatibility map).
use Rattle.std.specs.Prelude.{◌≡◌, ℕ, ◌<◌, ◌≤◌, ◌∷◌, ◌++◌, All, ◌+◌, ◌==◌, ◌&&◌, ◌||◌, not, nat_eq, nat_lt, Bool, true, false, List, fold, Option, None, Some, if◌then◌else◌, filter}
use Rattle.kx_mods.specs.Conditions.{holds}
use Rattle.kx_compat.specs.Interpretations.{Interpretation}
use Rattle.kx_mods.specs.declared.condition.Condition.{Condition}
use Rattle.kx_mods.specs.declared.condition.Condition.TheVariants.{Exactly, AllOf, NoneOf, AnyOf, AnyOfOrNone}
use Rattle.kx_compat.specs.declared.interpretation_match.WantedKeysym.{WantedKeysym}
use Rattle.kx_compat.specs.declared.interpretation_match.WantedKeysym.TheVariants.{Any, Named}

abbrev pub fits : WantedKeysym → ℕ → Bool
fits Any keysym = true
fits (Named wanted) keysym = nat_eq wanted keysym

abbrev pub matches : Bool → ℕ → ℕ → Interpretation → Bool
matches first modmap keysym i = fits i.interpretation_match.keysym keysym && (holds i.interpretation_match.condition i.interpretation_match.mask (if i.first_level_only && not first then 0 else modmap))

abbrev pub condition_rank : Condition → ℕ
condition_rank Exactly = 0
condition_rank AllOf = 1
condition_rank NoneOf = 2
condition_rank AnyOf = 3
condition_rank AnyOfOrNone = 4

-- those of a named keysym come before those of any
abbrev pub keysym_rank : WantedKeysym → ℕ
keysym_rank (Named keysym) = 0
keysym_rank Any = 5

abbrev pub rank : Interpretation → ℕ
rank i = keysym_rank i.interpretation_match.keysym + condition_rank i.interpretation_match.condition

abbrev pub earlier : Option Interpretation → Interpretation → Option Interpretation
earlier None i = Some i
earlier (Some least) i = Some (if nat_lt (rank i) (rank least) then i else least)

-- that of the least rank, and of several the first
abbrev pub least : List Interpretation → Option Interpretation
least is = fold earlier None is

-- of the interpretations in their order, for a keysym at the first level or another of a key with a modifier map
abbrev pub chosen : List Interpretation → ℕ → Bool → ℕ → Option Interpretation
chosen is keysym first modmap = least (filter (matches first modmap keysym) is)

-- that one is for the key and comes first: those that are for it have a greater rank in front of it, and no lesser one after
pub record IsFirst (test : Interpretation → Bool) (is : List Interpretation) (i : Interpretation) : Type 0 where
  pub front : List Interpretation
  pub behind : List Interpretation
  pub stands : is ≡ front ++ i ∷ behind
  pub fits_it : test i ≡ true
  pub in_front : All (λ j. test j ≡ true → rank i < rank j) front
  pub at_back : All (λ j. test j ≡ true → rank i ≤ rank j) behind

-- of interpretations one that comes first, or none where none is for the key
abbrev pub IsFirstOrNone : (Interpretation → Bool) → List Interpretation → Option Interpretation → Type 0
IsFirstOrNone test is None = All (λ i. test i ≡ false) is
IsFirstOrNone test is (Some i) = IsFirst test is i

-- ---- Under names, for clauses and proofs

abbrev pub seen_modmap : (first : Bool) → (modmap : ℕ) → Interpretation → ℕ
seen_modmap first modmap i = if i.first_level_only && not first then 0 else modmap

abbrev pub allows : (first : Bool) → (modmap : ℕ) → Interpretation → Bool
allows first modmap i = holds i.interpretation_match.condition i.interpretation_match.mask (if i.first_level_only && not first then 0 else modmap)
