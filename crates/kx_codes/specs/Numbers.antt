-- Names that are numbered, and pairs of a number and a keycode that stand for pairs of a name and a keycode.
use Rattle.std.specs.Prelude.{◌≡◌, ℕ, List, [], ◌∷◌, Some, map, position, slice_get, ⊤}
use Rattle.std.specs.Option.{option_and_then}
use Rattle.std.specs.Str.{bytes_eq}
use Rattle.kx_codes.specs.Indexed.{Indexed, Stands}
use Rattle.kx_codes.specs.Pairs.{Pair, code_in}

-- no name has two numbers
abbrev pub IsOnce : List (List ℕ) → Type 0
IsOnce names = (n m : ℕ) (name : List ℕ) → slice_get names n ≡ Some name → slice_get names m ≡ Some name → n ≡ m

-- names keep their numbers where more are numbered
pub record Grows (old new : List (List ℕ)) : Type 0 where
  pub once : IsOnce new
  pub kept : (n : ℕ) (name : List ℕ) → slice_get old n ≡ Some name → slice_get new n ≡ Some name

-- a number, in the place of a name
abbrev pub number : ℕ → List ℕ
number n = n ∷ []

-- entries of a map from keycodes to numbers of names
abbrev pub with_numbers : List (ℕ × ℕ) → List (ℕ × List ℕ)
with_numbers es = map {A = ℕ × ℕ} {B = ℕ × List ℕ} (λ e. (e.0, number e.1)) es

-- a pair of a number stands for the pair of its name
pub record IsNumbered (names : List (List ℕ)) (q p : Pair) : Type 0 where
  pub place : ℕ
  pub number_is : q.name ≡ number place
  pub name_is : slice_get names place ≡ Some p.name
  pub code_is : q.code ≡ p.code

abbrev pub AreNumbered : List (List ℕ) → List Pair → List Pair → Type 0
AreNumbered names [] [] = ⊤
AreNumbered names [] (p ∷ ps) = ⊥
AreNumbered names (q ∷ qs) [] = ⊥
AreNumbered names (q ∷ qs) (p ∷ ps) = IsNumbered names q p × AreNumbered names qs ps

-- what is gathered by numbers stands for pairs of names
pub record StandsIn (names : List (List ℕ)) (x : Indexed) (ps : List Pair) : Type 0 where
  pub numbered : List Pair
  pub stands : Stands x numbered
  pub are : AreNumbered names numbered ps

-- the code of a name is that of its number
abbrev pub FindsCodes : List (List ℕ) → List Pair → List Pair → Type 0
FindsCodes names numbered pairs = (name : List ℕ) → option_and_then (λ n. code_in numbered (number n)) (position (bytes_eq name) names) ≡ code_in pairs name
