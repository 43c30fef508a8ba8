-- Pairs by name and by keycode, and the lists of pairs that they stand for.
use Rattle.std.specs.Prelude.{◌≡◌, ℕ, Bool, true, not, ◌&&◌, List, [], ◌∷◌}
use Rattle.std.specs.List.{list_any}
use Rattle.kx_codes.specs.Pairs.{Pair, shares, code_in, name_in}

-- all that shows of them is what `code_in` gives of the first and `name_in` of the second
pub record Indexed : Type 0 where
  pub by_name : List Pair
  pub by_code : List Pair

-- pairs that are looked up by name and by code
abbrev pub both : List Pair → Indexed
both ps = record { by_name = ps; by_code = ps }

-- no two share a name or a code
abbrev pub distinct : List Pair → Bool
distinct [] = true
distinct (p ∷ ps) = not (list_any (shares p) ps) && distinct ps

-- each name has the code that it has in a list of distinct pairs, and each code the name
pub record Stands (x : Indexed) (ps : List Pair) : Type 0 where
  pub distinct_are : distinct ps ≡ true
  pub codes_are : (name : List ℕ) → code_in x.by_name name ≡ code_in ps name
  pub names_are : (code : ℕ) → name_in x.by_code code ≡ name_in ps code
