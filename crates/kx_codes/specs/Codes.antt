-- The keycodes of names and the names of keycodes.
use Rattle.std.specs.Prelude.{◌≡◌, ◌≤◌, ◌<◌, ◌+◌, ℕ, List, map, Option, None, IsSome}
use Rattle.std.specs.Option.{option_and_then, option_or}
use Rattle.kx_basics.specs.declared.limits.TheConstants.{CODES}
use Rattle.kx_include.specs.Expansion.{Body}
use Rattle.kx_codes.specs.Aliases.{Aliases, target_in, target_of}
use Rattle.kx_codes.specs.Pairs.{Pair, pairs_of, code_in, name_in}

-- pairs by name, pairs by code, and aliases; all that shows of them is what `code_in`, `name_in` and `target_in` give
pub record Codes : Type 0 where
  pub by_name : List Pair
  pub by_code : List Pair
  pub aliases : Aliases

-- the entries of maps as pairs
abbrev pub named : {K : Type 0} → (K → List ℕ) → List (K × ℕ) → List Pair
named {K} bytes es = map {A = K × ℕ} {B = Pair} (λ e. record { name = bytes e.0; code = e.1 }) es

abbrev pub coded : List (ℕ × List ℕ) → List Pair
coded es = map {A = ℕ × List ℕ} {B = Pair} (λ e. record { name = e.1; code = e.0 }) es

abbrev pub paired : Codes → List ℕ → Option ℕ
paired c name = code_in c.by_name name

-- the code of a name's pair, else of its target's, one step
abbrev pub code_of : Codes → List ℕ → Option ℕ
code_of c name = option_or (paired c name) (option_and_then (paired c) (target_in c.aliases name))

-- the name of a code's pair
abbrev pub name_of : Codes → ℕ → Option (List ℕ)
name_of c code = name_in c.by_code code

-- where the codes with names end: after the greatest, or at 0 where no code has a name
pub record IsEnd (end : ℕ) (name : ℕ → Option (List ℕ)) : Type 0 where
  pub within : end ≤ CODES
  pub unnamed : (code : ℕ) → end ≤ code → code < CODES → name code ≡ None
  pub greatest : (code : ℕ) → end ≡ code + 1 → IsSome (name code)

-- what codes show of a keycodes body: of each name the code of its pair, of each code the name of its pair, and of each
-- name its target as an alias
pub record CodesShow (c : Codes) (body : Body) : Type 0 where
  pub codes_are : (name : List ℕ) → paired c name ≡ code_in (pairs_of body) name
  pub names_are : (code : ℕ) → name_of c code ≡ name_in (pairs_of body) code
  pub targets_are : (name : List ℕ) → target_in c.aliases name ≡ target_of body name
