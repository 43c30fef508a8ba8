-- Pairs of a name and a keycode, and those that a keycodes body leaves at its end.
use Rattle.std.specs.Prelude.{◌≡◌, ◌↔◌, ℕ, Bool, not, ◌==◌, ◌||◌, List, [], ◌∷◌, ◌++◌, Option, None, Some, if◌then◌else◌, filter, fold}
use Rattle.std.specs.List.{list_any}
use Rattle.std.specs.Str.{bytes_eq}
use Rattle.kx_tree.specs.declared.tree.Mode.{Mode}
use Rattle.kx_tree.specs.declared.tree.Mode.TheVariants.{Augment, Override, Replace}
use Rattle.kx_tree.specs.declared.tree.Statement.{Statement}
use Rattle.kx_tree.specs.declared.tree.Statement.TheVariants.{Keycode}
use Rattle.kx_include.specs.Expansion.{Body, End, Begin, Own, Inc}

pub record Pair : Type 0 where
  pub name : List ℕ
  pub code : ℕ

abbrev pub shares : Pair → Pair → Bool
shares p q = bytes_eq p.name q.name || (p.code == q.code)

abbrev pub without : Pair → List Pair → List Pair
without p ps = filter (λ q. not (shares p q)) ps

-- a pair takes the place of all that share its name or its code; under augment it is dropped where one is left
abbrev pub taken : Mode → List Pair → Pair → List Pair
taken Augment ps p = if list_any (shares p) ps then ps else ps ++ p ∷ []
taken Override ps p = without p ps ++ p ∷ []
taken Replace ps p = without p ps ++ p ∷ []

-- what a statement leaves of pairs
abbrev pub said_pairs : Mode → Statement → List Pair → List Pair
said_pairs mode (Keycode name code) ps = taken mode ps (record { name = name.bytes; code = code.value })
said_pairs mode _ ps = ps

-- what a body leaves of pairs; an include offers each pair of its body, in order
abbrev pub pairs_from : List Pair → Body → List Pair
pairs_from ps End = ps
pairs_from ps (Begin rest) = pairs_from ps rest
pairs_from ps (Own place stated rest) = pairs_from (said_pairs stated.mode stated.statement ps) rest
pairs_from ps (Inc mode group body rest) = pairs_from (fold (taken mode) ps (pairs_from [] body)) rest

abbrev pub pairs_of : Body → List Pair
pairs_of body = pairs_from [] body

abbrev pub code_in : List Pair → List ℕ → Option ℕ
code_in [] name = None
code_in (p ∷ ps) name = if bytes_eq name p.name then Some p.code else code_in ps name

abbrev pub name_in : List Pair → ℕ → Option (List ℕ)
name_in [] code = None
name_in (p ∷ ps) code = if code == p.code then Some p.name else name_in ps code

-- pairs by name and pairs by code agree: a name has a code exactly where the code has the name
abbrev pub Agree : List Pair → List Pair → Type 0
Agree by_name by_code = (name : List ℕ) (code : ℕ) → (code_in by_name name ≡ Some code) ↔ (name_in by_code code ≡ Some name)

-- ---- Under names, for clauses and proofs

abbrev pub all_taken : Mode → List Pair → List Pair → List Pair
all_taken mode ps qs = fold (taken mode) ps qs
