-- How the lines of a printed text are put together.
use Rattle.std.specs.Prelude.{ℕ, ◌+◌, false, ◌==◌, List, [], ◌∷◌, ◌++◌, codes, if◌then◌else◌}
use Rattle.std.specs.List.{flat_map}
use Rattle.ks_core.specs.Names.{hex_digits}
use Rattle.ks_core.specs.PrintedName.{printed_name}

-- pieces with a mark between them
abbrev pub joined : List ℕ → List (List ℕ) → List ℕ
joined mark [] = []
joined mark (piece ∷ pieces) = piece ++ flat_map (λ other. mark ++ other) pieces

-- what rows give in turn, each with its number; the first has the number n
abbrev pub numbered : {X Y : Type 0} → (ℕ → X → List Y) → ℕ → List X → List Y
numbered f n [] = []
numbered f n (x ∷ xs) = f n x ++ numbered f (n + 1) xs

-- a head, and lines between braces
abbrev pub block : List ℕ → List ℕ → List ℕ
block head lines = head ++ (codes " {\n" ++ (lines ++ codes "};\n"))

-- the line `word= value;`
abbrev pub setting : List ℕ → List ℕ → List ℕ
setting word value = word ++ (codes "= " ++ (value ++ codes ";\n"))

-- the line `word[index]= value;`
abbrev pub setting_at : List ℕ → List ℕ → List ℕ → List ℕ
setting_at word index value = word ++ (codes "[" ++ (index ++ (codes "]= " ++ (value ++ codes ";\n"))))

-- the field `word[index]= value` of a key
abbrev pub field_at : List ℕ → List ℕ → List ℕ → List ℕ
field_at word index value = word ++ (codes "[" ++ (index ++ (codes "]= " ++ value)))

-- the elements of a field, as `[ a, A ]`
abbrev pub elements : List (List ℕ) → List ℕ
elements pieces = codes "[ " ++ (joined (codes ", ") pieces ++ codes " ]")

-- a name between quotes
abbrev pub quoted : List ℕ → List ℕ
quoted name = codes "\"" ++ (printed_name name ++ codes "\"")

-- a number in hexadecimal, as `0x0` and `0xfe`
abbrev pub hexadecimal : ℕ → List ℕ
hexadecimal n = codes "0x" ++ (if n == 0 then codes "0" else hex_digits false n)
