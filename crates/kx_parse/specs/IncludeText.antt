-- The text of an include, as libxkbcommon's format has it: parts joined by + and |, each the name of a file, then a map's
-- in parentheses where one is named, then a colon and a group where the map is moved to one.
use Rattle.std.specs.Prelude.{ℕ, Bool, not, ◌==◌, ◌&&◌, nat_le, List, [], ◌∷◌, length, take, drop, Option, None, Some, codes, if◌then◌else◌}
use Rattle.std.specs.Char.{is_ascii_digit}
use Rattle.std.specs.List.{list_all, list_any, prefix_len}
use Rattle.std.specs.Option.{option_and_then, option_map}
use Rattle.std.specs.Str.Parse.{digits_value}
use Rattle.kx_basics.specs.declared.limits.TheConstants.{MOST_GROUPS}
use Rattle.kx_tree.specs.declared.tree.Mode.{Mode}
use Rattle.kx_tree.specs.declared.tree.Mode.TheVariants.{Augment, Override}

-- one part: how it joins what stands before it, the file, the map, and the group that the map's first group becomes
pub record Part : Type 0 where
  pub mode : Mode
  pub file : List ℕ
  pub map : Option (List ℕ)
  pub group : Option ℕ

-- a name has any bytes but + | ( ) : % ^
abbrev pub is_name_byte : ℕ → Bool
is_name_byte b = not (list_any (λ m. m == b) (codes "+|():%^"))

abbrev pub name_len : List ℕ → ℕ
name_len = prefix_len is_name_byte

-- one digit or more
abbrev pub is_number : List ℕ → Bool
is_number bs = nat_le 1 (length bs) && list_all is_ascii_digit bs

-- a group of a key, counted from 1, in decimal; leading zeros don't count
unfoldable pub group_number : List ℕ → Option ℕ
group_number bs = if is_number bs then (if nat_le 1 (digits_value 10 bs) && nat_le (digits_value 10 bs) MOST_GROUPS then Some (digits_value 10 bs) else None) else None

-- what may stand after the names of a file and a map: nothing, or a colon and a group
unfoldable pub ending : Mode → List ℕ → Option (List ℕ) → List ℕ → Option Part
ending mode file map [] = Some (record { mode = mode; file = file; map = map; group = None })
ending mode file map (b ∷ bs) = if b == 58 then option_map (λ n. record { mode = mode; file = file; map = map; group = Some n }) (group_number bs) else None

-- a map's name and its closing parenthesis, and what stands after
unfoldable pub closing : Mode → List ℕ → List ℕ → List ℕ → Option Part
closing mode file map [] = None
closing mode file map (b ∷ bs) = if (b == 41) && nat_le 1 (length map) then ending mode file (Some map) bs else None

-- what stands after the name of a file
unfoldable pub behind_file : Mode → List ℕ → List ℕ → Option Part
behind_file mode file [] = ending mode file None []
behind_file mode file (b ∷ bs) = if b == 40 then closing mode file (take (name_len bs) bs) (drop (name_len bs) bs) else ending mode file None (b ∷ bs)

unfoldable pub part_of : Mode → List ℕ → Option Part
part_of mode bs = if nat_le 1 (name_len bs) then behind_file mode (take (name_len bs) bs) (drop (name_len bs) bs) else None

-- + joins by override, | by augment
abbrev pub join_of : ℕ → Option Mode
join_of b = if b == 43 then Some Override else (if b == 124 then Some Augment else None)

abbrev pub split_by : Option Mode → ℕ → List ℕ × List (Mode × List ℕ) → List ℕ × List (Mode × List ℕ)
split_by None b rest = (b ∷ rest.0, rest.1)
split_by (Some mode) b rest = ([], (mode, rest.0) ∷ rest.1)

-- the text of the first part, and those after it, each with its join
abbrev pub split : List ℕ → List ℕ × List (Mode × List ℕ)
split [] = ([], [])
split (b ∷ bs) = split_by (join_of b) b (split bs)

abbrev pub all_parts : List (Mode × List ℕ) → Option (List Part)
all_parts [] = Some []
all_parts (t ∷ ts) = option_and_then (λ p. option_map (λ ps. p ∷ ps) (all_parts ts)) (part_of t.0 t.1)

-- the parts of an include's text, the first of which is joined by override; none where it names no files
abbrev pub parts_of : List ℕ → Option (List Part)
parts_of text = all_parts ((Override, (split text).0) ∷ (split text).1)

-- ---- Under names, for clauses and proofs

abbrev pub joined : Mode → List ℕ × List (Mode × List ℕ) → List (Mode × List ℕ)
joined mode texts = (mode, texts.0) ∷ texts.1
