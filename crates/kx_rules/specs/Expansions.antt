-- What a rule's value adds to a component.
use Rattle.std.specs.Prelude.{ℕ, zero, suc, ◌+◌, ◌-◌, Bool, ◌==◌, ◌&&◌, ◌||◌, nat_le, nat_lt, List, [], ◌∷◌, ◌++◌, length, get_or, take, drop, codes, Option, None, Some, if◌then◌else◌}
use Rattle.std.specs.Option.{option_map, option_and_then}
use Rattle.kx_rules.specs.declared.limits.TheConstants.{GREATEST_INDEX}
use Rattle.kx_rules.specs.Names.{Names}
use Rattle.kx_rule_lines.specs.Pieces.{begins}

-- a digit in brackets, from 1 on, as a place from 0 on
unfoldable pub index_in : List ℕ → Option ℕ
index_in (a ∷ digit ∷ b ∷ []) = if (a == 91 && b == 93) && (nat_le 49 digit && nat_lt digit (49 + GREATEST_INDEX)) then Some (digit - 49) else None
index_in _ = None

-- without an index the one item is meant, with one an item among several
abbrev pub item_at : List (List ℕ) → Option ℕ → List ℕ
item_at items None = if length items == 1 then get_or items 0 [] else []
item_at items (Some place) = if nat_le 2 (length items) then get_or items place [] else []

-- an item, and how many bytes its index takes
abbrev pub indexed : List (List ℕ) → List ℕ → Option (List ℕ × ℕ)
indexed items bs =
    if begins (codes "[") bs then option_map (λ place. (item_at items (Some place), 3)) (index_in (take 3 bs)) else
    Some (item_at items None, 0)

-- what a letter stands for, and how many bytes its index takes
unfoldable pub named : Names → ℕ → List ℕ → Option (List ℕ × ℕ)
named names letter bs =
    if letter == 109 then (if begins (codes "[") bs then None else Some (names.model, 0)) else
    if letter == 108 then indexed names.layouts bs else
    if letter == 118 then indexed names.variants bs else None

-- + | _ and -, which stand before the name, and ( for a pair of parentheses round it
abbrev pub is_joint : ℕ → Bool
is_joint b = (b == 43 || b == 124) || (b == 95 || b == 45)

-- no name is written with nothing round it
abbrev pub enclosed : List ℕ → List ℕ → List ℕ → List ℕ
enclosed front [] back = []
enclosed front (b ∷ bs) back = front ++ (b ∷ bs) ++ back

-- what stands for a letter after % and for what goes with it, and how many bytes both take
abbrev pub lettered : Names → List ℕ → List ℕ → List ℕ → Option (List ℕ × ℕ)
lettered names front back [] = None
lettered names front back (letter ∷ bs) = option_and_then
    (λ (found : List ℕ × ℕ). if begins back (drop found.1 bs) then Some (enclosed front found.0 back, 1 + found.1 + length back) else None)
    (named names letter bs)

-- the same, with a sign before the letter if there is one
unfoldable pub placeholder : Names → List ℕ → Option (List ℕ × ℕ)
placeholder names [] = None
placeholder names (b ∷ bs) =
    if b == 40 then option_map (λ (found : List ℕ × ℕ). (found.0, 1 + found.1)) (lettered names (codes "(") (codes ")") bs) else
    if is_joint b then option_map (λ (found : List ℕ × ℕ). (found.0, 1 + found.1)) (lettered names (b ∷ []) [] bs) else
    lettered names [] [] (b ∷ bs)

abbrev pub after : Option (List ℕ × ℕ) → (ℕ → Option (List ℕ)) → Option (List ℕ)
after None rest = None
after (Some found) rest = option_map (λ text. found.0 ++ text) (rest found.1)

-- what is written for a value after its first so many bytes; none if a placeholder is faulty
unfoldable pub expanded : Names → List ℕ → ℕ → Option (List ℕ)
expanded names [] behind = Some []
expanded names (b ∷ bs) (suc behind) = expanded names bs behind
expanded names (b ∷ bs) zero = if b == 37 then after (placeholder names bs) (expanded names bs) else option_map (λ text. b ∷ text) (expanded names bs 0)

-- with a sign in front it is one more part, without it a first one
abbrev pub is_part : List ℕ → Bool
is_part text = begins (codes "+") text || begins (codes "|") text

-- one more part is appended; a first one is put before other parts, and does nothing after another first one
unfoldable pub joined : List ℕ → List ℕ → List ℕ
joined [] more = more
joined (b ∷ bs) more = if is_part more then (b ∷ bs) ++ more else if is_part (b ∷ bs) then more ++ (b ∷ bs) else b ∷ bs
