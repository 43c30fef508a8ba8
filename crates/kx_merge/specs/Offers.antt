-- Precedence: what the items of a body offer to records, and the value that a cell has by them, as libxkbcommon's merge
-- modes have it.
use Rattle.std.specs.Prelude.{◌≡◌, ℕ, Bool, true, false, not, ◌&&◌, max, List, [], ◌∷◌, ◌++◌, Option, None, if◌then◌else◌}
use Rattle.std.specs.List.{list_any}
use Rattle.std.specs.Option.{option_map_or, option_or}
use Rattle.kx_tree.specs.declared.tree.Mode.{Mode}
use Rattle.kx_tree.specs.declared.tree.Mode.TheVariants.{Augment, Override, Replace}

-- what an item offers to a record that it is about: the values of the cells that it defines, and how wide its groups are
pub record Offer (K C V : Type 0) : Type 0 where
  pub mode : Mode
  pub name : K
  pub value : C → Option V
  pub width : ℕ → ℕ

-- an offer to a record that has no groups
abbrev pub plain_offer : {K C V : Type 0} → Mode → K → (C → Option V) → Offer K C V
plain_offer mode name value = record { mode = mode; name = name; value = value; width = λ _. 0 }

-- what is offered to a record without groups where its name is known
abbrev pub offers_to : {K C V R : Type 0} → (R → C → Option V) → Mode → R → Option K → List (Offer K C V)
offers_to cell mode given name = option_map_or (λ n. plain_offer mode n (cell given) ∷ []) name []

abbrev pub is_replace : Mode → Bool
is_replace Replace = true
is_replace _ = false

abbrev pub is_strong : Mode → Bool
is_strong Augment = false
is_strong _ = true

abbrev pub with_name : {K : Type 0} → (K → K → Bool) → List K → K → List K
with_name eq ks k = if list_any (eq k) ks then ks else ks ++ k ∷ []

module _ {K C V : Type 0} where
  abbrev pub last_strong : C → List (Offer K C V) → Option V
  last_strong c [] = None
  last_strong c (o ∷ os) = option_or (last_strong c os) (if is_strong o.mode then o.value c else None)

  abbrev pub first_weak : C → List (Offer K C V) → Option V
  first_weak c [] = None
  first_weak c (o ∷ os) = option_or (if is_strong o.mode then None else o.value c) (first_weak c os)

  abbrev pub greatest : ℕ → List (Offer K C V) → ℕ
  greatest g [] = 0
  greatest g (o ∷ os) = max (o.width g) (greatest g os)

module _ {K C V : Type 0} (eq : K → K → Bool) where
  abbrev pub is_about : K → Offer K C V → Bool
  is_about k o = eq k o.name

  -- a later item that is about the record under replace hides those before it
  abbrev pub is_hidden : K → List (Offer K C V) → Bool
  is_hidden k later = list_any (λ o. is_about k o && is_replace o.mode) later

  -- what is offered to a record and isn't hidden
  abbrev pub seen : K → List (Offer K C V) → List (Offer K C V)
  seen k [] = []
  seen k (o ∷ os) = if is_about k o && not (is_hidden k os) then o ∷ seen k os else seen k os

  -- of those that define the cell the last under override or replace gives the value, else the first under augment
  abbrev pub value_of : List (Offer K C V) → K → C → Option V
  value_of os k c = option_or (last_strong c (seen k os)) (first_weak c (seen k os))

  abbrev pub width_of : List (Offer K C V) → K → ℕ → ℕ
  width_of os k g = greatest g (seen k os)

  abbrev pub names_behind : List K → List (Offer K C V) → List K
  names_behind ks [] = ks
  names_behind ks (o ∷ os) = names_behind (with_name eq ks o.name) os

  -- the records that are offered something, each once, in the order of first appearance
  abbrev pub names_of : List (Offer K C V) → List K
  names_of os = names_behind [] os

-- what a later value makes of the one before it
abbrev pub merged_value : {X : Type 0} → Mode → Option X → Option X → Option X
merged_value Augment old new = option_or old new
merged_value Override old new = option_or new old
merged_value Replace old new = new

abbrev pub merged_width : Mode → ℕ → ℕ → ℕ
merged_width Augment old new = max old new
merged_width Override old new = max old new
merged_width Replace old new = new

-- a record's cells, or the widths of its groups, are those of before with what a later record gives
abbrev pub MergesCells : {C X : Type 0} → Mode → (C → Option X) → (C → Option X) → (C → Option X) → Type 0
MergesCells {C = C} mode old given new = (c : C) → new c ≡ merged_value mode (old c) (given c)

abbrev pub MergesWidths : Mode → (ℕ → ℕ) → (ℕ → ℕ) → (ℕ → ℕ) → Type 0
MergesWidths mode old given new = (g : ℕ) → new g ≡ merged_width mode (old g) (given g)
