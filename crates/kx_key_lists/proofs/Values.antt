-- Whether lists have a value.
use Rattle.std.proofs.Common.{◌≡◌, ℕ, ◌+◌, ◌-◌, zero, suc, Bool, true, false, cond, ◌||◌, nat_lt, List, [], ◌∷◌, Option, None, Some, is_some, refl, sym, ap, ◌∙◌, arith}
use Rattle.std.specs.List.{list_any}
use Rattle.std.proofs.lemmas.Bool.{false≢true, le-ltb}
use Rattle.kx_key_lists.specs.Lists.{Lists, has_level, level_at, level_in, level_of}
use Rattle.kx_key_lists.specs.Records.{HasValue, KeyLists, value_in}

levels_none : {X : Type 0} (levels : List (Option X)) → list_any is_some levels ≡ false → (l : ℕ) → level_at levels l ≡ None
levels_none [] h l = refl
levels_none (Some x ∷ levels) h l = absurd (false≢true (sym h))
levels_none (None ∷ levels) h zero = refl
levels_none (None ∷ levels) h (suc l) = levels_none levels h l

levels_some : {X : Type 0} (levels : List (Option X)) → list_any is_some levels ≡ true → (l : ℕ) × (x : X) × (level_at levels l ≡ Some x)
levels_some [] h = absurd (false≢true h)
levels_some (Some x ∷ levels) h = (0, x, refl)
levels_some (None ∷ levels) h = let found = levels_some levels h in (suc found.0, found.1, found.2)

list_none : {X : Type 0} (list : Option (List (Option X))) → has_level list ≡ false → (l : ℕ) → level_of list l ≡ None
list_none None h l = refl
list_none (Some levels) h l = levels_none levels h l

none_behind : {X : Type 0} (list : Option (List (Option X))) (lists : Lists X) → (list_any has_level lists ≡ false → (g l : ℕ) → level_in lists g l ≡ None) → (b : Bool) → has_level list ≡ b → (b || list_any has_level lists) ≡ false → (g l : ℕ) → level_in (list ∷ lists) g l ≡ None
none_behind list lists rest true e h g l = absurd (false≢true (sym h))
none_behind list lists rest false e h zero l = list_none list e l
none_behind list lists rest false e h (suc g) l = rest h g l

lists_none : {X : Type 0} (lists : Lists X) → list_any has_level lists ≡ false → (g l : ℕ) → level_in lists g l ≡ None
lists_none [] h g l = refl
lists_none (list ∷ lists) h g l = none_behind list lists (lists_none lists) (has_level list) refl h g l

abbrev IsSomewhere : {X : Type 0} → Lists X → Type 0
IsSomewhere {X = X} lists = (g : ℕ) × (l : ℕ) × (x : X) × (level_in lists g l ≡ Some x)

some_behind : {X : Type 0} (levels : List (Option X)) (lists : Lists X) → (list_any has_level lists ≡ true → IsSomewhere lists) → (b : Bool) → list_any is_some levels ≡ b → (b || list_any has_level lists) ≡ true → IsSomewhere (Some levels ∷ lists)
some_behind levels lists rest true e h = let found = levels_some levels e in (0, found.0, found.1, found.2)
some_behind levels lists rest false e h = let found = rest h in (suc found.0, found.1, found.2, found.3)

lists_some : {X : Type 0} (lists : Lists X) → list_any has_level lists ≡ true → IsSomewhere lists
lists_some [] h = absurd (false≢true h)
lists_some (None ∷ lists) h = let found = lists_some lists h in (suc found.0, found.1, found.2, found.3)
lists_some (Some levels ∷ lists) h = some_behind levels lists (lists_some lists) (list_any is_some levels) refl h

pub key_none : {X : Type 0} (key : KeyLists X) → list_any has_level key.lists ≡ false → (g l : ℕ) → value_in key g l ≡ None
key_none key h g l = by (nat_lt g key.from)
  where
    by : (b : Bool) → cond b None (level_in key.lists (g - key.from) l) ≡ None
    by true = refl
    by false = lists_none key.lists h (g - key.from) l

pub key_some : {X : Type 0} (key : KeyLists X) → list_any has_level key.lists ≡ true → HasValue key
key_some key h =
    let found = lists_some key.lists h in
    let high : nat_lt (key.from + found.0) key.from ≡ false = le-ltb (key.from + found.0) key.from (omega arith) in
    let same : key.from + found.0 - key.from ≡ found.0 = omega arith in
    (key.from + found.0, found.1, found.2, ap (λ b. cond b None (level_in key.lists (key.from + found.0 - key.from) found.1)) high ∙ ap (λ g. level_in key.lists g found.1) same ∙ found.3)
