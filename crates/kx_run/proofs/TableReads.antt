-- What the rows of sound tables give a look-up.
use Rattle.std.proofs.Common.{◌≡◌, ℕ, zero, suc, ◌+◌, ◌-◌, ◌<◌, ◌≤◌, ◌==◌, Bool, true, false, cond, List, [], ◌∷◌, length, take, drop, Option, Some, None, slice_get, refl, sym, ap, ◌∙◌, arith, pos, negsuc}
use Rattle.std.specs.Prelude.{find}
use Rattle.std.proofs.Common.{◌*◌, ◌^◌}
use Rattle.std.proofs.lemmas.Int.{ints}
use Rattle.std.proofs.lemmas.Bool.{eqb-true}
use Rattle.kx_tables.proofs.Bounds.{groups_within}
use Rattle.kx_tables.specs.Content.{Content, part, greatest_groups}
use Rattle.kx_tables.specs.Keymap.{key_with, keymap_of}
use Rattle.kx_tables.specs.Sound.{Sound, KeyHolds, ActionHolds, GroupChangeHolds, EntryHolds}
use Rattle.kx_tables.specs.declared.rows.Action.{Action}
use Rattle.kx_tables.specs.declared.rows.Action.TheVariants as actions
use Rattle.kx_tables.specs.declared.rows.GroupChange.{GroupChange}
use Rattle.kx_tables.specs.declared.rows.GroupChange.TheVariants.{Absolute, Relative}
use Rattle.kx_tables.specs.declared.rows.KeyRow.{KeyRow}
use Rattle.kx_tables.specs.declared.rows.TypeRow.{TypeRow}
use Rattle.kx_tables.specs.Keymap.{indicator_map_of}
use Rattle.kx_tables.specs.Sound.{IndicatorHolds}
use Rattle.kx_tables.specs.declared.rows.IndicatorRow.{IndicatorRow}
use Rattle.std.proofs.lemmas.Option.{slice_get_within, get_or_from_slice_get}
use Rattle.std.proofs.Common.{map}
use Rattle.std.proofs.Math.Nat.{pow-suc, pow-le-pow_right}
use Rattle.std.proofs.Math.Seq.{drop-cons}
use Rattle.kx_run.specs.Replies.{Status, is_lit, lit_mask}
use Rattle.kx_run.specs.Held.{change_size, action_size}
use Rattle.kx_run.specs.Lookup.{NamesLevels}
use Rattle.kx_tables.proofs.Finding.{find_first, find_nothing}
use Rattle.kx_tables.proofs.Parts.{slice_get-drop, slice_get-part}

-- ---- the first that passes, in a part of a list

slice_get-take : {X : Type 0} (xs : List X) (n i : ℕ) (x : X) → slice_get (take n xs) i ≡ Some x → (i < n) × (slice_get xs i ≡ Some x)
slice_get-take xs zero i x e = cc
slice_get-take [] (suc n) i x e = cc
slice_get-take (y ∷ ys) (suc n) zero x e = (omega arith, e)
slice_get-take (y ∷ ys) (suc n) (suc i) x e = let rest = slice_get-take ys n i x e in (omega arith, rest.1)

pub found_in_part : {X : Type 0} (p : X → Bool) (xs : List X) (first count place : ℕ) (x : X) → first ≤ place → place < first + count → slice_get xs place ≡ Some x → p x ≡ true → ((k : ℕ) (y : X) → first ≤ k → k < place → slice_get xs k ≡ Some y → p y ≡ false) → find p (part xs first count) ≡ Some x
found_in_part {X} p xs first count place x low high at passes fails =
    let e : first + (place - first) ≡ place = omega arith in
    let here = slice_get-part xs first count (place - first) (omega arith) ∙ ap (slice_get xs) e ∙ at in
    find_first p (part xs first count) (place - first) x here passes
    (λ j y below read. fails (first + j) y (omega arith) (omega arith) (sym (slice_get-part xs first count j (omega arith)) ∙ read))

pub none_in_part : {X : Type 0} (p : X → Bool) (xs : List X) (first count : ℕ) → ((k : ℕ) (y : X) → first ≤ k → k < first + count → slice_get xs k ≡ Some y → p y ≡ false) → find p (part xs first count) ≡ None
none_in_part p xs first count fails =
    find_nothing p (part xs first count)
    (λ j y read. let at = slice_get-take (drop first xs) count j y read in fails (first + j) y (omega arith) (omega (arith, at.0)) (sym (slice_get-drop xs first j) ∙ at.1))

-- ---- what soundness says of what was read

change_size-holds : (change : GroupChange) → GroupChangeHolds change → change_size change ≤ 32
change_size-holds (Absolute g) holds = omega arith
change_size-holds (Relative (pos n)) holds = omega (arith, ints, holds.1)
change_size-holds (Relative (negsuc n)) holds = omega (arith, ints, holds.0)

pub action_size-holds : (action : Action) → ActionHolds action → action_size action ≤ 32
action_size-holds actions.None holds = omega arith
action_size-holds (actions.SetMods m c) holds = omega arith
action_size-holds (actions.LatchMods m c l) holds = omega arith
action_size-holds (actions.LockMods m l u) holds = omega arith
action_size-holds (actions.SetGroup change c) holds = change_size-holds change holds
action_size-holds (actions.LatchGroup change c l) holds = change_size-holds change holds
action_size-holds (actions.LockGroup change) holds = change_size-holds change holds

by_test : {X : Type 0} (p : X → Bool) (b : Bool) (rest : Option X) (x y : X) → (rest ≡ Some x → p x ≡ true) → p y ≡ b → cond b (Some y) rest ≡ Some x → p x ≡ true
by_test p true rest x y later test e = let same : y ≡ x = cc in ap p (sym same) ∙ test
by_test p false rest x y later test e = later e

find_passes : {X : Type 0} (p : X → Bool) (xs : List X) (x : X) → find p xs ≡ Some x → p x ≡ true
find_passes p [] x e = cc
find_passes p (y ∷ ys) x e = by_test p (p y) (find p ys) x y (find_passes p ys x) refl e

place_by : {X : Type 0} (p : X → Bool) (b : Bool) (y : X) (ys : List X) (x : X) → (find p ys ≡ Some x → (i : ℕ) × (slice_get ys i ≡ Some x)) → cond b (Some y) (find p ys) ≡ Some x → (i : ℕ) × (slice_get (y ∷ ys) i ≡ Some x)
place_by p true y ys x later e = (0, e)
place_by p false y ys x later e = let rest = later e in (suc rest.0, rest.1)

find_place : {X : Type 0} (p : X → Bool) (xs : List X) (x : X) → find p xs ≡ Some x → (i : ℕ) × (slice_get xs i ≡ Some x)
find_place p [] x e = cc
find_place p (y ∷ ys) x e = place_by p (p y) y ys x (find_place p ys x) e

-- a key that is found for a code has that code
pub code_found : (c : Content) (code : ℕ) (k : KeyRow) → Sound c → key_with c code ≡ Some k → code < 4096
code_found c code k sound found =
    let at = find_place (λ (l : KeyRow). l.code == code) c.keys k found in
    let holds : KeyHolds c at.0 k = sound.keys at.0 k at.1 in
    let same = eqb-true k.code code (find_passes (λ (l : KeyRow). l.code == code) c.keys k found) in
    omega (arith, holds.code)

-- its groups are among those of the tables
pub key_groups : (c : Content) (code : ℕ) (k : KeyRow) → Sound c → key_with c code ≡ Some k → k.first_group + k.groups ≤ length c.groups
key_groups c code k sound found =
    let at = find_place (λ (l : KeyRow). l.code == code) c.keys k found in
    groups_within c sound at.0 k at.1

no_key : (c : Content) (code : ℕ) (found : Option KeyRow) → Sound c → key_with c code ≡ found → 4096 ≤ code → found ≡ None
no_key c code None sound e high = refl
no_key c code (Some k) sound e high = absurd (omega (arith, code_found c code k sound e))

-- no key has a code of 4096 or more
pub no_key_above : (c : Content) (code : ℕ) → Sound c → 4096 ≤ code → key_with c code ≡ None
no_key_above c code sound high = no_key c code (key_with c code) sound refl high

pub names_levels : (c : Content) (i : ℕ) (t : TypeRow) → Sound c → slice_get c.types i ≡ Some t → NamesLevels c t
names_levels c i t sound at = record {
  some = λ place e low high read. let holds : EntryHolds c t place e = sound.entries i t at place e low high read in holds.some_level;
  most = λ place e low high read. let holds : EntryHolds c t place e = sound.entries i t at place e low high read in holds.level;
}

-- ---- indicators

indicator_maps_few : (k : ℕ) (rows : List IndicatorRow) → k ≤ 32 → ((i : ℕ) (d : IndicatorRow) → slice_get rows i ≡ Some d → k + i < 32) → k + length rows ≤ 32
indicator_maps_few k [] small places = omega arith
indicator_maps_few k (row ∷ rows) small places =
    let first = places 0 row refl in
    let rest = indicator_maps_few (k + 1) rows (omega arith) (λ i d at. omega (arith, places (suc i) d at)) in
    omega arith

pub few_indicator_maps : (c : Content) → Sound c → length c.indicators ≤ 32
few_indicator_maps c sound =
    omega (arith, indicator_maps_few 0 c.indicators (omega arith) (λ i d at. let holds : IndicatorHolds c i d = sound.indicators i d at in omega (arith, holds.place)))

pub lit_more : (count : ℕ) (s : Status) (rows : List IndicatorRow) (place : ℕ) (row : IndicatorRow) → slice_get rows place ≡ Some row → lit_mask count s (map indicator_map_of (drop place rows)) ≡ cond (is_lit count s (indicator_map_of row)) 1 0 + 2 * lit_mask count s (map indicator_map_of (drop (place + 1) rows))
lit_more count s rows place row at =
    let within = slice_get_within rows place row at in
    let read = get_or_from_slice_get rows place row row at in
    let next : suc place ≡ place + 1 = omega arith in
    let front : drop place rows ≡ row ∷ drop (place + 1) rows = drop-cons rows place row within ∙ ap (λ d. d ∷ drop (suc place) rows) read ∙ ap (λ n. row ∷ drop n rows) next in
    ap (λ ds. lit_mask count s (map indicator_map_of ds)) front

pub small_more : (lit b n p : ℕ) → b ≤ 1 → 0 < p → p ≤ n → lit < 2 ^ (n - p) → 2 * lit + b < 2 ^ (n - (p - 1))
small_more lit b n p bit some within small =
    let e : n - (p - 1) ≡ suc (n - p) = omega arith in
    rw (e, pow-suc) (omega arith)

pub small_width : (lit n p : ℕ) → n ≤ 32 → lit < 2 ^ (n - p) → lit < 2 ^ 32
small_width lit n p few small =
    let wide = pow-le-pow_right {n = 2} (omega arith) {i = n - p} {j = 32} (omega arith) in
    omega arith

-- ---- the number of groups

greatest_few : (keys : List KeyRow) → ((i : ℕ) (k : KeyRow) → slice_get keys i ≡ Some k → k.groups ≤ 32) → greatest_groups keys ≤ 32
greatest_few [] few = omega arith
greatest_few (key ∷ keys) few =
    let first = few 0 key refl in
    let rest = greatest_few keys (λ i k at. few (suc i) k at) in
    omega arith

pub groups_few : (c : Content) → Sound c → (keymap_of c).groups ≤ 32
groups_few c sound =
    omega (arith, greatest_few c.keys (λ i k at. let holds : KeyHolds c i k = sound.keys i k at in holds.groups))
