-- What a press and a release do to what is kept of the held keys.
use Rattle.std.proofs.Common.{◌≡◌, ◌≢◌, ℕ, ◌+◌, ◌*◌, ◌<◌, ◌≤◌, ◌≤ℤ◌, Bool, true, false, cond, not, eqb, List, [], ◌∷◌, ◌++◌, ◌||◌, zero, suc, length, map, All, get_or, take, drop, sym, ◌∙◌, ap, refl, arith, ℤ, pos, negsuc, ◌+ℤ◌, bit_or, max}
use Rattle.std.specs.Prelude.{fold, AllPairs}
use Rattle.std.specs.Int.{bit_at}
use Rattle.std.specs.Int.Bits.{or_zero_r}
use Rattle.std.specs.Int.RustNames.{unsigned_abs}
use Rattle.std.specs.List.{list_any, remove}
use Rattle.std.proofs.lemmas.Option.{get_or_from_slice_get, slice_get_within}
use Rattle.std.proofs.lemmas.List.Sums.{sum_by-remove}
use Rattle.std.proofs.Common.{SFits, w32, to_z, of_z}
use Rattle.std.proofs.lemmas.Int.{ints, to_z-of_z}
use Rattle.std.proofs.lemmas.Grind.{common_steps}
use Rattle.std.proofs.lemmas.List.Sums.{fold-append}
use Rattle.std.proofs.lemmas.List.Folds.{fold-map}
use Rattle.std.proofs.lemmas.List.Elements.{All-map, All-tail, All-head, All-cons, All-push, All-append, All-take, All-drop}
use Rattle.std.proofs.lemmas.List.{get_or-map}
use Rattle.std.proofs.lemmas.Bool.{cases_Bool, eqb-true, eqb-false, eq-eqb, ne_eqb}
use Rattle.std.proofs.lemmas.Nat.{or_of_8}
use Rattle.std.proofs.lemmas.Bool.Decides.{Decides-eqb, nat_tests}
use Rattle.std.proofs.lemmas.List.Folds.{find_at}
use Rattle.std.proofs.lemmas.Nat.Bits.{bit_at_or, bit_at-zero, bit_at-lt, same_from_bits_below}
use Rattle.std.specs.List.{position_or_len, slice_get}
use Rattle.std.proofs.Common.{inl, inr, Some, None}
use Rattle.std.proofs.lemmas.Map.Steps.{length-le_from_distinct_below}
use Rattle.std.proofs.lemmas.Map.Made.{IsDistinct-from_AllPairs}
use Rattle.std.proofs.lemmas.List.Quantifiers.{all_pairs_push, all_pairs_remove}
use Rattle.kx_tables.specs.declared.rows.Action.{Action}
use Rattle.kx_tables.specs.declared.rows.Action.TheVariants as actions
use Rattle.kx_tables.specs.declared.rows.GroupChange.{GroupChange}
use Rattle.kx_tables.specs.declared.rows.GroupChange.TheVariants.{Absolute, Relative}
use Rattle.kx_run.specs.declared.held.HeldKey.{HeldKey}
use Rattle.kx_run.specs.World.{World}
use Rattle.kx_run.specs.Laws.{IsBounded}
use Rattle.kx_run.specs.Held.{held_mods, base_mods, base_group, base_group_after, is_group_held, group_after, change_size, action_size, count_of, is_at, is_held, held_at, other_keys, disturbed, AreAllDisturbed, AreDistinct, AreSound}

abbrev code_of : HeldKey → ℕ
code_of key = key.code

abbrev any_key : List HeldKey → HeldKey
any_key keys = record { code = 0; action = actions.None; recorded = record { 0 = 0 }; disturbed = false }

length-codes : (keys : List HeldKey) → length (map code_of keys) ≡ length keys
length-codes keys = grind (arith, common_steps)

or_false_left : (a b : Bool) → (a || b) ≡ false → a ≡ false
or_false_left false b h = refl
or_false_left true b h = absurd (cc)

or_false_right : (a b : Bool) → (a || b) ≡ false → b ≡ false
or_false_right false b h = h
or_false_right true b h = absurd (cc)

-- ---- the base group stays small

abs_add : (a b : ℤ) → unsigned_abs (a +ℤ b) ≤ unsigned_abs a + unsigned_abs b
abs_add (pos a) (pos b) = omega arith
abs_add (pos a) (negsuc b) = omega (arith, ints)
abs_add (negsuc a) (pos b) = omega (arith, ints)
abs_add (negsuc a) (negsuc b) = omega arith

group_after_size : (change : GroupChange) (old : ℤ) → unsigned_abs (group_after change old) ≤ unsigned_abs old + change_size change
group_after_size (Absolute group) old = omega arith
group_after_size (Relative by) old = abs_add old by

base_group_after_size : (action : Action) (old : ℤ) → unsigned_abs (base_group_after action old) ≤ unsigned_abs old + action_size action
base_group_after_size actions.None old = omega arith
base_group_after_size (actions.SetMods m c) old = omega arith
base_group_after_size (actions.LatchMods m c l) old = omega arith
base_group_after_size (actions.LockMods m l u) old = omega arith
base_group_after_size (actions.SetGroup change c) old = group_after_size change old
base_group_after_size (actions.LatchGroup change c l) old = group_after_size change old
base_group_after_size (actions.LockGroup change) old = omega arith

fold_size : (old : ℤ) (keys : List HeldKey) → All (λ key. action_size key.action ≤ 32) keys → unsigned_abs (fold (λ z key. base_group_after key.action z) old keys) ≤ unsigned_abs old + 32 * length keys
fold_size old [] small = omega arith
fold_size old (key ∷ keys) small =
    let rest = fold_size (base_group_after key.action old) keys (All-tail (λ k. action_size k.action ≤ 32) key keys small) in
    let here = base_group_after_size key.action old in
    let first = All-head (λ k. action_size k.action ≤ 32) key keys small in
    omega arith

-- ---- a disturbed key counts as before

pub base_mods-disturbed : (keys : List HeldKey) → base_mods (map disturbed keys) ≡ base_mods keys
base_mods-disturbed keys = fold-map (λ mods key. bit_or mods (held_mods key.action)) disturbed 0 keys

pub base_group-disturbed : (keys : List HeldKey) → base_group (map disturbed keys) ≡ base_group keys
base_group-disturbed keys = fold-map (λ z key. base_group_after key.action z) disturbed (pos 0) keys

pub count_of-disturbed : (bit : ℕ) (keys : List HeldKey) → count_of bit (map disturbed keys) ≡ count_of bit keys
count_of-disturbed bit keys = fold-map (λ n key. n + bit_at (held_mods key.action) bit) disturbed 0 keys

pub length-disturbed : (keys : List HeldKey) → length (map disturbed keys) ≡ length keys
length-disturbed keys = grind (arith, common_steps)

pub is_held-disturbed : (code : ℕ) (keys : List HeldKey) → is_held code (map disturbed keys) ≡ is_held code keys
is_held-disturbed code [] = refl
is_held-disturbed code (key ∷ keys) = ap (λ b. is_at code key || b) (is_held-disturbed code keys)

pub AreDistinct-disturbed : (keys : List HeldKey) → AreDistinct keys → AreDistinct (map disturbed keys)
AreDistinct-disturbed keys apart = λ i j d before within.
    let long = length-disturbed keys in
    let inside : j < length keys = omega arith in
    let outside : i < length keys = omega arith in
    rw (get_or-map disturbed keys i d d outside, get_or-map disturbed keys j d d inside) (apart i j d before inside)

pub AreSound-disturbed : (keys : List HeldKey) → AreSound keys → AreSound (map disturbed keys)
AreSound-disturbed keys sound = record {
  distinct = AreDistinct-disturbed keys sound.distinct;
  codes = All-map (λ key. key.code < 4096) disturbed keys sound.codes;
  sizes = All-map (λ key. action_size key.action ≤ 32) disturbed keys sound.sizes;
  masks = All-map (λ key. held_mods key.action < 256) disturbed keys sound.masks;
}

pub disturbed-twice : (key : HeldKey) → key.disturbed ≡ true → disturbed key ≡ key
disturbed-twice key h = ap (λ b. record key { disturbed = b }) (sym h)

pub all_disturbed : (keys : List HeldKey) → AreAllDisturbed (map disturbed keys)
all_disturbed keys = λ i d within.
    let inside : i < length keys = omega (arith, length-disturbed keys) in
    rw (get_or-map disturbed keys i d d inside) refl

-- ---- held keys are few

member_below : (keys : List HeldKey) (q : ℕ) → All (λ key. key.code < 4096) keys → list_any (eqb q) (map code_of keys) ≡ true → q < 4096
member_below [] q below is_in = absurd (cc)
member_below (key ∷ keys) q below is_in =
    let first = All-head (λ k. k.code < 4096) key keys below in
    elim (cases_Bool (eqb q key.code)) [
      | inl is_here ↦ let same = eqb-true q key.code is_here in omega arith
      | inr is_there ↦ member_below keys q (All-tail (λ k. k.code < 4096) key keys below) (rw is_there at is_in)
    ]

AllPairs-codes : (keys : List HeldKey) → AreDistinct keys → AllPairs (λ a b. a ≢ b) (map code_of keys)
AllPairs-codes keys apart = λ i j d before within.
    let long = length-codes keys in
    let inside : j < length keys = omega arith in
    let outside : i < length keys = omega arith in
    rw (get_or-map code_of keys i (any_key keys) d outside, get_or-map code_of keys j (any_key keys) d inside)
    (apart i j (any_key keys) before inside)

pub length-distinct : (keys : List HeldKey) → AreDistinct keys → All (λ key. key.code < 4096) keys → length keys ≤ 4096
length-distinct keys distinct codes =
    let few = length-le_from_distinct_below (map code_of keys) 4096
    (IsDistinct-from_AllPairs Decides-eqb (map code_of keys) (AllPairs-codes keys distinct))
    (λ q is_in. member_below keys q codes is_in) in
    omega (arith, length-codes keys)

pub length-sound : (keys : List HeldKey) → AreSound keys → length keys ≤ 4096
length-sound keys sound = length-distinct keys sound.distinct sound.codes

-- ---- a key that isn't held

pub none_held : (code : ℕ) (keys : List HeldKey) → is_held code keys ≡ false → All (λ key. key.code ≢ code) keys
none_held code [] h = λ k d within. absurd (omega arith)
none_held code (key ∷ keys) h =
    All-cons (λ k. k.code ≢ code) key keys
    (λ same. let yes = eq-eqb key.code code same in absurd (cc (rw yes at h)))
    (none_held code keys (or_false_right (is_at code key) (is_held code keys) h))

pub AreSound-push : (keys : List HeldKey) (key : HeldKey) → AreSound keys → key.code < 4096 → action_size key.action ≤ 32 → held_mods key.action < 256 → is_held key.code keys ≡ false → AreSound (keys ++ key ∷ [])
AreSound-push keys key sound below size mask new = record {
  distinct = all_pairs_push (λ a b. a.code ≢ b.code) keys key sound.distinct (λ k d within. none_held key.code keys new k d within);
  codes = All-push (λ k. k.code < 4096) keys key sound.codes below;
  sizes = All-push (λ k. action_size k.action ≤ 32) keys key sound.sizes size;
  masks = All-push (λ k. held_mods k.action < 256) keys key sound.masks mask;
}

pub base_mods-push : (keys : List HeldKey) (key : HeldKey) → base_mods (keys ++ key ∷ []) ≡ bit_or (base_mods keys) (held_mods key.action)
base_mods-push keys key = fold-append (λ mods k. bit_or mods (held_mods k.action)) 0 keys (key ∷ [])

pub base_group-push : (keys : List HeldKey) (key : HeldKey) → base_group (keys ++ key ∷ []) ≡ base_group_after key.action (base_group keys)
base_group-push keys key = fold-append (λ z k. base_group_after k.action z) (pos 0) keys (key ∷ [])

pub count_of-push : (bit : ℕ) (keys : List HeldKey) (key : HeldKey) → count_of bit (keys ++ key ∷ []) ≡ count_of bit keys + bit_at (held_mods key.action) bit
count_of-push bit keys key = fold-append (λ n k. n + bit_at (held_mods k.action) bit) 0 keys (key ∷ [])

-- a key that sets no modifier
pub base_mods-push_none : (keys : List HeldKey) (key : HeldKey) → held_mods key.action ≡ 0 → base_mods (keys ++ key ∷ []) ≡ base_mods keys
base_mods-push_none keys key none = base_mods-push keys key ∙ ap (bit_or (base_mods keys)) none ∙ or_zero_r (base_mods keys)

pub count_of-push_none : (bit : ℕ) (keys : List HeldKey) (key : HeldKey) → held_mods key.action ≡ 0 → count_of bit (keys ++ key ∷ []) ≡ count_of bit keys
count_of-push_none bit keys key none =
    let zero_bit : bit_at (held_mods key.action) bit ≡ 0 = ap (λ m. bit_at m bit) none ∙ bit_at-zero bit in
    omega (arith, count_of-push bit keys key, zero_bit)

-- ---- a key that is let go

pub AreSound-remove : (keys : List HeldKey) (place : ℕ) → place < length keys → AreSound keys → AreSound (remove keys place)
AreSound-remove keys place within sound = record {
  distinct = all_pairs_remove (λ a b. a.code ≢ b.code) keys place within sound.distinct;
  codes = All-append (λ k. k.code < 4096) (take place keys) (drop (suc place) keys) (All-take (λ k. k.code < 4096) place keys sound.codes) (All-drop (λ k. k.code < 4096) (suc place) keys sound.codes);
  sizes = All-append (λ k. action_size k.action ≤ 32) (take place keys) (drop (suc place) keys) (All-take (λ k. action_size k.action ≤ 32) place keys sound.sizes) (All-drop (λ k. action_size k.action ≤ 32) (suc place) keys sound.sizes);
  masks = All-append (λ k. held_mods k.action < 256) (take place keys) (drop (suc place) keys) (All-take (λ k. held_mods k.action < 256) place keys sound.masks) (All-drop (λ k. held_mods k.action < 256) (suc place) keys sound.masks);
}

-- a key that changes no group leaves the base group as it is
base_group_after-other : (action : Action) (old : ℤ) → is_group_held action ≡ false → base_group_after action old ≡ old
base_group_after-other actions.None old h = refl
base_group_after-other (actions.SetMods m c) old h = refl
base_group_after-other (actions.LatchMods m c l) old h = refl
base_group_after-other (actions.LockMods m l u) old h = refl
base_group_after-other (actions.SetGroup change c) old h = absurd (cc)
base_group_after-other (actions.LatchGroup change c l) old h = absurd (cc)
base_group_after-other (actions.LockGroup change) old h = refl

fold-remove : (old : ℤ) (keys : List HeldKey) (place : ℕ) (d : HeldKey) → place < length keys → is_group_held (get_or keys place d).action ≡ false → fold (λ z k. base_group_after k.action z) old (remove keys place) ≡ fold (λ z k. base_group_after k.action z) old keys
fold-remove old [] place d within other = absurd (omega arith)
fold-remove old (key ∷ keys) zero d within other = ap (λ z. fold (λ y k. base_group_after k.action y) z keys) (sym (base_group_after-other key.action old other))
fold-remove old (key ∷ keys) (suc place) d within other = fold-remove (base_group_after key.action old) keys place d (omega arith) other

pub base_group-remove : (keys : List HeldKey) (place : ℕ) (d : HeldKey) → place < length keys → is_group_held (get_or keys place d).action ≡ false → base_group (remove keys place) ≡ base_group keys
base_group-remove keys place d within other = fold-remove (pos 0) keys place d within other

-- a key that sets no modifier leaves the base modifiers as they are
mods-remove : (old : ℕ) (keys : List HeldKey) (place : ℕ) (d : HeldKey) → place < length keys → held_mods (get_or keys place d).action ≡ 0 → fold (λ m k. bit_or m (held_mods k.action)) old (remove keys place) ≡ fold (λ m k. bit_or m (held_mods k.action)) old keys
mods-remove old [] place d within none = absurd (omega arith)
mods-remove old (key ∷ keys) zero d within none = ap (λ m. fold (λ n k. bit_or n (held_mods k.action)) m keys) (sym (ap (bit_or old) none ∙ or_zero_r old))
mods-remove old (key ∷ keys) (suc place) d within none = mods-remove (bit_or old (held_mods key.action)) keys place d (omega arith) none

pub mods_left : (keys : List HeldKey) (place : ℕ) (key : HeldKey) → place < length keys → key ≡ get_or keys place key → held_mods key.action ≡ 0 → base_mods (remove keys place) ≡ base_mods keys
mods_left keys place key within read none =
    mods-remove 0 keys place key within (ap (λ (k : HeldKey). held_mods k.action) (sym read) ∙ none)

-- ---- base modifiers by their counts

abbrev pub some_count : ℕ → ℕ
some_count n = cond (eqb n 0) 0 1

max_some : (n b : ℕ) → b < 2 → max (some_count n) b ≡ some_count (n + b)
max_some n b small = grind (arith, nat_tests)

fold_bit : (bit mods n : ℕ) (keys : List HeldKey) → bit_at mods bit ≡ some_count n → bit_at (fold (λ m k. bit_or m (held_mods k.action)) mods keys) bit ≡ some_count (fold (λ n k. n + bit_at (held_mods k.action) bit) n keys)
fold_bit bit mods n [] same = same
fold_bit bit mods n (key ∷ keys) same =
    fold_bit bit (bit_or mods (held_mods key.action)) (n + bit_at (held_mods key.action) bit) keys
    (bit_at_or mods (held_mods key.action) bit ∙ ap (λ b. max b (bit_at (held_mods key.action) bit)) same ∙ max_some n (bit_at (held_mods key.action) bit) (bit_at-lt (held_mods key.action) bit))

fold_below : (mods : ℕ) (keys : List HeldKey) → mods < 256 → All (λ k. held_mods k.action < 256) keys → fold (λ m k. bit_or m (held_mods k.action)) mods keys < 256
fold_below mods [] small masks = small
fold_below mods (key ∷ keys) small masks =
    fold_below (bit_or mods (held_mods key.action)) keys
    (or_of_8 mods (held_mods key.action) small (All-head (λ k. held_mods k.action < 256) key keys masks))
    (All-tail (λ k. held_mods k.action < 256) key keys masks)

-- a mask with the bits that some held key sets is the mask of the base modifiers
pub base_mods_is : (mods : ℕ) (keys : List HeldKey) → mods < 256 → AreSound keys → ((bit : ℕ) → bit < 8 → bit_at mods bit ≡ some_count (count_of bit keys)) → mods ≡ base_mods keys
base_mods_is mods keys small sound same =
    same_from_bits_below 8 mods (base_mods keys) small (fold_below 0 keys (omega arith) sound.masks)
    (λ bit within. same bit within ∙ sym (fold_bit bit 0 0 keys (bit_at-zero bit)))

-- ---- what a look-up finds

pub held_at-none : (code : ℕ) (keys : List HeldKey) → is_held code keys ≡ false → held_at code keys ≡ None
held_at-none code [] h = refl
held_at-none code (key ∷ keys) h = rw (or_false_left (is_at code key) (is_held code keys) h) (held_at-none code keys (or_false_right (is_at code key) (is_held code keys) h))

pub other_keys-none : (code : ℕ) (keys : List HeldKey) → is_held code keys ≡ false → other_keys code keys ≡ keys
other_keys-none code [] h = refl
other_keys-none code (key ∷ keys) h = rw (or_false_left (is_at code key) (is_held code keys) h) (ap (λ ks. key ∷ ks) (other_keys-none code keys (or_false_right (is_at code key) (is_held code keys) h)))

-- the first of distinct keys isn't held among the others
pub head_apart : (key : HeldKey) (keys : List HeldKey) → AreDistinct (key ∷ keys) → All (λ k. k.code ≢ key.code) keys
head_apart key keys apart = λ k d within same. apart 0 (suc k) d (omega arith) (omega arith) (sym same)

pub tail_apart : (key : HeldKey) (keys : List HeldKey) → AreDistinct (key ∷ keys) → AreDistinct keys
tail_apart key keys apart = λ i j d before within. apart (suc i) (suc j) d (omega arith) (omega arith)

pub other_keys-apart : (code : ℕ) (keys : List HeldKey) → All (λ k. k.code ≢ code) keys → other_keys code keys ≡ keys
other_keys-apart code [] apart = refl
other_keys-apart code (key ∷ keys) apart = rw (ne_eqb key.code code (All-head (λ k. k.code ≢ code) key keys apart)) (ap (λ ks. key ∷ ks) (other_keys-apart code keys (All-tail (λ k. k.code ≢ code) key keys apart)))

pub remove_is : (code : ℕ) (keys : List HeldKey) (place : ℕ) (d : HeldKey) → AreDistinct keys → place < length keys → (get_or keys place d).code ≡ code → remove keys place ≡ other_keys code keys
remove_is code [] place d apart within here = absurd (omega arith)
remove_is code (key ∷ keys) zero d apart within here =
    rw (eq-eqb key.code code here) (sym (other_keys-apart code keys (λ k e inside same. head_apart key keys apart k e inside (same ∙ sym here))))
remove_is code (key ∷ keys) (suc place) d apart within here =
    rw (ne_eqb key.code code (λ same. head_apart key keys apart place d (omega arith) (here ∙ sym same))) (ap (λ ks. key ∷ ks) (remove_is code keys place d (tail_apart key keys apart) (omega arith) here))

-- ---- codes of the keys that are left

let_go_by : (code : ℕ) (key : HeldKey) (keys : List HeldKey) (b : Bool) → is_at code key ≡ b → is_held code (other_keys code keys) ≡ false → is_held code (cond (not b) (key ∷ other_keys code keys) (other_keys code keys)) ≡ false
let_go_by code key keys true e rest = rest
let_go_by code key keys false e rest = rw e rest

pub is_held-let_go : (code : ℕ) (keys : List HeldKey) → is_held code (other_keys code keys) ≡ false
is_held-let_go code [] = refl
is_held-let_go code (key ∷ keys) = let_go_by code key keys (is_at code key) refl (is_held-let_go code keys)

-- a code of another key
pub apart : (other code k : ℕ) → eqb other code ≡ false → eqb k other ≡ true → eqb k code ≡ false
apart other code k differs same =
    ne_eqb k code (λ e. eqb-false other code differs (sym (eqb-true k other same) ∙ e))

-- ---- the place of the key that is let go

none_found : (code : ℕ) (keys : List HeldKey) → held_at code keys ≡ None → is_held code keys ≡ false
none_found code [] h = refl
none_found code (key ∷ keys) h =
    elim (cases_Bool (is_at code key)) [
      | inl here ↦ absurd (cc (rw here at h))
      | inr other ↦ rw other (none_found code keys (rw other at h))
    ]

pub others_none : (code : ℕ) (keys : List HeldKey) → held_at code keys ≡ None → other_keys code keys ≡ keys
others_none code keys h = other_keys-none code keys (none_found code keys h)

found_code : (code : ℕ) (keys : List HeldKey) (key : HeldKey) → held_at code keys ≡ Some key → key.code ≡ code
found_code code [] key h = absurd (cc)
found_code code (k ∷ keys) key h =
    elim (cases_Bool (is_at code k)) [
      | inl here ↦ let same : k ≡ key = cc (rw here at h) in ap (λ (x : HeldKey). x.code) (sym same) ∙ eqb-true k.code code here
      | inr other ↦ found_code code keys key (rw other at h)
    ]

-- a held key stands at a place, and the other keys are those without that place
pub record StandsAt (code : ℕ) (keys : List HeldKey) (key : HeldKey) (place : ℕ) : Type 0 where
  pub within : place < length keys
  pub read : key ≡ get_or keys place key
  pub left : other_keys code keys ≡ remove keys place

abbrev pub place_in : ℕ → List HeldKey → ℕ
place_in code keys = position_or_len (is_at code) keys

pub stands_at : (code : ℕ) (keys : List HeldKey) (key : HeldKey) → AreDistinct keys → held_at code keys ≡ Some key → StandsAt code keys key (place_in code keys)
stands_at code keys key distinct found =
    let got : slice_get keys (place_in code keys) ≡ Some key = sym (find_at (is_at code) keys) ∙ found in
    let within = slice_get_within keys (place_in code keys) key got in
    let read = get_or_from_slice_get keys (place_in code keys) key key got in
    record {
      within = within;
      read = sym read;
      left = sym (remove_is code keys (place_in code keys) key distinct within (ap (λ (x : HeldKey). x.code) read ∙ found_code code keys key found));
    }

-- ---- the base group as the code keeps it

pub record IsSmall (z : ℤ) : Type 0 where
  pub low : negsuc 131071 ≤ℤ z
  pub high : z ≤ℤ pos 131072
  pub fits : SFits w32 z

small_abs : (z : ℤ) → unsigned_abs z ≤ 131072 → IsSmall z
small_abs (pos n) h = record { low = omega (arith, ints); high = omega (arith, ints); fits = record { sfits = omega arith } }
small_abs (negsuc n) h = record { low = omega (arith, ints); high = omega (arith, ints); fits = record { sfits = omega arith } }

pub small_few : (keys : List HeldKey) → length keys ≤ 4096 → All (λ key. action_size key.action ≤ 32) keys → IsSmall (base_group keys)
small_few keys few sizes =
    let size = fold_size (pos 0) keys sizes in
    small_abs (base_group keys) (omega arith)

pub small_group : (keys : List HeldKey) → AreSound keys → IsSmall (base_group keys)
small_group keys sound =
    let few = length-sound keys sound in
    let size = fold_size (pos 0) keys sound.sizes in
    small_abs (base_group keys) (omega arith)

pub kept_small : (z group : ℤ) → IsSmall z → group ≡ z → to_z w32 (of_z w32 group) ≡ z
kept_small z group small same = rw same (to_z-of_z w32 z small.fits)

pub kept_group : (keys : List HeldKey) (group : ℤ) → AreSound keys → group ≡ base_group keys → to_z w32 (of_z w32 group) ≡ base_group keys
kept_group keys group sound same = kept_small (base_group keys) group (small_group keys sound) same

-- ---- counts stay small

fold_count : (bit n : ℕ) (keys : List HeldKey) → fold (λ n k. n + bit_at (held_mods k.action) bit) n keys ≤ n + length keys
fold_count bit n [] = omega arith
fold_count bit n (key ∷ keys) =
    omega (arith, fold_count bit (n + bit_at (held_mods key.action) bit) keys, bit_at-lt (held_mods key.action) bit)

pub count_of-le : (bit : ℕ) (keys : List HeldKey) → AreSound keys → count_of bit keys ≤ 4096
count_of-le bit keys sound = omega (arith, fold_count bit 0 keys, length-sound keys sound)

-- ---- what is left of the counts and the base group

pub count_left : (bit : ℕ) (keys : List HeldKey) (place : ℕ) (key : HeldKey) (left old mods : ℕ) → place < length keys → key ≡ get_or keys place key → mods ≡ held_mods key.action → old ≡ count_of bit keys → left + bit_at mods bit ≡ old → left ≡ count_of bit (remove keys place)
count_left bit keys place key left old mods within read mask before less =
    let parts = sum_by-remove (λ k. bit_at (held_mods k.action) bit) keys place key within in
    let same : bit_at mods bit ≡ bit_at (held_mods (get_or keys place key).action) bit = ap (λ m. bit_at m bit) (mask ∙ ap (λ k. held_mods k.action) read) in
    omega arith

pub count_left_none : (bit : ℕ) (keys : List HeldKey) (place : ℕ) (key : HeldKey) (old : ℕ) → place < length keys → key ≡ get_or keys place key → held_mods key.action ≡ 0 → old ≡ count_of bit keys → old ≡ count_of bit (remove keys place)
count_left_none bit keys place key old within read none before =
    count_left bit keys place key old old 0 within read (sym none) before (omega (arith, bit_at-zero bit))

-- a held key is counted
pub counted_one : (bit : ℕ) (keys : List HeldKey) (place : ℕ) (key : HeldKey) (old mods : ℕ) → place < length keys → key ≡ get_or keys place key → mods ≡ held_mods key.action → old ≡ count_of bit keys → bit_at mods bit ≤ old
counted_one bit keys place key old mods within read mask before =
    let parts = sum_by-remove (λ k. bit_at (held_mods k.action) bit) keys place key within in
    let same : bit_at mods bit ≡ bit_at (held_mods (get_or keys place key).action) bit = ap (λ m. bit_at m bit) (mask ∙ ap (λ k. held_mods k.action) read) in
    omega arith

pub group_left : (keys : List HeldKey) (place : ℕ) (key : HeldKey) → place < length keys → key ≡ get_or keys place key → is_group_held key.action ≡ false → base_group (remove keys place) ≡ base_group keys
group_left keys place key within read other =
    base_group-remove keys place key within (ap (λ k. is_group_held k.action) (sym read) ∙ other)

-- ---- a state is bounded

pub bounded_from : (world : World) → AreSound world.held → IsBounded world
bounded_from world sound =
    let small = small_group world.held sound in
    record {
      distinct = sound.distinct;
      few = length-sound world.held sound;
      counts = λ bit. count_of-le bit world.held sound;
      low = small.low;
      high = small.high;
    }
