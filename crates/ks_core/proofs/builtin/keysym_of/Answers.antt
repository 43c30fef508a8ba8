use Rattle.std.proofs.Common.{◌≡◌, ℕ, ◌+◌, ◌<◌, ◌≤◌, ◌%◌, ⊎_elim, true, false, List, [], Option, None, Some, get_or, length, map, slice_index, sym, ap, ◌∙◌, refl, subst, arith}
use Rattle.std.proofs.lemmas.Bool.{both_ways, eqb-true}
use Rattle.std.proofs.lemmas.List.{get_or-map, length-map}
use Rattle.std.proofs.lemmas.Slice.Eq.{bytes_eq-Decides}
use Rattle.std.specs.Str.{bytes_eq}
use Rattle.ks_core.specs.Entry.{Entry, keysym_in}
use Rattle.ks_core.specs.BuiltIn.{built_in}
use Rattle.ks_core.specs.HashIndex.{IsHashIndex, entry_at, slot_of}
use Rattle.ks_core.specs.Index.{Row}
use Rattle.ks_core.proofs.BuiltInLemmas.{built_in-found, built_in-short_ascii, built_in-written_back}
use Rattle.ks_core.proofs.builtin.keysym_of.Goals as goal

-- no built-in name is empty or longer than 20 bytes
not_built_in : (name : List ℕ) → (0 < length name → length name ≤ 20 → ⊥) → None ≡ keysym_in built_in name
not_built_in name other = by (keysym_in built_in name) refl
  where
    by : (r : Option ℕ) → keysym_in built_in name ≡ r → None ≡ r
    by None none = refl
    by (Some keysym) some = let is = built_in-short_ascii name keysym some in absurd (other is.some is.short)

-- where the slot has the place of another name
not_in_slot : (shifts slots name : List ℕ) (place : ℕ) → IsHashIndex shifts slots → place ≡ slice_index slots (slot_of shifts name) → bytes_eq name (entry_at place).0 ≡ false → None ≡ keysym_in built_in name
not_in_slot shifts slots name place index at other = by (keysym_in built_in name) refl
  where
    by : (r : Option ℕ) → keysym_in built_in name ≡ r → None ≡ r
    by None none = refl
    by (Some keysym) some =
        let here : (entry_at place).0 ≡ name = ap (λ (i : ℕ). (entry_at i).0) at ∙ index.whole name keysym some in
        absurd (both_ways (bytes_eq name (entry_at place).0) other ((bytes_eq-Decides name (entry_at place).0).1 (sym here)))

-- where it has that of the name
in_slot : (name : List ℕ) (place : ℕ) → place < length built_in → bytes_eq name (entry_at place).0 ≡ true → keysym_in built_in name ≡ Some (entry_at place).1
in_slot name place within same =
    let is : name ≡ (entry_at place).0 = (bytes_eq-Decides name (entry_at place).0).0 same in ap (keysym_in built_in) is ∙ built_in-found place within

abbrev no_row : Row
no_row = (record { ref_ptr = (0, 0); now = [] }, 0)

abbrev named : Row → Entry
named row = (row.0.now, row.1)

-- each row is the name at its place
row_at : (rows : List Row) → map named rows ≡ built_in → (place : ℕ) → place < length built_in → named (get_or rows place no_row) ≡ entry_at place
row_at rows are place within =
    let all : length rows ≡ length built_in = sym (length-map rows named) ∙ ap length are in
    sym (get_or-map named rows place no_row ([], 0) (omega (arith, all, within))) ∙ ap (λ es. get_or es place ([], 0)) are

pub returns-then-is_empty-clause-value : goal.returns-then-is_empty-clause-value
returns-then-is_empty-clause-value c = not_built_in c.args.name.now (λ some short. ⊎_elim (λ empty. no_bytes empty some) (λ long. absurd (omega (arith, long.1))) c.then-is_empty.either)
  where
    no_bytes : c.is_empty.result ≡ true → 0 < length c.args.name.now → ⊥
    no_bytes empty some = let none = eqb-true (length c.args.name.now) 0 (sym c.is_empty.ensures ∙ empty) in omega arith

-- each slot has the place of a built-in name
is_place : {shifts slots : List ℕ} → IsHashIndex shifts slots → (slot place : ℕ) → slot < 512 → place ≡ slice_index slots slot → place < length built_in
is_place index slot place within at = subst (λ (p : ℕ). p < length built_in) (sym at) (index.placed slot 0 (let slotted = index.slotted in omega (arith, within)))

found : (c : goal.Then-same_name) → keysym_in built_in c.args.name.now ≡ Some (get_or c.by_keysym.result.now c.from-2.result no_row).1
found c =
    let within = is_place c.by_hash-index.ensures ((c.hash_of-hash.result + c.from.result) % 512) c.from-2.result (omega arith) c.from-2.ensures in
    let here = row_at c.by_keysym.result.now c.by_keysym.ensures.names c.from-2.result within in
    in_slot c.args.name.now c.from-2.result within
    (ap (bytes_eq c.args.name.now) (sym (c.as_bytes.ensures.value ∙ ap (λ (e : Entry). e.0) here)) ∙ sym c.same_name.ensures ∙ c.if-same_name.true)
    ∙ ap Some (sym (ap (λ (e : Entry). e.1) here))

pub returns-then-same_name-clause-value : goal.returns-then-same_name-clause-value
returns-then-same_name-clause-value c = sym (found c)

pub returns-then-same_name-clause-within : goal.returns-then-same_name-clause-within
returns-then-same_name-clause-within c = built_in-written_back c.args.name.now _ (found c)

pub returns-then-same_name-clause-ascii : goal.returns-then-same_name-clause-ascii
returns-then-same_name-clause-ascii c = (built_in-short_ascii c.args.name.now _ (found c)).ascii

pub returns-else-same_name-clause-value : goal.returns-else-same_name-clause-value
unfolding slot_of
returns-else-same_name-clause-value c =
    let shifts = c.by_hash-index.result.shifts.now in
    let slots = c.by_hash-index.result.slots.now in
    let slot : (c.hash_of-hash.result + c.from.result) % 512 ≡ slot_of shifts c.args.name.now =
    rw (c.from.ensures, c.hash_of-hash.ensures.value) refl in
    let at : c.from-2.result ≡ slice_index slots (slot_of shifts c.args.name.now) = c.from-2.ensures ∙ ap (slice_index slots) slot in
    let within = is_place c.by_hash-index.ensures ((c.hash_of-hash.result + c.from.result) % 512) c.from-2.result (omega arith) c.from-2.ensures in
    let here = row_at c.by_keysym.result.now c.by_keysym.ensures.names c.from-2.result within in
    not_in_slot shifts slots c.args.name.now c.from-2.result c.by_hash-index.ensures at
    (ap (bytes_eq c.args.name.now) (sym (c.as_bytes.ensures.value ∙ ap (λ (e : Entry). e.0) here)) ∙ sym c.same_name.ensures ∙ c.if-same_name.false)
