-- Tests that compute, by which a list of rows is shown to be an index of the built-in names.
use Rattle.std.proofs.Common.{◌≡◌, ℕ, zero, suc, Bool, true, false, not, ◌&&◌, ◌==◌, List, [], ◌∷◌, get_or, nat_lt, Option, None, Some, Err, length, slice_index, refl, sym, ap, subst, ◌∙◌, add-one, inl, inr, zero-le, eqb-true, cond, arith, find, ◌<◌, ◌≤◌, ◌++◌, ◌||◌, map, nat_le}
use Rattle.std.proofs.lemmas.Bool.{cases_lt, and_parts, ltb-true, leb-true, eqb-false}
use Rattle.std.proofs.lemmas.Cmp.{tied_itself}
use Rattle.std.proofs.lemmas.List.{append-nil, get_or-map, length-map}
use Rattle.std.proofs.lemmas.List.Folds.{Any-from_list_any}
use Rattle.std.proofs.lemmas.List.Sorted.{searchable_from_sorted}
use Rattle.std.proofs.lemmas.List.Sums.{AllPass-from_list_all}
use Rattle.std.proofs.lemmas.Slice.Eq.{bytes_eq-Decides}
use Rattle.std.specs.Cmp.{IsTotalOrder}
use Rattle.std.specs.List.{list_all, list_any, Any}
use Rattle.std.specs.List.Sorted.{IsSortedBy, IsBinarySearchResult}
use Rattle.std.specs.Option.{option_map}
use Rattle.std.specs.Ordering.{is_lt, nat_cmp}
use Rattle.std.specs.declared.cmp.Ordering.{Ordering}
use Rattle.std.specs.declared.cmp.Ordering.TheVariants.{Equal}
use Rattle.std.specs.Str.{bytes_eq}
use Rattle.ks_core.specs.Entry.{Entry, keysym_in, name_in}
use Rattle.ks_core.specs.BuiltIn.{built_in}
use Rattle.ks_core.specs.HashIndex.{IsHashIndex, entry_at, slot_of}
use Rattle.ks_core.specs.Index.{Row, IsKeysymIndex}

-- no row is less than the one before it
unfoldable pub rises : {X : Type 0} → (X → X → Bool) → List X → Bool
rises lt [] = true
rises lt (a ∷ []) = true
rises lt (a ∷ b ∷ rows) = not (lt b a) && rises lt (b ∷ rows)

not-true : (b : Bool) → not b ≡ true → b ≡ false
not-true true h = sym h
not-true false h = refl

sorted-rises : {X : Type 0} (lt : X → X → Bool) (rows : List X) → rises lt rows ≡ true → IsSortedBy lt rows
unfolding rises
sorted-rises lt [] h k d low within = absurd (omega arith)
sorted-rises lt (a ∷ []) h k d low within = absurd (omega arith)
sorted-rises lt (a ∷ b ∷ rows) h zero d low within = not-true (lt b a) (and_parts (not (lt b a)) (rises lt (b ∷ rows)) h).0
sorted-rises lt (a ∷ b ∷ rows) h (suc k) d low within =
    let rest = sorted-rises lt (b ∷ rows) (and_parts (not (lt b a)) (rises lt (b ∷ rows)) h).1 k d zero-le (omega arith) in rw add-one (rw add-one at rest)

-- a search that ends at a place to insert means that no row has the key
module _ {X K : Type 0} {R : K → K → Ordering} (o : IsTotalOrder R) (key : X → K) (rows : List X) (x : K) where
  pub not_found : (i : ℕ) → IsSortedBy (λ a b. is_lt (R (key a) (key b))) rows → IsBinarySearchResult (λ y. R (key y) x) rows (Err i) → Any (λ row. key row ≡ x) rows → ⊥
  not_found i sorted searched found =
      let parts = searched (searchable_from_sorted o key rows x sorted) in
      let equal : R (key (get_or rows found.0 found.1)) x ≡ Equal = ap (λ row. R (key row) x) found.3 ∙ ap (λ k. R k x) found.4 ∙ tied_itself o x in
      elim (cases_lt found.0 i) [
        | inl before ↦ let less = parts.0 found.0 found.1 zero-le before in cc
        | inr after ↦ let greater = parts.1 found.0 found.1 after found.2 in cc
      ]

pub same_bytes : (xs ys : List ℕ) → bytes_eq xs ys ≡ true → xs ≡ ys
same_bytes xs ys = (bytes_eq-Decides xs ys).0

-- the entry that a look-up found, with what is known of each
pub keysym_in-entry : (p : Entry → Bool) (es : List Entry) (name : List ℕ) (keysym : ℕ) → list_all p es ≡ true → keysym_in es name ≡ Some keysym → (e : Entry) × (p e ≡ true) × (e.0 ≡ name) × (e.1 ≡ keysym)
keysym_in-entry p [] name keysym all found = cc
keysym_in-entry p (e ∷ es) name keysym all found = by (keysym_in-entry p es name keysym parts.1) (bytes_eq name e.0) refl
  where
    parts : (p e ≡ true) × (list_all p es ≡ true)
    parts = and_parts (p e) (list_all p es) all

    by : (keysym_in es name ≡ Some keysym → (f : Entry) × (p f ≡ true) × (f.0 ≡ name) × (f.1 ≡ keysym)) → (b : Bool) → bytes_eq name e.0 ≡ b → (f : Entry) × (p f ≡ true) × (f.0 ≡ name) × (f.1 ≡ keysym)
    by rest true here = (e, parts.0, sym (same_bytes name e.0 here), let is : Some e.1 ≡ Some keysym = sym (ap (λ b. cond b (Some e.1) (keysym_in es name)) here) ∙ found in cc)
    by rest false later = rest (sym (ap (λ b. cond b (Some e.1) (keysym_in es name)) later) ∙ found)

pub find-entry : (p : Entry → Bool) (test : Entry → Bool) (es : List Entry) (e : Entry) → list_all p es ≡ true → find test es ≡ Some e → (p e ≡ true) × (test e ≡ true)
find-entry p test [] e all found = cc
find-entry p test (f ∷ es) e all found = by (find-entry p test es e parts.1) (test f) refl
  where
    parts : (p f ≡ true) × (list_all p es ≡ true)
    parts = and_parts (p f) (list_all p es) all

    by : (find test es ≡ Some e → (p e ≡ true) × (test e ≡ true)) → (b : Bool) → test f ≡ b → (p e ≡ true) × (test e ≡ true)
    by rest true here =
        let is : f ≡ e = let some : Some f ≡ Some e = sym (ap (λ b. cond b (Some f) (find test es)) here) ∙ found in cc in
        rw (← is) (parts.0, here)
    by rest false later = rest (sym (ap (λ b. cond b (Some f) (find test es)) later) ∙ found)

unfoldable pub is_keysym : Option ℕ → ℕ → Bool
is_keysym None n = false
is_keysym (Some m) n = m == n

pub is_keysym-true : (o : Option ℕ) (n : ℕ) → is_keysym o n ≡ true → o ≡ Some n
unfolding is_keysym
is_keysym-true None n h = cc
is_keysym-true (Some m) n h = ap Some (eqb-true m n h)

-- places by hash
abbrev pub is_place : ℕ → Bool
is_place place = nat_lt place (length built_in)

abbrev pub has_slot : List ℕ → List ℕ → Entry → Bool
has_slot shifts slots e = bytes_eq (entry_at (slice_index slots (slot_of shifts e.0))).0 e.0

pub hash_index : (shifts slots : List ℕ) → length shifts ≡ 128 → length slots ≡ 512 → list_all is_place slots ≡ true → list_all (has_slot shifts slots) built_in ≡ true → IsHashIndex shifts slots
hash_index shifts slots shifted slotted placed whole =
    record {
      shifted = shifted;
      slotted = slotted;
      placed = λ k d within. ltb-true _ _ (AllPass-from_list_all is_place slots placed k d within);
      whole = λ name keysym found.
          let e = keysym_in-entry (has_slot shifts slots) built_in name keysym whole found in
          let here = same_bytes (entry_at (slice_index slots (slot_of shifts e.0.0))).0 e.0.0 e.1 in
          subst (λ (n : List ℕ). (entry_at (slice_index slots (slot_of shifts n))).0 ≡ n) e.2 here;
    }

-- rows by keysym
abbrev pub keysym_less : Row → Row → Bool
keysym_less a b = is_lt (nat_cmp a.1 b.1)

pub name_in-entry : (p : Entry → Bool) (es : List Entry) (name : List ℕ) (keysym : ℕ) → list_all p es ≡ true → name_in es keysym ≡ Some name → (e : Entry) × (p e ≡ true) × (e.1 ≡ keysym) × (e.0 ≡ name)
name_in-entry p es name keysym all found = by (find (λ (e : Entry). e.1 == keysym) es) refl
  where
    by : (r : Option Entry) → find (λ (e : Entry). e.1 == keysym) es ≡ r → (e : Entry) × (p e ≡ true) × (e.1 ≡ keysym) × (e.0 ≡ name)
    by None none = let absent : name_in es keysym ≡ None = ap (λ r. option_map (λ (e : Entry). e.0) r) none in cc
    by (Some e) some =
        let known = find-entry p (λ (e : Entry). e.1 == keysym) es e all some in
        let named : name_in es keysym ≡ Some e.0 = ap (λ r. option_map (λ (e : Entry). e.0) r) some in
        (e, known.0, eqb-true e.1 keysym known.1, cc)

-- each keysym is at least the number, and more than those before it
unfoldable pub climbs : ℕ → List Entry → Bool
climbs low [] = true
climbs low (e ∷ es) = nat_le low e.1 && climbs (suc e.1) es

climbs-low : (es : List Entry) (low d : ℕ) (o : Entry) → climbs low es ≡ true → d < length es → low ≤ (get_or es d o).1
unfolding climbs
climbs-low [] low d o h within = absurd (omega (arith, within))
climbs-low (e ∷ es) low zero o h within = leb-true low e.1 (and_parts (nat_le low e.1) (climbs (suc e.1) es) h).0
climbs-low (e ∷ es) low (suc d) o h within =
    let parts = and_parts (nat_le low e.1) (climbs (suc e.1) es) h in
    let rest = climbs-low es (suc e.1) d o parts.1 (omega (arith, within)) in
    omega (arith, rest, leb-true low e.1 parts.0)

-- where the keysyms climb, an entry is the first of its keysym
pub first-at : (es more : List Entry) (low d : ℕ) (o : Entry) (keysym : ℕ) → climbs low es ≡ true → d < length es → (get_or es d o).1 ≡ keysym → name_in (es ++ more) keysym ≡ Some (get_or es d o).0
unfolding climbs
first-at [] more low d o keysym h within is = absurd (omega (arith, within))
first-at (e ∷ es) more low zero o keysym h within is = by (e.1 == keysym) refl
  where
    by : (b : Bool) → (e.1 == keysym) ≡ b → name_in (e ∷ es ++ more) keysym ≡ Some e.0
    by true same = ap (λ b. option_map (λ (x : Entry). x.0) (cond b (Some e) (find (λ (x : Entry). x.1 == keysym) (es ++ more)))) same
    by false other = absurd (eqb-false e.1 keysym other is)
first-at (e ∷ es) more low (suc d) o keysym h within is = by (first-at es more (suc e.1) d o keysym parts.1 (omega (arith, within)) is) (e.1 == keysym) refl
  where
    parts : (nat_le low e.1 ≡ true) × (climbs (suc e.1) es ≡ true)
    parts = and_parts (nat_le low e.1) (climbs (suc e.1) es) h

    by : name_in (es ++ more) keysym ≡ Some (get_or es d o).0 → (b : Bool) → (e.1 == keysym) ≡ b → name_in (e ∷ es ++ more) keysym ≡ Some (get_or es d o).0
    by rest true same = let low = climbs-low es (suc e.1) d o parts.1 (omega (arith, within)) in absurd (omega (arith, is, low, eqb-true e.1 keysym same))
    by rest false other =
        ap (λ b. option_map (λ (x : Entry). x.0) (cond b (Some e) (find (λ (x : Entry). x.1 == keysym) (es ++ more)))) other
        ∙ rest

-- the entry of a row
abbrev pub entry_of : Row → Entry
entry_of row = (row.0.now, row.1)

-- a keysym that an entry has is that of a row
row-among : (rows : List Row) (name : List ℕ) (keysym : ℕ) → name_in (map entry_of rows) keysym ≡ Some name → list_any (λ row. row.1 == keysym) rows ≡ true
row-among [] name keysym found = cc
row-among (row ∷ rows) name keysym found = by (row-among rows name keysym) (row.1 == keysym) found
  where
    by : (name_in (map entry_of rows) keysym ≡ Some name → list_any (λ (r : Row). r.1 == keysym) rows ≡ true)
        → (b : Bool) → option_map (λ (x : Entry). x.0) (cond b (Some (entry_of row)) (find (λ (x : Entry). x.1 == keysym) (map entry_of rows))) ≡ Some name
        → (b || list_any (λ (r : Row). r.1 == keysym) rows) ≡ true
    by rest true found = refl
    by rest false found = rest found

-- a row whose keysym is no other's is the one of its keysym
row-right : (rows : List Row) (k : ℕ) (d : Row) → climbs 0 (map entry_of rows) ≡ true → k < length rows → name_in (map entry_of rows) (get_or rows k d).1 ≡ Some (get_or rows k d).0.now
row-right rows k d climb within =
    let at = get_or-map entry_of rows k d (entry_of d) within in
    let count : length (map entry_of rows) ≡ length rows = length-map rows entry_of in
    let first = first-at (map entry_of rows) [] 0 k (entry_of d) (get_or rows k d).1 climb (omega (arith, count, within)) (ap (λ (x : Entry). x.1) at) in
    sym (ap (λ es. name_in es (get_or rows k d).1) (append-nil (map entry_of rows))) ∙ first ∙ ap (λ (x : Entry). Some x.0) at

pub keysym_index : (rows : List Row) → rises keysym_less rows ≡ true → map entry_of rows ≡ built_in → climbs 0 built_in ≡ true → IsKeysymIndex rows
keysym_index rows rise named climb =
    record {
      rising = sorted-rises keysym_less rows rise;
      right = λ k d within.
          let is = row-right rows k d (ap (climbs 0) named ∙ climb) within in sym (ap (λ es. name_in es (get_or rows k d).1) named) ∙ is;
      whole = λ name keysym found.
          let row = Any-from_list_any (λ (row : Row). row.1 == keysym) rows (row-among rows name keysym (ap (λ es. name_in es keysym) named ∙ found)) in
          (row.0, row.1, row.2, row.3, eqb-true row.1.1 keysym row.4);
    }
