-- One entry more.
use Rattle.std.proofs.Common.{◌≡◌, ℕ, ◌<◌, ◌==◌, ◌^◌, ◌&&◌, ◌||◌, ◌++◌, Bool, true, false, cond, nat_eq, List, [], ◌∷◌, map, Option, None, Some, All, refl, sym, ap, ◌∙◌, subst, fold, not, append_assoc, if◌then◌else◌}
use Rattle.std.specs.List.{IsDistinct, find, list_any}
use Rattle.std.specs.Option.{option_or}
use Rattle.std.specs.Cmp.{nat_eq_equiv}
use Rattle.std.proofs.lemmas.Bool.{false≢true, eq-eqb, eqb-false, eqb-true}
use Rattle.std.proofs.lemmas.List.{append-nil}
use Rattle.std.proofs.lemmas.List.Elements.{All-nil, All-push, All-weaker, Contains-append_left, Contains-push}
use Rattle.std.proofs.lemmas.List.Folds.{find-append}
use Rattle.std.proofs.lemmas.Map.Keys.{IsDistinct-push}
use Rattle.kx_virtual_mods.specs.Sets.{has}
use Rattle.kx_mods.specs.Mods.{mask}
use Rattle.kx_tables.specs.declared.rows.EntryRow.{EntryRow}
use Rattle.kx_types.specs.declared.entry.TypeEntry.{TypeEntry}
use Rattle.kx_keys.specs.Going.{AreAlike, ComesOf, IsRowOf, RowsOf, entry_at, mask_of, row_at}
use Rattle.kx_keys.specs.Rows.{entry_rows, has_row, row_of, set_mask, with_entry}
use Rattle.kx_keys.specs.Selecting.{RealSet, are_same, is_live}
use Rattle.kx_keys.proofs.Bits.{has_set, mask_test, set_small}
use Rattle.kx_codes.proofs.Matching.{or-none}

some≢none : {X : Type 0} (x : X) → Some x ≡ None → ⊥
some≢none x e = cc

find_none : {X : Type 0} (p : X → Bool) (xs : List X) → find p xs ≡ None → list_any p xs ≡ false
find_none p [] e = refl
find_none p (x ∷ xs) e = by (p x) refl (find_none p xs)
  where
    by : (b : Bool) → p x ≡ b → (find p xs ≡ None → list_any p xs ≡ false) → (p x || list_any p xs) ≡ false
    by true h rest = absurd (some≢none x (sym (ap (λ c. cond c (Some x) (find p xs)) h) ∙ e))
    by false h rest = ap (λ c. c || list_any p xs) h ∙ rest (sym (ap (λ c. cond c (Some x) (find p xs)) h) ∙ e)

eqb-flips : (m n : ℕ) → nat_eq m n ≡ nat_eq n m
eqb-flips m n = elim (nat_eq m n) as (λ c. nat_eq m n ≡ c → nat_eq m n ≡ nat_eq n m) [
  | true ↦ λ e. e ∙ sym (eq-eqb n m (sym (eqb-true m n e)))
  | false ↦ λ e. elim (nat_eq n m) as (λ c. nat_eq n m ≡ c → nat_eq m n ≡ nat_eq n m) [ true ↦ λ g. absurd (eqb-false m n e (sym (eqb-true n m g))) | false ↦ λ g. e ∙ sym g ] refl
] refl

any_mapped : (m : ℕ) (rows : List EntryRow) → list_any (nat_eq m) (map mask_of rows) ≡ list_any (λ (row : EntryRow). mask row.mods == m) rows
any_mapped m [] = refl
any_mapped m (row ∷ rows) = λ i. eqb-flips m (mask row.mods) i || any_mapped m rows i

map-push : (rows : List EntryRow) (row : EntryRow) → map mask_of (rows ++ row ∷ []) ≡ map mask_of rows ++ mask_of row ∷ []
map-push [] row = refl
map-push (r ∷ rows) row = ap (λ ms. mask_of r ∷ ms) (map-push rows row)

module _ (real : ℕ → RealSet) where
  alike_more : (old new : Option EntryRow) (before more : Option TypeEntry) → AreAlike real old before → (old ≡ None → AreAlike real new more) → AreAlike real (option_or old new) (option_or before more)
  alike_more None new None more same here = here refl
  alike_more (Some row) new (Some e) more same here = same
  alike_more None new (Some e) more same here = absurd same
  alike_more (Some row) new None more same here = absurd same

  each_more : (es : List TypeEntry) (e : TypeEntry) (rows : List EntryRow) → All (ComesOf real es) rows → All (ComesOf real (es ++ e ∷ [])) rows
  each_more es e rows all = All-weaker (ComesOf real es) (ComesOf real (es ++ e ∷ [])) (λ row comes. (comes.0, Contains-append_left es (e ∷ []) comes.0 comes.1, comes.2)) rows all

  is_here : ℕ → TypeEntry → Bool
  is_here w e = is_live real e.mask && are_same (real e.mask) (has w)

  module _ (es : List TypeEntry) (e : TypeEntry) (rows : List EntryRow) (before : RowsOf real es rows) where
    -- where no entry is found that wasn't there the rows stay as they are
    kept : ((w : ℕ) → w < 2 ^ 8 → row_at w rows ≡ None → is_here w e ≡ false) → RowsOf real (es ++ e ∷ []) rows
    unfolding is_here
    kept none = record {
      alike = λ w low.
          let more = alike_more (row_at w rows) None (entry_at real (has w) es) (cond (is_here w e) (Some e) None) (before.alike w low) (λ past. subst (λ b. AreAlike real None (cond b (Some e) None)) (sym (none w low past)) tt) in
          subst (λ o. AreAlike real o (entry_at real (has w) (es ++ e ∷ []))) (or-none (row_at w rows))
          (subst (λ o. AreAlike real (option_or (row_at w rows) None) o) (sym (find-append (is_here w) es (e ∷ []))) more);
      each = each_more es e rows before.each;
      apart = before.apart;
    }

    pub skipped : is_live real e.mask ≡ false → RowsOf real (es ++ e ∷ []) rows
    unfolding is_here
    skipped dead = kept (λ w low past. ap (λ b. b && are_same (real e.mask) (has w)) dead)

    pub doubled : (m : ℕ) → m < 2 ^ 8 → ((r : ℕ) → r < 8 → has m r ≡ real e.mask r) → list_any (λ (row : EntryRow). mask row.mods == m) rows ≡ true → RowsOf real (es ++ e ∷ []) rows
    unfolding is_here
    doubled m small bits there = kept (λ w low past. ap (λ b. is_live real e.mask && b) (sym (mask_test m w (real e.mask) small low bits) ∙ other w past (m == w) refl) ∙ none (is_live real e.mask))
      where
        none : (b : Bool) → (b && false) ≡ false
        none true = refl
        none false = refl

        other : (w : ℕ) → row_at w rows ≡ None → (b : Bool) → (m == w) ≡ b → b ≡ false
        other w past true h = absurd (false≢true (sym (find_none (λ row. mask_of row == w) rows past) ∙ ap (λ n. list_any (λ (row : EntryRow). mask row.mods == n) rows) (sym (eqb-true m w h)) ∙ there))
        other w past false h = refl

    pub added : (row : EntryRow) → is_live real e.mask ≡ true → IsRowOf real e row → list_any (λ (r : EntryRow). mask r.mods == mask row.mods) rows ≡ false → RowsOf real (es ++ e ∷ []) (rows ++ row ∷ [])
    unfolding is_here
    added row lives is absent = record {
      alike = λ w low.
          let same : (mask_of row == w) ≡ is_here w e = mask_test (mask row.mods) w (real e.mask) is.mods_fit low is.mods_are ∙ ap (λ b. b && are_same (real e.mask) (has w)) (sym lives) in
          let more = alike_more (row_at w rows) (cond (mask_of row == w) (Some row) None) (entry_at real (has w) es) (cond (is_here w e) (Some e) None) (before.alike w low)
          (λ past. subst (λ b. AreAlike real (cond (mask_of row == w) (Some row) None) (cond b (Some e) None)) same (both (mask_of row == w))) in
          subst (λ o. AreAlike real o (entry_at real (has w) (es ++ e ∷ []))) (sym (find-append (λ r. mask_of r == w) rows (row ∷ [])))
          (subst (λ o. AreAlike real (option_or (row_at w rows) (cond (mask_of row == w) (Some row) None)) o) (sym (find-append (is_here w) es (e ∷ []))) more);
      each = All-push (ComesOf real (es ++ e ∷ [])) rows row (each_more es e rows before.each) (e, Contains-push es e, is);
      apart = subst (λ ms. IsDistinct nat_eq ms) (sym (map-push rows row)) (IsDistinct-push nat_eq_equiv (map mask_of rows) (mask_of row) before.apart (any_mapped (mask row.mods) rows ∙ absent));
    }
      where
        both : (b : Bool) → AreAlike real (cond b (Some row) None) (cond b (Some e) None)
        both true = is
        both false = tt

  pub no_rows : RowsOf real [] []
  unfolding IsDistinct
  no_rows = record { alike = λ w low. tt; each = All-nil (ComesOf real []); apart = tt }

  is_row : (e : TypeEntry) → IsRowOf real e (row_of real e)
  is_row e = record {
    mods_are = λ r within. has_set (real e.mask) r within;
    level_is = refl;
    preserve_are = λ r within. has_set (real e.preserve) r within;
    mods_fit = set_small (real e.mask);
    preserve_fit = set_small (real e.preserve);
  }

  -- one entry more
  entry_more : (es : List TypeEntry) (e : TypeEntry) (rows : List EntryRow) → RowsOf real es rows → RowsOf real (es ++ e ∷ []) (with_entry real rows e)
  entry_more es e rows before = by (is_live real e.mask) refl (has_row real (set_mask (real e.mask)) rows) refl
    where
      by : (live : Bool) → is_live real e.mask ≡ live → (there : Bool) → has_row real (set_mask (real e.mask)) rows ≡ there → RowsOf real (es ++ e ∷ []) (if live && not there then rows ++ row_of real e ∷ [] else rows)
      by false dead there is = skipped es e rows before dead
      by true lives true is = doubled es e rows before (set_mask (real e.mask)) (set_small (real e.mask)) (has_set (real e.mask)) is
      by true lives false is = added es e rows before (row_of real e) lives (is_row e) is

  entries_more : (before after : List TypeEntry) (rows : List EntryRow) → RowsOf real before rows → RowsOf real (before ++ after) (fold (with_entry real) rows after)
  entries_more before [] rows so_far = subst (λ es. RowsOf real es rows) (sym (append-nil before)) so_far
  entries_more before (e ∷ after) rows so_far =
      subst (λ es. RowsOf real es (fold (with_entry real) (with_entry real rows e) after)) (append_assoc before (e ∷ []) after)
      (entries_more (before ++ e ∷ []) after (with_entry real rows e) (entry_more before e rows so_far))

  pub rows_hold : (es : List TypeEntry) → RowsOf real es (entry_rows real es)
  rows_hold es = entries_more [] es [] no_rows
