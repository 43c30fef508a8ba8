-- The rows of a type keep the rules of tables.
use Rattle.std.proofs.Common.{◌≡◌, ℕ, ◌<◌, ◌+◌, ◌^◌, ◌%◌, ◌&&◌, ◌||◌, Bool, true, false, nat_eq, List, [], ◌∷◌, length, map, get_or, None, Some, All, refl, sym, ap, ◌∙◌, subst, ⊎_elim, arith}
use Rattle.std.specs.List.{IsDistinct, list_any, slice_get}
use Rattle.std.proofs.lemmas.Bool.{false≢true, cases_lt, eqb-true, eq-eqb}
use Rattle.std.proofs.lemmas.List.{get_or-map, length-map}
use Rattle.std.proofs.lemmas.List.Elements.{All-contains, All-head, All-tail, All-weaker}
use Rattle.std.proofs.lemmas.Map.Keys.{apart_from_distinct}
use Rattle.std.proofs.lemmas.Map.Steps.{length-le_from_distinct_below}
use Rattle.std.proofs.lemmas.Nat.{and_mod}
use Rattle.std.proofs.lemmas.Option.{slice_get_past, slice_get-get_or, same_Some}
use Rattle.kx_builder.specs.Valid.{Apart, EntryIsValid}
use Rattle.kx_virtual_mods.specs.Sets.{any_below, has, has_virtual, meet, real_of, real_part}
use Rattle.kx_virtual_mods.specs.declared.limits.TheConstants.{MOST_VIRTUAL_MODIFIERS}
use Rattle.kx_mods.specs.Mods.{mask}
use Rattle.kx_mods.specs.declared.mods.Mods.{Mods}
use Rattle.kx_tables.specs.declared.rows.EntryRow.{EntryRow}
use Rattle.kx_types.specs.KeyTypes.{Definition}
use Rattle.kx_types.specs.Lawful.{EntryIsLawful, IsLawful}
use Rattle.kx_keys.specs.Going.{ComesOf, RowsOf, mask_of}
use Rattle.kx_keys.specs.Rows.{RowsAreValid, resolved_type}
use Rattle.kx_keys.specs.Selecting.{RealSet}
use Rattle.kx_keys.proofs.Bits.{any_wider, has_and, within_mask}

second : (a b : Bool) → (a && b) ≡ true → b ≡ true
second true b h = h
second false b h = absurd (false≢true h)

both_second : (a b c : Bool) → (a ≡ true → b ≡ true) → (a && c) ≡ true → (b && c) ≡ true
both_second true b c wider h = ap (λ d. d && c) (wider refl) ∙ h
both_second false b c wider h = absurd (false≢true h)

either_wider : (a b c d : Bool) → (a ≡ true → c ≡ true) → (b ≡ true → d ≡ true) → (a || b) ≡ true → (c || d) ≡ true
either_wider true b c d one other h = ap (λ e. e || d) (one refl)
either_wider false b true d one other h = refl
either_wider false b false d one other h = other h

-- what a part of a set stands for, the set stands for
pub stands_wider : (stands : ℕ → RealSet) (a b r : ℕ) → real_of stands (meet a b) r ≡ true → real_of stands b r ≡ true
stands_wider stands a b r h =
    either_wider (has (real_part (meet a b)) r) (any_below MOST_VIRTUAL_MODIFIERS (λ n. has_virtual (meet a b) n && stands n r)) (has (real_part b) r) (any_below MOST_VIRTUAL_MODIFIERS (λ n. has_virtual b n && stands n r))
    (λ e. second (has (a % 2 ^ 8) r) (has (b % 2 ^ 8) r) (sym (ap (λ n. has n r) (and_mod a b 8) ∙ has_and (a % 2 ^ 8) (b % 2 ^ 8) r) ∙ e))
    (any_wider MOST_VIRTUAL_MODIFIERS (λ n. has_virtual (meet a b) n && stands n r) (λ n. has_virtual b n && stands n r) (λ n. both_second (has_virtual (meet a b) n) (has_virtual b n) (stands n r) (λ e. second (has a (n + 8)) (has b (n + 8)) (sym (has_and a b (n + 8)) ∙ e))))
    h

none≢some : {X : Type 0} (x : X) → None ≡ Some x → ⊥
none≢some x e = cc

read_at : (rows : List EntryRow) (i : ℕ) (x : EntryRow) (d : ℕ) → slice_get rows i ≡ Some x → (i < length rows) × (get_or (map mask_of rows) i d ≡ mask_of x)
read_at rows i x d found = ⊎_elim (λ within. (within, get_or-map mask_of rows i x d within ∙ ap mask_of (same_Some (get_or rows i x) x (sym (slice_get-get_or rows i x within) ∙ found)))) (λ past. absurd (none≢some x (sym (slice_get_past rows i past) ∙ found))) (cases_lt i (length rows))

rows_apart : (rows : List EntryRow) → IsDistinct nat_eq (map mask_of rows) → Apart (λ (e : EntryRow). mask e.mods) rows
rows_apart rows distinct i j x y before at earlier same =
    let x_read = read_at rows i x 0 at in
    let y_read = read_at rows j y 0 earlier in
    let still : length (map mask_of rows) ≡ length rows = length-map rows mask_of in
    let inside : i < length (map mask_of rows) = let within = x_read.0 in omega (arith, still, within) in
    false≢true (sym (apart_from_distinct nat_eq (map mask_of rows) j i 0 distinct before inside) ∙ eq-eqb (get_or (map mask_of rows) j 0) (get_or (map mask_of rows) i 0) (y_read.1 ∙ same ∙ sym x_read.1))

small_keys : (rows : List EntryRow) (q : ℕ) → All (λ (row : EntryRow). mask row.mods < 2 ^ 8) rows → list_any (nat_eq q) (map mask_of rows) ≡ true → q < 2 ^ 8
small_keys [] q all there = absurd (false≢true there)
small_keys (row ∷ rows) q all there = by (nat_eq q (mask_of row)) refl (small_keys rows q (All-tail (λ (row : EntryRow). mask row.mods < 2 ^ 8) row rows all))
  where
    by : (b : Bool) → nat_eq q (mask_of row) ≡ b → (list_any (nat_eq q) (map mask_of rows) ≡ true → q < 2 ^ 8) → q < 2 ^ 8
    by true e rest = subst (λ n. n < 2 ^ 8) (sym (eqb-true q (mask_of row) e)) (All-head (λ (row : EntryRow). mask row.mods < 2 ^ 8) row rows all)
    by false e rest = rest (sym (ap (λ c. c || list_any (nat_eq q) (map mask_of rows)) e) ∙ there)

module _ (real : ℕ → RealSet) (wider : (a b r : ℕ) → real (meet a b) r ≡ true → real b r ≡ true) (t : Definition) (mods : Mods) (rows : List EntryRow) (fits : mask mods < 2 ^ 8) (bits : (r : ℕ) → has (mask mods) r ≡ real t.modifiers r) (all : RowsOf real t.entries rows) (lawful : IsLawful t) where
  row_fits : (row : EntryRow) → ComesOf real t.entries row → mask row.mods < 2 ^ 8
  row_fits row comes = comes.2.mods_fit

  row_valid : (name : List ℕ) (row : EntryRow) → ComesOf real t.entries row → EntryIsValid (resolved_type name t mods rows) row
  row_valid name row comes =
      let e = comes.0 in
      let law = All-contains (EntryIsLawful t) t.entries e lawful.each_entry comes.1 in
      let is = comes.2 in
      let level = is.level_is in
      let some = law.some_level in
      let most = law.level in
      record {
        level = record { some_level = omega (arith, level, some); level_within = omega (arith, level, most) };
        mods = is.mods_fit;
        preserve = is.preserve_fit;
        mods_within = within_mask (mask row.mods) (mask mods) is.mods_fit (λ r within h. bits r ∙ wider e.mask t.modifiers r (ap (λ s. real s r) law.within ∙ sym (is.mods_are r within) ∙ h));
        preserve_within = within_mask (mask row.preserve) (mask row.mods) is.preserve_fit (λ r within h. is.mods_are r within ∙ wider e.preserve e.mask r (ap (λ s. real s r) law.preserve_within ∙ sym (is.preserve_are r within) ∙ h));
      }

  pub rows_valid : RowsAreValid t mods rows
  rows_valid name short bytes =
      let small = All-weaker (ComesOf real t.entries) (λ (row : EntryRow). mask row.mods < 2 ^ 8) row_fits rows all.each in
      let few = length-le_from_distinct_below (map mask_of rows) (2 ^ 8) all.apart (λ q there. small_keys rows q small there) in
      let still : length (map mask_of rows) ≡ length rows = length-map rows mask_of in
      record {
        mods = fits;
        some_level = lawful.some_level;
        levels = lawful.few_levels;
        each_entry = All-weaker (ComesOf real t.entries) (EntryIsValid (resolved_type name t mods rows)) (row_valid name) rows all.each;
        entries_apart = rows_apart rows all.apart;
        entries_fit = omega (arith, few, still);
        name_fits = short;
        each_byte = bytes;
      }
