-- What all rows of a type show.
use Rattle.std.proofs.Common.{◌≡◌, ℕ, ◌<◌, ◌≤◌, ◌+◌, ◌^◌, ◌&&◌, Bool, true, false, cond, not, List, [], ◌∷◌, Option, None, Some, All, refl, ap, ◌∙◌, subst, arith}
use Rattle.std.specs.List.{find}
use Rattle.std.specs.Option.{IfSome, option_map_or}
use Rattle.std.specs.Int.RustNames.{bit_and}
use Rattle.std.proofs.lemmas.Nat.{and_le_r}
use Rattle.std.proofs.lemmas.List.Elements.{All-head, All-tail}
use Rattle.kx_builder.specs.Resolved.{consumed_mods}
use Rattle.kx_virtual_mods.specs.Sets.{has}
use Rattle.kx_mods.specs.Mods.{mask}
use Rattle.kx_mods.specs.declared.mods.Mods.{Mods}
use Rattle.kx_tables.specs.Keymap.{level_of}
use Rattle.kx_tables.specs.declared.rows.EntryRow.{EntryRow}
use Rattle.kx_types.specs.KeyTypes.{Definition}
use Rattle.kx_types.specs.Lawful.{EntryIsLawful, IsLawful}
use Rattle.kx_types.specs.declared.entry.TypeEntry.{TypeEntry}
use Rattle.kx_keys.specs.Going.{AreAlike, RowsOf, entry_at, row_at}
use Rattle.kx_keys.specs.Rows.{RowsShow, resolved_type}
use Rattle.kx_keys.specs.Selecting.{RealSet, entry_selected, is_selected, preserved_by}
use Rattle.kx_keys.proofs.Bits.{has_and, has_without}

pub find_holds : {X : Type 0} (P : X → Type 0) (p : X → Bool) (xs : List X) → All P xs → IfSome (find p xs) P
find_holds P p [] all = tt
find_holds P p (x ∷ xs) all = elim (p x) as (λ b. IfSome (cond b (Some x) (find p xs)) P) [ true ↦ All-head P x xs all | false ↦ find_holds P p xs (All-tail P x xs all) ]

and_true : (b : Bool) → b ≡ (b && true)
and_true true = refl
and_true false = refl

module _ (real : ℕ → RealSet) where
  level_alike : (row : Option EntryRow) (e : Option TypeEntry) → AreAlike real row e → IfSome e (λ e. 1 ≤ e.level) → level_of row + 1 ≡ option_map_or (λ (e : TypeEntry). e.level) e 1
  level_alike None None same some = refl
  level_alike (Some row) (Some e) same some = let level = same.level_is in omega (arith, level, some)
  level_alike None (Some e) same some = absurd same
  level_alike (Some row) None same some = absurd same

  module _ (t : Definition) (mods : Mods) (rows : List EntryRow) (fits : mask mods < 2 ^ 8) (bits : (r : ℕ) → has (mask mods) r ≡ real t.modifiers r) (all : RowsOf real t.entries rows) where
    chosen_alike : (w : ℕ) → AreAlike real (row_at (bit_and w (mask mods)) rows) (entry_selected real t (has w))
    chosen_alike w =
        let cut : has (bit_and w (mask mods)) ≡ (λ r. has w r && real t.modifiers r) = λ i r. (has_and w (mask mods) r ∙ ap (λ b. has w r && b) (bits r)) i in
        subst (λ s. AreAlike real (row_at (bit_and w (mask mods)) rows) (entry_at real s t.entries)) cut (all.alike (bit_and w (mask mods)) (let less = and_le_r w (mask mods) in omega (arith, less, fits)))

    consumed_alike : (name : List ℕ) (row : Option EntryRow) (e : Option TypeEntry) (r : ℕ) → r < 8 → AreAlike real row e → has (consumed_mods (resolved_type name t mods rows) row) r ≡ (real t.modifiers r && not (preserved_by real e r))
    consumed_alike name None None r within same = bits r ∙ and_true (real t.modifiers r)
    consumed_alike name (Some row) (Some e) r within same = has_without (mask mods) (mask row.preserve) r same.preserve_fit within ∙ (λ i. bits r i && not (same.preserve_are r within i))
    consumed_alike name None (Some e) r within same = absurd same
    consumed_alike name (Some row) None r within same = absurd same

    pub rows_show : IsLawful t → RowsShow real t mods rows
    rows_show lawful = record {
      mods_are = bits;
      levels_are = λ name w low. level_alike (row_at (bit_and w (mask mods)) rows) (entry_selected real t (has w)) (chosen_alike w) (some_level (entry_selected real t (has w)) (find_holds (EntryIsLawful t) (is_selected real t (has w)) t.entries lawful.each_entry));
      consumed_are = λ name w r low within. consumed_alike name (row_at (bit_and w (mask mods)) rows) (entry_selected real t (has w)) r within (chosen_alike w);
    }
      where
        some_level : (o : Option TypeEntry) → IfSome o (EntryIsLawful t) → IfSome o (λ e. 1 ≤ e.level)
        some_level None h = tt
        some_level (Some e) h = h.some_level
