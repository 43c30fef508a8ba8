-- The types of a printed text are those that were printed.
use Rattle.std.proofs.Common.{◌≡◌, ◌≢◌, ℕ, ◌<◌, ◌==◌, ◌^◌, ◌&&◌, ◌||◌, not, false, cond, List, [], ◌∷◌, ◌++◌, Some, map, fold, unwrap_or, refl, sym, ap, ap₂, ◌∙◌, append_assoc, append-nil}
use Rattle.std.proofs.lemmas.Bool.{ne_eqb}
use Rattle.std.proofs.lemmas.List.Folds.{list_any-append}
use Rattle.std.specs.List.{list_any}
use Rattle.kx_builder.specs.Resolved.{ResolvedType}
use Rattle.kx_keys.specs.Rows.{has_row, row_of, with_entry}
use Rattle.kx_keys.specs.Selecting.{RealSet}
use Rattle.kx_virtual_mods.specs.Sets.{has}
use Rattle.kx_mods.specs.Mods.{mask}
use Rattle.kx_keys.specs.Keys.{type_of, type_with}
use Rattle.kx_tables.specs.declared.rows.EntryRow.{EntryRow}
use Rattle.roundtrip_meaning.proofs.ResolvingMasks.{live_again, mask_again, mods_again}
use Rattle.roundtrip_text.specs.Source.{AreApart, EachOf, EntryFits, TypeFits}
use Rattle.kx_keys.specs.Typing.{Typing}
use Rattle.roundtrip_meaning.specs.Types.{definition_seen, entry_seen}

module _ (real : ℕ → RealSet) (real_is : (set r : ℕ) → set < 2 ^ 8 → r < 8 → real set r ≡ has set r) where
  row_again : (t : ResolvedType) (e : EntryRow) → EntryFits t e → row_of real (entry_seen e) ≡ e
  row_again t e fits = λ i. record {
    mods = mods_again e.mods (real (mask e.mods)) fits.mods (λ r less. real_is (mask e.mods) r fits.mods less) i;
    level = e.level;
    preserve = mods_again e.preserve (real (mask e.preserve)) fits.preserve (λ r less. real_is (mask e.preserve) r fits.preserve less) i;
  }

  -- none of the rows before has the modifiers
  abbrev IsNew : List EntryRow → EntryRow → Type 0
  IsNew rows e = list_any (λ (row : EntryRow). mask row.mods == mask e.mods) rows ≡ false

  entry_again : (t : ResolvedType) (rows : List EntryRow) (e : EntryRow) → EntryFits t e → IsNew rows e → with_entry real rows (entry_seen e) ≡ rows ++ e ∷ []
  entry_again t rows e fits new =
      ap₂ (λ live there. cond (live && not there) (rows ++ row_of real (entry_seen e) ∷ []) rows)
      (live_again real (mask e.mods) fits.mods (λ r less. real_is (mask e.mods) r fits.mods less))
      (ap (λ m. has_row real m rows) (mask_again (mask e.mods) (real (mask e.mods)) fits.mods (λ r less. real_is (mask e.mods) r fits.mods less)) ∙ new)
      ∙ ap (λ row. rows ++ row ∷ []) (row_again t e fits)

  news : (rows : List EntryRow) (e : EntryRow) (es : List EntryRow) → EachOf (λ (d : EntryRow). mask e.mods ≢ mask d.mods) es → EachOf (IsNew rows) es → EachOf (IsNew (rows ++ e ∷ [])) es
  news rows e [] apart new = tt
  news rows e (d ∷ es) apart new =
      (list_any-append (λ (row : EntryRow). mask row.mods == mask d.mods) rows (e ∷ []) ∙ ap₂ (λ a b. a || (b || false)) new.0 (ne_eqb (mask e.mods) (mask d.mods) apart.0), news rows e es apart.1 new.1)

  entries_behind : (t : ResolvedType) (rows es : List EntryRow) → EachOf (EntryFits t) es → EachOf (IsNew rows) es → AreApart (λ (e : EntryRow). mask e.mods) es → fold (with_entry real) rows (map entry_seen es) ≡ rows ++ es
  entries_behind t rows [] fit new apart = sym (append-nil rows)
  entries_behind t rows (e ∷ es) fit new apart =
      ap (λ more. fold (with_entry real) more (map entry_seen es)) (entry_again t rows e fit.0 new.0)
      ∙ entries_behind t (rows ++ e ∷ []) es fit.1 (news rows e es apart.0 new.1) apart.1
      ∙ append_assoc rows (e ∷ []) es

  all_new : (es : List EntryRow) → EachOf (IsNew []) es
  all_new [] = tt
  all_new (e ∷ es) = (refl, all_new es)

  -- a type is again what was printed
  pub type_again : (t : ResolvedType) → TypeFits t → type_with real t.name (definition_seen t) ≡ t
  type_again t fits = λ i. record {
    name = t.name;
    mods = mods_again t.mods (real (mask t.mods)) fits.mods (λ r less. real_is (mask t.mods) r fits.mods less) i;
    levels = t.levels;
    entries = entries_behind t [] t.entries fits.entries (all_new t.entries) fits.apart i;
  }

  module _ (typing : Typing) where
    abbrev IsDeclared : ResolvedType → Type 0
    IsDeclared t = typing.declared t.name ≡ Some (definition_seen t)

    pub named_type_again : (t : ResolvedType) → TypeFits t → IsDeclared t → type_of real typing t.name ≡ t
    named_type_again t fits is = ap (λ o. type_with real t.name (unwrap_or o (record { modifiers = 0; levels = 1; entries = [] }))) is ∙ type_again t fits

    pub types_again : (ts : List ResolvedType) → EachOf TypeFits ts → EachOf IsDeclared ts → map (type_of real typing) (map (λ (t : ResolvedType). t.name) ts) ≡ ts
    types_again [] fit is = refl
    types_again (t ∷ ts) fit is = ap₂ (λ u us. u ∷ us) (named_type_again t fit.0 is.0) (types_again ts fit.1 is.1)
