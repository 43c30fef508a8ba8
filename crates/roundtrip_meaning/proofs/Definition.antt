-- A printed key type is the one that was printed.
use Rattle.std.proofs.Common.{◌≡◌, ℕ, ◌≤◌, max, Bool, true, false, cond, ◌==◌, ◌||◌, nat_eq, List, [], ◌∷◌, ◌++◌, map, fold, Option, None, Some, unwrap_or, refl, sym, ap, ap₂, ◌∙◌, arith, append_assoc, append-nil, eqb-true, subst, true≢false}
use Rattle.std.proofs.lemmas.Bool.{eq-eqb, ne_eqb, eqb-false}
use Rattle.std.proofs.lemmas.List.Folds.{list_any-append}
use Rattle.std.proofs.lemmas.List.Sums.{fold-append}
use mathlib.Core.Bool.{or-true}
use Rattle.std.specs.List.{flat_map, list_any}
use Rattle.std.specs.Option.{option_or, option_map_or}
use Rattle.indexmap.specs.IndexSet.{insert_key}
use Rattle.kx_virtual_mods.specs.Sets.{meet}
use Rattle.kx_merge.specs.Last.{last_given}
use Rattle.kx_types.specs.Firsts.{each_once}
use Rattle.kx_types.specs.KeyTypes.{definition_of, written_modifiers, modifiers_of, level_in, levels_of, mask_in, mapped, preserved, entry_of, entries_of}
use Rattle.kx_types.specs.declared.entry.TypeEntry.{TypeEntry}
use Rattle.kx_types.specs.declared.saying.Saying.{Saying}
use Rattle.kx_types.specs.declared.saying.Saying.TheVariants.{Modifiers, Preserve, LevelName}
use Rattle.roundtrip_meaning.specs.Rows.{entry_sayings, sayings, EntriesFit, Apart}

abbrev masks : List TypeEntry → List ℕ
masks es = map (λ (e : TypeEntry). e.mask) es

-- ---- What is given last

abbrev at_entries : {Y : Type 0} → (TypeEntry → Option Y) → Option Y → List TypeEntry → Option Y
at_entries of acc es = fold (λ last e. option_or (of e) last) acc es

entries_last : {Y : Type 0} (f : Saying → Option Y) (of : TypeEntry → Option Y) → ((e : TypeEntry) (acc : Option Y) → fold (λ last x. option_or (f x) last) acc (entry_sayings e) ≡ option_or (of e) acc)
    → (es : List TypeEntry) (acc : Option Y) → fold (λ last x. option_or (f x) last) acc (flat_map entry_sayings es) ≡ at_entries of acc es
entries_last f of each [] acc = refl
entries_last f of each (e ∷ es) acc =
    fold-append (λ last x. option_or (f x) last) acc (entry_sayings e) (flat_map entry_sayings es)
    ∙ ap (λ a. fold (λ last x. option_or (f x) last) a (flat_map entry_sayings es)) (each e acc)
    ∙ entries_last f of each es (option_or (of e) acc)

all_last : {Y : Type 0} (f : Saying → Option Y) (of : TypeEntry → Option Y) → ((e : TypeEntry) (acc : Option Y) → fold (λ last x. option_or (f x) last) acc (entry_sayings e) ≡ option_or (of e) acc)
    → (modifiers levels : ℕ) (es : List TypeEntry) → f (LevelName levels) ≡ None → last_given f None (sayings modifiers levels es) ≡ at_entries of (option_or (f (Modifiers modifiers)) None) es
all_last f of each modifiers levels es silent =
    fold-append (λ last x. option_or (f x) last) (option_or (f (Modifiers modifiers)) None) (flat_map entry_sayings es) (LevelName levels ∷ [])
    ∙ ap (λ o. option_or o (fold (λ last x. option_or (f x) last) (option_or (f (Modifiers modifiers)) None) (flat_map entry_sayings es))) silent
    ∙ entries_last f of each es (option_or (f (Modifiers modifiers)) None)

-- ---- Modifiers and levels

none_of : (e : TypeEntry) (acc : Option ℕ) → fold (λ last x. option_or (written_modifiers x) last) acc (entry_sayings e) ≡ option_or None acc
none_of e acc = by (e.preserve == 0)
  where
    by : (t : Bool) → fold (λ last x. option_or (written_modifiers x) last) acc (cond t [] (Preserve e.mask e.preserve ∷ [])) ≡ acc
    by true = refl
    by false = refl

kept : (acc : Option ℕ) (es : List TypeEntry) → at_entries (λ e. None) acc es ≡ acc
kept acc [] = refl
kept acc (e ∷ es) = kept acc es

pub modifiers_are : (modifiers levels : ℕ) (es : List TypeEntry) → modifiers_of (sayings modifiers levels es) ≡ modifiers
modifiers_are modifiers levels es = ap (λ o. unwrap_or o 0) (all_last written_modifiers (λ e. None) none_of modifiers levels es refl ∙ kept (Some modifiers) es)

most : (levels n : ℕ) (modifiers : ℕ) (es : List TypeEntry) → EntriesFit modifiers levels es → n ≤ levels → fold (λ most s. max most (level_in s)) n (flat_map entry_sayings es) ≤ levels
most levels n modifiers [] fit small = small
most levels n modifiers (e ∷ es) fit small = by (e.preserve == 0)
    (most levels (max n e.level) modifiers es fit.1 (let l = fit.0.level in omega (arith, l))) (most levels (max (max n e.level) 0) modifiers es fit.1 (let l = fit.0.level in omega (arith, l)))
  where
    by : (t : Bool) → fold (λ most s. max most (level_in s)) (max n e.level) (flat_map entry_sayings es) ≤ levels → fold (λ most s. max most (level_in s)) (max (max n e.level) 0) (flat_map entry_sayings es) ≤ levels
        → fold (λ most s. max most (level_in s)) (max n e.level) (cond t [] (Preserve e.mask e.preserve ∷ []) ++ flat_map entry_sayings es) ≤ levels
    by true one two = one
    by false one two = two

pub levels_are : (modifiers levels : ℕ) (es : List TypeEntry) → 1 ≤ levels → EntriesFit modifiers levels es → levels_of (sayings modifiers levels es) ≡ levels
levels_are modifiers levels es some fit =
    let m = most levels (max 1 0) modifiers es fit (omega arith) in
    fold-append (λ most s. max most (level_in s)) (max 1 0) (flat_map entry_sayings es) (LevelName levels ∷ []) ∙ (omega (arith, m))

-- ---- Masks, in order

once : (modifiers : ℕ) (ks : List ℕ) (mask : ℕ) → meet mask modifiers ≡ mask → list_any (nat_eq mask) ks ≡ false → insert_key nat_eq ks (meet mask modifiers) ≡ ks ++ mask ∷ []
once modifiers ks mask within new = ap (insert_key nat_eq ks) within ∙ ap (λ t. cond t ks (ks ++ mask ∷ [])) new

again : (modifiers : ℕ) (ks : List ℕ) (mask : ℕ) → meet mask modifiers ≡ mask → insert_key nat_eq (ks ++ mask ∷ []) (meet mask modifiers) ≡ ks ++ mask ∷ []
again modifiers ks mask within =
    ap (insert_key nat_eq (ks ++ mask ∷ [])) within
    ∙ ap (λ t. cond t (ks ++ mask ∷ []) ((ks ++ mask ∷ []) ++ mask ∷ [])) (list_any-append (nat_eq mask) ks (mask ∷ []) ∙ ap (λ t. list_any (nat_eq mask) ks || (t || false)) (eq-eqb mask mask refl) ∙ or-true (list_any (nat_eq mask) ks))

masks_once : (modifiers levels : ℕ) (ks : List ℕ) (es : List TypeEntry) → EntriesFit modifiers levels es → Apart ks es → fold (λ ks x. option_map_or (insert_key nat_eq ks) (mask_in modifiers x) ks) ks (flat_map entry_sayings es) ≡ ks ++ masks es
masks_once modifiers levels ks [] fit apart = sym (append-nil ks)
masks_once modifiers levels ks (e ∷ es) fit apart =
    by (e.preserve == 0)
    ∙ masks_once modifiers levels (ks ++ e.mask ∷ []) es fit.1 apart.1 ∙ append_assoc ks (e.mask ∷ []) (masks es)
  where
    one : insert_key nat_eq ks (meet e.mask modifiers) ≡ ks ++ e.mask ∷ []
    one = once modifiers ks e.mask fit.0.within apart.0

    two : insert_key nat_eq (insert_key nat_eq ks (meet e.mask modifiers)) (meet e.mask modifiers) ≡ ks ++ e.mask ∷ []
    two = ap (λ ks. insert_key nat_eq ks (meet e.mask modifiers)) one ∙ again modifiers ks e.mask fit.0.within

    by : (t : Bool) → fold (λ ks x. option_map_or (insert_key nat_eq ks) (mask_in modifiers x) ks) (insert_key nat_eq ks (meet e.mask modifiers)) (cond t [] (Preserve e.mask e.preserve ∷ []) ++ flat_map entry_sayings es)
        ≡ fold (λ ks x. option_map_or (insert_key nat_eq ks) (mask_in modifiers x) ks) (ks ++ e.mask ∷ []) (flat_map entry_sayings es)
    by true = ap (λ ks. fold (λ ks x. option_map_or (insert_key nat_eq ks) (mask_in modifiers x) ks) ks (flat_map entry_sayings es)) one
    by false = ap (λ ks. fold (λ ks x. option_map_or (insert_key nat_eq ks) (mask_in modifiers x) ks) ks (flat_map entry_sayings es)) two

pub masks_are : (modifiers levels : ℕ) (es : List TypeEntry) → EntriesFit modifiers levels es → Apart [] es → each_once nat_eq (mask_in modifiers) (sayings modifiers levels es) ≡ masks es
masks_are modifiers levels es fit apart =
    fold-append (λ ks x. option_map_or (insert_key nat_eq ks) (mask_in modifiers x) ks) [] (flat_map entry_sayings es) (LevelName levels ∷ []) ∙ masks_once modifiers levels [] es fit apart

-- ---- Entries

abbrev level_at : ℕ → TypeEntry → Option ℕ
level_at mask e = cond (e.mask == mask) (Some e.level) None

abbrev preserve_at : ℕ → TypeEntry → Option ℕ
preserve_at mask e = cond (e.preserve == 0) None (cond (e.mask == mask) (Some e.preserve) None)

-- an entry as its fields say it, where its mask lies within the modifiers
abbrev Within : ℕ → List TypeEntry → Type 0
Within modifiers [] = Unit {0}
Within modifiers (e ∷ es) = (meet e.mask modifiers ≡ e.mask) × Within modifiers es

levels_from : (modifiers mask : ℕ) (es : List TypeEntry) (acc : Option ℕ) → Within modifiers es → fold (λ last x. option_or (mapped modifiers mask x) last) acc (flat_map entry_sayings es) ≡ at_entries (level_at mask) acc es
levels_from modifiers mask [] acc within = refl
levels_from modifiers mask (e ∷ es) acc within =
    ap (λ m. fold (λ last x. option_or (mapped modifiers mask x) last) (option_or (cond (m == mask) (Some e.level) None) acc) ((cond (e.preserve == 0) [] (Preserve e.mask e.preserve ∷ [])) ++ flat_map entry_sayings es)) within.0
    ∙ by (e.preserve == 0) (option_or (level_at mask e) acc)
    ∙ levels_from modifiers mask es (option_or (level_at mask e) acc) within.1
  where
    by : (t : Bool) (acc : Option ℕ) → fold (λ last x. option_or (mapped modifiers mask x) last) acc (cond t [] (Preserve e.mask e.preserve ∷ []) ++ flat_map entry_sayings es) ≡ fold (λ last x. option_or (mapped modifiers mask x) last) acc (flat_map entry_sayings es)
    by true acc = refl
    by false acc = refl

preserves_from : (modifiers mask : ℕ) (es : List TypeEntry) (acc : Option ℕ) → Within modifiers es → fold (λ last x. option_or (preserved modifiers mask x) last) acc (flat_map entry_sayings es) ≡ at_entries (preserve_at mask) acc es
preserves_from modifiers mask [] acc within = refl
preserves_from modifiers mask (e ∷ es) acc within =
    by (e.preserve == 0) ∙ preserves_from modifiers mask es (option_or (preserve_at mask e) acc) within.1
  where
    by : (t : Bool) → fold (λ last x. option_or (preserved modifiers mask x) last) acc (cond t [] (Preserve e.mask e.preserve ∷ []) ++ flat_map entry_sayings es) ≡ fold (λ last x. option_or (preserved modifiers mask x) last) (option_or (cond t None (cond (e.mask == mask) (Some e.preserve) None)) acc) (flat_map entry_sayings es)
    by true = refl
    by false = ap (λ m. fold (λ last x. option_or (preserved modifiers mask x) last) (option_or (cond (m == mask) (Some e.preserve) None) acc) (flat_map entry_sayings es)) within.0

-- entries of other masks give a mask nothing
others : {Y : Type 0} (of : TypeEntry → Option Y) (mask : ℕ) → ((e : TypeEntry) → (e.mask == mask) ≡ false → of e ≡ None) → (ks : List ℕ) (es : List TypeEntry) (acc : Option Y) → list_any (nat_eq mask) ks ≡ true → Apart ks es → at_entries of acc es ≡ acc
others of mask silent ks [] acc in_ks apart = refl
others of mask silent ks (e ∷ es) acc in_ks apart =
    ap (λ o. at_entries of (option_or o acc) es) (silent e (differ (e.mask == mask) refl))
    ∙ others of mask silent (ks ++ e.mask ∷ []) es acc (list_any-append (nat_eq mask) ks (e.mask ∷ []) ∙ ap (λ t. t || list_any (nat_eq mask) (e.mask ∷ [])) in_ks) apart.1
  where
    differ : (t : Bool) → (e.mask == mask) ≡ t → (e.mask == mask) ≡ false
    differ true same = absurd (true≢false (sym in_ks ∙ ap (λ m. list_any (nat_eq m) ks) (sym (eqb-true e.mask mask same)) ∙ apart.0))
    differ false other = other

level_silent : (mask : ℕ) (e : TypeEntry) → (e.mask == mask) ≡ false → level_at mask e ≡ None
level_silent mask e other = ap (λ t. cond t (Some e.level) None) other

preserve_silent : (mask : ℕ) (e : TypeEntry) → (e.mask == mask) ≡ false → preserve_at mask e ≡ None
preserve_silent mask e other = by (e.preserve == 0)
  where
    by : (t : Bool) → cond t None (cond (e.mask == mask) (Some e.preserve) None) ≡ None
    by true = refl
    by false = ap (λ t. cond t (Some e.preserve) None) other

at_append : {Y : Type 0} (of : TypeEntry → Option Y) (acc : Option Y) (xs ys : List TypeEntry) → at_entries of acc (xs ++ ys) ≡ at_entries of (at_entries of acc xs) ys
at_append of acc [] ys = refl
at_append of acc (x ∷ xs) ys = at_append of (option_or (of x) acc) xs ys

-- entries before it have other masks too
earlier : {Y : Type 0} (of : TypeEntry → Option Y) (mask : ℕ) → ((e : TypeEntry) → (e.mask == mask) ≡ false → of e ≡ None) → (es : List TypeEntry) → list_any (nat_eq mask) (masks es) ≡ false → at_entries of None es ≡ None
earlier of mask silent [] none = refl
earlier of mask silent (e ∷ es) none = by (nat_eq mask e.mask) refl none (earlier of mask silent es)
  where
    by : (t : Bool) → nat_eq mask e.mask ≡ t → (t || list_any (nat_eq mask) (masks es)) ≡ false → (list_any (nat_eq mask) (masks es) ≡ false → at_entries of None es ≡ None) → at_entries of (option_or (of e) None) es ≡ None
    by true is none rest = cc
    by false is none rest = ap (λ o. at_entries of (option_or o None) es) (silent e (ne_eqb e.mask mask (λ same. eqb-false mask e.mask is (sym same)))) ∙ rest none

found : {Y : Type 0} (of : TypeEntry → Option Y) (e : TypeEntry) → ((d : TypeEntry) → (d.mask == e.mask) ≡ false → of d ≡ None) → (before es : List TypeEntry) → Apart (masks before) (e ∷ es) → at_entries of None (before ++ e ∷ es) ≡ option_or (of e) None
found of e silent before es apart =
    at_append of None before (e ∷ es)
    ∙ ap (λ o. at_entries of (option_or (of e) o) es) (earlier of e.mask silent before apart.0)
    ∙ others of e.mask silent (masks before ++ e.mask ∷ []) es (option_or (of e) None) (list_any-append (nat_eq e.mask) (masks before) (e.mask ∷ []) ∙ ap (λ t. list_any (nat_eq e.mask) (masks before) || (t || false)) (eq-eqb e.mask e.mask refl) ∙ or-true (list_any (nat_eq e.mask) (masks before))) apart.1

masks_append : (xs ys : List TypeEntry) → masks (xs ++ ys) ≡ masks xs ++ masks ys
masks_append [] ys = refl
masks_append (x ∷ xs) ys = ap (λ ms. x.mask ∷ ms) (masks_append xs ys)

fit_within : (modifiers levels : ℕ) (es : List TypeEntry) → EntriesFit modifiers levels es → Within modifiers es
fit_within modifiers levels [] fit = tt
fit_within modifiers levels (e ∷ es) fit = (fit.0.within, fit_within modifiers levels es fit.1)

one_entry : (level kept : Option ℕ) (e : TypeEntry) → level ≡ Some e.level → kept ≡ preserve_at e.mask e → meet e.preserve e.mask ≡ e.preserve → (let d : TypeEntry = record { mask = e.mask; level = unwrap_or level 1; preserve = meet (unwrap_or kept 0) e.mask } in d) ≡ e
one_entry level kept e is_level is_kept within = λ i. record { mask = e.mask; level = unwrap_or (is_level i) 1; preserve = (ap (λ o. meet (unwrap_or o 0) e.mask) is_kept ∙ by (e.preserve == 0) refl) i }
  where
    by : (t : Bool) → (e.preserve == 0) ≡ t → meet (unwrap_or (cond t None (cond (e.mask == e.mask) (Some e.preserve) None)) 0) e.mask ≡ e.preserve
    by true none = let zero_is : e.preserve ≡ 0 = eqb-true e.preserve 0 none in ap (λ p. meet p e.mask) (sym zero_is) ∙ within
    by false some = ap (λ t. meet (unwrap_or (cond t (Some e.preserve) None) 0) e.mask) (eq-eqb e.mask e.mask refl) ∙ within

entries_from : (modifiers levels : ℕ) (before es : List TypeEntry) → EntriesFit modifiers levels (before ++ es) → EntriesFit modifiers levels es → Apart (masks before) es → map (entry_of modifiers (sayings modifiers levels (before ++ es))) (masks es) ≡ es
entries_from modifiers levels before [] all fit apart = refl
entries_from modifiers levels before (e ∷ es) all fit apart =
    let within = fit_within modifiers levels (before ++ e ∷ es) all in
    let level : last_given (mapped modifiers e.mask) None (sayings modifiers levels (before ++ e ∷ es)) ≡ Some e.level =
    fold-append (λ last x. option_or (mapped modifiers e.mask x) last) None (flat_map entry_sayings (before ++ e ∷ es)) (LevelName levels ∷ [])
    ∙ levels_from modifiers e.mask (before ++ e ∷ es) None within ∙ found (level_at e.mask) e (level_silent e.mask) before es apart
    ∙ ap (λ t. option_or (cond t (Some e.level) None) None) (eq-eqb e.mask e.mask refl) in
    let kept : last_given (preserved modifiers e.mask) None (sayings modifiers levels (before ++ e ∷ es)) ≡ preserve_at e.mask e =
    fold-append (λ last x. option_or (preserved modifiers e.mask x) last) None (flat_map entry_sayings (before ++ e ∷ es)) (LevelName levels ∷ [])
    ∙ preserves_from modifiers e.mask (before ++ e ∷ es) None within ∙ found (preserve_at e.mask) e (preserve_silent e.mask) before es apart ∙ or_none (preserve_at e.mask e) in
    let same : (before ++ e ∷ []) ++ es ≡ before ++ e ∷ es = append_assoc before (e ∷ []) es in
    ap₂ (λ d ds. d ∷ ds) (one_entry _ _ e level kept fit.0.preserved)
    (ap (λ all. map (entry_of modifiers (sayings modifiers levels all)) (masks es)) (sym same)
    ∙ entries_from modifiers levels (before ++ e ∷ []) es (subst (EntriesFit modifiers levels) (sym same) all) fit.1 (subst (λ ks. Apart ks es) (sym (masks_append before (e ∷ []))) apart.1))
  where
    or_none : (o : Option ℕ) → option_or o None ≡ o
    or_none None = refl
    or_none (Some n) = refl

-- the definition of a printed type is its modifiers, its levels and its entries
pub definition_is : (modifiers levels : ℕ) (es : List TypeEntry) → 1 ≤ levels → EntriesFit modifiers levels es → Apart [] es → definition_of (sayings modifiers levels es) ≡ record { modifiers = modifiers; levels = levels; entries = es }
definition_is modifiers levels es some fit apart = λ i. record {
  modifiers = modifiers_are modifiers levels es i;
  levels = levels_are modifiers levels es some fit i;
  entries = (ap (λ m. entries_of m (sayings modifiers levels es)) (modifiers_are modifiers levels es)
      ∙ ap (map (entry_of modifiers (sayings modifiers levels es))) (masks_are modifiers levels es fit apart)
      ∙ entries_from modifiers levels [] es fit fit apart) i;
}
