-- The types that a printed section declares.
use Rattle.std.proofs.Common.{◌≡◌, ◌≢◌, ℕ, ◌<◌, ◌≤◌, ◌^◌, nat_eq, Bool, true, false, cond, ◌||◌, ◌&&◌, ◌==◌, List, [], ◌∷◌, ◌++◌, length, map, codes, Some, refl, sym, ap, ap₂, ◌∙◌, arith, append-nil}
use Rattle.std.proofs.lemmas.Bool.{le-ltb, lt-ltb, le-leb, ne_eqb}
use Rattle.std.proofs.lemmas.List.Folds.{list_any-append}
use Rattle.std.proofs.lemmas.Slice.Eq.{bytes_eq-Decides}
use Rattle.std.proofs.lemmas.List.Concat.{flat_map_single}
use Rattle.std.specs.List.{flat_map, list_any}
use Rattle.std.specs.Option.{option_to_list, option_map, option_map_or}
use Rattle.std.specs.Str.{bytes_eq}
use Rattle.kx_basics.specs.declared.limits.TheConstants.{MOST_NAME_BYTES}
use Rattle.kx_builder.specs.Resolved.{ResolvedType}
use Rattle.kx_include.specs.Expansion.{Body, Begin, End}
use Rattle.kx_include.specs.IncludeFaults.{at}
use Rattle.kx_include.specs.declared.place.Place.{Place}
use Rattle.kx_lex.specs.declared.fault.Fault.{Fault}
use Rattle.kx_lex.specs.declared.fault.Fault.TheVariants.{BadValue, TooMany, LevelRange}
use Rattle.kx_lex.specs.declared.name.Name.{Name}
use Rattle.kx_merge.specs.Bodies.{no_moves}
use Rattle.kx_merge.specs.Offers.{value_of}
use Rattle.kx_mods.specs.Mods.{mask}
use Rattle.kx_mods.specs.declared.mods.Mods.{Mods}
use Rattle.kx_tree.specs.declared.tree.Expression.{Expression}
use Rattle.kx_tree.specs.declared.tree.Field.{Field}
use Rattle.kx_tree.specs.declared.tree.FieldPlace.{FieldPlace}
use Rattle.kx_tree.specs.declared.tree.Stated.{Stated}
use Rattle.kx_tree.specs.declared.tree.Mode.TheVariants.{Override}
use Rattle.kx_tree.specs.declared.tree.Setting.{Setting}
use Rattle.kx_tables.specs.declared.rows.EntryRow.{EntryRow}
use Rattle.kx_types.specs.KeyTypes.{definition_of}
use Rattle.kx_types.specs.TypeFaults.{stated_faults, type_in}
use Rattle.kx_types.specs.TypeFields.{field_faults, saying_of, sayings_of, text_faults}
use Rattle.kx_types.specs.Types.{TypeOffer, type_offer, type_rules, said_offers, type_names, written_name, type_offers, declared_type, types_faults}
use Rattle.kx_types.specs.declared.limits.TheConstants.{MOST_TYPES}
use Rattle.kx_types.specs.declared.saying.Saying.{Saying}
use Rattle.kx_types.specs.declared.saying.Saying.TheVariants.{Modifiers, Map, Preserve, LevelName}
use Rattle.kx_merge.specs.Numbers.{number_faults, number_named, is_within}
use Rattle.kx_merge.specs.declared.numbers.Counted.TheVariants.{Level}
use Rattle.roundtrip_meaning.specs.Bodies.{own_body}
use Rattle.roundtrip_meaning.proofs.Offered.{shown_with, each_from, offers_shown, faults_shown, value_of_one}
use Rattle.roundtrip_text.specs.Source.{EachOf, AreApart, EntryFits, TypeFits}
use Rattle.roundtrip_tree.specs.Shows.{AreShown, IsStated, none, more, name_at}
use Rattle.roundtrip_tree.specs.ShowsLines.{Line, Quoted, Set, SetAt, IsLine}
use Rattle.roundtrip_tree.specs.Types.{mods_written, number_written, entry_shown, type_lines, IsType}
use Rattle.roundtrip_meaning.specs.Rows.{EntriesFit, Apart, entry_sayings, sayings}
use Rattle.roundtrip_meaning.specs.Types.{entry_seen, definition_seen}
use Rattle.roundtrip_tree.proofs.Statements.{stated_as}
use Rattle.roundtrip_meaning.proofs.Counted.{few_names}
use Rattle.roundtrip_meaning.proofs.Definition.{definition_is}
use Rattle.roundtrip_meaning.proofs.Masks.{mods_set, mods_faultless}

-- ---- What lines say

-- whatever field shows the line
record Says (l : Line) (s : Saying) : Type 0 where
  saying : (f : Field) → IsLine l f → saying_of [] f ≡ Some s
  faultless : (file : ℕ) (f : Field) → IsLine l f → field_faults [] file f ≡ []

pub placed : {A : Type 0} (of : Field → A) (f : Field) {p : FieldPlace} {s : Setting} → f.place ≡ p → f.setting ≡ s → of f ≡ of (record f { place = p; setting = s })
placed of f place_is setting_is = ap₂ (λ (p : FieldPlace) (s : Setting). of (record f { place = p; setting = s })) place_is setting_is

-- a level in range
level_faultless : (file n : ℕ) (e : Expression) → 1 ≤ n → n ≤ 64 → number_named Level e ≡ Some n → number_faults file Level e ≡ []
level_faultless file n e some few is =
    ap (λ o. option_map_or (λ n. let fs : List Fault = cond (is_within Level n) [] (LevelRange (at file e.span) ∷ []) in fs) o (BadValue (at file e.span) ∷ [])) is
    ∙ ap₂ (λ a b. let fs : List Fault = cond (a && b) [] (LevelRange (at file e.span) ∷ []) in fs) (lt-ltb 0 n some) (le-leb n 64 few)

modifiers_says : (mods : Mods) → mask mods < 2 ^ 8 → Says (Set (codes "modifiers") (mods_written mods)) (Modifiers (mask mods))
modifiers_says mods small = record {
  saying = λ f is. placed (saying_of []) f is.place_is is.setting_is ∙ ap (λ m. Some (Modifiers m)) (mods_set mods is.expression small is.is);
  faultless = λ file f is. placed (field_faults [] file) f is.place_is is.setting_is ∙ mods_faultless file mods is.expression small is.is;
}

map_says : (mods : Mods) (level : ℕ) → mask mods < 2 ^ 8 → 1 ≤ level → level ≤ 64 → Says (SetAt (codes "map") (mods_written mods) (number_written level)) (Map (mask mods) level)
map_says mods level small some few = record {
  saying = λ f is. placed (saying_of []) f is.place_is is.setting_is ∙ ap₂ (λ m o. option_map (Map m) o) (mods_set mods is.at small is.at_is) (ap (number_named Level) is.is.2);
  faultless = λ file f is.
      placed (field_faults [] file) f is.place_is is.setting_is
      ∙ ap₂ (λ (a b : List Fault). a ++ b) (mods_faultless file mods is.at small is.at_is) (level_faultless file level is.expression some few (ap (number_named Level) is.is.2));
}

preserve_says : (mods kept : Mods) → mask mods < 2 ^ 8 → mask kept < 2 ^ 8 → Says (SetAt (codes "preserve") (mods_written mods) (mods_written kept)) (Preserve (mask mods) (mask kept))
preserve_says mods kept small kept_small = record {
  saying = λ f is. placed (saying_of []) f is.place_is is.setting_is ∙ ap₂ (λ m k. Some (Preserve m k)) (mods_set mods is.at small is.at_is) (mods_set kept is.expression kept_small is.is);
  faultless = λ file f is.
      placed (field_faults [] file) f is.place_is is.setting_is
      ∙ ap₂ (λ (a b : List Fault). a ++ b) (mods_faultless file mods is.at small is.at_is) (mods_faultless file kept is.expression kept_small is.is);
}

level_says : (level : ℕ) → 1 ≤ level → level ≤ 64 → Says (SetAt (codes "level_name") (number_written level) (Quoted [])) (LevelName level)
level_says level some few = record {
  saying = λ f is. placed (saying_of []) f is.place_is is.setting_is ∙ ap (λ e. option_map LevelName (number_named Level e)) is.at_is.2;
  faultless = λ file f is.
      placed (field_faults [] file) f is.place_is is.setting_is
      ∙ ap₂ (λ (a b : List Fault). a ++ b) (level_faultless file level is.at some few (ap (number_named Level) is.at_is.2)) (ap (text_faults file) is.is.2);
}

-- ---- All lines of a type

abbrev AreSaid : List Line → List Saying → Type 0
AreSaid [] [] = Unit {0}
AreSaid [] (s ∷ ss) = ⊥
AreSaid (l ∷ ls) [] = ⊥
AreSaid (l ∷ ls) (s ∷ ss) = Says l s × AreSaid ls ss

said-append : (ls : List Line) (ss : List Saying) (ks : List Line) (rs : List Saying) → AreSaid ls ss → AreSaid ks rs → AreSaid (ls ++ ks) (ss ++ rs)
said-append [] [] ks rs a b = b
said-append [] (s ∷ ss) ks rs a b = absurd a
said-append (l ∷ ls) [] ks rs a b = absurd a
said-append (l ∷ ls) (s ∷ ss) ks rs a b = (a.0, said-append ls ss ks rs a.1 b)

sayings_shown : (ls : List Line) (ss : List Saying) (fs : List Field) → AreSaid ls ss → AreShown IsLine ls fs → sayings_of [] fs ≡ ss
sayings_shown [] [] [] said none = refl
sayings_shown [] (s ∷ ss) fs said are = absurd said
sayings_shown [] [] (f ∷ fs) said are = elim are [ ]
sayings_shown (l ∷ ls) ss [] said are = elim are [ ]
sayings_shown (l ∷ ls) [] (f ∷ fs) said are = absurd said
sayings_shown (l ∷ ls) (s ∷ ss) (f ∷ fs) said (more one are) = ap₂ (λ o rest. option_to_list o ++ rest) (said.0.saying f one) (sayings_shown ls ss fs said.1 are)

fields_faultless : (file : ℕ) (ls : List Line) (ss : List Saying) (fs : List Field) → AreSaid ls ss → AreShown IsLine ls fs → flat_map (field_faults [] file) fs ≡ []
fields_faultless file [] [] [] said none = refl
fields_faultless file [] (s ∷ ss) fs said are = absurd said
fields_faultless file [] [] (f ∷ fs) said are = elim are [ ]
fields_faultless file (l ∷ ls) ss [] said are = elim are [ ]
fields_faultless file (l ∷ ls) [] (f ∷ fs) said are = absurd said
fields_faultless file (l ∷ ls) (s ∷ ss) (f ∷ fs) said (more one are) = ap₂ (λ (a b : List Fault). a ++ b) (said.0.faultless file f one) (fields_faultless file ls ss fs said.1 are)

entry_said : (t : ResolvedType) (e : EntryRow) → TypeFits t → EntryFits t e → AreSaid (entry_shown e) (entry_sayings (entry_seen e))
entry_said t e fits of = (map_says e.mods e.level of.mods of.some_level (let most = fits.levels in let within = of.level in omega (arith, most, within)), by (mask e.preserve == 0))
  where
    by : (b : Bool) → AreSaid (cond b [] (SetAt (codes "preserve") (mods_written e.mods) (mods_written e.preserve) ∷ [])) (cond b [] (Preserve (mask e.mods) (mask e.preserve) ∷ []))
    by true = tt
    by false = (preserve_says e.mods e.preserve of.mods of.preserve, tt)

entries_said : (t : ResolvedType) (es : List EntryRow) → TypeFits t → EachOf (EntryFits t) es → AreSaid (flat_map entry_shown es) (flat_map entry_sayings (map entry_seen es))
entries_said t [] fits each = tt
entries_said t (e ∷ es) fits each = said-append (entry_shown e) (entry_sayings (entry_seen e)) (flat_map entry_shown es) (flat_map entry_sayings (map entry_seen es)) (entry_said t e fits each.0) (entries_said t es fits each.1)

abbrev sayings_seen : ResolvedType → List Saying
sayings_seen t = sayings (mask t.mods) t.levels (map entry_seen t.entries)

type_said : (t : ResolvedType) → TypeFits t → AreSaid (type_lines t) (sayings_seen t)
type_said t fits = (
  modifiers_says t.mods fits.mods,
  said-append (flat_map entry_shown t.entries) (flat_map entry_sayings (map entry_seen t.entries)) (SetAt (codes "level_name") (number_written t.levels) (Quoted []) ∷ []) (LevelName t.levels ∷ [])
      (entries_said t t.entries fits fits.entries) (level_says t.levels fits.some_level fits.levels, tt),
)

-- ---- The definition

entries_fit : (t : ResolvedType) (es : List EntryRow) → EachOf (EntryFits t) es → EntriesFit (mask t.mods) t.levels (map entry_seen es)
entries_fit t [] each = tt
entries_fit t (e ∷ es) each = (record { within = each.0.within; preserved = each.0.preserve_within; level = each.0.level }, entries_fit t es each.1)

abbrev NewMasks : List ℕ → List EntryRow → Type 0
NewMasks ks es = EachOf (λ (e : EntryRow). list_any (nat_eq (mask e.mods)) ks ≡ false) es

masks_behind : (ks : List ℕ) (k : ℕ) (es : List EntryRow) → NewMasks ks es → EachOf (λ (e : EntryRow). k ≢ mask e.mods) es → NewMasks (ks ++ k ∷ []) es
masks_behind ks k [] new other = tt
masks_behind ks k (e ∷ es) new other =
    (list_any-append (nat_eq (mask e.mods)) ks (k ∷ []) ∙ ap₂ (λ a b. a || (b || false)) new.0 (ne_eqb (mask e.mods) k (λ same. other.0 (sym same))), masks_behind ks k es new.1 other.1)

masks_apart : (ks : List ℕ) (es : List EntryRow) → NewMasks ks es → AreApart (λ (e : EntryRow). mask e.mods) es → Apart ks (map entry_seen es)
masks_apart ks [] new apart = tt
masks_apart ks (e ∷ es) new apart = (new.0, masks_apart (ks ++ mask e.mods ∷ []) es (masks_behind ks (mask e.mods) es new.1 apart.0) apart.1)

no_masks : (es : List EntryRow) → NewMasks [] es
no_masks [] = tt
no_masks (e ∷ es) = (refl, no_masks es)

defined : (t : ResolvedType) → TypeFits t → definition_of (sayings_seen t) ≡ definition_seen t
defined t fits = definition_is (mask t.mods) t.levels (map entry_seen t.entries) fits.some_level (entries_fit t t.entries fits.entries) (masks_apart [] t.entries (no_masks t.entries) fits.apart)

-- ---- The statements

abbrev IsTypeStated : ResolvedType → Stated → Type 0
IsTypeStated t i = TypeFits t × IsStated (IsType t) i

abbrev offer_of : ResolvedType → TypeOffer
offer_of t = type_offer Override t.name (definition_seen t)

offered : (t : ResolvedType) (i : Stated) → IsTypeStated t i → said_offers [] i.mode (type_in i.statement) ≡ offer_of t ∷ []
offered t i is =
    ap₂ (λ mode s. said_offers [] mode (type_in s)) is.1.mode_is is.1.shows.is
    ∙ ap (λ d. type_offer Override t.name d ∷ []) (ap definition_of (sayings_shown (type_lines t) (sayings_seen t) is.1.shows.fields (type_said t is.0) is.1.shows.are) ∙ defined t is.0)

stated_faultless : (file : ℕ) (t : ResolvedType) (i : Stated) → IsTypeStated t i → stated_faults [] file i ≡ []
stated_faultless file t i is =
    let s = is.1 in
    let name : Name = name_at t.name s.shows.span in
    ap (stated_faults [] file) (stated_as i s _ s.shows.is)
    ∙ ap₂ (λ (a : Bool) (fs : List Fault). let all : List Fault = cond a (TooMany (at file i.span) ∷ []) [] ++ fs in all) (le-ltb MOST_NAME_BYTES (length t.name) is.0.name_fits) (fields_faultless file (type_lines t) (sayings_seen t) s.shows.fields (type_said t is.0) s.shows.are)

named : (t : ResolvedType) (i : Stated) → IsTypeStated t i → type_names i.statement ≡ t.name ∷ []
named t i is = ap (λ s. written_name (type_in s)) is.1.shows.is

-- ---- The section

module _ (place : Place) (ts : List ResolvedType) (is : List Stated) (shown : AreShown (λ t i. IsStated (IsType t) i) ts is)
    (fit : EachOf TypeFits ts) (apart : AreApart (λ (t : ResolvedType). t.name) ts) (few : length ts ≤ MOST_TYPES) where
  abbrev pub types : Body
  types = Begin (own_body place is End)

  all_shown : AreShown IsTypeStated ts is
  all_shown = shown_with TypeFits (λ t i. IsStated (IsType t) i) ts is fit shown

  offers_are : type_offers [] types ≡ map offer_of ts
  offers_are =
      offers_shown bytes_eq (type_rules []) no_moves IsTypeStated (λ t. offer_of t ∷ []) tt place offered (λ t i is. refl) ts is End all_shown
      ∙ append-nil (flat_map (λ t. offer_of t ∷ []) ts) ∙ flat_map_single offer_of ts

  pub types_declared : EachOf (λ (t : ResolvedType). declared_type [] types t.name ≡ Some (definition_seen t)) ts
  types_declared = each_from _ ts (λ i t at. ap (λ os. value_of bytes_eq os t.name tt) offers_are
      ∙ value_of_one bytes_eq (λ a b. (bytes_eq-Decides a b).0) (λ a. (bytes_eq-Decides a a).1 refl) offer_of (λ t. refl) ts i t tt apart at)

  pub types_faultless : types_faults [] types ≡ []
  types_faultless = ap₂ (λ (a b : List Fault). a ++ b)
      (few_names type_names (λ (t : ResolvedType). t.name) IsTypeStated named place MOST_TYPES ts is all_shown few)
      (faults_shown bytes_eq (type_rules []) no_moves IsTypeStated tt place (λ t i one. stated_faultless place.file t i one) (λ t i one. refl) ts is End all_shown)
