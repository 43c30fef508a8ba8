-- What printed modifier maps give keys.
use Rattle.std.proofs.Common.{◌≡◌, ℕ, ◌+◌, ◌<◌, ◌≤◌, ◌^◌, Bool, true, false, not, cond, ◌==◌, ◌&&◌, ◌||◌, get_or, List, [], ◌∷◌, ◌++◌, length, map, Option, None, Some, is_some, refl, sym, ap, ap₂, ◌∙◌, arith}
use Rattle.std.proofs.lemmas.Bool.{and_parts, le-ltb, ne_eqb, eq-eqb}
use Rattle.std.proofs.lemmas.List.Folds.{list_any-append}
use Rattle.std.proofs.lemmas.Grind.{flat_map-append}
use Rattle.std.proofs.lemmas.List.FromFn.{get_or-map-range_with_len}
use mathlib.Core.Bool.{or-false}
use Rattle.std.specs.List.{list_all, list_any, flat_map, range_with_len}
use Rattle.std.specs.Option.{option_map, option_map_or, option_or, unwrap_or}
use Rattle.ks_core.specs.Table.{KeysymTable}
use Rattle.kx_basics.specs.declared.limits.TheConstants.{MOST_NAME_BYTES}
use Rattle.kx_codes.specs.Codes.{Codes, code_of}
use Rattle.kx_include.specs.Expansion.{Body, End, Begin}
use Rattle.kx_include.specs.declared.place.Place.{Place}
use Rattle.kx_lex.specs.declared.fault.Fault.{Fault}
use Rattle.kx_virtual_mods.specs.Sets.{has}
use Rattle.kx_merge.specs.Bodies.{Rules, offers, faults, faults_of, no_moves}
use Rattle.kx_merge.specs.Offers.{Offer, is_about, is_hidden, is_strong, seen, last_strong, first_weak, value_of, names_behind, with_name, plain_offer}
use Rattle.kx_modmaps.specs.Entries.{same_target, stated_faults, word_mask}
use Rattle.kx_modmaps.specs.Maps.{given, offers_to, map_rules, map_offers_of, keysym_given, keysyms_given, present}
use Rattle.kx_modmaps.specs.declared.record.Cell.{Cell}
use Rattle.kx_modmaps.specs.declared.record.Cell.TheVariants.{Present}
use Rattle.kx_modmaps.specs.declared.target.Target.{Target}
use Rattle.kx_modmaps.specs.declared.target.Target.TheVariants.{Key}
use Rattle.kx_mods.specs.Mods.{mask, mod_names}
use Rattle.kx_tree.specs.declared.tree.Entry.TheVariants as entries
use Rattle.kx_tree.specs.declared.tree.Stated.{Stated}
use Rattle.kx_tree.specs.declared.tree.Mode.TheVariants.{Override}
use Rattle.kx_tree.specs.declared.tree.Statement.TheVariants as statements
use Rattle.kx_print.specs.Masks.{chosen}
use Rattle.roundtrip_meaning.specs.Bodies.{own_body}
use Rattle.roundtrip_meaning.proofs.Silent.{IsSilent, own_append3, silent_offers, silent_faults}
use Rattle.roundtrip_meaning.proofs.Single.{AllOverride, not_hidden}
use Rattle.roundtrip_text.specs.Source.{EachOf, AreRising, PrintedKey, KeyFits}
use Rattle.roundtrip_text.specs.ModifierMaps.{MapLine, map_line, maps_of_key}
use Rattle.roundtrip_tree.proofs.Statements.{stated_as, stated_at}
use Rattle.roundtrip_tree.specs.Shows.{AreShown, IsStated, IsModifierMap, name_at, none, more}
use Rattle.roundtrip_tree.specs.Source.{IsNameStated, IsKeyStated}
use Rattle.roundtrip_text.proofs.Lines.{chosen_all}

-- ---- Words of modifiers

abbrev is_modifier : List ℕ → Bool
is_modifier w = is_some (word_mask w)

abbrev bits_of : List ℕ → ℕ
bits_of w = unwrap_or (word_mask w) 0

all_modifiers : list_all is_modifier mod_names ≡ true
unfolding mod_names
all_modifiers = refl

word_is : (w : List ℕ) → is_modifier w ≡ true → word_mask w ≡ Some (bits_of w)
word_is w h = by (word_mask w) h
  where
    by : (o : Option ℕ) → is_some o ≡ true → o ≡ Some (unwrap_or o 0)
    by None h = cc
    by (Some m) h = refl

abbrev same_bool : Bool → Bool → Bool
same_bool true b = b
same_bool false b = not b

abbrev is_mapped : ℕ → ℕ → Bool
is_mapped m real = list_any (λ w. has (bits_of w) real) (chosen m mod_names)

abbrev agrees : ℕ → ℕ → Bool
agrees m real = same_bool (is_mapped m real) (has m real)

abbrev agreements : ℕ → List Bool
agreements m = map (agrees m) (range_with_len 0 8)

abbrev trues : List Bool
trues = map (λ (r : ℕ). true) (range_with_len 0 8)

all_agree : map agreements (range_with_len 0 256) ≡ map (λ (m : ℕ). trues) (range_with_len 0 256)
unfolding mod_names
all_agree = refl

mapped_is : (m real : ℕ) → m < 256 → real < 8 → is_mapped m real ≡ has m real
mapped_is m real small below = same (is_mapped m real) (has m real) (sym (get_or-map-range_with_len (agrees m) 0 8 real real false below (omega arith)) ∙ ap (λ ts. get_or ts real false) row ∙ get_or-map-range_with_len (λ r. true) 0 8 real real false below (omega arith))
  where
    same : (a b : Bool) → same_bool a b ≡ true → a ≡ b
    same true true h = refl
    same true false h = cc
    same false true h = cc
    same false false h = refl

    row : agreements m ≡ trues
    row = sym (get_or-map-range_with_len agreements 0 256 m m [] small (omega arith)) ∙ ap (λ ts. get_or ts m []) all_agree ∙ get_or-map-range_with_len (λ m. trues) 0 256 m m [] small (omega arith)

-- ---- A record that is offered several things

module _ {C V : Type 0} {K : Type 0} (eq : K → K → Bool) where
  abbrev is_given : K → C → Offer K C V → Bool
  is_given k c o = is_about eq k o && is_some (o.value c)

  no_weak : (k : K) (c : C) (os : List (Offer K C V)) → AllOverride eq os → first_weak c (seen eq k os) ≡ None
  no_weak k c [] all = refl
  no_weak k c (o ∷ os) all = by (is_about eq k o && not (is_hidden eq k os)) (no_weak k c os all.1)
    where
      by : (t : Bool) → first_weak c (seen eq k os) ≡ None → first_weak c (cond t (o ∷ seen eq k os) (seen eq k os)) ≡ None
      by true rest = ap₂ (λ t r. option_or (cond t None (o.value c)) r) (ap is_strong all.0) rest
      by false rest = rest

  strong_given : (k : K) (c : C) (os : List (Offer K C V)) → AllOverride eq os → is_some (last_strong c (seen eq k os)) ≡ list_any (is_given k c) os
  strong_given k c [] all = refl
  strong_given k c (o ∷ os) all =
      ap (λ h. is_some (last_strong c (cond (is_about eq k o && not h) (o ∷ seen eq k os) (seen eq k os)))) (not_hidden eq k os all.1)
      ∙ by (is_about eq k o) (strong_given k c os all.1)
    where
      either : (a b : Option V) → is_some (option_or a b) ≡ (is_some b || is_some a)
      either None None = refl
      either None (Some y) = refl
      either (Some x) None = refl
      either (Some x) (Some y) = refl

      by : (t : Bool) → is_some (last_strong c (seen eq k os)) ≡ list_any (is_given k c) os → is_some (last_strong c (cond (t && true) (o ∷ seen eq k os) (seen eq k os))) ≡ ((t && is_some (o.value c)) || list_any (is_given k c) os)
      by true rest = ap (λ t. is_some (option_or (last_strong c (seen eq k os)) (cond t (o.value c) None))) (ap is_strong all.0) ∙ either (last_strong c (seen eq k os)) (o.value c) ∙ ap (λ t. is_some (o.value c) || t) rest
      by false rest = rest

  -- it has a value where one of the offers gives one
  value_given : (k : K) (c : C) (os : List (Offer K C V)) → AllOverride eq os → is_some (value_of eq os k c) ≡ list_any (is_given k c) os
  value_given k c os all = ap (λ w. is_some (option_or (last_strong c (seen eq k os)) w)) (no_weak k c os all) ∙ or_none (last_strong c (seen eq k os)) ∙ strong_given k c os all
    where
      or_none : (o : Option V) → is_some (option_or o None) ≡ is_some o
      or_none None = refl
      or_none (Some v) = refl

-- names that give nothing
no_names : {K C V Y : Type 0} (eq : K → K → Bool) (f : K → List Y) (ks : List K) (os : List (Offer K C V)) → flat_map f ks ≡ [] → EachOf (λ (o : Offer K C V). f o.name ≡ []) os → flat_map f (names_behind eq ks os) ≡ []
no_names eq f ks [] before all = before
no_names eq f ks (o ∷ os) before all = no_names eq f (with_name eq ks o.name) os (by (list_any (eq o.name) ks)) all.1
  where
    by : (t : Bool) → flat_map f (cond t ks (ks ++ o.name ∷ [])) ≡ []
    by true = before
    by false = flat_map-append f ks (o.name ∷ []) ∙ ap₂ (λ a b. a ++ (b ++ [])) before all.0

-- ---- What lines offer

abbrev MapOffer : Type 0
MapOffer = Offer Target Cell ℕ

abbrev map_offer : ℕ → List ℕ → MapOffer
map_offer code modifier = plain_offer Override (Key code) (given (Key code) (bits_of modifier))

abbrev modifiers_of : PrintedKey → List (List ℕ)
modifiers_of k = chosen (mask k.modmap) mod_names

abbrev key_offers : PrintedKey → List MapOffer
key_offers k = map (map_offer k.code) (modifiers_of k)

abbrev all_offers : List PrintedKey → List MapOffer
all_offers ks = flat_map key_offers ks

module _ (codes : Codes) (names : KeysymTable) (modifiers : List (List ℕ)) (place : Place) where
  abbrev rules : Rules Target Cell ℕ (Unit {0})
  rules = map_rules codes names modifiers

  name_silent : (i : Stated) → IsNameStated i → IsSilent rules place tt i
  name_silent i is =
      let whole = stated_as i is (statements.Field is.shows.is.field) is.shows.is.is in
      record { next_is = refl; offers_none = ap (rules.offers tt place) whole; faults_none = ap (rules.faults tt place) whole }

  key_silent : (i : Stated) → IsKeyStated i → IsSilent rules place tt i
  key_silent i is =
      let whole = stated_as i is (statements.Key is.shows.name is.shows.fields) is.shows.is in
      record { next_is = refl; offers_none = ap (rules.offers tt place) whole; faults_none = ap (rules.faults tt place) whole }

  names_silent : (is : List Stated) → EachOf IsNameStated is → EachOf (IsSilent rules place tt) is
  names_silent [] all = tt
  names_silent (i ∷ is) all = (name_silent i all.0, names_silent is all.1)

  keys_silent : (is : List Stated) → EachOf IsKeyStated is → EachOf (IsSilent rules place tt) is
  keys_silent [] all = tt
  keys_silent (i ∷ is) all = (key_silent i all.0, keys_silent is all.1)

  line_stated : (l : MapLine) (i : Stated) (is : IsStated (IsModifierMap l.modifier l.name) i)
      → i ≡ stated_at (statements.ModifierMap (name_at l.modifier is.shows.word_span) (entries.KeyName (name_at l.name is.shows.name_span) ∷ [])) i.first i.span
  line_stated l i is = stated_as i is _ is.shows.is

  line_offers : (l : MapLine) (code : ℕ) (i : Stated) → is_modifier l.modifier ≡ true → code_of codes l.name ≡ Some code → IsStated (IsModifierMap l.modifier l.name) i → rules.offers tt place i ≡ map_offer code l.modifier ∷ []
  line_offers l code i real coded is =
      ap (rules.offers tt place) (line_stated l i is)
      ∙ ap₂ (λ (m c : Option ℕ). offers_to Override m (option_map_or (with_name same_target []) (option_map Key c) [])) (word_is l.modifier real) coded

  line_faultless : (l : MapLine) (i : Stated) → is_modifier l.modifier ≡ true → length l.name ≤ MOST_NAME_BYTES → IsStated (IsModifierMap l.modifier l.name) i → stated_faults place.file modifiers i ≡ []
  line_faultless l i real short is =
      ap (stated_faults place.file modifiers) (line_stated l i is)
      ∙ rw (real, le-ltb MOST_NAME_BYTES (length l.name) short) refl

  -- of the lines of a key, before others
  lines_offer : (k : PrintedKey) (ms : List (List ℕ)) (ls : List MapLine) (is : List Stated) (tail : List MapOffer) → list_all is_modifier ms ≡ true → code_of codes k.name ≡ Some k.code
      → ((js : List Stated) → AreShown (λ (l : MapLine) i. IsStated (IsModifierMap l.modifier l.name) i) ls js → offers same_target rules no_moves tt (own_body place js End) ≡ tail)
      → AreShown (λ (l : MapLine) i. IsStated (IsModifierMap l.modifier l.name) i) (map (map_line k.name) ms ++ ls) is
      → offers same_target rules no_moves tt (own_body place is End) ≡ map (map_offer k.code) ms ++ tail
  lines_offer k [] ls is tail real coded others are = others is are
  lines_offer k (m ∷ ms) ls is tail real coded others (more {a = i} {bs = js} one are) =
      let both = and_parts (is_modifier m) (list_all is_modifier ms) real in
      ap₂ (λ (a b : List MapOffer). a ++ b) (line_offers (map_line k.name m) k.code i both.0 coded one) (lines_offer k ms ls js tail both.1 coded others are)

  lines_faultless : (k : PrintedKey) (ms : List (List ℕ)) (ls : List MapLine) (is : List Stated) → list_all is_modifier ms ≡ true → length k.name ≤ MOST_NAME_BYTES
      → ((js : List Stated) → AreShown (λ (l : MapLine) i. IsStated (IsModifierMap l.modifier l.name) i) ls js → faults same_target rules no_moves tt (own_body place js End) ≡ [])
      → AreShown (λ (l : MapLine) i. IsStated (IsModifierMap l.modifier l.name) i) (map (map_line k.name) ms ++ ls) is
      → faults same_target rules no_moves tt (own_body place is End) ≡ []
  lines_faultless k [] ls is real short others are = others is are
  lines_faultless k (m ∷ ms) ls is real short others (more {a = i} {bs = js} one are) =
      let both = and_parts (is_modifier m) (list_all is_modifier ms) real in
      ap₂ (λ (a b : List Fault). a ++ b) (line_faultless (map_line k.name m) i both.0 short one) (lines_faultless k ms ls js both.1 short others are)

  maps_offer : (ks : List PrintedKey) (is : List Stated) → EachOf (λ (k : PrintedKey). code_of codes k.name ≡ Some k.code) ks → AreShown (λ (l : MapLine) i. IsStated (IsModifierMap l.modifier l.name) i) (flat_map maps_of_key ks) is
      → offers same_target rules no_moves tt (own_body place is End) ≡ all_offers ks
  maps_offer [] is coded none = refl
  maps_offer (k ∷ ks) is coded are = lines_offer k (modifiers_of k) (flat_map maps_of_key ks) is (all_offers ks) (chosen_all is_modifier (mask k.modmap) mod_names all_modifiers) coded.0 (λ js js_are. maps_offer ks js coded.1 js_are) are

  maps_fault : (ks : List PrintedKey) (is : List Stated) → EachOf KeyFits ks → AreShown (λ (l : MapLine) i. IsStated (IsModifierMap l.modifier l.name) i) (flat_map maps_of_key ks) is
      → faults same_target rules no_moves tt (own_body place is End) ≡ []
  maps_fault [] is fit none = refl
  maps_fault (k ∷ ks) is fit are = lines_faultless k (modifiers_of k) (flat_map maps_of_key ks) is (chosen_all is_modifier (mask k.modmap) mod_names all_modifiers) fit.0.name_fits (λ js js_are. maps_fault ks js fit.1 js_are) are

-- ---- Which modifiers a key is offered

all_override : (code : ℕ) (ms : List (List ℕ)) (os : List MapOffer) → AllOverride same_target os → AllOverride same_target (map (map_offer code) ms ++ os)
all_override code [] os all = all
all_override code (m ∷ ms) os all = (refl, all_override code ms os all)

offers_override : (ks : List PrintedKey) → AllOverride same_target (all_offers ks)
offers_override [] = tt
offers_override (k ∷ ks) = all_override k.code (modifiers_of k) (all_offers ks) (offers_override ks)

-- those of one key
here_given : (code real : ℕ) (ms : List (List ℕ)) → list_any (is_given same_target (Key code) (Present real)) (map (map_offer code) ms) ≡ list_any (λ w. has (bits_of w) real) ms
here_given code real [] = refl
here_given code real (m ∷ ms) = ap₂ (λ a b. a || b) (ap (λ t. t && is_some (present (bits_of m) real)) (eq-eqb code code refl) ∙ by (has (bits_of m) real)) (here_given code real ms)
  where
    by : (t : Bool) → is_some (cond t (Some (2 ^ real)) None) ≡ t
    by true = refl
    by false = refl

other_given : (n code real : ℕ) (ms : List (List ℕ)) → (n == code) ≡ false → list_any (is_given same_target (Key n) (Present real)) (map (map_offer code) ms) ≡ false
other_given n code real [] other = refl
other_given n code real (m ∷ ms) other = ap₂ (λ a b. a || b) (ap (λ t. t && is_some (present (bits_of m) real)) other) (other_given n code real ms other)

none_above : (n low real : ℕ) (ks : List PrintedKey) → n < low → AreRising (λ (k : PrintedKey). k.code) low ks → list_any (is_given same_target (Key n) (Present real)) (all_offers ks) ≡ false
none_above n low real [] below rising = refl
none_above n low real (k ∷ ks) below rising =
    let above = rising.0 in
    list_any-append (is_given same_target (Key n) (Present real)) (key_offers k) (all_offers ks)
    ∙ ap₂ (λ a b. a || b) (other_given n k.code real (modifiers_of k) (ne_eqb n k.code (λ e. omega (arith, above, e)))) (none_above n (k.code + 1) real ks (omega (arith, above)) rising.1)

-- all keys are given theirs, whatever else is offered to lower codes before
each_mapped : (low : ℕ) (ks : List PrintedKey) → AreRising (λ (k : PrintedKey). k.code) low ks → EachOf (λ (k : PrintedKey). (real : ℕ) → list_any (is_given same_target (Key k.code) (Present real)) (all_offers ks) ≡ is_mapped (mask k.modmap) real) ks
each_mapped low [] rising = tt
each_mapped low (k ∷ ks) rising = (
  (λ real. list_any-append (is_given same_target (Key k.code) (Present real)) (key_offers k) (all_offers ks)
      ∙ ap₂ (λ a b. a || b) (here_given k.code real (modifiers_of k)) (none_above k.code (k.code + 1) real ks (omega arith) rising.1) ∙ or-false (is_mapped (mask k.modmap) real)),
  later (k.code + 1) ks (omega arith) rising.1 (each_mapped (k.code + 1) ks rising.1),
)
  where
    later : (low : ℕ) (js : List PrintedKey) → k.code < low → AreRising (λ (j : PrintedKey). j.code) low js
        → EachOf (λ (j : PrintedKey). (real : ℕ) → list_any (is_given same_target (Key j.code) (Present real)) (all_offers ks) ≡ is_mapped (mask j.modmap) real) js
        → EachOf (λ (j : PrintedKey). (real : ℕ) → list_any (is_given same_target (Key j.code) (Present real)) (all_offers (k ∷ ks)) ≡ is_mapped (mask j.modmap) real) js
    later low [] below rising each = tt
    later low (j ∷ js) below rising each =
        let above = rising.0 in (
          (λ real. list_any-append (is_given same_target (Key j.code) (Present real)) (key_offers k) (all_offers ks)
              ∙ ap (λ t. t || list_any (is_given same_target (Key j.code) (Present real)) (all_offers ks)) (other_given j.code k.code real (modifiers_of k) (ne_eqb j.code k.code (λ e. omega (arith, above, below, e)))) ∙ each.0 real),
          later (j.code + 1) js (omega (arith, above, below)) rising.1 each.1,
        )

no_keysyms : (whole : List MapOffer) (code : ℕ) (ms : List (List ℕ)) (os : List MapOffer) → EachOf (λ (o : MapOffer). keysym_given whole o.name ≡ []) os → EachOf (λ (o : MapOffer). keysym_given whole o.name ≡ []) (map (map_offer code) ms ++ os)
no_keysyms whole code [] os all = all
no_keysyms whole code (m ∷ ms) os all = (refl, no_keysyms whole code ms os all)

keysymless : (whole : List MapOffer) (ks : List PrintedKey) → EachOf (λ (o : MapOffer). keysym_given whole o.name ≡ []) (all_offers ks)
keysymless whole [] = tt
keysymless whole (k ∷ ks) = no_keysyms whole k.code (modifiers_of k) (all_offers ks) (keysymless whole ks)

-- ---- A symbols section

module _ (codes : Codes) (names : KeysymTable) (modifiers : List (List ℕ)) (place : Place) (ks : List PrintedKey) (nis kis mis : List Stated) (named : EachOf IsNameStated nis) (keys : EachOf IsKeyStated kis)
    (maps : AreShown (λ (l : MapLine) i. IsStated (IsModifierMap l.modifier l.name) i) (flat_map maps_of_key ks) mis) where
  abbrev symbols : Body
  symbols = Begin (own_body place (nis ++ (kis ++ mis)) End)

  abbrev map_os : List MapOffer
  map_os = map_offers_of codes names modifiers symbols

  module _ (coded : EachOf (λ (k : PrintedKey). code_of codes k.name ≡ Some k.code) ks) where
    offered : map_os ≡ all_offers ks
    offered =
        ap (offers same_target (rules codes names modifiers place) no_moves tt) (own_append3 place nis kis mis End)
        ∙ silent_offers (rules codes names modifiers place) same_target no_moves place tt nis (own_body place kis (own_body place mis End)) (names_silent codes names modifiers place nis named)
        ∙ silent_offers (rules codes names modifiers place) same_target no_moves place tt kis (own_body place mis End) (keys_silent codes names modifiers place kis keys)
        ∙ maps_offer codes names modifiers place ks mis coded maps

    pub maps_keysymless : keysyms_given map_os ≡ []
    maps_keysymless = ap keysyms_given offered ∙ no_names same_target (keysym_given (all_offers ks)) [] (all_offers ks) refl (keysymless (all_offers ks) ks)

    pub maps_given : EachOf KeyFits ks → AreRising (λ (k : PrintedKey). k.code) 0 ks
        → EachOf (λ (k : PrintedKey). (real : ℕ) → real < 8 → is_some (value_of same_target map_os (Key k.code) (Present real)) ≡ has (mask k.modmap) real) ks
    maps_given fit rising = each ks fit (each_mapped 0 ks rising)
      where
        each : (js : List PrintedKey) → EachOf KeyFits js → EachOf (λ (k : PrintedKey). (real : ℕ) → list_any (is_given same_target (Key k.code) (Present real)) (all_offers ks) ≡ is_mapped (mask k.modmap) real) js
            → EachOf (λ (k : PrintedKey). (real : ℕ) → real < 8 → is_some (value_of same_target map_os (Key k.code) (Present real)) ≡ has (mask k.modmap) real) js
        each [] fit all = tt
        each (j ∷ js) fit all = (
          (λ real below. ap (λ os. is_some (value_of same_target os (Key j.code) (Present real))) offered ∙ value_given same_target (Key j.code) (Present real) (all_offers ks) (offers_override ks) ∙ all.0 real ∙ mapped_is (mask j.modmap) real fit.0.mapped below),
          each js fit.1 all.1,
        )

  pub maps_faultless : EachOf KeyFits ks → faults_of same_target (rules codes names modifiers place) no_moves symbols ≡ []
  maps_faultless fit =
      ap (faults same_target (rules codes names modifiers place) no_moves tt) (own_append3 place nis kis mis End)
      ∙ silent_faults (rules codes names modifiers place) same_target no_moves place tt nis (own_body place kis (own_body place mis End)) (names_silent codes names modifiers place nis named)
      ∙ silent_faults (rules codes names modifiers place) same_target no_moves place tt kis (own_body place mis End) (keys_silent codes names modifiers place kis keys)
      ∙ maps_fault codes names modifiers place ks mis fit maps
