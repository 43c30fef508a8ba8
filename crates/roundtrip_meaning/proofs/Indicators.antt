-- The indicators that a printed section declares.
use Rattle.std.proofs.Common.{◌≡◌, ◌≢◌, ℕ, zero, suc, ◌+◌, ◌<◌, ◌≤◌, ◌^◌, nat_eq, nat_lt, Bool, false, cond, not, List, [], ◌∷◌, ◌++◌, length, map, get_or, slice_get, codes, unwrap_or, Option, None, Some, refl, sym, ap, ap₂, ◌∙◌, arith, append-nil, eqb-true}
use Rattle.std.proofs.lemmas.Bool.{le-ltb, lt-ltb, eq-eqb, false_from_ne_true}
use Rattle.std.proofs.lemmas.List.FromFn.{get_or-map-range_with_len}
use Rattle.std.proofs.lemmas.Slice.Eq.{bytes_eq-Decides}
use Rattle.std.proofs.lemmas.List.Concat.{flat_map_single}
use Rattle.std.specs.List.{flat_map, position, position_or_len, range_with_len}
use Rattle.std.specs.Option.{option_and_then, option_map_or}
use Rattle.std.specs.Str.{bytes_eq}
use Rattle.ks_core.specs.Table.{KeysymTable}
use Rattle.kx_basics.specs.declared.limits.TheConstants.{MOST_NAME_BYTES}
use Rattle.kx_builder.specs.IndicatorMaps.{ResolvedIndicator}
use Rattle.kx_compat.specs.Meaning.{compat_faults}
use Rattle.kx_include.specs.Expansion.{Body, Begin, End}
use Rattle.kx_include.specs.IncludeFaults.{at}
use Rattle.kx_include.specs.declared.place.Place.{Place}
use Rattle.kx_indicators.specs.Blocks.{indicator_in, indicator_map_names, written_name, said_faults, own_faults, own_value, values_of, next_default}
use Rattle.kx_indicators.specs.Given.{IndicatorMapValues}
use Rattle.kx_indicators.specs.Giving.{no_values, values_cell, last_values, only}
use Rattle.kx_indicators.specs.IndicatorMapFields.{expression_value, expression_faults}
use Rattle.kx_indicators.specs.IndicatorMaps.{IndicatorMap, indicator_map_with}
use Rattle.kx_indicators.specs.Meaning.{IndicatorMapOffer, said_offers, indicator_map_rules, indicator_names, indicator_map_offers, indicator_map_of, indicator_maps_faults}
use Rattle.kx_indicators.specs.declared.limits.TheConstants.{MOST_INDICATORS}
use Rattle.kx_indicators.specs.declared.values.IndicatorMapField.{IndicatorMapField}
use Rattle.kx_indicators.specs.declared.values.IndicatorMapField.TheVariants as fields
use Rattle.kx_indicators.specs.declared.values.IndicatorMapValue.{IndicatorMapValue}
use Rattle.kx_indicators.specs.declared.values.IndicatorMapValue.TheVariants as values
use Rattle.kx_lex.specs.declared.fault.Fault.{Fault}
use Rattle.kx_lex.specs.declared.fault.Fault.TheVariants.{TooMany}
use Rattle.kx_lex.specs.declared.token.Span.{Span}
use Rattle.kx_merge.specs.Bodies.{offers_of, no_moves}
use Rattle.kx_merge.specs.Offers.{plain_offer, value_of}
use Rattle.kx_mods.specs.Mods.{mask}
use Rattle.kx_mods.specs.declared.mods.Mods.{Mods}
use Rattle.kx_tree.specs.declared.tree.Expression.{Expression}
use Rattle.kx_tree.specs.declared.tree.Field.{Field}
use Rattle.kx_tree.specs.declared.tree.Stated.{Stated}
use Rattle.kx_tree.specs.declared.tree.Mode.TheVariants.{Override}
use Rattle.kx_tree.specs.declared.tree.Operation.{Operation}
use Rattle.kx_tree.specs.declared.tree.Sign.TheVariants.{Plus}
use Rattle.kx_tree.specs.declared.tree.Term.TheVariants as terms
use Rattle.kx_print.specs.Masks.{state_names}
use Rattle.kx_print.specs.Phrases.{hexadecimal}
use Rattle.kx_tables.specs.States.{state_bits}
use Rattle.kx_tables.specs.declared.rows.States.{States as StateSet}
use Rattle.roundtrip_meaning.specs.Bodies.{own_body}
use Rattle.roundtrip_meaning.proofs.Offered.{shown_with, each_from, each_at, offers_shown, faults_shown, value_of_one}
use Rattle.roundtrip_text.specs.Source.{EachOf, AreApart, IndicatorFits}
use Rattle.roundtrip_text.specs.Spelled.{set_words}
use Rattle.roundtrip_tree.specs.Indicators.{states_written, indicator_map_lines, IsIndicator}
use Rattle.roundtrip_tree.specs.Shows.{AreShown, IsStated, name_at, none, more}
use Rattle.roundtrip_tree.specs.ShowsLines.{Words, Digits, IsSetting, IsWritten, IsPlusWord, IsLine}
use Rattle.roundtrip_tree.specs.Types.{mods_written}
use Rattle.roundtrip_meaning.proofs.Counted.{few_names, names_are}
use Rattle.roundtrip_meaning.proofs.Interpretations.{interpretations_faultless as no_faults}
use Rattle.roundtrip_meaning.proofs.Masks.{mods_set, mods_faultless}
use Rattle.roundtrip_meaning.proofs.Types.{placed}

-- ---- States

-- words joined by + as an expression, where their spans are given
abbrev added : (ℕ → Span) → List (List ℕ) → List Operation
added spans [] = []
added spans (w ∷ ws) = record { sign = Plus; term = terms.Word (name_at w (spans 0)) } ∷ added (λ i. spans (suc i)) ws

abbrev words_expression : (ℕ → Span) → Span → List (List ℕ) → Expression
words_expression spans whole [] = record { first = terms.Word (name_at [] whole); rest = []; span = whole }
words_expression spans whole (w ∷ ws) = record { first = terms.Word (name_at w (spans 0)); rest = added (λ i. spans (suc i)) ws; span = whole }

abbrev before : Span → (ℕ → Span) → ℕ → Span
before span spans zero = span
before span spans (suc i) = spans i

added_is : (ws : List (List ℕ)) (os : List Operation) → AreShown IsPlusWord ws os → (spans : ℕ → Span) × (os ≡ added spans ws)
added_is [] [] none = ((λ i. record { start = 0; stop = 0 }), refl)
added_is [] (o ∷ os) are = elim are [ ]
added_is (w ∷ ws) [] are = elim are [ ]
added_is (w ∷ ws) (o ∷ os) (more one are) =
    let rest = added_is ws os are in
    (before one.1.0 rest.0, λ i. record { sign = one.0 i; term = one.1.1 i } ∷ rest.1 i)

expression_is : (ws : List (List ℕ)) (e : Expression) → IsWritten (Words ws) e → (spans : ℕ → Span) × (e ≡ words_expression spans e.span ws)
expression_is [] e shown = absurd shown
expression_is (w ∷ ws) e shown =
    let rest = added_is ws e.rest shown.rest in
    (before shown.first.0 rest.0, λ i. record { first = shown.first.1 i; rest = rest.1 i; span = e.span })

module _ (spans : ℕ → Span) (whole : Span) where
  abbrev states_expression : ℕ → Expression
  states_expression m = words_expression spans whole (set_words state_names m)

  all_mod_states : map (λ m. expression_value [] fields.ModStates (states_expression m)) (range_with_len 0 16) ≡ map (λ m. values.ModStates m) (range_with_len 0 16)
  unfolding state_names
  all_mod_states = refl

  all_group_states : map (λ m. expression_value [] fields.GroupStates (states_expression m)) (range_with_len 0 16) ≡ map (λ m. values.GroupStates m) (range_with_len 0 16)
  unfolding state_names
  all_group_states = refl

  all_mod_faultless : (file : ℕ) → map (λ m. expression_faults file [] fields.ModStates (states_expression m)) (range_with_len 0 16) ≡ map (λ m. []) (range_with_len 0 16)
  unfolding state_names
  all_mod_faultless file = refl

  all_group_faultless : (file : ℕ) → map (λ m. expression_faults file [] fields.GroupStates (states_expression m)) (range_with_len 0 16) ≡ map (λ m. []) (range_with_len 0 16)
  unfolding state_names
  all_group_faultless file = refl

  one_of : {Y : Type 0} (f g : ℕ → Y) (d : Y) → map f (range_with_len 0 16) ≡ map g (range_with_len 0 16) → (m : ℕ) → m ≤ 15 → f m ≡ g m
  one_of f g d all m small = sym (get_or-map-range_with_len f 0 16 m m d (omega (arith, small)) (omega arith)) ∙ ap (λ ys. get_or ys m d) all ∙ get_or-map-range_with_len g 0 16 m m d (omega (arith, small)) (omega arith)

-- ---- The fields of an indicator

mod_states_value : (states : StateSet) (f : Field) → state_bits states ≤ 15 → IsSetting (codes "whichModState") (states_written states) f → own_value [] f ≡ Some (values.ModStates (state_bits states))
mod_states_value states f small is =
    let e = expression_is (set_words state_names (state_bits states)) is.expression is.is in
    placed (own_value []) f is.place_is is.setting_is
    ∙ ap (λ x. Some (expression_value [] fields.ModStates x)) e.1
    ∙ ap Some (one_of e.0 is.expression.span (λ m. expression_value [] fields.ModStates (states_expression e.0 is.expression.span m)) (λ m. values.ModStates m) (values.ModStates 0) (all_mod_states e.0 is.expression.span) (state_bits states) small)

group_states_value : (states : StateSet) (f : Field) → state_bits states ≤ 15 → IsSetting (codes "whichGroupState") (states_written states) f → own_value [] f ≡ Some (values.GroupStates (state_bits states))
group_states_value states f small is =
    let e = expression_is (set_words state_names (state_bits states)) is.expression is.is in
    placed (own_value []) f is.place_is is.setting_is
    ∙ ap (λ x. Some (expression_value [] fields.GroupStates x)) e.1
    ∙ ap Some (one_of e.0 is.expression.span (λ m. expression_value [] fields.GroupStates (states_expression e.0 is.expression.span m)) (λ m. values.GroupStates m) (values.GroupStates 0) (all_group_states e.0 is.expression.span) (state_bits states) small)

mod_states_faultless : (file : ℕ) (states : StateSet) (f : Field) → state_bits states ≤ 15 → IsSetting (codes "whichModState") (states_written states) f → own_faults file [] f ≡ []
mod_states_faultless file states f small is =
    let e = expression_is (set_words state_names (state_bits states)) is.expression is.is in
    placed (own_faults file []) f is.place_is is.setting_is
    ∙ ap (expression_faults file [] fields.ModStates) e.1
    ∙ one_of e.0 is.expression.span (λ m. expression_faults file [] fields.ModStates (states_expression e.0 is.expression.span m)) (λ m. []) [] (all_mod_faultless e.0 is.expression.span file) (state_bits states) small

group_states_faultless : (file : ℕ) (states : StateSet) (f : Field) → state_bits states ≤ 15 → IsSetting (codes "whichGroupState") (states_written states) f → own_faults file [] f ≡ []
group_states_faultless file states f small is =
    let e = expression_is (set_words state_names (state_bits states)) is.expression is.is in
    placed (own_faults file []) f is.place_is is.setting_is
    ∙ ap (expression_faults file [] fields.GroupStates) e.1
    ∙ one_of e.0 is.expression.span (λ m. expression_faults file [] fields.GroupStates (states_expression e.0 is.expression.span m)) (λ m. []) [] (all_group_faultless e.0 is.expression.span file) (state_bits states) small

modifiers_value : (mods : Mods) (f : Field) → mask mods < 2 ^ 8 → IsSetting (codes "modifiers") (mods_written mods) f → own_value [] f ≡ Some (values.Modifiers (mask mods))
modifiers_value mods f small is = placed (own_value []) f is.place_is is.setting_is ∙ ap (λ m. Some (values.Modifiers m)) (mods_set mods is.expression small is.is)

groups_value : (groups : ℕ) (f : Field) → IsSetting (codes "groups") (Digits (hexadecimal groups) groups) f → own_value [] f ≡ Some (values.Groups groups)
groups_value groups f is = placed (own_value []) f is.place_is is.setting_is ∙ ap (λ e. Some (expression_value [] fields.Groups e)) is.is.2

abbrev indicator_map_values : ResolvedIndicator → IndicatorMapValues
indicator_map_values d = record { modifiers = Some (mask d.mods); mod_states = Some (state_bits d.mod_states); group_states = Some (state_bits d.group_states); groups = Some d.groups }

values_shown : (d : ResolvedIndicator) (fs : List Field) → IndicatorFits d → AreShown IsLine (indicator_map_lines d) fs → values_of [] no_values fs ≡ indicator_map_values d
values_shown d [] fits are = elim are [ ]
values_shown d (f1 ∷ []) fits (more a are) = elim are [ ]
values_shown d (f1 ∷ f2 ∷ []) fits (more a (more b are)) = elim are [ ]
values_shown d (f1 ∷ f2 ∷ f3 ∷ []) fits (more a (more b (more c are))) = elim are [ ]
values_shown d (f1 ∷ f2 ∷ f3 ∷ f4 ∷ f5 ∷ fs) fits (more a (more b (more c (more e are)))) = elim are [ ]
values_shown d (f1 ∷ f2 ∷ f3 ∷ f4 ∷ []) fits (more a (more b (more c (more e none)))) =
    λ i. let gives : List (Option IndicatorMapValue) = mod_states_value d.mod_states f1 fits.mod_states a i ∷ modifiers_value d.mods f2 fits.mods b i ∷ group_states_value d.group_states f3 fits.group_states c i ∷ groups_value d.groups f4 e i ∷ [] in last_values (λ v. v) no_values gives

field_faultless : (file : ℕ) (d : ResolvedIndicator) (fs : List Field) → IndicatorFits d → AreShown IsLine (indicator_map_lines d) fs → flat_map (own_faults file []) fs ≡ []
field_faultless file d [] fits are = elim are [ ]
field_faultless file d (f1 ∷ []) fits (more a are) = elim are [ ]
field_faultless file d (f1 ∷ f2 ∷ []) fits (more a (more b are)) = elim are [ ]
field_faultless file d (f1 ∷ f2 ∷ f3 ∷ []) fits (more a (more b (more c are))) = elim are [ ]
field_faultless file d (f1 ∷ f2 ∷ f3 ∷ f4 ∷ f5 ∷ fs) fits (more a (more b (more c (more e are)))) = elim are [ ]
field_faultless file d (f1 ∷ f2 ∷ f3 ∷ f4 ∷ []) fits (more a (more b (more c (more e none)))) =
    let one = mod_states_faultless file d.mod_states f1 fits.mod_states a in
    let two : own_faults file [] f2 ≡ [] = placed (own_faults file []) f2 b.place_is b.setting_is ∙ mods_faultless file d.mods b.expression fits.mods b.is in
    let three = group_states_faultless file d.group_states f3 fits.group_states c in
    let four : own_faults file [] f4 ≡ [] = placed (own_faults file []) f4 e.place_is e.setting_is ∙ ap (expression_faults file [] fields.Groups) e.is.2 in
    λ i. one i ++ (two i ++ (three i ++ (four i ++ [])))

-- ---- The numbers of indicators

-- the place of a name that no other has
place_found : (ds : List ResolvedIndicator) (i : ℕ) (d : ResolvedIndicator) → AreApart (λ (d : ResolvedIndicator). d.name) ds → slice_get ds i ≡ Some d
    → (position_or_len (bytes_eq d.name) (map (λ (d : ResolvedIndicator). d.name) ds) ≡ i) × (i < length (map (λ (d : ResolvedIndicator). d.name) ds))
place_found [] i d apart is = cc
place_found (e ∷ ds) zero d apart is =
    let here : e ≡ d = cc in
    (ap (λ t. cond (not t) (1 + position_or_len (bytes_eq d.name) (map (λ (d : ResolvedIndicator). d.name) ds)) 0) ((bytes_eq-Decides d.name e.name).1 (ap (λ (d : ResolvedIndicator). d.name) (sym here))), omega arith)
place_found (e ∷ ds) (suc i) d apart is =
    let rest = place_found ds i d apart.1 is in
    let same = rest.0 in
    let within = rest.1 in
    let other : bytes_eq d.name e.name ≡ false = false_from_ne_true (bytes_eq d.name e.name) (λ t. each_at (λ (x : ResolvedIndicator). e.name ≢ x.name) ds i d apart.0 is (sym ((bytes_eq-Decides d.name e.name).0 t))) in
    (ap (λ t. cond (not t) (1 + position_or_len (bytes_eq d.name) (map (λ (d : ResolvedIndicator). d.name) ds)) 0) other ∙ (omega (arith, same)), omega (arith, within))

abbrev names : List ResolvedIndicator → List (List ℕ)
names ds = map (λ (d : ResolvedIndicator). d.name) ds

position_is : (ds : List ResolvedIndicator) (i : ℕ) (d : ResolvedIndicator) → AreApart (λ (d : ResolvedIndicator). d.name) ds → slice_get ds i ≡ Some d → position (bytes_eq d.name) (names ds) ≡ Some i
position_is ds i d apart is =
    let found = place_found ds i d apart is in
    ap (λ n. cond (nat_lt n (length (names ds))) (Some n) None) found.0 ∙ ap (λ t. cond t (Some i) None) (lt-ltb i (length (names ds)) found.1)

-- numbers that rise by one are apart
numbers_apart : {X : Type 0} (number : X → ℕ) (n : ℕ) (xs : List X) → ((i : ℕ) (x : X) → slice_get xs i ≡ Some x → number x ≡ n + i) → AreApart number xs
numbers_apart number n [] each = tt
numbers_apart number n (x ∷ xs) each =
    let first = each 0 x refl in
    (each_from (λ y. number x ≢ number y) xs (λ i y is same. (let next = each (suc i) y is in omega (arith, first, next, same))), numbers_apart number (n + 1) xs (λ i y is. (let next = each (suc i) y is in omega (arith, next))))

-- ---- The statements

abbrev IsIndicatorMapStated : ResolvedIndicator → Stated → Type 0
IsIndicatorMapStated d i = IndicatorFits d × IsStated (IsIndicator d) i

module _ (ds : List ResolvedIndicator) where
  abbrev number_of : ResolvedIndicator → ℕ
  number_of d = unwrap_or (position (bytes_eq d.name) (names ds)) 0

  -- it is one of them
  abbrev IsNumbered : ResolvedIndicator → Type 0
  IsNumbered d = position (bytes_eq d.name) (names ds) ≡ Some (number_of d)

  abbrev IsNumberedStated : ResolvedIndicator → Stated → Type 0
  IsNumberedStated d i = IsNumbered d × IsIndicatorMapStated d i

  abbrev offer_of : ResolvedIndicator → IndicatorMapOffer
  offer_of d = plain_offer Override (number_of d) (values_cell (indicator_map_values d))

  offered : (d : ResolvedIndicator) (i : Stated) → IsNumberedStated d i → said_offers (names ds) [] no_values i.mode (indicator_in i.statement) ≡ offer_of d ∷ []
  offered d i is =
      let s = is.1.1 in
      ap₂ (λ mode said. said_offers (names ds) [] no_values mode (indicator_in said)) s.mode_is s.shows.is
      ∙ ap₂ (λ v n. option_map_or (λ n. plain_offer Override n (values_cell v) ∷ []) n []) (values_shown d s.shows.fields is.1.0 s.shows.are) is.0

stated_faultless : (file : ℕ) (d : ResolvedIndicator) (i : Stated) → IsIndicatorMapStated d i → said_faults file [] i.statement i.span (indicator_in i.statement) ≡ []
stated_faultless file d i is =
    let s = is.1 in
    ap (λ said. said_faults file [] said i.span (indicator_in said)) s.shows.is
    ∙ ap₂ (λ (a : Bool) (fs : List Fault). let all : List Fault = cond a (TooMany (at file i.span) ∷ []) [] ++ fs in all) (le-ltb MOST_NAME_BYTES (length d.name) is.0.name_fits) (field_faultless file d s.shows.fields is.0 s.shows.are)

named : (d : ResolvedIndicator) (i : Stated) → IsIndicatorMapStated d i → indicator_map_names i.statement ≡ d.name ∷ []
named d i is = ap (λ s. written_name (indicator_in s)) is.1.shows.is

stays : (d : ResolvedIndicator) (i : Stated) → IsStated (IsIndicator d) i → next_default [] no_values i.statement ≡ no_values
stays d i is = ap (next_default [] no_values) is.shows.is

-- ---- The section

module _ (place : Place) (ds : List ResolvedIndicator) (is : List Stated) (shown : AreShown (λ d i. IsStated (IsIndicator d) i) ds is)
    (fit : EachOf IndicatorFits ds) (apart : AreApart (λ (d : ResolvedIndicator). d.name) ds) (few : length ds ≤ 32) where
  abbrev pub compat : Body
  compat = Begin (own_body place is End)

  all_shown : AreShown IsIndicatorMapStated ds is
  all_shown = shown_with IndicatorFits (λ d i. IsStated (IsIndicator d) i) ds is fit shown

  pub indicators_named : indicator_names compat ≡ names ds
  indicators_named = names_are indicator_map_names (λ (d : ResolvedIndicator). d.name) IsIndicatorMapStated named place ds is all_shown apart

  numbered : EachOf (IsNumbered ds) ds
  numbered = each_from (IsNumbered ds) ds (λ i d at. position_is ds i d apart at ∙ ap (λ o. Some (unwrap_or o 0)) (sym (position_is ds i d apart at)))

  offers_are : indicator_map_offers [] compat ≡ map (offer_of ds) ds
  offers_are =
      ap (λ indicator_maps. offers_of nat_eq (indicator_map_rules indicator_maps []) no_moves compat) indicators_named
      ∙ offers_shown nat_eq (indicator_map_rules (names ds) []) no_moves (IsNumberedStated ds) (λ d. offer_of ds d ∷ []) no_values place (offered ds) (λ d i one. stays d i one.1.1) ds is End (shown_with (IsNumbered ds) IsIndicatorMapStated ds is numbered all_shown)
      ∙ append-nil (flat_map (λ d. offer_of ds d ∷ []) ds) ∙ flat_map_single (offer_of ds) ds

  number_is : (i : ℕ) (d : ResolvedIndicator) → slice_get ds i ≡ Some d → number_of ds d ≡ i
  number_is i d at = ap (λ o. unwrap_or o 0) (position_is ds i d apart at)

  value_is : (i : ℕ) (d : ResolvedIndicator) → slice_get ds i ≡ Some d → (field : IndicatorMapField) → value_of nat_eq (indicator_map_offers [] compat) i field ≡ values_cell (indicator_map_values d) field
  value_is i d at field =
      ap₂ (λ os n. value_of nat_eq os n field) offers_are (sym (number_is i d at))
      ∙ value_of_one nat_eq eqb-true (λ a. eq-eqb a a refl) (offer_of ds) (λ d. refl) ds i d field (numbers_apart (number_of ds) 0 ds (λ j e there. number_is j e there ∙ (omega arith))) at

  pub indicator_maps_printed : (i : ℕ) (d : ResolvedIndicator) → slice_get ds i ≡ Some d → indicator_map_of [] compat i ≡ (let l : IndicatorMap = record { modifiers = mask d.mods; mod_states = state_bits d.mod_states; group_states = state_bits d.group_states; groups = d.groups } in l)
  indicator_maps_printed i d at = λ j. indicator_map_with (record {
    modifiers = option_and_then (λ v. (only v).modifiers) (value_is i d at fields.Modifiers j);
    mod_states = option_and_then (λ v. (only v).mod_states) (value_is i d at fields.ModStates j);
    group_states = option_and_then (λ v. (only v).group_states) (value_is i d at fields.GroupStates j);
    groups = option_and_then (λ v. (only v).groups) (value_is i d at fields.Groups j);
  })

  pub indicator_maps_faultless : indicator_maps_faults [] compat ≡ []
  indicator_maps_faultless = ap₂ (λ (a b : List Fault). a ++ b)
      (few_names indicator_map_names (λ (d : ResolvedIndicator). d.name) IsIndicatorMapStated named place MOST_INDICATORS ds is all_shown few)
      (faults_shown nat_eq (indicator_map_rules (indicator_names compat) []) no_moves IsIndicatorMapStated no_values place (λ d i one. stated_faultless place.file d i one) (λ d i one. stays d i one.1) ds is End all_shown)

  pub interpretations_faultless : (table : KeysymTable) → compat_faults table [] compat ≡ []
  interpretations_faultless table = no_faults table place ds is shown

-- ---- Without indicators there is no section

pub no_indicator_maps_faultless : indicator_maps_faults [] End ≡ []
no_indicator_maps_faultless = refl
