-- Indicators and the names of groups keep the rules of tables.
use Rattle.std.proofs.Common.{ℕ, zero, suc, ◌+◌, ◌-◌, ◌≡◌, ◌<◌, ◌≤◌, ◌^◌, All, List, [], ◌∷◌, ◌++◌, Some, length, map, take, slice_get, get_or, unwrap_or, refl, sym, ap, ◌∙◌, arith}
use Rattle.std.specs.Bool.{⊤}
use Rattle.std.specs.List.{IsDistinct, zip}
use Rattle.std.specs.Option.{option_map}
use Rattle.std.specs.Str.{bytes_eq}
use Rattle.std.specs.Cmp.Lexicographic.{bytes_decides}
use Rattle.std.proofs.lemmas.Bool.{false≢true}
use Rattle.std.proofs.lemmas.List.{length-append, length-map, take_all, take_more}
use Rattle.std.proofs.lemmas.List.Elements.{All-weaker}
use Rattle.std.proofs.lemmas.Map.Keys.{apart_from_distinct}
use Rattle.std.proofs.lemmas.Option.{none-some, same_Some, slice_get-get_or, slice_get-map, slice_get_within}
use Rattle.std.proofs.lemmas.Slice.Zip.{length-zip}
use Rattle.kx_builder.specs.Agreement.{ShowsSame}
use Rattle.kx_builder.proofs.Refusing.{only_memory}
use Rattle.kx_builder.specs.Faults.{IsCause}
use Rattle.kx_builder.specs.Valid.{Apart}
use Rattle.kx_builder.specs.IndicatorMaps.{GroupNameIsValid, IndicatorIsValid, IndicatorMapsAreValid, IndicatorMapsFit, ResolvedIndicator, keymap_with, names_of_groups, names_of_indicators}
use Rattle.kx_builder.specs.Placed.{content_of_resolved}
use Rattle.kx_builder.specs.Resolved.{Resolved}
use Rattle.kx_builder.specs.WithinLimits.{IsWithinLimits}
use Rattle.kx_builder.proofs.Room.{flat_length, name_bytes}
use Rattle.kx_builder.specs.declared.fault.BuildFault.{BuildFault}
use Rattle.kx_builder.specs.declared.fault.BuildFault.TheVariants as builds
use Rattle.kx_group_names.specs.Names.{AreCut, name_at}
use Rattle.kx_indicators.specs.Bounds.{AreValid}
use Rattle.kx_indicators.specs.IndicatorMaps.{IndicatorMap}
use Rattle.kx_indicators.specs.Meaning.{Indicators}
use Rattle.kx_keys.specs.Selecting.{RealSet}
use Rattle.kx_resolve.specs.Lit.{indicator_lit, indicators_of}
use Rattle.kx_tables.specs.Keymap.{Keymap}

-- ---- Lists by number

pub taken_next : {X : Type 0} (xs : List X) (i : ℕ) (x : X) → slice_get xs i ≡ Some x → take (i + 1) xs ≡ take i xs ++ x ∷ []
taken_next xs i x at =
    let within : i < length xs = slice_get_within xs i x at in
    take_more xs i x within ∙ ap (λ y. take i xs ++ y ∷ []) (same_Some (get_or xs i x) x (sym (slice_get-get_or xs i x within) ∙ at))

zip_at : {A B : Type 0} (ks : List A) (vs : List B) (i : ℕ) (k : A) (v : B) → slice_get ks i ≡ Some k → slice_get vs i ≡ Some v → slice_get (zip ks vs) i ≡ Some (k, v)
zip_at [] vs i k v at beside = absurd (none-some k at)
zip_at (x ∷ ks) [] i k v at beside = absurd (none-some v beside)
zip_at (x ∷ ks) (y ∷ vs) zero k v at beside = λ j. Some (same_Some x k at j, same_Some y v beside j)
zip_at (x ∷ ks) (y ∷ vs) (suc i) k v at beside = zip_at ks vs i k v at beside

-- ---- Indicators by number

module _ (real : ℕ → RealSet) (is : Indicators) (valid : AreValid is) where
  lit_length : length (indicators_of real is) ≡ length is.names
  lit_length = omega (arith, length-map (zip is.names is.indicator_maps) (λ (i : List ℕ × IndicatorMap). indicator_lit real i.0 i.1), length-zip is.names is.indicator_maps, valid.as_many)

  lit_at : (number : ℕ) (name : List ℕ) (indicator_map : IndicatorMap) → slice_get is.names number ≡ Some name → slice_get is.indicator_maps number ≡ Some indicator_map → slice_get (indicators_of real is) number ≡ Some (indicator_lit real name indicator_map)
  lit_at number name indicator_map named lit = slice_get-map (λ (i : List ℕ × IndicatorMap). indicator_lit real i.0 i.1) (zip is.names is.indicator_maps) number ∙ ap (option_map (λ (i : List ℕ × IndicatorMap). indicator_lit real i.0 i.1)) (zip_at is.names is.indicator_maps number name indicator_map named lit)

  pub lit_next : (number : ℕ) (now new : List ResolvedIndicator) → number < length is.names → now ≡ take number (indicators_of real is) → ((name : List ℕ) (indicator_map : IndicatorMap) → slice_get is.names number ≡ Some name → slice_get is.indicator_maps number ≡ Some indicator_map → new ≡ now ++ indicator_lit real name indicator_map ∷ []) → new ≡ take (number + 1) (indicators_of real is)
  lit_next number now new within upto more =
      let none : IndicatorMap = record { modifiers = 0; mod_states = 0; group_states = 0; groups = 0 } in
      let name = get_or is.names number [] in
      let indicator_map = get_or is.indicator_maps number none in
      let named : slice_get is.names number ≡ Some name = slice_get-get_or is.names number [] within in
      let lit : slice_get is.indicator_maps number ≡ Some indicator_map = slice_get-get_or is.indicator_maps number none (omega (arith, within, valid.as_many)) in
      more name indicator_map named lit
      ∙ ap (λ ds. ds ++ indicator_lit real name indicator_map ∷ []) upto
      ∙ sym (taken_next (indicators_of real is) number (indicator_lit real name indicator_map) (lit_at number name indicator_map named lit))

  pub lit_all : (number : ℕ) (now : List ResolvedIndicator) → length is.names ≤ number → now ≡ take number (indicators_of real is) → now ≡ indicators_of real is
  lit_all number now past upto = upto ∙ take_all number (indicators_of real is) (omega (arith, past, lit_length))

-- ---- Names of groups by number

pub name_is : (names : List (List ℕ)) (group : ℕ) (name : List ℕ) → group < length names → name ≡ name_at names group → slice_get names group ≡ Some name
name_is names group name within is =
    let at : slice_get names group ≡ Some (get_or names group []) = slice_get-get_or names group [] within in
    at ∙ ap Some (sym (is ∙ ap (λ o. unwrap_or o []) at))

-- ---- Names apart

names_beside : (real : ℕ → RealSet) (names : List (List ℕ)) (indicator_maps : List IndicatorMap) → length indicator_maps ≡ length names → map (λ (d : ResolvedIndicator). d.name) (map (λ (i : List ℕ × IndicatorMap). indicator_lit real i.0 i.1) (zip names indicator_maps)) ≡ names
names_beside real [] indicator_maps e = refl
names_beside real (name ∷ names) [] e = absurd (omega (arith, e))
names_beside real (name ∷ names) (indicator_map ∷ indicator_maps) e = ap (λ rest. name ∷ rest) (names_beside real names indicator_maps (omega (arith, e)))

named_apart : (ds : List ResolvedIndicator) (names : List (List ℕ)) → map (λ (d : ResolvedIndicator). d.name) ds ≡ names → IsDistinct bytes_eq names → Apart (λ (d : ResolvedIndicator). d.name) ds
named_apart ds names are distinct = λ i j x y less at before same.
    let later = named_at i x at in
    let earlier = named_at j y before in
    let equal : get_or names j [] ≡ get_or names i [] = earlier.1 ∙ same ∙ sym later.1 in
    false≢true (sym (apart_from_distinct bytes_eq names j i [] distinct less later.0) ∙ (bytes_decides (get_or names j []) (get_or names i [])).1 equal)
  where
    named_at : (i : ℕ) (d : ResolvedIndicator) → slice_get ds i ≡ Some d → (i < length names) × (get_or names i [] ≡ d.name)
    named_at i d at =
        let is : slice_get names i ≡ Some d.name = ap (λ ns. slice_get ns i) (sym are) ∙ slice_get-map (λ (e : ResolvedIndicator). e.name) ds i ∙ ap (option_map (λ (e : ResolvedIndicator). e.name)) at in
        let within : i < length names = slice_get_within names i d.name is in
        (within, same_Some (get_or names i []) d.name (sym (slice_get-get_or names i [] within) ∙ is))

-- ---- All together

last_named : (gs : List (List ℕ)) → (name_at gs (length gs - 1) ≡ [] → gs ≡ []) → (i : ℕ) (g : List ℕ) → slice_get gs i ≡ Some g → i + 1 ≡ length gs → 0 < length g
last_named gs ends i [] at e =
    let place : length gs - 1 ≡ i = omega (arith, e) in
    let none : gs ≡ [] = ends (ap (name_at gs) place ∙ ap (λ o. unwrap_or o []) at) in
    absurd (none-some [] (sym (ap (λ xs. slice_get xs i) none) ∙ at))
last_named gs ends i (b ∷ bs) at e = omega arith

pub indicator_maps_valid : (real : ℕ → RealSet) (is : Indicators) (ds : List ResolvedIndicator) (names gs : List (List ℕ)) → AreValid is → ds ≡ indicators_of real is → All IndicatorIsValid ds → AreCut names → gs ≡ names → All GroupNameIsValid gs → IndicatorMapsAreValid ds gs
indicator_maps_valid real is ds names gs valid lit each cut are named = record {
  few_indicators = omega (arith, ap length lit, lit_length real is valid, valid.names.few);
  each_indicator = each;
  indicators_apart = named_apart ds is.names (ap (map (λ (d : ResolvedIndicator). d.name)) lit ∙ names_beside real is.names is.indicator_maps valid.as_many) valid.names.apart;
  few_groups = omega (arith, ap length are, cut.few);
  each_group = named;
  last = last_named gs (λ none. are ∙ cut.ends (ap (λ ns. name_at ns (length ns - 1)) (sym are) ∙ none));
}

-- ---- They fit

indicator_maps_fit : (r : Resolved) (ds : List ResolvedIndicator) (gs : List (List ℕ)) → IsWithinLimits r → IndicatorMapsAreValid ds gs → IndicatorMapsFit (content_of_resolved r) ds gs
indicator_maps_fit r ds gs small indicator_maps =
    let few : length (content_of_resolved r).names ≤ 17755905 = name_bytes r small in (
      record {
        lengths = All-weaker IndicatorIsValid (λ (d : ResolvedIndicator). length d.name < 2 ^ 16) (λ d holds. let h : length d.name ≤ 255 = holds.name_fits in omega (arith, h)) ds indicator_maps.each_indicator;
        all = omega (arith, few, few_indicator_bytes);
      },
      record {
        lengths = All-weaker GroupNameIsValid (λ (g : List ℕ). length g < 2 ^ 16) (λ g holds. let h : length g ≤ 255 = holds.name_fits in omega (arith, h)) gs indicator_maps.each_group;
        all = omega (arith, few, few_indicator_bytes, few_group_bytes, length-append (content_of_resolved r).names (names_of_indicators ds));
      },
    )
  where
    few_indicator_bytes : length (names_of_indicators ds) ≤ 8160
    few_indicator_bytes = omega (arith, indicator_maps.few_indicators, flat_length (λ (d : ResolvedIndicator). d.name) 255 ds (All-weaker IndicatorIsValid (λ (d : ResolvedIndicator). length d.name ≤ 255) (λ d holds. holds.name_fits) ds indicator_maps.each_indicator))

    few_group_bytes : length (names_of_groups gs) ≤ 8160
    few_group_bytes = omega (arith, indicator_maps.few_groups, flat_length (λ (g : List ℕ). g) 255 gs (All-weaker GroupNameIsValid (λ (g : List ℕ). length g ≤ 255) (λ g holds. holds.name_fits) gs indicator_maps.each_group))

pub indicator_maps_refused : (r : Resolved) (ds : List ResolvedIndicator) (gs : List (List ℕ)) (e : BuildFault) → IsWithinLimits r → IndicatorMapsAreValid ds gs → IsCause e (IndicatorMapsFit (content_of_resolved r) ds gs) ⊤ → e ≡ builds.Memory
indicator_maps_refused r ds gs e small valid cause = only_memory e (IndicatorMapsFit (content_of_resolved r) ds gs) ⊤ cause (indicator_maps_fit r ds gs small valid) tt

-- ---- Indicator maps beside keymaps

pub same_with : (a b : Keymap) (ds : List ResolvedIndicator) → ShowsSame a b → ShowsSame (keymap_with a ds) (keymap_with b ds)
same_with a b ds same = record { groups = same.groups; known = same.known; shown = same.shown; indicator_maps = refl }
