-- Indicators and names of groups pushed one after another are those of the definition.
use Rattle.std.proofs.Common.{ℕ, ◌+◌, ◌<◌, ◌≡◌, ◌^◌, Bor, All, Result, Ok, Err, IfErr, subst, List, [], ◌∷◌, ◌++◌, get_or, length, map, take, sym, ap, ◌∙◌, append_assoc, arith}
use Rattle.std.proofs.lemmas.List.{append-nil, length-append, map-append, take_more}
use Rattle.std.proofs.lemmas.List.Elements.{All-cons, All-get_or, All-head, All-nil, All-tail}
use Rattle.std.proofs.lemmas.List.Folds.{flat_map-map, length-flat_map-take}
use Rattle.std.specs.List.{flat_map}
use Rattle.std.specs.Result.{IsErrAnd}
use Rattle.kx_builder.proofs.Placing.{flat_push, rows_push}
use Rattle.kx_builder.specs.Faults.{IsCause}
use Rattle.kx_builder.specs.IndicatorMaps.{NamesFit, ResolvedIndicator, group_name_row, indicator_of, indicator_row, names_of_groups, names_of_indicators, with_group_names, with_indicators}
use Rattle.kx_builder.specs.IndicatorMapsAdded.{NameFits, group_name_added, indicator_added}
use Rattle.kx_builder.specs.Placed.{rows_of}
use Rattle.kx_builder.specs.declared.fault.BuildFault.{BuildFault}
use Rattle.kx_builder.specs.declared.fault.BuildFault.TheVariants.{Memory, Misplaced, TooMany}
use Rattle.kx_builder.specs.declared.indicator_maps.Indicator.{Indicator}
use Rattle.kx_tables.specs.Content.{Content}

pub no_indicators : (c : Content) → c.indicators ≡ [] → c ≡ with_indicators c []
no_indicators c none = λ i. record c { indicators = none i; names = sym (append-nil c.names) i }

pub indicator_next : (c : Content) (ds : List ResolvedIndicator) (d : ResolvedIndicator) → indicator_added (with_indicators c ds) d ≡ with_indicators c (ds ++ d ∷ [])
indicator_next c ds d = λ i. record c {
  indicators = ((λ j. rows_of (indicator_row (length c.names)) ds ++ record { mods = d.mods; mod_states = d.mod_states; group_states = d.group_states; groups = d.groups; name_length = length d.name; first_name = length-append c.names (names_of_indicators ds) j } ∷ []) ∙ sym (rows_push (indicator_row (length c.names)) ds d)) i;
  names = (append_assoc c.names (names_of_indicators ds) d.name ∙ ap (λ ns. c.names ++ ns) (sym (flat_push (λ (e : ResolvedIndicator). e.name) ds d))) i;
}

pub no_group_names : (c : Content) → c.group_names ≡ [] → c ≡ with_group_names c []
no_group_names c none = λ i. record c { group_names = none i; names = sym (append-nil c.names) i }

pub group_name_next : (c : Content) (gs : List (List ℕ)) (g : List ℕ) → group_name_added (with_group_names c gs) g ≡ with_group_names c (gs ++ g ∷ [])
group_name_next c gs g = λ i. record c {
  group_names = ((λ j. rows_of (group_name_row (length c.names)) gs ++ record { name_length = length g; first_name = length-append c.names (names_of_groups gs) j } ∷ []) ∙ sym (rows_push (group_name_row (length c.names)) gs g)) i;
  names = (append_assoc c.names (names_of_groups gs) g ∙ ap (λ ns. c.names ++ ns) (sym (flat_push (λ (h : List ℕ). h) gs g))) i;
}

pub indicators_step : (c : Content) (xs : List Indicator) (i : ℕ) (d : Indicator) (now new : Content) → i < length xs → now ≡ with_indicators c (map indicator_of (take i xs)) → new ≡ indicator_added now (indicator_of (get_or xs i d)) → new ≡ with_indicators c (map indicator_of (take (i + 1) xs))
indicators_step c xs i d now new within held added =
    added ∙ ap (λ b. indicator_added b (indicator_of (get_or xs i d))) held ∙ indicator_next c (map indicator_of (take i xs)) (indicator_of (get_or xs i d))
    ∙ sym (ap (λ ds. with_indicators c ds) (ap (map indicator_of) (take_more xs i d within) ∙ map-append indicator_of (take i xs) (get_or xs i d ∷ [])))

pub names_step : (c : Content) (xs : List (Bor (List ℕ))) (i : ℕ) (d : Bor (List ℕ)) (now new : Content) → i < length xs → now ≡ with_group_names c (map (λ h. h.now) (take i xs)) → new ≡ group_name_added now (get_or xs i d).now → new ≡ with_group_names c (map (λ h. h.now) (take (i + 1) xs))
names_step c xs i d now new within held added =
    added ∙ ap (λ b. group_name_added b (get_or xs i d).now) held ∙ group_name_next c (map (λ h. h.now) (take i xs)) (get_or xs i d).now
    ∙ sym (ap (λ gs. with_group_names c gs) (ap (map (λ h. h.now)) (take_more xs i d within) ∙ map-append (λ h. h.now) (take i xs) (get_or xs i d ∷ [])))

-- ---- Refusals

pub cause_from : (e : BuildFault) (fits had placed : Type 0) → (had → fits) → IsCause e fits placed → IsCause e had placed
cause_from Memory fits had placed give cause = tt
cause_from TooMany fits had placed give cause = λ h. cause (give h)
cause_from Misplaced fits had placed give cause = cause

-- where all names fit, so does each after those before it
pub name_fits : {X : Type 0} (name : X → List ℕ) (c now : Content) (xs : List X) (i : ℕ) (d : X) → i < length xs → length now.names ≡ length c.names + length (flat_map name (take i xs)) → NamesFit c name xs → NameFits now (name (get_or xs i d))
name_fits name c now xs i d within e fit = record {
  length_fits = All-get_or (λ x. length (name x) < 2 ^ 16) xs i d within fit.lengths;
  first = omega (arith, e, fit.all, length-flat_map-take name xs i d within);
}

pub indicators_length : (c now : Content) (xs : List Indicator) (i : ℕ) → now ≡ with_indicators c (map indicator_of (take i xs)) → length now.names ≡ length c.names + length (flat_map (λ (d : Indicator). d.name.now) (take i xs))
indicators_length c now xs i held = ap (λ b. length b.names) held ∙ length-append c.names (names_of_indicators (map indicator_of (take i xs))) ∙ ap (λ ns. length c.names + length ns) (flat_map-map (λ (d : ResolvedIndicator). d.name) indicator_of (take i xs))

pub groups_length : (c now : Content) (xs : List (Bor (List ℕ))) (i : ℕ) → now ≡ with_group_names c (map (λ h. h.now) (take i xs)) → length now.names ≡ length c.names + length (flat_map (λ (h : Bor (List ℕ)). h.now) (take i xs))
groups_length c now xs i held = ap (λ b. length b.names) held ∙ length-append c.names (names_of_groups (map (λ h. h.now) (take i xs))) ∙ ap (λ ns. length c.names + length ns) (flat_map-map (λ (g : List ℕ). g) (λ (h : Bor (List ℕ)). h.now) (take i xs))

pub cause_passed : {X : Type 0} (result : Result X BuildFault) (e : BuildFault) (fits had placed : Type 0) → IsErrAnd result (λ f. f ≡ e) → (had → fits) → IsCause e fits placed → IfErr result (λ f. IsCause f had placed)
cause_passed (Ok x) e fits had placed same give cause = tt
cause_passed (Err f) e fits had placed same give cause = subst (λ g. IsCause g had placed) (sym same) (cause_from e fits had placed give cause)

all_mapped : {X Y : Type 0} (P : Y → Type 0) (f : X → Y) (xs : List X) → All P (map f xs) → All (λ x. P (f x)) xs
all_mapped P f [] each = All-nil (λ x. P (f x))
all_mapped P f (x ∷ xs) each = All-cons (λ y. P (f y)) x xs (All-head P (f x) (map f xs) each) (all_mapped P f xs (All-tail P (f x) (map f xs) each))

pub indicators_fit : (now c : Content) (xs : List Indicator) → now ≡ c → NamesFit c (λ (d : ResolvedIndicator). d.name) (map indicator_of xs) → NamesFit now (λ (d : Indicator). d.name.now) xs
indicators_fit now c xs held fit = record {
  lengths = all_mapped (λ (d : ResolvedIndicator). length d.name < 2 ^ 16) indicator_of xs fit.lengths;
  all = omega (arith, ap (λ b. length b.names) held, ap length (flat_map-map (λ (d : ResolvedIndicator). d.name) indicator_of xs), fit.all);
}

pub group_names_fit : (now c : Content) (xs : List (Bor (List ℕ))) → now ≡ c → NamesFit c (λ (g : List ℕ). g) (map (λ h. h.now) xs) → NamesFit now (λ (g : Bor (List ℕ)). g.now) xs
group_names_fit now c xs held fit = record {
  lengths = all_mapped (λ (g : List ℕ). length g < 2 ^ 16) (λ (h : Bor (List ℕ)). h.now) xs fit.lengths;
  all = omega (arith, ap (λ b. length b.names) held, ap length (flat_map-map (λ (g : List ℕ). g) (λ (h : Bor (List ℕ)). h.now) xs), fit.all);
}
