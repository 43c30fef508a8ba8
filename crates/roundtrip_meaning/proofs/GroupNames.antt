-- The names of groups that a printed section gives.
use Rattle.std.proofs.Common.{◌≡◌, ℕ, zero, suc, ◌+◌, ◌-◌, ◌<◌, ◌≤◌, nat_eq, nat_lt, Bool, true, false, cond, ◌&&◌, ◌||◌, ◌==◌, List, [], ◌∷◌, ◌++◌, length, map, None, Some, unwrap_or, refl, sym, ap, ap₂, ◌∙◌, arith, append-nil, eqb-true}
use Rattle.std.proofs.lemmas.Bool.{le-ltb, lt-ltb, le-leb, eq-eqb, ne_eqb, ltb-true, ltb-false}
use Rattle.std.proofs.lemmas.Option.{slice_get_past}
use Rattle.std.proofs.lemmas.List.Concat.{flat_map_single}
use Rattle.std.specs.List.{list_any}
use Rattle.kx_basics.specs.declared.limits.TheConstants.{MOST_NAME_BYTES}
use Rattle.kx_group_names.specs.Fields.{name_in, named_faults, stated_faults}
use Rattle.kx_group_names.specs.Names.{AreGroupNames, group_name, name_at as name_of_group, name_moves, name_offer, name_rules, named_offers, offered, stated_offers}
use Rattle.kx_include.specs.Expansion.{Body, Begin, End}
use Rattle.kx_include.specs.IncludeFaults.{at}
use Rattle.kx_include.specs.declared.place.Place.{Place}
use Rattle.kx_lex.specs.declared.fault.Fault.{Fault}
use Rattle.kx_lex.specs.declared.fault.Fault.TheVariants.{TooMany, GroupRange}
use Rattle.kx_merge.specs.Bodies.{offers, offers_of, faults, faults_of}
use Rattle.kx_merge.specs.Offers.{Offer, value_of, is_about}
use Rattle.kx_tree.specs.declared.tree.Stated.{Stated}
use Rattle.kx_tree.specs.declared.tree.Mode.TheVariants.{Override}
use Rattle.kx_tree.specs.declared.tree.Statement.TheVariants as said
use Rattle.kx_merge.specs.Numbers.{is_within}
use Rattle.kx_merge.specs.declared.numbers.Counted.TheVariants.{Group}
use Rattle.roundtrip_meaning.specs.Bodies.{own_body}
use Rattle.roundtrip_meaning.proofs.Offered.{shown_with, offers_shown, faults_shown}
use Rattle.roundtrip_meaning.proofs.Silent.{own_append3, IsSilent, silent_offers, silent_faults}
use Rattle.roundtrip_meaning.proofs.Single.{AllOverride, value_here, value_past}
use Rattle.roundtrip_text.specs.Source.{EachOf, NamedGroup, NameFits, NamesFit, named_from}
use Rattle.roundtrip_tree.specs.Shows.{AreShown, IsStated}
use Rattle.roundtrip_meaning.proofs.Types.{placed}
use Rattle.roundtrip_tree.specs.Source.{IsGroupName, IsKeyStated, IsMapStated}

-- ---- The statements

abbrev IsInRange : NamedGroup → Type 0
IsInRange g = (1 ≤ g.group) × (g.group ≤ 32) × NameFits g.name

abbrev IsFitStated : NamedGroup → Stated → Type 0
IsFitStated g i = IsInRange g × IsStated (IsGroupName g.group g.name) i

abbrev NameOffer : Type 0
NameOffer = Offer ℕ (Unit {0}) (List ℕ)

abbrev offer_of : NamedGroup → NameOffer
offer_of g = name_offer Override g.group g.name

within : (g : NamedGroup) → IsInRange g → is_within Group g.group ≡ true
within g range = ap₂ (λ a b. a && b) (lt-ltb 0 g.group range.0) (le-leb g.group 32 range.1)

offered_one : (g : NamedGroup) (i : Stated) → IsFitStated g i → stated_offers i ≡ offer_of g ∷ []
offered_one g i is =
    let s = is.1.shows in
    ap₂ (λ mode statement. named_offers mode (name_in statement)) is.1.mode_is s.is
    ∙ placed (λ f. named_offers Override (name_in (said.Field f))) s.field s.place_is s.setting_is
    ∙ ap (λ t. offered Override (cond t (Some g.group) None) (Some g.name)) (within g is.0)

faultless_one : (file : ℕ) (g : NamedGroup) (i : Stated) → IsFitStated g i → stated_faults file i ≡ []
faultless_one file g i is =
    let s = is.1.shows in
    ap (λ statement. named_faults file i.span (name_in statement)) s.is
    ∙ placed (λ f. named_faults file i.span (name_in (said.Field f))) s.field s.place_is s.setting_is
    ∙ ap₂ (λ a b. let fs : List Fault = cond a [] (GroupRange (at file s.expression_span) ∷ []) ++ cond b (TooMany (at file i.span) ∷ []) [] in fs) (within g is.0) (le-ltb MOST_NAME_BYTES (length g.name) is.0.2.name_fits)

-- keys and modifier maps say nothing of names of groups
key_silent : (place : Place) (i : Stated) → IsKeyStated i → IsSilent name_rules place tt i
key_silent place i is = record {
  next_is = refl;
  offers_none = ap₂ (λ mode statement. named_offers mode (name_in statement)) is.mode_is is.shows.is;
  faults_none = ap (λ statement. named_faults place.file i.span (name_in statement)) is.shows.is;
}

map_silent : (place : Place) (i : Stated) → IsMapStated i → IsSilent name_rules place tt i
map_silent place i is = record {
  next_is = refl;
  offers_none = ap₂ (λ mode statement. named_offers mode (name_in statement)) is.mode_is is.shows.is;
  faults_none = ap (λ statement. named_faults place.file i.span (name_in statement)) is.shows.is;
}

each_silent : (P : Stated → Type 0) (place : Place) → ((i : Stated) → P i → IsSilent name_rules place tt i) → (is : List Stated) → EachOf P is → EachOf (IsSilent name_rules place tt) is
each_silent P place silent [] each = tt
each_silent P place silent (i ∷ is) each = (silent i each.0, each_silent P place silent is each.1)

-- ---- The names

all_override : (gs : List NamedGroup) → AllOverride nat_eq (map offer_of gs)
all_override [] = tt
all_override (g ∷ gs) = (refl, all_override gs)

-- groups before them are not offered anything
none_below : (k n : ℕ) (gs : List (List ℕ)) → k < n → list_any (is_about nat_eq k) (map offer_of (named_from n gs)) ≡ false
none_below k n [] less = refl
none_below k n (g ∷ gs) less = by (length g == 0) (none_below k (n + 1) gs (omega (arith, less)))
  where
    by : (t : Bool) → list_any (is_about nat_eq k) (map offer_of (named_from (n + 1) gs)) ≡ false → list_any (is_about nat_eq k) (map offer_of (cond t [] (record { group = n; name = g } ∷ []) ++ named_from (n + 1) gs)) ≡ false
    by true rest = rest
    by false rest = ap₂ (λ a b. a || b) (ne_eqb k n (λ e. omega (arith, e, less))) rest

no_value : (os : List NameOffer) (k : ℕ) → list_any (is_about nat_eq k) os ≡ false → value_of nat_eq os k tt ≡ None
no_value [] k other = refl
no_value (o ∷ os) k other = by (nat_eq k o.name) refl other (no_value os k)
  where
    by : (t : Bool) → nat_eq k o.name ≡ t → (t || list_any (is_about nat_eq k) os) ≡ false → (list_any (is_about nat_eq k) os ≡ false → value_of nat_eq os k tt ≡ None) → value_of nat_eq (o ∷ os) k tt ≡ None
    by true is other rest = cc
    by false is other rest = value_past nat_eq o os k tt is ∙ rest other

empty : (g : List ℕ) → (length g == 0) ≡ true → g ≡ []
empty [] is = refl
empty (b ∷ g) is = absurd (let none : length (b ∷ g) ≡ 0 = eqb-true (length (b ∷ g)) 0 is in omega (arith, none))

-- the name of each group, counted from 0, where the first is that of the group n
names_from : (n group : ℕ) (gs : List (List ℕ)) → unwrap_or (value_of nat_eq (map offer_of (named_from n gs)) (n + group) tt) [] ≡ name_of_group gs group
names_from n group [] = refl
names_from n zero (g ∷ gs) = by (length g == 0) refl
  where
    by : (t : Bool) → (length g == 0) ≡ t → unwrap_or (value_of nat_eq (map offer_of (cond t [] (record { group = n; name = g } ∷ []) ++ named_from (n + 1) gs)) (n + 0) tt) [] ≡ g
    by true is = ap (λ v. unwrap_or v []) (no_value (map offer_of (named_from (n + 1) gs)) (n + 0) (none_below (n + 0) (n + 1) gs (omega arith))) ∙ sym (empty g is)
    by false is =
        ap (λ v. unwrap_or v []) (value_here nat_eq (offer_of (record { group = n; name = g })) (map offer_of (named_from (n + 1) gs)) (n + 0) tt (refl, all_override (named_from (n + 1) gs)) (eq-eqb (n + 0) n (omega arith)) (none_below (n + 0) (n + 1) gs (omega arith)))
names_from n (suc group) (g ∷ gs) = by (length g == 0) (names_from (n + 1) group gs)
  where
    next : n + suc group ≡ n + 1 + group
    next = omega arith

    by : (t : Bool) → unwrap_or (value_of nat_eq (map offer_of (named_from (n + 1) gs)) (n + 1 + group) tt) [] ≡ name_of_group gs group
        → unwrap_or (value_of nat_eq (map offer_of (cond t [] (record { group = n; name = g } ∷ []) ++ named_from (n + 1) gs)) (n + suc group) tt) [] ≡ name_of_group gs group
    by true rest = ap (λ k. unwrap_or (value_of nat_eq (map offer_of (named_from (n + 1) gs)) k tt) []) next ∙ rest
    by false rest =
        ap (λ v. unwrap_or v []) (value_past nat_eq (offer_of (record { group = n; name = g })) (map offer_of (named_from (n + 1) gs)) (n + suc group) tt (ne_eqb (n + suc group) n (λ e. omega (arith, e))))
        ∙ ap (λ k. unwrap_or (value_of nat_eq (map offer_of (named_from (n + 1) gs)) k tt) []) next ∙ rest

-- ---- Names by group that say the same

ends_at_most : (hs gs : List (List ℕ)) → ((group : ℕ) → group < 32 → name_of_group hs group ≡ name_of_group gs group) → length gs ≤ 32 → (name_of_group gs (length gs - 1) ≡ [] → gs ≡ []) → length gs ≤ length hs
ends_at_most hs gs same few ends = by (nat_lt (length hs) (length gs)) refl
  where
    by : (t : Bool) → nat_lt (length hs) (length gs) ≡ t → length gs ≤ length hs
    by true is =
        let less : length hs < length gs = ltb-true (length hs) (length gs) is in
        let last : name_of_group gs (length gs - 1) ≡ [] = sym (same (length gs - 1) (omega (arith, less, few))) ∙ ap (λ o. unwrap_or o []) (slice_get_past hs (length gs - 1) (omega (arith, less))) in
        let none = ap length (ends last) in absurd (omega (arith, none, less))
    by false is = ltb-false (length hs) (length gs) is

same_lists : (hs gs : List (List ℕ)) (most : ℕ) → length hs ≡ length gs → length gs ≤ most → ((group : ℕ) → group < most → name_of_group hs group ≡ name_of_group gs group) → hs ≡ gs
same_lists [] [] most long few same = refl
same_lists [] (g ∷ gs) most long few same = absurd (omega (arith, long))
same_lists (h ∷ hs) [] most long few same = absurd (omega (arith, long))
same_lists (h ∷ hs) (g ∷ gs) zero long few same = absurd (omega (arith, few))
same_lists (h ∷ hs) (g ∷ gs) (suc most) long few same = ap₂ (λ x xs. x ∷ xs) (same 0 (omega arith)) (same_lists hs gs most (omega (arith, long)) (omega (arith, few)) (λ group less. same (suc group) (omega (arith, less))))

-- ---- The section

in_range : (n : ℕ) (gs : List (List ℕ)) → 1 ≤ n → n + length gs ≤ 33 → EachOf NameFits gs → EachOf IsInRange (named_from n gs)
in_range n [] some few each = tt
in_range n (g ∷ gs) some few each = by (length g == 0) (in_range (n + 1) gs (omega arith) (omega (arith, few)) each.1)
  where
    by : (t : Bool) → EachOf IsInRange (named_from (n + 1) gs) → EachOf IsInRange (cond t [] (record { group = n; name = g } ∷ []) ++ named_from (n + 1) gs)
    by true rest = rest
    by false rest = ((some, omega (arith, few), each.0), rest)

module _ (place : Place) (gs : List (List ℕ)) (nis kis mis : List Stated) (shown : AreShown (λ (g : NamedGroup) i. IsStated (IsGroupName g.group g.name) i) (named_from 1 gs) nis)
    (keys : EachOf IsKeyStated kis) (maps : EachOf IsMapStated mis) (fit : NamesFit gs) where
  abbrev pub symbols : Body
  symbols = Begin (own_body place (nis ++ (kis ++ mis)) End)

  all_shown : AreShown IsFitStated (named_from 1 gs) nis
  all_shown = shown_with IsInRange (λ (g : NamedGroup) i. IsStated (IsGroupName g.group g.name) i) (named_from 1 gs) nis (in_range 1 gs (omega arith) (let few = fit.few in omega (arith, few)) fit.each) shown

  offers_are : offers_of nat_eq name_rules name_moves symbols ≡ map offer_of (named_from 1 gs)
  offers_are =
      ap (λ b. offers nat_eq name_rules name_moves tt b) (own_append3 place nis kis mis End)
      ∙ offers_shown nat_eq name_rules name_moves IsFitStated (λ g. offer_of g ∷ []) tt place offered_one (λ g i is. refl) (named_from 1 gs) nis (own_body place kis (own_body place mis End)) all_shown
      ∙ ap₂ (λ a b. a ++ b) (flat_map_single offer_of (named_from 1 gs))
      (silent_offers name_rules nat_eq name_moves place tt kis (own_body place mis End) (each_silent IsKeyStated place (key_silent place) kis keys) ∙ silent_offers name_rules nat_eq name_moves place tt mis End (each_silent IsMapStated place (map_silent place) mis maps))
      ∙ append-nil (map offer_of (named_from 1 gs))

  name_is : (group : ℕ) → group_name symbols (group + 1) ≡ name_of_group gs group
  name_is group =
      let next : group + 1 ≡ 1 + group = omega arith in
      ap₂ (λ os k. unwrap_or (value_of nat_eq os k tt) []) offers_are next ∙ names_from 1 group gs

  pub names_printed_again : (hs : List (List ℕ)) → AreGroupNames hs symbols → hs ≡ gs
  names_printed_again hs are =
      let same : (group : ℕ) → group < 32 → name_of_group hs group ≡ name_of_group gs group = λ group less. are.names_are group less ∙ name_is group in
      let one = ends_at_most hs gs same fit.few fit.ends in
      let two = ends_at_most gs hs (λ group less. sym (same group less)) are.few are.ends in
      same_lists hs gs 32 (omega (arith, one, two)) fit.few same

  pub names_faultless : faults_of nat_eq name_rules name_moves symbols ≡ []
  names_faultless =
      ap (λ b. faults nat_eq name_rules name_moves tt b) (own_append3 place nis kis mis End)
      ∙ faults_shown nat_eq name_rules name_moves IsFitStated tt place (λ g i is. faultless_one place.file g i is) (λ g i is. refl) (named_from 1 gs) nis (own_body place kis (own_body place mis End)) all_shown
      ∙ silent_faults name_rules nat_eq name_moves place tt kis (own_body place mis End) (each_silent IsKeyStated place (key_silent place) kis keys)
      ∙ silent_faults name_rules nat_eq name_moves place tt mis End (each_silent IsMapStated place (map_silent place) mis maps)
