-- There are no virtual modifiers in what is printed.
use Rattle.std.proofs.Common.{◌≡◌, ℕ, nat_eq, nat_lt, cond, List, [], ◌∷◌, ◌++◌, length, fold, refl, ap, ap₂, ◌∙◌}
use Rattle.std.specs.List.{flat_map}
use Rattle.std.specs.Str.{bytes_eq}
use Rattle.kx_builder.specs.IndicatorMaps.{ResolvedIndicator}
use Rattle.kx_builder.specs.Resolved.{ResolvedType}
use Rattle.kx_include.specs.Expansion.{Body, End}
use Rattle.kx_include.specs.IncludeFaults.{at}
use Rattle.kx_include.specs.declared.place.Place.{Place}
use Rattle.kx_lex.specs.declared.fault.Fault.{Fault}
use Rattle.kx_lex.specs.declared.fault.Fault.TheVariants.{TooMany}
use Rattle.kx_virtual_mods.specs.Counted.{Said, Text, statements_of, all_statements, names_with, crossing}
use Rattle.kx_virtual_mods.specs.Declarations.{declarations_in, named_by, named_in, declaration_faults, mask_rules, modifier_faults, virtual_names}
use Rattle.kx_virtual_mods.specs.declared.limits.TheConstants.{MOST_VIRTUAL_MODIFIERS}
use Rattle.kx_merge.specs.Bodies.{faults_of, faults, no_moves}
use Rattle.kx_merge.specs.Offers.{with_name}
use Rattle.kx_tree.specs.declared.tree.Declaration.{Declaration}
use Rattle.kx_tree.specs.declared.tree.Stated.{Stated}
use Rattle.roundtrip_meaning.specs.Bodies.{own_body}
use Rattle.roundtrip_text.specs.Source.{EachOf}
use Rattle.roundtrip_tree.specs.Indicators.{IsIndicator}
use Rattle.roundtrip_tree.specs.Shows.{AreShown, IsStated, none, more}
use Rattle.roundtrip_tree.specs.Source.{IsNameStated, IsKeyStated, IsMapStated}
use Rattle.roundtrip_tree.specs.Types.{IsType}
use Rattle.roundtrip_tree.proofs.Types.{each-append}
use Rattle.roundtrip_meaning.specs.NoModifiers.{NoneDeclared, ends, own}

-- ---- Bodies

-- statements that name none
abbrev AreSilent : List Said → Type 0
AreSilent saids = EachOf (λ (s : Said). declarations_in s.1.statement ≡ []) saids

own_silent : (place : Place) (is : List Stated) → EachOf (λ (s : Stated). declarations_in s.statement ≡ []) is → AreSilent (statements_of (own_body place is End))
own_silent place [] each = tt
own_silent place (i ∷ is) each = (each.0, own_silent place is each.1)

body_silent : (b : Body) → NoneDeclared b → AreSilent (statements_of b)
body_silent b ends = tt
body_silent b (own place is each) = own_silent place is each

abbrev named_of : List Declaration → List Text
named_of ds = flat_map named_by ds

silent_names : (before : List Text) (saids : List Said) → AreSilent saids → fold (names_with named_in) before saids ≡ before
silent_names before [] each = refl
silent_names before (s ∷ saids) each = ap (λ (ds : List Declaration). fold (names_with named_in) (fold (with_name bytes_eq) before (named_of ds)) saids) each.0 ∙ silent_names before saids each.1

silent_count : (saids : List Said) → AreSilent saids → crossing named_in MOST_VIRTUAL_MODIFIERS [] saids ≡ []
silent_count [] each = refl
silent_count (s ∷ saids) each =
    ap (λ (ds : List Declaration). let next = fold (with_name bytes_eq) [] (named_of ds) in let faults : List Fault = cond (nat_lt MOST_VIRTUAL_MODIFIERS (length next)) (TooMany (at s.0.file s.1.span) ∷ []) (crossing named_in MOST_VIRTUAL_MODIFIERS next saids) in faults) each.0
    ∙ silent_count saids each.1

all_silent : (a b d : Body) → NoneDeclared a → NoneDeclared b → NoneDeclared d → AreSilent (all_statements (a ∷ b ∷ d ∷ []))
all_silent a b d na nb nd =
    each-append (λ (s : Said). declarations_in s.1.statement ≡ []) (statements_of a) (statements_of b ++ (statements_of d ++ [])) (body_silent a na)
    (each-append (λ (s : Said). declarations_in s.1.statement ≡ []) (statements_of b) (statements_of d ++ []) (body_silent b nb)
    (each-append (λ (s : Said). declarations_in s.1.statement ≡ []) (statements_of d) [] (body_silent d nd) tt))

pub no_modifiers : (a b d : Body) → NoneDeclared a → NoneDeclared b → NoneDeclared d → virtual_names (a ∷ b ∷ d ∷ []) ≡ []
no_modifiers a b d na nb nd = silent_names [] (all_statements (a ∷ b ∷ d ∷ [])) (all_silent a b d na nb nd)

module _ (names : List (List ℕ)) where
  items_faultless : (place : Place) (is : List Stated) → EachOf (λ (s : Stated). declarations_in s.statement ≡ []) is → faults nat_eq (mask_rules names) no_moves tt (own_body place is End) ≡ []
  items_faultless place [] each = refl
  items_faultless place (i ∷ is) each = ap₂ (λ (ds : List Declaration) (fs : List Fault). flat_map (declaration_faults place.file names) ds ++ fs) each.0 (items_faultless place is each.1)

  body_faultless : (b : Body) → NoneDeclared b → faults_of nat_eq (mask_rules names) no_moves b ≡ []
  body_faultless b ends = refl
  body_faultless b (own place is each) = items_faultless place is each

pub modifiers_faultless : (a b d : Body) → NoneDeclared a → NoneDeclared b → NoneDeclared d → modifier_faults (a ∷ b ∷ d ∷ []) ≡ []
modifiers_faultless a b d na nb nd =
    let names = virtual_names (a ∷ b ∷ d ∷ []) in
    ap₂ (λ (f g : List Fault). f ++ g) (silent_count (all_statements (a ∷ b ∷ d ∷ [])) (all_silent a b d na nb nd))
    (ap₂ (λ (f g : List Fault). f ++ g) (body_faultless names a na) (ap₂ (λ (f g : List Fault). f ++ (g ++ [])) (body_faultless names b nb) (body_faultless names d nd)))

-- ---- Items

undeclared : {X : Type 0} (Is : X → Stated → Type 0) → ((x : X) (i : Stated) → Is x i → declarations_in i.statement ≡ []) → (xs : List X) (is : List Stated) → AreShown Is xs is → EachOf (λ (s : Stated). declarations_in s.statement ≡ []) is
undeclared Is each [] [] none = tt
undeclared Is each [] (i ∷ is) are = elim are [ ]
undeclared Is each (x ∷ xs) [] are = elim are [ ]
undeclared Is each (x ∷ xs) (i ∷ is) (more one are) = (each x i one, undeclared Is each xs is are)

pub types_undeclared : (ts : List ResolvedType) (is : List Stated) → AreShown (λ t i. IsStated (IsType t) i) ts is → EachOf (λ (s : Stated). declarations_in s.statement ≡ []) is
types_undeclared ts is are = undeclared (λ t i. IsStated (IsType t) i) (λ t i one. ap declarations_in one.shows.is) ts is are

pub indicators_undeclared : (ds : List ResolvedIndicator) (is : List Stated) → AreShown (λ d i. IsStated (IsIndicator d) i) ds is → EachOf (λ (s : Stated). declarations_in s.statement ≡ []) is
indicators_undeclared ds is are = undeclared (λ d i. IsStated (IsIndicator d) i) (λ d i one. ap declarations_in one.shows.is) ds is are

each_mapped : {X : Type 0} (P Q : X → Type 0) → ((x : X) → P x → Q x) → (xs : List X) → EachOf P xs → EachOf Q xs
each_mapped P Q f [] each = tt
each_mapped P Q f (x ∷ xs) each = (f x each.0, each_mapped P Q f xs each.1)

pub symbols_undeclared : (nis kis mis : List Stated) → EachOf IsNameStated nis → EachOf IsKeyStated kis → EachOf IsMapStated mis → EachOf (λ (s : Stated). declarations_in s.statement ≡ []) (nis ++ (kis ++ mis))
symbols_undeclared nis kis mis named keyed mapped =
    let P : Stated → Type 0 = λ s. declarations_in s.statement ≡ [] in
    each-append P nis (kis ++ mis) (each_mapped IsNameStated P (λ i one. ap declarations_in one.shows.is.is) nis named)
    (each-append P kis mis (each_mapped IsKeyStated P (λ i one. ap declarations_in one.shows.is) kis keyed)
    (each_mapped IsMapStated P (λ i one. ap declarations_in one.shows.is) mis mapped))
