-- What printed keycodes leave.
use Rattle.std.proofs.Common.{◌≡◌, ℕ, ◌≤◌, Bool, true, false, not, cond, ◌||◌, List, [], ◌∷◌, ◌++◌, length, refl, sym, ap, ap₂, ◌∙◌, append_assoc, append-nil}
use Rattle.std.proofs.lemmas.Bool.{le-ltb}
use Rattle.std.specs.List.{list_any}
use Rattle.kx_basics.specs.declared.limits.TheConstants.{GREATEST_CODE, MOST_NAME_BYTES}
use Rattle.kx_codes.specs.CodeFaults.{faults_of, said_faults}
use Rattle.kx_codes.specs.Pairs.{Pair, shares, without, said_pairs, pairs_from, pairs_of}
use Rattle.kx_include.specs.Expansion.{Body, End, Begin}
use Rattle.kx_include.specs.declared.place.Place.{Place}
use Rattle.kx_lex.specs.declared.fault.Fault.{Fault}
use Rattle.kx_lex.specs.declared.fault.Fault.TheVariants.{TooMany, CodeRange}
use Rattle.kx_include.specs.IncludeFaults.{at}
use Rattle.kx_tree.specs.declared.tree.Stated.{Stated}
use Rattle.roundtrip_tree.specs.Shows.{AreShown, none, more}
use Rattle.roundtrip_meaning.specs.Bodies.{own_body, IsPair, Fresh}

without_none : (p : Pair) (ps : List Pair) → list_any (shares p) ps ≡ false → without p ps ≡ ps
without_none p [] h = refl
without_none p (q ∷ ps) h = by (shares p q) h (without_none p ps)
  where
    by : (t : Bool) → (t || list_any (shares p) ps) ≡ false → (list_any (shares p) ps ≡ false → without p ps ≡ ps) → cond (not t) (q ∷ without p ps) (without p ps) ≡ q ∷ ps
    by true h rest = cc
    by false h rest = ap (λ xs. q ∷ xs) (rest h)

own_left : (q : Pair) (s : Stated) (ps : List Pair) → IsPair q s → list_any (shares q) ps ≡ false → said_pairs s.mode s.statement ps ≡ ps ++ q ∷ []
own_left q s ps is fresh = ap₂ (λ mode said. said_pairs mode said ps) is.mode_is is.shows.is ∙ ap (λ xs. xs ++ q ∷ []) (without_none q ps fresh)

-- all pairs are left, in order
pub pairs_left : (place : Place) (qs : List Pair) (is : List Stated) (ps : List Pair) (rest : Body) → AreShown IsPair qs is → Fresh ps qs → pairs_from ps (own_body place is rest) ≡ pairs_from (ps ++ qs) rest
pairs_left place [] [] ps rest none fresh = ap (λ xs. pairs_from xs rest) (sym (append-nil ps))
pairs_left place [] (i ∷ is) ps rest are fresh = elim are [ ]
pairs_left place (q ∷ qs) [] ps rest are fresh = elim are [ ]
pairs_left place (q ∷ qs) (i ∷ is) ps rest (more one are) fresh =
    ap (λ xs. pairs_from xs (own_body place is rest)) (own_left q i ps one fresh.0)
    ∙ pairs_left place qs is (ps ++ q ∷ []) rest are fresh.1
    ∙ ap (λ xs. pairs_from xs rest) (append_assoc ps (q ∷ []) qs)

pub pairs_are : (place : Place) (qs : List Pair) (is : List Stated) → AreShown IsPair qs is → Fresh [] qs → pairs_of (Begin (own_body place is End)) ≡ qs
pairs_are place qs is are fresh = pairs_left place qs is [] End are fresh

-- a pair that keeps the rules of tables
pub record Fits (p : Pair) : Type 0 where
  pub name : length p.name ≤ MOST_NAME_BYTES
  pub code : p.code ≤ GREATEST_CODE

own_fits : (file : ℕ) (q : Pair) (s : Stated) → IsPair q s → Fits q → said_faults file s.statement s.first s.span ≡ []
own_fits file q s is fits =
    ap (λ said. said_faults file said s.first s.span) is.shows.is
    ∙ ap₂ (λ (a b : Bool). let faults : List Fault = cond a (TooMany (at file s.span) ∷ []) [] ++ cond b (CodeRange (at file is.shows.code_span) ∷ []) [] in faults) (le-ltb MOST_NAME_BYTES (length q.name) fits.name) (le-ltb GREATEST_CODE q.code fits.code)

abbrev pub AllFit : List Pair → Type 0
AllFit [] = Unit {0}
AllFit (q ∷ qs) = Fits q × AllFit qs

pub keycodes_faultless : (place : Place) (qs : List Pair) (is : List Stated) (rest : Body) → AreShown IsPair qs is → AllFit qs → faults_of (own_body place is rest) ≡ faults_of rest
keycodes_faultless place [] [] rest none fit = refl
keycodes_faultless place [] (i ∷ is) rest are fit = elim are [ ]
keycodes_faultless place (q ∷ qs) [] rest are fit = elim are [ ]
keycodes_faultless place (q ∷ qs) (i ∷ is) rest (more one are) fit = ap (λ (fs : List Fault). fs ++ faults_of (own_body place is rest)) (own_fits place.file q i one fit.0) ∙ keycodes_faultless place qs is rest are fit.1
