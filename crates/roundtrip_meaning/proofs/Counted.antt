-- How many names the statements of a section write, and which.
use Rattle.std.proofs.Common.{◌≡◌, ◌≢◌, ℕ, ◌+◌, ◌≤◌, nat_lt, Bool, true, false, cond, ◌||◌, List, [], ◌∷◌, ◌++◌, length, map, fold, refl, sym, ap, ap₂, ◌∙◌, arith, append_assoc, append-nil, length-append}
use Rattle.std.proofs.lemmas.Bool.{le-ltb, false_from_ne_true}
use Rattle.std.proofs.lemmas.List.Folds.{list_any-append}
use Rattle.std.proofs.lemmas.Slice.Eq.{bytes_eq-Decides}
use Rattle.std.specs.List.{list_any}
use Rattle.std.specs.Str.{bytes_eq}
use Rattle.kx_include.specs.Expansion.{End}
use Rattle.kx_include.specs.IncludeFaults.{at}
use Rattle.kx_include.specs.declared.place.Place.{Place}
use Rattle.kx_lex.specs.declared.fault.Fault.{Fault}
use Rattle.kx_lex.specs.declared.fault.Fault.TheVariants.{TooMany}
use Rattle.kx_virtual_mods.specs.Counted.{Text, statements_of, names_with, names_of, crossing, count_faults}
use Rattle.kx_merge.specs.Offers.{with_name}
use Rattle.kx_tree.specs.declared.tree.Stated.{Stated}
use Rattle.kx_tree.specs.declared.tree.Statement.{Statement}
use Rattle.roundtrip_meaning.specs.Bodies.{own_body}
use Rattle.roundtrip_text.specs.Source.{EachOf, AreApart}
use Rattle.roundtrip_tree.specs.Shows.{AreShown, none, more}

module _ {X : Type 0} (names : Statement → List Text) (name : X → Text) (Is : X → Stated → Type 0) (each : (x : X) (s : Stated) → Is x s → names s.statement ≡ name x ∷ []) (place : Place) where
  one_more : (before : List Text) (k : Text) → length (with_name bytes_eq before k) ≤ length before + 1
  one_more before k = by (list_any (bytes_eq k) before)
    where
      by : (t : Bool) → length (cond t before (before ++ k ∷ [])) ≤ length before + 1
      by true = omega arith
      by false = omega (arith, length-append before (k ∷ []))

  few_from : (limit : ℕ) (before : List Text) (xs : List X) (is : List Stated) → AreShown Is xs is → length before + length xs ≤ limit → crossing names limit before (statements_of (own_body place is End)) ≡ []
  few_from limit before [] [] none few = refl
  few_from limit before [] (i ∷ is) are few = elim are [ ]
  few_from limit before (x ∷ xs) [] are few = elim are [ ]
  few_from limit before (x ∷ xs) (i ∷ is) (more one are) few =
      let size = one_more before (name x) in
      ap (λ ks. let next = fold (with_name bytes_eq) before ks in let faults : List Fault = cond (nat_lt limit (length next)) (TooMany (at place.file i.span) ∷ []) (crossing names limit next (statements_of (own_body place is End))) in faults) (each x i one)
      ∙ ap (λ t. let faults : List Fault = cond t (TooMany (at place.file i.span) ∷ []) (crossing names limit (with_name bytes_eq before (name x)) (statements_of (own_body place is End))) in faults) (le-ltb limit (length (with_name bytes_eq before (name x))) (omega (arith, few, size)))
      ∙ few_from limit (with_name bytes_eq before (name x)) xs is are (omega (arith, few, size))

  pub few_names : (limit : ℕ) (xs : List X) (is : List Stated) → AreShown Is xs is → length xs ≤ limit → count_faults names limit (statements_of (own_body place is End)) ≡ []
  few_names limit xs is are few = few_from limit [] xs is are (omega (arith, few))

  abbrev Unnamed : List Text → List X → Type 0
  Unnamed before xs = EachOf (λ x. list_any (bytes_eq (name x)) before ≡ false) xs

  unnamed_behind : (before : List Text) (k : Text) (xs : List X) → Unnamed before xs → EachOf (λ x. k ≢ name x) xs → Unnamed (before ++ k ∷ []) xs
  unnamed_behind before k [] new other = tt
  unnamed_behind before k (x ∷ xs) new other = (
    list_any-append (bytes_eq (name x)) before (k ∷ []) ∙ ap₂ (λ a b. a || (b || false)) new.0 (false_from_ne_true (bytes_eq (name x) k) (λ e. other.0 (sym ((bytes_eq-Decides (name x) k).0 e)))),
    unnamed_behind before k xs new.1 other.1,
  )

  names_from : (before : List Text) (xs : List X) (is : List Stated) → AreShown Is xs is → Unnamed before xs → AreApart name xs → fold (names_with names) before (statements_of (own_body place is End)) ≡ before ++ map name xs
  names_from before [] [] none new apart = sym (append-nil before)
  names_from before [] (i ∷ is) are new apart = elim are [ ]
  names_from before (x ∷ xs) [] are new apart = elim are [ ]
  names_from before (x ∷ xs) (i ∷ is) (more one are) new apart =
      ap (λ ks. fold (names_with names) (fold (with_name bytes_eq) before ks) (statements_of (own_body place is End))) (each x i one)
      ∙ ap (λ t. fold (names_with names) (cond t before (before ++ name x ∷ [])) (statements_of (own_body place is End))) new.0
      ∙ names_from (before ++ name x ∷ []) xs is are (unnamed_behind before (name x) xs new.1 apart.0) apart.1
      ∙ append_assoc before (name x ∷ []) (map name xs)

  none_before : (xs : List X) → Unnamed [] xs
  none_before [] = tt
  none_before (x ∷ xs) = (refl, none_before xs)

  -- all names, in order
  pub names_are : (xs : List X) (is : List Stated) → AreShown Is xs is → AreApart name xs → names_of names (statements_of (own_body place is End)) ≡ map name xs
  names_are xs is are apart = names_from [] xs is are (none_before xs) apart
