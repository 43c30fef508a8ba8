-- Names that are there stay there, and add nothing.
use Rattle.std.proofs.Common.{◌≡◌, ℕ, ◌+◌, ◌≤◌, Bool, true, false, cond, ◌||◌, List, [], ◌∷◌, ◌++◌, length, nat_lt, refl, sym, ap, ◌∙◌, subst, arith}
use Rattle.std.specs.List.{list_any}
use Rattle.std.specs.Str.{bytes_eq}
use Rattle.std.proofs.lemmas.Bool.Decides.{nat_tests}
use Rattle.std.proofs.lemmas.List.Folds.{list_any-append}
use Rattle.std.proofs.lemmas.Slice.Eq.{bytes_eq-Decides}
use mathlib.Core.Bool.{or-true}
use Rattle.kx_lex.specs.declared.fault.Fault.TheVariants.{TooMany}
use Rattle.kx_include.specs.IncludeFaults.{at}
use Rattle.kx_merge.specs.Offers.{with_name}
use Rattle.kx_tree.specs.declared.tree.Statement.{Statement}
use Rattle.kx_virtual_mods.specs.Counted.{Said, Text, crossing, names_behind, names_with, with_names}
use Rattle.kx_virtual_mods.specs.Tallies.{HasAll, HasEach}

abbrev is_there : List Text → Text → Bool
is_there there name = list_any (bytes_eq name) there

there-with : (ks : List Text) (k name : Text) → is_there ks name ≡ true → is_there (with_name bytes_eq ks k) name ≡ true
there-with ks k name has = by (is_there ks k)
  where
    by : (b : Bool) → is_there (cond b ks (ks ++ k ∷ [])) name ≡ true
    by true = has
    by false = list_any-append (bytes_eq name) ks (k ∷ []) ∙ ap (λ b. b || is_there (k ∷ []) name) has

there-now : (ks : List Text) (k : Text) → is_there (with_name bytes_eq ks k) k ≡ true
there-now ks k = by (is_there ks k) refl
  where
    by : (b : Bool) → is_there ks k ≡ b → is_there (cond b ks (ks ++ k ∷ [])) k ≡ true
    by true has = has
    by false none = list_any-append (bytes_eq k) ks (k ∷ []) ∙ ap (λ b. is_there ks k || (b || false)) ((bytes_eq-Decides k k).1 refl) ∙ or-true (is_there ks k)

there-names : (ks more : List Text) (name : Text) → is_there ks name ≡ true → is_there (with_names ks more) name ≡ true
there-names ks [] name has = has
there-names ks (k ∷ more) name has = there-names (with_name bytes_eq ks k) more name (there-with ks k name has)

each-names : (ks more names : List Text) → HasEach ks names → HasEach (with_names ks more) names
each-names ks more [] has = tt
each-names ks more (name ∷ names) has = (there-names ks more name has.0, each-names ks more names has.1)

each-now : (ks names : List Text) → HasEach (with_names ks names) names
each-now ks [] = tt
each-now ks (name ∷ names) = (there-names (with_name bytes_eq ks name) names name (there-now ks name), each-now (with_name bytes_eq ks name) names)

each-adds : (ks names : List Text) → HasEach ks names → with_names ks names ≡ ks
each-adds ks [] has = refl
each-adds ks (name ∷ names) has = ap (λ b. with_names (cond b ks (ks ++ name ∷ [])) names) has.0 ∙ each-adds ks names has.1

module _ (names : Statement → List Text) where
  each-behind : (ks : List Text) (saids : List Said) (more : List Text) → HasEach ks more → HasEach (names_behind names ks saids) more
  each-behind ks [] more has = has
  each-behind ks (said ∷ saids) more has = each-behind (names_with names ks said) saids more (each-names ks (names said.1.statement) more has)

  -- what is there stays
  pub all_behind : (ks : List Text) (saids more : List Said) → HasAll names ks more → HasAll names (names_behind names ks saids) more
  all_behind ks saids [] has = tt
  all_behind ks saids (said ∷ more) has = (each-behind ks saids (names said.1.statement) has.0, all_behind ks saids more has.1)

  -- what was added is there
  pub all_now : (ks : List Text) (saids : List Said) → HasAll names (names_behind names ks saids) saids
  all_now ks [] = tt
  all_now ks (said ∷ saids) = (each-behind (names_with names ks said) saids (names said.1.statement) (each-now ks (names said.1.statement)), all_now (names_with names ks said) saids)

  -- what is there adds nothing
  pub all_adds : (ks : List Text) (saids : List Said) → HasAll names ks saids → names_behind names ks saids ≡ ks
  all_adds ks [] has = refl
  all_adds ks (said ∷ saids) has = ap (λ xs. names_behind names xs saids) (each-adds ks (names said.1.statement) has.0) ∙ all_adds ks saids has.1

  pub few_cross : (limit : ℕ) (ks : List Text) (said : Said) (saids : List Said) → length (names_with names ks said) ≤ limit → crossing names limit ks (said ∷ saids) ≡ crossing names limit (names_with names ks said) saids
  few_cross limit ks said saids few =
      let test : nat_lt limit (length (names_with names ks said)) ≡ false = grind (arith, nat_tests, few) in
      ap (λ b. cond b (TooMany (at said.0.file said.1.span) ∷ []) (crossing names limit (names_with names ks said) saids)) test

  pub all_cross : (limit : ℕ) (ks : List Text) (saids : List Said) → HasAll names ks saids → length ks ≤ limit → crossing names limit ks saids ≡ []
  all_cross limit ks [] has few = refl
  all_cross limit ks (said ∷ saids) has few =
      let same = each-adds ks (names said.1.statement) has.0 in
      few_cross limit ks said saids (subst (λ xs. length xs ≤ limit) (sym same) few) ∙ ap (λ xs. crossing names limit xs saids) same ∙ all_cross limit ks saids has.1 few
