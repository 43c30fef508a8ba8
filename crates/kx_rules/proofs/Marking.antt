-- What is marked is what is taken.
use Rattle.std.proofs.Common.{◌≡◌, ℕ, zero, suc, ◌+◌, ◌<◌, ◌≤◌, Bool, cond, true, false, not, ◌&&◌, ◌||◌, nat_eq, nat_le, nat_lt, List, [], ◌∷◌, length, get_or, set, map, filter, Option, None, Some, refl, sym, ap, ◌∙◌, subst, arith, eqb-true, ltb-true, ltb-false, length-set, get_or-set_other, get_or-set_same}
use Rattle.std.proofs.Math.Bool.{or_assoc}
use Rattle.std.proofs.lemmas.Bool.{eqb-false}
use Rattle.std.proofs.lemmas.Option.{slice_get_past}
use Rattle.std.specs.List.{enumerate_from, list_any}
use Rattle.kx_rules.specs.Mappings.{is_field}
use Rattle.kx_rules.specs.Marks.{is_all, mark, mark_all, mark_some, marked, place_in, unmarked, with_groups}
use Rattle.kx_rules.specs.Matches.{Groups}
use Rattle.kx_rules.specs.Uses.{left, options_at, takes}
use Rattle.kx_rules.specs.declared.columns.Field.{Field}
use Rattle.kx_rules.specs.declared.columns.Field.TheVariants.{Choice}
use Rattle.kx_rules.specs.declared.marks.Subject.{Subject}
use Rattle.kx_rules.specs.declared.marks.Subject.TheVariants.{Items, Groups as GroupsOf}
use Rattle.kx_rules.specs.declared.uses.Use.{Use}
use Rattle.kx_rules.specs.declared.uses.Use.TheVariants.{Named, AllOptions, Grouped}

or_false : (a : Bool) → (a || false) ≡ a
or_false true = refl
or_false false = refl

never : (b : Bool) → (b && false) ≡ false
never true = refl
never false = refl

or_true : (a : Bool) → (a || true) ≡ true
or_true true = refl
or_true false = refl

is_at : ℕ → Option ℕ → Bool
is_at i None = false
is_at i (Some place) = nat_eq i place

length-mark : (place : ℕ) (marks : List Bool) → length (mark place marks) ≡ length marks
unfolding mark
length-mark place marks = by (nat_lt place (length marks))
  where
    by : (t : Bool) → length (cond t (set marks place true) marks) ≡ length marks
    by true = length-set marks place true
    by false = refl

mark-at : (place i : ℕ) (marks : List Bool) → i < length marks → get_or (mark place marks) i false ≡ (get_or marks i false || nat_eq i place)
unfolding mark
mark-at place i marks h = by (nat_lt place (length marks)) refl (nat_eq i place) refl
  where
    by : (t : Bool) → nat_lt place (length marks) ≡ t → (e : Bool) → nat_eq i place ≡ e → get_or (cond t (set marks place true) marks) i false ≡ (get_or marks i false || e)
    by true l true e =
        let same : i ≡ place = eqb-true i place e in
        ap (λ n. get_or (set marks place true) n false) same ∙ get_or-set_same marks place true false (ltb-true place (length marks) l) ∙ sym (or_true (get_or marks i false))
    by true l false e = get_or-set_other marks place i true false (eqb-false i place e) ∙ sym (or_false (get_or marks i false))
    by false l true e =
        let same : i ≡ place = eqb-true i place e in
        let over : length marks ≤ place = ltb-false place (length marks) l in
        absurd (omega arith)
    by false l false e = sym (or_false (get_or marks i false))

length-mark_some : (place : Option ℕ) (marks : List Bool) → length (mark_some place marks) ≡ length marks
length-mark_some None marks = refl
length-mark_some (Some place) marks = length-mark place marks

mark_some-at : (place : Option ℕ) (i : ℕ) (marks : List Bool) → i < length marks → get_or (mark_some place marks) i false ≡ (get_or marks i false || is_at i place)
unfolding is_at
mark_some-at None i marks h = sym (or_false (get_or marks i false))
mark_some-at (Some place) i marks h = mark-at place i marks h

length-mark_all : (places : List ℕ) (marks : List Bool) → length (mark_all places marks) ≡ length marks
length-mark_all [] marks = refl
length-mark_all (place ∷ places) marks = length-mark_all places (mark place marks) ∙ length-mark place marks

mark_all-at : (places : List ℕ) (i : ℕ) (marks : List Bool) → i < length marks → get_or (mark_all places marks) i false ≡ (get_or marks i false || list_any (nat_eq i) places)
mark_all-at [] i marks h = sym (or_false (get_or marks i false))
mark_all-at (place ∷ places) i marks h =
    mark_all-at places i (mark place marks) (subst (λ n. i < n) (sym (length-mark place marks)) h)
    ∙ ap (λ b. b || list_any (nat_eq i) places) (mark-at place i marks h)
    ∙ or_assoc (get_or marks i false) (nat_eq i place) (list_any (nat_eq i) places)

takes_one : Subject → ℕ → Use → Bool
takes_one subject i found = is_at i (place_in subject found)

length-marked : (subject : Subject) (uses : List Use) (marks : List Bool) → length (marked subject uses marks) ≡ length marks
length-marked subject [] marks = refl
length-marked subject (found ∷ uses) marks = length-marked subject uses (mark_some (place_in subject found) marks) ∙ length-mark_some (place_in subject found) marks

marked-at : (subject : Subject) (uses : List Use) (i : ℕ) (marks : List Bool) → i < length marks → get_or (marked subject uses marks) i false ≡ (get_or marks i false || list_any (takes_one subject i) uses)
unfolding takes_one
marked-at subject [] i marks h = sym (or_false (get_or marks i false))
marked-at subject (found ∷ uses) i marks h =
    marked-at subject uses i (mark_some (place_in subject found) marks) (subst (λ n. i < n) (sym (length-mark_some (place_in subject found) marks)) h)
    ∙ ap (λ b. b || list_any (takes_one subject i) uses) (mark_some-at (place_in subject found) i marks h)
    ∙ or_assoc (get_or marks i false) (takes_one subject i found) (list_any (takes_one subject i) uses)

any_same : {A : Type 0} (p q : A → Bool) → ((x : A) → p x ≡ q x) → (xs : List A) → list_any p xs ≡ list_any q xs
any_same p q same [] = refl
any_same p q same (x ∷ xs) = ap (λ b. b || list_any p xs) (same x) ∙ ap (λ b. q x || b) (any_same p q same xs)

pub none_mapped : {A B : Type 0} (f : A → B) (xs : List A) → map (λ (x : A). false) xs ≡ map (λ (x : B). false) (map f xs)
none_mapped f [] = refl
none_mapped f (x ∷ xs) = ap (λ bs. false ∷ bs) (none_mapped f xs)

none_at : {A : Type 0} (xs : List A) (i : ℕ) → get_or (map (λ (x : A). false) xs) i false ≡ false
none_at [] i = refl
none_at (x ∷ xs) zero = refl
none_at (x ∷ xs) (suc i) = none_at xs i

length-none : {A : Type 0} (xs : List A) → length (map (λ (x : A). false) xs) ≡ length xs
length-none [] = refl
length-none (x ∷ xs) = ap suc (length-none xs)

filter_same : (p q : ℕ × List ℕ → Bool) (n : ℕ) (xs : List (List ℕ)) → ((i : ℕ) (x : List ℕ) → i < n + length xs → p (i, x) ≡ q (i, x)) → filter p (enumerate_from n xs) ≡ filter q (enumerate_from n xs)
filter_same p q n [] same = refl
filter_same p q n (x ∷ xs) same =
    ap (λ b. cond b ((n, x) ∷ filter p (enumerate_from (n + 1) xs)) (filter p (enumerate_from (n + 1) xs))) (same n x (omega arith))
    ∙ ap (λ es. cond (q (n, x)) ((n, x) ∷ es) es) (filter_same p q (n + 1) xs (λ i y h. same i y (omega arith)))

filter_none : {A : Type 0} (xs : List A) → filter (λ (x : A). false) xs ≡ []
filter_none [] = refl
filter_none (x ∷ xs) = filter_none xs

-- items whose marks are what is taken
left_marked : (groups : Groups) (uses : List Use) (field : Field) (items : List (List ℕ)) (marks : List Bool) → ((i : ℕ) → i < length items → get_or marks i false ≡ list_any (takes groups field i) uses) → unmarked marks items ≡ left groups uses field items
unfolding left
left_marked groups uses field items marks same =
    filter_same (λ (e : ℕ × List ℕ). nat_le 1 (length e.1) && not (get_or marks e.0 false)) (λ (e : ℕ × List ℕ). nat_le 1 (length e.1) && not (list_any (takes groups field e.0) uses)) 0 items (λ i x h. ap (λ b. nat_le 1 (length x) && not b) (same i (omega arith)))

module _ (groups : Groups) (uses : List Use) (field : Field) (other : is_field field Choice ≡ false) where
  takes_item : (i : ℕ) (found : Use) → takes_one (Items field) i found ≡ takes groups field i found
  unfolding takes_one is_at
  takes_item i (Named f place) = by (is_field field f)
    where
      by : (b : Bool) → is_at i (cond b (Some place) None) ≡ (b && nat_eq i place)
      by true = refl
      by false = refl
  takes_item i AllOptions = sym other
  takes_item i (Grouped place) = sym (ap (λ b. b && list_any (nat_eq i) (options_at groups place)) other)

  pub items_left : (items : List (List ℕ)) (none marks : List Bool) → none ≡ map (λ (x : List ℕ). false) items → marks ≡ marked (Items field) uses none → map (λ (e : ℕ × List ℕ). e.0) (unmarked marks items) ≡ map (λ (e : ℕ × List ℕ). e.0) (left groups uses field items)
  items_left items none marks is_none is_marked = ap (map (λ (e : ℕ × List ℕ). e.0)) (left_marked groups uses field items marks same)
    where
      same : (i : ℕ) → i < length items → get_or marks i false ≡ list_any (takes groups field i) uses
      same i h =
          ap (λ ms. get_or ms i false) (is_marked ∙ ap (marked (Items field) uses) is_none)
          ∙ marked-at (Items field) uses i (map (λ (x : List ℕ). false) items) (subst (λ n. i < n) (sym (length-none items)) h)
          ∙ ap (λ b. b || list_any (takes_one (Items field) i) uses) (none_at items i)
          ∙ any_same (takes_one (Items field) i) (takes groups field i) (takes_item i) uses

module _ (groups : Groups) where
  grouped : ℕ → Option ℕ → Bool
  grouped i None = false
  grouped i (Some place) = list_any (nat_eq i) (options_at groups place)

  -- whether one of the marked groups from a place on has an option
  any_group : ℕ → ℕ → List Bool → Bool
  any_group i place [] = false
  any_group i place (flag ∷ flags) = (flag && list_any (nat_eq i) (options_at groups place)) || any_group i (place + 1) flags

  with_groups-at : (flags : List Bool) (i place : ℕ) (marks : List Bool) → i < length marks → get_or (with_groups groups place flags marks) i false ≡ (get_or marks i false || any_group i place flags)
  unfolding any_group
  with_groups-at [] i place marks h = sym (or_false (get_or marks i false))
  with_groups-at (false ∷ flags) i place marks h = with_groups-at flags i (place + 1) marks h
  with_groups-at (true ∷ flags) i place marks h =
      with_groups-at flags i (place + 1) (mark_all (options_at groups place) marks) (subst (λ n. i < n) (sym (length-mark_all (options_at groups place) marks)) h)
      ∙ ap (λ b. b || any_group i (place + 1) flags) (mark_all-at (options_at groups place) i marks h)
      ∙ or_assoc (get_or marks i false) (list_any (nat_eq i) (options_at groups place)) (any_group i (place + 1) flags)

  swap : (a b c : Bool) → (a || (b || c)) ≡ ((a || b) || c)
  swap true b c = refl
  swap false b c = refl

  first_more : (f h rest : Bool) → (h || rest) ≡ (((f && h) || rest) || h)
  first_more f true true = by f
    where
      by : (t : Bool) → true ≡ (((t && true) || true) || true)
      by true = refl
      by false = refl
  first_more f true false = by f
    where
      by : (t : Bool) → true ≡ (((t && true) || false) || true)
      by true = refl
      by false = refl
  first_more f false true = by f
    where
      by : (t : Bool) → true ≡ (((t && false) || true) || false)
      by true = refl
      by false = refl
  first_more f false false = by f
    where
      by : (t : Bool) → false ≡ (((t && false) || false) || false)
      by true = refl
      by false = refl

  any-set : (flags : List Bool) (g i place : ℕ) → g < length flags → any_group i place (set flags g true) ≡ (any_group i place flags || list_any (nat_eq i) (options_at groups (place + g)))
  unfolding any_group
  any-set [] g i place h = absurd (omega (arith, h))
  any-set (f ∷ flags) zero i place h =
      first_more f (list_any (nat_eq i) (options_at groups place)) (any_group i (place + 1) flags)
      ∙ ap (λ n. ((f && list_any (nat_eq i) (options_at groups place)) || any_group i (place + 1) flags) || list_any (nat_eq i) (options_at groups n)) (let e : place ≡ place + 0 = omega arith in e)
  any-set (f ∷ flags) (suc g) i place h =
      ap (λ b. (f && list_any (nat_eq i) (options_at groups place)) || b) (any-set flags g i (place + 1) (omega (arith, h)))
      ∙ swap (f && list_any (nat_eq i) (options_at groups place)) (any_group i (place + 1) flags) (list_any (nat_eq i) (options_at groups (place + 1 + g)))
      ∙ ap (λ n. ((f && list_any (nat_eq i) (options_at groups place)) || any_group i (place + 1) flags) || list_any (nat_eq i) (options_at groups n)) (let e : place + 1 + g ≡ place + suc g = omega arith in e)

  no_options : (g : ℕ) → length groups ≤ g → options_at groups g ≡ []
  no_options g h = ap (λ o. elim o as (λ _. List ℕ) [ None ↦ [] | Some group ↦ group.1.options ]) (slice_get_past groups g h)

  any-mark : (g i : ℕ) (flags : List Bool) → length flags ≡ length groups → any_group i 0 (mark g flags) ≡ (any_group i 0 flags || list_any (nat_eq i) (options_at groups g))
  unfolding mark
  any-mark g i flags len = by (nat_lt g (length flags)) refl
    where
      by : (t : Bool) → nat_lt g (length flags) ≡ t → any_group i 0 (cond t (set flags g true) flags) ≡ (any_group i 0 flags || list_any (nat_eq i) (options_at groups g))
      by true l = any-set flags g i 0 (ltb-true g (length flags) l) ∙ ap (λ n. any_group i 0 flags || list_any (nat_eq i) (options_at groups n)) (let e : 0 + g ≡ g = omega arith in e)
      by false l =
          let over : length flags ≤ g = ltb-false g (length flags) l in
          sym (or_false (any_group i 0 flags)) ∙ ap (λ os. any_group i 0 flags || list_any (nat_eq i) os) (sym (no_options g (subst (λ n. n ≤ g) len over)))

  any-mark_some : (o : Option ℕ) (i : ℕ) (flags : List Bool) → length flags ≡ length groups → any_group i 0 (mark_some o flags) ≡ (any_group i 0 flags || grouped i o)
  unfolding grouped
  any-mark_some None i flags len = sym (or_false (any_group i 0 flags))
  any-mark_some (Some g) i flags len = any-mark g i flags len

  by_group : ℕ → Use → Bool
  by_group i found = grouped i (place_in GroupsOf found)

  any-marked : (uses : List Use) (i : ℕ) (flags : List Bool) → length flags ≡ length groups → any_group i 0 (marked GroupsOf uses flags) ≡ (any_group i 0 flags || list_any (by_group i) uses)
  unfolding by_group
  any-marked [] i flags len = sym (or_false (any_group i 0 flags))
  any-marked (found ∷ uses) i flags len =
      any-marked uses i (mark_some (place_in GroupsOf found) flags) (length-mark_some (place_in GroupsOf found) flags ∙ len)
      ∙ ap (λ b. b || list_any (by_group i) uses) (any-mark_some (place_in GroupsOf found) i flags len)
      ∙ or_assoc (any_group i 0 flags) (by_group i found) (list_any (by_group i) uses)

  no_group : {A : Type 0} (xs : List A) (i place : ℕ) → any_group i place (map (λ (x : A). false) xs) ≡ false
  unfolding any_group
  no_group [] i place = refl
  no_group (x ∷ xs) i place = no_group xs i (place + 1)

  takes_option : (i : ℕ) (found : Use) → is_all found ≡ false → takes groups Choice i found ≡ (takes_one (Items Choice) i found || by_group i found)
  unfolding takes_one is_at by_group grouped
  takes_option i (Named f place) h = by (is_field Choice f)
    where
      by : (b : Bool) → (b && nat_eq i place) ≡ (is_at i (cond b (Some place) None) || false)
      by true = sym (or_false (nat_eq i place))
      by false = refl
  takes_option i AllOptions h = cc
  takes_option i (Grouped place) h = refl

  apart : (a b c d : Bool) → ((a || b) || (c || d)) ≡ ((a || c) || (b || d))
  apart true b c d = refl
  apart false b true d = or_true b
  apart false b false d = refl

  none_here : (a b : Bool) → (a || b) ≡ false → a ≡ false
  none_here true b h = h
  none_here false b h = refl

  none_there : (a b : Bool) → (a || b) ≡ false → b ≡ false
  none_there true b h = cc
  none_there false b h = h

  both : (uses : List Use) (i : ℕ) → list_any is_all uses ≡ false → (list_any (takes_one (Items Choice) i) uses || list_any (by_group i) uses) ≡ list_any (takes groups Choice i) uses
  both [] i h = refl
  both (found ∷ uses) i h =
      apart (takes_one (Items Choice) i found) (list_any (takes_one (Items Choice) i) uses) (by_group i found) (list_any (by_group i) uses)
      ∙ ap (λ b. b || (list_any (takes_one (Items Choice) i) uses || list_any (by_group i) uses)) (sym (takes_option i found (none_here (is_all found) (list_any is_all uses) h)))
      ∙ ap (λ b. takes groups Choice i found || b) (both uses i (none_there (is_all found) (list_any is_all uses) h))

  all_take : (uses : List Use) (i : ℕ) → list_any is_all uses ≡ true → list_any (takes groups Choice i) uses ≡ true
  all_take [] i h = h
  all_take (AllOptions ∷ uses) i h = refl
  all_take (Named f place ∷ uses) i h = ap (λ b. (is_field Choice f && nat_eq i place) || b) (all_take uses i h) ∙ or_true (is_field Choice f && nat_eq i place)
  all_take (Grouped place ∷ uses) i h = ap (λ b. list_any (nat_eq i) (options_at groups place) || b) (all_take uses i h) ∙ or_true (list_any (nat_eq i) (options_at groups place))

  module _ (uses : List Use) (options : List (List ℕ)) where
    pub no_option_left : list_any is_all uses ≡ true → left groups uses Choice options ≡ []
    unfolding left
    no_option_left h =
        filter_same (λ (e : ℕ × List ℕ). nat_le 1 (length e.1) && not (list_any (takes groups Choice e.0) uses)) (λ (e : ℕ × List ℕ). false) 0 options (λ i x l. ap (λ b. nat_le 1 (length x) && not b) (all_take uses i h) ∙ never (nat_le 1 (length x)))
        ∙ filter_none (enumerate_from 0 options)

    pub options_left : {A : Type 0} (entries : List A) (none no_groups marks flags all : List Bool) → list_any is_all uses ≡ false → length entries ≡ length groups → none ≡ map (λ (x : List ℕ). false) options → no_groups ≡ map (λ (x : A). false) entries → marks ≡ marked (Items Choice) uses none → flags ≡ marked GroupsOf uses no_groups → all ≡ with_groups groups 0 flags marks → unmarked all options ≡ left groups uses Choice options
    options_left {A = A} entries none no_groups marks flags all h len is_none are_none is_marked are_flags is_all_marked = left_marked groups uses Choice options all same
      where
        same : (i : ℕ) → i < length options → get_or all i false ≡ list_any (takes groups Choice i) uses
        same i l =
            let room : i < length (map (λ (x : List ℕ). false) options) = subst (λ n. i < n) (sym (length-none options)) l in
            let items_are : marks ≡ marked (Items Choice) uses (map (λ (x : List ℕ). false) options) = is_marked ∙ ap (marked (Items Choice) uses) is_none in
            let flags_are : flags ≡ marked GroupsOf uses (map (λ (x : A). false) entries) = are_flags ∙ ap (marked GroupsOf uses) are_none in
            let one : get_or marks i false ≡ list_any (takes_one (Items Choice) i) uses = ap (λ ms. get_or ms i false) items_are ∙ marked-at (Items Choice) uses i (map (λ (x : List ℕ). false) options) room ∙ ap (λ b. b || list_any (takes_one (Items Choice) i) uses) (none_at options i) in
            let two : any_group i 0 flags ≡ list_any (by_group i) uses = ap (any_group i 0) flags_are ∙ any-marked uses i (map (λ (x : A). false) entries) (length-none entries ∙ len) ∙ ap (λ b. b || list_any (by_group i) uses) (no_group entries i 0) in
            ap (λ ms. get_or ms i false) is_all_marked
            ∙ with_groups-at flags i 0 marks (subst (λ ms. i < length ms) (sym items_are) (subst (λ n. i < n) (sym (length-marked (Items Choice) uses (map (λ (x : List ℕ). false) options))) room))
            ∙ ap (λ b. b || any_group i 0 flags) one
            ∙ ap (λ b. list_any (takes_one (Items Choice) i) uses || b) two
            ∙ both uses i h

abbrev pub unmarked_from : ℕ → List Bool → List (List ℕ) → List (ℕ × List ℕ)
unmarked_from n marks items = filter (λ (e : ℕ × List ℕ). nat_le 1 (length e.1) && not (get_or marks e.0 false)) (enumerate_from n items)
