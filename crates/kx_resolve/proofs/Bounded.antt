-- What keys resolve to is valid where names and keysyms keep their bounds.
use Rattle.std.proofs.Common.{ℕ, zero, suc, ◌≡◌, ◌<◌, ◌≤◌, ◌||◌, Bool, true, false, All, List, [], ◌∷◌, ◌++◌, Option, None, Some, length, map, slice_get, get_or, refl, ap, ◌∙◌, subst, sym, arith, lt-suc_self, lt_trans, eq-or-lt_of_le, ◌⊎◌, inl, inr}
use Rattle.std.specs.List.{list_any}
use Rattle.std.specs.Option.{IsSomeAnd, option_map}
use Rattle.std.specs.Str.{bytes_eq}
use Rattle.std.specs.Cmp.Lexicographic.{bytes_decides}
use Rattle.std.proofs.lemmas.Bool.{false≢true}
use Rattle.std.proofs.lemmas.Grind.{flat_map-append}
use Rattle.std.proofs.lemmas.List.{append-nil, length-append, length-map, map-append}
use Rattle.std.proofs.lemmas.List.Elements.{All-append, All-cons, All-nil, All-push, All-weaker}
use Rattle.std.proofs.lemmas.List.Folds.{list_any-append}
use Rattle.std.proofs.lemmas.Map.Keys.{apart_from_distinct}
use Rattle.std.proofs.lemmas.Option.{none-some, same_Some, slice_get-get_or, slice_get-map, slice_get_within}
use mathlib.Core.Bool.{or-true}
use Rattle.kx_builder.proofs.Agreeing.{All_at}
use Rattle.kx_builder.specs.Valid.{Apart, CellIsValid, EntryIsValid, GroupIsValid, InOrderOfUse, IsValid, KeyIsValid, Rising, TypeIsValid}
use Rattle.kx_builder.specs.Placed.{all_groups}
use Rattle.kx_builder.specs.Resolved.{ResolvedGroup, ResolvedKey, ResolvedType}
use Rattle.kx_builder.specs.Whole.{GroupIsWhole, IsWhole, KeyIsWhole, LevelExists, TypeIsWhole}
use Rattle.kx_keys.specs.Selecting.{RealSet}
use Rattle.kx_resolve.proofs.Order.{all_there, in_order, stands_at}
use Rattle.kx_keys.proofs.Counting.{count_few}
use Rattle.kx_resolve.proofs.Typed.{types_valid, used_distinct}
use Rattle.kx_keys.specs.Bounds.{BoundsBelow, CellsAreValid, GroupsAreValid, KeepsBounds, OneCode, TypeHolds, levels_of_group}
use Rattle.kx_keys.specs.Given.{KeyGiven}
use Rattle.kx_keys.specs.GroupTypes.{content_group, group_count, group_type_name}
use Rattle.kx_keys.specs.LevelActions.{LevelActions}
use Rattle.kx_keys.specs.Keys.{Keyed, cell_of, cells_of, resolved_group, groups_of, key_if_named, key_of, keys_below, resolved_of, type_names, type_names_below, type_names_if, type_of, type_place, types_used}
use Rattle.kx_keys.specs.Typing.{Typing}

-- ---- Lists that grow at their end

at_end : {X : Type 0} (xs : List X) (x a : X) (i : ℕ) → slice_get (xs ++ x ∷ []) i ≡ Some a → (slice_get xs i ≡ Some a) ⊎ ((i ≡ length xs) × (x ≡ a))
at_end [] x a zero e = inr (refl, same_Some x a e)
at_end [] x a (suc i) e = absurd (none-some a e)
at_end (y ∷ ys) x a zero e = inl e
at_end (y ∷ ys) x a (suc i) e =
    elim (at_end ys x a i e) [
      | inl inside ↦ inl inside
      | inr last ↦ inr (ap suc last.0, last.1)
    ]

rising_nil : {X : Type 0} (f : X → ℕ) → Rising f []
rising_nil f = λ i j x y less at before. absurd (none-some x at)

rising_push : {X : Type 0} (f : X → ℕ) (xs : List X) (x : X) → Rising f xs → All (λ y. f y < f x) xs → Rising f (xs ++ x ∷ [])
rising_push f xs x rising below = λ i j a b less at before.
    elim (at_end xs x a i at) [
      | inl inside ↦
          elim (at_end xs x b j before) [
            | inl earlier ↦ rising i j a b less inside earlier
            | inr last ↦ absurd (omega (arith, less, last.0, slice_get_within xs i a inside))
          ]
      | inr last ↦
          elim (at_end xs x b j before) [
            | inl earlier ↦ subst (λ (y : _). f b < f y) last.1 (All_at (λ y. f y < f x) xs j b below earlier)
            | inr also ↦ absurd (omega (arith, less, last.0, also.0))
          ]
    ]

pub front_at : {X : Type 0} (xs ys : List X) (i : ℕ) → i < length xs → slice_get (xs ++ ys) i ≡ slice_get xs i
front_at [] ys i less = absurd (omega (arith, less))
front_at (x ∷ xs) ys zero less = refl
front_at (x ∷ xs) ys (suc i) less = front_at xs ys i (omega (arith, less))

pub end_at : {X : Type 0} (xs : List X) (x : X) → slice_get (xs ++ x ∷ []) (length xs) ≡ Some x
end_at [] x = refl
end_at (y ∷ ys) x = end_at ys x

-- ---- Levels and groups by their numbers

module _ (level_actions : LevelActions) (key : KeyGiven) (group : ℕ) where
  pub cells_length : (n : ℕ) → length (cells_of level_actions key group n) ≡ n
  unfolding cells_of
  cells_length zero = refl
  cells_length (suc n) = omega (arith, length-append (cells_of level_actions key group n) (cell_of level_actions key group n ∷ []), cells_length n)

  pub cell_at : (n level : ℕ) → level < n → slice_get (cells_of level_actions key group n) level ≡ Some (cell_of level_actions key group level)
  unfolding cells_of
  cell_at zero level less = absurd (omega (arith, less))
  cell_at (suc n) level less =
      elim (eq-or-lt_of_le upto) [
        | inl same ↦ ap (slice_get (cells_of level_actions key group n ++ cell_of level_actions key group n ∷ [])) (same ∙ sym (cells_length n)) ∙ end_at (cells_of level_actions key group n) (cell_of level_actions key group n) ∙ ap (λ l. Some (cell_of level_actions key group l)) (sym same)
        | inr before ↦ front_at (cells_of level_actions key group n) (cell_of level_actions key group n ∷ []) level (omega (arith, before, cells_length n)) ∙ cell_at n level before
      ]
    where
      upto : level ≤ n
      upto = omega (arith, less)

  cells_valid : (n : ℕ) → CellsAreValid level_actions key group n → All CellIsValid (cells_of level_actions key group n)
  unfolding cells_of
  cells_valid zero valid = All-nil CellIsValid
  cells_valid (suc n) valid = All-push CellIsValid (cells_of level_actions key group n) (cell_of level_actions key group n) (cells_valid n (λ level less. valid level (lt_trans less (lt-suc_self n)))) (valid n (lt-suc_self n))

module _ (typing : Typing) (used : List (List ℕ)) (level_actions : LevelActions) (key : KeyGiven) where
  pub groups_length : (n : ℕ) → length (groups_of typing used level_actions key n) ≡ n
  unfolding groups_of
  groups_length zero = refl
  groups_length (suc n) = omega (arith, length-append (groups_of typing used level_actions key n) (resolved_group typing used level_actions key n ∷ []), groups_length n)

  pub group_at : (n group : ℕ) → group < n → slice_get (groups_of typing used level_actions key n) group ≡ Some (resolved_group typing used level_actions key group)
  unfolding groups_of
  group_at zero group less = absurd (omega (arith, less))
  group_at (suc n) group less =
      elim (eq-or-lt_of_le upto) [
        | inl same ↦ ap (slice_get (groups_of typing used level_actions key n ++ resolved_group typing used level_actions key n ∷ [])) (same ∙ sym (groups_length n)) ∙ end_at (groups_of typing used level_actions key n) (resolved_group typing used level_actions key n) ∙ ap (λ g. Some (resolved_group typing used level_actions key g)) (sym same)
        | inr before ↦ front_at (groups_of typing used level_actions key n) (resolved_group typing used level_actions key n ∷ []) group (omega (arith, before, groups_length n)) ∙ group_at n group before
      ]
    where
      upto : group ≤ n
      upto = omega (arith, less)

  group_types : (n : ℕ) → map (λ (g : ResolvedGroup). g.key_type) (groups_of typing used level_actions key n) ≡ map (type_place used) (type_names typing key n)
  unfolding groups_of type_names
  group_types zero = refl
  group_types (suc n) =
      map-append (λ (g : ResolvedGroup). g.key_type) (groups_of typing used level_actions key n) (resolved_group typing used level_actions key n ∷ [])
      ∙ ap (λ ps. ps ++ type_place used (group_type_name typing key n) ∷ []) (group_types n)
      ∙ sym (map-append (type_place used) (type_names typing key n) (group_type_name typing key n ∷ []))

module _ (typing : Typing) (key : KeyGiven) where
  names_have : (n group : ℕ) → group < n → list_any (bytes_eq (group_type_name typing key group)) (type_names typing key n) ≡ true
  unfolding type_names
  names_have zero group less = absurd (omega (arith, less))
  names_have (suc n) group less =
      elim (eq-or-lt_of_le upto) [
        | inl same ↦ append (group_type_name typing key n ∷ []) ∙ ap (λ b. list_any test (type_names typing key n) || (b || false)) ((bytes_decides (group_type_name typing key group) (group_type_name typing key n)).1 (ap (group_type_name typing key) same)) ∙ or-true (list_any test (type_names typing key n))
        | inr before ↦ append (group_type_name typing key n ∷ []) ∙ ap (λ b. b || list_any test (group_type_name typing key n ∷ [])) (names_have n group before)
      ]
    where
      test : List ℕ → Bool
      test = bytes_eq (group_type_name typing key group)

      append : (xs : List (List ℕ)) → list_any (bytes_eq (group_type_name typing key group)) (type_names typing key n ++ xs) ≡ (list_any (bytes_eq (group_type_name typing key group)) (type_names typing key n) || list_any (bytes_eq (group_type_name typing key group)) xs)
      append xs = list_any-append (bytes_eq (group_type_name typing key group)) (type_names typing key n) xs

      upto : group ≤ n
      upto = omega (arith, less)

-- ---- The type of each group is one that is used

module _ (real : ℕ → RealSet) (typing : Typing) (keyed : Keyed) where
  abbrev name : ℕ → Option (List ℕ)
  name = keyed.name

  abbrev key : ℕ → KeyGiven
  key = keyed.key

  abbrev used : List (List ℕ)
  used = types_used typing name key

  abbrev types : List ResolvedType
  types = map (type_of real typing) used

  if_has : (code group : ℕ) (of_key : List ℕ) (o : Option (List ℕ)) → o ≡ Some of_key → group < group_count (key code) → list_any (bytes_eq (group_type_name typing (key code) group)) (type_names_if typing o (key code)) ≡ true
  if_has code group of_key None is less = absurd (none-some of_key is)
  if_has code group of_key (Some n) is less = names_have typing (key code) (group_count (key code)) group less

  below_has : (n code group : ℕ) (of_key : List ℕ) → code < n → name code ≡ Some of_key → group < group_count (key code) → list_any (bytes_eq (group_type_name typing (key code) group)) (type_names_below typing name key n) ≡ true
  unfolding type_names_below
  below_has zero code group of_key less is within = absurd (omega (arith, less))
  below_has (suc n) code group of_key less is within =
      elim (eq-or-lt_of_le upto) [
        | inl same ↦ append ∙ ap (λ b. list_any test (type_names_below typing name key n) || b) (subst (λ c. list_any test (type_names_if typing (name c) (key c)) ≡ true) same (if_has code group of_key (name code) is within)) ∙ or-true (list_any test (type_names_below typing name key n))
        | inr before ↦ append ∙ ap (λ b. b || list_any test (type_names_if typing (name n) (key n))) (below_has n code group of_key before is within)
      ]
    where
      test : List ℕ → Bool
      test = bytes_eq (group_type_name typing (key code) group)

      append : list_any (bytes_eq (group_type_name typing (key code) group)) (type_names_below typing name key n ++ type_names_if typing (name n) (key n)) ≡ (list_any (bytes_eq (group_type_name typing (key code) group)) (type_names_below typing name key n) || list_any (bytes_eq (group_type_name typing (key code) group)) (type_names_if typing (name n) (key n)))
      append = list_any-append (bytes_eq (group_type_name typing (key code) group)) (type_names_below typing name key n) (type_names_if typing (name n) (key n))

      upto : code ≤ n
      upto = omega (arith, less)

  pub type_used : (code group : ℕ) (of_key : List ℕ) → code < 4096 → name code ≡ Some of_key → group < group_count (key code) → list_any (bytes_eq (group_type_name typing (key code) group)) (types_used typing name key) ≡ true
  unfolding types_used
  type_used code group of_key less is within = all_there (group_type_name typing (key code) group) [] (type_names_below typing name key 4096) (below_has 4096 code group of_key less is within)

  -- a group's type stands at its place
  pub type_at : (code group : ℕ) (of_key : List ℕ) → code < 4096 → name code ≡ Some of_key → group < group_count (key code) → slice_get types (type_place used (group_type_name typing (key code) group)) ≡ Some (type_of real typing (group_type_name typing (key code) group))
  type_at code group of_key less is within =
      slice_get-map (type_of real typing) used (type_place used (group_type_name typing (key code) group))
      ∙ ap (option_map (type_of real typing)) (stands_at (group_type_name typing (key code) group) used (type_used code group of_key less is within))

  group_valid : (code group : ℕ) (of_key : List ℕ) → code < 4096 → name code ≡ Some of_key → group < group_count (key code) → CellsAreValid (keyed.level_actions code) (key code) (content_group (key code) group) (levels_of_group typing (key code) group) → GroupIsValid types (resolved_group typing used (keyed.level_actions code) (key code) group)
  group_valid code group of_key less is within valid = record {
    whole = subst (λ o. IsSomeAnd o (λ (t : ResolvedType). length (resolved_group typing used (keyed.level_actions code) (key code) group).cells ≡ t.levels)) (sym (type_at code group of_key less is within)) (cells_length (keyed.level_actions code) (key code) (content_group (key code) group) (levels_of_group typing (key code) group));
    each_cell = cells_valid (keyed.level_actions code) (key code) (content_group (key code) group) (levels_of_group typing (key code) group) valid;
  }

  groups_valid : (code n : ℕ) (of_key : List ℕ) → code < 4096 → name code ≡ Some of_key → n ≤ group_count (key code) → GroupsAreValid typing (keyed.level_actions code) (key code) n → All (GroupIsValid types) (groups_of typing used (keyed.level_actions code) (key code) n)
  unfolding groups_of
  groups_valid code zero of_key less is within valid = All-nil (GroupIsValid types)
  groups_valid code (suc n) of_key less is within valid =
      All-push (GroupIsValid types) (groups_of typing used (keyed.level_actions code) (key code) n) (resolved_group typing used (keyed.level_actions code) (key code) n)
      (groups_valid code n of_key less is (omega (arith, within)) (λ group below. valid group (lt_trans below (lt-suc_self n))))
      (group_valid code n of_key less is (omega (arith, within)) (valid n (lt-suc_self n)))

  -- ---- Keys

  record IsNamed (n : ℕ) (k : ResolvedKey) : Type 0 where
    below : k.code < n
    named : name k.code ≡ Some k.name

  named_one : (n : ℕ) (o : Option (List ℕ)) → name n ≡ o → All (IsNamed (suc n)) (key_if_named typing used (keyed.level_actions n) (key n) n o (keyed.modmap n))
  named_one n None is = All-nil (IsNamed (suc n))
  named_one n (Some of_key) is = All-cons (IsNamed (suc n)) (key_of typing used (keyed.level_actions n) (key n) n of_key (keyed.modmap n)) [] (record { below = lt-suc_self n; named = is }) (All-nil (IsNamed (suc n)))

  all_named : (n : ℕ) → All (IsNamed n) (keys_below typing used keyed n)
  unfolding keys_below
  all_named zero = All-nil (IsNamed zero)
  all_named (suc n) =
      All-append (IsNamed (suc n)) (keys_below typing used keyed n) (key_if_named typing used (keyed.level_actions n) (key n) n (name n) (keyed.modmap n))
      (All-weaker (IsNamed n) (IsNamed (suc n)) (λ k is. record { below = lt_trans is.below (lt-suc_self n); named = is.named }) (keys_below typing used keyed n) (all_named n))
      (named_one n (name n) refl)

  rises_one : (n : ℕ) (o : Option (List ℕ)) (ks : List ResolvedKey) → Rising (λ (k : ResolvedKey). k.code) ks → All (λ (k : ResolvedKey). k.code < n) ks → Rising (λ (k : ResolvedKey). k.code) (ks ++ key_if_named typing used (keyed.level_actions n) (key n) n o (keyed.modmap n))
  rises_one n None ks rising below = subst (Rising (λ (k : ResolvedKey). k.code)) (sym (append-nil ks)) rising
  rises_one n (Some of_key) ks rising below = rising_push (λ (k : ResolvedKey). k.code) ks (key_of typing used (keyed.level_actions n) (key n) n of_key (keyed.modmap n)) rising below

  rises : (n : ℕ) → Rising (λ (k : ResolvedKey). k.code) (keys_below typing used keyed n)
  unfolding keys_below
  rises zero = rising_nil (λ (k : ResolvedKey). k.code)
  rises (suc n) = rises_one n (name n) (keys_below typing used keyed n) (rises n) (All-weaker (IsNamed n) (λ (k : ResolvedKey). k.code < n) (λ k is. is.below) (keys_below typing used keyed n) (all_named n))

  names_apart : OneCode name → (n : ℕ) → Apart (λ (k : ResolvedKey). k.name) (keys_below typing used keyed n)
  names_apart one n = λ i j x y less at before same.
      let later = All_at (IsNamed n) (keys_below typing used keyed n) i x (all_named n) at in
      let earlier = All_at (IsNamed n) (keys_below typing used keyed n) j y (all_named n) before in
      let rise : y.code < x.code = rises n i j x y less at before in
      let equal : y.code ≡ x.code = one y.code x.code x.name (earlier.named ∙ ap Some same) later.named in
      omega (arith, rise, equal)

  key_valid : (n : ℕ) (o : Option (List ℕ)) → name n ≡ o → n < 4096 → ((of_key : List ℕ) → name n ≡ Some of_key → KeepsBounds typing of_key (keyed.modmap n) (keyed.level_actions n) (key n)) → All (KeyIsValid types) (key_if_named typing used (keyed.level_actions n) (key n) n o (keyed.modmap n))
  key_valid n None is small bounds = All-nil (KeyIsValid types)
  key_valid n (Some of_key) is small bounds =
      let keeps = bounds of_key is in
      All-cons (KeyIsValid types) (key_of typing used (keyed.level_actions n) (key n) n of_key (keyed.modmap n)) []
      (record {
        code_fits = omega (arith, small);
        mapped = keeps.mapped;
        range_holds = keeps.range;
        few = omega (arith, groups_length typing used (keyed.level_actions n) (key n) (group_count (key n)), count_few (key n));
        each_group = groups_valid n (group_count (key n)) of_key small is (omega arith) keeps.cells;
        name_fits = keeps.short;
        each_byte = keeps.bytes;
      })
      (All-nil (KeyIsValid types))

  pub keys_valid : (n : ℕ) → n ≤ 4096 → BoundsBelow typing keyed n → All (KeyIsValid types) (keys_below typing used keyed n)
  unfolding keys_below
  keys_valid zero small bounds = All-nil (KeyIsValid types)
  keys_valid (suc n) small bounds =
      All-append (KeyIsValid types) (keys_below typing used keyed n) (key_if_named typing used (keyed.level_actions n) (key n) n (name n) (keyed.modmap n))
      (keys_valid n (omega (arith, small)) (λ code less. bounds code (lt_trans less (lt-suc_self n))))
      (key_valid n (name n) refl (omega (arith, small)) (bounds n (lt-suc_self n)))

  -- ---- Types stand by first use, and no two have one name

  one_types : (n : ℕ) (o : Option (List ℕ)) → map (λ (g : ResolvedGroup). g.key_type) (all_groups (key_if_named typing used (keyed.level_actions n) (key n) n o (keyed.modmap n))) ≡ map (type_place used) (type_names_if typing o (key n))
  one_types n None = refl
  one_types n (Some of_key) = ap (map (λ (g : ResolvedGroup). g.key_type)) (append-nil (groups_of typing used (keyed.level_actions n) (key n) (group_count (key n)))) ∙ group_types typing used (keyed.level_actions n) (key n) (group_count (key n))

  below_types : (n : ℕ) → map (λ (g : ResolvedGroup). g.key_type) (all_groups (keys_below typing used keyed n)) ≡ map (type_place used) (type_names_below typing name key n)
  unfolding keys_below type_names_below
  below_types zero = refl
  below_types (suc n) =
      ap (map (λ (g : ResolvedGroup). g.key_type)) (flat_map-append (λ (k : ResolvedKey). k.groups) (keys_below typing used keyed n) (key_if_named typing used (keyed.level_actions n) (key n) n (name n) (keyed.modmap n)))
      ∙ map-append (λ (g : ResolvedGroup). g.key_type) (all_groups (keys_below typing used keyed n)) (all_groups (key_if_named typing used (keyed.level_actions n) (key n) n (name n) (keyed.modmap n)))
      ∙ (λ i. below_types n i ++ one_types n (name n) i)
      ∙ sym (map-append (type_place used) (type_names_below typing name key n) (type_names_if typing (name n) (key n)))

  order : InOrderOfUse (length types) (all_groups (keys_below typing used keyed 4096))
  unfolding types_used
  order = subst (λ n. InOrderOfUse n (all_groups (keys_below typing used keyed 4096))) (sym (length-map used (type_of real typing))) (in_order (type_names_below typing name key 4096) (all_groups (keys_below typing used keyed 4096)) (below_types 4096))

  type_name_at : (i : ℕ) (t : ResolvedType) → slice_get types i ≡ Some t → (i < length used) × (t.name ≡ get_or used i [])
  type_name_at i t at =
      let inside : i < length types = slice_get_within types i t at in
      let within : i < length used = omega (arith, inside, length-map used (type_of real typing)) in
      let is : Some (type_of real typing (get_or used i [])) ≡ Some t = sym (slice_get-map (type_of real typing) used i ∙ ap (option_map (type_of real typing)) (slice_get-get_or used i [] within)) ∙ at in
      (within, ap (λ (u : ResolvedType). u.name) (sym (same_Some (type_of real typing (get_or used i [])) t is)))

  types_apart : Apart (λ (t : ResolvedType). t.name) types
  types_apart = λ i j x y less at before same.
      let later = type_name_at i x at in
      let earlier = type_name_at j y before in
      let equal : get_or used j [] ≡ get_or used i [] = sym earlier.1 ∙ same ∙ later.1 in
      false≢true (sym (apart_from_distinct bytes_eq used j i [] (used_distinct typing name key) less later.0) ∙ (bytes_decides (get_or used j []) (get_or used i [])).1 equal)

  module _ (few : length used ≤ 4097) (hold : All (TypeHolds real typing) used) (bounds : BoundsBelow typing keyed 4096) where
    pub resolved_valid : OneCode name → IsValid (resolved_of real typing keyed)
    unfolding resolved_of
    resolved_valid one = record {
      each_type = types_valid real typing used hold;
      types_fit = omega (arith, few, length-map used (type_of real typing));
      types_apart = types_apart;
      order = order;
      each_key = keys_valid 4096 (omega arith) bounds;
      codes_rise = rises 4096;
      keys_apart = names_apart one 4096;
    }

    pub resolved_whole : IsWhole (resolved_of real typing keyed)
    unfolding resolved_of
    resolved_whole = record {
      each_type = All-weaker TypeIsValid TypeIsWhole (λ t holds. record { some_level = holds.some_level; level_of_each = All-weaker (EntryIsValid t) (LevelExists t.levels) (λ e entry. entry.level) t.entries holds.each_entry }) types (types_valid real typing used hold);
      each_key = All-weaker (KeyIsValid types) (KeyIsWhole types) (λ k holds. All-weaker (GroupIsValid types) (GroupIsWhole types) (λ g group. group.whole) k.groups holds.each_group) (keys_below typing used keyed 4096) (keys_valid 4096 (omega arith) bounds);
    }
