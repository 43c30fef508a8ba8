-- The types of groups, made out one by one.
use Rattle.std.proofs.Common.{ℕ, zero, suc, ◌+◌, ◌≡◌, ◌-◌, ◌<◌, ◌≤◌, ◌^◌, ◌%◌, ◌||◌, Bool, true, false, All, List, [], ◌∷◌, ◌++◌, Option, None, Some, get_or, length, map, position, unwrap_or, take, drop, refl, sym, ap, ◌∙◌, subst, arith, append-nil, append_assoc, eq-or-lt_of_le, inl, inr, if◌then◌else◌}
use Rattle.std.specs.List.{list_any}
use Rattle.std.specs.Str.{bytes_eq}
use Rattle.std.proofs.lemmas.List.{append_cancel_left, get_or_append_left, length-append, length-map, map-append}
use Rattle.std.proofs.lemmas.List.Elements.{All-head, All-nil, All-push, All-tail, All-weaker}
use Rattle.std.proofs.lemmas.List.Folds.{list_any-append}
use Rattle.std.proofs.lemmas.List.Quantifiers.{position-Some}
use Rattle.std.proofs.Math.Seq.{drop-append_seam, get_or-append_seam, take-append_seam}
use Rattle.kx_basics.specs.declared.limits.TheConstants.{CODES}
use Rattle.kx_merge.specs.Offers.{with_name}
use Rattle.kx_resolve.proofs.Order.{extends_one, place_in, place_kept, same_self, with_next}
use Rattle.kx_resolve.proofs.Steps.{groups_next, groups_none, names_next, names_none, used_next}
use Rattle.kx_keys.specs.Bounds.{CellsAreValid, GroupsAreValid}
use Rattle.kx_keys.specs.Given.{KeyGiven}
use Rattle.kx_keys.specs.GroupTypes.{content_group, group_count, group_type_name}
use Rattle.kx_keys.specs.Keys.{groups_of, type_names, type_names_below, type_names_if, type_place}
use Rattle.kx_keys.specs.LevelActions.{LevelActions}
use Rattle.kx_resolve.specs.TypesInUse.{AreUsed, TypedAreValid, TypeInUse, no_type, typed_group, typed_groups, type_in_use, type_at}
use Rattle.kx_keys.specs.Typing.{Typing}

-- ---- One type more

abbrev IsIn : List (List ℕ) → List ℕ → Type 0
IsIn used name = list_any (bytes_eq name) used ≡ true

there_with : (used : List (List ℕ)) (x name : List ℕ) → IsIn used name → IsIn (with_name bytes_eq used x) name
there_with used x name there = by (list_any (bytes_eq x) used)
  where
    by : (b : Bool) → IsIn (if b then used else used ++ x ∷ []) name
    by true = there
    by false = list_any-append (bytes_eq name) used (x ∷ []) ∙ ap (λ b. b || list_any (bytes_eq name) (x ∷ [])) there

there_now : (used : List (List ℕ)) (x : List ℕ) → IsIn (with_name bytes_eq used x) x
there_now used x = by (list_any (bytes_eq x) used) refl
  where
    or_true : (b : Bool) → (b || (true || false)) ≡ true
    or_true true = refl
    or_true false = refl

    by : (b : Bool) → list_any (bytes_eq x) used ≡ b → IsIn (if b then used else used ++ x ∷ []) x
    by true there = there
    by false there = list_any-append (bytes_eq x) used (x ∷ []) ∙ ap (λ b. list_any (bytes_eq x) used || (b || false)) (same_self x) ∙ or_true (list_any (bytes_eq x) used)

same_place : (used : List (List ℕ)) (x name : List ℕ) → IsIn used name → type_place (with_name bytes_eq used x) name ≡ type_place used name
same_place used x name there = let more = extends_one used x in ap (λ ks. place_in ks name) more.is ∙ place_kept name used more.rest there

-- ---- Groups by their types

module _ (level_actions : LevelActions) (key : KeyGiven) where
  pub typed_none : (group_types : List TypeInUse) → typed_groups level_actions key group_types 0 ≡ []
  unfolding typed_groups
  typed_none group_types = refl

  pub typed_next : (group_types : List TypeInUse) (n : ℕ) → typed_groups level_actions key group_types (n + 1) ≡ typed_groups level_actions key group_types n ++ typed_group level_actions key n (get_or group_types n no_type) ∷ []
  unfolding typed_groups
  typed_next group_types n = let one : suc n ≡ n + 1 = omega arith in subst (λ m. typed_groups level_actions key group_types m ≡ typed_groups level_actions key group_types n ++ typed_group level_actions key n (get_or group_types n no_type) ∷ []) one refl

-- ---- What is made out

module _ (typing : Typing) where
  abbrev type_in : List (List ℕ) → List ℕ → TypeInUse
  type_in used name = type_at typing (type_place used name % 2 ^ 16) name

  types_stay : (used : List (List ℕ)) (x : List ℕ) (names : List (List ℕ)) → All (IsIn used) names → map (type_in used) names ≡ map (type_in (with_name bytes_eq used x)) names
  types_stay used x [] all = refl
  types_stay used x (name ∷ names) all = λ i.
      type_at typing (sym (same_place used x name (All-head (IsIn used) name names all)) i % 2 ^ 16) name
      ∷ types_stay used x names (All-tail (IsIn used) name names all) i

  pub one_used : (names used more : List (List ℕ)) (group_types new : List TypeInUse) (x : List ℕ) (place : ℕ) → more ≡ with_name bytes_eq used x → position (bytes_eq x) more ≡ Some place → new ≡ group_types ++ type_at typing (place % 2 ^ 16) x ∷ [] → AreUsed typing names used group_types → AreUsed typing (names ++ x ∷ []) more new
  one_used names used more group_types new x place is at pushed before = record {
    used_are = is ∙ ap (λ ks. with_name bytes_eq ks x) before.used_are ∙ sym (with_next [] names x);
    types_are =
        pushed
        ∙ (λ i. (before.types_are ∙ types_stay used x names before.there ∙ ap (λ ks. map (type_in ks) names) (sym is)) i ++ type_at typing (found i % 2 ^ 16) x ∷ [])
        ∙ sym (map-append (type_in more) names (x ∷ []));
    there = subst (λ ks. All (IsIn ks) (names ++ x ∷ [])) (sym is) (All-push (IsIn (with_name bytes_eq used x)) names x (All-weaker (IsIn used) (IsIn (with_name bytes_eq used x)) (there_with used x) names before.there) (there_now used x));
  }
    where
      found : place ≡ type_place more x
      found = sym (ap (λ o. unwrap_or o 0) at)

  pub none_used : AreUsed typing [] [] []
  none_used = record { used_are = refl; types_are = refl; there = All-nil (IsIn []) }

  -- ---- Places are small

  place_upto : (used : List (List ℕ)) (name : List ℕ) → type_place used name ≤ length used
  place_upto used name = by (position (bytes_eq name) used) refl
    where
      by : (o : Option ℕ) → position (bytes_eq name) used ≡ o → unwrap_or o 0 ≤ length used
      by None is = omega arith
      by (Some i) is = let at = position-Some (bytes_eq name) used i [] is in omega (arith, at.0)

  pub places_whole : (used names : List (List ℕ)) → length used < 2 ^ 16 → map (type_in used) names ≡ map (type_in_use typing used) names
  places_whole used names few = λ i. map (λ name. type_at typing (small name i) name) names
    where
      small : (name : List ℕ) → type_place used name % 2 ^ 16 ≡ type_place used name
      small name = let upto = place_upto used name in omega (arith, upto, few)

  -- ---- The types of a key's groups

  module _ (key : KeyGiven) where
    pub names_count : (n : ℕ) → length (type_names typing key n) ≡ n
    names_count zero = ap length (names_none key typing)
    names_count (suc n) =
        let one : suc n ≡ n + 1 = omega arith in
        let more : length (type_names typing key (n + 1)) ≡ length (type_names typing key n) + 1 = ap length (names_next key typing n) ∙ length-append (type_names typing key n) (group_type_name typing key n ∷ []) in
        let before = names_count n in
        ap (λ m. length (type_names typing key m)) one ∙ omega (arith, more, before)

    module _ (used : List (List ℕ)) where
      abbrev types_of : ℕ → List TypeInUse
      types_of n = map (type_in_use typing used) (type_names typing key n)

      types_count : (n : ℕ) → length (types_of n) ≡ n
      types_count n = length-map (type_names typing key n) (type_in_use typing used) ∙ names_count n

      types_next : (n : ℕ) → types_of (suc n) ≡ types_of n ++ type_in_use typing used (group_type_name typing key n) ∷ []
      types_next n =
          let one : suc n ≡ n + 1 = omega arith in
          ap types_of one ∙ ap (map (type_in_use typing used)) (names_next key typing n) ∙ map-append (type_in_use typing used) (type_names typing key n) (group_type_name typing key n ∷ [])

      pub type_of_group : (n group : ℕ) → group < n → get_or (types_of n) group no_type ≡ type_in_use typing used (group_type_name typing key group)
      type_of_group zero group less = absurd (omega (arith, less))
      type_of_group (suc n) group less =
          ap (λ ts. get_or ts group no_type) (types_next n)
          ∙ elim (eq-or-lt_of_le upto) [
            | inl same ↦ ap (λ g. get_or (types_of n ++ type_in_use typing used (group_type_name typing key n) ∷ []) g no_type) (same ∙ sym (types_count n)) ∙ get_or-append_seam (types_of n) (type_in_use typing used (group_type_name typing key n)) [] no_type ∙ ap (λ g. type_in_use typing used (group_type_name typing key g)) (sym same)
            | inr earlier ↦ get_or_append_left (types_of n) (type_in_use typing used (group_type_name typing key n) ∷ []) no_type group (omega (arith, earlier, types_count n)) ∙ type_of_group n group earlier
          ]
        where
          upto : group ≤ n
          upto = omega (arith, less)

      module _ (level_actions : LevelActions) where
        pub groups_typed : (group_types : List TypeInUse) (n : ℕ) → ((group : ℕ) → group < n → get_or group_types group no_type ≡ type_in_use typing used (group_type_name typing key group)) → typed_groups level_actions key group_types n ≡ groups_of typing used level_actions key n
        groups_typed group_types zero each = typed_none level_actions key group_types ∙ sym (groups_none key typing used level_actions)
        groups_typed group_types (suc n) each =
            let one : suc n ≡ n + 1 = omega arith in
            ap (typed_groups level_actions key group_types) one ∙ typed_next level_actions key group_types n
            ∙ (λ i. groups_typed group_types n (λ group less. each group (omega (arith, less))) i ++ typed_group level_actions key n (each n (omega arith) i) ∷ [])
            ∙ sym (groups_next key typing used level_actions n) ∙ ap (groups_of typing used level_actions key) (sym one)

        pub valid_typed : (group_types : List TypeInUse) (n : ℕ) → ((group : ℕ) → group < n → get_or group_types group no_type ≡ type_in_use typing used (group_type_name typing key group)) → TypedAreValid level_actions key group_types n → GroupsAreValid typing level_actions key n
        valid_typed group_types n each valid = λ group less. subst (λ (t : TypeInUse). CellsAreValid level_actions key (content_group key group) t.levels) (each group less) (valid group less)

        -- the types of a key's groups, ahead of others
        module _ (group_types own : List TypeInUse) (ns : List (List ℕ)) (count : ℕ) (is : count ≡ group_count key) (ahead : group_types ≡ map (type_in_use typing used) (type_names typing key (group_count key) ++ ns)) where
          abbrev n : ℕ
          n = group_count key

          split : group_types ≡ types_of n ++ map (type_in_use typing used) ns
          split = ahead ∙ map-append (type_in_use typing used) (type_names typing key n) ns

          own_types : own ≡ take count group_types → own ≡ types_of n
          own_types first =
              first ∙ (λ i. take (is i) (split i))
              ∙ subst (λ m. take m (types_of n ++ map (type_in_use typing used) ns) ≡ types_of n) (types_count n) (take-append_seam (types_of n) (map (type_in_use typing used) ns))

          pub types_after : own ≡ drop count group_types → own ≡ map (type_in_use typing used) ns
          types_after last =
              last ∙ (λ i. drop (is i) (split i))
              ∙ subst (λ m. drop m (types_of n ++ map (type_in_use typing used) ns) ≡ map (type_in_use typing used) ns) (types_count n) (drop-append_seam (types_of n) (map (type_in_use typing used) ns))

          pub groups_ahead : own ≡ take count group_types → typed_groups level_actions key own (length own) ≡ groups_of typing used level_actions key n
          groups_ahead first =
              (λ i. typed_groups level_actions key (own_types first i) (length (own_types first i)))
              ∙ ap (typed_groups level_actions key (types_of n)) (types_count n)
              ∙ groups_typed (types_of n) n (type_of_group n)

          pub valid_ahead : own ≡ take count group_types → TypedAreValid level_actions key own (length own) → GroupsAreValid typing level_actions key n
          valid_ahead first valid =
              valid_typed (types_of n) n (type_of_group n)
              (subst (TypedAreValid level_actions key (types_of n)) (types_count n) (subst (λ ts. TypedAreValid level_actions key ts (length ts)) (own_types first) valid))

-- ---- The names of the types of codes

module _ (typing : Typing) (name : ℕ → Option (List ℕ)) (key : ℕ → KeyGiven) where
  abbrev below : ℕ → List (List ℕ)
  below = type_names_below typing name key

  rest_after : (n more : ℕ) → (tail : List (List ℕ)) × (below (n + more) ≡ below n ++ tail)
  rest_after n zero = let none : n + 0 ≡ n = omega arith in ([], ap below none ∙ sym (append-nil (below n)))
  rest_after n (suc more) =
      let one : n + suc more ≡ n + more + 1 = omega arith in
      let before = rest_after n more in
      let next = type_names_if typing (name (n + more)) (key (n + more)) in (
        before.0 ++ next,
        ap below one ∙ used_next typing name key (n + more) ∙ ap (λ ns. ns ++ next) before.1 ∙ append_assoc (below n) before.0 next,
      )

  -- those of a code, ahead of those after it
  pub next_ahead : (code : ℕ) → code < CODES → (ns : List (List ℕ)) → below code ++ ns ≡ below CODES → (rest : List (List ℕ)) × (ns ≡ type_names_if typing (name code) (key code) ++ rest) × (below (code + 1) ++ rest ≡ below CODES)
  next_ahead code less ns whole =
      let upto : code + 1 + (CODES - (code + 1)) ≡ CODES = omega (arith, less) in
      let after = rest_after (code + 1) (CODES - (code + 1)) in
      let next = type_names_if typing (name code) (key code) in
      let all : below CODES ≡ below (code + 1) ++ after.0 = ap below (sym upto) ∙ after.1 in (
        after.0,
        append_cancel_left (below code) ns (next ++ after.0) (whole ∙ all ∙ ap (λ xs. xs ++ after.0) (used_next typing name key code) ∙ append_assoc (below code) next after.0),
        sym all,
      )
