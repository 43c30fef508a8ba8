-- The keymap of what keys resolve to is the one that keys and types mean.
use Rattle.std.proofs.Common.{ℕ, zero, suc, pos, ◌-◌, ◌≡◌, ◌<◌, ◌≤◌, ◌==◌, ◌^◌, ◌%◌, max, nat_lt, Bool, true, false, List, [], ◌∷◌, ◌++◌, Option, None, Some, is_some, map, slice_get, unwrap_or, cond, if◌then◌else◌, refl, ap, ◌∙◌, subst, sym, arith, ◌⊎◌, inl, inr}
use Rattle.std.specs.List.{find, list_any}
use Rattle.std.specs.Option.{IfSome, option_or}
use Rattle.std.specs.Str.{bytes_eq}
use Rattle.std.specs.Int.RustNames.{bit_and}
use Rattle.std.proofs.lemmas.Bool.{cases_lt, eqb-false, eqb-true, le-ltb, lt-ltb}
use Rattle.std.proofs.lemmas.List.Folds.{find-append}
use Rattle.std.proofs.lemmas.Nat.{and_le_l, and_le_r, and_mod}
use Rattle.kx_builder.proofs.Agreeing.{group_below}
use Rattle.kx_builder.specs.Agreement.{ShowsSame}
use Rattle.kx_builder.specs.Valid.{EntryIsValid, TypeIsValid}
use Rattle.kx_builder.specs.Resolved.{Resolved, ResolvedEntry, ResolvedKey, ResolvedType, consumed_mods, entry_chosen, key_coded, keymap_of_resolved, most_groups, shown_of_cell, shown_of_group, shown_of_key, shown_of_type}
use Rattle.kx_keys.specs.Rows.{set_mask}
use Rattle.kx_keys.specs.Selecting.{RealSet, consumed, level_selected}
use Rattle.kx_virtual_mods.specs.Sets.{has, real_part}
use Rattle.kx_mods.specs.Mods.{mask}
use Rattle.kx_resolve.proofs.Bounded.{cell_at, group_at, groups_length, type_at, type_used}
use Rattle.kx_keys.proofs.Bits.{has_set, same_masks, set_small}
use Rattle.kx_keys.specs.Bounds.{TypeHolds}
use Rattle.kx_keys.specs.Given.{KeyGiven}
use Rattle.kx_keys.specs.GroupTypes.{content_group, group_count, group_type_name, type_definition}
use Rattle.kx_keys.specs.LevelActions.{LevelActions}
use Rattle.kx_keys.specs.Keys.{Keyed, cells_of, resolved_group, groups_of, key_if_named, key_of, keys_below, resolved_of, type_of, types_used}
use Rattle.kx_resolve.specs.Shown.{groups_if, keymap_meant, most_groups_below, name_within, shown_by, shown_for, shown_if, shown_in}
use Rattle.kx_tables.specs.Keymap.{level_of, nothing_shown}
use Rattle.kx_tables.specs.Range.{in_range}
use Rattle.kx_types.specs.KeyTypes.{Definition}
use Rattle.kx_keys.specs.Typing.{Typing}
use Rattle.kx_keys.proofs.RowsShown.{find_holds}

-- ---- A type

small_part : (w : ℕ) → real_part w < 2 ^ 8
small_part w = omega arith

-- only the real modifiers count
cut_mods : (w m : ℕ) → m < 2 ^ 8 → bit_and w m ≡ bit_and (real_part w) m
cut_mods w m small =
    let less = and_le_r w m in
    let same : bit_and w m ≡ bit_and w m % 2 ^ 8 = small_is (bit_and w m) (omega (arith, less, small)) in
    let right : m % 2 ^ 8 ≡ m = sym (small_is m small) in
    same ∙ and_mod w m 8 ∙ ap (bit_and (w % 2 ^ 8)) right
  where
    small_is : (n : ℕ) → n < 2 ^ 8 → n ≡ n % 2 ^ 8
    small_is n less = omega (arith, less)

module _ (t : ResolvedType) (valid : TypeIsValid t) where
  chosen_level : (o : Option ResolvedEntry) → IfSome o (EntryIsValid t) → level_of o < t.levels
  chosen_level None holds = omega (arith, valid.some_level)
  chosen_level (Some e) holds = omega (arith, holds.level.some_level, holds.level.level_within)

  pub level_within : (w : ℕ) → level_of (entry_chosen t w) < t.levels
  level_within w = chosen_level (entry_chosen t w) (find_holds (EntryIsValid t) (λ e. mask e.mods == bit_and w (mask t.mods)) t.entries valid.each_entry)

  pub consumed_small : (o : Option ResolvedEntry) → consumed_mods t o < 2 ^ 8
  consumed_small None = valid.mods
  consumed_small (Some e) = let less = and_le_l (mask t.mods) (255 - mask e.preserve) in omega (arith, less, valid.mods)

  pub chosen_same : (w : ℕ) → entry_chosen t w ≡ entry_chosen t (real_part w)
  chosen_same w = ap (λ n. find (λ (e : ResolvedEntry). mask e.mods == n) t.entries) (cut_mods w (mask t.mods) valid.mods)

module _ (real : ℕ → RealSet) (typing : Typing) where
  module _ (name : List ℕ) (holds : TypeHolds real typing name) (level_actions : LevelActions) (key : KeyGiven) (content : ℕ) where
    abbrev type : ResolvedType
    type = type_of real typing name

    abbrev definition : Definition
    definition = type_definition typing name

    cell_shown : (w : ℕ) → shown_of_cell (consumed_mods type (entry_chosen type w)) (slice_get (cells_of level_actions key content type.levels) (level_of (entry_chosen type w))) ≡ shown_by real typing definition level_actions key content (has (real_part w))
    cell_shown w =
        let entry = entry_chosen type (real_part w) in
        let low = small_part w in
        let level : level_of entry ≡ level_selected real definition (has (real_part w)) - 1 = let is = holds.shows.levels_are name (real_part w) low in omega (arith, is) in
        let gone : consumed_mods type entry ≡ set_mask (consumed real definition (has (real_part w))) =
        same_masks (consumed_mods type entry) (set_mask (consumed real definition (has (real_part w)))) (consumed_small type holds.valid entry) (set_small (consumed real definition (has (real_part w))))
        (λ r within. holds.shows.consumed_are name (real_part w) r low within ∙ sym (has_set (consumed real definition (has (real_part w))) r within)) in
        ap (λ o. shown_of_cell (consumed_mods type o) (slice_get (cells_of level_actions key content type.levels) (level_of o))) (chosen_same type holds.valid w)
        ∙ ap (shown_of_cell (consumed_mods type entry)) (cell_at level_actions key content type.levels (level_of entry) (level_within type holds.valid (real_part w)))
        ∙ (λ i. record { syms = unwrap_or (key.keysyms content (level i)) []; consumed = gone i; action = level_actions content (level i) })

-- ---- Keys by code

module _ (typing : Typing) (used : List (List ℕ)) (keyed : Keyed) where
  abbrev name : ℕ → Option (List ℕ)
  name = keyed.name

  abbrev key : ℕ → KeyGiven
  key = keyed.key

  abbrev pub key_seen : Option (List ℕ) → ℕ → Option ResolvedKey
  key_seen None code = None
  key_seen (Some n) code = Some (key_of typing used (keyed.level_actions code) (key code) code n (keyed.modmap code))

  find_one : (n code : ℕ) (o : Option (List ℕ)) → find (λ (k : ResolvedKey). k.code == code) (key_if_named typing used (keyed.level_actions n) (key n) n o (keyed.modmap n)) ≡ (if n == code then key_seen o n else None)
  find_one n code None = elim (n == code) as (λ b. ◌≡◌ {A = Option ResolvedKey} None (if b then None else None)) [ true ↦ refl | false ↦ refl ]
  find_one n code (Some of_key) = elim (n == code) as (λ b. cond b (Some (key_of typing used (keyed.level_actions n) (key n) n of_key (keyed.modmap n))) None ≡ (if b then Some (key_of typing used (keyed.level_actions n) (key n) n of_key (keyed.modmap n)) else None)) [ true ↦ refl | false ↦ refl ]

  or_none : {X : Type 0} (o : Option X) → option_or o None ≡ o
  or_none None = refl
  or_none (Some x) = refl

  pub key_found : (n code : ℕ) → find (λ (k : ResolvedKey). k.code == code) (keys_below typing used keyed n) ≡ (if nat_lt code n then key_seen (name code) code else None)
  unfolding keys_below
  key_found zero code = sym (ap (λ b. if b then key_seen (name code) code else None) (le-ltb code 0 (omega arith)))
  key_found (suc n) code =
      find-append (λ (k : ResolvedKey). k.code == code) (keys_below typing used keyed n) (key_if_named typing used (keyed.level_actions n) (key n) n (name n) (keyed.modmap n))
      ∙ (λ i. option_or (key_found n code i) (find_one n code (name n) i))
      ∙ by (cases_lt code n) (n == code) refl
    where
      by : (code < n) ⊎ (n ≤ code) → (b : Bool) → (n == code) ≡ b → option_or (if nat_lt code n then key_seen (name code) code else None) (if n == code then key_seen (name n) n else None) ≡ (if nat_lt code (suc n) then key_seen (name code) code else None)
      by (inl less) true e = absurd (let same = eqb-true n code e in omega (arith, less, same))
      by (inl less) false e =
          (λ i. option_or (if lt-ltb code n less i then key_seen (name code) code else None) (if e i then key_seen (name n) n else None))
          ∙ or_none (key_seen (name code) code)
          ∙ sym (ap (λ b. if b then key_seen (name code) code else None) (lt-ltb code (suc n) (omega (arith, less))))
      by (inr past) true e =
          let same : n ≡ code = eqb-true n code e in
          (λ i. option_or (if le-ltb code n past i then key_seen (name code) code else None) (if e i then key_seen (name n) n else None))
          ∙ ap (λ c. key_seen (name c) c) same
          ∙ sym (ap (λ b. if b then key_seen (name code) code else None) (lt-ltb code (suc n) (omega (arith, same))))
      by (inr past) false e =
          (λ i. option_or (if le-ltb code n past i then key_seen (name code) code else None) (if e i then key_seen (name n) n else None))
          ∙ sym (ap (λ b. if b then key_seen (name code) code else None) (le-ltb code (suc n) (let other = eqb-false n code e in omega (arith, past, other))))

  -- ---- The greatest number of groups

  most_append : (xs ys : List ResolvedKey) → most_groups (xs ++ ys) ≡ max (most_groups xs) (most_groups ys)
  most_append [] ys = omega arith
  most_append (x ∷ xs) ys = let rest = most_append xs ys in omega (arith, rest)

  most_one : (n : ℕ) (o : Option (List ℕ)) → most_groups (key_if_named typing used (keyed.level_actions n) (key n) n o (keyed.modmap n)) ≡ groups_if name key o n
  most_one n None = refl
  most_one n (Some of_key) = omega (arith, groups_length typing used (keyed.level_actions n) (key n) (group_count (key n)))

  pub most_is : (n : ℕ) → most_groups (keys_below typing used keyed n) ≡ most_groups_below name key n
  unfolding keys_below most_groups_below
  most_is zero = refl
  most_is (suc n) = most_append (keys_below typing used keyed n) (key_if_named typing used (keyed.level_actions n) (key n) n (name n) (keyed.modmap n)) ∙ (λ i. max (most_is n i) (most_one n (name n) i))

-- ---- The keymap

module _ (real : ℕ → RealSet) (typing : Typing) (keyed : Keyed) (each : (of_name : List ℕ) → list_any (bytes_eq of_name) (types_used typing keyed.name keyed.key) ≡ true → TypeHolds real typing of_name) where
  abbrev used : List (List ℕ)
  used = types_used typing (keyed.name) (keyed.key)

  abbrev tree : Resolved
  tree = record { types = map (type_of real typing) used; keys = keys_below typing used keyed 4096 }

  group_shown : (code group mods : ℕ) (of_key : List ℕ) → code < 4096 → keyed.name code ≡ Some of_key → group < group_count (keyed.key code) → shown_of_group tree mods (Some (resolved_group typing used (keyed.level_actions code) (keyed.key code) group)) ≡ shown_in real typing (keyed.level_actions code) (keyed.key code) group mods
  group_shown code group mods of_key less is within =
      let of_group = group_type_name typing (keyed.key code) group in
      ap (shown_of_type (resolved_group typing used (keyed.level_actions code) (keyed.key code) group) mods) (type_at real typing keyed code group of_key less is within)
      ∙ cell_shown real typing of_group (each of_group (type_used real typing keyed code group of_key less is within)) (keyed.level_actions code) (keyed.key code) (content_group (keyed.key code) group) mods

  key_shown : (code group mods : ℕ) (of_key : List ℕ) → code < 4096 → keyed.name code ≡ Some of_key → shown_of_key tree group mods (Some (key_of typing used (keyed.level_actions code) (keyed.key code) code of_key (keyed.modmap code))) ≡ shown_for real typing (keyed.level_actions code) (keyed.key code) group mods
  key_shown code group mods of_key less is =
      (λ i. cond (groups_length typing used (keyed.level_actions code) (keyed.key code) (group_count (keyed.key code)) i == 0) nothing_shown (shown_of_group tree mods (slice_get (groups_of typing used (keyed.level_actions code) (keyed.key code) (group_count (keyed.key code))) (in_range (pos group) (groups_length typing used (keyed.level_actions code) (keyed.key code) (group_count (keyed.key code)) i) (keyed.key code).range))))
      ∙ by (group_count (keyed.key code) == 0) refl
    where
      by : (b : Bool) → (group_count (keyed.key code) == 0) ≡ b → cond b nothing_shown (shown_of_group tree mods (slice_get (groups_of typing used (keyed.level_actions code) (keyed.key code) (group_count (keyed.key code))) (in_range (pos group) (group_count (keyed.key code)) (keyed.key code).range))) ≡ (if b then nothing_shown else shown_in real typing (keyed.level_actions code) (keyed.key code) (in_range (pos group) (group_count (keyed.key code)) (keyed.key code).range) mods)
      by true none = refl
      by false some =
          let count : 0 < group_count (keyed.key code) = let other = eqb-false (group_count (keyed.key code)) 0 some in omega (arith, other) in
          let within = group_below group (group_count (keyed.key code)) (keyed.key code).range count in
          ap (shown_of_group tree mods) (group_at typing used (keyed.level_actions code) (keyed.key code) (group_count (keyed.key code)) (in_range (pos group) (group_count (keyed.key code)) (keyed.key code).range) within)
          ∙ group_shown code (in_range (pos group) (group_count (keyed.key code)) (keyed.key code).range) mods of_key less is within

  seen_shown : (code group mods : ℕ) (o : Option (List ℕ)) → keyed.name code ≡ o → code < 4096 → shown_of_key tree group mods (key_seen typing used keyed o code) ≡ shown_if real typing keyed o code group mods
  seen_shown code group mods None is less = refl
  seen_shown code group mods (Some of_key) is less = key_shown code group mods of_key less is

  code_shown : (code group mods : ℕ) → shown_of_key tree group mods (key_coded tree code) ≡ shown_if real typing keyed (name_within keyed.name code) code group mods
  code_shown code group mods = ap (shown_of_key tree group mods) (key_found typing used keyed 4096 code) ∙ by (cases_lt code 4096)
    where
      by : (code < 4096) ⊎ (4096 ≤ code) → shown_of_key tree group mods (if nat_lt code 4096 then key_seen typing used keyed (keyed.name code) code else None) ≡ shown_if real typing keyed (if nat_lt code 4096 then keyed.name code else None) code group mods
      by (inl less) = subst (λ b. shown_of_key tree group mods (if b then key_seen typing used keyed (keyed.name code) code else None) ≡ shown_if real typing keyed (if b then keyed.name code else None) code group mods) (sym (lt-ltb code 4096 less)) (seen_shown code group mods (keyed.name code) refl less)
      by (inr past) = subst (λ b. shown_of_key tree group mods (if b then key_seen typing used keyed (keyed.name code) code else None) ≡ shown_if real typing keyed (if b then keyed.name code else None) code group mods) (sym (le-ltb code 4096 past)) refl

  code_known : (code : ℕ) → is_some (key_coded tree code) ≡ is_some (name_within keyed.name code)
  code_known code = ap is_some (key_found typing used keyed 4096 code) ∙ elim (nat_lt code 4096) as (λ b. is_some (if b then key_seen typing used keyed (keyed.name code) code else None) ≡ is_some (if b then keyed.name code else None)) [ true ↦ seen (keyed.name code) | false ↦ refl ]
    where
      seen : (o : Option (List ℕ)) → is_some (key_seen typing used keyed o code) ≡ is_some o
      seen None = refl
      seen (Some n) = refl

  pub keymaps_agree : ShowsSame (keymap_of_resolved (resolved_of real typing keyed)) (keymap_meant real typing keyed)
  unfolding resolved_of
  keymaps_agree = record {
    groups = ap (max 1) (most_is typing used keyed 4096);
    known = code_known;
    shown = code_shown;
    indicator_maps = refl;
  }
