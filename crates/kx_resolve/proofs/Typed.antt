-- The types that keys use.
use Rattle.std.proofs.Common.{ℕ, zero, suc, ◌+◌, ◌≡◌, ◌≤◌, ◌||◌, ◌&&◌, nat_le, All, Bool, true, false, List, [], ◌∷◌, ◌++◌, Option, None, Some, is_some, length, map, refl, sym, ap, ◌∙◌, subst, arith, if◌then◌else◌, cond}
use Rattle.std.specs.List.{IsDistinct, list_any}
use Rattle.std.specs.Map.{lookup}
use Rattle.std.specs.Option.{option_and_then}
use Rattle.std.specs.Str.{bytes_eq}
use Rattle.std.specs.Cmp.Lexicographic.{bytes_decides, nat_list_eq_equiv}
use Rattle.std.proofs.lemmas.Bool.{false≢true, leb-true}
use Rattle.std.proofs.lemmas.List.{length-map}
use Rattle.std.proofs.lemmas.List.Elements.{All-append, All-cons, All-head, All-nil, All-push, All-tail}
use Rattle.std.proofs.lemmas.Map.Made.{length-le_from_is_member}
use mathlib.Core.Bool.{or-true}
use Rattle.kx_builder.specs.Valid.{TypeIsValid}
use Rattle.kx_keys.specs.Selecting.{RealSet}
use Rattle.kx_virtual_mods.specs.Counted.{with_names}
use Rattle.kx_merge.specs.Offers.{with_name}
use Rattle.kx_resolve.proofs.Order.{all_distinct}
use Rattle.kx_keys.specs.Bounds.{TypeHolds}
use Rattle.kx_keys.specs.Given.{KeyGiven}
use Rattle.kx_keys.specs.GroupTypes.{content_group, group_count, group_type_name, one_level_name, type_name, wanted_type}
use Rattle.kx_keys.specs.Keys.{type_names, type_names_below, type_names_if, type_of, types_used}
use Rattle.kx_types.specs.KeyTypes.{Definition}
use Rattle.ks_core.specs.Keysym.{FurtherLetters}
use Rattle.kx_keys.specs.Typing.{Typing, typing_by}
use Rattle.kx_types.specs.Types.{NamedTypes, names_in, type_named}

-- ---- What holds of each name that is used

-- it is ONE_LEVEL, or a type's
pub record IsUsable (typing : Typing) (name : List ℕ) : Type 0 where
  pub short : length name ≤ 255
  pub known : (is_some (typing.declared name) || bytes_eq name one_level_name) ≡ true

module _ (typing : Typing) where
  one_level_usable : IsUsable typing one_level_name
  one_level_usable = record { short = omega arith; known = ap (λ b. is_some (typing.declared one_level_name) || b) ((bytes_decides one_level_name one_level_name).1 refl) ∙ or-true (is_some (typing.declared one_level_name)) }

  name_usable : (wanted : Option (List ℕ)) → IsUsable typing (type_name typing wanted)
  name_usable None = one_level_usable
  name_usable (Some name) = by (nat_le (length name) 255) refl (is_some (typing.declared name)) refl
    where
      by : (a : Bool) → nat_le (length name) 255 ≡ a → (b : Bool) → is_some (typing.declared name) ≡ b → IsUsable typing (if a && b then name else one_level_name)
      by true short true known = record { short = leb-true (length name) 255 short; known = ap (λ c. c || bytes_eq name one_level_name) known }
      by true short false known = one_level_usable
      by false short b known = one_level_usable

  key_usable : (key : KeyGiven) (n : ℕ) → All (IsUsable typing) (type_names typing key n)
  unfolding type_names
  key_usable key zero = All-nil (IsUsable typing)
  key_usable key (suc n) = All-push (IsUsable typing) (type_names typing key n) (group_type_name typing key n) (key_usable key n) (name_usable (wanted_type typing.letters key (content_group key n)))

  if_usable : (name : Option (List ℕ)) (key : KeyGiven) → All (IsUsable typing) (type_names_if typing name key)
  if_usable None key = All-nil (IsUsable typing)
  if_usable (Some name) key = key_usable key (group_count key)

  below_usable : (name : ℕ → Option (List ℕ)) (key : ℕ → KeyGiven) (n : ℕ) → All (IsUsable typing) (type_names_below typing name key n)
  unfolding type_names_below
  below_usable name key zero = All-nil (IsUsable typing)
  below_usable name key (suc n) = All-append (IsUsable typing) (type_names_below typing name key n) (type_names_if typing (name n) (key n)) (below_usable name key n) (if_usable (name n) (key n))

  with_usable : (ks xs : List (List ℕ)) → All (IsUsable typing) ks → All (IsUsable typing) xs → All (IsUsable typing) (with_names ks xs)
  with_usable ks [] these those = these
  with_usable ks (x ∷ xs) these those = with_usable (with_name bytes_eq ks x) xs (by (list_any (bytes_eq x) ks)) (All-tail (IsUsable typing) x xs those)
    where
      by : (b : Bool) → All (IsUsable typing) (if b then ks else ks ++ x ∷ [])
      by true = these
      by false = All-push (IsUsable typing) ks x these (All-head (IsUsable typing) x xs those)

  pub used_usable : (name : ℕ → Option (List ℕ)) (key : ℕ → KeyGiven) → All (IsUsable typing) (types_used typing name key)
  unfolding types_used
  used_usable name key = with_usable [] (type_names_below typing name key 4096) (All-nil (IsUsable typing)) (below_usable name key 4096)

pub used_distinct : (typing : Typing) (name : ℕ → Option (List ℕ)) (key : ℕ → KeyGiven) → IsDistinct bytes_eq (types_used typing name key)
unfolding types_used
used_distinct typing name key = all_distinct (type_names_below typing name key 4096)

-- ---- There are at most as many as are declared, and one

named_is_among : (types : NamedTypes) (name : List ℕ) → is_some (type_named types name) ≡ true → list_any (bytes_eq name) (names_in types) ≡ true
named_is_among [] name is = absurd (false≢true is)
named_is_among (t ∷ types) name is = by (bytes_eq name t.0) refl (named_is_among types name)
  where
    by : (b : Bool) → bytes_eq name t.0 ≡ b → (is_some (type_named types name) ≡ true → list_any (bytes_eq name) (names_in types) ≡ true) → (bytes_eq name t.0 || list_any (bytes_eq name) (names_in types)) ≡ true
    by true h rec = ap (λ c. c || list_any (bytes_eq name) (names_in types)) h
    by false h rec = ap (λ c. c || list_any (bytes_eq name) (names_in types)) h ∙ rec (sym (ap (λ c. is_some (option_and_then (λ d. d) (cond c (Some t.1) (lookup (bytes_eq name) types)))) h) ∙ is)

usable_is_among : (types : NamedTypes) (letters : FurtherLetters) (name : List ℕ) → IsUsable (typing_by types letters) name → list_any (bytes_eq name) (one_level_name ∷ names_in types) ≡ true
usable_is_among types letters name usable = by (is_some (type_named types name)) refl
  where
    by : (b : Bool) → is_some (type_named types name) ≡ b → (bytes_eq name one_level_name || list_any (bytes_eq name) (names_in types)) ≡ true
    by true h = ap (λ c. bytes_eq name one_level_name || c) (named_is_among types name h) ∙ or-true (bytes_eq name one_level_name)
    by false h = ap (λ c. c || list_any (bytes_eq name) (names_in types)) (sym (ap (λ c. c || bytes_eq name one_level_name) h) ∙ usable.known)

-- what holds of each holds of one that is found
pub found_holds : (P : List ℕ → Type 0) (xs : List (List ℕ)) (q : List ℕ) → All P xs → list_any (bytes_eq q) xs ≡ true → P q
found_holds P [] q all there = absurd (false≢true there)
found_holds P (x ∷ xs) q all there = by (bytes_eq q x) refl (found_holds P xs q (All-tail P x xs all))
  where
    by : (b : Bool) → bytes_eq q x ≡ b → (list_any (bytes_eq q) xs ≡ true → P q) → P q
    by true h rec = subst P (sym ((bytes_decides q x).0 h)) (All-head P x xs all)
    by false h rec = rec (sym (ap (λ c. c || list_any (bytes_eq q) xs) h) ∙ there)

pub used_few : (types : NamedTypes) (letters : FurtherLetters) (name : ℕ → Option (List ℕ)) (key : ℕ → KeyGiven) → length (types_used (typing_by types letters) name key) ≤ length types + 1
used_few types letters name key =
    let used = types_used (typing_by types letters) name key in
    let fewer = length-le_from_is_member nat_list_eq_equiv used (one_level_name ∷ names_in types) (used_distinct (typing_by types letters) name key) (λ q there. usable_is_among types letters q (found_holds (IsUsable (typing_by types letters)) used q (used_usable (typing_by types letters) name key) there)) in
    omega (arith, fewer, length-map types (λ (t : List ℕ × Option Definition). t.0))

-- ---- Types that hold are valid

module _ (real : ℕ → RealSet) (typing : Typing) where
  pub types_valid : (names : List (List ℕ)) → All (TypeHolds real typing) names → All TypeIsValid (map (type_of real typing) names)
  types_valid [] all = All-nil TypeIsValid
  types_valid (name ∷ names) all =
      let one = All-head (TypeHolds real typing) name names all in
      All-cons TypeIsValid (type_of real typing name) (map (type_of real typing) names) one.valid (types_valid names (All-tail (TypeHolds real typing) name names all))
