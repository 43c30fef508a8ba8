-- Types stand in the order in which groups use them first.
use Rattle.std.proofs.Common.{ℕ, zero, suc, ◌+◌, ◌≡◌, ◌<◌, ◌≤◌, ◌||◌, not, max, Bool, true, false, List, [], ◌∷◌, ◌++◌, map, length, take, drop, slice_get, get_or, position, None, Some, unwrap_or, refl, sym, ap, ◌∙◌, subst, arith, append_assoc, cond, if◌then◌else◌}
use Rattle.std.specs.List.{IsDistinct, list_any, position_or_len}
use Rattle.std.specs.Option.{option_map}
use Rattle.std.specs.Str.{bytes_eq}
use Rattle.std.specs.Cmp.Lexicographic.{bytes_decides}
use Rattle.std.proofs.lemmas.Bool.{false≢true, lt-ltb}
use Rattle.std.proofs.lemmas.List.{append-nil, length-append, length-map, map-append, take-append-drop, take-map, take_more}
use Rattle.std.proofs.Math.Seq.{take-length}
use Rattle.std.proofs.lemmas.List.Folds.{list_any-append}
use Rattle.std.proofs.lemmas.List.Sums.{fold-append}
use Rattle.std.proofs.lemmas.Option.{same_Some, slice_get-get_or, slice_get_within, slice_get-map}
use mathlib.Core.Bool.{or-true, or-false}
use Rattle.kx_builder.specs.Valid.{InOrderOfUse, types_met}
use Rattle.kx_builder.specs.Resolved.{ResolvedGroup}
use Rattle.kx_virtual_mods.specs.Counted.{with_names}
use Rattle.kx_merge.specs.Offers.{with_name}
use Rattle.kx_types.proofs.Few.{with_distinct}

-- ---- Names, each once

abbrev pub Text : Type 0
Text = List ℕ

pub with_next : (ks xs : List Text) (x : Text) → with_names ks (xs ++ x ∷ []) ≡ with_name bytes_eq (with_names ks xs) x
with_next ks xs x = fold-append (with_name bytes_eq) ks xs (x ∷ [])

pub with_more : (ks xs ys : List Text) → with_names ks (xs ++ ys) ≡ with_names (with_names ks xs) ys
with_more ks xs ys = fold-append (with_name bytes_eq) ks xs ys

behind_distinct : (ks xs : List Text) → IsDistinct bytes_eq ks → IsDistinct bytes_eq (with_names ks xs)
behind_distinct ks [] distinct = distinct
behind_distinct ks (x ∷ xs) distinct = behind_distinct (with_name bytes_eq ks x) xs (with_distinct ks x distinct)

pub all_distinct : (xs : List Text) → IsDistinct bytes_eq (with_names [] xs)
unfolding IsDistinct
all_distinct xs = behind_distinct [] xs tt

-- names only grow at their end
pub record Extends (ks more : List Text) : Type 0 where
  pub rest : List Text
  pub is : more ≡ ks ++ rest

pub extends_one : (ks : List Text) (k : Text) → Extends ks (with_name bytes_eq ks k)
extends_one ks k = by (list_any (bytes_eq k) ks)
  where
    by : (b : Bool) → Extends ks (if b then ks else ks ++ k ∷ [])
    by true = record { rest = []; is = sym (append-nil ks) }
    by false = record { rest = k ∷ []; is = refl }

extends : (ks xs : List Text) → Extends ks (with_names ks xs)
extends ks [] = record { rest = []; is = sym (append-nil ks) }
extends ks (x ∷ xs) =
    let one = extends_one ks x in
    let more = extends (with_name bytes_eq ks x) xs in
    record { rest = one.rest ++ more.rest; is = more.is ∙ ap (λ ys. ys ++ more.rest) one.is ∙ append_assoc ks one.rest more.rest }

-- ---- Places

-- where a test passes first does not depend on what follows
len_kept : (p : Text → Bool) (ks rest : List Text) → list_any p ks ≡ true → position_or_len p (ks ++ rest) ≡ position_or_len p ks
len_kept p [] rest there = absurd (false≢true there)
len_kept p (k ∷ ks) rest there = by (p k) refl (len_kept p ks rest)
  where
    by : (b : Bool) → p k ≡ b → (list_any p ks ≡ true → position_or_len p (ks ++ rest) ≡ position_or_len p ks) → cond (not (p k)) (1 + position_or_len p (ks ++ rest)) 0 ≡ cond (not (p k)) (1 + position_or_len p ks) 0
    by true h rec = ap (λ c. cond (not c) (1 + position_or_len p (ks ++ rest)) 0) h ∙ sym (ap (λ c. cond (not c) (1 + position_or_len p ks) 0) h)
    by false h rec = ap (λ n. cond (not (p k)) (1 + n) 0) (rec (sym (ap (λ c. c || list_any p ks) h) ∙ there))

len_within : (p : Text → Bool) (ks : List Text) → list_any p ks ≡ true → position_or_len p ks < length ks
len_within p [] there = absurd (false≢true there)
len_within p (k ∷ ks) there = by (p k) refl (len_within p ks)
  where
    by : (b : Bool) → p k ≡ b → (list_any p ks ≡ true → position_or_len p ks < length ks) → cond (not b) (1 + position_or_len p ks) 0 < suc (length ks)
    by true h rec = omega arith
    by false h rec = let less = rec (sym (ap (λ c. c || list_any p ks) h) ∙ there) in omega (arith, less)

len_behind : (p : Text → Bool) (ks rest : List Text) (x : Text) → list_any p ks ≡ false → p x ≡ true → position_or_len p (ks ++ x ∷ rest) ≡ length ks
len_behind p [] rest x none here = ap (λ c. cond (not c) (1 + position_or_len p rest) 0) here
len_behind p (k ∷ ks) rest x none here = by (p k) refl (λ h. len_behind p ks rest x h here) ∙ one_more (length ks)
  where
    one_more : (n : ℕ) → 1 + n ≡ suc n
    one_more n = omega arith

    by : (b : Bool) → p k ≡ b → (list_any p ks ≡ false → position_or_len p (ks ++ x ∷ rest) ≡ length ks) → cond (not (p k)) (1 + position_or_len p (ks ++ x ∷ rest)) 0 ≡ 1 + length ks
    by true h rec = absurd (false≢true (sym none ∙ ap (λ c. c || list_any p ks) h))
    by false h rec = ap (λ c. cond (not c) (1 + position_or_len p (ks ++ x ∷ rest)) 0) h ∙ ap (λ n. 1 + n) (rec (sym (ap (λ c. c || list_any p ks) h) ∙ none))

position_is : (p : Text → Bool) (xs : List Text) → position_or_len p xs < length xs → position p xs ≡ Some (position_or_len p xs)
position_is p xs less = ap (λ c. cond c (Some (position_or_len p xs)) None) (lt-ltb (position_or_len p xs) (length xs) less)

at_place : (x : Text) (ks rest : List Text) → list_any (bytes_eq x) ks ≡ true → slice_get (ks ++ rest) (position_or_len (bytes_eq x) ks) ≡ Some x
at_place x [] rest there = absurd (false≢true there)
at_place x (k ∷ ks) rest there = by (bytes_eq x k) refl (at_place x ks rest)
  where
    one_more : (n : ℕ) → suc n ≡ 1 + n
    one_more n = omega arith

    by : (b : Bool) → bytes_eq x k ≡ b → (list_any (bytes_eq x) ks ≡ true → slice_get (ks ++ rest) (position_or_len (bytes_eq x) ks) ≡ Some x) → slice_get (k ∷ (ks ++ rest)) (cond (not b) (1 + position_or_len (bytes_eq x) ks) 0) ≡ Some x
    by true h rec = ap Some (sym ((bytes_decides x k).0 h))
    by false h rec = subst (λ n. slice_get (k ∷ (ks ++ rest)) n ≡ Some x) (one_more (position_or_len (bytes_eq x) ks)) (rec (sym (ap (λ c. c || list_any (bytes_eq x) ks) h) ∙ there))

abbrev pub place_in : List Text → Text → ℕ
place_in names x = unwrap_or (position (bytes_eq x) names) 0

-- the place of a name that is among the first ones is before their end
place_early : (x : Text) (ks rest : List Text) → list_any (bytes_eq x) ks ≡ true → place_in (ks ++ rest) x < length ks
place_early x ks rest there =
    let less = len_within (bytes_eq x) ks there in
    let same = len_kept (bytes_eq x) ks rest there in
    let whole : position_or_len (bytes_eq x) (ks ++ rest) < length (ks ++ rest) = omega (arith, less, same, length-append ks rest) in
    subst (λ o. unwrap_or o 0 < length ks) (sym (position_is (bytes_eq x) (ks ++ rest) whole)) (omega (arith, less, same))

-- what follows doesn't change it
pub place_kept : (x : Text) (ks rest : List Text) → list_any (bytes_eq x) ks ≡ true → place_in (ks ++ rest) x ≡ place_in ks x
place_kept x ks rest there =
    let less = len_within (bytes_eq x) ks there in
    let same = len_kept (bytes_eq x) ks rest there in
    let whole : position_or_len (bytes_eq x) (ks ++ rest) < length (ks ++ rest) = omega (arith, less, same, length-append ks rest) in
    ap (λ o. unwrap_or o 0) (position_is (bytes_eq x) (ks ++ rest) whole ∙ ap Some same ∙ sym (position_is (bytes_eq x) ks less))

pub same_self : (x : Text) → bytes_eq x x ≡ true
same_self x = (bytes_decides x x).1 refl

place_next : (x : Text) (ks rest : List Text) → list_any (bytes_eq x) ks ≡ false → place_in (ks ++ x ∷ rest) x ≡ length ks
place_next x ks rest none =
    let same = len_behind (bytes_eq x) ks rest x none (same_self x) in
    let whole : position_or_len (bytes_eq x) (ks ++ x ∷ rest) < length (ks ++ x ∷ rest) = omega (arith, same, length-append ks (x ∷ rest)) in
    ap (λ o. unwrap_or o 0) (position_is (bytes_eq x) (ks ++ x ∷ rest) whole) ∙ same

-- at the place of a name that is there it stands
pub stands_at : (x : Text) (ks : List Text) → list_any (bytes_eq x) ks ≡ true → slice_get ks (place_in ks x) ≡ Some x
stands_at x ks there =
    let less = len_within (bytes_eq x) ks there in
    subst (λ o. slice_get ks (unwrap_or o 0) ≡ Some x) (sym (position_is (bytes_eq x) ks less))
    (subst (λ ys. slice_get ys (position_or_len (bytes_eq x) ks) ≡ Some x) (append-nil ks) (at_place x ks [] there))

-- ---- Each name that was added is there

with_has : (ks : List Text) (x : Text) → list_any (bytes_eq x) (with_name bytes_eq ks x) ≡ true
with_has ks x = by (list_any (bytes_eq x) ks) refl
  where
    by : (b : Bool) → list_any (bytes_eq x) ks ≡ b → list_any (bytes_eq x) (if b then ks else ks ++ x ∷ []) ≡ true
    by true h = h
    by false h = list_any-append (bytes_eq x) ks (x ∷ []) ∙ ap (λ c. list_any (bytes_eq x) ks || (c || false)) (same_self x) ∙ or-true (list_any (bytes_eq x) ks)

kept_behind : (q : Text) (ks xs : List Text) → list_any (bytes_eq q) ks ≡ true → list_any (bytes_eq q) (with_names ks xs) ≡ true
kept_behind q ks xs there =
    let more = extends ks xs in
    ap (list_any (bytes_eq q)) more.is ∙ list_any-append (bytes_eq q) ks more.rest ∙ ap (λ c. c || list_any (bytes_eq q) more.rest) there

pub all_there : (q : Text) (ks xs : List Text) → (list_any (bytes_eq q) ks || list_any (bytes_eq q) xs) ≡ true → list_any (bytes_eq q) (with_names ks xs) ≡ true
all_there q ks [] either = sym (or-false (list_any (bytes_eq q) ks)) ∙ either
all_there q ks (x ∷ xs) either = by (list_any (bytes_eq q) ks) refl (bytes_eq q x) refl (kept_behind q (with_name bytes_eq ks x) xs) (all_there q (with_name bytes_eq ks x) xs)
  where
    with_kept : list_any (bytes_eq q) ks ≡ true → list_any (bytes_eq q) (with_name bytes_eq ks x) ≡ true
    with_kept h = kept_behind q ks (x ∷ []) h

    by : (a : Bool) → list_any (bytes_eq q) ks ≡ a → (b : Bool) → bytes_eq q x ≡ b → (list_any (bytes_eq q) (with_name bytes_eq ks x) ≡ true → list_any (bytes_eq q) (with_names (with_name bytes_eq ks x) xs) ≡ true) → ((list_any (bytes_eq q) (with_name bytes_eq ks x) || list_any (bytes_eq q) xs) ≡ true → list_any (bytes_eq q) (with_names (with_name bytes_eq ks x) xs) ≡ true) → list_any (bytes_eq q) (with_names (with_name bytes_eq ks x) xs) ≡ true
    by true h b g kept rec = kept (with_kept h)
    by false h true g kept rec = kept (ap (λ t. list_any (bytes_eq t) (with_name bytes_eq ks x)) ((bytes_decides q x).0 g) ∙ with_has ks x)
    by false h false g kept rec = rec (ap (λ c. list_any (bytes_eq q) (with_name bytes_eq ks x) || c) (sym (λ i. h i || (g i || list_any (bytes_eq q) xs)) ∙ either) ∙ or-true (list_any (bytes_eq q) (with_name bytes_eq ks x)))

-- ---- How many types are met

abbrev met : List ℕ → ℕ
met [] = 0
met (n ∷ ns) = max (n + 1) (met ns)

met_groups : (gs : List ResolvedGroup) → types_met gs ≡ met (map (λ (g : ResolvedGroup). g.key_type) gs)
met_groups [] = refl
met_groups (g ∷ gs) = ap (max (g.key_type + 1)) (met_groups gs)

met_next : (ns : List ℕ) (n : ℕ) → met (ns ++ n ∷ []) ≡ max (met ns) (n + 1)
met_next [] n = omega arith
met_next (m ∷ ns) n = let rest = met_next ns n in omega (arith, rest)

-- names, and where each is used
module _ (xs : List Text) where
  abbrev pub all : List Text
  all = with_names [] xs

  -- a name's place is one that is met, or the next
  record Follows (before : List Text) (x : Text) : Type 0 where
    place : place_in all x ≤ length (with_names [] before)
    next : max (length (with_names [] before)) (place_in all x + 1) ≡ length (with_names [] (before ++ x ∷ []))

  follows : (before : List Text) (x : Text) (after : List Text) → xs ≡ before ++ x ∷ after → Follows before x
  follows before x after is = by (list_any (bytes_eq x) (with_names [] before)) refl
    where
      rest : Extends (with_name bytes_eq (with_names [] before) x) (with_names (with_name bytes_eq (with_names [] before) x) after)
      rest = extends (with_name bytes_eq (with_names [] before) x) after

      by : (b : Bool) → list_any (bytes_eq x) (with_names [] before) ≡ b → Follows before x
      by true h =
          let same : with_name bytes_eq (with_names [] before) x ≡ with_names [] before = ap (λ c. if c then with_names [] before else with_names [] before ++ x ∷ []) h in
          let whole : with_names [] xs ≡ with_names [] before ++ rest.rest = ap (with_names []) is ∙ with_more [] before (x ∷ after) ∙ rest.is ∙ ap (λ ks. ks ++ rest.rest) same in
          let early : place_in (with_names [] xs) x < length (with_names [] before) = subst (λ ks. place_in ks x < length (with_names [] before)) (sym whole) (place_early x (with_names [] before) rest.rest h) in
          let count : length (with_names [] (before ++ x ∷ [])) ≡ length (with_names [] before) = ap length (with_next [] before x ∙ same) in
          record { place = omega (arith, early); next = omega (arith, early, count) }
      by false h =
          let more : with_name bytes_eq (with_names [] before) x ≡ with_names [] before ++ x ∷ [] = ap (λ c. if c then with_names [] before else with_names [] before ++ x ∷ []) h in
          let whole : with_names [] xs ≡ with_names [] before ++ x ∷ rest.rest = ap (with_names []) is ∙ with_more [] before (x ∷ after) ∙ rest.is ∙ ap (λ ks. ks ++ rest.rest) more ∙ append_assoc (with_names [] before) (x ∷ []) rest.rest in
          let next : place_in (with_names [] xs) x ≡ length (with_names [] before) = ap (λ ks. place_in ks x) whole ∙ place_next x (with_names [] before) rest.rest h in
          let count : length (with_names [] (before ++ x ∷ [])) ≡ length (with_names [] before) + 1 = ap length (with_next [] before x ∙ more) ∙ length-append (with_names [] before) (x ∷ []) in
          record { place = omega (arith, next); next = omega (arith, next, count) }

  met_upto : (i : ℕ) → i ≤ length xs → met (map (place_in all) (take i xs)) ≡ length (with_names [] (take i xs))
  met_upto zero few = refl
  met_upto (suc i) few =
      let within : i < length xs = omega (arith, few) in
      let x = get_or xs i [] in
      let more : take (i + 1) xs ≡ take i xs ++ x ∷ [] = take_more xs i [] within in
      let plus : suc i ≡ i + 1 = omega arith in
      let one = follows (take i xs) x (drop (i + 1) xs) (parts i x within more) in
      subst (λ n. met (map (place_in all) (take n xs)) ≡ length (with_names [] (take n xs))) (sym plus)
      (subst (λ ys. met (map (place_in all) ys) ≡ length (with_names [] ys)) (sym more)
      (ap met (map-append (place_in all) (take i xs) (x ∷ [])) ∙ met_next (map (place_in all) (take i xs)) (place_in all x) ∙ ap (λ n. max n (place_in all x + 1)) (met_upto i (omega (arith, few))) ∙ one.next))
    where
      parts : (i : ℕ) (x : Text) → i < length xs → take (i + 1) xs ≡ take i xs ++ x ∷ [] → xs ≡ take i xs ++ x ∷ drop (i + 1) xs
      parts i x within more = sym (take-append-drop (i + 1) xs) ∙ ap (λ ys. ys ++ drop (i + 1) xs) more ∙ append_assoc (take i xs) (x ∷ []) (drop (i + 1) xs)

  -- groups whose types are those of the names stand in order of use
  pub in_order : (gs : List ResolvedGroup) → map (λ (g : ResolvedGroup). g.key_type) gs ≡ map (place_in all) xs → InOrderOfUse (length all) gs
  in_order gs same = record {
    each_first = λ i g at.
        let place = first i g at in
        place;
    all_used =
        let whole = met_upto (length xs) (omega arith) in
        let every : take (length xs) xs ≡ xs = take-length xs in
        let met_all : types_met gs ≡ length (with_names [] xs) = met_groups gs ∙ ap met same ∙ subst (λ ys. met (map (place_in (with_names [] xs)) ys) ≡ length (with_names [] ys)) every whole in
        omega (arith, met_all);
  }
    where
      count : length gs ≡ length xs
      count = sym (length-map gs (λ (g : ResolvedGroup). g.key_type)) ∙ ap length same ∙ length-map xs (place_in (with_names [] xs))

      first : (i : ℕ) (g : ResolvedGroup) → slice_get gs i ≡ Some g → g.key_type ≤ types_met (take i gs)
      first i g at =
          let inside : i < length gs = slice_get_within gs i g at in
          let within : i < length xs = omega (arith, inside, count) in
          let x = get_or xs i [] in
          let more : take (i + 1) xs ≡ take i xs ++ x ∷ [] = take_more xs i [] within in
          let split : xs ≡ take i xs ++ x ∷ drop (i + 1) xs = sym (take-append-drop (i + 1) xs) ∙ ap (λ ys. ys ++ drop (i + 1) xs) more ∙ append_assoc (take i xs) (x ∷ []) (drop (i + 1) xs) in
          let one = follows (take i xs) x (drop (i + 1) xs) split in
          let place = one.place in
          let type_is : Some g.key_type ≡ Some (place_in (with_names [] xs) x) =
          sym (slice_get-map (λ (h : ResolvedGroup). h.key_type) gs i ∙ ap (option_map (λ (h : ResolvedGroup). h.key_type)) at)
          ∙ ap (λ ns. slice_get ns i) same
          ∙ slice_get-map (place_in (with_names [] xs)) xs i
          ∙ ap (option_map (place_in (with_names [] xs))) (slice_get-get_or xs i [] within) in
          let type : g.key_type ≡ place_in (with_names [] xs) x = same_Some g.key_type (place_in (with_names [] xs) x) type_is in
          let met_before : types_met (take i gs) ≡ length (with_names [] (take i xs)) =
          met_groups (take i gs)
          ∙ ap met (sym (take-map (λ (h : ResolvedGroup). h.key_type) i gs) ∙ ap (take i) same ∙ take-map (place_in (with_names [] xs)) i xs)
          ∙ met_upto i (omega (arith, within)) in
          omega (arith, type, place, met_before)
