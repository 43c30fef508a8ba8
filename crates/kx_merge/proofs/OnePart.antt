-- An include with a single part: what its map's records offer is the same offer under the include's mode.
use Rattle.std.proofs.Common.{◌≡◌, ℕ, Bool, true, false, not, ◌&&◌, ◌||◌, cond, max, List, [], ◌∷◌, ◌++◌, map, Option, None, Some, refl, sym, ap, ◌∙◌, subst, arith}
use Rattle.std.proofs.lemmas.Bool.{false≢true, or_from}
use Rattle.std.specs.Cmp.{IsEquivalence}
use Rattle.std.specs.List.{flat_map, list_any}
use Rattle.std.specs.Option.{option_or}
use Rattle.std.proofs.lemmas.List.{append-nil, append_assoc}
use Rattle.kx_tree.specs.declared.tree.Mode.{Mode}
use Rattle.kx_merge.specs.Moved.{moved_one}
use Rattle.kx_merge.specs.Bodies.{Moves, moved, gather, gathered}
use Rattle.kx_merge.specs.Offers.{Offer, is_replace, is_hidden, is_strong, seen, last_strong, first_weak, value_of, greatest, width_of, with_name, names_behind, names_of}

abbrev pub names : {K C V : Type 0} → List (Offer K C V) → List K
names os = map (λ o. o.name) os

abbrev under : {K C V : Type 0} → Mode → Offer K C V → Offer K C V
under mode o = record { mode = mode; name = o.name; value = o.value; width = o.width }

pub or-first : (a b : Bool) → (a || b) ≡ false → a ≡ false
or-first true b h = h
or-first false b h = refl

pub or-last : (a b : Bool) → (a || b) ≡ false → b ≡ false
or-last true b h = absurd (false≢true (sym h))
or-last false b h = h

lone-value : {V : Type 0} (b : Bool) (v : Option V) → option_or (option_or None (cond b v None)) (option_or (cond b None v) None) ≡ v
lone-value true None = refl
lone-value true (Some x) = refl
lone-value false None = refl
lone-value false (Some x) = refl

lone-width : (n : ℕ) → max n 0 ≡ n
lone-width n = omega arith

module _ {K : Type 0} (eq : K → K → Bool) where
  -- no two are equal
  pub data Apart : List K → Type 0 where
    no_key : Apart []
    a_key : {k : K} {ks : List K} → list_any (eq k) ks ≡ false → Apart ks → Apart (k ∷ ks)

module _ {K : Type 0} (eq : K → K → Bool) (laws : IsEquivalence eq) where
  away-more : (j k : K) (ks : List K) → list_any (eq j) ks ≡ false → eq j k ≡ false → list_any (eq j) (ks ++ k ∷ []) ≡ false
  away-more j k [] away other = or_from (eq j k) false other refl
  away-more j k (x ∷ ks) away other = or_from (eq j x) (list_any (eq j) (ks ++ k ∷ [])) (or-first (eq j x) (list_any (eq j) ks) away) (away-more j k ks (or-last (eq j x) (list_any (eq j) ks) away) other)

  apart-more : (k : K) (ks : List K) → Apart eq ks → list_any (eq k) ks ≡ false → Apart eq (ks ++ k ∷ [])
  apart-more k [] apart away = a_key refl no_key
  apart-more k (x ∷ ks) (a_key first rest) away =
      a_key (away-more x k ks first (laws.symm x k ∙ or-first (eq k x) (list_any (eq k) ks) away)) (apart-more k ks rest (or-last (eq k x) (list_any (eq k) ks) away))

  apart-named : (k : K) (ks : List K) → Apart eq ks → Apart eq (with_name eq ks k)
  apart-named k ks apart = by (list_any (eq k) ks) refl
    where
      by : (b : Bool) → list_any (eq k) ks ≡ b → Apart eq (cond b ks (ks ++ k ∷ []))
      by true h = apart
      by false h = apart-more k ks apart h

  pub names-apart : {C V : Type 0} (ks : List K) (os : List (Offer K C V)) → Apart eq ks → Apart eq (names_behind eq ks os)
  names-apart ks [] apart = apart
  names-apart ks (o ∷ os) apart = names-apart (with_name eq ks o.name) os (apart-named o.name ks apart)

  pub names-of-gathered : {C V : Type 0} (mode : Mode) (os : List (Offer K C V)) (ks : List K) → names (map (gather eq mode os) ks) ≡ ks
  names-of-gathered mode os [] = refl
  names-of-gathered mode os (k ∷ ks) = ap (λ rest. k ∷ rest) (names-of-gathered mode os ks)

  pub gathered-names-apart : {C V : Type 0} (mode : Mode) (os : List (Offer K C V)) → Apart eq (names (gathered eq mode os))
  gathered-names-apart mode os = subst (Apart eq) (sym (names-of-gathered mode os (names_of eq os))) (names-apart [] os no_key)

  away-at : (test : K → Bool) (k : K) (xs ys : List K) → list_any test (xs ++ k ∷ ys) ≡ false → test k ≡ false
  away-at test k [] ys away = or-first (test k) (list_any test ys) away
  away-at test k (x ∷ xs) ys away = away-at test k xs ys (or-last (test x) (list_any test (xs ++ k ∷ ys)) away)

  apart-before : (k : K) (xs ys : List K) → Apart eq (xs ++ k ∷ ys) → list_any (eq k) xs ≡ false
  apart-before k [] ys apart = refl
  apart-before k (x ∷ xs) ys (a_key first rest) = or_from (eq k x) (list_any (eq k) xs) (laws.symm k x ∙ away-at (eq x) k xs ys first) (apart-before k xs ys rest)

  names-kept : {C V : Type 0} (ks : List K) (os : List (Offer K C V)) → Apart eq (ks ++ names os) → names_behind eq ks os ≡ ks ++ names os
  names-kept ks [] apart = sym (append-nil ks)
  names-kept ks (o ∷ os) apart =
      ap (λ b. names_behind eq (cond b ks (ks ++ o.name ∷ [])) os) (apart-before o.name ks (names os) apart)
      ∙ names-kept (ks ++ o.name ∷ []) os (subst (Apart eq) (sym (append_assoc ks (o.name ∷ []) (names os))) apart)
      ∙ append_assoc ks (o.name ∷ []) (names os)

  -- of offers of which no two are about one record each is the only one of its record
  module _ {C V : Type 0} where
    unseen : (k : K) (os : List (Offer K C V)) → list_any (eq k) (names os) ≡ false → (seen eq k os ≡ []) × (is_hidden eq k os ≡ false)
    unseen k [] away = (refl, refl)
    unseen k (o ∷ os) away =
        let first = or-first (eq k o.name) (list_any (eq k) (names os)) away in
        let rest = unseen k os (or-last (eq k o.name) (list_any (eq k) (names os)) away) in (
          ap (λ b. cond (b && not (is_hidden eq k os)) (o ∷ seen eq k os) (seen eq k os)) first ∙ rest.0,
          or_from (eq k o.name && is_replace o.mode) (is_hidden eq k os) (ap (λ b. b && is_replace o.mode) first) rest.1,
        )

    data Singles (gs : List (Offer K C V)) : List (Offer K C V) → Type 0 where
      no_single : Singles gs []
      a_single : {o : Offer K C V} {os : List (Offer K C V)} → seen eq o.name gs ≡ o ∷ [] → Singles gs os → Singles gs (o ∷ os)

    singles-behind : (p : Offer K C V) (gs os : List (Offer K C V)) → list_any (eq p.name) (names os) ≡ false → Singles gs os → Singles (p ∷ gs) os
    singles-behind p gs [] away no_single = no_single
    singles-behind p gs (o ∷ os) away (a_single one rest) =
        let other = laws.symm o.name p.name ∙ or-first (eq p.name o.name) (list_any (eq p.name) (names os)) away in
        a_single (ap (λ b. cond (b && not (is_hidden eq o.name gs)) (p ∷ seen eq o.name gs) (seen eq o.name gs)) other ∙ one) (singles-behind p gs os (or-last (eq p.name o.name) (list_any (eq p.name) (names os)) away) rest)

    all-single : (os : List (Offer K C V)) → Apart eq (names os) → Singles os os
    all-single [] apart = no_single
    all-single (o ∷ os) (a_key first rest) =
        let later = unseen o.name os first in
        let alone : seen eq o.name (o ∷ os) ≡ o ∷ [] =
        ap (λ b. cond (b && not (is_hidden eq o.name os)) (o ∷ seen eq o.name os) (seen eq o.name os)) (laws.refl o.name)
        ∙ ap (λ b. cond (not b) (o ∷ seen eq o.name os) (seen eq o.name os)) later.1
        ∙ ap (λ xs. o ∷ xs) later.0 in
        a_single alone (singles-behind o os os first (all-single os rest))

    gather-single : (mode : Mode) (gs : List (Offer K C V)) (o : Offer K C V) → seen eq o.name gs ≡ o ∷ [] → gather eq mode gs o.name ≡ under mode o
    gather-single mode gs o alone =
        let value : (c : C) → value_of eq gs o.name c ≡ o.value c = λ c. ap (λ xs. option_or (last_strong c xs) (first_weak c xs)) alone ∙ lone-value (is_strong o.mode) (o.value c) in
        let width : (g : ℕ) → width_of eq gs o.name g ≡ o.width g = λ g. ap (greatest g) alone ∙ lone-width (o.width g) in
        λ i. record { mode = mode; name = o.name; value = λ c. value c i; width = λ g. width g i }

    map-single : (mode : Mode) (gs os : List (Offer K C V)) → Singles gs os → map (gather eq mode gs) (names os) ≡ map (under mode) os
    map-single mode gs [] no_single = refl
    map-single mode gs (o ∷ os) (a_single one rest) = let head = gather-single mode gs o one in let tail = map-single mode gs os rest in λ i. head i ∷ tail i

    gathered-apart : (mode : Mode) (gs : List (Offer K C V)) → Apart eq (names gs) → gathered eq mode gs ≡ map (under mode) gs
    gathered-apart mode gs apart = ap (map (gather eq mode gs)) (names-kept [] gs apart) ∙ map-single mode gs gs (all-single gs apart)

-- what a moved map offers
module _ {K C V : Type 0} (eq : K → K → Bool) (laws : IsEquivalence eq) (same : (j k : K) → eq j k ≡ true → j ≡ k) (moves : Moves K C) (apart : (n : ℕ) (j k to : K) → moves.key n j ≡ Some to → moves.key n k ≡ Some to → j ≡ k) (os : List (Offer K C V)) where
  -- the mode changes nothing else
  one-under : (n : ℕ) (m mode : Mode) (k : K) (to : Option K) → map (under mode) (moved_one moves n (gather eq m os k) to) ≡ moved_one moves n (gather eq mode os k) to
  one-under n m mode k None = refl
  one-under n m mode k (Some to) = refl

  map-append : (mode : Mode) (xs ys : List (Offer K C V)) → map (under mode) (xs ++ ys) ≡ map (under mode) xs ++ map (under mode) ys
  map-append mode [] ys = refl
  map-append mode (x ∷ xs) ys = ap (λ rest. under mode x ∷ rest) (map-append mode xs ys)

  moved-under : (group : Option ℕ) (m mode : Mode) (ks : List K) → map (under mode) (moved moves group (map (gather eq m os) ks)) ≡ moved moves group (map (gather eq mode os) ks)
  moved-under None m mode [] = refl
  moved-under None m mode (k ∷ ks) = ap (λ rest. gather eq mode os k ∷ rest) (moved-under None m mode ks)
  moved-under (Some n) m mode [] = refl
  moved-under (Some n) m mode (k ∷ ks) =
      let rest = flat_map (λ o. moved_one moves n o (moves.key n o.name)) (map (gather eq m os) ks) in
      map-append mode (moved_one moves n (gather eq m os k) (moves.key n k)) rest
      ∙ ap (λ xs. xs ++ map (under mode) rest) (one-under n m mode k (moves.key n k))
      ∙ ap (λ xs. moved_one moves n (gather eq mode os k) (moves.key n k) ++ xs) (moved-under (Some n) m mode ks)

  names-gathered : (m : Mode) (ks : List K) → names (map (gather eq m os) ks) ≡ ks
  names-gathered m [] = refl
  names-gathered m (k ∷ ks) = ap (λ rest. k ∷ rest) (names-gathered m ks)

  -- where records go stays apart
  one-away : (n : ℕ) (m : Mode) (j k to : K) (at : Option K) (rest : List (Offer K C V)) → moves.key n j ≡ Some to → moves.key n k ≡ at → eq j k ≡ false → list_any (eq to) (names rest) ≡ false → list_any (eq to) (names (moved_one moves n (gather eq m os k) at ++ rest)) ≡ false
  one-away n m j k to None rest here there other away = away
  one-away n m j k to (Some t) rest here there other away = or_from (eq to t) (list_any (eq to) (names rest)) (by (eq to t) refl) away
    where
      by : (b : Bool) → eq to t ≡ b → b ≡ false
      by true e =
          let met : to ≡ t = same to t e in
          let joined : j ≡ k = apart n j k t (here ∙ ap (λ x. Some x) met) there in
          absurd (false≢true (sym other ∙ ap (eq j) (sym joined) ∙ laws.refl j))
      by false e = refl

  away-moved : (n : ℕ) (m : Mode) (j to : K) (ks : List K) → moves.key n j ≡ Some to → list_any (eq j) ks ≡ false → list_any (eq to) (names (moved moves (Some n) (map (gather eq m os) ks))) ≡ false
  away-moved n m j to [] here away = refl
  away-moved n m j to (k ∷ ks) here away =
      one-away n m j k to (moves.key n k) (moved moves (Some n) (map (gather eq m os) ks)) here refl (or-first (eq j k) (list_any (eq j) ks) away) (away-moved n m j to ks here (or-last (eq j k) (list_any (eq j) ks) away))

  one-apart : (n : ℕ) (m : Mode) (k : K) (at : Option K) (ks : List K) → moves.key n k ≡ at → list_any (eq k) ks ≡ false → Apart eq (names (moved moves (Some n) (map (gather eq m os) ks))) → Apart eq (names (moved_one moves n (gather eq m os k) at ++ moved moves (Some n) (map (gather eq m os) ks)))
  one-apart n m k None ks at away rest = rest
  one-apart n m k (Some to) ks at away rest = a_key (away-moved n m k to ks at away) rest

  moved-apart : (group : Option ℕ) (m : Mode) (ks : List K) → Apart eq ks → Apart eq (names (moved moves group (map (gather eq m os) ks)))
  moved-apart None m ks distinct = subst (Apart eq) (sym (names-gathered m ks)) distinct
  moved-apart (Some n) m [] distinct = no_key
  moved-apart (Some n) m (k ∷ ks) (a_key first rest) = one-apart n m k (moves.key n k) ks refl first (moved-apart (Some n) m ks rest)

  pub single_part : (group : Option ℕ) (m mode : Mode) → gathered eq mode (moved moves group (gathered eq m os) ++ []) ≡ moved moves group (gathered eq mode os)
  single_part group m mode =
      let ks = names_of eq os in
      let gs = moved moves group (map (gather eq m os) ks) in
      ap (gathered eq mode) (append-nil gs)
      ∙ gathered-apart eq laws mode gs (moved-apart group m ks (names-apart eq laws [] os no_key))
      ∙ moved-under group m mode ks
