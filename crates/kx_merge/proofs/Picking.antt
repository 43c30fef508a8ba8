-- What a part that is moved to a group gives to the records of some keys that stay the same.
use Rattle.std.proofs.Common.{◌≡◌, ℕ, Bool, true, false, ◌||◌, cond, List, [], ◌∷◌, ◌++◌, map, Option, None, Some, All, is_some, refl, sym, ap, ◌∙◌, subst}
use Rattle.std.proofs.lemmas.Bool.{false≢true, or_right, or_from}
use Rattle.std.proofs.lemmas.List.Elements.{All-cons, All-head, All-nil, All-tail}
use Rattle.std.proofs.lemmas.List.{append_assoc, map-append}
use Rattle.std.proofs.lemmas.Option.{same_Some}
use Rattle.std.specs.Cmp.{IsEquivalence}
use Rattle.std.specs.List.{list_any}
use Rattle.kx_tree.specs.declared.tree.Mode.{Mode}
use Rattle.kx_merge.specs.Bodies.{Moves, gather, moved}
use Rattle.kx_merge.specs.Renewals.{Picks, held}
use Rattle.kx_merge.specs.Moved.{IsOfferedMoved, moved_key, moved_value, moved_width}
use Rattle.kx_merge.specs.Offers.{Offer, is_about, merged_value, merged_width, value_of, width_of}
use Rattle.kx_merge.specs.Records.{Form, IsGood, Shows, cell_in, width_in}
use Rattle.kx_merge.proofs.Again.{Named, no_name, a_name, all-named, behind, behind-away, named-again, take, merged-again, value-behind, widen, width-again, width-behind}
use Rattle.kx_merge.proofs.Movings.{moved-append, moved-none, nothing_offered, offered_moved}
use Rattle.kx_merge.proofs.Repeated.{behind-append}
use Rattle.kx_merge.proofs.OnePart.{names, or-first, or-last}

both-same : {X : Type 0} (b : Bool) (x : X) → cond b x x ≡ x
both-same true x = refl
both-same false x = refl

none-is-some : {X : Type 0} (x : X) → None ≡ Some x → ⊥
none-is-some x e = false≢true (ap is_some e)

-- ---- Keys that are among names

module _ {K : Type 0} (eq : K → K → Bool) (ns : List K) (k : K) where
  pub held_more : (ks : List K) → list_any (eq k) ns ≡ true → held eq ns (ks ++ k ∷ []) ≡ held eq ns ks ++ k ∷ []
  held_more [] there = ap (λ b. cond b (k ∷ []) []) there
  held_more (j ∷ ks) there = by (list_any (eq j) ns) (held_more ks there)
    where
      by : (b : Bool) → held eq ns (ks ++ k ∷ []) ≡ held eq ns ks ++ k ∷ [] → cond b (j ∷ held eq ns (ks ++ k ∷ [])) (held eq ns (ks ++ k ∷ [])) ≡ cond b (j ∷ held eq ns ks) (held eq ns ks) ++ k ∷ []
      by true rest = ap (λ is. j ∷ is) rest
      by false rest = rest

  pub held_past : (ks : List K) → list_any (eq k) ns ≡ false → held eq ns (ks ++ k ∷ []) ≡ held eq ns ks
  held_past [] out = ap (λ b. cond b (k ∷ []) []) out
  held_past (j ∷ ks) out = by (list_any (eq j) ns) (held_past ks out)
    where
      by : (b : Bool) → held eq ns (ks ++ k ∷ []) ≡ held eq ns ks → cond b (j ∷ held eq ns (ks ++ k ∷ [])) (held eq ns (ks ++ k ∷ [])) ≡ cond b (j ∷ held eq ns ks) (held eq ns ks)
      by true rest = ap (λ is. j ∷ is) rest
      by false rest = rest

module _ {K : Type 0} (eq : K → K → Bool) (same : (j k : K) → eq j k ≡ true → j ≡ k) (ns : List K) where
  held-all : (P : K → Type 0) (ks : List K) → All P ks → All P (held eq ns ks)
  held-all P [] each = All-nil P
  held-all P (j ∷ ks) each = by (list_any (eq j) ns) (held-all P ks (All-tail P j ks each))
    where
      by : (b : Bool) → All P (held eq ns ks) → All P (cond b (j ∷ held eq ns ks) (held eq ns ks))
      by true rest = All-cons P j (held eq ns ks) (All-head P j ks each) rest
      by false rest = rest

  held-away : (test : K → Bool) (ks : List K) → list_any test ks ≡ false → list_any test (held eq ns ks) ≡ false
  held-away test [] away = refl
  held-away test (j ∷ ks) away = by (list_any (eq j) ns) (held-away test ks (or-last (test j) (list_any test ks) away))
    where
      by : (b : Bool) → list_any test (held eq ns ks) ≡ false → list_any test (cond b (j ∷ held eq ns ks) (held eq ns ks)) ≡ false
      by true rest = or_from (test j) (list_any test (held eq ns ks)) (or-first (test j) (list_any test ks) away) rest
      by false rest = rest

  held-out : (k : K) (ks : List K) → list_any (eq k) ns ≡ false → list_any (eq k) (held eq ns ks) ≡ false
  held-out k [] out = refl
  held-out k (j ∷ ks) out = by (list_any (eq j) ns) refl (held-out k ks out)
    where
      other : list_any (eq j) ns ≡ true → (b : Bool) → eq k j ≡ b → b ≡ false
      other here true e = absurd (false≢true (sym out ∙ ap (λ i. list_any (eq i) ns) (same k j e) ∙ here))
      other here false e = refl

      by : (b : Bool) → list_any (eq j) ns ≡ b → list_any (eq k) (held eq ns ks) ≡ false → list_any (eq k) (cond b (j ∷ held eq ns ks) (held eq ns ks)) ≡ false
      by true here rest = or_from (eq k j) (list_any (eq k) (held eq ns ks)) (other here (eq k j) refl) rest
      by false here rest = rest

  held-in : (k : K) (ks : List K) → list_any (eq k) ns ≡ true → list_any (eq k) ks ≡ true → list_any (eq k) (held eq ns ks) ≡ true
  held-in k [] there among = absurd (false≢true among)
  held-in k (j ∷ ks) there among = by (eq k j) refl among (held-in k ks there)
    where
      kept : (b : Bool) → list_any (eq j) ns ≡ b → list_any (eq j) ns ≡ true → eq k j ≡ true → list_any (eq k) (cond b (j ∷ held eq ns ks) (held eq ns ks)) ≡ true
      kept true is here e = ap (λ b. b || list_any (eq k) (held eq ns ks)) e
      kept false is here e = absurd (false≢true (sym is ∙ here))

      more : (b : Bool) → list_any (eq k) (held eq ns ks) ≡ true → list_any (eq k) (cond b (j ∷ held eq ns ks) (held eq ns ks)) ≡ true
      more true rest = or_right (eq k j) (list_any (eq k) (held eq ns ks)) rest
      more false rest = rest

      by : (b : Bool) → eq k j ≡ b → (b || list_any (eq k) ks) ≡ true → (list_any (eq k) ks ≡ true → list_any (eq k) (held eq ns ks) ≡ true) → list_any (eq k) (cond (list_any (eq j) ns) (j ∷ held eq ns ks) (held eq ns ks)) ≡ true
      by true e among rest = kept (list_any (eq j) ns) refl (ap (λ i. list_any (eq i) ns) (sym (same k j e)) ∙ there) e
      by false e among rest = more (list_any (eq j) ns) (rest among)

  held-same : (k : K) (ks : List K) → list_any (eq k) ks ≡ true → list_any (eq k) (held eq ns ks) ≡ list_any (eq k) ns
  held-same k ks among = by (list_any (eq k) ns) refl
    where
      by : (b : Bool) → list_any (eq k) ns ≡ b → list_any (eq k) (held eq ns ks) ≡ list_any (eq k) ns
      by true there = held-in k ks there among ∙ sym there
      by false out = held-out k ks out ∙ sym out

-- ---- Offers whose names are all there

module _ {K C V : Type 0} (eq : K → K → Bool) (laws : IsEquivalence eq) where
  pub named_by : (js : List K) (os : List (Offer K C V)) → All (λ k. list_any (eq k) js ≡ true) (names os) → Named eq laws js os
  named_by js [] each = no_name
  named_by js (o ∷ os) each = a_name (All-head (λ k. list_any (eq k) js ≡ true) o.name (names os) each) (named_by js os (All-tail (λ k. list_any (eq k) js ≡ true) o.name (names os) each))

-- ---- What a part gives to a record that stays the same

module _ {K C V : Type 0} (eq : K → K → Bool) (laws : IsEquivalence eq) (same : (j k : K) → eq j k ≡ true → j ≡ k) (moves : Moves K C) (apart : (n : ℕ) (j k to : K) → moves.key n j ≡ Some to → moves.key n k ≡ Some to → j ≡ k) (inner : List (Offer K C V)) (mode : Mode) (group : Option ℕ) where
  -- a record of the map that is included
  abbrev Given : Type 0
  Given = (C → Option V) × (ℕ → ℕ)

  abbrev given_form : Form Given C V
  given_form = record { cell = λ r. r.0; width = λ r. r.1 }

  abbrev given_at : K → Given
  given_at k = (value_of eq inner k, width_of eq inner k)

  given-good : (k : K) → IsGood given_form eq inner k (given_at k)
  given-good k = record { cells_are = λ c. refl; widths_are = λ g. refl }

  abbrev IsGiven : K → K → Offer K C V → Type 0
  IsGiven j to o = IsOfferedMoved given_form moves mode group to (given_at j) o

  abbrev pub given_to : List K → List (Offer K C V)
  given_to ks = moved moves group (map (gather eq mode inner) ks)

  abbrev pub Stays : K → Type 0
  Stays k = moved_key moves group k ≡ Some k

  apart-in : (to : Option ℕ) (j k t : K) → moved_key moves to j ≡ Some t → moved_key moves to k ≡ Some t → j ≡ k
  apart-in None j k t one other = same_Some j t one ∙ sym (same_Some k t other)
  apart-in (Some n) j k t one other = apart n j k t one other

  given-nothing : (j : K) → moved_key moves group j ≡ None → given_to (j ∷ []) ≡ []
  given-nothing j goes = nothing_offered given_form eq moves inner mode j (given_at j) (given-good j) group goes

  given-one : (j to : K) → moved_key moves group j ≡ Some to → (o : Offer K C V) × (given_to (j ∷ []) ≡ o ∷ []) × IsGiven j to o
  given-one j to goes = offered_moved given_form eq moves inner mode j (given_at j) (given-good j) group to goes

  given-first : (j : K) (ks : List K) → given_to (j ∷ ks) ≡ given_to (j ∷ []) ++ given_to ks
  given-first j ks = moved-append moves group (gather eq mode inner j ∷ []) (map (gather eq mode inner) ks)

  stays-among : (k : K) (ks : List K) → All Stays ks → list_any (eq k) ks ≡ true → Stays k
  stays-among k [] each among = absurd (false≢true among)
  stays-among k (j ∷ ks) each among = by (eq k j) refl among (stays-among k ks (All-tail Stays j ks each))
    where
      by : (b : Bool) → eq k j ≡ b → (b || list_any (eq k) ks) ≡ true → (list_any (eq k) ks ≡ true → Stays k) → Stays k
      by true e among rest = subst Stays (sym (same k j e)) (All-head Stays j ks each)
      by false e among rest = rest among

  module _ (k : K) (stays : Stays k) where
    -- only the record itself goes to it
    not-gone : (j : K) → moved_key moves group j ≡ None → (b : Bool) → eq k j ≡ b → b ≡ false
    not-gone j goes true e = absurd (none-is-some k (sym goes ∙ ap (moved_key moves group) (sym (same k j e)) ∙ stays))
    not-gone j goes false e = refl

    not-other : (j to : K) → moved_key moves group j ≡ Some to → eq k to ≡ false → (b : Bool) → eq k j ≡ b → b ≡ false
    not-other j to goes away true e =
        let here : to ≡ k = same_Some to k (sym goes ∙ ap (moved_key moves group) (sym (same k j e)) ∙ stays) in
        absurd (false≢true (sym away ∙ ap (eq k) here ∙ laws.refl k))
    not-other j to goes away false e = refl

    itself : (j to : K) → moved_key moves group j ≡ Some to → eq k to ≡ true → j ≡ k
    itself j to goes here = apart-in group j k to goes (stays ∙ ap Some (same k to here))

    module _ {W : Type 0} (step : Offer K C V → W → W) (full : W) (again : (o : Offer K C V) → IsGiven k k o → step o full ≡ full) where
      given-step : (w : W) → ((o : Offer K C V) → IsGiven k k o → step o w ≡ full) → (ks : List K) → behind eq k step w (given_to ks) ≡ cond (list_any (eq k) ks) full w
      given-step w first [] = ap (behind eq k step w) (moved-none moves group)
      given-step w first (j ∷ ks) =
          ap (behind eq k step w) (given-first j ks) ∙ behind-append eq k step w (given_to (j ∷ [])) (given_to ks)
          ∙ by (moved_key moves group j) refl (given-step w first ks) (given-step full again ks)
        where
          by : (to : Option K) → moved_key moves group j ≡ to → behind eq k step w (given_to ks) ≡ cond (list_any (eq k) ks) full w → behind eq k step full (given_to ks) ≡ cond (list_any (eq k) ks) full full
              → behind eq k step (behind eq k step w (given_to (j ∷ []))) (given_to ks) ≡ cond (eq k j || list_any (eq k) ks) full w
          by None goes next after =
              ap (λ os. behind eq k step (behind eq k step w os) (given_to ks)) (given-nothing j goes) ∙ next
              ∙ sym (ap (λ b. cond (b || list_any (eq k) ks) full w) (not-gone j goes (eq k j) refl))
          by (Some to) goes next after = ap (λ os. behind eq k step (behind eq k step w os) (given_to ks)) one.1 ∙ at (eq k to) refl
            where
              one : (o : Offer K C V) × (given_to (j ∷ []) ≡ o ∷ []) × IsGiven j to o
              one = given-one j to goes

              about : (b : Bool) → eq k to ≡ b → is_about eq k one.0 ≡ b
              about b e = ap (eq k) one.2.name_is ∙ e

              at : (b : Bool) → eq k to ≡ b → behind eq k step (behind eq k step w (one.0 ∷ [])) (given_to ks) ≡ cond (eq k j || list_any (eq k) ks) full w
              at true e =
                  let is : j ≡ k = itself j to goes e in
                  let given : IsGiven k k one.0 = subst (λ i. IsGiven i k one.0) is (subst (λ t. IsGiven j t one.0) (sym (same k to e)) one.2) in
                  ap (λ b. behind eq k step (cond b (step one.0 w) w) (given_to ks)) (about true e)
                  ∙ ap (λ v. behind eq k step v (given_to ks)) (first one.0 given)
                  ∙ after ∙ both-same (list_any (eq k) ks) full
                  ∙ sym (ap (λ b. cond (b || list_any (eq k) ks) full w) (ap (eq k) is ∙ laws.refl k))
              at false e =
                  ap (λ b. behind eq k step (cond b (step one.0 w) w) (given_to ks)) (about false e) ∙ next
                  ∙ sym (ap (λ b. cond (b || list_any (eq k) ks) full w) (not-other j to goes e (eq k j) refl))

    pub value_given : (c : C) (w : Option V) (ks : List K) → behind eq k (take eq k c) w (given_to ks) ≡ cond (list_any (eq k) ks) (merged_value mode w (moved_value moves group (value_of eq inner k) c)) w
    unfolding take
    value_given c w ks =
        let v = moved_value moves group (value_of eq inner k) c in
        given-step (take eq k c) (merged_value mode w v) (λ o is. ap (λ m. merged_value m (merged_value mode w v) (o.value c)) is.mode_is ∙ ap (merged_value mode (merged_value mode w v)) (is.value_is c) ∙ merged-again mode w v)
        w (λ o is. ap (λ m. merged_value m w (o.value c)) is.mode_is ∙ ap (merged_value mode w) (is.value_is c)) ks

    pub width_given : (g w : ℕ) (ks : List K) → behind eq k (widen eq k g) w (given_to ks) ≡ cond (list_any (eq k) ks) (merged_width mode w (moved_width moves group (width_of eq inner k) g)) w
    unfolding widen
    width_given g w ks =
        let v = moved_width moves group (width_of eq inner k) g in
        given-step (widen eq k g) (merged_width mode w v) (λ o is. ap (λ m. merged_width m (merged_width mode w v) (o.width g)) is.mode_is ∙ ap (merged_width mode (merged_width mode w v)) (is.width_is g) ∙ width-again mode w v)
        w (λ o is. ap (λ m. merged_width m w (o.width g)) is.mode_is ∙ ap (merged_width mode w) (is.width_is g)) ks

    -- a record that is given something is among names that have all
    named-given : (js ks : List K) → Named eq laws js (given_to ks) → list_any (eq k) ks ≡ true → list_any (eq k) js ≡ true
    named-given js [] all among = absurd (false≢true among)
    named-given js (j ∷ ks) all among = by (moved_key moves group j) refl among (subst (Named eq laws js) (given-first j ks) all) (named-given js ks)
      where
        by : (to : Option K) → moved_key moves group j ≡ to → (eq k j || list_any (eq k) ks) ≡ true → Named eq laws js (given_to (j ∷ []) ++ given_to ks) → (Named eq laws js (given_to ks) → list_any (eq k) ks ≡ true → list_any (eq k) js ≡ true) → list_any (eq k) js ≡ true
        by None goes among all rest =
            rest (subst (λ os. Named eq laws js (os ++ given_to ks)) (given-nothing j goes) all) (sym (ap (λ b. b || list_any (eq k) ks) (not-gone j goes (eq k j) refl)) ∙ among)
        by (Some to) goes among all rest = first (subst (λ os. Named eq laws js (os ++ given_to ks)) one.1 all)
          where
            one : (o : Offer K C V) × (given_to (j ∷ []) ≡ o ∷ []) × IsGiven j to o
            one = given-one j to goes

            at : (b : Bool) → eq k to ≡ b → list_any (eq one.0.name) js ≡ true → Named eq laws js (given_to ks) → list_any (eq k) js ≡ true
            at true e here others = ap (λ i. list_any (eq i) js) (same k to e ∙ sym one.2.name_is) ∙ here
            at false e here others = rest others (sym (ap (λ b. b || list_any (eq k) ks) (not-other j to goes e (eq k j) refl)) ∙ among)

            first : Named eq laws js (one.0 ∷ given_to ks) → list_any (eq k) js ≡ true
            first (a_name here others) = at (eq k to) refl here others

  -- the records are named by their keys
  names-given : (ks : List K) → All Stays ks → names (given_to ks) ≡ ks
  names-given [] each = ap names (moved-none moves group)
  names-given (j ∷ ks) each =
      let one = given-one j j (All-head Stays j ks each) in
      ap names (given-first j ks ∙ ap (λ os. os ++ given_to ks) one.1)
      ∙ ap (λ i. i ∷ names (given_to ks)) one.2.name_is
      ∙ ap (λ is. j ∷ is) (names-given ks (All-tail Stays j ks each))

  all-there : (js ns ks : List K) → All Stays ks → Named eq laws js (given_to ns) → All (λ k. list_any (eq k) js ≡ true) (held eq ns ks)
  all-there js ns [] each all = All-nil (λ k. list_any (eq k) js ≡ true)
  all-there js ns (j ∷ ks) each all = by (list_any (eq j) ns) refl (all-there js ns ks (All-tail Stays j ks each) all)
    where
      by : (b : Bool) → list_any (eq j) ns ≡ b → All (λ k. list_any (eq k) js ≡ true) (held eq ns ks) → All (λ k. list_any (eq k) js ≡ true) (cond b (j ∷ held eq ns ks) (held eq ns ks))
      by true there rest = All-cons (λ k. list_any (eq k) js ≡ true) j (held eq ns ks) (named-given j (All-head Stays j ks each) js ns all there) rest
      by false out rest = rest

  pub picks_held : (keys ns : List K) → All Stays keys → Picks eq keys (given_to ns) (given_to (held eq ns keys))
  picks_held keys ns each = record {
    values_here = λ k c os ps here e.
        let stays = stays-among k keys each here in
        let v = moved_value moves group (value_of eq inner k) c in
        let w = value_of eq os k c in
        value-behind eq k c os (given_to some) ∙ value_given k stays c w some
        ∙ ap (λ b. cond b (merged_value mode w v) w) (held-same eq same ns k keys here)
        ∙ ap (λ u. cond (list_any (eq k) ns) (merged_value mode u v) u) e
        ∙ sym (value-behind eq k c ps (given_to ns) ∙ value_given k stays c (value_of eq ps k c) ns);
    values_away = λ k c os away. value-behind eq k c os (given_to some) ∙ behind-away eq k (take eq k c) (value_of eq os k c) (given_to some) (unnamed k away);
    widths_here = λ k g os ps here e.
        let stays = stays-among k keys each here in
        let v = moved_width moves group (width_of eq inner k) g in
        let w = width_of eq os k g in
        width-behind eq k g os (given_to some) ∙ width_given k stays g w some
        ∙ ap (λ b. cond b (merged_width mode w v) w) (held-same eq same ns k keys here)
        ∙ ap (λ u. cond (list_any (eq k) ns) (merged_width mode u v) u) e
        ∙ sym (width-behind eq k g ps (given_to ns) ∙ width_given k stays g (width_of eq ps k g) ns);
    widths_away = λ k g os away. width-behind eq k g os (given_to some) ∙ behind-away eq k (widen eq k g) (width_of eq os k g) (given_to some) (unnamed k away);
    named = λ js known.
        let all = subst (λ is. Named eq laws is (given_to ns)) known (all-named eq laws js (given_to ns)) in
        named-again eq laws js (given_to some) (named_by eq laws js (given_to some) (subst (All (λ k. list_any (eq k) js ≡ true)) (sym (names-given some stay)) (all-there js ns keys each all)));
  }
    where
      some : List K
      some = held eq ns keys

      stay : All Stays some
      stay = held-all eq same ns Stays keys each

      unnamed : (k : K) → list_any (eq k) keys ≡ false → list_any (eq k) (names (given_to some)) ≡ false
      unnamed k away = ap (list_any (eq k)) (names-given some stay) ∙ held-away eq same ns (eq k) keys away

-- ---- Records of keys, one by one

module _ {K C V R : Type 0} (form : Form R C V) (eq : K → K → Bool) where
  -- a record that is found is what the offers give it
  pub found_good : (ns : List K) (at : K → Option R) (os : List (Offer K C V)) (k : K) (r : R) → Shows form eq ns at os → at k ≡ Some r → IsGood form eq os k r
  found_good ns at os k r shows found = record {
    cells_are = λ c. sym (ap (λ f. cell_in form f c) found) ∙ shows.cells_are k c;
    widths_are = λ g. sym (ap (λ f. width_in form f g) found) ∙ shows.widths_are k g;
  }

pub given_more : {K C V : Type 0} (eq : K → K → Bool) (moves : Moves K C) (mode : Mode) (inner : List (Offer K C V)) (group : Option ℕ) (os : List (Offer K C V)) (ks : List K) (k : K)
    → (os ++ moved moves group (map (gather eq mode inner) ks)) ++ moved moves group (gather eq mode inner k ∷ []) ≡ os ++ moved moves group (map (gather eq mode inner) (ks ++ k ∷ []))
given_more eq moves mode inner group os ks k =
    let before = map (gather eq mode inner) ks in
    let one = gather eq mode inner k ∷ [] in
    append_assoc os (moved moves group before) (moved moves group one)
    ∙ ap (λ added. os ++ added) (sym (moved-append moves group before one) ∙ ap (moved moves group) (sym (map-append (gather eq mode inner) ks (k ∷ []))))
