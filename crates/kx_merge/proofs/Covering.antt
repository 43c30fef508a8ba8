-- Offers under augment, once more, change nothing, where nothing between them takes a value back.
use Rattle.std.proofs.Common.{◌≡◌, ℕ, Bool, true, false, cond, max, List, [], ◌∷◌, ◌++◌, map, Option, None, Some, refl, sym, ap, ◌∙◌, subst, arith}
use Rattle.std.proofs.lemmas.Bool.{false≢true, or_from}
use Rattle.std.specs.Cmp.{IsEquivalence}
use Rattle.std.specs.List.{list_any}
use Rattle.std.specs.Map.{keys_of}
use Rattle.std.specs.Option.{option_or, option_map_or}
use Rattle.std.proofs.lemmas.List.{append-nil, append_assoc}
use Rattle.kx_tree.specs.declared.tree.Mode.{Mode}
use Rattle.kx_tree.specs.declared.tree.Mode.TheVariants.{Augment, Override, Replace}
use Rattle.kx_merge.specs.Bodies.{Moves, gather, gathered, moved, moved_to}
use Rattle.kx_merge.specs.Renewals.{AreGentle, AreGentleTo, AreWeak, Picks, TakesBack, none, more, no_offer, an_offer}
use Rattle.kx_merge.specs.Offers.{Offer, is_about, is_replace, is_strong, merged_value, merged_width, value_of, width_of, names_behind, names_of}
use Rattle.kx_merge.specs.Records.{Form, AreOffered, Shows}
use Rattle.kx_merge.specs.Records.AreOffered.{more as an_offered}
use Rattle.kx_merge.proofs.Again.{Named, no_name, all-named, behind, named-again, take, value-behind, widen, width-behind}
use Rattle.kx_merge.proofs.Precedence.{names_behind-append, option_or-assoc}
use Rattle.kx_merge.proofs.Repeated.{behind-append, named-more}
use Rattle.kx_merge.proofs.OnePart.{or-first, or-last}

-- ---- Values and widths

pub or-none : {X : Type 0} (a : Option X) → option_or a None ≡ a
or-none None = refl
or-none (Some x) = refl

or-same : {X : Type 0} (a b : Option X) → option_or (option_or a b) b ≡ option_or a b
or-same (Some x) b = refl
or-same None None = refl
or-same None (Some x) = refl

merged-weak : {X : Type 0} (m : Mode) → is_strong m ≡ false → (a b : Option X) → merged_value m a b ≡ option_or a b
merged-weak Augment weak a b = refl
merged-weak Override weak a b = absurd (false≢true (sym weak))
merged-weak Replace weak a b = absurd (false≢true (sym weak))

width-weak : (m : Mode) → is_strong m ≡ false → (a b : ℕ) → merged_width m a b ≡ max a b
width-weak Augment weak a b = refl
width-weak Override weak a b = absurd (false≢true (sym weak))
width-weak Replace weak a b = absurd (false≢true (sym weak))

-- a value that is there stays there
merged-stays : {X : Type 0} (m : Mode) → is_replace m ≡ false → (a b y : Option X) → option_or a y ≡ a → option_or (merged_value m a b) y ≡ merged_value m a b
merged-stays Augment gentle (Some x) b y e = refl
merged-stays Augment gentle None None y e = e
merged-stays Augment gentle None (Some x) y e = refl
merged-stays Override gentle a None y e = e
merged-stays Override gentle a (Some x) y e = refl
merged-stays Replace gentle a b y e = absurd (false≢true (sym gentle))

width-stays : (m : Mode) → is_replace m ≡ false → (a b y : ℕ) → max a y ≡ a → max (merged_width m a b) y ≡ merged_width m a b
width-stays Augment gentle a b y e = omega (arith, e)
width-stays Override gentle a b y e = omega (arith, e)
width-stays Replace gentle a b y e = absurd (false≢true (sym gentle))

-- ---- Offers under augment

module _ {K C V : Type 0} where
  pub gentle_to : (eq : K → K → Bool) (k : K) (os : List (Offer K C V)) → AreGentle os → AreGentleTo eq k os
  gentle_to eq k [] none = none
  gentle_to eq k (o ∷ os) (more one rest) = more (λ about. one) (gentle_to eq k os rest)

  pub gentle_both : (os ps : List (Offer K C V)) → AreGentle os → AreGentle ps → AreGentle (os ++ ps)
  gentle_both [] ps none after = after
  gentle_both (o ∷ os) ps (more one rest) after = more one (gentle_both os ps rest after)

  weak-both : (os ps : List (Offer K C V)) → AreWeak os → AreWeak ps → AreWeak (os ++ ps)
  weak-both [] ps no_offer after = after
  weak-both (o ∷ os) ps (an_offer one rest) after = an_offer one (weak-both os ps rest after)

  module _ (eq : K → K → Bool) (mode : Mode) (inner : List (Offer K C V)) where
    gentle-of : is_replace mode ≡ false → (ks : List K) → AreGentle (map (gather eq mode inner) ks)
    gentle-of gentle [] = none
    gentle-of gentle (k ∷ ks) = more gentle (gentle-of gentle ks)

    pub weak_of : is_strong mode ≡ false → (ks : List K) → AreWeak (map (gather eq mode inner) ks)
    weak_of weak [] = no_offer
    weak_of weak (k ∷ ks) = an_offer weak (weak_of weak ks)

    pub gentle_gathered : is_replace mode ≡ false → AreGentle (gathered eq mode inner)
    gentle_gathered gentle = gentle-of gentle (names_of eq inner)

    pub weak_gathered : is_strong mode ≡ false → AreWeak (gathered eq mode inner)
    weak_gathered weak = weak_of weak (names_of eq inner)

  module _ (moves : Moves K C) where
    gentle-at : (n : ℕ) (o : Offer K C V) → is_replace o.mode ≡ false → (to : Option K) → AreGentle (option_map_or (λ k. moved_to moves n o k ∷ []) to [])
    gentle-at n o gentle None = none
    gentle-at n o gentle (Some k) = more gentle none

    pub gentle_moved : (group : Option ℕ) (os : List (Offer K C V)) → AreGentle os → AreGentle (moved moves group os)
    gentle_moved None os gentle = gentle
    gentle_moved (Some n) [] none = none
    gentle_moved (Some n) (o ∷ os) (more one rest) = gentle_both (option_map_or (λ k. moved_to moves n o k ∷ []) (moves.key n o.name) []) (moved moves (Some n) os) (gentle-at n o one (moves.key n o.name)) (gentle_moved (Some n) os rest)

    weak-at : (n : ℕ) (o : Offer K C V) → is_strong o.mode ≡ false → (to : Option K) → AreWeak (option_map_or (λ k. moved_to moves n o k ∷ []) to [])
    weak-at n o weak None = no_offer
    weak-at n o weak (Some k) = an_offer weak no_offer

    pub weak_moved : (group : Option ℕ) (os : List (Offer K C V)) → AreWeak os → AreWeak (moved moves group os)
    weak_moved None os weak = weak
    weak_moved (Some n) [] no_offer = no_offer
    weak_moved (Some n) (o ∷ os) (an_offer one rest) = weak-both (option_map_or (λ k. moved_to moves n o k ∷ []) (moves.key n o.name) []) (moved moves (Some n) os) (weak-at n o one (moves.key n o.name)) (weak_moved (Some n) os rest)

-- records that are read under a mode
pub offered_gentle : {K C V R : Type 0} {form : Form R C V} (mode : Mode) (rs : List (K × R)) (os : List (Offer K C V)) → is_replace mode ≡ false → AreOffered mode form rs os → AreGentle os
offered_gentle mode [] [] gentle offered = none
offered_gentle mode [] (o ∷ os) gentle offered = elim offered [ ]
offered_gentle mode (r ∷ rs) [] gentle offered = elim offered [ ]
offered_gentle mode (r ∷ rs) (o ∷ os) gentle (an_offered one rest) = more (ap is_replace one.mode_is ∙ gentle) (offered_gentle mode rs os gentle rest)

module _ {K C V R : Type 0} {form : Form R C V} (eq : K → K → Bool) (mode : Mode) where
  -- offers to some records take nothing back from others
  untouched : (k : K) (rs : List (K × R)) (os : List (Offer K C V)) → AreOffered mode form rs os → list_any (eq k) (keys_of rs) ≡ false → AreGentleTo eq k os
  untouched k [] [] offered away = none
  untouched k [] (o ∷ os) offered away = elim offered [ ]
  untouched k (r ∷ rs) [] offered away = elim offered [ ]
  untouched k (r ∷ rs) (o ∷ os) (an_offered one rest) away =
      more (λ about. absurd (false≢true (sym (or-first (eq k r.0) (list_any (eq k) (keys_of rs)) away) ∙ ap (eq k) (sym one.name_is) ∙ about)))
      (untouched k rs os rest (or-last (eq k r.0) (list_any (eq k) (keys_of rs)) away))

  -- so where the keys of a statement under replace are noted, others stay
  pub takes_back : (rs : List (K × R)) (os : List (Offer K C V)) (old new : List K) → AreOffered mode form rs os → new ≡ old ++ cond (is_replace mode) (keys_of rs) [] → TakesBack eq false old new os
  takes_back rs os old new offered noted = by (is_replace mode) refl noted
    where
      by : (b : Bool) → is_replace mode ≡ b → new ≡ old ++ cond b (keys_of rs) [] → TakesBack eq false old new os
      by true e noted = record { keys = keys_of rs; noted = noted; gentle = λ own k away. untouched k rs os offered away }
      by false e noted = record { keys = []; noted = noted; gentle = λ own k away. gentle_to eq k os (offered_gentle mode rs os e offered) }

-- ---- What offers leave covered

module _ {K C V : Type 0} (eq : K → K → Bool) (k : K) where
  weak-value : (c : C) (xs : List (Offer K C V)) → AreWeak xs → (w : Option V) → behind eq k (take eq k c) w xs ≡ option_or w (behind eq k (take eq k c) None xs)
  unfolding take
  weak-value c [] no_offer w = sym (or-none w)
  weak-value c (o ∷ os) (an_offer weak rest) w = by (is_about eq k o) (weak-value c os rest)
    where
      left : Option V
      left = behind eq k (take eq k c) None os

      by : (b : Bool) → ((v : Option V) → behind eq k (take eq k c) v os ≡ option_or v left) → behind eq k (take eq k c) (cond b (merged_value o.mode w (o.value c)) w) os ≡ option_or w (behind eq k (take eq k c) (cond b (merged_value o.mode None (o.value c)) None) os)
      by true next =
          next (merged_value o.mode w (o.value c)) ∙ ap (λ v. option_or v left) (merged-weak o.mode weak w (o.value c)) ∙ option_or-assoc w (o.value c) left
          ∙ ap (option_or w) (sym (next (merged_value o.mode None (o.value c)) ∙ ap (λ v. option_or v left) (merged-weak o.mode weak None (o.value c))))
      by false next = next w

  weak-width : (g : ℕ) (xs : List (Offer K C V)) → AreWeak xs → (w : ℕ) → behind eq k (widen eq k g) w xs ≡ max w (behind eq k (widen eq k g) 0 xs)
  unfolding widen
  weak-width g [] no_offer w = omega arith
  weak-width g (o ∷ os) (an_offer weak rest) w = by (is_about eq k o) (weak-width g os rest)
    where
      left : ℕ
      left = behind eq k (widen eq k g) 0 os

      by : (b : Bool) → ((v : ℕ) → behind eq k (widen eq k g) v os ≡ max v left) → behind eq k (widen eq k g) (cond b (merged_width o.mode w (o.width g)) w) os ≡ max w (behind eq k (widen eq k g) (cond b (merged_width o.mode 0 (o.width g)) 0) os)
      by true next =
          let first = next (merged_width o.mode w (o.width g)) ∙ ap (λ n. max n left) (width-weak o.mode weak w (o.width g)) in
          let none_first = next (merged_width o.mode 0 (o.width g)) ∙ ap (λ n. max n left) (width-weak o.mode weak 0 (o.width g)) in
          omega (arith, first, none_first)
      by false next = next w

  stays-value : (c : C) (os : List (Offer K C V)) → AreGentleTo eq k os → (v y : Option V) → option_or v y ≡ v → option_or (behind eq k (take eq k c) v os) y ≡ behind eq k (take eq k c) v os
  unfolding take
  stays-value c [] none v y e = e
  stays-value c (o ∷ os) (more gentle rest) v y e = stays-value c os rest (cond (is_about eq k o) (merged_value o.mode v (o.value c)) v) y (by (is_about eq k o) refl)
    where
      by : (b : Bool) → is_about eq k o ≡ b → option_or (cond b (merged_value o.mode v (o.value c)) v) y ≡ cond b (merged_value o.mode v (o.value c)) v
      by true about = merged-stays o.mode (gentle about) v (o.value c) y e
      by false other = e

  stays-width : (g : ℕ) (os : List (Offer K C V)) → AreGentleTo eq k os → (v y : ℕ) → max v y ≡ v → max (behind eq k (widen eq k g) v os) y ≡ behind eq k (widen eq k g) v os
  unfolding widen
  stays-width g [] none v y e = e
  stays-width g (o ∷ os) (more gentle rest) v y e = stays-width g os rest (cond (is_about eq k o) (merged_width o.mode v (o.width g)) v) y (by (is_about eq k o) refl)
    where
      by : (b : Bool) → is_about eq k o ≡ b → max (cond b (merged_width o.mode v (o.width g)) v) y ≡ cond b (merged_width o.mode v (o.width g)) v
      by true about = width-stays o.mode (gentle about) v (o.width g) y e
      by false other = e

pub any-front : {K : Type 0} (test : K → Bool) (js ks : List K) → list_any test (js ++ ks) ≡ false → list_any test js ≡ false
any-front test [] ks away = refl
any-front test (j ∷ js) ks away = or_from (test j) (list_any test js) (or-first (test j) (list_any test (js ++ ks)) away) (any-front test js ks (or-last (test j) (list_any test (js ++ ks)) away))

pub any-rest : {K : Type 0} (test : K → Bool) (js ks : List K) → list_any test (js ++ ks) ≡ false → list_any test ks ≡ false
any-rest test [] ks away = away
any-rest test (j ∷ js) ks away = any-rest test js ks (or-last (test j) (list_any test (js ++ ks)) away)

module _ {K C V : Type 0} (eq : K → K → Bool) (laws : IsEquivalence eq) where
  -- whatever stands before, after `kept` others that are under augment give nothing, but to the records of some keys
  pub record Covers (keys : List K) (kept xs : List (Offer K C V)) : Type 0 where
    pub values : (k : K) (c : C) (w : Option V) → list_any (eq k) keys ≡ false → option_or (behind eq k (take eq k c) w kept) (behind eq k (take eq k c) None xs) ≡ behind eq k (take eq k c) w kept
    pub widths : (k : K) (g w : ℕ) → list_any (eq k) keys ≡ false → max (behind eq k (widen eq k g) w kept) (behind eq k (widen eq k g) 0 xs) ≡ behind eq k (widen eq k g) w kept
    pub named : (ks : List K) → Named eq laws (names_behind eq ks kept) xs

  -- what takes values back at some keys leaves it so at others
  pub covers_more : (keys more_keys : List K) (kept added xs : List (Offer K C V)) → ((k : K) → list_any (eq k) more_keys ≡ false → AreGentleTo eq k added) → Covers keys kept xs → Covers (keys ++ more_keys) (kept ++ added) xs
  covers_more keys more_keys kept added xs gentle covers = record {
    values = λ k c w away.
        let y = behind eq k (take eq k c) None xs in
        let other = gentle k (any-rest (eq k) keys more_keys away) in
        subst (λ v. option_or v y ≡ v) (sym (behind-append eq k (take eq k c) w kept added)) (stays-value eq k c added other (behind eq k (take eq k c) w kept) y (covers.values k c w (any-front (eq k) keys more_keys away)));
    widths = λ k g w away.
        let y = behind eq k (widen eq k g) 0 xs in
        let other = gentle k (any-rest (eq k) keys more_keys away) in
        subst (λ v. max v y ≡ v) (sym (behind-append eq k (widen eq k g) w kept added)) (stays-width eq k g added other (behind eq k (widen eq k g) w kept) y (covers.widths k g w (any-front (eq k) keys more_keys away)));
    named = λ ks. subst (λ js. Named eq laws js xs) (sym (names_behind-append eq ks kept added)) (named-more eq laws (names_behind eq ks kept) xs added (covers.named ks));
  }

  pub covers_self : (keys : List K) (kept xs : List (Offer K C V)) → AreWeak xs → Covers keys (kept ++ xs) xs
  covers_self keys kept xs weak = record {
    values = λ k c w away.
        let y = behind eq k (take eq k c) None xs in
        let v = behind eq k (take eq k c) w kept in
        subst (λ u. option_or u y ≡ u) (sym (behind-append eq k (take eq k c) w kept xs ∙ weak-value eq k c xs weak v)) (or-same v y);
    widths = λ k g w away.
        let y = behind eq k (widen eq k g) 0 xs in
        let v = behind eq k (widen eq k g) w kept in
        subst (λ u. max u y ≡ u) (sym (behind-append eq k (widen eq k g) w kept xs ∙ weak-width eq k g xs weak v)) (omega arith);
    named = λ ks. subst (λ js. Named eq laws js xs) (sym (names_behind-append eq ks kept xs)) (all-named eq laws (names_behind eq ks kept) xs);
  }

  -- what gives nothing is covered
  pub covers_none : (keys : List K) (kept : List (Offer K C V)) → Covers keys kept []
  covers_none keys kept = record { values = λ k c w away. or-none (behind eq k (take eq k c) w kept); widths = λ k g w away. omega arith; named = λ ks. no_name }

  -- what weak offers give to a record
  value-after : (k : K) (c : C) (os xs : List (Offer K C V)) → AreWeak xs → value_of eq (os ++ xs) k c ≡ option_or (value_of eq os k c) (value_of eq xs k c)
  value-after k c os xs weak = value-behind eq k c os xs ∙ weak-value eq k c xs weak (value_of eq os k c) ∙ ap (option_or (value_of eq os k c)) (sym (value-behind eq k c [] xs))

  width-after : (k : K) (g : ℕ) (os xs : List (Offer K C V)) → AreWeak xs → width_of eq (os ++ xs) k g ≡ max (width_of eq os k g) (width_of eq xs k g)
  width-after k g os xs weak = width-behind eq k g os xs ∙ weak-width eq k g xs weak (width_of eq os k g) ∙ ap (max (width_of eq os k g)) (sym (width-behind eq k g [] xs))

  module _ {R : Type 0} (form : Form R C V) (keys : List K) (ns : List K) (at : K → Option R) (os kept xs picked : List (Offer K C V)) (weak : AreWeak xs) (covers : Covers keys kept xs) (picks : Picks eq keys xs picked) where
    covers-names : names_of eq ((os ++ kept) ++ picked) ≡ names_of eq ((os ++ kept) ++ xs)
    covers-names =
        let known = named-again eq laws (names_of eq (os ++ kept)) xs (subst (λ js. Named eq laws js xs) (sym (names_behind-append eq [] os kept)) (covers.named (names_of eq os))) in
        names_behind-append eq [] (os ++ kept) picked ∙ picks.named (names_of eq (os ++ kept)) known ∙ sym known ∙ sym (names_behind-append eq [] (os ++ kept) xs)

    covers-values : (k : K) (c : C) → value_of eq ((os ++ kept) ++ picked) k c ≡ value_of eq ((os ++ kept) ++ xs) k c
    covers-values k c = by (list_any (eq k) keys) refl
      where
        v : Option V
        v = value_of eq (os ++ kept) k c

        by : (b : Bool) → list_any (eq k) keys ≡ b → value_of eq ((os ++ kept) ++ picked) k c ≡ value_of eq ((os ++ kept) ++ xs) k c
        by true here = picks.values_here k c (os ++ kept) (os ++ kept) here refl
        by false away =
            picks.values_away k c (os ++ kept) away
            ∙ sym (value-after k c (os ++ kept) xs weak ∙ ap (option_or v) (value-behind eq k c [] xs) ∙ subst (λ u. option_or u (behind eq k (take eq k c) None xs) ≡ u) (sym (value-behind eq k c os kept)) (covers.values k c (value_of eq os k c) away))

    covers-widths : (k : K) (g : ℕ) → width_of eq ((os ++ kept) ++ picked) k g ≡ width_of eq ((os ++ kept) ++ xs) k g
    covers-widths k g = by (list_any (eq k) keys) refl
      where
        v : ℕ
        v = width_of eq (os ++ kept) k g

        by : (b : Bool) → list_any (eq k) keys ≡ b → width_of eq ((os ++ kept) ++ picked) k g ≡ width_of eq ((os ++ kept) ++ xs) k g
        by true here = picks.widths_here k g (os ++ kept) (os ++ kept) here refl
        by false away =
            picks.widths_away k g (os ++ kept) away
            ∙ sym (width-after k g (os ++ kept) xs weak ∙ ap (max v) (width-behind eq k g [] xs) ∙ subst (λ u. max u (behind eq k (widen eq k g) 0 xs) ≡ u) (sym (width-behind eq k g os kept)) (covers.widths k g (width_of eq os k g) away))

    -- so records that show what stands before, and what is given to those keys, show them all
    pub covers_shown : Shows form eq ns at ((os ++ kept) ++ picked) → Shows form eq ns at (os ++ (kept ++ xs))
    covers_shown shows = subst (Shows form eq ns at) (append_assoc os kept xs) (record {
      names_are = shows.names_are ∙ covers-names;
      cells_are = λ k c. shows.cells_are k c ∙ covers-values k c;
      widths_are = λ k g. shows.widths_are k g ∙ covers-widths k g;
    })

  -- nothing is given to the records of no key
  pub picks_none : (xs : List (Offer K C V)) → Picks eq [] xs []
  picks_none xs = record {
    values_here = λ k c os ps here. absurd (false≢true here);
    values_away = λ k c os away. ap (λ ys. value_of eq ys k c) (append-nil os);
    widths_here = λ k g os ps here. absurd (false≢true here);
    widths_away = λ k g os away. ap (λ ys. width_of eq ys k g) (append-nil os);
    named = λ ks known. refl;
  }
