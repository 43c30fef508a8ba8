-- What several parts, joined, give to the records of some keys.
use Rattle.std.proofs.Common.{◌≡◌, ℕ, Bool, true, false, ◌||◌, cond, max, List, [], ◌∷◌, ◌++◌, Option, None, Some, All, refl, sym, ap, ◌∙◌, subst, arith}
use Rattle.std.proofs.lemmas.Bool.{false≢true, or_from}
use Rattle.std.proofs.lemmas.List.Elements.{All-cons, All-head, All-nil, All-tail}
use Rattle.std.specs.Cmp.{IsEquivalence}
use Rattle.std.specs.List.{list_any}
use Rattle.std.specs.Option.{option_or}
use Rattle.std.proofs.lemmas.List.{append-nil, append_assoc}
use Rattle.kx_include.specs.Expansion.{Body}
use Rattle.kx_include.specs.Shared.{body_at, links_body}
use Rattle.kx_include.specs.declared.expansion.Link.{Link}
use Rattle.kx_tree.specs.declared.tree.Mode.TheVariants.{Augment}
use Rattle.kx_merge.specs.Bodies.{Moves, Rules, gathered, moved, offers_of}
use Rattle.kx_merge.specs.Renewals.{Picks, TakesUp}
use Rattle.kx_merge.specs.Offers.{Offer, names_behind, names_of, merged_value, value_of, merged_width, width_of, with_name}
use Rattle.kx_merge.specs.Records.{Form, Shows}
use Rattle.kx_merge.proofs.Again.{Named, no_name, a_name, all-named, behind-away, named-again, take, value-behind, widen, width-behind}
use Rattle.kx_merge.proofs.Covering.{or-none}
use Rattle.kx_merge.proofs.Picking.{named_by, value_given, width_given}
use Rattle.kx_merge.proofs.Precedence.{names_behind-append}
use Rattle.kx_merge.proofs.OnePart.{names, names-of-gathered}

-- ---- Parts in order

module _ {K C V : Type 0} (eq : K → K → Bool) (laws : IsEquivalence eq) where
  named-front : (js : List K) (xs ys : List (Offer K C V)) → Named eq laws js (xs ++ ys) → Named eq laws js xs
  named-front js [] ys all = no_name
  named-front js (x ∷ xs) ys (a_name here rest) = a_name here (named-front js xs ys rest)

  named-rest : (js : List K) (xs ys : List (Offer K C V)) → Named eq laws js (xs ++ ys) → Named eq laws js ys
  named-rest js [] ys all = all
  named-rest js (x ∷ xs) ys (a_name here rest) = named-rest js xs ys rest

  picks-nothing : (keys : List K) → Picks {C = C} {V = V} eq keys [] []
  picks-nothing keys = record {
    values_here = λ k c os ps here e. ap (λ ys. value_of eq ys k c) (append-nil os) ∙ e ∙ sym (ap (λ ys. value_of eq ys k c) (append-nil ps));
    values_away = λ k c os away. ap (λ ys. value_of eq ys k c) (append-nil os);
    widths_here = λ k g os ps here e. ap (λ ys. width_of eq ys k g) (append-nil os) ∙ e ∙ sym (ap (λ ys. width_of eq ys k g) (append-nil ps));
    widths_away = λ k g os away. ap (λ ys. width_of eq ys k g) (append-nil os);
    named = λ js known. refl;
  }

  picks-both : (keys : List K) (xs ys ps qs : List (Offer K C V)) → Picks eq keys xs ps → Picks eq keys ys qs → Picks eq keys (xs ++ ys) (ps ++ qs)
  picks-both keys xs ys ps qs first last = record {
    values_here = λ k c os rs here e.
        ap (λ zs. value_of eq zs k c) (sym (append_assoc os ps qs))
        ∙ last.values_here k c (os ++ ps) (rs ++ xs) here (first.values_here k c os rs here e)
        ∙ ap (λ zs. value_of eq zs k c) (append_assoc rs xs ys);
    values_away = λ k c os away. ap (λ zs. value_of eq zs k c) (sym (append_assoc os ps qs)) ∙ last.values_away k c (os ++ ps) away ∙ first.values_away k c os away;
    widths_here = λ k g os rs here e.
        ap (λ zs. width_of eq zs k g) (sym (append_assoc os ps qs))
        ∙ last.widths_here k g (os ++ ps) (rs ++ xs) here (first.widths_here k g os rs here e)
        ∙ ap (λ zs. width_of eq zs k g) (append_assoc rs xs ys);
    widths_away = λ k g os away. ap (λ zs. width_of eq zs k g) (sym (append_assoc os ps qs)) ∙ last.widths_away k g (os ++ ps) away ∙ first.widths_away k g os away;
    named = λ js known.
        let all = subst (λ is. Named eq laws is (xs ++ ys)) known (all-named eq laws js (xs ++ ys)) in
        names_behind-append eq js ps qs
        ∙ ap (λ is. names_behind eq is qs) (first.named js (named-again eq laws js xs (named-front js xs ys all)))
        ∙ last.named js (named-again eq laws js ys (named-rest js xs ys all));
  }

  module _ {R : Type 0} (form : Form R C V) (keys : List K) (n0 : List K) (a0 : K → Option R) where
    pub takes_nothing : TakesUp form eq keys n0 a0 n0 a0 []
    takes_nothing = record { picked = []; picks = picks-nothing keys; shows = λ os before. subst (Shows form eq n0 a0) (sym (append-nil os)) before }

    pub takes_both : (n1 n2 : List K) (a1 a2 : K → Option R) (xs ys : List (Offer K C V)) → TakesUp form eq keys n0 a0 n1 a1 xs → TakesUp form eq keys n1 a1 n2 a2 ys → TakesUp form eq keys n0 a0 n2 a2 (xs ++ ys)
    takes_both n1 n2 a1 a2 xs ys first last = record {
      picked = first.picked ++ last.picked;
      picks = picks-both keys xs ys first.picked last.picked first.picks last.picks;
      shows = λ os before. subst (Shows form eq n2 a2) (append_assoc os first.picked last.picked) (last.shows (os ++ first.picked) (first.shows os before));
    }

pub offers_more : {K C V D : Type 0} (eq : K → K → Bool) (rules : Rules K C V D) (moves : Moves K C) (bodies : List Body) (ls : List Link) (x : Link)
    → offers_of eq rules moves (links_body bodies (ls ++ x ∷ [])) ≡ offers_of eq rules moves (links_body bodies ls) ++ moved moves x.group (gathered eq x.mode (offers_of eq rules moves (body_at bodies x.map)))
offers_more eq rules moves bodies [] x = append-nil (moved moves x.group (gathered eq x.mode (offers_of eq rules moves (body_at bodies x.map))))
offers_more eq rules moves bodies (l ∷ ls) x =
    let first = moved moves l.group (gathered eq l.mode (offers_of eq rules moves (body_at bodies l.map))) in
    let last = moved moves x.group (gathered eq x.mode (offers_of eq rules moves (body_at bodies x.map))) in
    ap (λ os. first ++ os) (offers_more eq rules moves bodies ls x) ∙ sym (append_assoc first (offers_of eq rules moves (links_body bodies ls)) last)

-- ---- Names that are there

module _ {K : Type 0} (eq : K → K → Bool) (same : (j k : K) → eq j k ≡ true → j ≡ k) (js : List K) where
  abbrev There : K → Type 0
  There k = list_any (eq k) js ≡ true

  there-among : (k : K) (ks : List K) → All There ks → list_any (eq k) ks ≡ true → There k
  there-among k [] each among = absurd (false≢true among)
  there-among k (j ∷ ks) each among = by (eq k j) refl among (there-among k ks (All-tail There j ks each))
    where
      by : (b : Bool) → eq k j ≡ b → (b || list_any (eq k) ks) ≡ true → (list_any (eq k) ks ≡ true → There k) → There k
      by true e among rest = subst There (sym (same k j e)) (All-head There j ks each)
      by false e among rest = rest among

  there-last : (ks : List K) (k : K) → All There ks → There k → All There (ks ++ k ∷ [])
  there-last [] k each here = All-cons There k [] here each
  there-last (j ∷ ks) k each here = All-cons There j (ks ++ k ∷ []) (All-head There j ks each) (there-last ks k (All-tail There j ks each) here)

  there-named : (ks : List K) (k : K) → All There ks → There k → All There (with_name eq ks k)
  there-named ks k each here = by (list_any (eq k) ks)
    where
      by : (b : Bool) → All There (cond b ks (ks ++ k ∷ []))
      by true = each
      by false = there-last ks k each here

  module _ {C V : Type 0} (laws : IsEquivalence eq) where
    there-behind : (ks : List K) (os : List (Offer K C V)) → All There ks → Named eq laws js os → All There (names_behind eq ks os)
    there-behind ks [] each no_name = each
    there-behind ks (o ∷ os) each (a_name here rest) = there-behind (with_name eq ks o.name) os (there-named ks o.name each here) rest

    all-there : (os : List (Offer K C V)) → Named eq laws js os → All There (names os)
    all-there [] no_name = All-nil There
    all-there (o ∷ os) (a_name here rest) = All-cons There o.name (names os) here (all-there os rest)

    named-under : (ks : List K) (os : List (Offer K C V)) → All There ks → Named eq laws ks os → Named eq laws js os
    named-under ks [] each no_name = no_name
    named-under ks (o ∷ os) each (a_name here rest) = a_name (there-among o.name ks each here) (named-under ks os each rest)

    -- what is gathered names the same records
    gathered-named : (os : List (Offer K C V)) → Named eq laws js os → Named eq laws js (gathered eq Augment os)
    gathered-named os all = named_by eq laws js (gathered eq Augment os) (subst (All There) (sym (names-of-gathered eq laws Augment os (names_of eq os))) (there-behind [] os (All-nil There) all))

    named-gathered : (os : List (Offer K C V)) → Named eq laws js (gathered eq Augment os) → Named eq laws js os
    named-gathered os all = named-under (names_of eq os) os (subst (All There) (names-of-gathered eq laws Augment os (names_of eq os)) (all-there (gathered eq Augment os) all)) (all-named eq laws [] os)

-- ---- The parts joined

module _ {K C V : Type 0} (eq : K → K → Bool) (laws : IsEquivalence eq) (same : (j k : K) → eq j k ≡ true → j ≡ k) where
  unnamed : (js : List K) (os : List (Offer K C V)) (k : K) → Named eq laws js os → list_any (eq k) js ≡ false → list_any (eq k) (names os) ≡ false
  unnamed js [] k no_name out = refl
  unnamed js (o ∷ os) k (a_name here rest) out = or_from (eq k o.name) (list_any (eq k) (names os)) (by (eq k o.name) refl) (unnamed js os k rest out)
    where
      by : (b : Bool) → eq k o.name ≡ b → b ≡ false
      by true e = absurd (false≢true (sym out ∙ ap (λ i. list_any (eq i) js) (same k o.name e) ∙ here))
      by false e = refl

  module _ (moves : Moves K C) (apart : (n : ℕ) (j k to : K) → moves.key n j ≡ Some to → moves.key n k ≡ Some to → j ≡ k) where
    value-gathered : (k : K) (c : C) (os inner : List (Offer K C V)) → value_of eq (os ++ gathered eq Augment inner) k c ≡ option_or (value_of eq os k c) (value_of eq inner k c)
    value-gathered k c os inner = value-behind eq k c os (gathered eq Augment inner) ∙ value_given eq laws same moves apart inner Augment None k refl c w (names_of eq inner) ∙ by (list_any (eq k) (names_of eq inner)) refl
      where
        w : Option V
        w = value_of eq os k c

        by : (b : Bool) → list_any (eq k) (names_of eq inner) ≡ b → cond b (merged_value Augment w (value_of eq inner k c)) w ≡ option_or w (value_of eq inner k c)
        by true among = refl
        by false out =
            sym (ap (option_or w) (value-behind eq k c [] inner ∙ behind-away eq k (take eq k c) None inner (unnamed (names_of eq inner) inner k (all-named eq laws [] inner) out)) ∙ or-none w)

    width-gathered : (k : K) (g : ℕ) (os inner : List (Offer K C V)) → width_of eq (os ++ gathered eq Augment inner) k g ≡ max (width_of eq os k g) (width_of eq inner k g)
    width-gathered k g os inner = width-behind eq k g os (gathered eq Augment inner) ∙ width_given eq laws same moves apart inner Augment None k refl g w (names_of eq inner) ∙ by (list_any (eq k) (names_of eq inner)) refl
      where
        w : ℕ
        w = width_of eq os k g

        by : (b : Bool) → list_any (eq k) (names_of eq inner) ≡ b → cond b (merged_width Augment w (width_of eq inner k g)) w ≡ max w (width_of eq inner k g)
        by true among = refl
        by false out =
            let none = width-behind eq k g [] inner ∙ behind-away eq k (widen eq k g) 0 inner (unnamed (names_of eq inner) inner k (all-named eq laws [] inner) out) in
            omega (arith, none)

    pub picks_gathered : (keys : List K) (xs ps : List (Offer K C V)) → Picks eq keys xs ps → Picks eq keys (gathered eq Augment xs) (gathered eq Augment ps)
    picks_gathered keys xs ps picks = record {
      values_here = λ k c os rs here e.
          value-gathered k c os ps ∙ ap (option_or (value_of eq os k c)) (picks.values_here k c [] [] here refl)
          ∙ ap (λ w. option_or w (value_of eq xs k c)) e ∙ sym (value-gathered k c rs xs);
      values_away = λ k c os away. value-gathered k c os ps ∙ ap (option_or (value_of eq os k c)) (picks.values_away k c [] away) ∙ or-none (value_of eq os k c);
      widths_here = λ k g os rs here e.
          width-gathered k g os ps ∙ ap (max (width_of eq os k g)) (picks.widths_here k g [] [] here refl)
          ∙ ap (λ w. max w (width_of eq xs k g)) e ∙ sym (width-gathered k g rs xs);
      widths_away = λ k g os away. let none = picks.widths_away k g [] away in width-gathered k g os ps ∙ ap (max (width_of eq os k g)) none ∙ omega arith;
      named = λ js known.
          let all = subst (λ is. Named eq laws is (gathered eq Augment xs)) known (all-named eq laws js (gathered eq Augment xs)) in
          let picked = picks.named js (named-again eq laws js xs (named-gathered eq same js laws xs all)) in
          named-again eq laws js (gathered eq Augment ps) (gathered-named eq same js laws ps (subst (λ is. Named eq laws is ps) picked (all-named eq laws js ps)));
    }
