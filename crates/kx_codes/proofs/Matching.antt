-- Look-ups in lists of pairs by one of two keys that no two of them share.
use Rattle.std.proofs.Common.{◌≡◌, Bool, true, false, cond, ◌||◌, not, List, [], ◌∷◌, ◌++◌, is_some, Option, None, Some, Decides, refl, sym, ap, ◌∙◌, filter, fold}
use Rattle.std.specs.List.{list_any}
use Rattle.std.specs.Option.{option_or}
use Rattle.std.proofs.lemmas.Bool.{false≢true}
use Rattle.std.proofs.lemmas.Option.{same_Some}
use Rattle.kx_codes.specs.Pairs.{Pair}

pub bool_same : (b c : Bool) → (b ≡ true → c ≡ true) → (c ≡ true → b ≡ true) → b ≡ c
bool_same true c h k = sym (h refl)
bool_same false true h k = k refl
bool_same false false h k = refl

pub option_same : {X : Type 0} (o p : Option X) → ((x : X) → o ≡ Some x → p ≡ Some x) → ((x : X) → p ≡ Some x → o ≡ Some x) → o ≡ p
option_same None None h k = refl
option_same None (Some x) h k = k x refl
option_same (Some x) p h k = sym (h x refl)

pub some_not_none : {X : Type 0} (o : Option X) (x : X) (P : Type 0) → o ≡ Some x → o ≡ None → P
some_not_none o x P h k = absurd (false≢true (ap is_some (sym k ∙ h)))

cond-same : {X : Type 0} (b : Bool) (x : X) → cond b x x ≡ x
cond-same true x = refl
cond-same false x = refl

pub or-none : {X : Type 0} (o : Option X) → option_or o None ≡ o
or-none None = refl
or-none (Some x) = refl

-- the value, where it does not pass the test
abbrev pub unless : {X : Type 0} → (X → Bool) → Option X → Option X
unless test None = None
unless test (Some x) = cond (test x) None (Some x)

-- the first value, or the second where that does not pass the test
abbrev pub over : {X : Type 0} → Option X → (X → Bool) → Option X → Option X
over (Some x) test o = Some x
over None test o = unless test o

abbrev pub look : {A B : Type 0} → (Pair → A) → (Pair → B) → (A → A → Bool) → List Pair → A → Option B
look f g eq [] a = None
look f g eq (p ∷ ps) a = cond (eq a (f p)) (Some (g p)) (look f g eq ps a)

abbrev pub Apart : {A B : Type 0} → (Pair → A) → (Pair → B) → (A → A → Bool) → (B → B → Bool) → List Pair → Type 0
Apart f g eqA eqB [] = Unit {0}
Apart f g eqA eqB (p ∷ ps) = (list_any (λ q. eqA (f p) (f q)) ps ≡ false) × (list_any (λ q. eqB (g p) (g q)) ps ≡ false) × Apart f g eqA eqB ps

module _ {A B : Type 0} (f : Pair → A) (g : Pair → B) (eqA : A → A → Bool) (eqB : B → B → Bool) (dA : (x y : A) → Decides (eqA x y) (x ≡ y)) (dB : (x y : B) → Decides (eqB x y) (x ≡ y)) where
  abbrev L : List Pair → A → Option B
  L = look f g eqA

  abbrev M : List Pair → B → Option A
  M = look g f eqB

  symA : (x y : A) → eqA x y ≡ eqA y x
  symA x y = bool_same (eqA x y) (eqA y x) (λ h. (dA y x).1 (sym ((dA x y).0 h))) (λ h. (dA x y).1 (sym ((dA y x).0 h)))

  pub any_look : (ps : List Pair) (a : A) → list_any (λ q. eqA a (f q)) ps ≡ is_some (L ps a)
  any_look [] a = refl
  any_look (q ∷ qs) a = by (eqA a (f q)) (any_look qs a)
    where
      by : (b : Bool) → list_any (λ r. eqA a (f r)) qs ≡ is_some (L qs a) → (b || list_any (λ r. eqA a (f r)) qs) ≡ is_some (cond b (Some (g q)) (L qs a))
      by true h = refl
      by false h = h

  pub absent : (ps : List Pair) (a : A) → list_any (λ q. eqA a (f q)) ps ≡ false → L ps a ≡ None
  absent ps a h = by (L ps a) (sym (any_look ps a) ∙ h)
    where
      by : (o : Option B) → is_some o ≡ false → o ≡ None
      by None h = refl
      by (Some x) h = absurd (false≢true (sym h))

  -- a pair that is found by one key has the other
  pub found_other : (ps : List Pair) (a : A) (b : B) → L ps a ≡ Some b → list_any (λ q. eqB b (g q)) ps ≡ true
  found_other [] a b h = absurd (false≢true (ap is_some h))
  found_other (q ∷ qs) a b h = by (eqA a (f q)) (found_other qs a b) h
    where
      first : (c : Bool) → c ≡ true → (c || list_any (λ r. eqB b (g r)) qs) ≡ true
      first true e = refl
      first false e = absurd (false≢true e)

      later : (c : Bool) → list_any (λ r. eqB b (g r)) qs ≡ true → (c || list_any (λ r. eqB b (g r)) qs) ≡ true
      later true e = refl
      later false e = e

      by : (c : Bool) → (L qs a ≡ Some b → list_any (λ r. eqB b (g r)) qs ≡ true) → cond c (Some (g q)) (L qs a) ≡ Some b → (eqB b (g q) || list_any (λ r. eqB b (g r)) qs) ≡ true
      by true rest h = first (eqB b (g q)) ((dB b (g q)).1 (sym (same_Some (g q) b h)))
      by false rest h = later (eqB b (g q)) (rest h)

  look-cond : (b : Bool) (q : Pair) (xs : List Pair) (a : A) → L (cond b (q ∷ xs) xs) a ≡ cond b (cond (eqA a (f q)) (Some (g q)) (L xs a)) (L xs a)
  look-cond true q xs a = refl
  look-cond false q xs a = refl

  pub look_last : (xs : List Pair) (p : Pair) (a : A) → L (xs ++ p ∷ []) a ≡ option_or (L xs a) (cond (eqA a (f p)) (Some (g p)) None)
  look_last [] p a = refl
  look_last (x ∷ xs) p a = by (eqA a (f x)) (look_last xs p a)
    where
      by : (b : Bool) → L (xs ++ p ∷ []) a ≡ option_or (L xs a) (cond (eqA a (f p)) (Some (g p)) None) → cond b (Some (g x)) (L (xs ++ p ∷ []) a) ≡ option_or (cond b (Some (g x)) (L xs a)) (cond (eqA a (f p)) (Some (g p)) None)
      by true h = refl
      by false h = h

  pub last_put : (ps : List Pair) (p : Pair) (a : A) → list_any (λ q. eqA (f p) (f q)) ps ≡ false → cond (eqA (f p) a) (Some (g p)) (L ps a) ≡ L (ps ++ p ∷ []) a
  last_put ps p a none = by (eqA (f p) a) (λ e. absent ps a (ap (λ x. list_any (λ q. eqA x (f q)) ps) (sym ((dA (f p) a).0 e)) ∙ none)) ∙ sym (look_last ps p a ∙ ap (λ b. option_or (L ps a) (cond b (Some (g p)) None)) (symA a (f p)))
    where
      by : (b : Bool) → (b ≡ true → L ps a ≡ None) → cond b (Some (g p)) (L ps a) ≡ option_or (L ps a) (cond b (Some (g p)) None)
      by true gone = sym (ap (λ o. option_or o (Some (g p))) (gone refl))
      by false gone = sym (or-none (L ps a))

  -- without the pairs of a key
  pub look_without : (ps : List Pair) (k a : A) → L (filter (λ q. not (eqA k (f q))) ps) a ≡ cond (eqA k a) None (L ps a)
  look_without [] k a = sym (cond-same (eqA k a) None)
  look_without (q ∷ qs) k a =
      look-cond (not (eqA k (f q))) q (filter (λ r. not (eqA k (f r))) qs) a
      ∙ by (eqA k (f q)) (eqA a (f q)) (eqA k a) (λ h e. (dA k a).1 ((dA k (f q)).0 h ∙ sym ((dA a (f q)).0 e))) (λ h e. (dA k (f q)).1 ((dA k a).0 h ∙ (dA a (f q)).0 e)) (L (filter (λ r. not (eqA k (f r))) qs) a) (look_without qs k a)
    where
      by : (kf af ka : Bool) → (kf ≡ true → af ≡ true → ka ≡ true) → (ka ≡ true → af ≡ true → kf ≡ true) → (o : Option B) → o ≡ cond ka None (L qs a) → cond (not kf) (cond af (Some (g q)) o) o ≡ cond ka None (cond af (Some (g q)) (L qs a))
      by true af true h k o e = e
      by true true false h k o e = absurd (false≢true (h refl refl))
      by true false false h k o e = e
      by false true true h k o e = absurd (false≢true (k refl refl))
      by false false true h k o e = e
      by false true false h k o e = refl
      by false false false h k o e = e

  -- without the pairs of the other key
  pub look_without_other : (ps : List Pair) (k : B) (a : A) → Apart f g eqA eqB ps → L (filter (λ q. not (eqB k (g q))) ps) a ≡ unless (eqB k) (L ps a)
  look_without_other [] k a h = refl
  look_without_other (q ∷ qs) k a h =
      look-cond (not (eqB k (g q))) q (filter (λ r. not (eqB k (g r))) qs) a
      ∙ by (eqB k (g q)) refl (eqA a (f q)) (λ e. absent qs a (ap (λ x. list_any (λ r. eqA x (f r)) qs) ((dA a (f q)).0 e) ∙ h.0)) (L (filter (λ r. not (eqB k (g r))) qs) a) (look_without_other qs k a h.2)
    where
      by : (kg : Bool) → eqB k (g q) ≡ kg → (af : Bool) → (af ≡ true → L qs a ≡ None) → (o : Option B) → o ≡ unless (eqB k) (L qs a) → cond (not kg) (cond af (Some (g q)) o) o ≡ unless (eqB k) (cond af (Some (g q)) (L qs a))
      by true e true none o is = is ∙ ap (unless (eqB k)) (none refl) ∙ sym (ap (λ b. cond b None (Some (g q))) e)
      by true e false none o is = is
      by false e true none o is = sym (ap (λ b. cond b None (Some (g q))) e)
      by false e false none o is = is

  -- a pair that takes the place of those that share a key with it
  pub took_over : (ps ws : List Pair) (p : Pair) (a : A) → ws ≡ filter (λ q. not (eqA (f p) (f q))) (filter (λ q. not (eqB (g p) (g q))) ps) → Apart f g eqA eqB ps → L (ws ++ p ∷ []) a ≡ cond (eqA a (f p)) (Some (g p)) (unless (eqB (g p)) (L ps a))
  took_over ps ws p a is h =
      look_last ws p a
      ∙ ap (λ o. option_or o (cond (eqA a (f p)) (Some (g p)) None)) (ap (λ xs. L xs a) is ∙ look_without (filter (λ q. not (eqB (g p) (g q))) ps) (f p) a ∙ ap (cond (eqA (f p) a) None) (look_without_other ps (g p) a h) ∙ ap (λ b. cond b None (unless (eqB (g p)) (L ps a))) (symA (f p) a))
      ∙ by (eqA a (f p)) (unless (eqB (g p)) (L ps a))
    where
      by : (b : Bool) (o : Option B) → option_or (cond b None o) (cond b (Some (g p)) None) ≡ cond b (Some (g p)) o
      by true o = refl
      by false o = or-none o

  -- a pair that is dropped where one shares a key with it
  pub took_under : (ps : List Pair) (p : Pair) (a : A) (s : Bool) → s ≡ (is_some (L ps (f p)) || is_some (M ps (g p))) → L (cond s ps (ps ++ p ∷ [])) a ≡ option_or (L ps a) (cond (eqA a (f p)) (cond (is_some (M ps (g p))) None (Some (g p))) None)
  took_under ps p a s is = push s ∙ by (eqA a (f p)) (λ e. ap (L ps) ((dA a (f p)).0 e)) (L ps a) refl s (is_some (M ps (g p))) is
    where
      push : (s : Bool) → L (cond s ps (ps ++ p ∷ [])) a ≡ cond s (L ps a) (option_or (L ps a) (cond (eqA a (f p)) (Some (g p)) None))
      push true = refl
      push false = look_last ps p a

      chosen : (o : Option B) (s y : Bool) → s ≡ (is_some o || y) → cond s o (option_or o (Some (g p))) ≡ option_or o (cond y None (Some (g p)))
      chosen None s true e = ap (λ b. cond b None (Some (g p))) e
      chosen None s false e = ap (λ b. cond b None (Some (g p))) e
      chosen (Some x) s y e = ap (λ b. cond b (Some x) (Some x)) e

      by : (b : Bool) → (b ≡ true → L ps a ≡ L ps (f p)) → (o : Option B) → L ps a ≡ o → (s y : Bool) → s ≡ (is_some (L ps (f p)) || y) → cond s o (option_or o (cond b (Some (g p)) None)) ≡ option_or o (cond b (cond y None (Some (g p))) None)
      by true same o e s y is = chosen o s y (is ∙ ap (λ x. is_some x || y) (sym (same refl) ∙ e))
      by false same o e s y is = ap (cond s o) (or-none o) ∙ cond-same s o ∙ sym (or-none o)

module _ {A B : Type 0} (f : Pair → A) (g : Pair → B) (eqA : A → A → Bool) (eqB : B → B → Bool) (dA : (x y : A) → Decides (eqA x y) (x ≡ y)) (dB : (x y : B) → Decides (eqB x y) (x ≡ y)) where
  abbrev L2 : List Pair → A → Option B
  L2 = look f g eqA

  abbrev M2 : List Pair → B → Option A
  M2 = look g f eqB

  flipB : (x y : B) → eqB x y ≡ eqB y x
  flipB x y = bool_same (eqB x y) (eqB y x) (λ h. (dB y x).1 (sym ((dB x y).0 h))) (λ h. (dB x y).1 (sym ((dB y x).0 h)))

  none_at : (qs : List Pair) (q : Pair) (a : A) → list_any (λ r. eqA (f q) (f r)) qs ≡ false → eqA a (f q) ≡ true → L2 qs a ≡ None
  none_at qs q a h e = absent f g eqA eqB dA dB qs a (ap (λ x. list_any (λ r. eqA x (f r)) qs) ((dA a (f q)).0 e) ∙ h)

  -- what a list of pairs leaves, of which each in turn takes the place of others
  pub all_over : (step : List Pair → Pair → List Pair) (Is : List Pair → Type 0) → ((ps : List Pair) (p : Pair) → Is ps → Is (step ps p)) → ((ps : List Pair) (p : Pair) (a : A) → Is ps → L2 (step ps p) a ≡ cond (eqA a (f p)) (Some (g p)) (unless (eqB (g p)) (L2 ps a)))
      → (ps qs : List Pair) (a : A) → Is ps → Apart f g eqA eqB qs → L2 (fold step ps qs) a ≡ over (L2 qs a) (λ b. is_some (M2 qs b)) (L2 ps a)
  all_over step Is keeps one ps [] a is h = by (L2 ps a)
    where
      by : (o : Option B) → o ≡ unless (λ b. false) o
      by None = refl
      by (Some x) = refl
  all_over step Is keeps one ps (q ∷ qs) a is h =
      all_over step Is keeps one (step ps q) qs a (keeps ps q is) h.2
      ∙ ap (over (L2 qs a) (λ b. is_some (M2 qs b))) (one ps q a is)
      ∙ by (eqA a (f q)) (none_at qs q a h.0) (L2 qs a) refl (L2 ps a)
    where
      none : is_some (M2 qs (g q)) ≡ false
      none = sym (any_look g f eqB eqA dB dA qs (g q)) ∙ h.1

      inner : (b : B) (c d : Bool) → c ≡ d → unless (λ x. is_some (M2 qs x)) (cond c None (Some b)) ≡ cond (is_some (cond d (Some (f q)) (M2 qs b))) None (Some b)
      inner b true true e = refl
      inner b true false e = absurd (false≢true (sym e))
      inner b false true e = absurd (false≢true e)
      inner b false false e = refl

      rest : (o : Option B) → unless (λ b. is_some (M2 qs b)) (unless (eqB (g q)) o) ≡ unless (λ b. is_some (cond (eqB b (g q)) (Some (f q)) (M2 qs b))) o
      rest None = refl
      rest (Some b) = inner b (eqB (g q) b) (eqB b (g q)) (flipB (g q) b)

      by : (c : Bool) → (c ≡ true → L2 qs a ≡ None) → (o : Option B) → L2 qs a ≡ o → (y : Option B)
          → over o (λ b. is_some (M2 qs b)) (cond c (Some (g q)) (unless (eqB (g q)) y)) ≡ over (cond c (Some (g q)) o) (λ b. is_some (cond (eqB b (g q)) (Some (f q)) (M2 qs b))) y
      by true gone None e y = ap (λ b. cond b None (Some (g q))) none
      by true gone (Some x) e y = some_not_none (L2 qs a) x (over (Some x) (λ b. is_some (M2 qs b)) (cond true (Some (g q)) (unless (eqB (g q)) y)) ≡ over (cond true (Some (g q)) (Some x)) (λ b. is_some (cond (eqB b (g q)) (Some (f q)) (M2 qs b))) y) e (gone refl)
      by false gone None e y = rest y
      by false gone (Some x) e y = refl

  -- what a list of pairs leaves, of which each in turn is dropped where another shares a key with it
  pub all_under : (step : List Pair → Pair → List Pair)
      → ((ps : List Pair) (p : Pair) (a : A) → L2 (step ps p) a ≡ option_or (L2 ps a) (cond (eqA a (f p)) (cond (is_some (M2 ps (g p))) None (Some (g p))) None))
      → ((ps : List Pair) (p : Pair) (b : B) → M2 (step ps p) b ≡ option_or (M2 ps b) (cond (eqB b (g p)) (cond (is_some (L2 ps (f p))) None (Some (f p))) None))
      → (ps qs : List Pair) (a : A) → Apart f g eqA eqB qs → L2 (fold step ps qs) a ≡ option_or (L2 ps a) (unless (λ b. is_some (M2 ps b)) (L2 qs a))
  all_under step one other ps [] a h = sym (or-none (L2 ps a))
  all_under step one other ps (q ∷ qs) a h =
      all_under step one other (step ps q) qs a h.2
      ∙ ap (λ o. option_or o (unless (λ b. is_some (M2 (step ps q) b)) (L2 qs a))) (one ps q a)
      ∙ by (L2 ps a) (eqA a (f q)) (none_at qs q a h.0) (L2 qs a) refl
    where
      kept : (b : B) → L2 qs a ≡ Some b → is_some (M2 (step ps q) b) ≡ is_some (M2 ps b)
      kept b e = ap is_some (other ps q b) ∙ at (M2 ps b) (eqB b (g q)) (λ same. ap (λ x. list_any (λ r. eqB x (g r)) qs) ((dB b (g q)).0 same))
        where
          at : (o : Option A) (c : Bool) → (c ≡ true → list_any (λ r. eqB b (g r)) qs ≡ list_any (λ r. eqB (g q) (g r)) qs) → is_some (option_or o (cond c (cond (is_some (L2 ps (f q))) None (Some (f q))) None)) ≡ is_some o
          at (Some x) c same = refl
          at None true same = absurd (false≢true (sym h.1 ∙ sym (same refl) ∙ found_other f g eqA eqB dA dB qs a b e))
          at None false same = refl

      rest : (o : Option B) → L2 qs a ≡ o → unless (λ b. is_some (M2 (step ps q) b)) o ≡ unless (λ b. is_some (M2 ps b)) o
      rest None e = refl
      rest (Some b) e = ap (λ t. cond t None (Some b)) (kept b e)

      by : (x : Option B) (c : Bool) → (c ≡ true → L2 qs a ≡ None) → (o : Option B) → L2 qs a ≡ o
          → option_or (option_or x (cond c (cond (is_some (M2 ps (g q))) None (Some (g q))) None)) (unless (λ b. is_some (M2 (step ps q) b)) o) ≡ option_or x (unless (λ b. is_some (M2 ps b)) (cond c (Some (g q)) o))
      by (Some x) c gone o e = refl
      by None true gone None e = or-none (cond (is_some (M2 ps (g q))) None (Some (g q)))
      by None true gone (Some b) e = some_not_none (L2 qs a) b (option_or (cond (is_some (M2 ps (g q))) None (Some (g q))) (unless (λ b. is_some (M2 (step ps q) b)) (Some b)) ≡ unless (λ b. is_some (M2 ps b)) (Some (g q))) e (gone refl)
      by None false gone o e = rest o e

  -- what the removal of the pair of a key leaves by the other
  module _ (ps : List Pair) (h : Apart g f eqB eqA ps) (cross : (a : A) (b : B) → L2 ps a ≡ Some b → M2 ps b ≡ Some a) (back : (a : A) (b : B) → M2 ps b ≡ Some a → L2 ps a ≡ Some b) where
    pub gone_some : (a : A) (b d : B) → L2 ps a ≡ Some b → cond (eqB b d) None (M2 ps d) ≡ M2 (filter (λ q. not (eqA a (f q))) ps) d
    gone_some a b d e = by (M2 ps d) refl ∙ sym (look_without_other g f eqB eqA dB dA ps a d h)
      where
        by : (o : Option A) → M2 ps d ≡ o → cond (eqB b d) None o ≡ unless (eqA a) o
        by None at = cond-same (eqB b d) None
        by (Some x) at = ap (λ t. cond t None (Some x)) (bool_same (eqB b d) (eqA a x)
            (λ same. (dA a x).1 (same_Some a x (sym (cross a b e) ∙ ap (M2 ps) ((dB b d).0 same) ∙ at)))
            (λ same. (dB b d).1 (same_Some b d (sym e ∙ ap (L2 ps) ((dA a x).0 same) ∙ back x d at))))

    pub gone_none : (a : A) (d : B) → L2 ps a ≡ None → M2 ps d ≡ M2 (filter (λ q. not (eqA a (f q))) ps) d
    gone_none a d e = by (M2 ps d) refl ∙ sym (look_without_other g f eqB eqA dB dA ps a d h)
      where
        by : (o : Option A) → M2 ps d ≡ o → o ≡ unless (eqA a) o
        by None at = refl
        by (Some x) at = at-some (eqA a x) (dA a x).0
          where
            at-some : (t : Bool) → (t ≡ true → a ≡ x) → Some x ≡ cond t None (Some x)
            at-some true same = some_not_none (L2 ps a) d (Some x ≡ None) (ap (L2 ps) (same refl) ∙ back x d at) e
            at-some false same = refl

    -- a pair that is there already takes its own place
    pub stays : (p : Pair) → L2 ps (f p) ≡ Some (g p) → (a : A) → L2 ps a ≡ cond (eqA a (f p)) (Some (g p)) (unless (eqB (g p)) (L2 ps a))
    stays p there a = by (eqA a (f p)) refl (L2 ps a) refl
      where
        kept : (c : Bool) (b : B) → (c ≡ true → ⊥) → Some b ≡ cond c None (Some b)
        kept true b other = absurd (other refl)
        kept false b other = refl

        by : (c : Bool) → eqA a (f p) ≡ c → (o : Option B) → L2 ps a ≡ o → o ≡ cond c (Some (g p)) (unless (eqB (g p)) o)
        by true e o at = sym at ∙ ap (L2 ps) ((dA a (f p)).0 e) ∙ there
        by false e None at = refl
        by false e (Some b) at = kept (eqB (g p) b) b (λ same. false≢true (sym e ∙ (dA a (f p)).1 (same_Some a (f p) (sym (cross a b at) ∙ ap (M2 ps) (sym ((dB (g p) b).0 same)) ∙ cross (f p) (g p) there))))
