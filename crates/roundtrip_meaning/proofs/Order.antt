-- Keys in the order of their codes, and types in the order of first use.
use Rattle.std.proofs.Common.{◌≡◌, ◌≢◌, ℕ, zero, suc, ◌<◌, ◌≤◌, max, nat_lt, Bool, true, false, cond, ◌==◌, ◌||◌, List, [], ◌∷◌, ◌++◌, map, fold, refl, sym, ap, ap₂, ◌∙◌, arith, append_assoc}
use Rattle.std.proofs.lemmas.Bool.{lt-ltb, le-ltb, ltb-true, ltb-false, ne_eqb, eqb-false, eqb-true, false_from_ne_true}
use Rattle.std.proofs.lemmas.List.Folds.{list_any-append}
use Rattle.std.proofs.lemmas.Slice.Eq.{bytes_eq-Decides}
use mathlib.Core.Bool.{or-false, or-true}
use Rattle.std.specs.List.{flat_map, list_any}
use Rattle.std.specs.Str.{bytes_eq}
use Rattle.kx_merge.specs.Offers.{with_name}

at_or_above : (c n : ℕ) → n ≤ c → (c == n) ≡ nat_lt c (suc n)
at_or_above c n above = by (c == n) refl
  where
    by : (t : Bool) → (c == n) ≡ t → (c == n) ≡ nat_lt c (suc n)
    by true e = let same : c ≡ n = eqb-true c n e in e ∙ sym (lt-ltb c (suc n) (omega arith))
    by false e = let other : c ≢ n = eqb-false c n e in e ∙ sym (le-ltb c (suc n) (omega (arith, other)))

-- ---- Codes

module _ {A B : Type 0} (code : A → ℕ) (g : A → List B) where
  abbrev pub Rising : ℕ → List A → Type 0
  Rising low [] = Unit {0}
  Rising low (x ∷ xs) = (low ≤ code x) × Rising (suc (code x)) xs

  abbrev pub at_code : ℕ → A → List B
  at_code n x = cond (code x == n) (g x) []

  abbrev under : ℕ → A → List B
  under n x = cond (nat_lt (code x) n) (g x) []

  none_under : (n low : ℕ) (xs : List A) → n ≤ low → Rising low xs → flat_map (under n) xs ≡ []
  none_under n low [] above rising = refl
  none_under n low (x ∷ xs) above rising = ap₂ (λ t ys. cond t (g x) [] ++ ys) (le-ltb (code x) n (let h = rising.0 in omega (arith, h))) (none_under n (suc (code x)) xs (let h = rising.0 in omega (arith, h)) rising.1)

  one_more : (n low : ℕ) (xs : List A) → Rising low xs → flat_map (under n) xs ++ flat_map (at_code n) xs ≡ flat_map (under (suc n)) xs
  one_more n low [] rising = refl
  one_more n low (x ∷ xs) rising = by (nat_lt (code x) n) refl (one_more n (suc (code x)) xs rising.1)
    where
      by : (t : Bool) → nat_lt (code x) n ≡ t → flat_map (under n) xs ++ flat_map (at_code n) xs ≡ flat_map (under (suc n)) xs
          → (cond t (g x) [] ++ flat_map (under n) xs) ++ (at_code n x ++ flat_map (at_code n) xs) ≡ under (suc n) x ++ flat_map (under (suc n)) xs
      by true less rest =
          let l : code x < n = ltb-true (code x) n less in
          ap (λ t. (g x ++ flat_map (under n) xs) ++ (cond t (g x) [] ++ flat_map (at_code n) xs)) (ne_eqb (code x) n (λ e. omega arith))
          ∙ append_assoc (g x) (flat_map (under n) xs) (flat_map (at_code n) xs)
          ∙ ap₂ (λ t ys. cond t (g x) [] ++ ys) (sym (lt-ltb (code x) (suc n) (omega arith))) rest
      by false not_less rest =
          let l : n ≤ code x = ltb-false (code x) n not_less in
          ap (λ ys. ys ++ (at_code n x ++ flat_map (at_code n) xs)) (none_under n (suc (code x)) xs (omega arith) rising.1)
          ∙ ap₂ (λ t ys. cond t (g x) [] ++ ys) (at_or_above (code x) n l) (ap (λ ys. ys ++ flat_map (at_code n) xs) (sym (none_under n (suc (code x)) xs (omega arith) rising.1)) ∙ rest)

  abbrev pub below : (ℕ → List B) → ℕ → List B
  below f zero = []
  below f (suc n) = below f n ++ f n

  -- what codes give in turn is what the things that rise by code give in turn
  pub all_below : (f : ℕ → List B) (xs : List A) (n : ℕ) → Rising 0 xs → ((m : ℕ) → f m ≡ flat_map (at_code m) xs) → below f n ≡ flat_map (under n) xs
  all_below f xs zero rising each = sym (none_under 0 0 xs (omega arith) rising)
  all_below f xs (suc n) rising each = ap₂ (λ a b. a ++ b) (all_below f xs n rising each) (each n) ∙ one_more n 0 xs rising

-- ---- Types

module _ (name : ℕ → List ℕ) where
  abbrev pub first_names : ℕ → List (List ℕ)
  first_names zero = []
  first_names (suc n) = first_names n ++ name n ∷ []

  -- each is one of those before it or the next
  abbrev pub FirstUse : ℕ → List ℕ → Type 0
  FirstUse n [] = Unit {0}
  FirstUse n (g ∷ gs) = (g ≤ n) × FirstUse (max n (suc g)) gs

  abbrev pub used : ℕ → List ℕ → ℕ
  used n [] = n
  used n (g ∷ gs) = used (max n (suc g)) gs

  abbrev pub AreApart : ℕ → Type 0
  AreApart most = (i j : ℕ) → i < most → j < most → name i ≡ name j → i ≡ j

  here : (n : ℕ) (p : List ℕ → Bool) → list_any p (first_names (suc n)) ≡ (list_any p (first_names n) || p (name n))
  here n p = list_any-append p (first_names n) (name n ∷ []) ∙ ap (λ t. list_any p (first_names n) || t) (or-false (p (name n)))

  named_before : (n g : ℕ) → g < n → list_any (bytes_eq (name g)) (first_names n) ≡ true
  named_before zero g less = absurd (omega arith)
  named_before (suc n) g less = here n (bytes_eq (name g)) ∙ by (g == n) refl (λ l. named_before n g l)
    where
      by : (t : Bool) → (g == n) ≡ t → (g < n → list_any (bytes_eq (name g)) (first_names n) ≡ true) → (list_any (bytes_eq (name g)) (first_names n) || bytes_eq (name g) (name n)) ≡ true
      by true e rest = ap (λ t. list_any (bytes_eq (name g)) (first_names n) || t) ((bytes_eq-Decides (name g) (name n)).1 (ap name (eqb-true g n e))) ∙ or-true (list_any (bytes_eq (name g)) (first_names n))
      by false e rest = ap (λ t. t || bytes_eq (name g) (name n)) (rest (let other : g ≢ n = eqb-false g n e in omega (arith, other)))

  not_named : (most n g : ℕ) → AreApart most → n ≤ g → g < most → list_any (bytes_eq (name g)) (first_names n) ≡ false
  not_named most zero g apart above within = refl
  not_named most (suc n) g apart above within =
      here n (bytes_eq (name g))
      ∙ ap₂ (λ a b. a || b) (not_named most n g apart (omega arith) within)
      (false_from_ne_true (bytes_eq (name g) (name n)) (λ e. (let same : g ≡ n = apart g n within (omega arith) ((bytes_eq-Decides (name g) (name n)).0 e) in omega arith)))

  used_grows : (n : ℕ) (gs : List ℕ) → n ≤ used n gs
  used_grows n [] = omega arith
  used_grows n (g ∷ gs) = let rest = used_grows (max n (suc g)) gs in omega (arith, rest)

  pub first_used : (most n : ℕ) (gs : List ℕ) → AreApart most → FirstUse n gs → used n gs ≤ most → fold (with_name bytes_eq) (first_names n) (map name gs) ≡ first_names (used n gs)
  first_used most n [] apart first within = refl
  first_used most n (g ∷ gs) apart first within =
      ap (λ ks. fold (with_name bytes_eq) ks (map name gs)) (by (nat_lt g n) refl) ∙ first_used most (max n (suc g)) gs apart first.1 within
    where
      grown : max n (suc g) ≤ used (max n (suc g)) gs
      grown = used_grows (max n (suc g)) gs

      by : (t : Bool) → nat_lt g n ≡ t → with_name bytes_eq (first_names n) (name g) ≡ first_names (max n (suc g))
      by true less =
          let l : g < n = ltb-true g n less in
          let same : n ≡ max n (suc g) = omega (arith, l) in
          ap (λ t. cond t (first_names n) (first_names n ++ name g ∷ [])) (named_before n g l) ∙ ap first_names same
      by false above =
          let l : n ≤ g = ltb-false g n above in
          let next : g ≡ n = (let h = first.0 in omega (arith, h, l)) in
          let size : suc n ≡ max n (suc g) = omega (arith, next) in
          ap (λ t. cond t (first_names n) (first_names n ++ name g ∷ [])) (not_named most n g apart l (let h = within in omega (arith, grown, h)))
          ∙ ap (λ k. first_names n ++ name k ∷ []) next ∙ ap first_names size
