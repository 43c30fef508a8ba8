-- Pairs as the entries of maps.
use Rattle.std.proofs.Common.{◌≡◌, ℕ, Bool, true, false, cond, List, [], ◌∷◌, Option, None, Some, Decides, refl, sym, ap, ◌∙◌, nat_eq}
use Rattle.std.proofs.lemmas.Bool.{false≢true}
use Rattle.std.proofs.lemmas.Slice.Eq.{bytes_eq-Decides}
use Rattle.std.specs.Cmp.{unsigned_Decides}
use Rattle.std.specs.Map.{lookup, KeepsOthers}
use Rattle.std.specs.Str.{bytes_eq}
use Rattle.indexmap.specs.IndexMap.{insert_entry}
use Rattle.kx_codes.proofs.Matching.{bool_same}
use Rattle.kx_codes.specs.Codes.{named, coded}
use Rattle.kx_codes.specs.Pairs.{code_in, name_in}

pub code_named : {K : Type 0} (f : K → List ℕ) (es : List (K × ℕ)) (name : List ℕ) → code_in (named f es) name ≡ lookup (λ k. bytes_eq name (f k)) es
code_named f [] name = refl
code_named f (e ∷ es) name = ap (cond (bytes_eq name (f e.0)) (Some e.1)) (code_named f es name)

pub name_coded : (es : List (ℕ × List ℕ)) (code : ℕ) → name_in (coded es) code ≡ lookup (nat_eq code) es
name_coded [] code = refl
name_coded (e ∷ es) code = ap (cond (nat_eq code e.0) (Some e.1)) (name_coded es code)

pub flip : {N : Type 0} (eq : N → N → Bool) → ((x y : N) → Decides (eq x y) (x ≡ y)) → (x y : N) → eq x y ≡ eq y x
flip eq d x y = bool_same (eq x y) (eq y x) (λ h. (d y x).1 (sym ((d x y).0 h))) (λ h. (d x y).1 (sym ((d y x).0 h)))

module _ {K V N : Type 0} (f : K → N) (eq : N → N → Bool) (d : (x y : N) → Decides (eq x y) (x ≡ y)) where
  look-cond : (test : K → Bool) (t : Bool) (k : K) (a v : V) (es fs : List (K × V)) → lookup test (cond t ((k, v) ∷ es) ((k, a) ∷ fs)) ≡ cond t (cond (test k) (Some v) (lookup test es)) (cond (test k) (Some a) (lookup test fs))
  look-cond test true k a v es fs = refl
  look-cond test false k a v es fs = refl

  pub put_look : (es : List (K × V)) (k : K) (v : V) (n : N) → lookup (λ j. eq n (f j)) (insert_entry (λ i j. eq (f i) (f j)) es k v) ≡ cond (eq (f k) n) (Some v) (lookup (λ j. eq n (f j)) es)
  put_look [] k v n = ap (λ b. cond b (Some v) None) (flip eq d n (f k))
  put_look (e ∷ es) k v n =
      look-cond (λ j. eq n (f j)) (eq (f k) (f e.0)) e.0 e.1 v es (insert_entry (λ i j. eq (f i) (f j)) es k v)
      ∙ by (eq (f k) (f e.0)) (eq n (f e.0)) (eq (f k) n) (λ x y. (d (f k) n).1 ((d (f k) (f e.0)).0 x ∙ sym ((d n (f e.0)).0 y))) (λ x y. (d (f k) (f e.0)).1 ((d (f k) n).0 x ∙ (d n (f e.0)).0 y)) (λ x y. (d n (f e.0)).1 (sym ((d (f k) n).0 y) ∙ (d (f k) (f e.0)).0 x))
      (lookup (λ j. eq n (f j)) (insert_entry (λ i j. eq (f i) (f j)) es k v)) (put_look es k v n)
    where
      by : (ke ne kn : Bool) → (ke ≡ true → ne ≡ true → kn ≡ true) → (kn ≡ true → ne ≡ true → ke ≡ true) → (ke ≡ true → kn ≡ true → ne ≡ true) → (o : Option V) → o ≡ cond kn (Some v) (lookup (λ j. eq n (f j)) es)
          → cond ke (cond ne (Some v) (lookup (λ j. eq n (f j)) es)) (cond ne (Some e.1) o) ≡ cond kn (Some v) (cond ne (Some e.1) (lookup (λ j. eq n (f j)) es))
      by true true true p q r o is = refl
      by true true false p q r o is = absurd (false≢true (p refl refl))
      by true false true p q r o is = absurd (false≢true (r refl refl))
      by true false false p q r o is = refl
      by false true true p q r o is = absurd (false≢true (q refl refl))
      by false true false p q r o is = refl
      by false false kn p q r o is = is

  pub removed_look : (es new : List (K × V)) (k : N) → lookup (λ j. eq k (f j)) new ≡ None → KeepsOthers (λ i j. eq (f i) (f j)) (λ j. eq k (f j)) es new → (n : N) → lookup (λ j. eq n (f j)) new ≡ cond (eq k n) None (lookup (λ j. eq n (f j)) es)
  unfolding KeepsOthers
  removed_look es new k gone keeps n = by (eq k n) refl (λ same. ap (λ x. lookup (λ j. eq x (f j)) new) (sym ((d k n).0 same)) ∙ gone)
    where
      not-other : (b : Bool) → (b ≡ true → eq k n ≡ true) → eq k n ≡ false → b ≡ false
      not-other true h e = absurd (false≢true (sym e ∙ h refl))
      not-other false h e = refl

      by : (b : Bool) → eq k n ≡ b → (eq k n ≡ true → lookup (λ j. eq n (f j)) new ≡ None) → lookup (λ j. eq n (f j)) new ≡ cond b None (lookup (λ j. eq n (f j)) es)
      by true e same = same e
      by false e same = keeps (λ j. eq n (f j))
          (λ x y h. ap (λ m. eq m (f y)) ((d n (f x)).0 h))
          (λ j h. not-other (eq n (f j)) (λ h2. (d k n).1 ((d k (f j)).0 h ∙ sym ((d n (f j)).0 h2))) e)

-- what the maps of pairs show after a change
pub named_put : {K : Type 0} (f : K → List ℕ) (es new : List (K × ℕ)) (k : K) (v : ℕ) → new ≡ insert_entry (λ i j. bytes_eq (f i) (f j)) es k v → (name : List ℕ) → code_in (named f new) name ≡ cond (bytes_eq (f k) name) (Some v) (code_in (named f es) name)
named_put f es new k v e name = code_named f new name ∙ ap (lookup (λ j. bytes_eq name (f j))) e ∙ put_look f bytes_eq bytes_eq-Decides es k v name ∙ sym (ap (cond (bytes_eq (f k) name) (Some v)) (code_named f es name))

pub coded_put : (es new : List (ℕ × List ℕ)) (k : ℕ) (v : List ℕ) → new ≡ insert_entry nat_eq es k v → (code : ℕ) → name_in (coded new) code ≡ cond (nat_eq k code) (Some v) (name_in (coded es) code)
coded_put es new k v e code = name_coded new code ∙ ap (lookup (nat_eq code)) e ∙ put_look (λ j. j) nat_eq unsigned_Decides es k v code ∙ sym (ap (cond (nat_eq k code) (Some v)) (name_coded es code))

pub named_removed : {K : Type 0} (f : K → List ℕ) (es new : List (K × ℕ)) (k : List ℕ) → lookup (λ j. bytes_eq k (f j)) new ≡ None → KeepsOthers (λ i j. bytes_eq (f i) (f j)) (λ j. bytes_eq k (f j)) es new → (name : List ℕ) → code_in (named f new) name ≡ cond (bytes_eq k name) None (code_in (named f es) name)
named_removed f es new k gone keeps name = code_named f new name ∙ removed_look f bytes_eq bytes_eq-Decides es new k gone keeps name ∙ sym (ap (cond (bytes_eq k name) None) (code_named f es name))
