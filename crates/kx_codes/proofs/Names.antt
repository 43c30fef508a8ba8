-- Names that are given numbers.
use Rattle.std.proofs.Common.{◌≡◌, ℕ, zero, suc, Bool, true, false, cond, List, [], ◌∷◌, ◌++◌, All, Option, None, Some, IfSome, is_some, length, arith, refl, sym, ap, ◌∙◌, subst}
use Rattle.std.proofs.lemmas.Bool.{false≢true}
use Rattle.std.proofs.lemmas.List.Elements.{All-push}
use Rattle.std.proofs.lemmas.Map.Keys.{IsDistinct-head, IsDistinct-tail}
use Rattle.std.proofs.lemmas.Slice.Eq.{bytes_eq-Decides}
use Rattle.std.proofs.lemmas.Option.{same_Some}
use Rattle.std.specs.List.{AllByRecursion, IsDistinct, position, slice_get}
use Rattle.std.specs.Map.{keys_of}
use Rattle.std.specs.Option.{option_map}
use Rattle.std.specs.Str.{bytes_eq}
use Rattle.indexmap.specs.IndexMap.{IndexMap, insert_entry}
use Rattle.kx_codes.specs.Numbers.{Grows, IsOnce}
use Rattle.kx_ordered.specs.KeyPlaces.{place_in}
use Rattle.kx_ordered.proofs.KeyPlaces.{insert_absent, place_is}

other-name : (k : List ℕ) (ks : List (List ℕ)) → AllByRecursion (λ y. bytes_eq k y ≡ false) ks → (m : ℕ) (name : List ℕ) → slice_get ks m ≡ Some name → bytes_eq k name ≡ false
other-name k [] none m name h = absurd (false≢true (ap is_some h))
other-name k (y ∷ ys) none zero name h = ap (bytes_eq k) (sym (same_Some y name h)) ∙ none.0
other-name k (y ∷ ys) none (suc m) name h = other-name k ys none.1 m name h

never : (k : List ℕ) (ks : List (List ℕ)) → AllByRecursion (λ y. bytes_eq k y ≡ false) ks → (m : ℕ) (name : List ℕ) → Some k ≡ Some name → slice_get ks m ≡ Some name → ⊥
never k ks none m name h g = false≢true (sym (other-name k ks none m name g) ∙ (bytes_eq-Decides k name).1 (same_Some k name h))

pub distinct_once : (ks : List (List ℕ)) → IsDistinct bytes_eq ks → IsOnce ks
distinct_once [] u n m name h g = absurd (false≢true (ap is_some h))
distinct_once (k ∷ ks) u zero zero name h g = refl
distinct_once (k ∷ ks) u zero (suc m) name h g = absurd (never k ks (IsDistinct-head bytes_eq k ks u) m name h g)
distinct_once (k ∷ ks) u (suc n) zero name h g = absurd (never k ks (IsDistinct-head bytes_eq k ks u) n name g h)
distinct_once (k ∷ ks) u (suc n) (suc m) name h g = ap suc (distinct_once ks (IsDistinct-tail bytes_eq k ks u) n m name h g)

kept-before : (ks : List (List ℕ)) (k : List ℕ) (n : ℕ) (name : List ℕ) → slice_get ks n ≡ Some name → slice_get (ks ++ k ∷ []) n ≡ Some name
kept-before [] k n name h = absurd (false≢true (ap is_some h))
kept-before (j ∷ ks) k zero name h = h
kept-before (j ∷ ks) k (suc n) name h = kept-before ks k n name h

-- nothing is added
pub names_stay : (ks : List (List ℕ)) → IsDistinct bytes_eq ks → Grows ks ks
names_stay ks u = record { once = distinct_once ks u; kept = λ n name h. h }

module _ {V : Type 0} where
  keys-pushed : (es : List (List ℕ × V)) (e : List ℕ × V) → keys_of (es ++ e ∷ []) ≡ keys_of es ++ e.0 ∷ []
  keys-pushed [] e = refl
  keys-pushed (x ∷ xs) e = ap (λ ks. x.0 ∷ ks) (keys-pushed xs e)

  -- the name at the place of a name
  stored : (name : List ℕ) (es : List (List ℕ × V)) (i : ℕ) → place_in (bytes_eq name) es ≡ Some i → slice_get (keys_of es) i ≡ Some name
  stored name [] i h = absurd (false≢true (ap is_some h))
  stored name (e ∷ es) i h = by (bytes_eq name e.0) (place_in (bytes_eq name) es) i (λ b. (bytes_eq-Decides name e.0).0 b) (stored name es) h
    where
      by : (b : Bool) (o : Option ℕ) (i : ℕ) → (b ≡ true → name ≡ e.0) → ((i : ℕ) → o ≡ Some i → slice_get (keys_of es) i ≡ Some name) → cond b (Some 0) (option_map suc o) ≡ Some i → slice_get (e.0 ∷ keys_of es) i ≡ Some name
      by true o i same rest h = ap (slice_get (e.0 ∷ keys_of es)) (sym (same_Some 0 i h)) ∙ ap Some (sym (same refl))
      by false None i same rest h = absurd (false≢true (ap is_some h))
      by false (Some j) i same rest h = ap (slice_get (e.0 ∷ keys_of es)) (sym (same_Some (suc j) i h)) ∙ rest j refl

  pub names_stored : (key name : List ℕ) → key ≡ name → (es : List (List ℕ × V)) (i : ℕ) → position (bytes_eq key) (keys_of es) ≡ Some i → slice_get (keys_of es) i ≡ Some name
  names_stored key name same es i h = stored key es i (sym (place_is (bytes_eq key) es) ∙ h) ∙ ap Some same

  at-end : (ks : List (List ℕ)) (es : List (List ℕ × V)) (k : List ℕ) → keys_of es ≡ ks → slice_get (ks ++ k ∷ []) (length es) ≡ Some k
  at-end ks es k same = ap (λ ks. slice_get (ks ++ k ∷ []) (length es)) (sym same) ∙ by es
    where
      by : (es : List (List ℕ × V)) → slice_get (keys_of es ++ k ∷ []) (length es) ≡ Some k
      by [] = refl
      by (e ∷ es) = by es

  -- one name more
  module _ (key name : List ℕ) (same : key ≡ name) (v : V) (es new : List (List ℕ × V)) (none : position (bytes_eq key) (keys_of es) ≡ None) where
    pub names_pushed : new ≡ insert_entry bytes_eq es key v → keys_of new ≡ keys_of es ++ name ∷ []
    names_pushed is = ap keys_of (is ∙ sym (insert_absent bytes_eq key v es (sym (place_is (bytes_eq key) es) ∙ none))) ∙ keys-pushed es (key, v) ∙ ap (λ k. keys_of es ++ k ∷ []) same

    pub names_grow : new ≡ insert_entry bytes_eq es key v → IsDistinct bytes_eq (keys_of new) → Grows (keys_of es) (keys_of new)
    names_grow is u = record {
      once = distinct_once (keys_of new) u;
      kept = λ n other h. subst (λ ks. slice_get ks n ≡ Some other) (sym (names_pushed is)) (kept-before (keys_of es) name n other h);
    }

    pub names_last : new ≡ insert_entry bytes_eq es key v → slice_get (keys_of new) (length es) ≡ Some name
    names_last is = ap (λ ks. slice_get ks (length es)) (names_pushed is) ∙ at-end (keys_of es) es name refl

    pub names_valid : (P : List ℕ → Type 0) → new ≡ insert_entry bytes_eq es key v → All P (keys_of es) → P name → All P (keys_of new)
    names_valid P is all one = subst (All P) (sym (names_pushed is)) (All-push P (keys_of es) name all one)

-- a name that is put where it is not there yet
module _ {V : Type 0} (key name : List ℕ) (same : key ≡ name) (v : V) (old new : IndexMap (List ℕ) V ℕ) (found : Option (ℕ × V)) (at : option_map (λ f. f.0) found ≡ position (bytes_eq key) (keys_of old.entries)) (back : IfSome found (λ f. (f.1 ≡ v) × (new ≡ old))) (pushed : found ≡ None → new.entries ≡ insert_entry bytes_eq old.entries key v) where
  pub names_put_grow : IsDistinct bytes_eq (keys_of new.entries) → Grows (keys_of old.entries) (keys_of new.entries)
  names_put_grow u = by found at back pushed
    where
      by : (found : Option (ℕ × V)) → option_map (λ f. f.0) found ≡ position (bytes_eq key) (keys_of old.entries) → IfSome found (λ f. (f.1 ≡ v) × (new ≡ old)) → (found ≡ None → new.entries ≡ insert_entry bytes_eq old.entries key v) → Grows (keys_of old.entries) (keys_of new.entries)
      by None at back pushed = names_grow key name same v old.entries new.entries (sym at) (pushed refl) u
      by (Some f) at back pushed = subst (λ m. Grows (keys_of m.entries) (keys_of new.entries)) back.1 (names_stay (keys_of new.entries) u)

  pub names_put_valid : (P : List ℕ → Type 0) → All P (keys_of old.entries) → P name → All P (keys_of new.entries)
  names_put_valid P all one = by found at back pushed
    where
      by : (found : Option (ℕ × V)) → option_map (λ f. f.0) found ≡ position (bytes_eq key) (keys_of old.entries) → IfSome found (λ f. (f.1 ≡ v) × (new ≡ old)) → (found ≡ None → new.entries ≡ insert_entry bytes_eq old.entries key v) → All P (keys_of new.entries)
      by None at back pushed = names_valid key name same v old.entries new.entries (sym at) P (pushed refl) all one
      by (Some f) at back pushed = subst (λ m. All P (keys_of m.entries)) (sym back.1) all

  pub names_put_there : (n : ℕ) (w : V) → found ≡ Some (n, w) → slice_get (keys_of new.entries) n ≡ Some name
  names_put_there n w is =
      let kept : IfSome {T = ℕ × V} (Some (n, w)) (λ f. (f.1 ≡ v) × (new ≡ old)) = subst (λ found. IfSome found (λ f. (f.1 ≡ v) × (new ≡ old))) is back in
      subst (λ m. slice_get (keys_of m.entries) n ≡ Some name) (sym kept.1) (names_stored key name same old.entries n (sym at ∙ ap (option_map (λ f. f.0)) is))

  pub names_put_last : found ≡ None → slice_get (keys_of new.entries) (length old.entries) ≡ Some name
  names_put_last is = names_last key name same v old.entries new.entries (sym at ∙ ap (option_map (λ f. f.0)) is) (pushed is)

-- what holds of each name holds of one at a place
pub valid_at : {V : Type 0} (P : List ℕ → Type 0) (es : List (List ℕ × V)) (n : ℕ) (e : List ℕ × V) → All P (keys_of es) → slice_get es n ≡ Some e → P e.0
valid_at P [] n e all h = absurd (false≢true (ap is_some h))
valid_at P (x ∷ xs) zero e all h = subst (λ y. P y.0) (same_Some x e h) (all 0 x.0 (omega arith))
valid_at P (x ∷ xs) (suc n) e all h = valid_at P xs n e (λ k d l. all (suc k) d (omega (arith, l))) h
