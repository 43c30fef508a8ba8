-- Names as the keys of a set.
use Rattle.std.proofs.Common.{◌≡◌, ℕ, zero, suc, slice_get, Bool, true, false, true≢false, cond, ◌||◌, List, [], ◌∷◌, ◌++◌, length, is_some, refl, sym, ap, ◌∙◌, Option, Some, None}
use Rattle.std.proofs.lemmas.Slice.Eq.{bytes_eq-Decides}
use Rattle.std.specs.List.{list_any, position}
use Rattle.std.specs.Str.{bytes_eq}
use Rattle.std.specs.Map.{keys_of}
use Rattle.std.specs.Option.{option_map, option_or}
use Rattle.kx_ordered.proofs.KeyPlaces.{place_is, place_more}
use Rattle.kx_ordered.specs.KeyPlaces.{place_in}
use Rattle.indexmap.specs.IndexMap.{insert_entry}
use Rattle.indexmap.specs.IndexSet.{insert_key}
use Rattle.kx_merge.specs.Offers.{with_name}

-- the keys once one is put
pub keys_put : {K V : Type 0} (eq : K → K → Bool) (es : List (K × V)) (k : K) (v : V) → keys_of (insert_entry eq es k v) ≡ insert_key eq (keys_of es) k
keys_put eq [] k v = refl
keys_put {K} eq (e ∷ es) k v = by (eq k e.0) (list_any (eq k) (keys_of es)) (keys_put eq es k v)
  where
    by : (b c : Bool) → keys_of (insert_entry eq es k v) ≡ cond c (keys_of es) (keys_of es ++ k ∷ []) → keys_of (cond b ((e.0, v) ∷ es) (e ∷ insert_entry eq es k v)) ≡ cond (b || c) (e.0 ∷ keys_of es) (e.0 ∷ (keys_of es ++ k ∷ []))
    by true c rest = refl
    by false true rest = ap (λ ks. e.0 ∷ ks) rest
    by false false rest = ap (λ ks. e.0 ∷ ks) rest

-- the key of the entry at a place
pub found_key : {K V : Type 0} (es : List (K × V)) (n : ℕ) → slice_get (keys_of es) n ≡ option_map (λ (e : K × V). e.0) (slice_get es n)
found_key [] n = refl
found_key (e ∷ es) zero = refl
found_key (e ∷ es) (suc n) = found_key es n

-- a key that has a place is there
pub placed_any : {K V : Type 0} (test : K → Bool) (es : List (K × V)) → is_some (place_in test es) ≡ list_any test (keys_of es)
placed_any test [] = refl
placed_any test (e ∷ es) = by (test e.0) (place_in test es) (placed_any test es)
  where
    by : (b : Bool) (o : Option ℕ) → is_some o ≡ list_any test (keys_of es) → is_some (cond b (Some 0) (option_map suc o)) ≡ (b || list_any test (keys_of es))
    by true o there = refl
    by false None there = there
    by false (Some i) there = there

pub add_present : (names new : List (List ℕ)) (name : List ℕ) → list_any (bytes_eq name) names ≡ true → new ≡ names → new ≡ with_name bytes_eq names name
add_present names new name has same = same ∙ sym (ap (λ b. cond b names (names ++ name ∷ [])) has)

keys-pushed : {V : Type 0} (es : List (List ℕ × V)) (e : List ℕ × V) → keys_of (es ++ e ∷ []) ≡ keys_of es ++ e.0 ∷ []
keys-pushed [] e = refl
keys-pushed (x ∷ xs) e = ap (λ ks. x.0 ∷ ks) (keys-pushed xs e)

-- a name that wasn't there is the last
pub named_last : {V : Type 0} (name : List ℕ) (es : List (List ℕ × V)) (v : V) → position (bytes_eq name) (keys_of es) ≡ None → position (bytes_eq name) (with_name bytes_eq (keys_of es) name) ≡ Some (length es)
named_last name es v none = by (list_any (bytes_eq name) (keys_of es)) (sym (placed_any (bytes_eq name) es) ∙ ap is_some unplaced)
  where
    unplaced : place_in (bytes_eq name) es ≡ None
    unplaced = sym (place_is (bytes_eq name) es) ∙ none

    by : (b : Bool) → b ≡ false → position (bytes_eq name) (cond b (keys_of es) (keys_of es ++ name ∷ [])) ≡ Some (length es)
    by true h = absurd (true≢false h)
    by false h =
        ap (position (bytes_eq name)) (sym (keys-pushed es (name, v)))
        ∙ place_is (bytes_eq name) (es ++ (name, v) ∷ [])
        ∙ place_more (bytes_eq name) es (name, v)
        ∙ (λ i. option_or (unplaced i) (cond ((bytes_eq-Decides name name).1 refl i) (Some (length es)) None))
