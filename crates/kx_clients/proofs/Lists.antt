-- Lists that grow by one at their end.
use Rattle.std.proofs.Common.{◌≡◌, ◌<◌, ◌≤◌, ◌+◌, ◌++◌, ◌∷◌, [], ℕ, zero, suc, ◌⊎◌, inl, inr, Bool, false, List, None, Some, ap, arith, drop, get_or, length, refl, slice_get, sym, take, ◌∙◌}
use Rattle.std.specs.Option.{option_map_or}
use Rattle.std.proofs.Math.Path.{fun_ext}
use Rattle.std.proofs.Math.Seq.{get_or-append_seam}
use Rattle.std.proofs.lemmas.List.{get_or_append_left, get_or_past, map-append, take_more}
use Rattle.std.proofs.lemmas.Option.{get_or_from_slice_get}
use Rattle.kx_mods.specs.Mods.{mask}
use Rattle.kx_virtual_mods.specs.Sets.{has}
use Rattle.kx_virtual_mods.specs.Standing.{stands_for}
use Rattle.kx_clients.specs.VirtualModifiers.{mods_among, names_among, stands_among}
use Rattle.kx_clients.specs.declared.virtual_modifier.VirtualModifier.{VirtualModifier}
use borrow.Author.Count.{below_more}

-- what stands in front is found where it stood, and the last after it
at_front : {X : Type 0} (xs ys : List X) (k : ℕ) → k < length xs → slice_get (xs ++ ys) k ≡ slice_get xs k
at_front [] ys k less = absurd (omega (arith, less))
at_front (x ∷ xs) ys zero less = refl
at_front (x ∷ xs) ys (suc k) less = at_front xs ys k (omega (arith, less))

at_end : {X : Type 0} (xs : List X) (x : X) → slice_get (xs ++ x ∷ []) (length xs) ≡ Some x
at_end [] x = refl
at_end (y ∷ ys) x = at_end ys x

-- what stands within a list is there
pub is_within : {X : Type 0} (xs : List X) (k : ℕ) → k < length xs → None ≡ slice_get xs k → ⊥
is_within [] k less none = absurd (omega (arith, less))
is_within (x ∷ xs) zero less none = absurd (cc)
is_within (x ∷ xs) (suc k) less none = is_within xs k (omega (arith, less)) none

pub names_more : (all : List VirtualModifier) (names : List (List ℕ)) (n : ℕ) (m : VirtualModifier) → n < length names → names_among all ≡ take n names → Some m.name ≡ slice_get names n → names_among (all ++ m ∷ []) ≡ take (n + 1) names
names_more all names n m within were is =
    map-append (λ (v : VirtualModifier). v.name) all (m ∷ [])
    ∙ ap (λ xs. xs ++ m.name ∷ []) were
    ∙ ap (λ x. take n names ++ x ∷ []) (sym (get_or_from_slice_get names n m.name m.name (sym is)))
    ∙ sym (take_more names n m.name within)

pub mods_more : (all : List VirtualModifier) (stands : ℕ → ℕ → Bool) (n : ℕ) (m : VirtualModifier) → length all ≡ n → ((k real : ℕ) → k < n → mods_among all k real ≡ stands k real) → ((real : ℕ) → has (mask m.mods) real ≡ stands n real)
    → (k real : ℕ) → k < n + 1 → mods_among (all ++ m ∷ []) k real ≡ stands k real
mods_more all stands n m count were is = λ k real less.
    below_more (λ j. mods_among (all ++ m ∷ []) j real ≡ stands j real) n
    (λ j below. ap (λ o. has (option_map_or (λ (v : VirtualModifier). mask v.mods) o 0) real) (at_front all (m ∷ []) j (omega (arith, below, count))) ∙ were j real below)
    (ap (λ j. has (option_map_or (λ (v : VirtualModifier). mask v.mods) (slice_get (all ++ m ∷ []) j) 0) real) (sym count) ∙ ap (λ o. has (option_map_or (λ (v : VirtualModifier). mask v.mods) o 0) real) (at_end all m) ∙ is real)
    k less

-- what they stand for is the same as a list
stands_at : (modifiers : List VirtualModifier) (number : ℕ) → stands_for (stands_among modifiers) number ≡ mods_among modifiers number
stands_at [] number = refl
stands_at (m ∷ modifiers) zero = refl
stands_at (m ∷ modifiers) (suc number) = stands_at modifiers number

pub stands_all : (modifiers : List VirtualModifier) → stands_for (stands_among modifiers) ≡ mods_among modifiers
stands_all modifiers = fun_ext (stands_at modifiers)

-- nothing is left after the end
pub none_left : {X : Type 0} (xs : List X) (k : ℕ) → length xs ≤ k → drop k xs ≡ []
none_left [] zero past = refl
none_left [] (suc k) past = refl
none_left (x ∷ xs) zero past = absurd (omega (arith, past))
none_left (x ∷ xs) (suc k) past = none_left xs k (omega (arith, past))

-- ---- Truth values by number

side : (k n : ℕ) → (k < n) ⊎ (n ≤ k)
side k zero = inr (omega arith)
side zero (suc n) = inl (omega arith)
side (suc k) (suc n) = elim (side k n) [ inl less ↦ inl (omega (arith, less)) | inr past ↦ inr (omega (arith, past)) ]

pub truths_more : (all : List Bool) (f : ℕ → Bool) (n : ℕ) (b : Bool) → length all ≡ n → ((k : ℕ) → k < n → get_or all k false ≡ f k) → b ≡ f n → (k : ℕ) → k < n + 1 → get_or (all ++ b ∷ []) k false ≡ f k
truths_more all f n b count were is = λ k less.
    below_more (λ j. get_or (all ++ b ∷ []) j false ≡ f j) n
    (λ j below. get_or_append_left all (b ∷ []) false j (omega (arith, below, count)) ∙ were j below)
    (ap (λ j. get_or (all ++ b ∷ []) j false) (sym count) ∙ get_or-append_seam all b [] false ∙ is)
    k less

-- those after the end of the list are false
pub truths_all : (all : List Bool) (f : ℕ → Bool) (n bound : ℕ) → length all ≡ n → ((k : ℕ) → k < n → get_or all k false ≡ f k) → ((k : ℕ) → n ≤ k → k < bound → f k ≡ false) → (k : ℕ) → k < bound → get_or all k false ≡ f k
truths_all all f n bound count were rest k less =
    elim (side k n) [
      | inl below ↦ were k below
      | inr past ↦ get_or_past all k false (omega (arith, count, past)) ∙ sym (rest k past less)
    ]
