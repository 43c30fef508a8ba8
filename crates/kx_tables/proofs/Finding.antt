-- The search for a key by its code.
use Rattle.std.proofs.Common.{ℕ, zero, suc, Bool, true, false, List, [], ◌∷◌, ◌≡◌, ◌<◌, ◌≤◌, ◌==◌, None, Some, length, slice_get, refl, arith, eq-eqb, inl, inr}
use Rattle.std.specs.Prelude.{find}
use Rattle.std.proofs.lemmas.Bool.{cases_lt}
use Rattle.std.proofs.lemmas.Bool.Decides.{eqb_tells}
use Rattle.kx_tables.specs.Content.{Content}
use Rattle.kx_tables.specs.Keymap.{key_with}
use Rattle.kx_tables.specs.Sound.{Sound, KeyHolds}
use Rattle.kx_tables.specs.declared.rows.KeyRow.{KeyRow}

-- the first element that passes
pub find_first : {X : Type 0} (p : X → Bool) (xs : List X) (i : ℕ) (x : X) → slice_get xs i ≡ Some x → p x ≡ true → ((j : ℕ) (y : X) → j < i → slice_get xs j ≡ Some y → p y ≡ false) → find p xs ≡ Some x
find_first p [] i x e passes fails = cc
find_first p (y ∷ ys) zero x e passes fails =
    let same : y ≡ x = cc in
    rw same (rw passes)
find_first {X} p (y ∷ ys) (suc i) x e passes fails =
    rw (fails 0 y (omega arith) refl) (find_first p ys i x e passes (λ j z below at. fails (suc j) z (omega arith) at))

pub find_nothing : {X : Type 0} (p : X → Bool) (xs : List X) → ((j : ℕ) (y : X) → slice_get xs j ≡ Some y → p y ≡ false) → find p xs ≡ None
find_nothing p [] fails = refl
find_nothing p (y ∷ ys) fails = rw (fails 0 y refl) (find_nothing p ys (λ j z at. fails (suc j) z at))

-- the keys below low have smaller codes, those from high on greater ones
pub record Narrows (c : Content) (code low high : ℕ) : Type 0 where
  pub in_order : low ≤ high
  pub bound : high ≤ length c.keys
  pub below : (j : ℕ) (k : KeyRow) → j < low → slice_get c.keys j ≡ Some k → k.code < code
  pub above : (j : ℕ) (k : KeyRow) → high ≤ j → slice_get c.keys j ≡ Some k → code < k.code

differs : (a b : ℕ) → (a ≡ b → ⊥) → (a == b) ≡ false
differs a b apart = elim (eqb_tells a b) [ inl same ↦ absurd (apart same.1) | inr other ↦ other.0 ]

pub key_found : (c : Content) (code i : ℕ) (k : KeyRow) → Sound c → slice_get c.keys i ≡ Some k → k.code ≡ code → key_with c code ≡ slice_get c.keys i
key_found c code i k sound e same =
    let holds : KeyHolds c i k = sound.keys i k e in
    let passes : (k.code == code) ≡ true = eq-eqb k.code code same in
    let fails : (j : ℕ) (l : KeyRow) → j < i → slice_get c.keys j ≡ Some l → (l.code == code) ≡ false = λ j l below at. let lower : l.code < k.code = holds.rises j l below at in differs l.code code (λ equal. omega arith) in
    rw e (find_first (λ (l : KeyRow). l.code == code) c.keys i k e passes fails)

pub key_missing : (c : Content) (code low high : ℕ) → Narrows c code low high → high ≤ low → key_with c code ≡ None
key_missing c code low high narrows met =
    find_nothing (λ (l : KeyRow). l.code == code) c.keys
    (λ j l at. differs l.code code (λ same. elim (cases_lt j high) [
      | inl below ↦ let h : l.code < code = narrows.below j l (omega arith) at in omega arith
      | inr above ↦ let h : code < l.code = narrows.above j l above at in omega arith
    ]))
