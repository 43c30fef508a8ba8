-- Bearers and what is made of them, one after another.
use Rattle.std.proofs.Common.{◌≡◌, ◌<◌, ◌≤◌, ℕ, ◌+◌, zero, suc, ◌||◌, ◌&&◌, Bool, true, false, List, [], ◌∷◌, ◌++◌, Some, length, eq-or-lt_of_le, inl, inr, refl, ap, ◌∙◌, sym, arith}
use Rattle.std.specs.List.{list_any, slice_get}
use Rattle.std.specs.Option.{option_map_or}
use Rattle.std.proofs.lemmas.List.Folds.{list_any-append}
use Rattle.kx_resolve.specs.MappedKeys.{is_brought}
use Rattle.kx_resolve.specs.declared.virtual_modifiers.MappedKey.{MappedKey}
use Rattle.kx_virtual_mods.specs.Sets.{has, has_virtual}
use Rattle.kx_virtual_mods.specs.Standing.{stands_for}
use Rattle.kx_mods.specs.Mods.{mask}
use Rattle.kx_mods.specs.declared.mods.Mods.{Mods}

alone : (a b : Bool) → (a || (b || false)) ≡ (a || b)
alone true b = refl
alone false true = refl
alone false false = refl

pub brought_none : (number real : ℕ) → is_brought [] number real ≡ false
brought_none number real = refl

pub brought_push : (mapped_keys : List MappedKey) (b : MappedKey) (number real : ℕ) → is_brought (mapped_keys ++ b ∷ []) number real ≡ (is_brought mapped_keys number real || (has_virtual b.vmodmap number && has (mask b.mods) real))
brought_push mapped_keys b number real =
    let test : MappedKey → Bool = λ b. has_virtual b.vmodmap number && has (mask b.mods) real in
    list_any-append test mapped_keys (b ∷ []) ∙ alone (list_any test mapped_keys) (test b)

front : (made more : List Mods) (k : ℕ) → k < length made → slice_get (made ++ more) k ≡ slice_get made k
front [] more k less = absurd (omega (arith, less))
front (m ∷ made) more zero less = refl
front (m ∷ made) more (suc k) less = front made more k (omega (arith, less))

last : (made : List Mods) (m : Mods) → slice_get (made ++ m ∷ []) (length made) ≡ Some m
last [] m = refl
last (x ∷ made) m = last made m

pub stands_push : (made : List Mods) (m : Mods) (n : ℕ) (wanted : ℕ → ℕ → Bool) → length made ≡ n → ((k real : ℕ) → k < n → stands_for made k real ≡ wanted k real) → ((real : ℕ) → has (mask m) real ≡ wanted n real)
    → (k real : ℕ) → k < n + 1 → stands_for (made ++ m ∷ []) k real ≡ wanted k real
stands_push made m n wanted count before here k real less =
    let upto : k ≤ n = omega (arith, less) in
    elim (eq-or-lt_of_le upto) [
      | inl same ↦
          let at : slice_get (made ++ m ∷ []) k ≡ Some m = ap (slice_get (made ++ m ∷ [])) (same ∙ sym count) ∙ last made m in
          ap (λ o. has (option_map_or mask o 0) real) at ∙ here real ∙ ap (λ j. wanted j real) (sym same)
      | inr earlier ↦
          let within : k < length made = omega (arith, earlier, count) in
          ap (λ o. has (option_map_or mask o 0) real) (front made (m ∷ []) k within) ∙ before k real earlier
    ]
