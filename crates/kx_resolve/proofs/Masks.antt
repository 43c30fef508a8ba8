-- The modifiers of codes, as the union of those of the keysyms that have their first places there.
use Rattle.std.proofs.Common.{ℕ, ◌≡◌, ◌<◌, ◌^◌, ◌==◌, ◌&&◌, ◌||◌, Bool, true, false, cond, List, [], ◌∷◌, Option, None, Some, bit_or, nat_eq, unwrap_or, refl, sym, ap, ◌∙◌, arith, if◌then◌else◌}
use Rattle.std.proofs.Math.Path.{fun_ext}
use Rattle.std.proofs.lemmas.Bool.{eqb-true, or_right}
use Rattle.std.proofs.lemmas.Bool.Decides.{nat_tests}
use Rattle.std.specs.List.{list_any}
use Rattle.std.specs.Option.{option_map_or}
use Rattle.kx_keys.proofs.Bits.{mods_is}
use Rattle.kx_keys.specs.Rows.{mods_of}
use Rattle.kx_virtual_mods.specs.Sets.{has}
use Rattle.kx_mods.specs.Mods.{mask}
use Rattle.kx_mods.specs.declared.mods.Mods.{Mods}
use Rattle.kx_resolve.specs.Finding.{Firsts}
use Rattle.kx_keys.specs.Mapping.{Mapping, first_place, is_at, modmap_of}
use Rattle.kx_keys.specs.declared.places.LevelPlace.{LevelPlace}
use Rattle.kx_virtual_mods.proofs.Bits.{has_union}

pub mods_joined : (mods : Mods) (one other : ℕ) → mask mods < 2 ^ 8 → mask mods ≡ bit_or one other → mods ≡ mods_of (λ real. has one real || has other real)
mods_joined mods one other small are = mods_is mods (λ real. has one real || has other real) small (λ r within. ap (λ n. has n r) are ∙ has_union one other r)

-- ---- One modifier more at a code

or_false : (b : Bool) → b ≡ (b || false)
or_false true = refl
or_false false = refl

module _ (code : ℕ) (old new : ℕ → Option Mods) (before mods all : Mods) where
  abbrev has_at : (ℕ → Option Mods) → ℕ → ℕ → Bool
  has_at by_code c real = has (option_map_or mask (by_code c) 0) real

  at : mask before ≡ option_map_or mask (old code) 0 → mask all ≡ bit_or (mask before) (mask mods) → (c real : ℕ) (b : Bool) → (code == c) ≡ b → has (option_map_or mask (cond b (Some all) (old c)) 0) real ≡ (has_at old c real || b && has (mask mods) real)
  at was are c real false other = or_false (has_at old c real)
  at was are c real true same =
      ap (λ n. has n real) are
      ∙ has_union (mask before) (mask mods) real
      ∙ ap (λ n. has n real || has (mask mods) real) was
      ∙ ap (λ k. has_at old k real || has (mask mods) real) (eqb-true code c same)

  pub one_more : ((c : ℕ) → new c ≡ cond (nat_eq code c) (Some all) (old c)) → mask before ≡ option_map_or mask (old code) 0 → mask all ≡ bit_or (mask before) (mask mods) → (c real : ℕ) → has_at new c real ≡ (has_at old c real || code == c && has (mask mods) real)
  one_more put was are c real = ap (λ o. has (option_map_or mask o 0) real) (put c) ∙ at was are c real (code == c) refl

-- ---- The first places of all keysyms that are named

module _ (test : Option LevelPlace → ℕ → Bool) (found : Firsts) (first : ℕ → Option LevelPlace) where
  abbrev names : List (ℕ × ℕ) → ℕ → Bool
  names es k = list_any (λ (e : ℕ × ℕ). e.0 == k) es

  itself : (n : ℕ) (b : Bool) → ((n == n) || b) ≡ true
  itself n b = ap (λ c. c || b) (same n)
    where
      same : (n : ℕ) → (n == n) ≡ true
      same n = grind (arith, nat_tests)

  named_all : (es rest : List (ℕ × ℕ)) → ((k : ℕ) → found k ≡ (if names es k then Some (first k) else None)) → ((k : ℕ) → names rest k ≡ true → names es k ≡ true) → list_any (λ (e : ℕ × ℕ). test (unwrap_or (found e.0) None) e.1) rest ≡ list_any (λ (e : ℕ × ℕ). test (first e.0) e.1) rest
  named_all es [] are within = refl
  named_all es (e ∷ rest) are within = λ i.
      test (unwrap_or ((are e.0 ∙ ap (λ b. if b then Some (first e.0) else None) (within e.0 (itself e.0 (names rest e.0)))) i) None) e.1
      || named_all es rest are (λ k h. within k (or_right (e.0 == k) (names rest k) h)) i

  pub tested_alike : (es : List (ℕ × ℕ)) → ((k : ℕ) → found k ≡ (if names es k then Some (first k) else None)) → list_any (λ (e : ℕ × ℕ). test (unwrap_or (found e.0) None) e.1) es ≡ list_any (λ (e : ℕ × ℕ). test (first e.0) e.1) es
  tested_alike es are = named_all es es are (λ k h. h)

-- ---- The modifiers of a code

module _ (m : Mapping) (found : Firsts) (by_code : ℕ → Option Mods) where
  pub modmap_is : (key_mask : ℕ) (code : ℕ) → m.key_maps code ≡ has key_mask
      → ((k : ℕ) → found k ≡ (if list_any (λ (e : ℕ × ℕ). e.0 == k) m.keysym_maps then Some (first_place k m) else None))
      → ((c real : ℕ) → has (option_map_or mask (by_code c) 0) real ≡ list_any (λ (e : ℕ × ℕ). is_at c (unwrap_or (found e.0) None) && has e.1 real) m.keysym_maps)
      → mods_of (λ real. has key_mask real || has (option_map_or mask (by_code code) 0) real) ≡ modmap_of m code
  modmap_is key_mask code key_is are added = ap mods_of (fun_ext (λ real.
      (λ i. sym key_is i real || added code real i)
      ∙ ap (λ b. m.key_maps code real || b) (tested_alike (λ place mods. is_at code place && has mods real) found (λ k. first_place k m) m.keysym_maps are)))
