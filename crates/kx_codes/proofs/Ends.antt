-- Where codes with names end.
use Rattle.std.proofs.Common.{◌≡◌, ℕ, zero, suc, ◌+◌, ◌-◌, ◌<◌, ◌≤◌, arith, Bool, true, false, cond, ◌==◌, List, [], ◌∷◌, Option, None, Some, All, IsSome, refl, ap, ◌∙◌}
use Rattle.std.proofs.lemmas.Bool.Decides.{nat_tests}
use Rattle.std.proofs.lemmas.List.Elements.{All-head, All-tail}
use Rattle.kx_basics.specs.declared.limits.TheConstants.{CODES}
use Rattle.kx_codes.specs.Codes.{IsEnd}
use Rattle.kx_codes.specs.Pairs.{Pair, name_in}

-- what is so of the pairs that were gone through, of all
pub record Reached (end : ℕ) (done all : List Pair) : Type 0 where
  pub within : end ≤ CODES
  pub above : All (λ p. p.code < CODES → p.code < end) done
  pub named : (code : ℕ) → end ≡ code + 1 → IsSome (name_in all code)

unnamed_of : (end : ℕ) (ps : List Pair) → All (λ p. p.code < CODES → p.code < end) ps → (code : ℕ) → end ≤ code → code < CODES → name_in ps code ≡ None
unnamed_of end [] above code le low = refl
unnamed_of end (p ∷ ps) above code le low = by (code == p.code) refl (unnamed_of end ps (All-tail (λ p. p.code < CODES → p.code < end) p ps above) code le low)
  where
    by : (b : Bool) → (code == p.code) ≡ b → name_in ps code ≡ None → cond b (Some p.name) (name_in ps code) ≡ None
    by true h rest =
        let same : code ≡ p.code = grind (arith, nat_tests, h) in
        let less : p.code < end = All-head (λ p. p.code < CODES → p.code < end) p ps above (omega (arith, same, low)) in
        absurd (omega (arith, same, less, le))
    by false h rest = rest

pub all_reached : (end : ℕ) (ps : List Pair) → Reached end ps ps → IsEnd end (name_in ps)
all_reached end ps r = record { within = r.within; unnamed = unnamed_of end ps r.above; greatest = r.named }

-- what doesn't grow at codes without a name is whole where the codes with names end
module _ {X : Type 0} (f : ℕ → X) (end : ℕ) (name : ℕ → Option (List ℕ)) (is : IsEnd end name) (still : (code : ℕ) → name code ≡ None → f (code + 1) ≡ f code) where
  grown : (more : ℕ) → end + more ≤ CODES → f (end + more) ≡ f end
  grown zero le = let none : end + 0 ≡ end = omega arith in ap f none
  grown (suc more) le =
      let one : end + suc more ≡ end + more + 1 = omega arith in
      ap f one ∙ still (end + more) (is.unnamed (end + more) (omega arith) (omega (arith, le))) ∙ grown more (omega (arith, le))

  pub all_gathered : f CODES ≡ f end
  all_gathered = let upto : CODES ≡ end + (CODES - end) = omega (arith, is.within) in ap f upto ∙ grown (CODES - end) (omega (arith, is.within))
