-- A count of parts that goes along the includes of maps.
use Rattle.std.proofs.Common.{◌≡◌, ℕ, ◌+◌, ◌-◌, ◌<◌, ◌≤◌, zero, suc, List, [], ◌∷◌, ◌++◌, length, Some, Contains, refl, sym, ap, ◌∙◌, subst, arith, inl, inr}
use Rattle.std.proofs.lemmas.List.{length-append, append_assoc}
use Rattle.std.proofs.lemmas.List.Elements.{Contains-append_left}
use Rattle.std.specs.List.{slice_get}
use Rattle.kx_lex.specs.declared.fault.At.{At}
use Rattle.kx_lex.specs.declared.fault.Fault.{Fault}
use Rattle.kx_include.specs.IncludeFaults.{Findings, nothing, both, after, HasFaultFrom}
use Rattle.kx_include.specs.Limits.{most_parts}

-- from a count and findings, some without a fault are after, and these are left
pub record Left (n : ℕ) (a : Findings) (m : ℕ) (b : Findings) : Type 0 where
  pub behind : List At
  pub visits : a.visits ≡ behind ++ b.visits
  pub count : m ≡ n + length behind
  pub faults : a.faults ≡ b.faults

pub left_all : (n : ℕ) (a : Findings) → Left n a n a
left_all n a = record { behind = []; visits = refl; count = omega arith; faults = refl }

pub left-step : (n : ℕ) (a : Findings) (m k : ℕ) (c b : Findings) → Left n a m (both c b) → c.faults ≡ [] → k ≡ m + length c.visits → Left n a k b
left-step n a m k c b l none counted = record {
  behind = l.behind ++ c.visits;
  visits = l.visits ∙ sym (append_assoc l.behind c.visits b.visits);
  count = let all = length-append l.behind c.visits in let before = l.count in omega arith;
  faults = l.faults ∙ ap (λ fs. fs ++ b.faults) none;
}

pub left-none : (n : ℕ) (a : Findings) (m : ℕ) → Left n a m nothing → (a.faults ≡ []) × (m ≡ n + length a.visits)
left-none n a m l =
    let all = ap length l.visits ∙ length-append l.behind [] in
    let before = l.count in
    (l.faults, omega arith)

get_behind : (xs ys : List At) (k : ℕ) → slice_get (xs ++ ys) (length xs + k) ≡ slice_get ys k
get_behind [] ys k = let same : 0 + k ≡ k = omega arith in ap (slice_get ys) same
get_behind (x ∷ xs) ys k = let same : length (x ∷ xs) + k ≡ suc (length xs + k) = omega arith in ap (slice_get (x ∷ xs ++ ys)) same ∙ get_behind xs ys k

get-front : (xs ys : List At) (k : ℕ) (x : At) → slice_get xs k ≡ Some x → slice_get (xs ++ ys) k ≡ Some x
get-front [] ys k x h = cc
get-front (y ∷ xs) ys zero x h = h
get-front (y ∷ xs) ys (suc k) x h = get-front xs ys k x h

pub fault-left : (n : ℕ) (a : Findings) (m : ℕ) (b : Findings) (e : Fault) → Left n a m b → m ≤ most_parts → HasFaultFrom m b e → HasFaultFrom n a e
fault-left n a m b e l most (inl in_faults) = inl (subst (λ fs. Contains fs e) (sym l.faults) in_faults)
fault-left n a m b e l most (inr many) =
    let before = l.count in
    let same : most_parts - n ≡ length l.behind + (most_parts - m) = omega arith in
    inr (many.0, ap (λ vs. slice_get vs (most_parts - n)) l.visits ∙ ap (slice_get (l.behind ++ b.visits)) same ∙ get_behind l.behind b.visits (most_parts - m) ∙ many.1, many.2)

pub fault-first : (m : ℕ) (c b : Findings) (e : Fault) → HasFaultFrom m c e → HasFaultFrom m (both c b) e
fault-first m c b e (inl in_faults) = inl (Contains-append_left c.faults b.faults e in_faults)
fault-first m c b e (inr many) = inr (many.0, get-front c.visits b.visits (most_parts - m) many.0 many.1, many.2)

-- of a part, which is one more
pub fault-after : (n : ℕ) (place : At) (a : Findings) (e : Fault) → n < most_parts → HasFaultFrom (n + 1) a e → HasFaultFrom n (after place a) e
fault-after n place a e room (inl in_faults) = inl in_faults
fault-after n place a e room (inr many) =
    let next : most_parts - n ≡ suc (most_parts - (n + 1)) = omega arith in
    inr (many.0, ap (slice_get (place ∷ a.visits)) next ∙ many.1, many.2)
