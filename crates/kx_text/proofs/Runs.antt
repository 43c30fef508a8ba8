-- Runs of keysyms: in which one a keysym is.
use Rattle.std.proofs.Common.{◌≡◌, ℕ, ◌≤◌, ◌<◌, ◌+◌, ◌-◌, zero, suc, Bool, true, false, ◌&&◌, nat_le, nat_lt, List, [], ◌∷◌, Option, None, Some, get_or, length, cond, zero-le, inl, inr, refl, sym, ap, subst, ◌∙◌, arith}
use Rattle.std.proofs.lemmas.Bool.{and_parts, cases_lt, leb-true}
use Rattle.std.proofs.lemmas.Bool.Decides.{nat_tests}
use Rattle.std.specs.List.Sorted.{IsPartitionPoint, IsPartitionedBy}
use Rattle.kx_text.specs.Case.{AreRuns, Run, image_in, follow}
use borrow.Author.Tests.{ltb-true}

abbrev pub run_at : List Run → ℕ → Run
run_at runs i = get_or runs i (0, 0, 0)

record Parts (low : ℕ) (run : Run) (runs : List Run) : Type 0 where
  least : low ≤ run.0
  ends : run.0 ≤ run.1
  last : run.1 < 0x20000000
  image : run.2 < 0x20000000
  rest : follow (run.1 + 1) runs ≡ true

parts : (low : ℕ) (run : Run) (runs : List Run) → follow low (run ∷ runs) ≡ true → Parts low run runs
unfolding follow
parts low run runs h =
    let a = and_parts (nat_le low run.0) (nat_le run.0 run.1 && (nat_lt run.1 0x20000000 && (nat_lt run.2 0x20000000 && follow (run.1 + 1) runs))) h in
    let b = and_parts (nat_le run.0 run.1) (nat_lt run.1 0x20000000 && (nat_lt run.2 0x20000000 && follow (run.1 + 1) runs)) a.1 in
    let d = and_parts (nat_lt run.1 0x20000000) (nat_lt run.2 0x20000000 && follow (run.1 + 1) runs) b.1 in
    let e = and_parts (nat_lt run.2 0x20000000) (follow (run.1 + 1) runs) d.1 in
    record {
      least = leb-true low run.0 a.0;
      ends = leb-true run.0 run.1 b.0;
      last = ltb-true run.1 0x20000000 d.0;
      image = ltb-true run.2 0x20000000 e.0;
      rest = e.1;
    }

-- what the run at a place keeps
pub record Kept (low : ℕ) (run : Run) : Type 0 where
  pub least : low ≤ run.0
  pub ends : run.0 ≤ run.1
  pub last : run.1 < 0x20000000
  pub image : run.2 < 0x20000000

kept : (low : ℕ) (runs : List Run) (i : ℕ) → follow low runs ≡ true → i < length runs → Kept low (run_at runs i)
kept low [] i h within = absurd (omega (arith, within))
kept low (run ∷ runs) zero h within =
    let p = parts low run runs h in record { least = p.least; ends = p.ends; last = p.last; image = p.image }
kept low (run ∷ runs) (suc i) h within =
    let p = parts low run runs h in
    let k = kept (run.1 + 1) runs i p.rest (omega (arith, within)) in
    record { least = omega (arith, p.least, p.ends, k.least); ends = k.ends; last = k.last; image = k.image }

-- the runs rise
least_last : (low : ℕ) (runs : List Run) (j : ℕ) (d : Run) → follow low runs ≡ true → j < length runs → low ≤ (get_or runs j d).1
least_last low [] j d h within = absurd (omega (arith, within))
least_last low (run ∷ runs) zero d h within = let p = parts low run runs h in omega (arith, p.least, p.ends)
least_last low (run ∷ runs) (suc j) d h within =
    let p = parts low run runs h in
    let rest = least_last (run.1 + 1) runs j d p.rest (omega (arith, within)) in omega (arith, p.least, p.ends, rest)

lasts : (low : ℕ) (runs : List Run) (i j : ℕ) (d : Run) → follow low runs ≡ true → i ≤ j → j < length runs → (get_or runs i d).1 ≤ (get_or runs j d).1
lasts low [] i j d h before within = absurd (omega (arith, within))
lasts low (run ∷ runs) zero zero d h before within = omega arith
lasts low (run ∷ runs) zero (suc j) d h before within =
    let more = least_last (run.1 + 1) runs j d (parts low run runs h).rest (omega (arith, within)) in omega (arith, more)
lasts low (run ∷ runs) (suc i) zero d h before within = absurd (omega (arith, before))
lasts low (run ∷ runs) (suc i) (suc j) d h before within = lasts (run.1 + 1) runs i j d (parts low run runs h).rest (omega (arith, before)) (omega (arith, within))

-- whether a run ends below a keysym
abbrev pub ends_below : ℕ → Run → Bool
ends_below keysym run = nat_lt run.1 keysym

pub parted : (runs : List Run) (keysym : ℕ) → AreRuns runs → IsPartitionedBy (ends_below keysym) runs
parted runs keysym are i j d before within less =
    let order = lasts 0 runs i j d are.in_order before within in
    let below = ltb-true (get_or runs j d).1 keysym less in grind (arith, nat_tests, order, below)

firsts : (low : ℕ) (runs : List Run) (i j : ℕ) → follow low runs ≡ true → i ≤ j → j < length runs → (run_at runs i).0 ≤ (run_at runs j).0
firsts low [] i j h before within = absurd (omega (arith, within))
firsts low (run ∷ runs) zero zero h before within = omega arith
firsts low (run ∷ runs) zero (suc j) h before within =
    let p = parts low run runs h in
    let k = kept (run.1 + 1) runs j p.rest (omega (arith, within)) in omega (arith, k.least, p.ends)
firsts low (run ∷ runs) (suc i) zero h before within = absurd (omega (arith, before))
firsts low (run ∷ runs) (suc i) (suc j) h before within = firsts (run.1 + 1) runs i j (parts low run runs h).rest (omega (arith, before)) (omega (arith, within))

abbrev image_of : Run → ℕ → Option ℕ
image_of run keysym = Some (run.2 + (keysym - run.0))

-- the run that a keysym is in gives its image
found : (low : ℕ) (runs : List Run) (i keysym : ℕ) → follow low runs ≡ true → i < length runs → (run_at runs i).0 ≤ keysym → keysym ≤ (run_at runs i).1 → image_in runs keysym ≡ Some ((run_at runs i).2 + (keysym - (run_at runs i).0))
unfolding image_in
found low [] i keysym h within least most = absurd (omega (arith, within))
found low (run ∷ runs) zero keysym h within least most =
    let inside : (nat_le run.0 keysym && nat_le keysym run.1) ≡ true = grind (arith, nat_tests, least, most) in
    ap (λ b. cond b (image_of run keysym) (image_in runs keysym)) inside
found low (run ∷ runs) (suc i) keysym h within least most =
    let p = parts low run runs h in
    let there : i < length runs = omega (arith, within) in
    let k = kept (run.1 + 1) runs i p.rest there in
    let above : run.1 < keysym = omega (arith, k.least, least) in
    let outside : (nat_le run.0 keysym && nat_le keysym run.1) ≡ false = grind (arith, nat_tests, above) in
    ap (λ b. cond b (image_of run keysym) (image_in runs keysym)) outside ∙ found (run.1 + 1) runs i keysym p.rest there least most

-- a keysym that is in no run has no image
absent : (runs : List Run) (keysym : ℕ) → ((i : ℕ) → i < length runs → (run_at runs i).0 ≤ keysym → keysym ≤ (run_at runs i).1 → ⊥) → image_in runs keysym ≡ None
unfolding image_in
absent [] keysym none = refl
absent (run ∷ runs) keysym none =
    by (nat_le run.0 keysym && nat_le keysym run.1) refl (absent runs keysym (λ i within. none (suc i) (omega (arith, within))))
  where
    by : (b : Bool) → (nat_le run.0 keysym && nat_le keysym run.1) ≡ b → image_in runs keysym ≡ None → cond b (image_of run keysym) (image_in runs keysym) ≡ None
    by true inside rest =
        let ends = and_parts (nat_le run.0 keysym) (nat_le keysym run.1) inside in
        absurd (none 0 (omega arith) (leb-true run.0 keysym ends.0) (leb-true keysym run.1 ends.1))
    by false outside rest = rest

-- where the runs that end below a keysym end
abbrev pub EndsAt : ℕ → List Run → ℕ → Type 0
EndsAt keysym runs place = IsPartitionPoint (λ run. ends_below keysym run ≡ true) (λ run. ends_below keysym run ≡ false) runs place

pub kept_at : (runs : List Run) (place : ℕ) (run : Run) → AreRuns runs → place < length runs → run ≡ run_at runs place → Kept 0 run
kept_at runs place run are within is = subst (Kept 0) (sym is) (kept 0 runs place are.in_order within)

not_below : (a b : ℕ) → nat_lt a b ≡ false → b ≤ a
not_below a b h = grind (arith, nat_tests, h)

last_at : (runs : List Run) (keysym place : ℕ) → EndsAt keysym runs place → place < length runs → keysym ≤ (run_at runs place).1
last_at runs keysym place point within = not_below (run_at runs place).1 keysym (point.1 place (0, 0, 0) (omega arith) within)

pub hit : (runs : List Run) (keysym place : ℕ) (run : Run) → AreRuns runs → EndsAt keysym runs place → place < length runs → run ≡ run_at runs place → run.0 ≤ keysym → Some (run.2 + (keysym - run.0)) ≡ image_in runs keysym
hit runs keysym place run are point within is least =
    let begins : (run_at runs place).0 ≤ keysym = subst (λ (r : Run). r.0 ≤ keysym) is least in
    ap (λ (r : Run). Some (r.2 + (keysym - r.0))) is ∙ sym (found 0 runs place keysym are.in_order within begins (last_at runs keysym place point within))

below : (runs : List Run) (keysym place i : ℕ) → EndsAt keysym runs place → i < place → keysym ≤ (run_at runs i).1 → ⊥
below runs keysym place i point before most =
    let less = ltb-true (run_at runs i).1 keysym (point.0 i (0, 0, 0) zero-le before) in omega (arith, less, most)

pub between : (runs : List Run) (keysym place : ℕ) (run : Run) → AreRuns runs → EndsAt keysym runs place → place < length runs → run ≡ run_at runs place → keysym < run.0 → None ≡ image_in runs keysym
between runs keysym place run are point within is low =
    let begins : keysym < (run_at runs place).0 = subst (λ (r : Run). keysym < r.0) is low in
    sym (absent runs keysym (λ i inside least most. elim (cases_lt i place) [
      | inl before ↦ below runs keysym place i point before most
      | inr after ↦ let order = firsts 0 runs place i are.in_order after inside in omega (arith, order, begins, least)
    ]))

pub behind_all : (runs : List Run) (keysym place : ℕ) → EndsAt keysym runs place → length runs ≤ place → None ≡ image_in runs keysym
behind_all runs keysym place point all = sym (absent runs keysym (λ i inside least most. below runs keysym place i point (omega (arith, inside, all)) most))

pub most : (runs : List Run) (keysym place : ℕ) (run : Run) → EndsAt keysym runs place → place < length runs → run ≡ run_at runs place → keysym ≤ run.1
most runs keysym place run point within is =
    subst (λ (r : Run). keysym ≤ r.1) (sym is) (last_at runs keysym place point within)
