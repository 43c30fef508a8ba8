use Rattle.std.proofs.Common.{◌≡◌, ℕ, ◌+◌, ◌<◌, ◌≤◌, inl, inr, ⊎_elim, Option, None, Some, List, ◌∷◌, refl, ap, subst, ◌∙◌, zero-le, IfSome, arith, length}
use Rattle.std.proofs.lemmas.Result.{err_from_is_err_and}
use Rattle.std.specs.Borrow.{Bor}
use Rattle.std.specs.Option.{option_map, option_map_or}
use Rattle.ks_core.specs.Lines.{lines_of, lines_left}
use Rattle.ks_core.proofs.ReadLemmas.{ReadSoFar, ReadSoFar-start, ReadSoFar-next, ReadSoFar-fault, sound_after}
use Rattle.ks_core.proofs.names.read_lines.Goals as goal

pub loop-left-init : goal.loop-left-init
loop-left-init c = rw c.new-given.ensures (record { read = ReadSoFar-start (lines_of c.args.lines.now); few = omega arith; sound = refl })

shown : Option (Bor (List ℕ)) → List (List ℕ)
shown left = lines_left (option_map (λ (text : Bor (List ℕ)). text.now) left)

abbrev size : Option (Bor (List ℕ)) → ℕ
size left = option_map_or (λ (text : Bor (List ℕ)). length text.now + 1) left 0

size-shorter : (rest : Option (Bor (List ℕ))) (n : ℕ) → IfSome rest (λ r. length r.now < n) → size rest ≤ n
size-shorter None n h = zero-le
size-shorter (Some r) n h = omega arith

pub returns-in_err-read-clause-fault : goal.returns-in_err-read-clause-fault
unfolding shown
returns-in_err-read-clause-fault c =
    let parted : shown c.loop-left.left ≡ c.first_line.result.0.now ∷ shown c.first_line.result.1 = ap shown c.in-Some.is ∙ c.first_line.ensures.lines in
    let read = subst (ReadSoFar (lines_of c.args.lines.now) c.loop-left.number c.loop-left.given) parted c.loop-left.invariant.read in
    let p = err_from_is_err_and c.from_residual.result c.from_residual.ensures.1 in
    rw (p.1, p.2) (⊎_elim inl (λ is. inr (ReadSoFar-fault _ _ _ _ _ read _ is)) c.in_err-read.ensures.fault)

pub loop-left-preserved : goal.loop-left-preserved
unfolding shown
loop-left-preserved c =
    let parted : shown c.loop-left.left ≡ c.first_line.result.0.now ∷ shown c.first_line.result.1 = ap shown c.in-Some.is ∙ c.first_line.ensures.lines in
    let read = subst (ReadSoFar (lines_of c.args.lines.now) c.loop-left.number c.loop-left.given) parted c.loop-left.invariant.read in
    let given = c.in_ok-read.ensures.given in
    let valid = c.in_ok-read.ensures.valid in
    record {
      read = rw given (ReadSoFar-next _ _ _ _ _ read valid);
      few = omega (arith, size-shorter c.first_line.result.1 (length c.in-Some.text.now) c.first_line.ensures.shorter, ap size c.in-Some.is, c.loop-left.invariant.few);
      sound = rw given (sound_after c.loop-left.given (c.loop-left.number + 1) c.first_line.result.0.now c.loop-left.invariant.sound valid);
    }
