-- A production that takes a token at least leaves fewer tokens.
use Rattle.std.proofs.Common.{ℕ, ◌≤◌, ◌<◌, List, length, ◌≡◌, Result, Ok, Err, IfOk, arith}
use Rattle.std.specs.Borrow.{Bor}
use Rattle.kx_lex.specs.declared.token.Token.{Token}
use Rattle.kx_lex.specs.declared.fault.Fault.{Fault}
use Rattle.kx_lex.specs.Gives.{Gives}
use Rattle.kx_lex.specs.Parsing.{done}
use Rattle.kx_lex.specs.Production.{Production}
use Rattle.kx_lex.specs.Tokens.{mark}
use Rattle.kx_lex.proofs.Lawful.{Lawful}
use Rattle.kx_lex.proofs.TokenLaws.{mark-lawful, mark-least}

pub shrinks : {text : List ℕ} {A : Type 0} {p : Production A} (lp : Lawful text p) → 1 ≤ lp.least → (ts : List Token) (x : A) (rest : List Token) → p.read ts ≡ done x rest → length rest < length ts
shrinks lp some ts x rest e = let h = lp.uses ts x rest (lp.takes ts x rest e) in omega arith

-- so does what reads it
pub Gives-shorter : {text : List ℕ} {A : Type 0} {p : Production A} (lp : Lawful text p) → 1 ≤ lp.least → (ts : List Token) (result : Result (A × Bor (List Token)) Fault) → Gives result (p.read ts) → IfOk result (λ r. length r.1.now < length ts)
Gives-shorter lp some ts (Ok r) g = shrinks lp some ts r.0 r.1.now g
Gives-shorter lp some ts (Err e) g = tt

pub mark-shorter : (text : List ℕ) (byte : ℕ) (ts : List Token) (result : Result (Token × Bor (List Token)) Fault) → Gives result ((mark text byte).read ts) → IfOk result (λ r. length r.1.now < length ts)
mark-shorter text byte ts result g = Gives-shorter (mark-lawful text byte) (mark-least text byte) ts result g

pub ruleset shorter_marks = (mark-shorter)

-- what leaves fewer than some leaves fewer than more
pub fewer : {A : Type 0} (result : Result (A × Bor (List Token)) Fault) (mid ts : List Token) → length mid < length ts → IfOk result (λ r. length r.1.now < length mid) → IfOk result (λ r. length r.1.now < length ts)
fewer (Ok r) mid ts less h = omega arith
fewer (Err e) mid ts less h = tt
