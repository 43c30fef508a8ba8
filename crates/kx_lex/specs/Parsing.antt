-- What reading does at each way to build a production.
use Rattle.std.specs.Prelude.{cond, ℕ, zero, suc, Bool, List, [], ◌∷◌, Result, Ok, Err}
use Rattle.kx_lex.specs.declared.token.Token.{Token}
use Rattle.kx_lex.specs.declared.fault.Fault.{Fault}

-- what is read of the front, and the tokens left
abbrev pub Read : Type 0 → Type 0
Read A = Result (A × List Token) Fault

-- the value, and the tokens left
abbrev pub done : {A : Type 0} → A → List Token → Read A
done x rest = Ok (x, rest)

-- what follows is read of the tokens left
abbrev pub then_read : {A B : Type 0} → Read A → (A → List Token → Read B) → Read B
then_read (Ok p) k = k p.0 p.1
then_read (Err e) k = Err e

-- a list of values, while the test holds, within so many rounds
abbrev pub many_read : {A : Type 0} → (List Token → Bool) → (List Token → Read A) → ℕ → List Token → Read (List A)
many_read test read zero ts = done [] ts
many_read test read (suc n) ts = cond (test ts) (then_read (read ts) (λ x mid. then_read (many_read test read n mid) (λ xs. done (x ∷ xs)))) (done [] ts)

-- one token that passes a test
abbrev pub one_read : (Token → Bool) → (Token → Fault) → Fault → List Token → Read Token
one_read test fault_at fault_end [] = Err fault_end
one_read test fault_at fault_end (t ∷ ts) = cond (test t) (done t ts) (Err (fault_at t))

-- the end
abbrev pub end_read : (Token → Fault) → List Token → Read (Unit {0})
end_read fault_at [] = done tt []
end_read fault_at (t ∷ ts) = Err (fault_at t)

-- nothing is taken, and the value was worked out from what was read
abbrev pub settle_read : {A : Type 0} → Result A Fault → List Token → Read A
settle_read (Ok x) ts = done x ts
settle_read (Err e) ts = Err e
