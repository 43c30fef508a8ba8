-- What a reader of the code answers: what its production reads, or want of memory.
use Rattle.std.specs.Prelude.{List, ◌≡◌, ◌⊎◌, Result, Ok, Err}
use Rattle.std.specs.Borrow.{Bor}
use Rattle.kx_lex.specs.declared.token.Token.{Token}
use Rattle.kx_lex.specs.declared.fault.Fault.{Fault}
use Rattle.kx_lex.specs.declared.fault.Fault.TheVariants.{Memory}
use Rattle.kx_lex.specs.Parsing.{Read, done}

abbrev pub Gives : {A : Type 0} → Result (A × Bor (List Token)) Fault → Read A → Type 0
Gives (Ok p) read = read ≡ done p.0 p.1.now
Gives (Err e) read = (e ≡ Memory) ⊎ (read ≡ Err e)
