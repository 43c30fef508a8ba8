-- Where reading stops, and why, in words of tokens alone.
use Rattle.std.specs.Prelude.{ℕ, true, List, [], ◌∷◌, ◌++◌, length, min, ◌≡◌, ◌⊎◌, ◌≤◌, ◌^◌}
use Rattle.kx_lex.specs.declared.token.Token.{Token}
use Rattle.kx_lex.specs.declared.fault.Fault.{Fault}
use Rattle.kx_lex.specs.declared.fault.Fault.TheVariants.{Syntax, NumberTooBig}
use Rattle.kx_lex.specs.Kinds.{slice_of, is_number, number_value}

-- the fault of a token that may not stand where it does, and that of the end
abbrev pub syntax_at : Token → Fault
syntax_at t = Syntax (record { file = 0; span = t.span })

-- a place counts no further than 4,294,967,295
abbrev pub end_of : List ℕ → ℕ
end_of text = min (length text) 4294967295

abbrev pub syntax_end : List ℕ → Fault
syntax_end text = Syntax (record { file = 0; span = record { start = end_of text; stop = end_of text } })

-- the token is a number of 2^32 or more, and the fault names its place
pub record IsTooBig (text : List ℕ) (t : Token) (e : Fault) : Type 0 where
  pub kind : is_number t ≡ true
  pub value : 2 ^ 32 ≤ number_value (slice_of text t)
  pub fault : e ≡ NumberTooBig (record { file = 0; span = t.span })

-- the token may not stand where it does, or is a number that is too big
abbrev pub StopsAt : List ℕ → Token → Fault → Type 0
StopsAt text t e = (e ≡ syntax_at t) ⊎ IsTooBig text t e

-- the fault is that of the first token, and without one that of the end
abbrev pub StopsBefore : List ℕ → List Token → Fault → Type 0
StopsBefore text [] e = e ≡ syntax_end text
StopsBefore text (t ∷ ts) e = StopsAt text t e

-- the tokens from somewhere on
pub record IsBehind (ts rest : List Token) : Type 0 where
  pub before : List Token
  pub tokens : ts ≡ before ++ rest

-- somewhere in the tokens reading stops
pub record StopsWithin (text : List ℕ) (ts : List Token) (e : Fault) : Type 0 where
  pub rest : List Token
  pub behind : IsBehind ts rest
  pub why : StopsBefore text rest e
