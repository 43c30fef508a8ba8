-- A production of the grammar, with its three faces: which tokens spell which value, what is read, and where
-- reading stops; and the ways to build productions.
use Rattle.std.specs.Prelude.{ℕ, suc, Bool, true, false, cond, ◌⊎◌, List, [], ◌∷◌, length, ◌≡◌, ◌-◌, drop, Option, Some, None, is_some, Result, Ok, Err}
use Rattle.std.specs.Option.{ok_or}
use Rattle.kx_lex.specs.declared.token.Span.{Span}
use Rattle.kx_lex.specs.declared.token.Token.{Token}
use Rattle.kx_lex.specs.declared.fault.Fault.{Fault}
use Rattle.kx_lex.specs.Spelling.{many_front}
use Rattle.kx_lex.specs.Stops.{syntax_at, syntax_end}
use Rattle.kx_lex.specs.Parsing.{Read, done, then_read, many_read, one_read, settle_read, end_read}

pub record Production (A : Type 0) : Type 1 where
  -- the front of the tokens spells the value, and these are left
  pub spells : List Token → A → List Token → Type 0
  -- the value that is read of the front, and what is left, or why there is none
  pub read : List Token → Read A
  -- what stands at the front of the tokens is spelled, and what comes next may not stand there
  pub blames : List Token → Fault → Type 0

-- takes nothing, and gives the value
abbrev pub give : {A : Type 0} → A → Production A
give x = record {
  spells = λ ts y rest. (x ≡ y) × (ts ≡ rest);
  read = λ ts. done x ts;
  blames = λ ts e. ⊥;
}

-- one part, and then what follows from its value
infixl 10 ◌>>=◌
abbrev pub ◌>>=◌ : {A B : Type 0} → Production A → (A → Production B) → Production B
◌>>=◌ {A} p f = record {
  spells = λ ts y rest. (x : A) × (mid : List Token) × p.spells ts x mid × (f x).spells mid y rest;
  read = λ ts. then_read (p.read ts) (λ x. (f x).read);
  blames = λ ts e. p.blames ts e ⊎ ((x : A) × (mid : List Token) × p.spells ts x mid × (f x).blames mid e);
}

-- the one production where the test holds, and else the other
abbrev pub either : {A : Type 0} → (List Token → Bool) → Production A → Production A → Production A
either test p q = record {
  spells = λ ts x rest. ((test ts ≡ true) × p.spells ts x rest) ⊎ ((test ts ≡ false) × q.spells ts x rest);
  read = λ ts. cond (test ts) (p.read ts) (q.read ts);
  blames = λ ts e. ((test ts ≡ true) × p.blames ts e) ⊎ ((test ts ≡ false) × q.blames ts e);
}

-- it, or nothing
abbrev pub optional : {A : Type 0} → (List Token → Bool) → Production A → Production (Option A)
optional test p = either test (do
  x ← p
  give (Some x)) (give None)

-- values one after another, while the test holds
abbrev pub many : {A : Type 0} → (List Token → Bool) → Production A → Production (List A)
many {A} test p = record {
  spells = λ ts xs rest. many_front test p.spells xs ts rest × (test rest ≡ false);
  read = λ ts. many_read test p.read (suc (length ts)) ts;
  blames = λ ts e. (xs : List A) × (mid : List Token) × many_front test p.spells xs ts mid × (test mid ≡ true) × p.blames mid e;
}

-- the fault where tokens may not stand as they do
abbrev pub syntax_of : List ℕ → List Token → Fault
syntax_of text [] = syntax_end text
syntax_of text (t ∷ ts) = syntax_at t

-- one token that passes the test
abbrev pub one : List ℕ → (Token → Bool) → Production Token
one text test = record {
  spells = λ ts t rest. (ts ≡ t ∷ rest) × (test t ≡ true);
  read = one_read test syntax_at (syntax_end text);
  blames = λ ts e. ((ts ≡ []) × (e ≡ syntax_end text)) ⊎ ((t : Token) × (rest : List Token) × (ts ≡ t ∷ rest) × (test t ≡ false) × (e ≡ syntax_at t));
}

-- takes nothing, and gives what something stands for, or the fault that it gives
abbrev pub settle : {A : Type 0} → Result A Fault → Production A
settle outcome = record {
  spells = λ ts x rest. (outcome ≡ Ok x) × (ts ≡ rest);
  read = settle_read outcome;
  blames = λ ts e. outcome ≡ Err e;
}

-- one token that passes the test, as what it stands for
abbrev pub one_as : {A : Type 0} → List ℕ → (Token → Bool) → (Token → Result A Fault) → Production A
one_as text test outcome = do
  t ← one text test
  settle (outcome t)

-- one of the words that a table knows, as what it stands for
abbrev pub known : {A : Type 0} → List ℕ → (Token → Option A) → Production A
known text table = one_as text (λ t. is_some (table t)) (λ t. ok_or (table t) (syntax_at t))

-- no token is left
abbrev pub at_end : Production (Unit {0})
at_end = record {
  spells = λ ts x rest. (ts ≡ []) × (rest ≡ []);
  read = end_read syntax_at;
  blames = λ ts e. (t : Token) × (more : List Token) × (ts ≡ t ∷ more) × (e ≡ syntax_at t);
}

-- with what is noted of the tokens before the value and those after it
abbrev pub noted : {A B : Type 0} → (List Token → List Token → B) → Production A → Production (A × B)
noted note p = record {
  spells = λ ts y rest. p.spells ts y.0 rest × (note ts rest ≡ y.1);
  read = λ ts. then_read (p.read ts) (λ x rest. done (x, note ts rest) rest);
  blames = p.blames;
}

-- where the first token stands; nowhere, at the end
abbrev pub front_span : List Token → Span
front_span [] = record { start = 0; stop = 0 }
front_span (t ∷ ts) = t.span

-- from the first of the tokens to the last before the rest
abbrev pub span_between : List Token → List Token → Span
span_between ts rest = record { start = (front_span ts).start; stop = (front_span (drop (length ts - length rest - 1) ts)).stop }

-- with where the first token of the value stands
abbrev pub fronted : {A : Type 0} → Production A → Production (A × Span)
fronted p = noted (λ ts rest. front_span ts) p

-- with where the value stands, from its first token to its last
abbrev pub spanned : {A : Type 0} → Production A → Production (A × Span)
spanned p = noted span_between p
