-- What is read of lists, by what is read of one.
use Rattle.std.specs.Prelude.{cond, ℕ, suc, List, [], ◌∷◌, length, ◌++◌, Ok, Err}
use Rattle.kx_lex.specs.declared.token.Token.{Token}
use Rattle.kx_lex.specs.Parsing.{Read, done, then_read, many_read}
use Rattle.kx_lex.specs.Kinds.{front, is_mark, before_mark}
use Rattle.kx_lex.specs.Tokens.{mark, comma}

-- values after others
abbrev pub put_before : {A : Type 0} → List A → Read (List A) → Read (List A)
put_before xs (Ok p) = Ok (xs ++ p.0, p.1)
put_before xs (Err e) = Err e

abbrev pub after_comma_read : {A : Type 0} → List ℕ → (List Token → Read A) → List Token → Read A
after_comma_read text read ts = then_read ((mark text comma).read ts) (λ _ rest. read rest)

abbrev pub sequence_read : {A : Type 0} → List ℕ → (List Token → Read A) → List Token → Read (List A)
sequence_read text read ts = then_read (read ts) (λ x mid. then_read (many_read (front (is_mark comma)) (after_comma_read text read) (suc (length mid)) mid) (λ xs rest. done (x ∷ xs) rest))

abbrev pub listed_read : {A : Type 0} → List ℕ → ℕ → (List Token → Read A) → List Token → Read (List A)
listed_read text close read ts = cond (before_mark close ts) (sequence_read text read ts) (done [] ts)
