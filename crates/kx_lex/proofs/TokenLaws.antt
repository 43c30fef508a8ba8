-- The laws of the productions that take one token.
use Rattle.std.proofs.Common.{ℕ, List, ◌≡◌, ◌≤◌, ◌^◌, Bool, true, false, drop, Ok, Err, if◌then◌else◌, arith, inl, inr, sym, refl}
use Rattle.std.proofs.lemmas.Bool.{ltb-false}
use Rattle.std.specs.Prelude.{nat_lt}
use Rattle.std.specs.List.{list_all}
use Rattle.kx_basics.specs.KeyNames.{is_key_byte}
use Rattle.kx_lex.specs.declared.keyword.Keyword.{Keyword}
use Rattle.kx_lex.specs.declared.token.Token.{Token}
use Rattle.kx_lex.specs.declared.fault.Fault.{Fault}
use Rattle.kx_lex.specs.declared.fault.Fault.TheVariants.{NumberTooBig}
use Rattle.kx_lex.specs.declared.name.Name.{Name}
use Rattle.kx_lex.specs.Kinds.{slice_of, inner_of, is_word, is_number, is_key_name, is_text, is_mark, is_keyword, front, number_value}
use Rattle.kx_lex.specs.Stops.{syntax_at, StopsAt}
use Rattle.kx_lex.specs.Tokens.{mark, keyword, word, enclosed_name, enclosed, key_name, text_name, too_big, measured, number}
use Rattle.kx_lex.proofs.Lawful.{Lawful, Admits, ◌>>=◌, give-lawful, one-lawful, one_as-lawful}

unfoldable pub mark-lawful : (text : List ℕ) (byte : ℕ) → Lawful text (mark text byte)
unfolding mark
mark-lawful text byte = one-lawful text (is_mark byte)

pub mark-front : (text : List ℕ) (byte : ℕ) → Admits (front (is_mark byte)) (mark text byte)
unfolding mark
mark-front text byte ts t rest s = rw s.0 s.1

-- a mark takes one token at least
pub mark-least : (text : List ℕ) (byte : ℕ) → 1 ≤ (mark-lawful text byte).least
unfolding mark-lawful
mark-least text byte = omega arith

unfoldable pub keyword-lawful : (text : List ℕ) (wanted : Keyword) → Lawful text (keyword text wanted)
unfolding keyword
keyword-lawful text wanted = one-lawful text (is_keyword wanted)

pub keyword-front : (text : List ℕ) (wanted : Keyword) → Admits (front (is_keyword wanted)) (keyword text wanted)
unfolding keyword
keyword-front text wanted ts t rest s = rw s.0 s.1

pub keyword-behind : (text : List ℕ) (wanted : Keyword) (ts : List Token) (t : Token) (rest : List Token) → (keyword text wanted).spells ts t rest → drop 1 ts ≡ rest
unfolding keyword
keyword-behind text wanted ts t rest s = rw s.0 refl

unfoldable pub word-lawful : (text : List ℕ) → Lawful text (word text)
unfolding word
word-lawful text = do
  t ← one-lawful text is_word
  give-lawful _

pub word-front : (text : List ℕ) → Admits (front is_word) (word text)
unfolding word
word-front text ts x rest s = rw s.2.0 s.2.1

pub word-behind : (text : List ℕ) (ts : List Token) (x : Name) (rest : List Token) → (word text).spells ts x rest → drop 1 ts ≡ rest
unfolding word
word-behind text ts x rest s = rw s.2.0 s.3.1

-- where they are not, the token may not stand there
pub enclosed-stops : (text : List ℕ) (t : Token) (e : Fault) → is_key_name t ≡ true → enclosed text t ≡ Err e → StopsAt text t e
enclosed-stops text t e kind w = go (list_all is_key_byte (inner_of text t)) w
  where
    go : (b : Bool) → (if b then Ok (enclosed_name text t) else Err (syntax_at t)) ≡ Err e → StopsAt text t e
    go true w = cc
    go false w = inl (let same : syntax_at t ≡ e = cc in sym same)

unfoldable pub key_name-lawful : (text : List ℕ) → Lawful text (key_name text)
unfolding key_name
key_name-lawful text = one_as-lawful text is_key_name (enclosed text) (enclosed-stops text)

pub key_name-front : (text : List ℕ) → Admits (front is_key_name) (key_name text)
unfolding key_name
key_name-front text ts x rest s = rw s.2.0 s.2.1

unfoldable pub text_name-lawful : (text : List ℕ) → Lawful text (text_name text)
unfolding text_name
text_name-lawful text = do
  t ← one-lawful text is_text
  give-lawful _

pub text_name-front : (text : List ℕ) → Admits (front is_text) (text_name text)
unfolding text_name
text_name-front text ts x rest s = rw s.2.0 s.2.1

-- what isn't measured is 2^32 or more
pub measured-stops : (text : List ℕ) (t : Token) (e : Fault) → is_number t ≡ true → measured (number_value (slice_of text t)) t.span ≡ Err e → StopsAt text t e
measured-stops text t e kind w = go (nat_lt (number_value (slice_of text t)) (2 ^ 32)) refl w
  where
    go : (b : Bool) → nat_lt (number_value (slice_of text t)) (2 ^ 32) ≡ b → (if b then Ok (record { value = number_value (slice_of text t); span = t.span }) else too_big t.span) ≡ Err e → StopsAt text t e
    go true h v = cc
    go false h v = inr (record { kind = kind; value = ltb-false _ _ h; fault = let same : NumberTooBig (record { file = 0; span = t.span }) ≡ e = cc in sym same })

unfoldable pub number-lawful : (text : List ℕ) → Lawful text (number text)
unfolding number
number-lawful text = one_as-lawful text is_number _ (measured-stops text)

pub number-front : (text : List ℕ) → Admits (front is_number) (number text)
unfolding number
number-front text ts x rest s = rw s.2.0 s.2.1
