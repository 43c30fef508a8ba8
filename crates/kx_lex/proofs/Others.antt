-- A token that passes one test fails another: for the tests by which lists go on up to their closing mark.
use Rattle.std.proofs.Common.{Some, ℕ, true, false, not, ◌==◌, List, [], ◌∷◌, ◌≡◌, refl}
use Rattle.std.proofs.lemmas.Bool.{eqb-true}
use Rattle.kx_lex.specs.declared.keyword.Keyword.{Keyword}
use Rattle.kx_lex.specs.declared.token.Token.{Token}
use Rattle.kx_lex.specs.declared.token.TokenKind.{TokenKind}
use Rattle.kx_lex.specs.contracts.token.TokenKindPartialEq.TheImpl.{ghosts}
use Rattle.kx_lex.specs.declared.token.TokenKind.TheVariants.{Word, Number, KeyName, Text, Mark}
use Rattle.kx_lex.specs.Kinds.{is_word_kind, is_word, is_number, is_key_name, is_text, is_mark, is_keyword, front, before_mark}

word_kind : (k : TokenKind) (close : ℕ) → is_word_kind k ≡ true → not (ghosts.eq k (Mark close)) ≡ true
word_kind (Mark b) close h = cc
word_kind _ close h = refl

number_kind : (k : TokenKind) (close : ℕ) → ghosts.eq k Number ≡ true → not (ghosts.eq k (Mark close)) ≡ true
number_kind (Mark b) close h = cc
number_kind _ close h = refl

key_name_kind : (k : TokenKind) (close : ℕ) → ghosts.eq k KeyName ≡ true → not (ghosts.eq k (Mark close)) ≡ true
key_name_kind (Mark b) close h = cc
key_name_kind _ close h = refl

text_kind : (k : TokenKind) (close : ℕ) → ghosts.eq k Text ≡ true → not (ghosts.eq k (Mark close)) ≡ true
text_kind (Mark b) close h = cc
text_kind _ close h = refl

other_mark : (byte close : ℕ) (k : TokenKind) → (byte == close) ≡ false → ghosts.eq k (Mark byte) ≡ true → not (ghosts.eq k (Mark close)) ≡ true
other_mark byte close (Mark b) d h = rw (eqb-true b byte h) (rw d refl)
other_mark byte close _ d h = refl

keyword_kind : (keyword : Keyword) (k : TokenKind) → ghosts.eq k (Word (Some keyword)) ≡ true → is_word_kind k ≡ true
keyword_kind keyword (Word w) h = refl
keyword_kind keyword _ h = cc

-- no other token is a keyword
pub other-keyword : (keyword : Keyword) (k : TokenKind) → is_word_kind k ≡ false → ghosts.eq k (Word (Some keyword)) ≡ false
other-keyword keyword (Word w) h = cc
other-keyword keyword _ h = refl

pub word-before : (close : ℕ) (ts : List Token) → front is_word ts ≡ true → before_mark close ts ≡ true
word-before close [] h = cc
word-before close (t ∷ ts) h = word_kind t.kind close h

pub number-before : (close : ℕ) (ts : List Token) → front is_number ts ≡ true → before_mark close ts ≡ true
number-before close [] h = cc
number-before close (t ∷ ts) h = number_kind t.kind close h

pub key_name-before : (close : ℕ) (ts : List Token) → front is_key_name ts ≡ true → before_mark close ts ≡ true
key_name-before close [] h = cc
key_name-before close (t ∷ ts) h = key_name_kind t.kind close h

pub text-before : (close : ℕ) (ts : List Token) → front is_text ts ≡ true → before_mark close ts ≡ true
text-before close [] h = cc
text-before close (t ∷ ts) h = text_kind t.kind close h

pub mark-before : (byte close : ℕ) → (byte == close) ≡ false → (ts : List Token) → front (is_mark byte) ts ≡ true → before_mark close ts ≡ true
mark-before byte close d [] h = cc
mark-before byte close d (t ∷ ts) h = other_mark byte close t.kind d h

-- a keyword is a word
pub keyword-word : (keyword : Keyword) (ts : List Token) → front (is_keyword keyword) ts ≡ true → front is_word ts ≡ true
unfolding is_keyword
keyword-word keyword [] h = cc
keyword-word keyword (t ∷ ts) h = keyword_kind keyword t.kind h
