-- The tokens of a place are those that a value there was spelled by, and two more.
use Rattle.std.proofs.Common.{ℕ, ◌+◌, ◌-◌, ◌≤◌, ◌<◌, Bool, true, false, cond, ◌==◌, List, [], ◌∷◌, ◌++◌, drop, drop_of_length-le, take, length, ◌≡◌, slice_index, sym, ◌∙◌, ap, subst, refl, arith, length-append, length-drop}
use Rattle.std.proofs.lemmas.Bool.{lt-ltb, le-ltb, ltb-true, ltb-false}
use Rattle.std.proofs.lemmas.List.{drop-drop}
use Rattle.std.specs.Char.{is_ascii_digit, is_ascii_hexdigit}
use Rattle.std.specs.List.{prefix_len}
use Rattle.std.specs.Prelude.{nat_lt}
use Rattle.kx_basics.specs.KeyNames.{is_key_byte}
use Rattle.kx_lex.specs.Bytes.{is_not_line_feed, is_word_byte}
use Rattle.kx_lex.specs.PlacedTokens.{front_until}
use Rattle.kx_lex.specs.Pieces.{begins_hex, extent, key_name_piece, number_piece, piece, string_piece}
use Rattle.kx_lex.specs.Production.{front_span, span_between}
use Rattle.kx_lex.specs.Passing.{ReadsEnd}
use Rattle.kx_lex.specs.Reading.{Reads, ended, skipped, taken}
use Rattle.kx_lex.specs.Starts.{start_of}
use Rattle.kx_lex.specs.declared.scan.Extent.{Extent}
use Rattle.kx_lex.specs.declared.scan.Extent.TheVariants.{Closed, Open}
use Rattle.kx_lex.specs.declared.scan.Piece.TheVariants.{Gap, Lexeme, OpenKeyName}
use Rattle.kx_lex.specs.declared.start.Start.{Start}
use Rattle.kx_lex.specs.declared.start.Start.TheVariants as starts
use Rattle.kx_lex.specs.declared.token.Token.{Token}
use Rattle.kx_lex.specs.declared.token.TokenKind.{TokenKind}
use Rattle.kx_lex.specs.declared.token.TokenKind.TheVariants.{Decimal, KeyName, Mark, Number}
use Rattle.kx_lex.proofs.Nearby.{SameFront, none, only, both}
use Rattle.kx_lex.proofs.Pieces.{digit-more, piece-start, piece_of, word-more}

-- ---- A token takes a byte at least

some-text : (e : Extent) (kind : TokenKind) (n : ℕ) → string_piece e ≡ Lexeme kind n → 0 < n
some-text (Closed m) kind n p = let same : m + 1 ≡ n = cc in omega arith
some-text (Open m) kind n p = cc

some-key_name : (bs : List ℕ) (kind : TokenKind) (n : ℕ) → key_name_piece bs ≡ Lexeme kind n → 0 < n
unfolding key_name_piece
some-key_name bs kind n p = go (slice_index bs (prefix_len is_key_byte bs) == 62) p
  where
    go : (b : Bool) → cond b (Lexeme KeyName (prefix_len is_key_byte bs + 2)) (OpenKeyName (prefix_len is_key_byte bs + 1)) ≡ Lexeme kind n → 0 < n
    go true q = let same : prefix_len is_key_byte bs + 2 ≡ n = cc in omega arith
    go false q = cc

some-number : (b : ℕ) (bs : List ℕ) (kind : TokenKind) (n : ℕ) → start_of b ≡ starts.Digit → number_piece (b ∷ bs) ≡ Lexeme kind n → 0 < n
unfolding number_piece
some-number b bs kind n e p = go (begins_hex (b ∷ bs)) (slice_index (b ∷ bs) (prefix_len is_ascii_digit (b ∷ bs)) == 46) p (digit-more b bs e)
  where
    go : (hex point : Bool) → cond hex (Lexeme Number (2 + prefix_len is_ascii_hexdigit (drop 2 (b ∷ bs)))) (cond point (Lexeme Decimal (prefix_len is_ascii_digit (b ∷ bs) + 1 + prefix_len is_ascii_digit (drop (prefix_len is_ascii_digit (b ∷ bs) + 1) (b ∷ bs)))) (Lexeme Number (prefix_len is_ascii_digit (b ∷ bs)))) ≡ Lexeme kind n → prefix_len is_ascii_digit (b ∷ bs) ≡ 1 + prefix_len is_ascii_digit bs → 0 < n
    go true point q more = let same : 2 + prefix_len is_ascii_hexdigit (drop 2 (b ∷ bs)) ≡ n = cc in omega arith
    go false true q more = let same : prefix_len is_ascii_digit (b ∷ bs) + 1 + prefix_len is_ascii_digit (drop (prefix_len is_ascii_digit (b ∷ bs) + 1) (b ∷ bs)) ≡ n = cc in omega arith
    go false false q more = let same : prefix_len is_ascii_digit (b ∷ bs) ≡ n = cc in omega arith

some-of : (s : Start) (b : ℕ) (bs : List ℕ) (kind : TokenKind) (n : ℕ) → start_of b ≡ s → piece_of s b bs ≡ Lexeme kind n → 0 < n
some-of starts.Word b bs kind n e p = let more = word-more b bs e in let same : prefix_len is_word_byte (b ∷ bs) ≡ n = cc in omega arith
some-of starts.Digit b bs kind n e p = some-number b bs kind n e p
some-of starts.Blank b bs kind n e p = cc
some-of starts.Hash b bs kind n e p = cc
some-of starts.Slash b bs kind n e p = go (slice_index bs 0 == 47) p
  where
    go : (slash : Bool) → cond slash (Gap (prefix_len is_not_line_feed (b ∷ bs))) (Lexeme (Mark b) 1) ≡ Lexeme kind n → 0 < n
    go true q = cc
    go false q = let same : 1 ≡ n = cc in omega arith
some-of starts.Quote b bs kind n e p = some-text (extent false bs) kind n p
some-of starts.Angle b bs kind n e p = some-key_name bs kind n p
some-of starts.Mark b bs kind n e p = let same : 1 ≡ n = cc in omega arith
some-of starts.Nothing b bs kind n e p = cc

token-some : (bs : List ℕ) (kind : TokenKind) (n : ℕ) → piece bs ≡ Lexeme kind n → 0 < n
unfolding piece
token-some [] kind n p = cc
token-some (b ∷ bs) kind n p = some-of (start_of b) b bs kind n refl (sym (piece-start b bs) ∙ p)

-- ---- Tokens stand one after the other

-- the first token, and the reading after it
reads-behind : {offset : ℕ} {bs : List ℕ} {t : Token} {ts : List Token} → Reads offset bs (t ∷ ts) → (next : ℕ) × (cs : List ℕ) × Reads next cs ts × (offset ≤ t.span.start) × (t.span.start < t.span.stop) × (t.span.stop ≤ next)
reads-behind {offset} (skipped n e r) = let more = reads-behind r in (more.0, more.1, more.2, (let less = more.3 in omega arith), more.4, more.5)
reads-behind {offset} {bs} (taken kind n e r) = (offset + n, drop n bs, r, omega arith, (let some = token-some bs kind n e in omega arith), omega arith)

-- where the last of some tokens ends
abbrev pub last_stop : Token → List Token → ℕ
last_stop t [] = t.span.stop
last_stop t (u ∷ ts) = last_stop u ts

starts-before : (t : Token) (before rest : List Token) {offset : ℕ} {bs : List ℕ} → Reads offset bs (t ∷ (before ++ rest)) → t.span.start < last_stop t before
starts-before t [] rest r = (reads-behind r).4
starts-before t (u ∷ us) rest r =
    let more = reads-behind r in
    let next = reads-behind more.2 in
    let last = starts-before u us rest more.2 in
    let here = more.4 in
    let apart = more.5 in
    let there = next.3 in
    omega arith

until-behind : {offset : ℕ} {bs : List ℕ} (stop : ℕ) (rest : List Token) → stop ≤ offset → Reads offset bs rest → front_until stop rest ≡ take 2 rest
until-behind stop [] h r = refl
until-behind stop (t ∷ ts) h r = let after = (reads-behind r).3 in rw (le-ltb t.span.start stop (omega arith)) refl

-- up to where the last of some tokens ends
pub until-last : (t : Token) (before rest : List Token) {offset : ℕ} {bs : List ℕ} → Reads offset bs (t ∷ (before ++ rest)) → front_until (last_stop t before) (t ∷ (before ++ rest)) ≡ t ∷ (before ++ take 2 rest)
until-last t [] rest r =
    let more = reads-behind r in
    rw (lt-ltb t.span.start t.span.stop more.4) (ap (λ (ts : List Token). t ∷ ts) (until-behind t.span.stop rest more.5 more.2))
until-last t (u ∷ us) rest r =
    let more = reads-behind r in
    rw (lt-ltb t.span.start (last_stop u us) (starts-before t (u ∷ us) rest r)) (ap (λ (ts : List Token). t ∷ ts) (until-last u us rest more.2))

-- where what was spelled ends
last_of : (t : Token) (before rest : List Token) → (front_span (drop (length before) (t ∷ (before ++ rest)))).stop ≡ last_stop t before
last_of t [] rest = refl
last_of t (u ∷ us) rest = last_of u us rest

pub spanned-stop : (t : Token) (before rest : List Token) → (span_between (t ∷ (before ++ rest)) rest).stop ≡ last_stop t before
spanned-stop t before rest = ap (λ (n : ℕ). (front_span (drop n (t ∷ (before ++ rest)))).stop) (omega (arith, length-append before rest)) ∙ last_of t before rest

-- no more than two tokens are looked at
pub SameFront-two : (rest : List Token) → SameFront rest (take 2 rest)
SameFront-two [] = none
SameFront-two (t ∷ []) = only
SameFront-two (t ∷ u ∷ ts) = both

-- ---- Tokens by where they stand in a text

nothing-read : {offset : ℕ} (other : ℕ) {us : List Token} → Reads offset [] us → Reads other [] us
unfolding piece
nothing-read other (ended e) = ended e
nothing-read other (skipped n e r) = cc
nothing-read other (taken kind n e r) = cc

-- what the text is read as from an offset on, its end is read as
pub reads-end : (text : List ℕ) (start : ℕ) (us : List Token) → Reads start (drop start text) us → ReadsEnd text (drop start text) us
reads-end text start us r = go (nat_lt (length text) start) refl
  where
    go : (b : Bool) → nat_lt (length text) start ≡ b → ReadsEnd text (drop start text) us
    go true beyond =
        let gone : drop start text ≡ [] = drop_of_length-le text (let less = ltb-true _ _ beyond in omega arith) in
        subst (λ (bs : List ℕ). Reads (length text - length bs) bs us) (sym gone) (nothing-read (length text - 0) (subst (λ (bs : List ℕ). Reads start bs us) gone r))
    go false within =
        let here : start ≡ length text - length (drop start text) = (let less = ltb-false _ _ within in omega (arith, length-drop start text)) in
        subst (λ (k : ℕ). Reads k (drop start text) us) here r

-- the tokens of a text from somewhere on
abbrev pub IsFrom : List ℕ → List Token → Type 0
IsFrom text us = (offset : ℕ) × Reads offset (drop offset text) us

further : (text : List ℕ) (offset n : ℕ) (us : List Token) → Reads (offset + n) (drop n (drop offset text)) us → Reads (offset + n) (drop (offset + n) text) us
further text offset n us r = subst (λ (bs : List ℕ). Reads (offset + n) bs us) (drop-drop n offset text) r

-- from a token on
pub from-token : (text : List ℕ) (offset : ℕ) (bs : List ℕ) (t : Token) (ts : List Token) → bs ≡ drop offset text → Reads offset bs (t ∷ ts) → Reads t.span.start (drop t.span.start text) (t ∷ ts)
from-token text offset bs t ts e (skipped n p r) = from-token text (offset + n) (drop n bs) t ts (ap (λ (cs : List ℕ). drop n cs) e ∙ drop-drop n offset text) r
from-token text offset bs t ts e (taken kind n p r) = subst (λ (cs : List ℕ). Reads offset cs (t ∷ ts)) e (taken kind n p r)

behind-token : (text : List ℕ) (offset : ℕ) (bs : List ℕ) (t : Token) (ts : List Token) → bs ≡ drop offset text → Reads offset bs (t ∷ ts) → IsFrom text ts
behind-token text offset bs t ts e (skipped n p r) = behind-token text (offset + n) (drop n bs) t ts (ap (λ (cs : List ℕ). drop n cs) e ∙ drop-drop n offset text) r
behind-token text offset bs t ts e (taken kind n p r) = (offset + n, subst (λ (cs : List ℕ). Reads (offset + n) cs ts) (ap (λ (cs : List ℕ). drop n cs) e ∙ drop-drop n offset text) r)

-- after some tokens
pub from-behind : (text : List ℕ) (before rest : List Token) → IsFrom text (before ++ rest) → IsFrom text rest
from-behind text [] rest f = f
from-behind text (t ∷ before) rest f = from-behind text before rest (behind-token text f.0 (drop f.0 text) t (before ++ rest) refl f.1)
