-- What is passed over by its bytes is spelled by its tokens.
use Rattle.std.proofs.Common.{Option, slice_index, ◌∙◌, Ok, if◌then◌else◌, ◌<◌, ◌^◌, ◌≡◌, ◌≢◌, ℕ, suc, cond, ◌+◌, ◌-◌, ◌≤◌, Bool, true, false, ◌||◌, ◌&&◌, not, ◌==◌, List, [], ◌∷◌, ◌++◌, length, take, drop, subst, sym, ap, ap₂, refl, inl, inr, ◌⊎◌, arith, append_assoc, length-append, length-drop}
use Rattle.std.proofs.lemmas.Bool.{eq-eqb, eqb-true, ltb-false}
use Rattle.std.proofs.lemmas.List.Sums.{prefix_len-le-length}
use Rattle.std.proofs.Math.Seq.{drop-append_seam}
use Rattle.std.specs.Prelude.{nat_lt, slice_range}
use Rattle.std.specs.List.{list_all, prefix_len}
use Rattle.std.specs.Char.{is_ascii_digit, is_ascii_hexdigit}
use Rattle.std.proofs.lemmas.List.{drop-drop, drop_at, take-append-drop}
use Rattle.kx_basics.specs.KeyNames.{is_key_byte}
use Rattle.kx_lex.specs.Bytes.{is_blank, is_mark as is_mark_byte, is_not_line_feed, is_word_byte, is_word_start}
use Rattle.kx_lex.specs.Kinds.{front, inner_of, is_key_name, is_text, is_word, is_word_kind, is_mark, number_value}
use Rattle.kx_lex.specs.Passing.{front_byte, IsAtToken, IsNoWord, Ends, ReadsEnd, Skips, Lexes, Passes, PassesAs, is_single, token, PassesWord}
use Rattle.kx_lex.specs.Pieces.{begins_comment, begins_hex, extent, key_name_piece, longer, number_piece, piece, string_piece, word_piece}
use Rattle.kx_lex.specs.Production.{Production, front_span}
use Rattle.kx_lex.specs.Reading.{IsReading, mark_len, Reads, ended, skipped, span_of, taken, token_of}
use Rattle.kx_lex.specs.Starts.{start_of}
use Rattle.kx_lex.specs.Strings.{text_value}
use Rattle.kx_lex.specs.Tokens.{enclosed, enclosed_name, key_name, mark, measured, number, text_name, too_big, word}
use Rattle.kx_lex.specs.contracts.token.TokenKindPartialEq.TheImpl.{ghosts}
use Rattle.kx_lex.specs.declared.keyword.Keyword.{Keyword}
use Rattle.kx_lex.specs.declared.name.Name.{Name}
use Rattle.kx_lex.specs.declared.name.Number.{Number as NumberValue}
use Rattle.kx_lex.specs.declared.scan.Extent.{Extent}
use Rattle.kx_lex.specs.declared.scan.Extent.TheVariants.{Closed, Open}
use Rattle.kx_lex.specs.declared.scan.Piece.TheVariants.{BadByte, End, Gap, Lexeme, OpenKeyName}
use Rattle.kx_lex.specs.declared.start.Start.{Start}
use Rattle.kx_lex.specs.declared.start.Start.TheVariants as starts
use Rattle.kx_lex.specs.declared.string.EscapeState.TheVariants.{Plain}
use Rattle.kx_lex.specs.declared.token.Span.{Span}
use Rattle.kx_lex.specs.declared.token.Token.{Token}
use Rattle.kx_lex.specs.declared.token.TokenKind.{TokenKind}
use Rattle.kx_lex.specs.declared.token.TokenKind.TheVariants.{Decimal, KeyName, Mark, Number, Text, Word}
use Rattle.kx_lex.proofs.KeyNames.{no_number, no_string, one_token}
use Rattle.kx_lex.proofs.Readings.{blanks-gap, reads-gap}
use Rattle.kx_lex.proofs.Pieces.{digit-start, piece-end, piece_of, piece-start}

pub Ends-self : (bs : List ℕ) → Ends bs bs
Ends-self bs = record { before = []; bytes = refl }

pub Ends-drop : (n : ℕ) (bs : List ℕ) → Ends bs (drop n bs)
Ends-drop n bs = record { before = take n bs; bytes = sym (take-append-drop n bs) }

pub Ends-more : {text bs rest : List ℕ} → Ends text bs → Ends bs rest → Ends text rest
Ends-more {text} {bs} {rest} a b = record { before = a.before ++ b.before; bytes = rw append_assoc (subst (λ (cs : List ℕ). text ≡ a.before ++ cs) b.bytes a.bytes) }

pub Ends-length : {text bs : List ℕ} → Ends text bs → length bs ≤ length text
Ends-length {text} {bs} e = rw e.bytes (omega (arith, length-append e.before bs))

-- where they stand in their text
pub Ends-here : {text bs : List ℕ} → Ends text bs → bs ≡ drop (length text - length bs) text
Ends-here {text} {bs} e = rw e.bytes (dropped e.before bs (length (e.before ++ bs) - length bs) (omega (arith, length-append e.before bs)))
  where
    dropped : (before bs : List ℕ) (n : ℕ) → n ≡ length before → bs ≡ drop n (before ++ bs)
    dropped before bs n same = sym (drop_at before bs n (sym same))

-- further on in a text
further : (text bs : List ℕ) (n : ℕ) → length bs ≤ length text → n ≤ length bs → length text - length (drop n bs) ≡ (length text - length bs) + n
further text bs n within short = omega (arith, length-drop n bs)

behind : {text bs : List ℕ} {n : ℕ} {ts : List Token} → Ends text bs → n ≤ length bs → ReadsEnd text (drop n bs) ts → Reads ((length text - length bs) + n) (drop n bs) ts
behind {text} {bs} {n} {ts} ends short r = subst (λ (k : ℕ). Reads k (drop n bs) ts) (further text bs n (Ends-length ends) short) r

ahead : {text bs : List ℕ} {n : ℕ} {ts : List Token} → Ends text bs → n ≤ length bs → Reads ((length text - length bs) + n) (drop n bs) ts → ReadsEnd text (drop n bs) ts
ahead {text} {bs} {n} {ts} ends short r = subst (λ (k : ℕ). Reads k (drop n bs) ts) (sym (further text bs n (Ends-length ends) short)) r

-- after a token goes on what is read of it
reads-token : {offset n : ℕ} {kind : TokenKind} {bs : List ℕ} {us : List Token} → piece bs ≡ Lexeme kind n → Reads offset bs us → (ts : List Token) × (us ≡ token_of kind offset n ∷ ts) × Reads (offset + n) (drop n bs) ts
reads-token g (ended e) = cc
reads-token g (skipped m e r) = cc
reads-token {offset} {n} {kind} {bs} g (taken {ts} found m e r) =
    let same : m ≡ n = cc in
    let kinds : found ≡ kind = cc in
    (ts, rw (same, kinds) refl, subst (λ (k : ℕ). Reads (offset + k) (drop k bs) ts) same r)

pub Skips-self : (bs : List ℕ) → Skips bs bs
Skips-self bs = record { ends = Ends-self bs; reads = λ text ts e r. r; leaves = λ text ts e r. r }

pub Skips-more : {bs mid rest : List ℕ} → Skips bs mid → Skips mid rest → Skips bs rest
Skips-more a b = record {
  ends = Ends-more a.ends b.ends;
  reads = λ text ts e r. a.reads text ts e (b.reads text ts (Ends-more e a.ends) r);
  leaves = λ text ts e r. b.leaves text ts (Ends-more e a.ends) (a.leaves text ts e r);
}

pub Skips-gap : (bs : List ℕ) (n : ℕ) → n ≤ length bs → piece bs ≡ Gap n → Skips bs (drop n bs)
Skips-gap bs n short e = record {
  ends = Ends-drop n bs;
  reads = λ text ts ends r. skipped n e (behind ends short r);
  leaves = λ text ts ends r. ahead ends short (reads-gap e r);
}

pub Skips-on : {bs rest : List ℕ} → Skips bs rest → (n : ℕ) → n ≤ length rest → piece rest ≡ Gap n → Skips bs (drop n rest)
Skips-on {bs} {rest} s n short e = Skips-more s (Skips-gap rest n short e)

pub Skips-blanks : (bs : List ℕ) → Skips bs (drop (prefix_len is_blank bs) bs)
Skips-blanks bs = go (blanks-gap bs)
  where
    go : (prefix_len is_blank bs ≡ 0) ⊎ (piece bs ≡ Gap (prefix_len is_blank bs)) → Skips bs (drop (prefix_len is_blank bs) bs)
    go (inl none) = subst (λ (n : ℕ). Skips bs (drop n bs)) (sym none) (Skips-self bs)
    go (inr gap) = Skips-gap bs (prefix_len is_blank bs) (prefix_len-le-length is_blank bs) gap

-- none is left after them
pub no_blank : (bs : List ℕ) → is_blank (slice_index (drop (prefix_len is_blank bs) bs) 0) ≡ false
no_blank [] = refl
no_blank (b ∷ bs) = go (is_blank b) refl (no_blank bs)
  where
    go : (blank : Bool) → is_blank b ≡ blank → is_blank (slice_index (drop (prefix_len is_blank bs) bs) 0) ≡ false → is_blank (slice_index (drop (prefix_len is_blank (b ∷ bs)) (b ∷ bs)) 0) ≡ false
    go true h more = let one : prefix_len is_blank (b ∷ bs) ≡ suc (prefix_len is_blank bs) = rw h (omega arith) in subst (λ (n : ℕ). is_blank (slice_index (drop n (b ∷ bs)) 0) ≡ false) (sym one) more
    go false h more = rw h h

pub Lexes-self : (bs : List ℕ) → Lexes bs bs
Lexes-self bs = record { ends = Ends-self bs; read = λ text ts ends r. (ts, r) }

pub Lexes-more : {bs mid rest : List ℕ} → Lexes bs mid → Lexes mid rest → Lexes bs rest
Lexes-more a b = record {
  ends = Ends-more a.ends b.ends;
  read = λ text ts ends r. let m = b.read text ts (Ends-more ends a.ends) r in a.read text m.0 ends m.1;
}

-- one token, and what is skipped after it
module _ {bs rest : List ℕ} {kind : TokenKind} {n : ℕ} (e : piece bs ≡ Lexeme kind n) (short : n ≤ length bs) (s : Skips (drop n bs) rest) where
  pub token-lexes : Lexes bs rest
  token-lexes = record {
    ends = Ends-more (Ends-drop n bs) s.ends;
    read = λ text ts ends r. (token_of kind (length text - length bs) n ∷ ts, taken kind n e (behind ends short (s.reads text ts (Ends-more ends (Ends-drop n bs)) r)));
  }

  -- what is read begins with it
  pub token-begins : (text : List ℕ) (us : List Token) → Ends text bs → ReadsEnd text bs us → (ts : List Token) × (us ≡ token_of kind (length text - length bs) n ∷ ts) × ReadsEnd text rest ts
  token-begins text us ends r =
      let t = reads-token e r in
      (t.0, t.1, s.leaves text t.0 (Ends-more ends (Ends-drop n bs)) (ahead ends short t.2))

  pub token-passes : {A : Type 0} (p : List ℕ → Production A) → ((text : List ℕ) (ts : List Token) → Ends text bs → (x : A) × (p text).spells (token_of kind (length text - length bs) n ∷ ts) x ts) → Passes p bs rest
  token-passes {A} p spells = record {
    lexes = token-lexes;
    spelled = λ text us ends r.
        let t = token-begins text us ends r in
        let x = spells text t.0 ends in
        (x.0, t.0, subst (λ (vs : List Token). (p text).spells vs x.0 t.0) (sym t.1) x.1, t.2);
  }

-- a mark
single : (b : ℕ) (bs : List ℕ) → (k : ℕ) → (b == k) ≡ true → piece (k ∷ bs) ≡ Lexeme (Mark k) 1 → piece (b ∷ bs) ≡ Lexeme (Mark b) 1
single b bs k is e = subst (λ (m : ℕ). piece (m ∷ bs) ≡ Lexeme (Mark m) 1) (sym (eqb-true b k is)) e

pub single-piece : (b : ℕ) (bs : List ℕ) → is_single b ≡ true → piece (b ∷ bs) ≡ Lexeme (Mark b) 1
unfolding piece
single-piece b bs is = by (b == 123) refl (b == 125) refl (b == 91) refl (b == 93) refl (b == 40) refl (b == 41) refl (b == 59) refl (b == 44) refl (b == 46) refl (b == 61) refl (b == 43) refl (b == 45) refl (b == 33) refl is
  where
    by : (c1 : Bool) → (b == 123) ≡ c1 → (c2 : Bool) → (b == 125) ≡ c2 → (c3 : Bool) → (b == 91) ≡ c3 → (c4 : Bool) → (b == 93) ≡ c4 → (c5 : Bool) → (b == 40) ≡ c5 → (c6 : Bool) → (b == 41) ≡ c6 → (c7 : Bool) → (b == 59) ≡ c7 → (c8 : Bool) → (b == 44) ≡ c8 → (c9 : Bool) → (b == 46) ≡ c9 → (d1 : Bool) → (b == 61) ≡ d1 → (d2 : Bool) → (b == 43) ≡ d2 → (d3 : Bool) → (b == 45) ≡ d3 → (d4 : Bool) → (b == 33) ≡ d4
        → (c1 || (c2 || (c3 || (c4 || (c5 || (c6 || (c7 || (c8 || (c9 || (d1 || (d2 || (d3 || d4)))))))))))) ≡ true → piece (b ∷ bs) ≡ Lexeme (Mark b) 1
    by true e _ _ _ _ _ _ _ _ _ _ _ _ _ _ _ _ _ _ _ _ _ _ _ _ h = single b bs 123 e refl
    by false _ true e _ _ _ _ _ _ _ _ _ _ _ _ _ _ _ _ _ _ _ _ _ _ h = single b bs 125 e refl
    by false _ false _ true e _ _ _ _ _ _ _ _ _ _ _ _ _ _ _ _ _ _ _ _ h = single b bs 91 e refl
    by false _ false _ false _ true e _ _ _ _ _ _ _ _ _ _ _ _ _ _ _ _ _ _ h = single b bs 93 e refl
    by false _ false _ false _ false _ true e _ _ _ _ _ _ _ _ _ _ _ _ _ _ _ _ h = single b bs 40 e refl
    by false _ false _ false _ false _ false _ true e _ _ _ _ _ _ _ _ _ _ _ _ _ _ h = single b bs 41 e refl
    by false _ false _ false _ false _ false _ false _ true e _ _ _ _ _ _ _ _ _ _ _ _ h = single b bs 59 e refl
    by false _ false _ false _ false _ false _ false _ false _ true e _ _ _ _ _ _ _ _ _ _ h = single b bs 44 e refl
    by false _ false _ false _ false _ false _ false _ false _ false _ true e _ _ _ _ _ _ _ _ h = single b bs 46 e refl
    by false _ false _ false _ false _ false _ false _ false _ false _ false _ true e _ _ _ _ _ _ h = single b bs 61 e refl
    by false _ false _ false _ false _ false _ false _ false _ false _ false _ false _ true e _ _ _ _ h = single b bs 43 e refl
    by false _ false _ false _ false _ false _ false _ false _ false _ false _ false _ false _ true e _ _ h = single b bs 45 e refl
    by false _ false _ false _ false _ false _ false _ false _ false _ false _ false _ false _ false _ true e h = single b bs 33 e refl
    by false _ false _ false _ false _ false _ false _ false _ false _ false _ false _ false _ false _ false _ h = cc

pub mark-passes : (byte : ℕ) (bs : List ℕ) (first : ℕ) (left rest : List ℕ) → bs ≡ first ∷ left → first ≡ byte → is_single byte ≡ true → Skips left rest → Passes (λ text. mark text byte) bs rest
unfolding mark
mark-passes byte bs first left rest e same is s = rw (e, same) (token-passes (single-piece byte left is) (omega arith) s (λ text. mark text byte) (λ text ts ends. (_, (refl, search arith))))

pub word-passes : {keyword : Option Keyword} {bs rest : List ℕ} {n : ℕ} → piece bs ≡ Lexeme (Word keyword) n → n ≤ length bs → Skips (drop n bs) rest → Passes word bs rest
unfolding word
word-passes e short s = token-passes e short s word (λ text ts ends. (_, (_, _, (refl, refl), (refl, refl))))

pub keyword-passes : {keyword : Option Keyword} {bs rest : List ℕ} {n : ℕ} → piece bs ≡ Lexeme (Word keyword) n → n ≤ length bs → Skips (drop n bs) rest → PassesWord keyword bs rest
keyword-passes e short s = record {
  lexes = token-lexes e short s;
  begins = λ text us ends r. let t = token-begins e short s text us ends r in (_, t.0, t.1, t.2);
}

-- where a word stands, what it spells doesn't matter
pub any_keyword : {keyword : Option Keyword} {bs rest : List ℕ} → PassesWord keyword bs rest → Passes word bs rest
unfolding word
any_keyword a = record {
  lexes = a.lexes;
  spelled = λ text us ends r.
      let t = a.begins text us ends r in
      (_, t.1, (_, _, (t.2, refl), (refl, refl)), t.3);
}

pub text-passes : {bs rest : List ℕ} {n : ℕ} → piece bs ≡ Lexeme Text n → n ≤ length bs → Skips (drop n bs) rest → Passes text_name bs rest
unfolding text_name
text-passes e short s = token-passes e short s text_name (λ text ts ends. (_, (_, _, (refl, refl), (refl, refl))))

pub token-any : {kind : TokenKind} {bs rest : List ℕ} {n : ℕ} → piece bs ≡ Lexeme kind n → n ≤ length bs → Skips (drop n bs) rest → Passes token bs rest
token-any e short s = token-passes e short s token (λ text ts ends. (_, (refl, refl)))

-- where a token's bytes stand in its text
slice-behind : (before bs : List ℕ) (start n : ℕ) → start ≡ length before → slice_range (before ++ bs) start (start + n) ≡ take n bs
slice-behind before bs start n e = rw e (search (arith, drop-append_seam))

token-slice : (text bs : List ℕ) (n : ℕ) → Ends text bs → slice_range text (length text - length bs) ((length text - length bs) + n) ≡ take n bs
token-slice text bs n ends = rw ends.bytes (slice-behind ends.before bs (length (ends.before ++ bs) - length bs) n (omega (arith, length-append ends.before bs)))

measured-small : (value : ℕ) (span : Span) → value < 2 ^ 32 → (x : NumberValue) × (measured value span ≡ Ok x)
measured-small value span small = go (nat_lt value (2 ^ 32)) refl
  where
    go : (b : Bool) → nat_lt value (2 ^ 32) ≡ b → (x : NumberValue) × ((if b then Ok (record { value = value; span = span }) else too_big span) ≡ Ok x)
    go true h = (_, refl)
    go false h = absurd (let great : 2 ^ 32 ≤ value = ltb-false _ _ h in omega arith)

number-spelled : (text bs : List ℕ) (ts : List Token) (n : ℕ) → Ends text bs → number_value (take n bs) < 2 ^ 32 → (x : NumberValue) × (number text).spells (token_of Number (length text - length bs) n ∷ ts) x ts
unfolding number
number-spelled text bs ts n ends small =
    let m = measured-small (number_value (slice_range text (length text - length bs) ((length text - length bs) + n))) (span_of (length text - length bs) n) (rw (token-slice text bs n ends) small) in
    (m.0, (_, _, (refl, refl), (m.1, refl)))

pub number-passes : {bs rest : List ℕ} {n : ℕ} → piece bs ≡ Lexeme Number n → n ≤ length bs → number_value (take n bs) < 2 ^ 32 → Skips (drop n bs) rest → Passes number bs rest
number-passes {bs} {rest} {n} e short small s = token-passes e short s number (λ text ts ends. number-spelled text bs ts n ends small)

pub true-false : true ≡ false → ⊥
true-false e = cc

-- a mark is read where its byte stands
number-no_mark : (byte n : ℕ) (bs : List ℕ) → number_piece bs ≡ Lexeme (Mark byte) n → ⊥
unfolding number_piece
number-no_mark byte n bs e = by (begins_hex bs) (slice_index bs (prefix_len is_ascii_digit bs) == 46) e
  where
    by : (hex point : Bool) → (if hex then Lexeme Number (2 + prefix_len is_ascii_hexdigit (drop 2 bs)) else (if point then Lexeme Decimal (prefix_len is_ascii_digit bs + 1 + prefix_len is_ascii_digit (drop (prefix_len is_ascii_digit bs + 1) bs)) else Lexeme Number (prefix_len is_ascii_digit bs))) ≡ Lexeme (Mark byte) n → ⊥
    by true point h = cc
    by false true h = cc
    by false false h = cc

text-no_mark : (byte n : ℕ) (x : Extent) → string_piece x ≡ Lexeme (Mark byte) n → ⊥
text-no_mark byte n (Closed k) e = cc
text-no_mark byte n (Open k) e = cc

key_name-no_mark : (byte n : ℕ) (bs : List ℕ) → key_name_piece bs ≡ Lexeme (Mark byte) n → ⊥
unfolding key_name_piece
key_name-no_mark byte n bs e = by (slice_index bs (prefix_len is_key_byte bs) == 62) e
  where
    by : (closed : Bool) → (if closed then Lexeme KeyName (prefix_len is_key_byte bs + 2) else OpenKeyName (prefix_len is_key_byte bs + 1)) ≡ Lexeme (Mark byte) n → ⊥
    by true h = cc
    by false h = cc

slash-mark : (b byte n k : ℕ) (comment : Bool) → (if comment then Gap k else Lexeme (Mark b) 1) ≡ Lexeme (Mark byte) n → b ≡ byte
slash-mark b byte n k true e = cc
slash-mark b byte n k false e = cc

mark-start : (s : Start) (b byte n : ℕ) (bs : List ℕ) → piece_of s b bs ≡ Lexeme (Mark byte) n → b ≡ byte
mark-start starts.Word b byte n bs e = cc
mark-start starts.Digit b byte n bs e = absurd (number-no_mark byte n (b ∷ bs) e)
mark-start starts.Blank b byte n bs e = cc
mark-start starts.Hash b byte n bs e = cc
mark-start starts.Slash b byte n bs e = slash-mark b byte n (prefix_len is_not_line_feed (b ∷ bs)) (slice_index bs 0 == 47) e
mark-start starts.Quote b byte n bs e = absurd (text-no_mark byte n (extent false bs) e)
mark-start starts.Angle b byte n bs e = absurd (key_name-no_mark byte n bs e)
mark-start starts.Mark b byte n bs e = cc
mark-start starts.Nothing b byte n bs e = cc

mark-front_byte : (byte n : ℕ) (bs : List ℕ) → piece bs ≡ Lexeme (Mark byte) n → front_byte byte bs ≡ true
unfolding piece
mark-front_byte byte n [] e = cc
mark-front_byte byte n (b ∷ bs) e = eq-eqb b byte (mark-start (start_of b) b byte n bs (sym (piece-start b bs) ∙ e))

no_mark-kind : (byte n : ℕ) (bs : List ℕ) (kind : TokenKind) → piece bs ≡ Lexeme kind n → front_byte byte bs ≡ false → ghosts.eq kind (Mark byte) ≡ false
no_mark-kind byte n bs (Mark b) e h = by (b == byte) refl
  where
    by : (same : Bool) → (b == byte) ≡ same → (b == byte) ≡ false
    by false s = s
    by true s = absurd (let there : front_byte byte bs ≡ true = mark-front_byte byte n bs (subst (λ (k : ℕ). piece bs ≡ Lexeme (Mark k) n) (eqb-true b byte s) e) in true-false (sym there ∙ h))
no_mark-kind byte n bs _ e h = refl

-- where another byte stands, no token of the rest begins with the mark
pub no_mark : (text bs : List ℕ) (ts : List Token) (byte : ℕ) → IsAtToken bs → front_byte byte bs ≡ false → ReadsEnd text bs ts → front (is_mark byte) ts ≡ false
no_mark text bs ts byte at h (ended e) = refl
no_mark text bs ts byte at h (skipped n e r) = absurd (at n e)
no_mark text bs ts byte at h (taken kind n e r) = no_mark-kind byte n bs kind e h

-- where a byte stands, something begins
number-some : (bs : List ℕ) → number_piece bs ≡ End → ⊥
unfolding number_piece
number-some bs e = by (begins_hex bs) (slice_index bs (prefix_len is_ascii_digit bs) == 46) e
  where
    by : (hex point : Bool) → (if hex then Lexeme Number (2 + prefix_len is_ascii_hexdigit (drop 2 bs)) else (if point then Lexeme Decimal (prefix_len is_ascii_digit bs + 1 + prefix_len is_ascii_digit (drop (prefix_len is_ascii_digit bs + 1) bs)) else Lexeme Number (prefix_len is_ascii_digit bs))) ≡ End → ⊥
    by true point h = cc
    by false true h = cc
    by false false h = cc

text-some : (x : Extent) → string_piece x ≡ End → ⊥
text-some (Closed k) e = cc
text-some (Open k) e = cc

key_name-some : (bs : List ℕ) → key_name_piece bs ≡ End → ⊥
unfolding key_name_piece
key_name-some bs e = by (slice_index bs (prefix_len is_key_byte bs) == 62) e
  where
    by : (closed : Bool) → (if closed then Lexeme KeyName (prefix_len is_key_byte bs + 2) else OpenKeyName (prefix_len is_key_byte bs + 1)) ≡ End → ⊥
    by true h = cc
    by false h = cc

slash-some : (b k : ℕ) (comment : Bool) → (if comment then Gap k else Lexeme (Mark b) 1) ≡ End → ⊥
slash-some b k true e = cc
slash-some b k false e = cc

some-start : (s : Start) (b : ℕ) (bs : List ℕ) → piece_of s b bs ≡ End → ⊥
some-start starts.Word b bs e = cc
some-start starts.Digit b bs e = number-some (b ∷ bs) e
some-start starts.Blank b bs e = cc
some-start starts.Hash b bs e = cc
some-start starts.Slash b bs e = slash-some b (prefix_len is_not_line_feed (b ∷ bs)) (slice_index bs 0 == 47) e
some-start starts.Quote b bs e = text-some (extent false bs) e
some-start starts.Angle b bs e = key_name-some bs e
some-start starts.Mark b bs e = cc
some-start starts.Nothing b bs e = cc

nothing-left : (bs : List ℕ) → piece bs ≡ End → length bs ≡ 0
nothing-left [] e = refl
nothing-left (b ∷ bs) e = absurd (some-start (start_of b) b bs (sym (piece-start b bs) ∙ e))

pub some_token : (text bs : List ℕ) (us : List Token) → IsAtToken bs → 0 < length bs → ReadsEnd text bs us → us ≡ [] → ⊥
some_token text bs us at some (ended e) none = let nothing = nothing-left bs e in omega arith
some_token text bs us at some (skipped n e r) none = at n e
some_token text bs us at some (taken kind n e r) none = cc

-- where no word stands, no token of the rest begins with one
word-kind : (bs : List ℕ) (kind : TokenKind) (n : ℕ) → IsNoWord bs → piece bs ≡ Lexeme kind n → is_word_kind kind ≡ false
word-kind bs (Word keyword) n none e = absurd (none keyword n e)
word-kind bs _ n none e = refl

pub no_word : (text bs : List ℕ) (ts : List Token) → IsAtToken bs → IsNoWord bs → ReadsEnd text bs ts → front is_word ts ≡ false
no_word text bs ts at none (ended e) = refl
no_word text bs ts at none (skipped n e r) = absurd (at n e)
no_word text bs ts at none (taken kind n e r) = word-kind bs kind n none e

-- a byte that begins no word, and none that begins a gap
number-no_word : (bs : List ℕ) (keyword : Option Keyword) (n : ℕ) → number_piece bs ≡ Lexeme (Word keyword) n → ⊥
unfolding number_piece
number-no_word bs keyword n e = by (begins_hex bs) (slice_index bs (prefix_len is_ascii_digit bs) == 46) e
  where
    by : (hex point : Bool) → (if hex then Lexeme Number (2 + prefix_len is_ascii_hexdigit (drop 2 bs)) else (if point then Lexeme Decimal (prefix_len is_ascii_digit bs + 1 + prefix_len is_ascii_digit (drop (prefix_len is_ascii_digit bs + 1) bs)) else Lexeme Number (prefix_len is_ascii_digit bs))) ≡ Lexeme (Word keyword) n → ⊥
    by true point h = cc
    by false true h = cc
    by false false h = cc

text-no_word : (x : Extent) (keyword : Option Keyword) (n : ℕ) → string_piece x ≡ Lexeme (Word keyword) n → ⊥
text-no_word (Closed k) keyword n e = cc
text-no_word (Open k) keyword n e = cc

key_name-no_word : (bs : List ℕ) (keyword : Option Keyword) (n : ℕ) → key_name_piece bs ≡ Lexeme (Word keyword) n → ⊥
unfolding key_name_piece
key_name-no_word bs keyword n e = by (slice_index bs (prefix_len is_key_byte bs) == 62) e
  where
    by : (closed : Bool) → (if closed then Lexeme KeyName (prefix_len is_key_byte bs + 2) else OpenKeyName (prefix_len is_key_byte bs + 1)) ≡ Lexeme (Word keyword) n → ⊥
    by true h = cc
    by false h = cc

slash-no_word : (b k : ℕ) (comment : Bool) (keyword : Option Keyword) (n : ℕ) → (if comment then Gap k else Lexeme (Mark b) 1) ≡ Lexeme (Word keyword) n → ⊥
slash-no_word b k true keyword n e = cc
slash-no_word b k false keyword n e = cc

no_word-start : (s : Start) (b : ℕ) (bs : List ℕ) (keyword : Option Keyword) (n : ℕ) → s ≢ starts.Word → piece_of s b bs ≡ Lexeme (Word keyword) n → ⊥
no_word-start starts.Word b bs keyword n other e = other refl
no_word-start starts.Digit b bs keyword n other e = number-no_word (b ∷ bs) keyword n e
no_word-start starts.Blank b bs keyword n other e = cc
no_word-start starts.Hash b bs keyword n other e = cc
no_word-start starts.Slash b bs keyword n other e = slash-no_word b (prefix_len is_not_line_feed (b ∷ bs)) (slice_index bs 0 == 47) keyword n e
no_word-start starts.Quote b bs keyword n other e = text-no_word (extent false bs) keyword n e
no_word-start starts.Angle b bs keyword n other e = key_name-no_word bs keyword n e
no_word-start starts.Mark b bs keyword n other e = cc
no_word-start starts.Nothing b bs keyword n other e = cc

pub word-none : (b : ℕ) (bs : List ℕ) → start_of b ≢ starts.Word → IsNoWord (b ∷ bs)
word-none b bs other keyword n e = no_word-start (start_of b) b bs keyword n other (sym (piece-start b bs) ∙ e)

end-piece : piece [] ≡ End
unfolding piece
end-piece = refl

-- what is passed over to the end is a reading of the whole text, and spells a value
pub nothing-read : {offset : ℕ} {ts : List Token} → Reads offset [] ts → ts ≡ []
nothing-read (ended e) = refl
nothing-read (skipped n e r) = absurd (let end = end-piece in cc)
nothing-read (taken kind n e r) = absurd (let end = end-piece in cc)

pub whole-spelled : {A : Type 0} (p : List ℕ → Production A) (text : List ℕ) → mark_len text ≤ length text → Passes p (drop (mark_len text) text) [] → (tokens : List Token) × (x : A) × IsReading text tokens × (p text).spells tokens x []
whole-spelled p text short a =
    let ends = Ends-drop (mark_len text) text in
    let us = a.lexes.read text [] ends (ended end-piece) in
    let s = a.spelled text us.0 ends us.1 in
    (us.0, s.0, record { reads = subst (λ (k : ℕ). Reads k (drop (mark_len text) text) us.0) (omega (arith, length-drop (mark_len text) text)) us.1 }, subst (λ (ts : List Token). (p text).spells us.0 s.0 ts) (nothing-read s.3) s.2)

-- a byte that begins neither blanks nor a comment
number-no_gap : (bs : List ℕ) (n : ℕ) → number_piece bs ≡ Gap n → ⊥
unfolding number_piece
number-no_gap bs n e = by (begins_hex bs) (slice_index bs (prefix_len is_ascii_digit bs) == 46) e
  where
    by : (hex point : Bool) → (if hex then Lexeme Number (2 + prefix_len is_ascii_hexdigit (drop 2 bs)) else (if point then Lexeme Decimal (prefix_len is_ascii_digit bs + 1 + prefix_len is_ascii_digit (drop (prefix_len is_ascii_digit bs + 1) bs)) else Lexeme Number (prefix_len is_ascii_digit bs))) ≡ Gap n → ⊥
    by true point h = cc
    by false true h = cc
    by false false h = cc

text-no_gap : (x : Extent) (n : ℕ) → string_piece x ≡ Gap n → ⊥
text-no_gap (Closed k) n e = cc
text-no_gap (Open k) n e = cc

key_name-no_gap : (bs : List ℕ) (n : ℕ) → key_name_piece bs ≡ Gap n → ⊥
unfolding key_name_piece
key_name-no_gap bs n e = by (slice_index bs (prefix_len is_key_byte bs) == 62) e
  where
    by : (closed : Bool) → (if closed then Lexeme KeyName (prefix_len is_key_byte bs + 2) else OpenKeyName (prefix_len is_key_byte bs + 1)) ≡ Gap n → ⊥
    by true h = cc
    by false h = cc

slash-no_gap : (b k n : ℕ) (comment : Bool) → comment ≡ false → (if comment then Gap k else Lexeme (Mark b) 1) ≡ Gap n → ⊥
slash-no_gap b k n true h e = cc
slash-no_gap b k n false h e = cc

no_gap-start : (s : Start) (b : ℕ) (bs : List ℕ) (n : ℕ) → s ≢ starts.Blank → s ≢ starts.Hash → s ≢ starts.Slash → piece_of s b bs ≡ Gap n → ⊥
no_gap-start starts.Word b bs n blank hash slash e = cc
no_gap-start starts.Digit b bs n blank hash slash e = number-no_gap (b ∷ bs) n e
no_gap-start starts.Blank b bs n blank hash slash e = blank refl
no_gap-start starts.Hash b bs n blank hash slash e = hash refl
no_gap-start starts.Slash b bs n blank hash slash e = slash refl
no_gap-start starts.Quote b bs n blank hash slash e = text-no_gap (extent false bs) n e
no_gap-start starts.Angle b bs n blank hash slash e = key_name-no_gap bs n e
no_gap-start starts.Mark b bs n blank hash slash e = cc
no_gap-start starts.Nothing b bs n blank hash slash e = cc

unequal : (a c : ℕ) → a ≢ c → (a == c) ≡ false
unequal a c other = by (a == c) refl
  where
    by : (b : Bool) → (a == c) ≡ b → (a == c) ≡ false
    by true e = absurd (other (eqb-true a c e))
    by false e = e

pub token-other : (bs : List ℕ) (b : ℕ) (left : List ℕ) → bs ≡ b ∷ left → start_of b ≢ starts.Blank → start_of b ≢ starts.Hash → start_of b ≢ starts.Slash → IsAtToken bs
token-other bs b left here blank hash slash n e = no_gap-start (start_of b) b left n blank hash slash (sym (piece-start b left) ∙ subst (λ (cs : List ℕ). piece cs ≡ Gap n) here e)

pub token-slash : (bs : List ℕ) (b : ℕ) (left : List ℕ) → bs ≡ b ∷ left → start_of b ≡ starts.Slash → slice_index left 0 ≢ 47 → IsAtToken bs
token-slash bs b left here slash other n e =
    let there : piece_of starts.Slash b left ≡ Gap n = subst (λ (s : Start). piece_of s b left ≡ Gap n) slash (sym (piece-start b left) ∙ subst (λ (cs : List ℕ). piece cs ≡ Gap n) here e) in
    slash-no_gap b (prefix_len is_not_line_feed (b ∷ left)) n (slice_index left 0 == 47) (unequal _ _ other) there

-- one blank
pub one-blank : (bs : List ℕ) (b : ℕ) (rest : List ℕ) → bs ≡ b ∷ rest → is_blank b ≡ true → IsAtToken rest → Skips bs rest
one-blank bs b rest here blank at = subst (λ (cs : List ℕ). Skips cs rest) (sym here) (go (blanks-gap rest))
  where
    go : (prefix_len is_blank rest ≡ 0) ⊎ (piece rest ≡ Gap (prefix_len is_blank rest)) → Skips (b ∷ rest) rest
    go (inl none) =
        let one : prefix_len is_blank (b ∷ rest) ≡ 1 = rw blank (omega (arith, none)) in
        subst (λ (n : ℕ). Skips (b ∷ rest) (drop n (b ∷ rest))) one (Skips-blanks (b ∷ rest))
    go (inr gap) = absurd (at (prefix_len is_blank rest) gap)

pub token-end : (bs : List ℕ) → length bs ≡ 0 → IsAtToken bs
token-end bs none n e = let end = piece-end bs none in cc

pub word-other : (bs : List ℕ) (b : ℕ) (left : List ℕ) → bs ≡ b ∷ left → start_of b ≢ starts.Word → IsNoWord bs
word-other bs b left here other = rw here (word-none b left other)

pub word-end : (bs : List ℕ) → length bs ≡ 0 → IsNoWord bs
word-end bs none keyword n e = let end = piece-end bs none in cc

-- what begins by its first byte
start-piece : (bs : List ℕ) (b : ℕ) (left : List ℕ) (s : Start) → bs ≡ b ∷ left → start_of b ≡ s → piece bs ≡ piece_of s b left
start-piece bs b left s here is = ap piece here ∙ piece-start b left ∙ ap (λ (t : Start). piece_of t b left) is

quote-start : start_of 34 ≡ starts.Quote
unfolding start_of
quote-start = refl

angle-start : start_of 60 ≡ starts.Angle
unfolding start_of
angle-start = refl

pub digit-piece : (bs : List ℕ) (b : ℕ) (left : List ℕ) → bs ≡ b ∷ left → start_of b ≡ starts.Digit → piece bs ≡ number_piece bs
digit-piece bs b left here is = start-piece bs b left starts.Digit here is ∙ ap number_piece (sym here)

pub digit-some : (bs : List ℕ) (b : ℕ) (left : List ℕ) → bs ≡ b ∷ left → start_of b ≡ starts.Digit → 0 < prefix_len is_ascii_digit bs
digit-some bs b left here is = rw (here, digit-start b is) (omega arith)

pub hex-piece : (bs : List ℕ) → begins_hex bs ≡ true → number_piece bs ≡ Lexeme Number (2 + prefix_len is_ascii_hexdigit (drop 2 bs))
unfolding number_piece
hex-piece bs h = rw h refl

pub whole-piece : (bs : List ℕ) → begins_hex bs ≡ false → slice_index bs (prefix_len is_ascii_digit bs) ≢ 46 → number_piece bs ≡ Lexeme Number (prefix_len is_ascii_digit bs)
unfolding number_piece
whole-piece bs h other = rw (h, unequal _ _ other) refl

pub closed-some : (escaped : Bool) (bs : List ℕ) (n : ℕ) → extent escaped bs ≡ Closed n → 0 < n
closed-some escaped [] n e = cc
closed-some escaped (b ∷ bs) n e = by (b == 10) ((b == 34) && not escaped) (extent ((b == 92) && not escaped) bs) e
  where
    by : (feed quote : Bool) (x : Extent) → (if feed then Open 0 else (if quote then Closed 1 else longer 1 x)) ≡ Closed n → 0 < n
    by true quote x h = cc
    by false true x h = let same : 1 ≡ n = cc in omega arith
    by false false (Closed k) h = let same : 1 + k ≡ n = cc in omega arith
    by false false (Open k) h = cc

pub text-piece : (bs : List ℕ) (b : ℕ) (left : List ℕ) (n : ℕ) → bs ≡ b ∷ left → b ≡ 34 → extent false left ≡ Closed n → piece bs ≡ Lexeme Text (n + 1)
text-piece bs b left n here is x = start-piece bs b left starts.Quote here (rw is quote-start) ∙ ap string_piece x

pub key_name-piece : (bs : List ℕ) (b : ℕ) (left : List ℕ) → bs ≡ b ∷ left → b ≡ 60 → slice_index left (prefix_len is_key_byte left) ≡ 62 → piece bs ≡ Lexeme KeyName (prefix_len is_key_byte left + 2)
unfolding key_name_piece
key_name-piece bs b left here is close = start-piece bs b left starts.Angle here (rw is angle-start) ∙ rw close refl

-- a key's name, each byte of which is a key's
enclosed-all : (text : List ℕ) (t : Token) → list_all is_key_byte (inner_of text t) ≡ true → enclosed text t ≡ Ok (enclosed_name text t)
enclosed-all text t all = rw all refl

key_name-spelled : (text bs : List ℕ) (ts : List Token) (n : ℕ) → Ends text bs → piece bs ≡ Lexeme KeyName n → (x : Name) × (key_name text).spells (token_of KeyName (length text - length bs) n ∷ ts) x ts
unfolding key_name
key_name-spelled text bs ts n ends e =
    let t = token_of KeyName (length text - length bs) n in
    (enclosed_name text t, (t, ts, (refl, refl), (enclosed-all text t (one_token text KeyName (length text - length bs) n bs (Ends-here ends) e refl), refl)))

pub key_name-passes : {bs rest : List ℕ} {n : ℕ} → piece bs ≡ Lexeme KeyName n → n ≤ length bs → Skips (drop n bs) rest → Passes key_name bs rest
key_name-passes {bs} {rest} {n} e short s = token-passes e short s key_name (λ text ts ends. key_name-spelled text bs ts n ends e)

-- the bytes between a text's quotes, in the whole text and in what is left of it
inner-same : (text bs : List ℕ) (n : ℕ) → Ends text bs → slice_range text (length text - length bs + 1) (length text - length bs + n - 1) ≡ slice_range bs 1 (n - 1)
inner-same text bs n ends =
    let count : (length text - length bs + n - 1) - (length text - length bs + 1) ≡ (n - 1) - 1 = omega arith in
    let rest : drop (length text - length bs + 1) text ≡ drop 1 bs = sym (ap (drop 1) (Ends-here ends) ∙ drop-drop 1 (length text - length bs) text) in
    ap₂ (λ k xs. take k xs) count rest

name-same : (text bs : List ℕ) (n : ℕ) (name : Name) → Ends text bs → name ≡ record { bytes = text_value Plain (slice_range bs 1 (n - 1)); span = span_of (length text - length bs) n }
    → record { bytes = text_value Plain (inner_of text (token_of Text (length text - length bs) n)); span = span_of (length text - length bs) n } ≡ name
name-same text bs n name ends same = rw (inner-same text bs n ends) (sym same)

pub name-passes : (text : List ℕ) {bs rest : List ℕ} {n : ℕ} (name : Name) → Ends text bs → piece bs ≡ Lexeme Text n → n ≤ length bs → Skips (drop n bs) rest
    → name ≡ record { bytes = text_value Plain (slice_range bs 1 (n - 1)); span = span_of (length text - length bs) n }
    → PassesAs text (text_name text) (λ x. x ≡ name) bs rest
unfolding text_name
name-passes text {bs} {rest} {n} name ends e short s same = record {
  lexes = token-lexes e short s;
  spelled = λ us r.
      let t = token-begins e short s text us ends r in
      (_, t.0, (_, _, (t.1, refl), (refl, refl)), t.2, name-same text bs n name ends same);
}

-- by what byte a key's name begins, and by what text does
key_name-first : (b : ℕ) (bs : List ℕ) (n : ℕ) → piece (b ∷ bs) ≡ Lexeme KeyName n → (b == 60) ≡ true
unfolding piece
key_name-first b bs n h = by (is_blank b) (begins_comment (b ∷ bs)) (is_word_start b) (is_ascii_digit b) (b == 34) (b == 60) refl (is_mark_byte b) h
  where
    by : (blank comment word digit quote angle : Bool) → (b == 60) ≡ angle → (mark : Bool)
        → cond blank (Gap (prefix_len is_blank (b ∷ bs))) (cond comment (Gap (prefix_len is_not_line_feed (b ∷ bs))) (cond word (word_piece (prefix_len is_word_byte (b ∷ bs)) (b ∷ bs)) (cond digit (number_piece (b ∷ bs)) (cond quote (string_piece (extent false bs)) (cond angle (key_name_piece bs) (cond mark (Lexeme (Mark b) 1) BadByte)))))) ≡ Lexeme KeyName n
        → (b == 60) ≡ true
    by true comment word digit quote angle e mark h = cc
    by false true word digit quote angle e mark h = cc
    by false false true digit quote angle e mark h = cc
    by false false false true quote angle e mark h = absurd (no_number (b ∷ bs) n h)
    by false false false false true angle e mark h = absurd (no_string (extent false bs) n h)
    by false false false false false true e mark h = e
    by false false false false false false e true h = cc
    by false false false false false false e false h = cc

number-no_text : (bs : List ℕ) (n : ℕ) → number_piece bs ≡ Lexeme Text n → ⊥
unfolding number_piece
number-no_text bs n e = by (begins_hex bs) (slice_index bs (prefix_len is_ascii_digit bs) == 46) e
  where
    by : (hex point : Bool) → (if hex then Lexeme Number (2 + prefix_len is_ascii_hexdigit (drop 2 bs)) else (if point then Lexeme Decimal (prefix_len is_ascii_digit bs + 1 + prefix_len is_ascii_digit (drop (prefix_len is_ascii_digit bs + 1) bs)) else Lexeme Number (prefix_len is_ascii_digit bs))) ≡ Lexeme Text n → ⊥
    by true point h = cc
    by false true h = cc
    by false false h = cc

key_name-no_text : (bs : List ℕ) (n : ℕ) → key_name_piece bs ≡ Lexeme Text n → ⊥
unfolding key_name_piece
key_name-no_text bs n e = by (slice_index bs (prefix_len is_key_byte bs) == 62) e
  where
    by : (closed : Bool) → (if closed then Lexeme KeyName (prefix_len is_key_byte bs + 2) else OpenKeyName (prefix_len is_key_byte bs + 1)) ≡ Lexeme Text n → ⊥
    by true h = cc
    by false h = cc

text-first : (b : ℕ) (bs : List ℕ) (n : ℕ) → piece (b ∷ bs) ≡ Lexeme Text n → (b == 34) ≡ true
unfolding piece
text-first b bs n h = by (is_blank b) (begins_comment (b ∷ bs)) (is_word_start b) (is_ascii_digit b) (b == 34) refl (b == 60) (is_mark_byte b) h
  where
    by : (blank comment word digit quote : Bool) → (b == 34) ≡ quote → (angle mark : Bool)
        → cond blank (Gap (prefix_len is_blank (b ∷ bs))) (cond comment (Gap (prefix_len is_not_line_feed (b ∷ bs))) (cond word (word_piece (prefix_len is_word_byte (b ∷ bs)) (b ∷ bs)) (cond digit (number_piece (b ∷ bs)) (cond quote (string_piece (extent false bs)) (cond angle (key_name_piece bs) (cond mark (Lexeme (Mark b) 1) BadByte)))))) ≡ Lexeme Text n
        → (b == 34) ≡ true
    by true comment word digit quote e angle mark h = cc
    by false true word digit quote e angle mark h = cc
    by false false true digit quote e angle mark h = cc
    by false false false true quote e angle mark h = absurd (number-no_text (b ∷ bs) n h)
    by false false false false true e angle mark h = e
    by false false false false false e true mark h = absurd (key_name-no_text bs n h)
    by false false false false false e false true h = cc
    by false false false false false e false false h = cc

-- where another byte stands, no token of the rest begins with a key's name, and none with text
key_name-kind : (bs : List ℕ) (kind : TokenKind) (n : ℕ) → front_byte 60 bs ≡ false → piece bs ≡ Lexeme kind n → ghosts.eq kind KeyName ≡ false
unfolding piece
key_name-kind [] kind n h e = cc
key_name-kind (b ∷ bs) KeyName n h e = absurd (true-false (sym (key_name-first b bs n e) ∙ h))
key_name-kind (b ∷ bs) _ n h e = refl

pub no_key_name : (text bs : List ℕ) (ts : List Token) → IsAtToken bs → front_byte 60 bs ≡ false → ReadsEnd text bs ts → front is_key_name ts ≡ false
no_key_name text bs ts at h (ended e) = refl
no_key_name text bs ts at h (skipped n e r) = absurd (at n e)
no_key_name text bs ts at h (taken kind n e r) = key_name-kind bs kind n h e

text-kind : (bs : List ℕ) (kind : TokenKind) (n : ℕ) → front_byte 34 bs ≡ false → piece bs ≡ Lexeme kind n → ghosts.eq kind Text ≡ false
unfolding piece
text-kind [] kind n h e = cc
text-kind (b ∷ bs) Text n h e = absurd (true-false (sym (text-first b bs n e) ∙ h))
text-kind (b ∷ bs) _ n h e = refl

pub no_text : (text bs : List ℕ) (ts : List Token) → IsAtToken bs → front_byte 34 bs ≡ false → ReadsEnd text bs ts → front is_text ts ≡ false
no_text text bs ts at h (ended e) = refl
no_text text bs ts at h (skipped n e r) = absurd (at n e)
no_text text bs ts at h (taken kind n e r) = text-kind bs kind n h e

-- where the first token stands, and where a mark ends
pub start-here : (text bs : List ℕ) (us : List Token) → IsAtToken bs → (us ≡ [] → ⊥) → ReadsEnd text bs us → (front_span us).start ≡ length text - length bs
start-here text bs us at some (ended e) = absurd (some refl)
start-here text bs us at some (skipped n e r) = absurd (at n e)
start-here text bs us at some (taken kind n e r) = refl
