-- How literal phrases, hexadecimal numbers and printed names are read.
use Rattle.std.proofs.Common.{◌≡◌, ℕ, ◌+◌, ◌-◌, ◌*◌, ◌/◌, ◌%◌, ◌<◌, ◌≤◌, nat_le, nat_lt, Bool, true, false, cond, not, ◌==◌, ◌&&◌, ◌||◌, List, [], ◌∷◌, ◌++◌, length, refl, sym, ap, ap₂, ◌∙◌, arith, append_assoc, length-append, true≢false}
use Rattle.std.proofs.lemmas.Bool.{and_parts, leb-true, le-leb, lt-ltb, ltb-true, ne_eqb}
use Rattle.std.specs.Char.{is_ascii_digit, is_ascii_hexdigit}
use Rattle.std.specs.List.{prefix_len, list_all, flat_map}
use Rattle.ks_core.specs.PrintedName.{is_plain, octal, printed_byte, printed_name}
use Rattle.kx_lex.specs.Bytes.{is_blank, is_word_byte}
use Rattle.kx_lex.specs.Pieces.{piece, extent, longer, number_piece, decimal_piece}
use Rattle.kx_lex.specs.Strings.{text_value, is_octal, escaped_byte}
use Rattle.kx_lex.specs.declared.scan.Extent.{Extent}
use Rattle.kx_lex.specs.declared.scan.Extent.TheVariants.{Closed, Open}
use Rattle.kx_lex.specs.declared.scan.Piece.TheVariants.{Lexeme}
use Rattle.kx_lex.specs.declared.string.EscapeState.TheVariants.{Plain, Octal}
use Rattle.kx_lex.specs.declared.token.TokenKind.TheVariants.{Mark, Number, Text}
use Rattle.roundtrip_text.specs.Slices.{Slice, slice, is_lone_mark, Lexes, LexesBefore}
use Rattle.roundtrip_text.proofs.Lexing.{nothing_lexes, then_lexes, mark_lexes, blank_lexes, string_lexes, run, parts_word, starts_number, lexed-taken, not_passed}

-- ---- Blanks and marks

abbrev pub mark_in : ℕ → List Slice
mark_in b = cond (is_blank b) [] (slice (Mark b) (b ∷ []) ∷ [])

abbrev pub marks_in : List ℕ → List Slice
marks_in bs = flat_map mark_in bs

one_lexes : (b : ℕ) → (is_blank b || is_lone_mark b) ≡ true → Lexes (b ∷ []) (mark_in b)
one_lexes b h = by (is_blank b) refl h
  where
    by : (t : Bool) → is_blank b ≡ t → (t || is_lone_mark b) ≡ true → Lexes (b ∷ []) (cond t [] (slice (Mark b) (b ∷ []) ∷ []))
    by true is h = blank_lexes b is
    by false is h = mark_lexes b h

pub marks_lex : (bs : List ℕ) → list_all (λ b. is_blank b || is_lone_mark b) bs ≡ true → Lexes bs (marks_in bs)
marks_lex [] h = nothing_lexes
marks_lex (b ∷ bs) h = let both = and_parts (is_blank b || is_lone_mark b) (list_all (λ b. is_blank b || is_lone_mark b) bs) h in then_lexes (one_lexes b both.0) (marks_lex bs both.1)

-- ---- Hexadecimal numbers

hex_in_word : (b : ℕ) → is_word_byte b ≡ false → is_ascii_hexdigit b ≡ false
hex_in_word b h = by (is_ascii_digit b) (nat_le 65 b) (nat_le b 90) refl (nat_le 97 b) (nat_le b 122) refl (nat_le b 70) refl (nat_le b 102) refl (b == 95) h
  where
    by : (digit low high : Bool) → nat_le b 90 ≡ high → (small_low small_high : Bool) → nat_le b 122 ≡ small_high → (f : Bool) → nat_le b 70 ≡ f → (small_f : Bool) → nat_le b 102 ≡ small_f → (bar : Bool)
        → (((digit || (low && high)) || (small_low && small_high)) || bar) ≡ false → ((digit || (low && f)) || (small_low && small_f)) ≡ false
    by true low high a sl sh c f d sf e bar h = cc
    by false false high a false sh c f d sf e bar h = refl
    by false false high a true true c f d sf e bar h = cc
    by false false high a true false c f d false e bar h = refl
    by false false high a true false c f d true e bar h = absurd (true≢false (sym (le-leb b 122 (let l : b ≤ 102 = leb-true b 102 e in omega arith)) ∙ c))
    by false true true a sl sh c f d sf e bar h = cc
    by false true false a false sh c false d sf e bar h = refl
    by false true false a true true c false d sf e bar h = cc
    by false true false a true false c false d false e bar h = refl
    by false true false a true false c false d true e bar h = absurd (true≢false (sym (le-leb b 122 (let l : b ≤ 102 = leb-true b 102 e in omega arith)) ∙ c))
    by false true false a sl sh c true d sf e bar h = absurd (true≢false (sym (le-leb b 90 (let l : b ≤ 70 = leb-true b 70 d in omega arith)) ∙ a))

pub hex_lexes : (x : ℕ) (hs : List ℕ) → list_all is_ascii_hexdigit (x ∷ hs) ≡ true → LexesBefore (48 ∷ 120 ∷ x ∷ hs) (slice Number (48 ∷ 120 ∷ x ∷ hs) ∷ [])
unfolding number_piece
hex_lexes x hs all = record {
  lex = λ b rest more apart l.
      let first = (and_parts (is_ascii_hexdigit x) (list_all is_ascii_hexdigit hs) all).0 in
      let long : prefix_len is_ascii_hexdigit (x ∷ hs ++ b ∷ rest) ≡ length (x ∷ hs) = run is_ascii_hexdigit (x ∷ hs) b rest all (hex_in_word b (parts_word b apart)) in
      let size : 2 + length (x ∷ hs) ≡ length (48 ∷ 120 ∷ x ∷ hs) = omega arith in
      let is : piece (48 ∷ 120 ∷ x ∷ hs ++ b ∷ rest) ≡ Lexeme Number (length (48 ∷ 120 ∷ x ∷ hs)) =
      starts_number 48 (120 ∷ x ∷ hs ++ b ∷ rest) refl
      ∙ ap (λ t. cond t (Lexeme Number (2 + prefix_len is_ascii_hexdigit (x ∷ hs ++ b ∷ rest))) (decimal_piece (prefix_len is_ascii_digit (48 ∷ 120 ∷ x ∷ hs ++ b ∷ rest)) (48 ∷ 120 ∷ x ∷ hs ++ b ∷ rest))) first
      ∙ ap (λ n. Lexeme Number (2 + n)) long ∙ ap (λ n. Lexeme Number n) size in
      lexed-taken Number (48 ∷ 120 ∷ x ∷ hs) (b ∷ rest) more is l;
}

-- ---- Printed names

abbrev pub is_byte : ℕ → Bool
is_byte b = nat_lt b 256

longer-longer : (m n : ℕ) (e : Extent) → longer m (longer n e) ≡ longer (m + n) e
longer-longer m n (Closed k) = let same : m + (n + k) ≡ m + n + k = omega arith in ap (λ (j : ℕ). Closed j) same
longer-longer m n (Open k) = let same : m + (n + k) ≡ m + n + k = omega arith in ap (λ (j : ℕ). Open j) same

-- a digit of an octal number begins and ends nothing
octal_apart : (d : ℕ) (t : List ℕ) → 48 ≤ d → d ≤ 55 → extent true (d ∷ t) ≡ longer 1 (extent false t)
octal_apart d t low high = rw (ne_eqb d 10 (λ e. omega arith), ne_eqb d 34 (λ e. omega arith), ne_eqb d 92 (λ e. omega arith)) refl

plain_apart : (d : ℕ) (t : List ℕ) → (d == 10) ≡ false → (d == 34) ≡ false → (d == 92) ≡ false → extent false (d ∷ t) ≡ longer 1 (extent false t)
plain_apart d t lf quote slash = rw (lf, quote, slash) refl

octal_plain : (d : ℕ) (t : List ℕ) → 48 ≤ d → d ≤ 55 → extent false (d ∷ t) ≡ longer 1 (extent false t)
octal_plain d t low high = plain_apart d t (ne_eqb d 10 (λ e. omega arith)) (ne_eqb d 34 (λ e. omega arith)) (ne_eqb d 92 (λ e. omega arith))

pub record IsPlain (b : ℕ) : Type 0 where
  pub line_feed : (b == 10) ≡ false
  pub quote : (b == 34) ≡ false
  pub slash : (b == 92) ≡ false

plain_parts : (b : ℕ) → is_plain b ≡ true → IsPlain b
plain_parts b h = by (nat_le 32 b) refl (nat_le b 126) (b == 34) refl (b == 92) refl h
  where
    by : (low : Bool) → nat_le 32 b ≡ low → (high quote : Bool) → (b == 34) ≡ quote → (slash : Bool) → (b == 92) ≡ slash → (low && high && not quote && not slash) ≡ true → IsPlain b
    by true l true false q false s h = record { line_feed = not_passed (nat_le 32) 10 b refl l; quote = q; slash = s }
    by true l true false q true s h = cc
    by true l true true q slash s h = cc
    by true l false quote q slash s h = cc
    by false l high quote q slash s h = cc

byte_extent : (b : ℕ) (t : List ℕ) → is_byte b ≡ true → extent false (printed_byte b ++ t) ≡ longer (length (printed_byte b)) (extent false t)
byte_extent b t small = by (is_plain b) refl
  where
    below : b < 256
    below = ltb-true b 256 small

    by : (p : Bool) → is_plain b ≡ p → extent false (cond p (b ∷ []) (octal b) ++ t) ≡ longer (length (cond p (b ∷ []) (octal b))) (extent false t)
    by true is = let p = plain_parts b is in plain_apart b t p.line_feed p.quote p.slash
    by false is =
        ap (longer 1) (octal_apart (48 + b / 64) ((48 + b / 8 % 8) ∷ (48 + b % 8) ∷ t) (omega arith) (omega (arith, below)) ∙ ap (longer 1) (octal_plain (48 + b / 8 % 8) ((48 + b % 8) ∷ t) (omega arith) (omega arith) ∙ ap (longer 1) (octal_plain (48 + b % 8) t (omega arith) (omega arith))))
        ∙ ap (λ e. longer 1 (longer 1 e)) (longer-longer 1 1 (extent false t)) ∙ ap (longer 1) (longer-longer 1 2 (extent false t)) ∙ longer-longer 1 3 (extent false t)

name_extent : (name t : List ℕ) → list_all is_byte name ≡ true → extent false (printed_name name ++ t) ≡ longer (length (printed_name name)) (extent false t)
name_extent [] t all = by (extent false t)
  where
    by : (e : Extent) → e ≡ longer 0 e
    by (Closed n) = let same : n ≡ 0 + n = omega arith in ap (λ (j : ℕ). Closed j) same
    by (Open n) = let same : n ≡ 0 + n = omega arith in ap (λ (j : ℕ). Open j) same
name_extent (b ∷ name) t all =
    let both = and_parts (is_byte b) (list_all is_byte name) all in
    ap (extent false) (append_assoc (printed_byte b) (printed_name name) t)
    ∙ byte_extent b (printed_name name ++ t) both.0
    ∙ ap (longer (length (printed_byte b))) (name_extent name t both.1)
    ∙ longer-longer (length (printed_byte b)) (length (printed_name name)) (extent false t)
    ∙ ap (λ n. longer n (extent false t)) (sym (length-append (printed_byte b) (printed_name name)))

pub printed_name_lexes : (name : List ℕ) → list_all is_byte name ≡ true → Lexes (34 ∷ printed_name name ++ 34 ∷ []) (slice Text (34 ∷ printed_name name ++ 34 ∷ []) ∷ [])
printed_name_lexes name all = string_lexes (printed_name name) (λ rest. name_extent name (34 ∷ rest) all)

-- ---- What they stand for

octal_done : (v : ℕ) (t : List ℕ) → text_value (Octal v 3) t ≡ v ∷ text_value Plain t
octal_done v [] = refl
octal_done v (c ∷ cs) = by (is_octal c)
  where
    by : (o : Bool) → cond ((o && false) && nat_lt (v * 8 + (c - 48)) 256) (text_value (Octal (v * 8 + (c - 48)) 4) cs) (v ∷ text_value Plain (c ∷ cs)) ≡ v ∷ text_value Plain (c ∷ cs)
    by true = refl
    by false = refl

octal_digit : (d : ℕ) → d < 8 → is_octal (48 + d) ≡ true
octal_digit d h = ap₂ (λ a b. a && b) (le-leb 48 (48 + d) (omega arith)) (le-leb (48 + d) 55 (omega arith))

byte_value : (b : ℕ) (t : List ℕ) → is_byte b ≡ true → text_value Plain (printed_byte b ++ t) ≡ b ∷ text_value Plain t
byte_value b t small = by (is_plain b) refl
  where
    below : b < 256
    below = ltb-true b 256 small

    by : (p : Bool) → is_plain b ≡ p → text_value Plain (cond p (b ∷ []) (octal b) ++ t) ≡ b ∷ text_value Plain t
    by true is = rw (plain_parts b is).slash refl
    by false is =
        let first : 48 + b / 64 - 48 ≡ b / 64 = omega arith in
        let second : b / 64 * 8 + (48 + b / 8 % 8 - 48) ≡ b / 8 = omega (arith, below) in
        let third : b / 8 * 8 + (48 + b % 8 - 48) ≡ b = omega arith in
        ap (λ t1. cond t1 (text_value (Octal (48 + b / 64 - 48) 1) ((48 + b / 8 % 8) ∷ (48 + b % 8) ∷ t)) (escaped_byte (48 + b / 64) ∷ text_value Plain ((48 + b / 8 % 8) ∷ (48 + b % 8) ∷ t))) (octal_digit (b / 64) (omega (arith, below)))
        ∙ ap (λ v. text_value (Octal v 1) ((48 + b / 8 % 8) ∷ (48 + b % 8) ∷ t)) first
        ∙ goes (b / 64) 1 (b / 8 % 8) (b / 8) ((48 + b % 8) ∷ t) (omega arith) refl second (omega (arith, below))
        ∙ goes (b / 8) 2 (b % 8) b t (omega arith) refl third below
        ∙ octal_done b t
      where
        goes : (v n d w : ℕ) (t : List ℕ) → d < 8 → nat_lt n 3 ≡ true → v * 8 + (48 + d - 48) ≡ w → w < 256 → text_value (Octal v n) ((48 + d) ∷ t) ≡ text_value (Octal w (n + 1)) t
        goes v n d w t h few value less =
            ap (λ c. cond c (text_value (Octal (v * 8 + (48 + d - 48)) (n + 1)) t) (v ∷ text_value Plain ((48 + d) ∷ t)))
            (ap₂ (λ x y. x && y) (ap₂ (λ x y. x && y) (octal_digit d h) few) (ap (λ m. nat_lt m 256) value ∙ lt-ltb w 256 less))
            ∙ ap (λ m. text_value (Octal m (n + 1)) t) value

pub name_value : (name : List ℕ) → list_all is_byte name ≡ true → text_value Plain (printed_name name) ≡ name
name_value [] all = refl
name_value (b ∷ name) all =
    let both = and_parts (is_byte b) (list_all is_byte name) all in
    byte_value b (printed_name name) both.0 ∙ ap (λ rest. b ∷ rest) (name_value name both.1)
