-- How printed bytes are read, phrase by phrase.
use Rattle.std.proofs.Common.{◌≤◌, nat_le, true≢false, eqb-true, ◌≡◌, ℕ, suc, ◌+◌, ◌<◌, ◌%◌, ◌^◌, Bool, true, false, cond, not, ◌==◌, ◌&&◌, ◌||◌, List, [], ◌∷◌, ◌++◌, length, drop, take, slice_index, refl, sym, ap, ap₂, ◌∙◌, subst, arith, append_assoc, length-append}
use Rattle.std.proofs.lemmas.List.{drop-drop}
use Rattle.std.proofs.lemmas.Bool.{and_parts, leb-true, le-leb}
use Rattle.std.proofs.lemmas.Fmt.{decimal_by_steps}
use Rattle.std.proofs.lemmas.List.Folds.{list_all-append}
use Rattle.std.specs.Fmt.{decimal}
use Rattle.kx_basics.specs.KeyNames.{is_key_byte}
use Rattle.kx_lex.specs.declared.scan.Extent.TheVariants.{Closed}
use Rattle.std.specs.Char.{is_ascii_digit, is_ascii_hexdigit}
use Rattle.std.specs.List.{prefix_len, list_all}
use Rattle.kx_lex.specs.Keywords.{keyword_of}
use Rattle.kx_lex.specs.Bytes.{is_word_start, is_word_byte, is_mark, is_blank, is_not_line_feed}
use Rattle.kx_lex.specs.Pieces.{piece, begins_hex, decimal_piece, extent, string_piece, number_piece, key_name_piece, word_piece}
use Rattle.kx_lex.specs.Reading.{Reads, token_of, span_of}
use Rattle.kx_lex.specs.Reading.{ended as reads_end, skipped as reads_gap, taken as reads_token}
use Rattle.kx_lex.specs.declared.scan.Piece.TheVariants.{Gap, Lexeme, BadByte, OpenKeyName}
use Rattle.kx_lex.specs.declared.token.Token.{Token}
use Rattle.kx_lex.specs.declared.token.TokenKind.{TokenKind}
use Rattle.kx_lex.specs.declared.token.TokenKind.TheVariants.{Mark, Word, Number, Decimal, KeyName, Text}
use Rattle.roundtrip_text.specs.Slices.{Slice, slice, Lexed, ended, skipped, taken, Begins, none, more, is_lone_mark, parts, Lexes, LexesBefore}

-- ---- With offsets

left : (text : List ℕ) (offset n : ℕ) (bs : List ℕ) → bs ≡ drop offset text → drop n bs ≡ drop (offset + n) text
left text offset n bs here = ap (drop n) here ∙ drop-drop n offset text

taken_front : (w rest : List ℕ) → take (length w) (w ++ rest) ≡ w
taken_front [] rest = refl
taken_front (x ∷ w) rest = ap (λ xs. x ∷ xs) (taken_front w rest)

left_front : (w rest : List ℕ) → drop (length w) (w ++ rest) ≡ rest
left_front [] rest = refl
left_front (x ∷ w) rest = left_front w rest

pub record IsPlaced (text : List ℕ) (offset : ℕ) (bs : List ℕ) (ss : List Slice) : Type 0 where
  pub tokens : List Token
  pub reads : Reads offset bs tokens
  pub are : Begins text ss tokens []

pub placed : (text : List ℕ) (offset : ℕ) {bs : List ℕ} {ss : List Slice} → bs ≡ drop offset text → Lexed bs ss → IsPlaced text offset bs ss
placed text offset here (ended e) = record { tokens = []; reads = reads_end e; are = none }
placed text offset {bs} here (skipped n e l) =
    let next = placed text (offset + n) (left text offset n bs here) l in
    record { tokens = next.tokens; reads = reads_gap n e next.reads; are = next.are }
placed text offset {bs} here (taken kind w rest is e l) =
    let behind : drop (length w) bs ≡ rest = ap (drop (length w)) is ∙ left_front w rest in
    let next = placed text (offset + length w) (sym behind ∙ left text offset (length w) bs here) l in
    record {
      tokens = token_of kind offset (length w) ∷ next.tokens;
      reads = reads_token kind (length w) e (subst (λ xs. Reads (offset + length w) xs next.tokens) (sym behind) next.reads);
      are = more (span_of offset (length w)) (record { stop = refl; bytes_are = ap (take (length w)) (sym here ∙ is) ∙ taken_front w rest }) next.are;
    }

-- ---- Joining

pub nothing_lexes : Lexes [] []
nothing_lexes = record { lex = λ rest more l. l }

pub then_lexes : {a b : List ℕ} {x y : List Slice} → Lexes a x → Lexes b y → Lexes (a ++ b) (x ++ y)
then_lexes {a} {b} {x} {y} la lb = record { lex = λ rest more l. rw (append_assoc a b rest, append_assoc x y more) (la.lex (b ++ rest) (y ++ more) (lb.lex rest more l)) }

pub before_lexes : {a : List ℕ} {c : ℕ} {b : List ℕ} {x y : List Slice} → LexesBefore a x → parts c ≡ true → Lexes (c ∷ b) y → Lexes (a ++ c ∷ b) (x ++ y)
before_lexes {a} {c} {b} {x} {y} la apart lb = record { lex = λ rest more l. rw (append_assoc a (c ∷ b) rest, append_assoc x y more) (la.lex c (b ++ rest) (y ++ more) apart (lb.lex rest more l)) }

pub then_before : {a b : List ℕ} {x y : List Slice} → Lexes a x → LexesBefore b y → LexesBefore (a ++ b) (x ++ y)
then_before {a} {b} {x} {y} la lb = record { lex = λ c rest more apart l. rw (append_assoc a b (c ∷ rest), append_assoc x y more) (la.lex (b ++ c ∷ rest) (y ++ more) (lb.lex c rest more apart l)) }

pub weaker : {a : List ℕ} {x : List Slice} → Lexes a x → LexesBefore a x
weaker la = record { lex = λ c rest more apart l. la.lex (c ∷ rest) more l }

-- ---- Marks

pub piece-mark : (b : ℕ) (bs : List ℕ) → is_lone_mark b ≡ true → piece (b ∷ bs) ≡ Lexeme (Mark b) 1
unfolding piece
piece-mark b bs h = by (is_blank b) (b == 35) (b == 47) (slice_index bs 0 == 47) (is_word_start b) (is_ascii_digit b) (b == 34) (b == 60) (is_mark b) h
  where
    by : (blank hash slash second word digit quote angle mark : Bool)
        → (not blank && (not hash && (not slash && (not word && (not digit && (not quote && (not angle && mark))))))) ≡ true
        → cond blank (Gap (prefix_len is_blank (b ∷ bs))) (cond (hash || (slash && second)) (Gap (prefix_len is_not_line_feed (b ∷ bs))) (cond word (word_piece (prefix_len is_word_byte (b ∷ bs)) (b ∷ bs)) (cond digit (number_piece (b ∷ bs)) (cond quote (string_piece (extent false bs)) (cond angle (key_name_piece bs) (cond mark (Lexeme (Mark b) 1) BadByte))))))
        ≡ Lexeme (Mark b) 1
    by true hash slash second word digit quote angle mark h = cc
    by false true slash second word digit quote angle mark h = cc
    by false false true second word digit quote angle mark h = cc
    by false false false second true digit quote angle mark h = cc
    by false false false second false true quote angle mark h = cc
    by false false false second false false true angle mark h = cc
    by false false false second false false false true mark h = cc
    by false false false second false false false false true h = refl
    by false false false second false false false false false h = cc

pub mark_lexes : (b : ℕ) → is_lone_mark b ≡ true → Lexes (b ∷ []) (slice (Mark b) (b ∷ []) ∷ [])
mark_lexes b h = record { lex = λ rest more l. taken (Mark b) (b ∷ []) rest refl (piece-mark b rest h) l }

-- ---- Blanks

pub piece-blank : (b : ℕ) (bs : List ℕ) → is_blank b ≡ true → piece (b ∷ bs) ≡ Gap (prefix_len is_blank (b ∷ bs))
unfolding piece
piece-blank b bs h = rw h refl

more_blanks : (n m : ℕ) (bs : List ℕ) → piece bs ≡ Gap n → piece bs ≡ Gap m → n ≡ m
more_blanks n m bs e f = let same = sym e ∙ f in cc

-- a blank more in front of blanks
grown : (b c : ℕ) (cs : List ℕ) (ss : List Slice) → is_blank b ≡ true → is_blank c ≡ true → Lexed (c ∷ cs) ss → Lexed (b ∷ c ∷ cs) ss
grown b c cs ss h blank (ended e) = let is = sym e ∙ piece-blank c cs blank in cc
grown b c cs ss h blank (skipped n e rest) =
    let same = more_blanks n (prefix_len is_blank (c ∷ cs)) (c ∷ cs) e (piece-blank c cs blank) in
    let long : 1 + prefix_len is_blank (c ∷ cs) ≡ suc n = omega (arith, same) in
    skipped (suc n) (piece-blank b (c ∷ cs) h ∙ ap (λ t. Gap (cond t (1 + prefix_len is_blank (c ∷ cs)) 0)) h ∙ ap (λ (k : ℕ). Gap k) long) rest
grown b c cs ss h blank (taken kind w rest is e l) = let is = sym e ∙ piece-blank c cs blank in cc

pub lexed-blank : (b : ℕ) (bs : List ℕ) (ss : List Slice) → is_blank b ≡ true → Lexed bs ss → Lexed (b ∷ bs) ss
lexed-blank b [] ss h l = skipped 1 (piece-blank b [] h ∙ ap (λ t. Gap (cond t (1 + 0) 0)) h) l
lexed-blank b (c ∷ cs) ss h l = by (is_blank c) refl
  where
    by : (t : Bool) → is_blank c ≡ t → Lexed (b ∷ c ∷ cs) ss
    by true blank = grown b c cs ss h blank l
    by false solid = skipped 1 (piece-blank b (c ∷ cs) h ∙ ap₂ (λ t u. Gap (cond t (1 + cond u (1 + prefix_len is_blank cs) 0) 0)) h solid) l

pub blank_lexes : (b : ℕ) → is_blank b ≡ true → Lexes (b ∷ []) []
blank_lexes b h = record { lex = λ rest more l. lexed-blank b rest more h l }

-- ---- Words

-- as many bytes as pass, and one that doesn't
pub run : (p : ℕ → Bool) (w : List ℕ) (b : ℕ) (rest : List ℕ) → list_all p w ≡ true → p b ≡ false → prefix_len p (w ++ b ∷ rest) ≡ length w
run p [] b rest all stop = rw stop refl
run p (x ∷ w) b rest all stop =
    let both = and_parts (p x) (list_all p w) all in
    ap (λ t. cond t (1 + prefix_len p (w ++ b ∷ rest)) 0) both.0 ∙ (let rec = run p w b rest both.1 stop in omega (arith, rec))

-- what the front of a text is taken as
pub lexed-taken : (kind : TokenKind) (w rest : List ℕ) (ss : List Slice) → piece (w ++ rest) ≡ Lexeme kind (length w) → Lexed rest ss → Lexed (w ++ rest) (slice kind w ∷ ss)
lexed-taken kind w rest ss e l = taken kind w rest refl e l

word_not : (k x : ℕ) → is_word_start k ≡ false → is_word_start x ≡ true → (x == k) ≡ false
word_not k x other start = by (x == k) refl
  where
    by : (t : Bool) → (x == k) ≡ t → (x == k) ≡ false
    by true e = absurd (true≢false (sym start ∙ ap is_word_start (eqb-true x k e) ∙ other))
    by false e = e

above : (x : ℕ) → is_word_start x ≡ true → 65 ≤ x
above x start = by (nat_le 65 x) refl (nat_le x 90) (nat_le 97 x) refl (nat_le x 122) (x == 95) refl start
  where
    by : (a : Bool) → nat_le 65 x ≡ a → (b c : Bool) → nat_le 97 x ≡ c → (d e : Bool) → (x == 95) ≡ e → (((a && b) || (c && d)) || e) ≡ true → 65 ≤ x
    by true is b c ic d e ie h = leb-true 65 x is
    by false is b true ic d e ie h = let l : 97 ≤ x = leb-true 97 x ic in omega arith
    by false is b false ic d true ie h = let l : x ≡ 95 = eqb-true x 95 ie in omega arith
    by false is b false ic d false ie h = cc

word_solid : (x : ℕ) → is_word_start x ≡ true → is_blank x ≡ false
word_solid x start = by (nat_le 9 x) (nat_le x 13) refl
  where
    low : 65 ≤ x
    low = above x start

    by : (a b : Bool) → nat_le x 13 ≡ b → ((x == 32) || (a && b)) ≡ false
    by a true is = let l : x ≤ 13 = leb-true x 13 is in absurd (omega (arith, low))
    by true false is = ap (λ t. t || false) (word_not 32 x refl start)
    by false false is = ap (λ t. t || false) (word_not 32 x refl start)

starts_word : (x : ℕ) (bs : List ℕ) → is_word_start x ≡ true → piece (x ∷ bs) ≡ word_piece (prefix_len is_word_byte (x ∷ bs)) (x ∷ bs)
unfolding piece
starts_word x bs start = rw (word_solid x start, word_not 35 x refl start, word_not 47 x refl start, start) refl

pub parts_word : (b : ℕ) → parts b ≡ true → is_word_byte b ≡ false
parts_word b h = by (is_word_byte b) (b == 46) h
  where
    by : (w p : Bool) → (not w && not p) ≡ true → w ≡ false
    by true p h = cc
    by false p h = refl

pub word_lexes : (x : ℕ) (w : List ℕ) → is_word_start x ≡ true → list_all is_word_byte (x ∷ w) ≡ true → LexesBefore (x ∷ w) (slice (Word (keyword_of (x ∷ w))) (x ∷ w) ∷ [])
word_lexes x w start all = record {
  lex = λ b rest more apart l.
      let long : prefix_len is_word_byte (x ∷ w ++ b ∷ rest) ≡ length (x ∷ w) = run is_word_byte (x ∷ w) b rest all (parts_word b apart) in
      let is : piece (x ∷ w ++ b ∷ rest) ≡ Lexeme (Word (keyword_of (x ∷ w))) (length (x ∷ w)) =
      starts_word x (w ++ b ∷ rest) start ∙ ap (λ n. word_piece n (x ∷ w ++ b ∷ rest)) long ∙ ap (λ bytes. Lexeme (Word (keyword_of bytes)) (length (x ∷ w))) (taken_front (x ∷ w) (b ∷ rest)) in
      lexed-taken (Word (keyword_of (x ∷ w))) (x ∷ w) (b ∷ rest) more is l;
}

-- ---- Numbers

pub not_passed : (p : ℕ → Bool) → (k x : ℕ) → p k ≡ false → p x ≡ true → (x == k) ≡ false
not_passed p k x other start = by (x == k) refl
  where
    by : (t : Bool) → (x == k) ≡ t → (x == k) ≡ false
    by true e = absurd (true≢false (sym start ∙ ap p (eqb-true x k e) ∙ other))
    by false e = e

parts_point : (b : ℕ) → parts b ≡ true → (b == 46) ≡ false
parts_point b h = by (is_word_byte b) (b == 46) h
  where
    by : (w p : Bool) → (not w && not p) ≡ true → p ≡ false
    by true p h = cc
    by false true h = cc
    by false false h = refl

digit_range : (x : ℕ) → is_ascii_digit x ≡ true → (48 ≤ x) × (x ≤ 57)
digit_range x h = let both = and_parts (nat_le 48 x) (nat_le x 57) h in (leb-true 48 x both.0, leb-true x 57 both.1)

digit_blank : (x : ℕ) → is_ascii_digit x ≡ true → is_blank x ≡ false
digit_blank x h = by (nat_le 9 x) (nat_le x 13) refl
  where
    r : (48 ≤ x) × (x ≤ 57)
    r = digit_range x h

    by : (a b : Bool) → nat_le x 13 ≡ b → ((x == 32) || (a && b)) ≡ false
    by a true is = let l : x ≤ 13 = leb-true x 13 is in absurd (omega (arith, r.0))
    by true false is = ap (λ t. t || false) (not_passed is_ascii_digit 32 x refl h)
    by false false is = ap (λ t. t || false) (not_passed is_ascii_digit 32 x refl h)

digit_no_word : (x : ℕ) → is_ascii_digit x ≡ true → is_word_start x ≡ false
digit_no_word x h = by (is_word_start x) refl
  where
    by : (t : Bool) → is_word_start x ≡ t → is_word_start x ≡ false
    by true e = let low = above x e in let r = digit_range x h in absurd (omega (arith, low, r.1))
    by false e = e

pub starts_number : (x : ℕ) (bs : List ℕ) → is_ascii_digit x ≡ true → piece (x ∷ bs) ≡ number_piece (x ∷ bs)
unfolding piece
starts_number x bs h = rw (digit_blank x h, not_passed is_ascii_digit 35 x refl h, not_passed is_ascii_digit 47 x refl h, digit_no_word x h, h) refl

digit_in_word : (b : ℕ) → is_word_byte b ≡ false → is_ascii_digit b ≡ false
digit_in_word b h = by (is_ascii_digit b) (nat_le 65 b && nat_le b 90) (nat_le 97 b && nat_le b 122) (b == 95) h
  where
    by : (digit capital small bar : Bool) → (((digit || capital) || small) || bar) ≡ false → digit ≡ false
    by true capital small bar h = cc
    by false capital small bar h = refl

-- after the first digit no x stands
no_hex : (x : ℕ) (ds : List ℕ) (b : ℕ) (rest : List ℕ) → list_all is_ascii_digit ds ≡ true → is_word_byte b ≡ false → begins_hex (x ∷ ds ++ b ∷ rest) ≡ false
no_hex x ds b rest all stop = by (x == 48) (other ds all)
  where
    word_ne : (k : ℕ) → is_word_byte k ≡ true → (b == k) ≡ false
    word_ne k word = go (b == k) refl
      where
        go : (t : Bool) → (b == k) ≡ t → (b == k) ≡ false
        go true e = absurd (true≢false (sym word ∙ ap is_word_byte (sym (eqb-true b k e)) ∙ stop))
        go false e = e

    other : (ds : List ℕ) → list_all is_ascii_digit ds ≡ true → ((slice_index (x ∷ ds ++ b ∷ rest) 1 == 120) || (slice_index (x ∷ ds ++ b ∷ rest) 1 == 88)) ≡ false
    other [] all = ap₂ (λ p q. p || q) (word_ne 120 refl) (word_ne 88 refl)
    other (d ∷ ds) all =
        let digit = (and_parts (is_ascii_digit d) (list_all is_ascii_digit ds) all).0 in
        ap₂ (λ p q. p || q) (not_passed is_ascii_digit 120 d refl digit) (not_passed is_ascii_digit 88 d refl digit)

    by : (zeroth : Bool) → ((slice_index (x ∷ ds ++ b ∷ rest) 1 == 120) || (slice_index (x ∷ ds ++ b ∷ rest) 1 == 88)) ≡ false → ((zeroth && ((slice_index (x ∷ ds ++ b ∷ rest) 1 == 120) || (slice_index (x ∷ ds ++ b ∷ rest) 1 == 88))) && is_ascii_hexdigit (slice_index (x ∷ ds ++ b ∷ rest) 2)) ≡ false
    by true e = ap (λ t. t && is_ascii_hexdigit (slice_index (x ∷ ds ++ b ∷ rest) 2)) e
    by false e = refl

pub at_end : (w : List ℕ) (b : ℕ) (rest : List ℕ) → slice_index (w ++ b ∷ rest) (length w) ≡ b
at_end [] b rest = refl
at_end (x ∷ w) b rest = at_end w b rest

pub digits_lex : (x : ℕ) (ds : List ℕ) → list_all is_ascii_digit (x ∷ ds) ≡ true → LexesBefore (x ∷ ds) (slice Number (x ∷ ds) ∷ [])
unfolding number_piece
digits_lex x ds all = record {
  lex = λ b rest more apart l.
      let both = and_parts (is_ascii_digit x) (list_all is_ascii_digit ds) all in
      let stop = parts_word b apart in
      let long : prefix_len is_ascii_digit (x ∷ ds ++ b ∷ rest) ≡ length (x ∷ ds) = run is_ascii_digit (x ∷ ds) b rest all (digit_in_word b stop) in
      let point : (slice_index (x ∷ ds ++ b ∷ rest) (length (x ∷ ds)) == 46) ≡ false = ap (λ k. k == 46) (at_end (x ∷ ds) b rest) ∙ parts_point b apart in
      let is : piece (x ∷ ds ++ b ∷ rest) ≡ Lexeme Number (length (x ∷ ds)) =
      starts_number x (ds ++ b ∷ rest) both.0 ∙ ap (λ t. cond t (Lexeme Number (2 + prefix_len is_ascii_hexdigit (drop 2 (x ∷ ds ++ b ∷ rest)))) (decimal_piece (prefix_len is_ascii_digit (x ∷ ds ++ b ∷ rest)) (x ∷ ds ++ b ∷ rest))) (no_hex x ds b rest both.1 stop)
      ∙ ap (λ n. decimal_piece n (x ∷ ds ++ b ∷ rest)) long
      ∙ ap (λ t. cond t (Lexeme Decimal (length (x ∷ ds) + 1 + prefix_len is_ascii_digit (drop (length (x ∷ ds) + 1) (x ∷ ds ++ b ∷ rest)))) (Lexeme Number (length (x ∷ ds)))) point in
      lexed-taken Number (x ∷ ds) (b ∷ rest) more is l;
}

pub all_digits : (n : ℕ) → n < 2 ^ 64 → (x : ℕ) × (ds : List ℕ) × (decimal n ≡ x ∷ ds) × (list_all is_ascii_digit (x ∷ ds) ≡ true)
all_digits n small = decimal_by_steps (λ n bs. (x : ℕ) × (ds : List ℕ) × (bs ≡ x ∷ ds) × (list_all is_ascii_digit (x ∷ ds) ≡ true)) one_digit more_digits n small
  where
    is_digit : (m : ℕ) → m < 10 → is_ascii_digit (48 + m) ≡ true
    is_digit m h = ap₂ (λ a b. a && b) (le-leb 48 (48 + m) (omega arith)) (le-leb (48 + m) 57 (omega arith))

    one_digit : (n : ℕ) → n < 10 → (x : ℕ) × (ds : List ℕ) × ((48 + n) ∷ [] ≡ x ∷ ds) × (list_all is_ascii_digit (x ∷ ds) ≡ true)
    one_digit n h = (48 + n, [], refl, ap (λ t. t && true) (is_digit n h))

    more_digits : (n : ℕ) (bs : List ℕ) → 10 ≤ n → ((x : ℕ) × (ds : List ℕ) × (bs ≡ x ∷ ds) × (list_all is_ascii_digit (x ∷ ds) ≡ true)) → (x : ℕ) × (ds : List ℕ) × (bs ++ (48 + n % 10) ∷ [] ≡ x ∷ ds) × (list_all is_ascii_digit (x ∷ ds) ≡ true)
    more_digits n bs h p =
        let last : is_ascii_digit (48 + n % 10) ≡ true = is_digit (n % 10) (omega arith) in
        (p.0, p.1 ++ (48 + n % 10) ∷ [], ap (λ xs. xs ++ (48 + n % 10) ∷ []) p.2, list_all-append is_ascii_digit (p.0 ∷ p.1) ((48 + n % 10) ∷ []) ∙ ap₂ (λ a b. a && b) p.3 (ap (λ t. t && true) last))

pub decimal_lexes : (n : ℕ) → n < 2 ^ 64 → LexesBefore (decimal n) (slice Number (decimal n) ∷ [])
decimal_lexes n small = let d = all_digits n small in subst (λ bs. LexesBefore bs (slice Number bs ∷ [])) (sym d.2) (digits_lex d.0 d.1 d.3)

-- ---- Names of keys

pub key_name_lexes : (name : List ℕ) → list_all is_key_byte name ≡ true → Lexes (60 ∷ name ++ 62 ∷ []) (slice KeyName (60 ∷ name ++ 62 ∷ []) ∷ [])
unfolding piece key_name_piece
key_name_lexes name all = record {
  lex = λ rest more l.
      let long : prefix_len is_key_byte (name ++ 62 ∷ rest) ≡ length name = run is_key_byte name 62 rest all refl in
      let size : length name + 2 ≡ length (60 ∷ name ++ 62 ∷ []) = omega (arith, length-append name (62 ∷ [])) in
      let is : piece (60 ∷ name ++ 62 ∷ rest) ≡ Lexeme KeyName (length (60 ∷ name ++ 62 ∷ [])) =
      ap (λ n. cond (slice_index (name ++ 62 ∷ rest) n == 62) (Lexeme KeyName (n + 2)) (OpenKeyName (n + 1))) long
      ∙ ap (λ b. cond (b == 62) (Lexeme KeyName (length name + 2)) (OpenKeyName (length name + 1))) (at_end name 62 rest)
      ∙ ap (λ n. Lexeme KeyName n) size in
      let same : 60 ∷ name ++ 62 ∷ rest ≡ (60 ∷ name ++ 62 ∷ []) ++ rest = ap (λ xs. 60 ∷ xs) (sym (append_assoc name (62 ∷ []) rest)) in
      lexed-taken KeyName (60 ∷ name ++ 62 ∷ []) rest more (sym (ap piece same) ∙ is) l;
}

-- ---- Strings

-- bytes between quotes up to the one that closes
pub string_lexes : (bytes : List ℕ) → ((rest : List ℕ) → extent false (bytes ++ 34 ∷ rest) ≡ Closed (length bytes + 1)) → Lexes (34 ∷ bytes ++ 34 ∷ []) (slice Text (34 ∷ bytes ++ 34 ∷ []) ∷ [])
unfolding piece
string_lexes bytes closed = record {
  lex = λ rest more l.
      let size : length bytes + 1 + 1 ≡ length (34 ∷ bytes ++ 34 ∷ []) = omega (arith, length-append bytes (34 ∷ [])) in
      let is : piece (34 ∷ bytes ++ 34 ∷ rest) ≡ Lexeme Text (length (34 ∷ bytes ++ 34 ∷ [])) = ap string_piece (closed rest) ∙ ap (λ n. Lexeme Text n) size in
      let same : 34 ∷ bytes ++ 34 ∷ rest ≡ (34 ∷ bytes ++ 34 ∷ []) ++ rest = ap (λ xs. 34 ∷ xs) (sym (append_assoc bytes (34 ∷ []) rest)) in
      lexed-taken Text (34 ∷ bytes ++ 34 ∷ []) rest more (sym (ap piece same) ∙ is) l;
}
