-- In a token reading the bytes of each key's name are a key's.
use Rattle.std.proofs.Common.{◌≡◌, ℕ, zero, suc, ◌+◌, ◌-◌, Bool, true, false, cond, ◌==◌, ◌&&◌, List, [], ◌∷◌, All, take, drop, slice_index, refl, sym, ap, ap₂, ◌∙◌, arith}
use Rattle.std.proofs.lemmas.List.{drop-drop}
use Rattle.std.specs.Char.{is_ascii_digit, is_ascii_hexdigit}
use Rattle.std.specs.List.{list_all, prefix_len}
use Rattle.kx_basics.specs.KeyNames.{is_key_byte}
use Rattle.kx_lex.specs.Bytes.{is_word_start, is_word_byte, is_mark, is_blank, is_not_line_feed}
use Rattle.kx_lex.specs.Kinds.{inner_of, is_key_name}
use Rattle.kx_lex.specs.contracts.token.TokenKindPartialEq.TheImpl.{ghosts}
use Rattle.kx_lex.specs.Pieces.{piece, begins_comment, begins_hex, extent, string_piece, number_piece, key_name_piece, word_piece}
use Rattle.kx_lex.specs.Reading.{Reads, ended, skipped, taken, token_of, IsReading}
use Rattle.kx_lex.specs.declared.scan.Extent.{Extent}
use Rattle.kx_lex.specs.declared.scan.Extent.TheVariants.{Closed, Open}
use Rattle.kx_lex.specs.declared.scan.Piece.TheVariants.{Gap, Lexeme, BadByte, OpenKeyName}
use Rattle.kx_lex.specs.declared.token.Token.{Token}
use Rattle.kx_lex.specs.declared.token.TokenKind.{TokenKind}
use Rattle.kx_lex.specs.declared.token.TokenKind.TheVariants.{Word, Number, Decimal, KeyName, Text, Mark}

all_prefix : (p : ℕ → Bool) (bs : List ℕ) → list_all p (take (prefix_len p bs) bs) ≡ true
all_prefix p [] = refl
all_prefix p (b ∷ bs) = by (p b) refl (all_prefix p bs)
  where
    by : (t : Bool) → p b ≡ t → list_all p (take (prefix_len p bs) bs) ≡ true → list_all p (take (cond t (1 + prefix_len p bs) 0) (b ∷ bs)) ≡ true
    by true is rest =
        let on : 1 + prefix_len p bs ≡ suc (prefix_len p bs) = omega arith in
        ap (λ n. list_all p (take n (b ∷ bs))) on ∙ ap (λ t. t && list_all p (take (prefix_len p bs) bs)) is ∙ rest
    by false is rest = refl

pub no_string : (e : Extent) (n : ℕ) → string_piece e ≡ Lexeme KeyName n → ⊥
no_string (Closed k) n h = cc
no_string (Open k) n h = cc

pub no_number : (bs : List ℕ) (n : ℕ) → number_piece bs ≡ Lexeme KeyName n → ⊥
unfolding number_piece
no_number bs n h = by (begins_hex bs) (slice_index bs (prefix_len is_ascii_digit bs) == 46) h
  where
    by : (hex point : Bool)
        → cond hex (Lexeme Number (2 + prefix_len is_ascii_hexdigit (drop 2 bs))) (cond point (Lexeme Decimal (prefix_len is_ascii_digit bs + 1 + prefix_len is_ascii_digit (drop (prefix_len is_ascii_digit bs + 1) bs))) (Lexeme Number (prefix_len is_ascii_digit bs))) ≡ Lexeme KeyName n
        → ⊥
    by true point h = cc
    by false true h = cc
    by false false h = cc

-- only after < does a key's name begin
key_name_begins : (b : ℕ) (bs : List ℕ) (n : ℕ) → piece (b ∷ bs) ≡ Lexeme KeyName n → key_name_piece bs ≡ Lexeme KeyName n
unfolding piece
key_name_begins b bs n h = by (is_blank b) (begins_comment (b ∷ bs)) (is_word_start b) (is_ascii_digit b) (b == 34) (b == 60) (is_mark b) h
  where
    by : (blank comment word digit quote angle mark : Bool)
        → cond blank (Gap (prefix_len is_blank (b ∷ bs))) (cond comment (Gap (prefix_len is_not_line_feed (b ∷ bs))) (cond word (word_piece (prefix_len is_word_byte (b ∷ bs)) (b ∷ bs)) (cond digit (number_piece (b ∷ bs)) (cond quote (string_piece (extent false bs)) (cond angle (key_name_piece bs) (cond mark (Lexeme (Mark b) 1) BadByte)))))) ≡ Lexeme KeyName n
        → key_name_piece bs ≡ Lexeme KeyName n
    by true comment word digit quote angle mark h = cc
    by false true word digit quote angle mark h = cc
    by false false true digit quote angle mark h = cc
    by false false false true quote angle mark h = absurd (no_number (b ∷ bs) n h)
    by false false false false true angle mark h = absurd (no_string (extent false bs) n h)
    by false false false false false true mark h = h
    by false false false false false false true h = cc
    by false false false false false false false h = cc

key_name_len : (bs : List ℕ) (n : ℕ) → key_name_piece bs ≡ Lexeme KeyName n → n ≡ prefix_len is_key_byte bs + 2
unfolding key_name_piece
key_name_len bs n h = by (slice_index bs (prefix_len is_key_byte bs) == 62) h
  where
    by : (b : Bool) → cond b (Lexeme KeyName (prefix_len is_key_byte bs + 2)) (OpenKeyName (prefix_len is_key_byte bs + 1)) ≡ Lexeme KeyName n → n ≡ prefix_len is_key_byte bs + 2
    by true h = let same : prefix_len is_key_byte bs + 2 ≡ n = cc in sym same
    by false h = cc

left : (text : List ℕ) (offset n : ℕ) (bs : List ℕ) → bs ≡ drop offset text → drop n bs ≡ drop (offset + n) text
left text offset n bs here = ap (drop n) here ∙ drop-drop n offset text

-- the bytes of the name of a token that is taken from what is left of a text
taken_name : (text : List ℕ) (offset n : ℕ) (bs : List ℕ) → bs ≡ drop offset text → piece bs ≡ Lexeme KeyName n → list_all is_key_byte (inner_of text (token_of KeyName offset n)) ≡ true
unfolding piece
taken_name text offset n [] here h = cc
taken_name text offset n (b ∷ bs) here h =
    let len = key_name_len bs n (key_name_begins b bs n h) in
    let count : offset + n - 1 - (offset + 1) ≡ prefix_len is_key_byte bs = omega (arith, len) in
    let rest : drop (offset + 1) text ≡ bs = sym (left text offset 1 (b ∷ bs) here) in
    ap₂ (λ k xs. list_all is_key_byte (take k xs)) count rest ∙ all_prefix is_key_byte bs

pub one_token : (text : List ℕ) (kind : TokenKind) (offset n : ℕ) (bs : List ℕ) → bs ≡ drop offset text → piece bs ≡ Lexeme kind n → ghosts.eq kind KeyName ≡ true → list_all is_key_byte (inner_of text (token_of kind offset n)) ≡ true
one_token text KeyName offset n bs here h key = taken_name text offset n bs here h
one_token text (Word k) offset n bs here h key = cc
one_token text Number offset n bs here h key = cc
one_token text Decimal offset n bs here h key = cc
one_token text Text offset n bs here h key = cc
one_token text (Mark b) offset n bs here h key = cc

reads-key_names : (text : List ℕ) {offset : ℕ} {bs : List ℕ} {ts : List Token} → bs ≡ drop offset text → Reads offset bs ts → All (λ t. is_key_name t ≡ true → list_all is_key_byte (inner_of text t) ≡ true) ts
reads-key_names text here (ended e) k d within = absurd (omega arith)
reads-key_names text {offset} {bs} here (skipped n e r) k d within = reads-key_names text (left text offset n bs here) r k d within
reads-key_names text {offset} {bs} here (taken kind n e r) zero d within = one_token text kind offset n bs here e
reads-key_names text {offset} {bs} here (taken kind n e r) (suc k) d within = reads-key_names text (left text offset n bs here) r k d (omega arith)

pub IsReading-key_names : (text : List ℕ) (tokens : List Token) → IsReading text tokens → All (λ t. is_key_name t ≡ true → list_all is_key_byte (inner_of text t) ≡ true) tokens
IsReading-key_names text tokens r = reads-key_names text refl r.reads
