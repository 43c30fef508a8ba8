-- A whole text's reading, and what its numbers are.
use Rattle.std.proofs.Common.{◌≡◌, ℕ, ◌<◌, ◌^◌, Bool, true, false, cond, ◌==◌, ◌&&◌, ◌||◌, List, [], ◌∷◌, ◌++◌, drop, slice_index, refl, sym, ap, ap₂, ◌∙◌, subst, append-nil}
use Rattle.std.proofs.lemmas.Bool.{and_parts}
use Rattle.std.proofs.lemmas.Fmt.{decimal_is_IsNumeral}
use Rattle.std.specs.Char.{is_ascii_digit, is_ascii_hexdigit}
use Rattle.std.specs.Fmt.{decimal}
use Rattle.std.specs.List.{list_all}
use Rattle.std.specs.Str.Parse.{digits_value}
use Rattle.kx_lex.specs.Kinds.{number_value}
use Rattle.kx_lex.specs.Pieces.{piece, begins_hex}
use Rattle.kx_lex.specs.Reading.{IsReading, Reads, mark_len}
use Rattle.kx_lex.specs.declared.token.Token.{Token}
use Rattle.roundtrip_text.specs.Slices.{Slice, Lexed, ended, Lexes, Begins}
use Rattle.roundtrip_text.proofs.Lexing.{placed, all_digits, not_passed}

pub record IsRead (text : List ℕ) (ss : List Slice) : Type 0 where
  pub tokens : List Token
  pub reading : IsReading text tokens
  pub begins : Begins text ss tokens []

pub text_reads : (text : List ℕ) (ss : List Slice) → Lexes text ss → mark_len text ≡ 0 → IsRead text ss
unfolding piece
text_reads text ss l bare =
    let all : Lexed text ss = subst (λ bs. Lexed bs ss) (append-nil text) (subst (λ xs. Lexed (text ++ []) xs) (append-nil ss) (l.lex [] [] (ended refl))) in
    let p = placed text 0 refl all in
    record { tokens = p.tokens; reading = record { reads = subst (λ n. Reads n (drop n text) p.tokens) (sym bare) p.reads }; begins = p.are }

no_x : (ds : List ℕ) (x : ℕ) → list_all is_ascii_digit ds ≡ true → begins_hex (x ∷ ds) ≡ false
no_x [] x all = by (x == 48)
  where
    by : (t : Bool) → ((t && false) && is_ascii_hexdigit 0) ≡ false
    by true = refl
    by false = refl
no_x (d ∷ ds) x all = by (x == 48) ∙ refl
  where
    digit : is_ascii_digit d ≡ true
    digit = (and_parts (is_ascii_digit d) (list_all is_ascii_digit ds) all).0

    by : (t : Bool) → ((t && ((d == 120) || (d == 88))) && is_ascii_hexdigit (slice_index (x ∷ d ∷ ds) 2)) ≡ false
    by true = ap (λ t. t && is_ascii_hexdigit (slice_index (x ∷ d ∷ ds) 2)) (ap₂ (λ a b. a || b) (not_passed is_ascii_digit 120 d refl digit) (not_passed is_ascii_digit 88 d refl digit))
    by false = refl

pub decimal_value : (n : ℕ) → n < 2 ^ 64 → number_value (decimal n) ≡ n
unfolding number_value
decimal_value n small =
    let d = all_digits n small in
    let rest = (and_parts (is_ascii_digit d.0) (list_all is_ascii_digit d.1) d.3).1 in
    ap (λ t. cond t (digits_value 16 (drop 2 (decimal n))) (digits_value 10 (decimal n))) (ap begins_hex d.2 ∙ no_x d.1 d.0 rest) ∙ (decimal_is_IsNumeral n small).1
