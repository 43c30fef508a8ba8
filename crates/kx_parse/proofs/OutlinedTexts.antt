-- A text is outlined as an outline exactly where that is its outline.
use Rattle.std.proofs.Common.{◌≡◌, ◌<◌, ◌+◌, ℕ, zero, suc, true, false, List, [], ◌∷◌, drop, length, map, Option, None, Some, Ok, Err, refl, sym, ap, subst, arith, length-drop}
use Rattle.std.specs.Option.{option_and_then, option_map}
use Rattle.kx_lex.specs.Kinds.{front}
use Rattle.kx_lex.specs.Parsing.{Read}
use Rattle.kx_lex.specs.Pieces.{piece}
use Rattle.kx_lex.specs.Production.{spanned}
use Rattle.kx_lex.specs.Reading.{IsReading, Reads, ended, mark_len, skipped, taken, token_of}
use Rattle.kx_lex.specs.declared.scan.Piece.{Piece}
use Rattle.kx_lex.specs.declared.scan.Piece.TheVariants as begins
use Rattle.kx_lex.specs.declared.token.Span.{Span}
use Rattle.kx_lex.specs.declared.token.Token.{Token}
use Rattle.kx_lex.specs.declared.token.TokenKind.{TokenKind}
use Rattle.kx_lex.proofs.Lawful.{Admits, Lawful, many-lawful, spanned-lawful}
use Rattle.kx_parse.specs.Outline.{IsOutline, outline_from, outline_of, placed_sections}
use Rattle.kx_parse.specs.Outlined.{outline_read, outlined, tokens_at, tokens_from, tokens_of}
use Rattle.kx_tree.specs.Sections.{section}
use Rattle.kx_parse.specs.declared.outline.Outline.{Outline}
use Rattle.kx_tree.specs.declared.tree.Section.{Section}
use Rattle.kx_parse.proofs.LawfulSections.{section-lawful, section-least, section-some}
use Rattle.kx_parse.proofs.PassedSections.{file-placed}

-- ---- A piece of no bytes is never gone over

same-drop : (n : ℕ) (bs cs : List ℕ) → n ≡ 0 → cs ≡ bs → cs ≡ drop n bs
same-drop n bs cs none same = rw none same

no-gap : {offset : ℕ} {bs : List ℕ} {ts : List Token} → Reads offset bs ts → (cs : List ℕ) → cs ≡ bs → piece cs ≡ begins.Gap 0 → ⊥
no-gap (ended e) cs same p = let here = ap piece same in cc
no-gap (taken kind n e r) cs same p = let here = ap piece same in cc
no-gap {bs = bs} (skipped n e r) cs same p =
    let here = ap piece same in
    let none : n ≡ 0 = cc in
    no-gap r cs (same-drop n bs cs none same) p

no-token : {offset : ℕ} {bs : List ℕ} {ts : List Token} → Reads offset bs ts → (cs : List ℕ) (kind : TokenKind) → cs ≡ bs → piece cs ≡ begins.Lexeme kind 0 → ⊥
no-token (ended e) cs kind same p = let here = ap piece same in cc
no-token (skipped n e r) cs kind same p = let here = ap piece same in cc
no-token {bs = bs} (taken other n e r) cs kind same p =
    let here = ap piece same in
    let none : n ≡ 0 = cc in
    no-token r cs kind (same-drop n bs cs none same) p

some-gap : {offset : ℕ} {bs : List ℕ} {ts : List Token} (n : ℕ) → Reads offset bs ts → piece bs ≡ begins.Gap n → 0 < n
some-gap {bs = bs} zero r p = absurd (no-gap r bs refl p)
some-gap (suc n) r p = omega arith

some-token : {offset : ℕ} {bs : List ℕ} {ts : List Token} (kind : TokenKind) (n : ℕ) → Reads offset bs ts → piece bs ≡ begins.Lexeme kind n → 0 < n
some-token {bs = bs} kind zero r p = absurd (no-token r bs kind refl p)
some-token kind (suc n) r p = omega arith

-- where a piece begins, bytes are left
some-bytes : (bs : List ℕ) (p : Piece) → piece bs ≡ p → (p ≡ begins.End → ⊥) → 0 < length bs
unfolding piece
some-bytes [] p e some = absurd (some (sym e))
some-bytes (b ∷ bs) p e some = omega arith

-- ---- What is read is worked out

worked-out : {offset : ℕ} {bs : List ℕ} {ts : List Token} → Reads offset bs ts → (pieces : ℕ) → length bs < pieces → tokens_from pieces offset bs ≡ Some ts
worked-out r zero enough = absurd (omega arith)
worked-out (ended e) (suc pieces) enough = rw e refl
worked-out {offset = offset} {bs = bs} {ts = ts} (skipped n e r) (suc pieces) enough =
    let some = some-gap n (skipped n e r) e in
    let left = some-bytes bs (begins.Gap n) e (λ h. cc) in
    rw e (worked-out {offset = offset + n} {bs = drop n bs} {ts = ts} r pieces (omega (arith, length-drop n bs)))
worked-out {offset = offset} {bs = bs} (taken {ts = us} kind n e r) (suc pieces) enough =
    let some = some-token kind n (taken kind n e r) e in
    let left = some-bytes bs (begins.Lexeme kind n) e (λ h. cc) in
    rw e (ap (λ (o : Option (List Token)). option_map (λ ts. token_of kind offset n ∷ ts) o) (worked-out {offset = offset + n} {bs = drop n bs} {ts = us} r pieces (omega (arith, length-drop n bs))))

-- and what is worked out is read
read-token : (offset : ℕ) (bs : List ℕ) (ts : List Token) (kind : TokenKind) (n : ℕ) → piece bs ≡ begins.Lexeme kind n → (o : Option (List Token)) → ((us : List Token) → o ≡ Some us → Reads (offset + n) (drop n bs) us) → option_map (λ us. token_of kind offset n ∷ us) o ≡ Some ts → Reads offset bs ts
read-token offset bs ts kind n p None behind w = cc
read-token offset bs ts kind n p (Some us) behind w =
    let same : token_of kind offset n ∷ us ≡ ts = cc in
    subst (λ (vs : List Token). Reads offset bs vs) same (taken kind n p (behind us refl))

read-at : (offset : ℕ) (bs : List ℕ) (ts : List Token) (behind : ℕ → List ℕ → Option (List Token)) → ((other : ℕ) (cs : List ℕ) (us : List Token) → behind other cs ≡ Some us → Reads other cs us) → (p : Piece) → piece bs ≡ p → tokens_at behind offset bs p ≡ Some ts → Reads offset bs ts
read-at offset bs ts behind reads begins.End p w = let same : [] ≡ ts = cc in subst (λ (vs : List Token). Reads offset bs vs) same (ended p)
read-at offset bs ts behind reads (begins.Gap n) p w = skipped n p (reads (offset + n) (drop n bs) ts w)
read-at offset bs ts behind reads (begins.Lexeme kind n) p w = read-token offset bs ts kind n p (behind (offset + n) (drop n bs)) (reads (offset + n) (drop n bs)) w
read-at offset bs ts behind reads begins.BadByte p w = cc
read-at offset bs ts behind reads (begins.OpenString n) p w = cc
read-at offset bs ts behind reads (begins.OpenKeyName n) p w = cc

is-read : (pieces offset : ℕ) (bs : List ℕ) (ts : List Token) → tokens_from pieces offset bs ≡ Some ts → Reads offset bs ts
is-read zero offset bs ts e = cc
is-read (suc pieces) offset bs ts e = read-at offset bs ts (tokens_from pieces) (λ other cs us found. is-read pieces other cs us found) (piece bs) refl e

reading-tokens : (text : List ℕ) (ts : List Token) → IsReading text ts → tokens_of text ≡ Some ts
unfolding tokens_of
reading-tokens text ts r = worked-out r.reads (suc (length text)) (omega (arith, length-drop (mark_len text) text))

tokens-reading : (text : List ℕ) (ts : List Token) → tokens_of text ≡ Some ts → IsReading text ts
unfolding tokens_of
tokens-reading text ts e = record { reads = is-read (suc (length text)) (mark_len text) (drop (mark_len text) text) ts e }

-- ---- The outline

spanned-some : (text : List ℕ) → Admits (front (λ _. true)) (spanned (section text))
spanned-some text ts x rest s = section-some text ts x.0 rest s.0

placed-lawful : (text : List ℕ) → Lawful text (placed_sections text)
placed-lawful text = many-lawful (λ _ _ _ _. refl) (spanned-lawful (section-lawful text)) (spanned-some text) (section-least text)

-- nothing is left of a file
no-rest : (ts : List Token) → front (λ _. true) ts ≡ false → ts ≡ []
no-rest [] h = refl
no-rest (t ∷ ts) h = cc

pub outline-outlined : (text : List ℕ) (outline : Outline) → IsOutline text outline → outlined text ≡ Some outline
unfolding outlined
outline-outlined text outline is =
    let read = (placed-lawful text).again is.tokens is.sections [] is.placed in
    rw (reading-tokens text is.tokens is.reading, read) (ap (λ (o : Outline). Some o) (whole is.outlined is.places))
  where
    whole : outline.sections ≡ map (λ s. outline_of s.0) is.sections → outline.places ≡ map (λ s. s.1) is.sections → outline_from is.sections ≡ outline
    whole e f = rw (sym e, sym f) refl

pub outlined-outline : (text : List ℕ) (outline : Outline) → outlined text ≡ Some outline → IsOutline text outline
unfolding outlined
outlined-outline text outline e = by_tokens (tokens_of text) refl e
  where
    by_read : (ts : List Token) → IsReading text ts → (r : Read (List (Section × Span))) → (placed_sections text).read ts ≡ r → outline_read r ≡ Some outline → IsOutline text outline
    by_read ts reading (Err f) read w = cc
    by_read ts reading (Ok p) read w =
        let same : outline_from p.0 ≡ outline = cc in
        let spelled = (placed-lawful text).takes ts p.0 p.1 read in
        let placed = subst (λ (rest : List Token). (placed_sections text).spells ts p.0 rest) (no-rest p.1 spelled.1) spelled in
        record {
          tokens = ts;
          sections = p.0;
          reading = reading;
          tree = file-placed text ts p.0 placed;
          placed = placed;
          outlined = ap (λ (o : Outline). o.sections) (sym same);
          places = ap (λ (o : Outline). o.places) (sym same);
        }

    by_tokens : (o : Option (List Token)) → tokens_of text ≡ o → option_and_then (λ ts. outline_read ((placed_sections text).read ts)) o ≡ Some outline → IsOutline text outline
    by_tokens None found w = cc
    by_tokens (Some ts) found w = by_read ts (tokens-reading text ts found) ((placed_sections text).read ts) refl w
