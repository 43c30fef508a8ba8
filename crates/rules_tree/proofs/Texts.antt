-- How the source of components is read.
use Rattle.std.proofs.Common.{◌≡◌, ℕ, ◌+◌, ◌≤◌, nat_le, Bool, true, false, cond, not, ◌==◌, ◌&&◌, List, [], ◌∷◌, ◌++◌, length, codes, refl, sym, ap, ap₂, ◌∙◌, subst, arith, append_assoc, append-nil, true≢false}
use Rattle.std.proofs.lemmas.Bool.{and_parts, eqb-true, leb-true}
use Rattle.std.specs.List.{flat_map, list_all}
use Rattle.kx_lex.specs.Pieces.{extent, longer}
use Rattle.kx_lex.specs.Reading.{mark_len}
use Rattle.kx_lex.specs.Strings.{text_value}
use Rattle.kx_lex.specs.declared.scan.Extent.{Extent}
use Rattle.kx_lex.specs.declared.scan.Extent.TheVariants.{Closed, Open}
use Rattle.kx_lex.specs.declared.string.EscapeState.TheVariants.{Escaped, Plain}
use Rattle.kx_lex.specs.declared.token.TokenKind.TheVariants.{Text}
use Rattle.kx_rules.specs.Rules.{Components}
use Rattle.kx_rules.specs.Sources.{are_writable, is_plain, section_line, source_of}
use Rattle.roundtrip_text.specs.Sections.{section_slices}
use Rattle.roundtrip_text.specs.Slices.{Lexes, Slice, slice}
use Rattle.roundtrip_text.specs.Spelled.{block_slices, closed, mark, word}
use Rattle.roundtrip_text.proofs.Lexing.{before_lexes, string_lexes, then_lexes}
use Rattle.roundtrip_text.proofs.Lines.{is_text_word, one_word}
use Rattle.roundtrip_text.proofs.Phrases.{marks_lex}

-- a byte that stands for itself ends no text, escapes nothing and ends no line
pub record IsItself (b : ℕ) : Type 0 where
  pub no_quote : (b == 34) ≡ false
  pub no_escape : (b == 92) ≡ false
  pub no_end : (b == 10) ≡ false

pub itself : (b : ℕ) → is_plain b ≡ true → IsItself b
itself b h =
    let all = and_parts (nat_le 32 b && not (b == 34)) (not (b == 92) && not (b == 127)) h in
    let front = and_parts (nat_le 32 b) (not (b == 34)) all.0 in
    let back = and_parts (not (b == 92)) (not (b == 127)) all.1 in
    record { no_quote = off (b == 34) front.1; no_escape = off (b == 92) back.0; no_end = low (b == 10) refl (leb-true 32 b front.0) }
  where
    off : (t : Bool) → not t ≡ true → t ≡ false
    off true h = cc
    off false h = refl

    low : (t : Bool) → (b == 10) ≡ t → 32 ≤ b → (b == 10) ≡ false
    low true e visible = let is : b ≡ 10 = eqb-true b 10 e in absurd (omega (arith, is, visible))
    low false e visible = e

closes : (text rest : List ℕ) → list_all is_plain text ≡ true → extent false (text ++ 34 ∷ rest) ≡ Closed (length text + 1)
closes [] rest all = refl
closes (b ∷ bs) rest all =
    let both = and_parts (is_plain b) (list_all is_plain bs) all in
    let is = itself b both.0 in
    by (b == 10) (b == 34) (b == 92) is.no_end is.no_quote is.no_escape (closes bs rest both.1)
  where
    by : (end quote escape : Bool) → end ≡ false → quote ≡ false → escape ≡ false → extent false (bs ++ 34 ∷ rest) ≡ Closed (length bs + 1)
        → cond end (Open 0) (cond (quote && not false) (Closed 1) (longer 1 (extent (escape && not false) (bs ++ 34 ∷ rest)))) ≡ Closed (length (b ∷ bs) + 1)
    by true quote escape e f g rec = cc
    by false true escape e f g rec = cc
    by false false true e f g rec = cc
    by false false false e f g rec = let size : 1 + (length bs + 1) ≡ length (b ∷ bs) + 1 = omega arith in ap (longer 1) rec ∙ ap (λ (n : ℕ). Closed n) size

-- text between quotes stands for itself
pub worth : (text : List ℕ) → list_all is_plain text ≡ true → text_value Plain text ≡ text
worth [] all = refl
worth (b ∷ bs) all =
    let both = and_parts (is_plain b) (list_all is_plain bs) all in
    ap (λ t. cond t (text_value Escaped bs) (b ∷ text_value Plain bs)) (itself b both.0).no_escape ∙ ap (λ xs. b ∷ xs) (worth bs both.1)

-- ---- Tokens

abbrev pub include_slices : List ℕ → List Slice
include_slices text = word (codes "include") ∷ slice Text (34 ∷ text ++ 34 ∷ []) ∷ []

abbrev pub part_slices : List ℕ → List ℕ → List Slice
part_slices head text = section_slices head include_slices (text ∷ [])

abbrev pub made_slices : Components → List Slice
made_slices c =
    block_slices (word (codes "xkb_keymap") ∷ [])
    (part_slices (codes "xkb_keycodes") c.keycodes
    ++ (part_slices (codes "xkb_types") c.types
    ++ (part_slices (codes "xkb_compat") c.compat
    ++ part_slices (codes "xkb_symbols") c.symbols)))

-- after the text between quotes
abbrev behind : List ℕ
behind = codes " };" ++ 10 ∷ []

-- before it
abbrev before : List ℕ
before = codes " { include " ++ (34 ∷ [])

line_is : (head text : List ℕ) → section_line head text ≡ head ++ (codes " { include " ++ ((34 ∷ (text ++ (34 ∷ []))) ++ behind))
line_is head text =
    append_assoc (head ++ before) text (34 ∷ behind) ∙ append_assoc head before (text ++ (34 ∷ behind))
    ∙ ap (λ xs. head ++ (codes " { include " ++ (34 ∷ xs))) (sym (append_assoc text (34 ∷ []) behind))

part_lexes : (head text : List ℕ) → is_text_word head ≡ true → list_all is_plain text ≡ true → Lexes (section_line head text) (part_slices head text)
part_lexes head text h all =
    let quoted = string_lexes text (λ rest. closes text rest all) in
    let inner = then_lexes (marks_lex (codes " { ") refl) (before_lexes (one_word (codes "include") refl) refl (then_lexes (marks_lex (codes " ") refl) (then_lexes quoted (marks_lex behind refl)))) in
    let whole : Lexes (head ++ (codes " { include " ++ ((34 ∷ (text ++ (34 ∷ []))) ++ behind))) (part_slices head text) = before_lexes (one_word head h) refl inner in
    subst (λ bs. Lexes bs (part_slices head text)) (sym (line_is head text)) whole

-- each component's bytes stand for themselves
pub record PlainParts (c : Components) : Type 0 where
  pub keycodes : list_all is_plain c.keycodes ≡ true
  pub types : list_all is_plain c.types ≡ true
  pub compat : list_all is_plain c.compat ≡ true
  pub symbols : list_all is_plain c.symbols ≡ true

pub plain_parts : (c : Components) → are_writable c ≡ true → PlainParts c
unfolding are_writable
plain_parts c h =
    let both = and_parts (list_all is_plain c.keycodes && list_all is_plain c.types) (list_all is_plain c.compat && list_all is_plain c.symbols) h in
    let front = and_parts (list_all is_plain c.keycodes) (list_all is_plain c.types) both.0 in
    let back = and_parts (list_all is_plain c.compat) (list_all is_plain c.symbols) both.1 in
    record { keycodes = front.0; types = front.1; compat = back.0; symbols = back.1 }

pub made_lexes : (c : Components) → are_writable c ≡ true → Lexes (source_of c) (made_slices c)
unfolding source_of
made_lexes c writable =
    let all = plain_parts c writable in
    let head : Lexes (codes "xkb_keymap {" ++ 10 ∷ []) (word (codes "xkb_keymap") ∷ mark 123 ∷ []) = before_lexes (one_word (codes "xkb_keymap") refl) refl (marks_lex (codes " {" ++ 10 ∷ []) refl) in
    let keycodes = part_lexes (codes "xkb_keycodes") c.keycodes refl all.keycodes in
    let types = part_lexes (codes "xkb_types") c.types refl all.types in
    let compat = part_lexes (codes "xkb_compat") c.compat refl all.compat in
    let symbols = part_lexes (codes "xkb_symbols") c.symbols refl all.symbols in
    let end : Lexes (codes "};" ++ 10 ∷ []) closed = marks_lex (codes "};" ++ 10 ∷ []) refl in
    subst (Lexes (source_of c)) (joined (word (codes "xkb_keymap") ∷ mark 123 ∷ []) (part_slices (codes "xkb_keycodes") c.keycodes) (part_slices (codes "xkb_types") c.types) (part_slices (codes "xkb_compat") c.compat) (part_slices (codes "xkb_symbols") c.symbols) closed)
    (then_lexes (then_lexes (then_lexes (then_lexes (then_lexes head keycodes) types) compat) symbols) end)
  where
    joined : (a b c d e f : List Slice) → ((((a ++ b) ++ c) ++ d) ++ e) ++ f ≡ a ++ ((b ++ (c ++ (d ++ e))) ++ f)
    joined a b c d e f =
        ap (λ xs. xs ++ f) (ap (λ xs. xs ++ e) (ap (λ xs. xs ++ d) (append_assoc a b c) ∙ append_assoc a (b ++ c) d) ∙ append_assoc a ((b ++ c) ++ d) e
        ∙ ap (λ xs. a ++ xs) (append_assoc (b ++ c) d e ∙ append_assoc b c (d ++ e)))
        ∙ append_assoc a (b ++ (c ++ (d ++ e))) f

-- the source begins with no byte order mark
pub unmarked : (c : Components) → mark_len (source_of c) ≡ 0
unfolding source_of
unmarked c = refl
