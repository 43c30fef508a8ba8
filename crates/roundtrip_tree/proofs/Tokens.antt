-- What single tokens spell.
use Rattle.std.proofs.Common.{◌≡◌, ℕ, suc, ◌+◌, ◌-◌, ◌<◌, ◌^◌, true, cond, List, [], ◌∷◌, ◌++◌, length, take, drop, refl, sym, ap, ap₂, ◌∙◌, arith, length-append, Result, Ok, Err}
use Rattle.std.proofs.lemmas.Bool.{lt-ltb}
use Rattle.std.proofs.lemmas.List.{drop-drop}
use Rattle.std.specs.List.{list_all}
use Rattle.kx_basics.specs.KeyNames.{is_key_byte}
use Rattle.kx_lex.specs.Kinds.{slice_of, inner_of, number_value}
use Rattle.kx_lex.specs.Stops.{syntax_at}
use Rattle.kx_lex.specs.Strings.{text_value}
use Rattle.kx_lex.specs.declared.string.EscapeState.TheVariants.{Plain}
use Rattle.kx_lex.specs.Tokens.{word, key_name, text_name, number, enclosed, measured, too_big}
use Rattle.kx_lex.specs.declared.fault.Fault.{Fault}
use Rattle.kx_lex.specs.declared.keyword.Keyword.{Keyword}
use Rattle.kx_lex.specs.declared.name.Name.{Name}
use Rattle.kx_lex.specs.declared.name.Number.{Number as NumberValue}
use Rattle.kx_lex.specs.declared.token.Span.{Span}
use Rattle.kx_lex.specs.declared.token.Token.{Token}
use Rattle.kx_lex.specs.declared.token.TokenKind.{TokenKind}
use Rattle.kx_lex.specs.declared.token.TokenKind.TheVariants.{KeyName, Number, Word, Text}
use Rattle.roundtrip_text.specs.Slices.{IsAt}
use Rattle.roundtrip_tree.specs.Shows.{name_at, number_at, IsSpelled}
use Rattle.std.specs.Prelude.{Option}

abbrev pub token : TokenKind → Span → Token
token kind span = record { kind = kind; span = span }

pub slice_at : (text bytes : List ℕ) (kind : TokenKind) (span : Span) → IsAt text bytes span → slice_of text (token kind span) ≡ bytes
slice_at text bytes kind span at = let size : span.stop - span.start ≡ length bytes = let stop = at.stop in omega (arith, stop) in ap (λ n. take n (drop span.start text)) size ∙ at.bytes_are

-- a name and its last byte
named : (name xs : List ℕ) (close : ℕ) → take (suc (length name)) xs ≡ name ++ close ∷ [] → take (length name) xs ≡ name
named [] xs close is = refl
named (b ∷ name) [] close is = cc
named (b ∷ name) (x ∷ xs) close is =
    let here : x ≡ b = cc in
    let rest : take (suc (length name)) xs ≡ name ++ close ∷ [] = cc in
    ap₂ (λ h t. h ∷ t) here (named name xs close rest)

-- without its first byte
inner_front : (name xs : List ℕ) (left right n : ℕ) → n ≡ suc (suc (length name)) → take n xs ≡ left ∷ name ++ right ∷ [] → take (length name) (drop 1 xs) ≡ name
inner_front name [] left right n size is = let bad : take (suc (suc (length name))) [] ≡ left ∷ name ++ right ∷ [] = ap (λ k. take k []) (sym size) ∙ is in cc
inner_front name (x ∷ xs) left right n size is =
    let whole : x ∷ take (suc (length name)) xs ≡ left ∷ name ++ right ∷ [] = ap (λ k. take k (x ∷ xs)) (sym size) ∙ is in
    named name xs right (let rest : take (suc (length name)) xs ≡ name ++ right ∷ [] = cc in rest)

pub inner_at : (text name : List ℕ) (left right : ℕ) (kind : TokenKind) (span : Span) → IsAt text (left ∷ name ++ right ∷ []) span → inner_of text (token kind span) ≡ name
inner_at text name left right kind span at =
    let size : length (left ∷ name ++ right ∷ []) ≡ suc (suc (length name)) = omega (arith, length-append name (right ∷ [])) in
    let stop = at.stop in
    let count : span.stop - 1 - (span.start + 1) ≡ length name = omega (arith, stop, size) in
    ap₂ (λ n xs. take n xs) count (sym (drop-drop 1 span.start text))
    ∙ inner_front name (drop span.start text) left right (length (left ∷ name ++ right ∷ [])) size at.bytes_are

pub key_name_spelled : (text name : List ℕ) (span : Span) (rest : List Token) → list_all is_key_byte name ≡ true → IsAt text (60 ∷ name ++ 62 ∷ []) span → IsSpelled (key_name text) (token KeyName span ∷ rest) (name_at name span) rest
unfolding key_name
key_name_spelled text name span rest all at =
    let inner = inner_at text name 60 62 KeyName span at in
    let valid : enclosed text (token KeyName span) ≡ Ok (name_at name span) =
    ap (λ bytes. let r : Result Name Fault = cond (list_all is_key_byte bytes) (Ok (name_at bytes span)) (Err (syntax_at (token KeyName span))) in r) inner
    ∙ ap (λ b. let r : Result Name Fault = cond b (Ok (name_at name span)) (Err (syntax_at (token KeyName span))) in r) all in
    record { spelled = (token KeyName span, rest, (refl, refl), (valid, refl)) }

pub number_spelled : (text bytes : List ℕ) (value : ℕ) (span : Span) (rest : List Token) → number_value bytes ≡ value → value < 2 ^ 32 → IsAt text bytes span → IsSpelled (number text) (token Number span ∷ rest) (number_at value span) rest
unfolding number
number_spelled text bytes value span rest is small at =
    let worth : number_value (slice_of text (token Number span)) ≡ value = ap number_value (slice_at text bytes Number span at) ∙ is in
    let valid : measured (number_value (slice_of text (token Number span))) span ≡ Ok (number_at value span) =
    ap (λ v. measured v span) worth ∙ ap (λ b. let r : Result NumberValue Fault = cond b (Ok (number_at value span)) (too_big span) in r) (lt-ltb value (2 ^ 32) small) in
    record { spelled = (token Number span, rest, (refl, refl), (valid, refl)) }

pub word_spelled : (text bytes : List ℕ) (keyword : Option Keyword) (span : Span) (rest : List Token) → IsAt text bytes span → IsSpelled (word text) (token (Word keyword) span ∷ rest) (name_at bytes span) rest
unfolding word
word_spelled text bytes keyword span rest at =
    record { spelled = (token (Word keyword) span, rest, (refl, refl), (ap (λ b. name_at b span) (slice_at text bytes (Word keyword) span at), refl)) }

-- text between quotes, whose bytes stand for a name
pub text_spelled : (text bytes name : List ℕ) (span : Span) (rest : List Token) → text_value Plain bytes ≡ name → IsAt text (34 ∷ bytes ++ 34 ∷ []) span → IsSpelled (text_name text) (token Text span ∷ rest) (name_at name span) rest
unfolding text_name
text_spelled text bytes name span rest worth at =
    record { spelled = (token Text span, rest, (refl, refl), (ap (λ b. name_at (text_value Plain b) span) (inner_at text bytes 34 34 Text span at) ∙ ap (λ b. name_at b span) worth, refl)) }
