-- What printed values are spelled as.
use Rattle.std.proofs.Common.{◌≡◌, ℕ, ◌<◌, ◌^◌, Bool, true, false, ◌||◌, ◌==◌, List, [], ◌∷◌, refl, sym, ap, ap₂, ◌∙◌, true≢false, eqb-true}
use Rattle.kx_lex.specs.Kinds.{front, is_mark, before_mark, number_value}
use Rattle.kx_lex.specs.Production.{Production, many}
use Rattle.kx_lex.specs.Tokens.{comma}
use Rattle.kx_lex.specs.declared.token.Span.{Span}
use Rattle.kx_lex.specs.declared.token.Token.{Token}
use Rattle.kx_lex.specs.declared.token.TokenKind.TheVariants.{Mark, Number}
use Rattle.kx_tree.specs.Forms.{after, made, listed}
use Rattle.kx_tree.specs.Values.{term, operation, expression, is_sign}
use Rattle.kx_tree.specs.declared.tree.Term.TheVariants as terms
use Rattle.roundtrip_text.specs.Slices.{Slice, slice, Begins, none, more}
use Rattle.roundtrip_tree.specs.Shows.{IsSpelled, ReadsAs, AreShown, number_at}
use Rattle.roundtrip_tree.proofs.Rows.{Stops, stop, is_stop, parted, list_slices, sequence_reads}
use Rattle.roundtrip_tree.proofs.Spellings.{first_spelled, second_spelled, made_spelled, placed_spelled, both_spelled}
use Rattle.roundtrip_tree.proofs.Tokens.{token, number_spelled}

-- ---- Symbols

pub stop_ne : (b k : ℕ) → is_stop k ≡ false → is_stop b ≡ true → (b == k) ≡ false
stop_ne b k no_stop h = by (b == k) refl
  where
    by : (t : Bool) → (b == k) ≡ t → (b == k) ≡ false
    by true e = absurd (true≢false (sym h ∙ ap is_stop (eqb-true b k e) ∙ no_stop))
    by false e = e

-- ---- Levels of keysyms

-- ---- Expressions of one term

-- a number, before what ends a value
pub number_expression_reads : (text bytes : List ℕ) (value : ℕ) → number_value bytes ≡ value → value < 2 ^ 32 → (ts rest : List Token) → Begins text (slice Number bytes ∷ []) ts rest → Stops rest
    → ReadsAs (expression text) (λ e. (span whole : Span) × (e ≡ record { first = terms.Number (number_at value span); rest = []; span = whole })) ts rest
unfolding expression term
number_expression_reads text bytes value worth small ts rest (more span at none) (stop {b = b} {span = after} {rest = behind} h) =
    let n = number_spelled text bytes value span (token (Mark b) after ∷ behind) worth small at in
    let t = second_spelled (made terms.Signed _) refl (first_spelled _ refl (made_spelled terms.Number n)) in
    let no_sign : front is_sign (token (Mark b) after ∷ behind) ≡ false = ap₂ (λ p q. p || q) (stop_ne b 43 refl h) (stop_ne b 45 refl h) in
    let nothing : IsSpelled (many (front is_sign) (operation text)) (token (Mark b) after ∷ behind) [] (token (Mark b) after ∷ behind) = record { spelled = (refl, no_sign) } in
    record { value = _; spelled = placed_spelled (λ e whole. record { first = e.0; rest = e.1; span = whole }) (both_spelled t nothing); is = (span, _, refl) }

-- ---- Lists of keysyms

-- one and more of what doesn't begin with the mark that closes
pub listed_reads : {A X : Type 0} (text : List ℕ) (close : ℕ) (p : Production A) (slices : X → List Slice) (Is : X → A → Type 0)
    → ((x : X) (ts rest : List Token) → Begins text (slices x) ts rest → Stops rest → ReadsAs p (Is x) ts rest)
    → ((x : X) (ts rest : List Token) → Begins text (slices x) ts rest → before_mark close ts ≡ true)
    → (x : X) (xs : List X) (ts rest : List Token) → Begins text (list_slices slices (x ∷ xs)) ts rest → Stops rest → front (is_mark comma) rest ≡ false → ReadsAs (listed text close p) (AreShown Is (x ∷ xs)) ts rest
listed_reads text close p slices Is each starts x xs ts rest begins h last =
    let r = sequence_reads text p slices Is each x xs ts rest begins h last in
    let first = parted (slices x) _ begins in
    record { value = r.value; spelled = first_spelled _ (starts x ts first.mid first.first) r.spelled; is = r.is }
