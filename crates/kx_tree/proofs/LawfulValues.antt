-- The laws of symbols, expressions, calls and lists.
use Rattle.std.proofs.Common.{ℕ, ◌≤◌, ◌≡◌, Bool, true, false, ◌||◌, List, [], ◌∷◌, Some, None, if◌then◌else◌, arith, inl, inr, refl}
use Rattle.std.specs.Prelude.{is_some}
use Rattle.kx_lex.specs.declared.token.Token.{Token}
use Rattle.kx_lex.specs.Production.{Production}
use Rattle.kx_lex.specs.Kinds.{is_word, is_mark, front, before_mark}
use Rattle.kx_lex.specs.Tokens.{open_brace, close_brace, open_bracket, close_bracket, open_paren, close_paren, comma, point, equals, plus, minus, bang, mark}
use Rattle.kx_lex.proofs.Lawful.{Lawful, Admits, ◌>>=◌, give-lawful, either-lawful, optional-lawful, many-lawful, known-lawful, spanned-lawful}
use Rattle.kx_lex.proofs.Others.{word-before, number-before, key_name-before, text-before, mark-before}
use Rattle.kx_lex.proofs.TokenLaws.{mark-lawful, mark-least, mark-front, word-lawful, word-front, word-behind, key_name-lawful, key_name-front, text_name-lawful, text_name-front, number-lawful, number-front}
use Rattle.kx_tree.specs.Forms.{after, listed, sequence}
use Rattle.kx_tree.specs.Values.{symbol, sign_of, is_sign, sign, signed, term, operation, expression, index, optional_index, member, optional_member, place, begins_set, set_argument, off_argument, bare_argument, argument, begins_call, call, part, braces, element, list, value}
use Rattle.kx_tree.specs.declared.tree.Argument.{Argument}
use Rattle.kx_tree.specs.declared.tree.Sign.TheVariants.{Plus, Minus}

abbrev pub after_comma-lawful : {A : Type 0} {p : Production A} (text : List ℕ) → Lawful text p → Lawful text (after (mark text comma) p)
after_comma-lawful text lp = do
  _ ← mark-lawful text comma
  lp

abbrev pub sequence-lawful : {A : Type 0} {p : Production A} (text : List ℕ) → Lawful text p → Lawful text (sequence text p)
sequence-lawful text lp = do
  _ ← lp
  _ ← many-lawful (λ _ _ _ _. refl) (after_comma-lawful text lp) (λ ts _ _ s. mark-front text comma ts s.0 s.1 s.2) (mark-least text comma)
  give-lawful _

abbrev pub listed-lawful : {A : Type 0} {p : Production A} (text : List ℕ) (close : ℕ) → Lawful text p → Admits (before_mark close) p → Lawful text (listed text close p)
listed-lawful text close lp admits = either-lawful (λ _ _ _ _. refl) (sequence-lawful text lp) (λ ts _ _ s. admits ts s.0 s.1 s.2) (give-lawful _)

unfoldable pub symbol-lawful : (text : List ℕ) → Lawful text (symbol text)
unfolding symbol
symbol-lawful text = either-lawful (λ _ _ _ _. refl)
    (do
      _ ← number-lawful text
      give-lawful _)
    (λ ts _ _ s. number-front text ts s.0 s.1 s.2)
    (do
      _ ← word-lawful text
      give-lawful _)

pub symbol-before : (text : List ℕ) (close : ℕ) → Admits (before_mark close) (symbol text)
unfolding symbol
symbol-before text close ts x rest (inl s) = number-before close ts (number-front text ts s.1.0 s.1.1 s.1.2)
symbol-before text close ts x rest (inr s) = word-before close ts (word-front text ts s.1.0 s.1.1 s.1.2)

unfoldable pub sign-lawful : (text : List ℕ) → Lawful text (sign text)
unfolding sign
sign-lawful text = known-lawful text sign_of

sign-is : (plus_mark minus_mark : Bool) → is_some (if plus_mark then Some Plus else (if minus_mark then Some Minus else None)) ≡ true → (plus_mark || minus_mark) ≡ true
sign-is true minus_mark h = refl
sign-is false true h = refl
sign-is false false h = cc

pub sign-front : (text : List ℕ) → Admits (front is_sign) (sign text)
unfolding sign
sign-front text ts x rest s = rw s.2.0 (sign-is (is_mark plus s.0) (is_mark minus s.0) s.2.1)

-- a sign isn't a parenthesis
sign-before : (text : List ℕ) (ts : List Token) → front is_sign ts ≡ true → before_mark close_paren ts ≡ true
sign-before text [] h = cc
sign-before text (t ∷ ts) h = go (is_mark plus t) refl h
  where
    go : (b : Bool) → is_mark plus t ≡ b → (b || is_mark minus t) ≡ true → before_mark close_paren (t ∷ ts) ≡ true
    go true p w = mark-before plus close_paren refl (t ∷ ts) p
    go false p w = mark-before minus close_paren refl (t ∷ ts) w

abbrev pub signed-lawful : (text : List ℕ) → Lawful text (signed text)
signed-lawful text = do
  _ ← spanned-lawful (do
    _ ← sign-lawful text
    _ ← number-lawful text
    give-lawful _)
  give-lawful _

pub signed-front : (text : List ℕ) → Admits (front is_sign) (signed text)
signed-front text ts x rest s = sign-front text ts s.2.0.0 s.2.0.1 s.2.0.2

unfoldable pub term-lawful : (text : List ℕ) → Lawful text (term text)
unfolding term
term-lawful text = either-lawful (λ _ _ _ _. refl)
    (do
      _ ← signed-lawful text
      give-lawful _)
    (λ ts _ _ s. signed-front text ts s.0 s.1 s.2)
    (either-lawful (λ _ _ _ _. refl)
    (do
      _ ← number-lawful text
      give-lawful _)
    (λ ts _ _ s. number-front text ts s.0 s.1 s.2)
    (either-lawful (λ _ _ _ _. refl)
    (do
      _ ← text_name-lawful text
      give-lawful _)
    (λ ts _ _ s. text_name-front text ts s.0 s.1 s.2)
    (either-lawful (λ _ _ _ _. refl)
    (do
      _ ← key_name-lawful text
      give-lawful _)
    (λ ts _ _ s. key_name-front text ts s.0 s.1 s.2)
    (do
      _ ← word-lawful text
      give-lawful _))))

pub term-before : (text : List ℕ) → Admits (before_mark close_paren) (term text)
unfolding term
term-before text ts x rest (inl s) = sign-before text ts (signed-front text ts s.1.0 s.1.1 s.1.2)
term-before text ts x rest (inr (_, inl s)) = number-before close_paren ts (number-front text ts s.1.0 s.1.1 s.1.2)
term-before text ts x rest (inr (_, inr (_, inl s))) = text-before close_paren ts (text_name-front text ts s.1.0 s.1.1 s.1.2)
term-before text ts x rest (inr (_, inr (_, inr (_, inl s)))) = key_name-before close_paren ts (key_name-front text ts s.1.0 s.1.1 s.1.2)
term-before text ts x rest (inr (_, inr (_, inr (_, inr (_, s))))) = word-before close_paren ts (word-front text ts s.0 s.1 s.2)

unfoldable pub operation-lawful : (text : List ℕ) → Lawful text (operation text)
unfolding operation
operation-lawful text = do
  _ ← sign-lawful text
  _ ← term-lawful text
  give-lawful _

pub operation-least : (text : List ℕ) → 1 ≤ (operation-lawful text).least
unfolding operation-lawful sign-lawful
operation-least text = omega arith

pub operation-front : (text : List ℕ) → Admits (front is_sign) (operation text)
unfolding operation
operation-front text ts x rest s = sign-front text ts s.0 s.1 s.2

unfoldable pub expression-lawful : (text : List ℕ) → Lawful text (expression text)
unfolding expression
expression-lawful text = do
  _ ← spanned-lawful (do
    _ ← term-lawful text
    _ ← many-lawful (λ _ _ _ _. refl) (operation-lawful text) (operation-front text) (operation-least text)
    give-lawful _)
  give-lawful _

pub expression-before : (text : List ℕ) → Admits (before_mark close_paren) (expression text)
unfolding expression
expression-before text ts x rest s = term-before text ts s.2.0.0 s.2.0.1 s.2.0.2

unfoldable pub index-lawful : (text : List ℕ) → Lawful text (index text)
unfolding index
index-lawful text = do
  _ ← spanned-lawful (do
    _ ← mark-lawful text open_bracket
    _ ← expression-lawful text
    _ ← mark-lawful text close_bracket
    give-lawful _)
  give-lawful _

pub index-front : (text : List ℕ) → Admits (front (is_mark open_bracket)) (index text)
unfolding index
index-front text ts x rest s = mark-front text open_bracket ts s.2.0.0 s.2.0.1 s.2.0.2

abbrev pub optional_index-lawful : (text : List ℕ) → Lawful text (optional_index text)
optional_index-lawful text = optional-lawful (λ _ _ _ _. refl) (index-lawful text) (index-front text)

unfoldable pub member-lawful : (text : List ℕ) → Lawful text (member text)
unfolding member
member-lawful text = do
  _ ← mark-lawful text point
  word-lawful text

pub member-front : (text : List ℕ) → Admits (front (is_mark point)) (member text)
unfolding member
member-front text ts x rest s = mark-front text point ts s.0 s.1 s.2

abbrev pub optional_member-lawful : (text : List ℕ) → Lawful text (optional_member text)
optional_member-lawful text = optional-lawful (λ _ _ _ _. refl) (member-lawful text) (member-front text)

unfoldable pub place-lawful : (text : List ℕ) → Lawful text (place text)
unfolding place
place-lawful text = do
  _ ← word-lawful text
  _ ← optional_member-lawful text
  _ ← optional_index-lawful text
  give-lawful _

pub place-front : (text : List ℕ) → Admits (front is_word) (place text)
unfolding place
place-front text ts x rest s = word-front text ts s.0 s.1 s.2

unfoldable pub set_argument-lawful : (text : List ℕ) → Lawful text (set_argument text)
unfolding set_argument
set_argument-lawful text = do
  _ ← word-lawful text
  _ ← optional_index-lawful text
  _ ← mark-lawful text equals
  _ ← expression-lawful text
  give-lawful _

pub or_true : (b : Bool) → (b || true) ≡ true
or_true true = refl
or_true false = refl

pub set_argument-begins : (text : List ℕ) → Admits begins_set (set_argument text)
unfolding set_argument
set_argument-begins text ts x rest s = rw (word-front text ts s.0 s.1 s.2, word-behind text ts s.0 s.1 s.2) (go s.3.2)
  where
    go : (optional_index text).spells s.1 s.3.0 s.3.1 → (front (is_mark equals) s.1 || front (is_mark open_bracket) s.1) ≡ true
    go (inl o) = rw o.0 (or_true (front (is_mark equals) s.1))
    go (inr o) = rw (o.1.1, mark-front text equals s.3.1 s.3.3.0 s.3.3.1 s.3.3.2) refl

unfoldable pub off_argument-lawful : (text : List ℕ) → Lawful text (off_argument text)
unfolding off_argument
off_argument-lawful text = do
  _ ← mark-lawful text bang
  _ ← word-lawful text
  give-lawful _

pub off_argument-front : (text : List ℕ) → Admits (front (is_mark bang)) (off_argument text)
unfolding off_argument
off_argument-front text ts x rest s = mark-front text bang ts s.0 s.1 s.2

abbrev pub bare_argument-lawful : (text : List ℕ) → Lawful text (bare_argument text)
bare_argument-lawful text = either-lawful (λ _ _ _ _. refl) (off_argument-lawful text) (off_argument-front text)
    (either-lawful (λ _ _ _ _. refl) (set_argument-lawful text) (set_argument-begins text)
    (do
      _ ← expression-lawful text
      give-lawful _))

unfoldable pub argument-lawful : (text : List ℕ) → Lawful text (argument text)
unfolding argument
argument-lawful text = do
  _ ← spanned-lawful (bare_argument-lawful text)
  give-lawful _

pub argument-least : (text : List ℕ) → 1 ≤ (argument-lawful text).least
unfolding argument-lawful off_argument-lawful set_argument-lawful expression-lawful term-lawful mark-lawful word-lawful sign-lawful number-lawful text_name-lawful key_name-lawful
argument-least text = omega arith

set_argument-front : (text : List ℕ) → Admits (front is_word) (set_argument text)
unfolding set_argument
set_argument-front text ts x rest s = word-front text ts s.0 s.1 s.2

pub argument-before : (text : List ℕ) → Admits (before_mark close_paren) (argument text)
unfolding argument
argument-before text ts x rest s = go s.0.0 s.2.0
  where
    go : (a : Argument) → (bare_argument text).spells ts a s.1 → before_mark close_paren ts ≡ true
    go a (inl o) = mark-before bang close_paren refl ts (off_argument-front text ts a s.1 o.1)
    go a (inr (_, inl o)) = word-before close_paren ts (set_argument-front text ts a s.1 o.1)
    go a (inr (_, inr o)) = expression-before text ts o.1.0 o.1.1 o.1.2

unfoldable pub call-lawful : (text : List ℕ) → Lawful text (call text)
unfolding call
call-lawful text = do
  _ ← spanned-lawful (do
    _ ← word-lawful text
    _ ← mark-lawful text open_paren
    _ ← listed-lawful text close_paren (argument-lawful text) (argument-before text)
    _ ← mark-lawful text close_paren
    give-lawful _)
  give-lawful _

pub call-begins : (text : List ℕ) → Admits begins_call (call text)
unfolding call
call-begins text ts x rest s =
    let c = s.2.0 in
    rw (word-front text ts c.0 c.1 c.2, word-behind text ts c.0 c.1 c.2, mark-front text open_paren c.1 c.3.0 c.3.1 c.3.2) refl

pub call-before : (text : List ℕ) (close : ℕ) → Admits (before_mark close) (call text)
unfolding call
call-before text close ts x rest s = word-before close ts (word-front text ts s.2.0.0 s.2.0.1 s.2.0.2)

unfoldable pub part-lawful : (text : List ℕ) → Lawful text (part text)
unfolding part
part-lawful text = either-lawful (λ _ _ _ _. refl)
    (do
      _ ← call-lawful text
      give-lawful _)
    (λ ts _ _ s. call-begins text ts s.0 s.1 s.2)
    (do
      _ ← symbol-lawful text
      give-lawful _)

pub part-least : (text : List ℕ) → 1 ≤ (part-lawful text).least
unfolding part-lawful call-lawful symbol-lawful word-lawful number-lawful
part-least text = omega arith

pub part-before : (text : List ℕ) → Admits (before_mark close_brace) (part text)
unfolding part
part-before text ts x rest (inl s) = call-before text close_brace ts s.1.0 s.1.1 s.1.2
part-before text ts x rest (inr s) = symbol-before text close_brace ts s.1.0 s.1.1 s.1.2

unfoldable pub braces-lawful : (text : List ℕ) → Lawful text (braces text)
unfolding braces
braces-lawful text = do
  _ ← spanned-lawful (do
    _ ← mark-lawful text open_brace
    _ ← listed-lawful text close_brace (part-lawful text) (part-before text)
    _ ← mark-lawful text close_brace
    give-lawful _)
  give-lawful _

pub braces-front : (text : List ℕ) → Admits (front (is_mark open_brace)) (braces text)
unfolding braces
braces-front text ts x rest s = mark-front text open_brace ts s.2.0.0 s.2.0.1 s.2.0.2

unfoldable pub element-lawful : (text : List ℕ) → Lawful text (element text)
unfolding element
element-lawful text = either-lawful (λ _ _ _ _. refl)
    (do
      _ ← braces-lawful text
      give-lawful _)
    (λ ts _ _ s. braces-front text ts s.0 s.1 s.2)
    (either-lawful (λ _ _ _ _. refl)
    (do
      _ ← call-lawful text
      give-lawful _)
    (λ ts _ _ s. call-begins text ts s.0 s.1 s.2)
    (do
      _ ← symbol-lawful text
      give-lawful _))

pub element-least : (text : List ℕ) → 1 ≤ (element-lawful text).least
unfolding element-lawful braces-lawful call-lawful symbol-lawful mark-lawful word-lawful number-lawful
element-least text = omega arith

pub element-before : (text : List ℕ) → Admits (before_mark close_bracket) (element text)
unfolding element
element-before text ts x rest (inl s) = mark-before open_brace close_bracket refl ts (braces-front text ts s.1.0 s.1.1 s.1.2)
element-before text ts x rest (inr (_, inl s)) = call-before text close_bracket ts s.1.0 s.1.1 s.1.2
element-before text ts x rest (inr (_, inr s)) = symbol-before text close_bracket ts s.1.0 s.1.1 s.1.2

unfoldable pub list-lawful : (text : List ℕ) → Lawful text (list text)
unfolding list
list-lawful text = do
  _ ← spanned-lawful (do
    _ ← mark-lawful text open_bracket
    _ ← listed-lawful text close_bracket (element-lawful text) (element-before text)
    _ ← mark-lawful text close_bracket
    give-lawful _)
  give-lawful _

pub list-front : (text : List ℕ) → Admits (front (is_mark open_bracket)) (list text)
unfolding list
list-front text ts x rest s = mark-front text open_bracket ts s.2.0.0 s.2.0.1 s.2.0.2

unfoldable pub value-lawful : (text : List ℕ) → Lawful text (value text)
unfolding value
value-lawful text = either-lawful (λ _ _ _ _. refl)
    (do
      _ ← list-lawful text
      give-lawful _)
    (λ ts _ _ s. list-front text ts s.0 s.1 s.2)
    (either-lawful (λ _ _ _ _. refl)
    (do
      _ ← call-lawful text
      give-lawful _)
    (λ ts _ _ s. call-begins text ts s.0 s.1 s.2)
    (do
      _ ← expression-lawful text
      give-lawful _))
