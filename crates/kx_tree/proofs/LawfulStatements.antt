-- The laws of fields and statements.
use Rattle.std.proofs.Common.{ℕ, ◌≤◌, ◌≡◌, Bool, true, false, [], ◌∷◌, ◌||◌, List, arith, inl, inr, refl}
use Rattle.kx_lex.specs.declared.keyword.Keyword.{Keyword}
use Rattle.kx_lex.specs.declared.keyword.Keyword.TheVariants as keywords
use Rattle.kx_lex.specs.declared.token.Token.{Token}
use Rattle.kx_lex.specs.Production.{Production}
use Rattle.kx_lex.specs.Kinds.{is_word, is_number, is_key_name, is_text, is_mark, is_keyword, front, before_mark}
use Rattle.kx_lex.specs.Tokens.{keyword, open_brace, close_brace, open_bracket, semicolon, equals, plus, bang}
use Rattle.kx_lex.proofs.Lawful.{Lawful, Admits, ◌>>=◌, give-lawful, either-lawful, optional-lawful, many-lawful, spanned-lawful}
use Rattle.kx_lex.proofs.Others.{word-before, key_name-before, mark-before, keyword-word}
use Rattle.kx_lex.proofs.TokenLaws.{mark-lawful, mark-front, keyword-lawful, keyword-front, keyword-behind, word-lawful, word-front, key_name-lawful, key_name-front, text_name-lawful, text_name-front, number-lawful, number-front}
use Rattle.kx_tree.specs.Values.{symbol}
use Rattle.kx_tree.specs.Statements.{setting, off_field, on_field, bare_field, field, block_field, block, key_field, declared_mask, declaration, predicate, entry, begins, keycode, alias, indicator_name, virtual_indicator, virtual_modifiers, key_type, wanted_modifiers, optional_modifiers, interpretation, indicator, group, key, mapped_entries, modifier_map, field_statement, keycodes_statement, types_statement, symbols_statement, statement}
use Rattle.kx_tree.specs.declared.tree.FieldPlace.{FieldPlace}
use Rattle.kx_tree.specs.declared.tree.Setting.{Setting}
use Rattle.kx_tree.specs.declared.tree.Statement.{Statement}
use Rattle.kx_tree.proofs.LawfulValues.{sequence-lawful, listed-lawful, symbol-lawful, expression-lawful, place-lawful, place-front, value-lawful, call-lawful, call-begins, list-lawful, list-front, or_true}

unfoldable pub setting-lawful : (text : List ℕ) → Lawful text (setting text)
unfolding setting
setting-lawful text = either-lawful (λ _ _ _ _. refl)
    (do
      _ ← mark-lawful text equals
      _ ← value-lawful text
      give-lawful _)
    (λ ts _ _ s. mark-front text equals ts s.0 s.1 s.2)
    (give-lawful _)

abbrev pub off_field-lawful : (text : List ℕ) → Lawful text (off_field text)
off_field-lawful text = do
  _ ← mark-lawful text bang
  _ ← place-lawful text
  give-lawful _

abbrev pub on_field-lawful : (text : List ℕ) → Lawful text (on_field text)
on_field-lawful text = do
  _ ← place-lawful text
  _ ← setting-lawful text
  give-lawful _

abbrev pub bare_field-lawful : (text : List ℕ) → Lawful text (bare_field text)
bare_field-lawful text = either-lawful (λ _ _ _ _. refl) (off_field-lawful text) (λ ts _ _ s. mark-front text bang ts s.0 s.1 s.2) (on_field-lawful text)

unfoldable pub field-lawful : (text : List ℕ) → Lawful text (field text)
unfolding field
field-lawful text = do
  _ ← spanned-lawful (bare_field-lawful text)
  give-lawful _

pub field-least : (text : List ℕ) → 1 ≤ (field-lawful text).least
unfolding field-lawful mark-lawful place-lawful word-lawful
field-least text = omega arith

-- a word, a key's name or a ! begins each statement
abbrev pub starts : List Token → Bool
starts ts = (front is_word ts || front is_key_name ts) || front (is_mark bang) ts

word-starts : (ts : List Token) → front is_word ts ≡ true → starts ts ≡ true
word-starts ts h = rw h refl

key_name-starts : (ts : List Token) → front is_key_name ts ≡ true → starts ts ≡ true
key_name-starts ts h = rw (h, or_true) refl

pub starts-before : (ts : List Token) → starts ts ≡ true → before_mark close_brace ts ≡ true
starts-before ts h = go (front is_word ts) refl (front is_key_name ts) refl h
  where
    go : (a : Bool) → front is_word ts ≡ a → (b : Bool) → front is_key_name ts ≡ b → ((a || b) || front (is_mark bang) ts) ≡ true → before_mark close_brace ts ≡ true
    go true w b k h = word-before close_brace ts w
    go false w true k h = key_name-before close_brace ts k
    go false w false k h = mark-before bang close_brace refl ts h

pub field-starts : (text : List ℕ) → Admits starts (field text)
unfolding field
field-starts text ts x rest s = go s.0.0 s.2.0
  where
    go : (f : FieldPlace × Setting) → (bare_field text).spells ts f s.1 → starts ts ≡ true
    go f (inl o) = rw (mark-front text bang ts o.1.0 o.1.1 o.1.2, or_true) refl
    go f (inr o) = word-starts ts (place-front text ts o.1.0 o.1.1 o.1.2)

pub field-before : (text : List ℕ) → Admits (before_mark close_brace) (field text)
field-before text ts x rest s = starts-before ts (field-starts text ts x rest s)

unfoldable pub block_field-lawful : (text : List ℕ) → Lawful text (block_field text)
unfolding block_field
block_field-lawful text = do
  _ ← field-lawful text
  _ ← mark-lawful text semicolon
  give-lawful _

pub block_field-least : (text : List ℕ) → 1 ≤ (block_field-lawful text).least
unfolding block_field-lawful
block_field-least text = field-least text

pub block_field-before : (text : List ℕ) → Admits (before_mark close_brace) (block_field text)
unfolding block_field
block_field-before text ts x rest s = field-before text ts s.0 s.1 s.2

unfoldable pub block-lawful : (text : List ℕ) → Lawful text (block text)
unfolding block
block-lawful text = do
  _ ← mark-lawful text open_brace
  _ ← many-lawful (λ _ _ _ _. refl) (block_field-lawful text) (block_field-before text) (block_field-least text)
  _ ← mark-lawful text close_brace
  give-lawful _

unfoldable pub key_field-lawful : (text : List ℕ) → Lawful text (key_field text)
unfolding key_field
key_field-lawful text = either-lawful (λ _ _ _ _. refl)
    (do
      _ ← list-lawful text
      give-lawful _)
    (λ ts _ _ s. list-front text ts s.0 s.1 s.2)
    (do
      _ ← field-lawful text
      give-lawful _)

pub key_field-least : (text : List ℕ) → 1 ≤ (key_field-lawful text).least
unfolding key_field-lawful field-lawful list-lawful mark-lawful place-lawful word-lawful
key_field-least text = omega arith

pub key_field-before : (text : List ℕ) → Admits (before_mark close_brace) (key_field text)
unfolding key_field
key_field-before text ts x rest (inl s) = mark-before open_bracket close_brace refl ts (list-front text ts s.1.0 s.1.1 s.1.2)
key_field-before text ts x rest (inr s) = field-before text ts s.1.0 s.1.1 s.1.2

abbrev pub declared_mask-lawful : (text : List ℕ) → Lawful text (declared_mask text)
declared_mask-lawful text = optional-lawful (λ _ _ _ _. refl) (do
  _ ← mark-lawful text equals
  expression-lawful text) (λ ts _ _ s. mark-front text equals ts s.0 s.1 s.2)

unfoldable pub declaration-lawful : (text : List ℕ) → Lawful text (declaration text)
unfolding declaration
declaration-lawful text = do
  _ ← word-lawful text
  _ ← declared_mask-lawful text
  give-lawful _

pub declaration-least : (text : List ℕ) → 1 ≤ (declaration-lawful text).least
unfolding declaration-lawful word-lawful
declaration-least text = omega arith

pub declaration-front : (text : List ℕ) → Admits (front is_word) (declaration text)
unfolding declaration
declaration-front text ts x rest s = word-front text ts s.0 s.1 s.2

unfoldable pub predicate-lawful : (text : List ℕ) → Lawful text (predicate text)
unfolding predicate
predicate-lawful text = either-lawful (λ _ _ _ _. refl)
    (do
      _ ← call-lawful text
      give-lawful _)
    (λ ts _ _ s. call-begins text ts s.0 s.1 s.2)
    (do
      _ ← expression-lawful text
      give-lawful _)

unfoldable pub entry-lawful : (text : List ℕ) → Lawful text (entry text)
unfolding entry
entry-lawful text = either-lawful (λ _ _ _ _. refl)
    (do
      _ ← key_name-lawful text
      give-lawful _)
    (λ ts _ _ s. key_name-front text ts s.0 s.1 s.2)
    (do
      _ ← symbol-lawful text
      give-lawful _)

pub entry-least : (text : List ℕ) → 1 ≤ (entry-lawful text).least
unfolding entry-lawful key_name-lawful symbol-lawful word-lawful number-lawful
entry-least text = omega arith

-- a word or a number begins a symbol
pub symbol-front : (text : List ℕ) → Admits (front (λ t. is_word t || is_number t)) (symbol text)
unfolding symbol
symbol-front text ts x rest (inl s) = go ts (number-front text ts s.1.0 s.1.1 s.1.2)
  where
    go : (ts : List Token) → front is_number ts ≡ true → front (λ t. is_word t || is_number t) ts ≡ true
    go [] h = cc
    go (t ∷ ts) h = rw h (or_true (is_word t))
symbol-front text ts x rest (inr s) = go ts (word-front text ts s.1.0 s.1.1 s.1.2)
  where
    go : (ts : List Token) → front is_word ts ≡ true → front (λ t. is_word t || is_number t) ts ≡ true
    go [] h = cc
    go (t ∷ ts) h = rw h refl

unfoldable pub keycode-lawful : (text : List ℕ) → Lawful text (keycode text)
unfolding keycode
keycode-lawful text = do
  _ ← key_name-lawful text
  _ ← mark-lawful text equals
  _ ← number-lawful text
  give-lawful _

pub keycode-front : (text : List ℕ) → Admits (front is_key_name) (keycode text)
unfolding keycode
keycode-front text ts x rest s = key_name-front text ts s.0 s.1 s.2

unfoldable pub alias-lawful : (text : List ℕ) → Lawful text (alias text)
unfolding alias
alias-lawful text = do
  _ ← keyword-lawful text keywords.Alias
  _ ← key_name-lawful text
  _ ← mark-lawful text equals
  _ ← key_name-lawful text
  give-lawful _

pub alias-begins : (text : List ℕ) → Admits (begins keywords.Alias is_key_name) (alias text)
unfolding alias
alias-begins text ts x rest s = rw (keyword-front text keywords.Alias ts s.0 s.1 s.2, keyword-behind text keywords.Alias ts s.0 s.1 s.2, key_name-front text s.1 s.3.0 s.3.1 s.3.2) refl

unfoldable pub indicator_name-lawful : (text : List ℕ) → Lawful text (indicator_name text)
unfolding indicator_name
indicator_name-lawful text = do
  _ ← keyword-lawful text keywords.Indicator
  _ ← number-lawful text
  _ ← mark-lawful text equals
  _ ← text_name-lawful text
  give-lawful _

pub indicator_name-front : (text : List ℕ) → Admits (front (is_keyword keywords.Indicator)) (indicator_name text)
unfolding indicator_name
indicator_name-front text ts x rest s = keyword-front text keywords.Indicator ts s.0 s.1 s.2

pub indicator_name-begins : (text : List ℕ) → Admits (begins keywords.Indicator is_number) (indicator_name text)
unfolding indicator_name
indicator_name-begins text ts x rest s = rw (keyword-front text keywords.Indicator ts s.0 s.1 s.2, keyword-behind text keywords.Indicator ts s.0 s.1 s.2, number-front text s.1 s.3.0 s.3.1 s.3.2) refl

unfoldable pub virtual_indicator-lawful : (text : List ℕ) → Lawful text (virtual_indicator text)
unfolding virtual_indicator
virtual_indicator-lawful text = do
  _ ← keyword-lawful text keywords.Virtual
  indicator_name-lawful text

pub virtual_indicator-begins : (text : List ℕ) → Admits (begins keywords.Virtual (is_keyword keywords.Indicator)) (virtual_indicator text)
unfolding virtual_indicator
virtual_indicator-begins text ts x rest s = rw (keyword-front text keywords.Virtual ts s.0 s.1 s.2, keyword-behind text keywords.Virtual ts s.0 s.1 s.2, indicator_name-front text s.1 x rest s.3) refl

unfoldable pub virtual_modifiers-lawful : (text : List ℕ) → Lawful text (virtual_modifiers text)
unfolding virtual_modifiers
virtual_modifiers-lawful text = do
  _ ← keyword-lawful text keywords.VirtualModifiers
  _ ← sequence-lawful text (declaration-lawful text)
  give-lawful _

pub virtual_modifiers-begins : (text : List ℕ) → Admits (begins keywords.VirtualModifiers is_word) (virtual_modifiers text)
unfolding virtual_modifiers
virtual_modifiers-begins text ts x rest s = rw (keyword-front text keywords.VirtualModifiers ts s.0 s.1 s.2, keyword-behind text keywords.VirtualModifiers ts s.0 s.1 s.2, declaration-front text s.1 s.3.2.0 s.3.2.1 s.3.2.2) refl

unfoldable pub key_type-lawful : (text : List ℕ) → Lawful text (key_type text)
unfolding key_type
key_type-lawful text = do
  _ ← keyword-lawful text keywords.Type
  _ ← text_name-lawful text
  _ ← block-lawful text
  give-lawful _

pub key_type-begins : (text : List ℕ) → Admits (begins keywords.Type is_text) (key_type text)
unfolding key_type
key_type-begins text ts x rest s = rw (keyword-front text keywords.Type ts s.0 s.1 s.2, keyword-behind text keywords.Type ts s.0 s.1 s.2, text_name-front text s.1 s.3.0 s.3.1 s.3.2) refl

unfoldable pub wanted_modifiers-lawful : (text : List ℕ) → Lawful text (wanted_modifiers text)
unfolding wanted_modifiers
wanted_modifiers-lawful text = do
  _ ← mark-lawful text plus
  predicate-lawful text

pub wanted_modifiers-front : (text : List ℕ) → Admits (front (is_mark plus)) (wanted_modifiers text)
unfolding wanted_modifiers
wanted_modifiers-front text ts x rest s = mark-front text plus ts s.0 s.1 s.2

abbrev pub optional_modifiers-lawful : (text : List ℕ) → Lawful text (optional_modifiers text)
optional_modifiers-lawful text = optional-lawful (λ _ _ _ _. refl) (wanted_modifiers-lawful text) (wanted_modifiers-front text)

unfoldable pub interpretation-lawful : (text : List ℕ) → Lawful text (interpretation text)
unfolding interpretation
interpretation-lawful text = do
  _ ← keyword-lawful text keywords.Interpret
  _ ← symbol-lawful text
  _ ← optional_modifiers-lawful text
  _ ← block-lawful text
  give-lawful _

pub interpretation-begins : (text : List ℕ) → Admits (begins keywords.Interpret (λ t. is_word t || is_number t)) (interpretation text)
unfolding interpretation
interpretation-begins text ts x rest s = rw (keyword-front text keywords.Interpret ts s.0 s.1 s.2, keyword-behind text keywords.Interpret ts s.0 s.1 s.2, symbol-front text s.1 s.3.0 s.3.1 s.3.2) refl

unfoldable pub indicator-lawful : (text : List ℕ) → Lawful text (indicator text)
unfolding indicator
indicator-lawful text = do
  _ ← keyword-lawful text keywords.Indicator
  _ ← text_name-lawful text
  _ ← block-lawful text
  give-lawful _

pub indicator-begins : (text : List ℕ) → Admits (begins keywords.Indicator is_text) (indicator text)
unfolding indicator
indicator-begins text ts x rest s = rw (keyword-front text keywords.Indicator ts s.0 s.1 s.2, keyword-behind text keywords.Indicator ts s.0 s.1 s.2, text_name-front text s.1 s.3.0 s.3.1 s.3.2) refl

unfoldable pub group-lawful : (text : List ℕ) → Lawful text (group text)
unfolding group
group-lawful text = do
  _ ← keyword-lawful text keywords.Group
  _ ← number-lawful text
  _ ← mark-lawful text equals
  _ ← expression-lawful text
  give-lawful _

pub group-begins : (text : List ℕ) → Admits (begins keywords.Group is_number) (group text)
unfolding group
group-begins text ts x rest s = rw (keyword-front text keywords.Group ts s.0 s.1 s.2, keyword-behind text keywords.Group ts s.0 s.1 s.2, number-front text s.1 s.3.0 s.3.1 s.3.2) refl

unfoldable pub key-lawful : (text : List ℕ) → Lawful text (key text)
unfolding key
key-lawful text = do
  _ ← keyword-lawful text keywords.Key
  _ ← key_name-lawful text
  _ ← mark-lawful text open_brace
  _ ← listed-lawful text close_brace (key_field-lawful text) (key_field-before text)
  _ ← mark-lawful text close_brace
  give-lawful _

pub key-begins : (text : List ℕ) → Admits (begins keywords.Key is_key_name) (key text)
unfolding key
key-begins text ts x rest s = rw (keyword-front text keywords.Key ts s.0 s.1 s.2, keyword-behind text keywords.Key ts s.0 s.1 s.2, key_name-front text s.1 s.3.0 s.3.1 s.3.2) refl

unfoldable pub mapped_entries-lawful : (text : List ℕ) → Lawful text (mapped_entries text)
unfolding mapped_entries
mapped_entries-lawful text = sequence-lawful text (entry-lawful text)

unfoldable pub modifier_map-lawful : (text : List ℕ) → Lawful text (modifier_map text)
unfolding modifier_map
modifier_map-lawful text = do
  _ ← keyword-lawful text keywords.ModifierMap
  _ ← word-lawful text
  _ ← mark-lawful text open_brace
  _ ← mapped_entries-lawful text
  _ ← mark-lawful text close_brace
  give-lawful _

pub modifier_map-begins : (text : List ℕ) → Admits (begins keywords.ModifierMap is_word) (modifier_map text)
unfolding modifier_map
modifier_map-begins text ts x rest s = rw (keyword-front text keywords.ModifierMap ts s.0 s.1 s.2, keyword-behind text keywords.ModifierMap ts s.0 s.1 s.2, word-front text s.1 s.3.0 s.3.1 s.3.2) refl

unfoldable pub field_statement-lawful : (text : List ℕ) → Lawful text (field_statement text)
unfolding field_statement
field_statement-lawful text = do
  _ ← field-lawful text
  give-lawful _

unfoldable pub keycodes_statement-lawful : (text : List ℕ) {other : Production Statement} → Lawful text other → Lawful text (keycodes_statement text other)
unfolding keycodes_statement
keycodes_statement-lawful text other = either-lawful (λ _ _ _ _. refl) (keycode-lawful text) (keycode-front text)
    (either-lawful (λ _ _ _ _. refl) (alias-lawful text) (alias-begins text)
    (either-lawful (λ _ _ _ _. refl) (virtual_indicator-lawful text) (virtual_indicator-begins text)
    (either-lawful (λ _ _ _ _. refl) (indicator_name-lawful text) (indicator_name-begins text) other)))

unfoldable pub types_statement-lawful : (text : List ℕ) {other : Production Statement} → Lawful text other → Lawful text (types_statement text other)
unfolding types_statement
types_statement-lawful text other = either-lawful (λ _ _ _ _. refl) (virtual_modifiers-lawful text) (virtual_modifiers-begins text)
    (either-lawful (λ _ _ _ _. refl) (key_type-lawful text) (key_type-begins text)
    (either-lawful (λ _ _ _ _. refl) (interpretation-lawful text) (interpretation-begins text)
    (either-lawful (λ _ _ _ _. refl) (indicator-lawful text) (indicator-begins text)
    (either-lawful (λ _ _ _ _. refl) (group-lawful text) (group-begins text) other))))

unfoldable pub symbols_statement-lawful : (text : List ℕ) → Lawful text (symbols_statement text)
unfolding symbols_statement
symbols_statement-lawful text = either-lawful (λ _ _ _ _. refl) (key-lawful text) (key-begins text)
    (either-lawful (λ _ _ _ _. refl) (modifier_map-lawful text) (modifier_map-begins text) (field_statement-lawful text))

unfoldable pub statement-lawful : (text : List ℕ) → Lawful text (statement text)
unfolding statement
statement-lawful text = keycodes_statement-lawful text (types_statement-lawful text (symbols_statement-lawful text))

-- what a keyword begins, a word begins
keyword-starts : (text : List ℕ) (wanted : Keyword) (ts : List Token) (t : Token) (rest : List Token) → (keyword text wanted).spells ts t rest → starts ts ≡ true
keyword-starts text wanted ts t rest s = word-starts ts (keyword-word wanted ts (keyword-front text wanted ts t rest s))

symbols-starts : (text : List ℕ) → Admits starts (symbols_statement text)
unfolding symbols_statement key modifier_map field_statement
symbols-starts text ts x rest (inl s) = keyword-starts text keywords.Key ts s.1.0 s.1.1 s.1.2
symbols-starts text ts x rest (inr (_, inl s)) = keyword-starts text keywords.ModifierMap ts s.1.0 s.1.1 s.1.2
symbols-starts text ts x rest (inr (_, inr s)) = field-starts text ts s.1.0 s.1.1 s.1.2

types-starts : (text : List ℕ) → Admits starts (types_statement text (symbols_statement text))
unfolding types_statement virtual_modifiers key_type interpretation indicator group
types-starts text ts x rest (inl s) = keyword-starts text keywords.VirtualModifiers ts s.1.0 s.1.1 s.1.2
types-starts text ts x rest (inr (_, inl s)) = keyword-starts text keywords.Type ts s.1.0 s.1.1 s.1.2
types-starts text ts x rest (inr (_, inr (_, inl s))) = keyword-starts text keywords.Interpret ts s.1.0 s.1.1 s.1.2
types-starts text ts x rest (inr (_, inr (_, inr (_, inl s)))) = keyword-starts text keywords.Indicator ts s.1.0 s.1.1 s.1.2
types-starts text ts x rest (inr (_, inr (_, inr (_, inr (_, inl s))))) = keyword-starts text keywords.Group ts s.1.0 s.1.1 s.1.2
types-starts text ts x rest (inr (_, inr (_, inr (_, inr (_, inr s))))) = symbols-starts text ts x rest s.1

pub statement-starts : (text : List ℕ) → Admits starts (statement text)
unfolding statement keycodes_statement keycode alias virtual_indicator indicator_name
statement-starts text ts x rest (inl s) = key_name-starts ts (keycode-front text ts x rest s.1)
statement-starts text ts x rest (inr (_, inl s)) = keyword-starts text keywords.Alias ts s.1.0 s.1.1 s.1.2
statement-starts text ts x rest (inr (_, inr (_, inl s))) = keyword-starts text keywords.Virtual ts s.1.0 s.1.1 s.1.2
statement-starts text ts x rest (inr (_, inr (_, inr (_, inl s)))) = keyword-starts text keywords.Indicator ts s.1.0 s.1.1 s.1.2
statement-starts text ts x rest (inr (_, inr (_, inr (_, inr s)))) = types-starts text ts x rest s.1

pub statement-least : (text : List ℕ) → 1 ≤ (statement-lawful text).least
unfolding statement-lawful keycodes_statement-lawful types_statement-lawful symbols_statement-lawful keycode-lawful alias-lawful virtual_indicator-lawful indicator_name-lawful virtual_modifiers-lawful key_type-lawful interpretation-lawful indicator-lawful group-lawful key-lawful modifier_map-lawful field_statement-lawful keyword-lawful key_name-lawful field-lawful mark-lawful place-lawful word-lawful
statement-least text = omega arith
