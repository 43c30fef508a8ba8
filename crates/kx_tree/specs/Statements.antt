-- Fields and statements; each without the ; that ends it.
use Rattle.std.specs.Prelude.{ℕ, Bool, ◌&&◌, ◌||◌, List, Option}
use Rattle.kx_lex.specs.declared.keyword.Keyword.{Keyword}
use Rattle.kx_lex.specs.declared.keyword.Keyword.TheVariants as keywords
use Rattle.kx_lex.specs.declared.token.Token.{Token}
use Rattle.kx_lex.specs.Production.{Production, give, many, either, optional}
use Rattle.kx_lex.specs.Kinds.{is_word, is_number, is_key_name, is_text, is_mark, is_keyword, front, second, before_mark}
use Rattle.kx_lex.specs.Tokens.{mark, keyword, word, key_name, text_name, number, open_brace, close_brace, open_bracket, semicolon, equals, plus, bang}
use Rattle.kx_tree.specs.Forms.{after, assigned, between, both, ended, headed, listed, made, made2, made3, placed, sequence}
use Rattle.kx_tree.specs.Values.{symbol, expression, place, value, call, list, begins_call}
use Rattle.kx_tree.specs.declared.tree.FieldPlace.{FieldPlace}
use Rattle.kx_tree.specs.declared.tree.Expression.{Expression}
use Rattle.kx_tree.specs.declared.tree.Setting.{Setting}
use Rattle.kx_tree.specs.declared.tree.Setting.TheVariants as settings
use Rattle.kx_tree.specs.declared.tree.Field.{Field}
use Rattle.kx_tree.specs.declared.tree.KeyField.{KeyField}
use Rattle.kx_tree.specs.declared.tree.KeyField.TheVariants as key_fields
use Rattle.kx_tree.specs.declared.tree.Declaration.{Declaration}
use Rattle.kx_tree.specs.declared.tree.Predicate.{Predicate}
use Rattle.kx_tree.specs.declared.tree.Predicate.TheVariants as predicates
use Rattle.kx_tree.specs.declared.tree.Entry.{Entry}
use Rattle.kx_tree.specs.declared.tree.Entry.TheVariants as entries
use Rattle.kx_tree.specs.declared.tree.Statement.{Statement}
use Rattle.kx_tree.specs.declared.tree.Statement.TheVariants as statements

unfoldable pub setting : List ℕ → Production Setting
setting text = either (front (is_mark equals)) (after (mark text equals) (made settings.To (value text))) (give settings.On)

unfoldable pub field : List ℕ → Production Field
field text = placed (λ f span. record { place = f.0; setting = f.1; span = span })
    (either (front (is_mark bang)) (after (mark text bang) (made {B = FieldPlace × Setting} (λ p. (p, settings.Off)) (place text))) (both (place text) (setting text)))

unfoldable pub block_field : List ℕ → Production Field
block_field text = ended text semicolon (field text)

unfoldable pub block : List ℕ → Production (List Field)
block text = between text open_brace close_brace (many (before_mark close_brace) (block_field text))

unfoldable pub key_field : List ℕ → Production KeyField
key_field text = either (front (is_mark open_bracket)) (made key_fields.List (list text)) (made key_fields.Field (field text))

unfoldable pub declaration : List ℕ → Production Declaration
declaration text = made2 (λ w m. record { word = w; mask = m }) (word text) (optional (front (is_mark equals)) (after (mark text equals) (expression text)))

unfoldable pub predicate : List ℕ → Production Predicate
predicate text = either begins_call (made predicates.Call (call text)) (made predicates.Mask (expression text))

unfoldable pub entry : List ℕ → Production Entry
entry text = either (front is_key_name) (made entries.KeyName (key_name text)) (made entries.Symbol (symbol text))

-- this word, and after it a token that passes the test
abbrev pub begins : Keyword → (Token → Bool) → List Token → Bool
begins keyword test ts = front (is_keyword keyword) ts && second test ts

unfoldable pub keycode : List ℕ → Production Statement
keycode text = assigned text statements.Keycode (key_name text) (number text)

unfoldable pub alias : List ℕ → Production Statement
alias text = after (keyword text keywords.Alias) (assigned text statements.Alias (key_name text) (key_name text))

unfoldable pub indicator_name : List ℕ → Production Statement
indicator_name text = after (keyword text keywords.Indicator) (assigned text statements.IndicatorName (number text) (text_name text))

unfoldable pub virtual_indicator : List ℕ → Production Statement
virtual_indicator text = after (keyword text keywords.Virtual) (indicator_name text)

unfoldable pub virtual_modifiers : List ℕ → Production Statement
virtual_modifiers text = after (keyword text keywords.VirtualModifiers) (made statements.VirtualModifiers (sequence text (declaration text)))

unfoldable pub key_type : List ℕ → Production Statement
key_type text = after (keyword text keywords.Type) (made2 statements.KeyType (text_name text) (block text))

unfoldable pub wanted_modifiers : List ℕ → Production Predicate
wanted_modifiers text = after (mark text plus) (predicate text)

unfoldable pub interpretation : List ℕ → Production Statement
interpretation text =
    after (keyword text keywords.Interpret) (made3 statements.Interpretation (symbol text) (optional (front (is_mark plus)) (wanted_modifiers text)) (block text))

unfoldable pub indicator : List ℕ → Production Statement
indicator text = after (keyword text keywords.Indicator) (made2 statements.Indicator (text_name text) (block text))

unfoldable pub group : List ℕ → Production Statement
group text = after (keyword text keywords.Group) (assigned text statements.Group (number text) (expression text))

unfoldable pub key : List ℕ → Production Statement
key text = after (keyword text keywords.Key)
    (headed text open_brace close_brace statements.Key (key_name text) (listed text close_brace (key_field text)))

unfoldable pub mapped_entries : List ℕ → Production (List Entry)
mapped_entries text = sequence text (entry text)

unfoldable pub modifier_map : List ℕ → Production Statement
modifier_map text = after (keyword text keywords.ModifierMap)
    (headed text open_brace close_brace statements.ModifierMap (word text) (mapped_entries text))

unfoldable pub field_statement : List ℕ → Production Statement
field_statement text = made statements.Field (field text)

-- statements of keycodes sections
unfoldable pub keycodes_statement : List ℕ → Production Statement → Production Statement
keycodes_statement text other = either (front is_key_name) (keycode text)
    (either (begins keywords.Alias is_key_name) (alias text)
    (either (begins keywords.Virtual (is_keyword keywords.Indicator)) (virtual_indicator text)
    (either (begins keywords.Indicator is_number) (indicator_name text) other)))

-- statements of types and compat sections
unfoldable pub types_statement : List ℕ → Production Statement → Production Statement
types_statement text other = either (begins keywords.VirtualModifiers is_word) (virtual_modifiers text)
    (either (begins keywords.Type is_text) (key_type text)
    (either (begins keywords.Interpret (λ t. is_word t || is_number t)) (interpretation text)
    (either (begins keywords.Indicator is_text) (indicator text)
    (either (begins keywords.Group is_number) (group text) other))))

-- statements of symbols sections; a word that begins nothing else begins a field
unfoldable pub symbols_statement : List ℕ → Production Statement
symbols_statement text = either (begins keywords.Key is_key_name) (key text)
    (either (begins keywords.ModifierMap is_word) (modifier_map text) (field_statement text))

unfoldable pub statement : List ℕ → Production Statement
statement text = keycodes_statement text (types_statement text (symbols_statement text))

-- ---- Under names, for clauses and proofs

abbrev pub off_field : List ℕ → Production (FieldPlace × Setting)
off_field text = after (mark text bang) (made (λ p. (p, settings.Off)) (place text))

abbrev pub on_field : List ℕ → Production (FieldPlace × Setting)
on_field text = both (place text) (setting text)

abbrev pub bare_field : List ℕ → Production (FieldPlace × Setting)
bare_field text = either (front (is_mark bang)) (after (mark text bang) (made (λ p. (p, settings.Off)) (place text))) (both (place text) (setting text))

abbrev pub declared_mask : List ℕ → Production (Option Expression)
declared_mask text = optional (front (is_mark equals)) (after (mark text equals) (expression text))

abbrev pub optional_modifiers : List ℕ → Production (Option Predicate)
optional_modifiers text = optional (front (is_mark plus)) (wanted_modifiers text)
