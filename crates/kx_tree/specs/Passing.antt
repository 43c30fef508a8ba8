-- Productions without the word that stands before them, for values and statements that are passed over by their bytes.
use Rattle.std.specs.Prelude.{ℕ, List, Option}
use Rattle.kx_lex.specs.Kinds.{before_mark, front, is_mark}
use Rattle.kx_lex.specs.Passing.{Passes, PassesWord}
use Rattle.kx_lex.specs.Production.{Production, many}
use Rattle.kx_lex.specs.Tokens.{close_brace, close_paren, comma, key_name, mark, number, open_brace, open_paren, semicolon, text_name, word}
use Rattle.kx_lex.specs.declared.keyword.Keyword.{Keyword}
use Rattle.kx_lex.specs.declared.name.Name.{Name}
use Rattle.kx_tree.specs.Forms.{after, assigned, between, both, ended, headed, listed, made3, sequence}
use Rattle.kx_tree.specs.Statements.{block, block_field, declaration, key_field, mapped_entries, optional_modifiers, setting, statement}
use Rattle.kx_tree.specs.Values.{argument, expression, is_sign, operation, optional_index, optional_member, symbol}
use Rattle.kx_tree.specs.declared.tree.Declaration.{Declaration}
use Rattle.kx_tree.specs.declared.tree.Expression.{Expression}
use Rattle.kx_tree.specs.declared.tree.Field.{Field}
use Rattle.kx_tree.specs.declared.tree.Index.{Index}
use Rattle.kx_tree.specs.declared.tree.Operation.{Operation}
use Rattle.kx_tree.specs.declared.tree.PlacedArgument.{PlacedArgument}
use Rattle.kx_tree.specs.declared.tree.Setting.{Setting}
use Rattle.kx_tree.specs.declared.tree.Statement.{Statement}
use Rattle.kx_tree.specs.declared.tree.Statement.TheVariants as statements

-- as many after commas as stand there
abbrev pub more : {A : Type 0} → (List ℕ → Production A) → List ℕ → Production (List A)
more p text = many (front (is_mark comma)) (after (mark text comma) (p text))

-- of an expression, what stands after its first term
abbrev pub operations : List ℕ → Production (List Operation)
operations text = many (front is_sign) (operation text)

-- of a field's place, what stands after its word
abbrev pub place_behind : List ℕ → Production (Option Name × Option Index)
place_behind text = both (optional_member text) (optional_index text)

-- of an argument that sets a word, what stands after the word
abbrev pub set_behind : List ℕ → Production (Option Index × Expression)
set_behind text = assigned text (λ i e. (i, e)) (optional_index text) (expression text)

-- of a call, what stands after its word
abbrev pub call_behind : List ℕ → Production (List PlacedArgument)
call_behind text = between text open_paren close_paren (listed text close_paren (argument text))

-- of a field, what stands after its first word
abbrev pub field_behind : List ℕ → Production ((Option Name × Option Index) × Setting)
field_behind text = both (place_behind text) (setting text)

-- of a block, what stands after its opening brace
abbrev pub block_fields : List ℕ → Production (List Field)
block_fields text = ended text close_brace (many (before_mark close_brace) (block_field text))

-- with the ; that ends it
abbrev pub terminated : {A : Type 0} → (List ℕ → Production A) → List ℕ → Production A
terminated p text = ended text semicolon (p text)

-- of statements, what stands after their first word
abbrev pub alias_behind : List ℕ → Production Statement
alias_behind text = assigned text statements.Alias (key_name text) (key_name text)

abbrev pub indicator_name_behind : List ℕ → Production Statement
indicator_name_behind text = assigned text statements.IndicatorName (number text) (text_name text)

abbrev pub virtual_modifiers_behind : List ℕ → Production (List Declaration)
virtual_modifiers_behind text = sequence text (declaration text)

abbrev pub named_block : List ℕ → Production (Name × List Field)
named_block text = both (text_name text) (block text)

abbrev pub interpretation_behind : List ℕ → Production Statement
interpretation_behind text = made3 statements.Interpretation (symbol text) (optional_modifiers text) (block text)

abbrev pub group_behind : List ℕ → Production Statement
group_behind text = assigned text statements.Group (number text) (expression text)

abbrev pub key_behind : List ℕ → Production Statement
key_behind text = headed text open_brace close_brace statements.Key (key_name text) (listed text close_brace (key_field text))

abbrev pub modifier_map_behind : List ℕ → Production Statement
modifier_map_behind text = headed text open_brace close_brace statements.ModifierMap (word text) (mapped_entries text)

-- wherever a word that spells this keyword, or none, stands before the bytes, a statement is passed that it begins
abbrev pub GoesOn : Option Keyword → List ℕ → List ℕ → Type 0
GoesOn keyword bs rest = (start : List ℕ) → PassesWord keyword start bs → Passes (terminated statement) start rest
