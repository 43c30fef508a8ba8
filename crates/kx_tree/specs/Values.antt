-- Symbols, expressions, calls and lists.
use Rattle.std.specs.Prelude.{ℕ, Bool, ◌&&◌, ◌||◌, List, Option, Some, None, if◌then◌else◌}
use Rattle.kx_lex.specs.declared.token.Token.{Token}
use Rattle.kx_lex.specs.Parsing.{Read}
use Rattle.kx_lex.specs.Production.{Production, ◌>>=◌, many, either, known, optional}
use Rattle.kx_lex.specs.Kinds.{is_word, is_number, is_key_name, is_text, is_mark, front, second}
use Rattle.kx_lex.specs.Tokens.{open_brace, close_brace, open_bracket, close_bracket, open_paren, close_paren, point, equals, plus, minus, bang, mark, word, key_name, text_name, number}
use Rattle.kx_lex.specs.declared.name.Name.{Name}
use Rattle.kx_tree.specs.Forms.{after, assigned, between, both, headed, listed, made, made2, made3, placed}
use Rattle.kx_tree.specs.declared.tree.Symbol.{Symbol}
use Rattle.kx_tree.specs.declared.tree.Symbol.TheVariants as symbols
use Rattle.kx_tree.specs.declared.tree.Sign.{Sign}
use Rattle.kx_tree.specs.declared.tree.Sign.TheVariants.{Plus, Minus}
use Rattle.kx_tree.specs.declared.tree.Signed.{Signed}
use Rattle.kx_tree.specs.declared.tree.Term.{Term}
use Rattle.kx_tree.specs.declared.tree.Term.TheVariants as terms
use Rattle.kx_tree.specs.declared.tree.Operation.{Operation}
use Rattle.kx_tree.specs.declared.tree.Expression.{Expression}
use Rattle.kx_tree.specs.declared.tree.Index.{Index}
use Rattle.kx_tree.specs.declared.tree.FieldPlace.{FieldPlace}
use Rattle.kx_tree.specs.declared.tree.Argument.{Argument}
use Rattle.kx_tree.specs.declared.tree.Argument.TheVariants as arguments
use Rattle.kx_tree.specs.declared.tree.PlacedArgument.{PlacedArgument}
use Rattle.kx_tree.specs.declared.tree.Call.{Call}
use Rattle.kx_tree.specs.declared.tree.BracePart.{BracePart}
use Rattle.kx_tree.specs.declared.tree.BracePart.TheVariants as parts
use Rattle.kx_tree.specs.declared.tree.Braces.{Braces}
use Rattle.kx_tree.specs.declared.tree.Element.{Element}
use Rattle.kx_tree.specs.declared.tree.Element.TheVariants as elements
use Rattle.kx_tree.specs.declared.tree.List.{List as Levels}
use Rattle.kx_tree.specs.declared.tree.Value.{Value}
use Rattle.kx_tree.specs.declared.tree.Value.TheVariants as values

unfoldable pub symbol : List ℕ → Production Symbol
symbol text = either (front is_number) (made symbols.Number (number text)) (made symbols.Word (word text))

abbrev pub sign_of : Token → Option Sign
sign_of t = if is_mark plus t then Some Plus else (if is_mark minus t then Some Minus else None)

abbrev pub is_sign : Token → Bool
is_sign t = is_mark plus t || is_mark minus t

unfoldable pub sign : List ℕ → Production Sign
sign text = known text sign_of

abbrev pub signed : List ℕ → Production Signed
signed text = placed (λ s span. record { sign = s.0; number = s.1; span = span }) (both (sign text) (number text))

abbrev pub signed_read : List ℕ → List Token → Read Signed
signed_read text = (signed text).read

unfoldable pub term : List ℕ → Production Term
term text = either (front is_sign) (made terms.Signed (signed text))
    (either (front is_number) (made terms.Number (number text))
    (either (front is_text) (made terms.Text (text_name text))
    (either (front is_key_name) (made terms.KeyName (key_name text)) (made terms.Word (word text)))))

unfoldable pub operation : List ℕ → Production Operation
operation text = made2 (λ s t. record { sign = s; term = t }) (sign text) (term text)

unfoldable pub expression : List ℕ → Production Expression
expression text = placed (λ e span. record { first = e.0; rest = e.1; span = span }) (both (term text) (many (front is_sign) (operation text)))

unfoldable pub index : List ℕ → Production Index
index text = placed (λ value span. record { value = value; span = span }) (between text open_bracket close_bracket (expression text))

abbrev pub optional_index : List ℕ → Production (Option Index)
optional_index text = optional (front (is_mark open_bracket)) (index text)

unfoldable pub member : List ℕ → Production Name
member text = after (mark text point) (word text)

unfoldable pub place : List ℕ → Production FieldPlace
place text = made3 (λ w m i. record { word = w; member = m; index = i }) (word text) (optional (front (is_mark point)) (member text)) (optional_index text)

-- a word that = or an index follows
abbrev pub begins_set : List Token → Bool
begins_set ts = front is_word ts && (second (is_mark equals) ts || second (is_mark open_bracket) ts)

unfoldable pub set_argument : List ℕ → Production Argument
set_argument text = word text >>= (λ w. assigned text (arguments.Set w) (optional_index text) (expression text))

unfoldable pub off_argument : List ℕ → Production Argument
off_argument text = after (mark text bang) (made arguments.Off (word text))

unfoldable pub argument : List ℕ → Production PlacedArgument
argument text = placed (λ a span. record { argument = a; span = span }) (either (front (is_mark bang)) (off_argument text) (either begins_set (set_argument text) (made arguments.Plain (expression text))))

-- a word that a parenthesis follows
abbrev pub begins_call : List Token → Bool
begins_call ts = front is_word ts && second (is_mark open_paren) ts

unfoldable pub call : List ℕ → Production Call
call text = placed (λ c span. record { word = c.0; arguments = c.1; span = span }) (headed {C = Name × List PlacedArgument} text open_paren close_paren (λ w xs. (w, xs)) (word text) (listed text close_paren (argument text)))

unfoldable pub part : List ℕ → Production BracePart
part text = either begins_call (made parts.Call (call text)) (made parts.Symbol (symbol text))

unfoldable pub braces : List ℕ → Production Braces
braces text = placed (λ xs span. record { parts = xs; span = span }) (between text open_brace close_brace (listed text close_brace (part text)))

unfoldable pub element : List ℕ → Production Element
element text = either (front (is_mark open_brace)) (made elements.Braces (braces text))
    (either begins_call (made elements.Call (call text)) (made elements.Symbol (symbol text)))

unfoldable pub list : List ℕ → Production Levels
list text = placed (λ xs span. record { elements = xs; span = span })
    (between text open_bracket close_bracket (listed text close_bracket (element text)))

unfoldable pub value : List ℕ → Production Value
value text = either (front (is_mark open_bracket)) (made values.List (list text))
    (either begins_call (made values.Call (call text)) (made values.Expression (expression text)))

-- ---- Under names, for clauses and proofs

abbrev pub optional_member : List ℕ → Production (Option Name)
optional_member text = optional (front (is_mark point)) (member text)

abbrev pub bare_argument : List ℕ → Production Argument
bare_argument text = either (front (is_mark bang)) (off_argument text) (either begins_set (set_argument text) (made arguments.Plain (expression text)))
