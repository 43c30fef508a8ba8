-- What the tree of a printed key statement shows, whatever its spans.
use Rattle.std.specs.Prelude.{ℕ, Bool, List, [], ◌∷◌, ◌≡◌, codes, None, Some, if◌then◌else◌}
use Rattle.kx_lex.specs.Kinds.{number_value}
use Rattle.kx_lex.specs.declared.token.Span.{Span}
use Rattle.kx_tree.specs.declared.tree.Argument.TheVariants as arguments
use Rattle.kx_tree.specs.declared.tree.BracePart.{BracePart}
use Rattle.kx_tree.specs.declared.tree.BracePart.TheVariants as parts
use Rattle.kx_tree.specs.declared.tree.Braces.{Braces}
use Rattle.kx_tree.specs.declared.tree.Call.{Call}
use Rattle.kx_tree.specs.declared.tree.Element.{Element}
use Rattle.kx_tree.specs.declared.tree.Element.TheVariants as elements
use Rattle.kx_tree.specs.declared.tree.Expression.{Expression}
use Rattle.kx_tree.specs.declared.tree.Field.{Field}
use Rattle.kx_tree.specs.declared.tree.FieldPlace.{FieldPlace}
use Rattle.kx_tree.specs.declared.tree.KeyField.{KeyField}
use Rattle.kx_tree.specs.declared.tree.KeyField.TheVariants as fields
use Rattle.kx_tree.specs.declared.tree.List.{List as Listed}
use Rattle.kx_tree.specs.declared.tree.Operation.{Operation}
use Rattle.kx_tree.specs.declared.tree.PlacedArgument.{PlacedArgument}
use Rattle.kx_tree.specs.declared.tree.Setting.TheVariants as settings
use Rattle.kx_tree.specs.declared.tree.Sign.{Sign}
use Rattle.kx_tree.specs.declared.tree.Sign.TheVariants.{Plus, Minus}
use Rattle.kx_tree.specs.declared.tree.Statement.{Statement}
use Rattle.kx_tree.specs.declared.tree.Statement.TheVariants as statements
use Rattle.kx_tree.specs.declared.tree.Symbol.{Symbol}
use Rattle.kx_tree.specs.declared.tree.Symbol.TheVariants as symbols
use Rattle.kx_tree.specs.declared.tree.Term.{Term}
use Rattle.kx_tree.specs.declared.tree.Term.TheVariants as terms
use Rattle.kx_tree.specs.declared.tree.Value.{Value}
use Rattle.kx_tree.specs.declared.tree.Value.TheVariants as values
use Rattle.roundtrip_text.specs.Source.{PrintedKey}
use Rattle.roundtrip_text.specs.KeyPhrases.{KeysymPhrase, Worded, Numbered, ArgumentPhrase, Flag, Words, Natural, Signed, CallPhrase, FieldPhrase, TypeOf, SymbolsOf, ActionsOf, Clamped, RedirectedTo, KeyPhrase, field_phrases}
use Rattle.roundtrip_text.specs.Keys.{key_phrase}
use Rattle.roundtrip_tree.specs.Shows.{AreShown, name_at, number_at}

-- ---- Keysyms

abbrev pub IsKeysymOf : KeysymPhrase → Symbol → Type 0
IsKeysymOf (Worded bytes) s = (span : Span) × (s ≡ symbols.Word (name_at bytes span))
IsKeysymOf (Numbered bytes) s = (span : Span) × (s ≡ symbols.Number (number_at (number_value bytes) span))

abbrev pub IsPartOf : KeysymPhrase → BracePart → Type 0
IsPartOf s p = (symbol : Symbol) × (p ≡ parts.Symbol symbol) × IsKeysymOf s symbol

abbrev pub IsLevelOf : List KeysymPhrase → Element → Type 0
IsLevelOf [] e = (span : Span) × (e ≡ elements.Symbol (symbols.Word (name_at (codes "NoSymbol") span)))
IsLevelOf (s ∷ []) e = (symbol : Symbol) × (e ≡ elements.Symbol symbol) × IsKeysymOf s symbol
IsLevelOf (s ∷ t ∷ ss) e = (braces : Braces) × (e ≡ elements.Braces braces) × AreShown IsPartOf (s ∷ t ∷ ss) braces.parts

-- ---- Actions

abbrev pub IsWordTermOf : List ℕ → Term → Type 0
IsWordTermOf w t = (span : Span) × (t ≡ terms.Word (name_at w span))

abbrev pub IsAddedWord : List ℕ → Operation → Type 0
IsAddedWord w o = (o.sign ≡ Plus) × IsWordTermOf w o.term

-- words joined by +
abbrev pub AreWordsOf : List (List ℕ) → Expression → Type 0
AreWordsOf [] e = ⊥
AreWordsOf (w ∷ ws) e = IsWordTermOf w e.first × AreShown IsAddedWord ws e.rest

abbrev pub IsNumberOf : ℕ → Expression → Type 0
IsNumberOf n e = (span whole : Span) × (e ≡ record { first = terms.Number (number_at n span); rest = []; span = whole })

abbrev pub sign_shown : Bool → Sign
sign_shown rises = if rises then Plus else Minus

abbrev pub IsSignedOf : Bool → ℕ → Expression → Type 0
IsSignedOf rises n e = (span of_number whole : Span) × (e ≡ record { first = terms.Signed (record { sign = sign_shown rises; number = number_at n of_number; span = span }); rest = []; span = whole })

-- a word set to a value
abbrev pub IsSetTo : List ℕ → (Expression → Type 0) → PlacedArgument → Type 0
IsSetTo w Is a = (span : Span) × (value : Expression) × (a.argument ≡ arguments.Set (name_at w span) None value) × Is value

abbrev pub IsArgumentOf : ArgumentPhrase → PlacedArgument → Type 0
IsArgumentOf (Flag w) a = (value : Expression) × (a.argument ≡ arguments.Plain value) × AreWordsOf (w ∷ []) value
IsArgumentOf (Words w ws) a = IsSetTo w (AreWordsOf ws) a
IsArgumentOf (Natural w n) a = IsSetTo w (IsNumberOf n) a
IsArgumentOf (Signed w rises n) a = IsSetTo w (IsSignedOf rises n) a

pub record IsCallOf (phrase : CallPhrase) (c : Call) : Type 0 where
  pub word_span : Span
  pub word_is : c.word ≡ name_at phrase.word word_span
  pub are : AreShown IsArgumentOf phrase.arguments c.arguments

abbrev pub IsActionOf : CallPhrase → Element → Type 0
IsActionOf c e = (call : Call) × (e ≡ elements.Call call) × IsCallOf c call

-- ---- Fields

abbrev pub IsListOf : {X : Type 0} → (X → Element → Type 0) → List X → Value → Type 0
IsListOf Is xs v = (list : Listed) × (v ≡ values.List list) × AreShown Is xs list.elements

abbrev pub IsTextOf : List ℕ → Value → Type 0
IsTextOf name v = (span whole : Span) × (v ≡ values.Expression (record { first = terms.Text (name_at name span); rest = []; span = whole }))

-- a word with a number as its index
abbrev pub indexed_place : List ℕ → ℕ → Span → Span → Span → Span → FieldPlace
indexed_place w n word number expression index = record { word = name_at w word; member = None; index = Some (record { value = record { first = terms.Number (number_at n number); rest = []; span = expression }; span = index }) }

abbrev pub plain_place : List ℕ → Span → FieldPlace
plain_place w word = record { word = name_at w word; member = None; index = None }

-- the field `word[n]= value`
pub record IsIndexedField (w : List ℕ) (n : ℕ) (Is : Value → Type 0) (f : KeyField) : Type 0 where
  pub field : Field
  pub is : f ≡ fields.Field field
  pub word_span : Span
  pub number_span : Span
  pub expression_span : Span
  pub index_span : Span
  pub place_is : field.place ≡ indexed_place w n word_span number_span expression_span index_span
  pub value : Value
  pub setting_is : field.setting ≡ settings.To value
  pub value_is : Is value

-- the field `word`
pub record IsBareField (w : List ℕ) (f : KeyField) : Type 0 where
  pub field : Field
  pub is : f ≡ fields.Field field
  pub word_span : Span
  pub place_is : field.place ≡ plain_place w word_span
  pub setting_is : field.setting ≡ settings.On

-- the field `word= n`
pub record IsNumberField (w : List ℕ) (n : ℕ) (f : KeyField) : Type 0 where
  pub field : Field
  pub is : f ≡ fields.Field field
  pub word_span : Span
  pub place_is : field.place ≡ plain_place w word_span
  pub value : Expression
  pub setting_is : field.setting ≡ settings.To (values.Expression value)
  pub value_is : IsNumberOf n value

abbrev pub IsFieldOf : FieldPhrase → KeyField → Type 0
IsFieldOf (TypeOf n name) f = IsIndexedField (codes "type") n (IsTextOf name) f
IsFieldOf (SymbolsOf n levels) f = IsIndexedField (codes "symbols") n (IsListOf IsLevelOf levels) f
IsFieldOf (ActionsOf n calls) f = IsIndexedField (codes "actions") n (IsListOf IsActionOf calls) f
IsFieldOf Clamped f = IsBareField (codes "groupsClamp") f
IsFieldOf (RedirectedTo n) f = IsNumberField (codes "groupsRedirect") n f

-- ---- Keys

pub record IsKeyOf (phrase : KeyPhrase) (statement : Statement) : Type 0 where
  pub name_span : Span
  pub fields : List KeyField
  pub is : statement ≡ statements.Key (name_at phrase.name name_span) fields
  pub are : AreShown IsFieldOf (field_phrases phrase) fields

abbrev pub IsKey : PrintedKey → Statement → Type 0
IsKey k statement = IsKeyOf (key_phrase k) statement
