-- Lines of fields as they are printed, and what a tree shows of them.
use Rattle.std.specs.Prelude.{ℕ, ◌<◌, ◌^◌, Bool, true, false, List, [], ◌∷◌, ◌≡◌, None, Some}
use Rattle.kx_lex.specs.Kinds.{number_value}
use Rattle.kx_lex.specs.declared.token.Span.{Span}
use Rattle.kx_lex.specs.declared.token.TokenKind.TheVariants.{Number}
use Rattle.kx_tree.specs.declared.tree.Expression.{Expression}
use Rattle.kx_tree.specs.declared.tree.Field.{Field}
use Rattle.kx_tree.specs.declared.tree.Operation.{Operation}
use Rattle.kx_tree.specs.declared.tree.Setting.TheVariants as settings
use Rattle.kx_tree.specs.declared.tree.Sign.TheVariants.{Plus}
use Rattle.kx_tree.specs.declared.tree.Term.{Term}
use Rattle.kx_tree.specs.declared.tree.Term.TheVariants as tree_terms
use Rattle.kx_tree.specs.declared.tree.Value.TheVariants as values
use Rattle.roundtrip_text.specs.Slices.{Slice, slice}
use Rattle.roundtrip_text.specs.Source.{are_bytes}
use Rattle.roundtrip_text.specs.Spelled.{terms, text, setting_slices, setting_at_slices}
use Rattle.roundtrip_tree.specs.Shows.{AreShown, name_at, number_at}

-- an expression: words joined by +, a number with its value, or a text that stands for a name
pub data Written : Type 0 where
  Words : List (List ℕ) → Written
  Digits : List ℕ → ℕ → Written
  Quoted : List ℕ → Written

-- a field without an index, or with one
pub data Line : Type 0 where
  Set : List ℕ → Written → Line
  SetAt : List ℕ → Written → Written → Line

abbrev pub written_slices : Written → List Slice
written_slices (Words ws) = terms ws
written_slices (Digits bytes value) = slice Number bytes ∷ []
written_slices (Quoted name) = text name ∷ []

abbrev pub line_slices : Line → List Slice
line_slices (Set w value) = setting_slices w (written_slices value)
line_slices (SetAt w index value) = setting_at_slices w (written_slices index) (written_slices value)

-- ---- What can be read

abbrev pub is_some_word : List (List ℕ) → Bool
is_some_word [] = false
is_some_word (w ∷ ws) = true

abbrev pub IsReadable : Written → Type 0
IsReadable (Words ws) = is_some_word ws ≡ true
IsReadable (Digits bytes value) = (number_value bytes ≡ value) × (value < 2 ^ 32)
IsReadable (Quoted name) = are_bytes name

abbrev pub IsReadableLine : Line → Type 0
IsReadableLine (Set w value) = IsReadable value
IsReadableLine (SetAt w index value) = IsReadable index × IsReadable value

-- ---- What is shown

abbrev pub IsWord : List ℕ → Term → Type 0
IsWord w t = (span : Span) × (t ≡ tree_terms.Word (name_at w span))

abbrev pub IsPlusWord : List ℕ → Operation → Type 0
IsPlusWord w o = (o.sign ≡ Plus) × IsWord w o.term

pub record AreWords (w : List ℕ) (ws : List (List ℕ)) (e : Expression) : Type 0 where
  pub first : IsWord w e.first
  pub rest : AreShown IsPlusWord ws e.rest

abbrev pub IsWritten : Written → Expression → Type 0
IsWritten (Words []) e = ⊥
IsWritten (Words (w ∷ ws)) e = AreWords w ws e
IsWritten (Digits bytes value) e = (span whole : Span) × (e ≡ record { first = tree_terms.Number (number_at value span); rest = []; span = whole })
IsWritten (Quoted name) e = (span whole : Span) × (e ≡ record { first = tree_terms.Text (name_at name span); rest = []; span = whole })

pub record IsSetting (w : List ℕ) (value : Written) (f : Field) : Type 0 where
  pub word_span : Span
  pub expression : Expression
  pub place_is : f.place ≡ record { word = name_at w word_span; member = None; index = None }
  pub setting_is : f.setting ≡ settings.To (values.Expression expression)
  pub is : IsWritten value expression

pub record IsSettingAt (w : List ℕ) (index value : Written) (f : Field) : Type 0 where
  pub word_span : Span
  pub index_span : Span
  pub at : Expression
  pub expression : Expression
  pub place_is : f.place ≡ record { word = name_at w word_span; member = None; index = Some (record { value = at; span = index_span }) }
  pub setting_is : f.setting ≡ settings.To (values.Expression expression)
  pub at_is : IsWritten index at
  pub is : IsWritten value expression

abbrev pub IsLine : Line → Field → Type 0
IsLine (Set w value) f = IsSetting w value f
IsLine (SetAt w index value) f = IsSettingAt w index value f
