-- The forms of the statements of a printed symbols section.
use Rattle.std.specs.Prelude.{ℕ, List, [], ◌≡◌, codes, None, Some}
use Rattle.kx_lex.specs.declared.name.Name.{Name}
use Rattle.kx_lex.specs.declared.token.Span.{Span}
use Rattle.kx_tree.specs.declared.tree.Entry.{Entry}
use Rattle.kx_tree.specs.declared.tree.Field.{Field}
use Rattle.kx_tree.specs.declared.tree.KeyField.{KeyField}
use Rattle.kx_tree.specs.declared.tree.Setting.TheVariants.{To}
use Rattle.kx_tree.specs.declared.tree.Stated.{Stated}
use Rattle.kx_tree.specs.declared.tree.Statement.{Statement}
use Rattle.kx_tree.specs.declared.tree.Statement.TheVariants as statements
use Rattle.kx_tree.specs.declared.tree.Term.TheVariants as terms
use Rattle.kx_tree.specs.declared.tree.Value.TheVariants as values
use Rattle.roundtrip_tree.specs.Shows.{IsStated, name_at, number_at}

-- `name[n]= "NAME"`
pub record IsGroupName (group : ℕ) (name : List ℕ) (statement : Statement) : Type 0 where
  pub field : Field
  pub word_span : Span
  pub number_span : Span
  pub expression_span : Span
  pub index_span : Span
  pub text_span : Span
  pub value_span : Span
  pub is : statement ≡ statements.Field field
  pub place_is : field.place ≡ record { word = name_at (codes "name") word_span; member = None; index = Some (record { value = record { first = terms.Number (number_at group number_span); rest = []; span = expression_span }; span = index_span }) }
  pub setting_is : field.setting ≡ To (values.Expression (record { first = terms.Text (name_at name text_span); rest = []; span = value_span }))

-- the name of some group
pub record NamesGroup (statement : Statement) : Type 0 where
  pub group : ℕ
  pub name : List ℕ
  pub is : IsGroupName group name statement

-- a key, whatever its fields
pub record NamesKey (statement : Statement) : Type 0 where
  pub name : Name
  pub fields : List KeyField
  pub is : statement ≡ statements.Key name fields

-- a modifier map, whatever its entries
pub record MapsModifier (statement : Statement) : Type 0 where
  pub modifier : Name
  pub entries : List Entry
  pub is : statement ≡ statements.ModifierMap modifier entries

abbrev pub IsNameStated : Stated → Type 0
IsNameStated stated = IsStated NamesGroup stated

abbrev pub IsKeyStated : Stated → Type 0
IsKeyStated stated = IsStated NamesKey stated

abbrev pub IsMapStated : Stated → Type 0
IsMapStated stated = IsStated MapsModifier stated
