-- What a tree shows of what was printed: its values, whatever its spans.
use Rattle.std.specs.Prelude.{ℕ, List, [], ◌∷◌, ◌≡◌}
use Rattle.kx_lex.specs.declared.name.Name.{Name}
use Rattle.kx_lex.specs.declared.name.Number.{Number as NumberValue}
use Rattle.kx_lex.specs.Production.{Production}
use Rattle.kx_lex.specs.declared.token.Span.{Span}
use Rattle.kx_lex.specs.declared.token.Token.{Token}
use Rattle.kx_tree.specs.declared.tree.Entry.TheVariants as entries
use Rattle.kx_tree.specs.declared.tree.Item.{Item}
use Rattle.kx_tree.specs.declared.tree.Item.TheVariants as items
use Rattle.kx_tree.specs.declared.tree.Mode.TheVariants.{Override}
use Rattle.kx_tree.specs.declared.tree.Stated.{Stated}
use Rattle.kx_tree.specs.declared.tree.Statement.{Statement}
use Rattle.kx_tree.specs.declared.tree.Statement.TheVariants as statements

abbrev pub name_at : List ℕ → Span → Name
name_at bytes span = record { bytes = bytes; span = span }

abbrev pub number_at : ℕ → Span → NumberValue
number_at value span = record { value = value; span = span }

-- a statement as it is printed, without a mode
pub record IsStated (Is : Statement → Type 0) (stated : Stated) : Type 0 where
  pub mode_is : stated.mode ≡ Override
  pub shows : Is stated.statement

pub record IsItem (Is : Statement → Type 0) (item : Item) : Type 0 where
  pub stated : Stated
  pub item_is : item ≡ items.Statement stated
  pub is : IsStated Is stated

pub record IsKeycode (name : List ℕ) (code : ℕ) (statement : Statement) : Type 0 where
  pub name_span : Span
  pub code_span : Span
  pub is : statement ≡ statements.Keycode (name_at name name_span) (number_at code code_span)

pub record IsModifierMap (modifier name : List ℕ) (statement : Statement) : Type 0 where
  pub word_span : Span
  pub name_span : Span
  pub is : statement ≡ statements.ModifierMap (name_at modifier word_span) (entries.KeyName (name_at name name_span) ∷ [])

-- tokens spell a value before others
pub record IsSpelled {A : Type 0} (p : Production A) (ts : List Token) (x : A) (rest : List Token) : Type 0 where
  pub spelled : p.spells ts x rest

-- a value that tokens spell, and what it shows
pub record ReadsAs {A : Type 0} (p : Production A) (Is : A → Type 0) (ts rest : List Token) : Type 0 where
  pub value : A
  pub spelled : IsSpelled p ts value rest
  pub is : Is value

-- values show things one by one
pub data AreShown {X A : Type 0} (Is : X → A → Type 0) : List X → List A → Type 0 where
  none : AreShown Is [] []
  more : {x : X} {xs : List X} {a : A} {bs : List A} → Is x a → AreShown Is xs bs → AreShown Is (x ∷ xs) (a ∷ bs)
