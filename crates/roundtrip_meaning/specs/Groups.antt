-- What the fields of a printed key say of its lists, group by group.
use Rattle.std.specs.Prelude.{ℕ, List, [], ◌∷◌, ◌≡◌, Option, None, Some, is_some, false, codes, ◌+◌}
use Rattle.kx_actions.specs.declared.action.KeyAction.{KeyAction}
use Rattle.kx_lex.specs.declared.token.Span.{Span}
use Rattle.kx_tree.specs.declared.tree.Field.{Field}
use Rattle.roundtrip_tree.specs.Shows.{name_at}
use Rattle.kx_tree.specs.declared.tree.Index.{Index}
use Rattle.kx_tree.specs.declared.tree.KeyField.{KeyField}
use Rattle.kx_tree.specs.declared.tree.KeyField.TheVariants as fields
use Rattle.kx_tree.specs.declared.tree.List.{List as Listed}
use Rattle.kx_tree.specs.declared.tree.Setting.TheVariants.{To}
use Rattle.kx_tree.specs.declared.tree.Value.TheVariants as values
use Rattle.kx_key_lists.specs.Groups.{group_at}
use Rattle.kx_symbols.specs.Actions.{actions_of}
use Rattle.kx_symbols.specs.Keysyms.{Level, levels_of}
use Rattle.kx_symbols.specs.Known.{Known}
use Rattle.kx_symbols.specs.Lists.{field_kind}

-- a field that gives no list
pub record IsOther (f : KeyField) : Type 0 where
  pub field : Field
  pub is : f ≡ fields.Field field
  pub kind : is_some (field_kind field.place) ≡ false

-- a list under a word for a group, counted from 0
pub record IsListFor (word : List ℕ) (group : ℕ) (list : Listed) (f : KeyField) : Type 0 where
  pub field : Field
  pub word_span : Span
  pub index : Index
  pub is : f ≡ fields.Field field
  pub place_is : field.place ≡ record { word = name_at word word_span; member = None; index = Some index }
  pub group_is : group_at index.value ≡ Some group
  pub setting_is : field.setting ≡ To (values.List list)

-- the keysyms and the actions of a group's levels
pub record GroupLists : Type 0 where
  pub symbols : List Level
  pub actions : List (Option KeyAction)

-- the fields of the groups of a key from a number on, and others after them
pub data AreGroups (known : Known) : ℕ → List GroupLists → List KeyField → Type 0 where
  end : {n : ℕ} → AreGroups known n [] []
  other : {n : ℕ} {f : KeyField} {fs : List KeyField} {gs : List GroupLists} → IsOther f → AreGroups known n gs fs → AreGroups known n gs (f ∷ fs)
  lists : {n : ℕ} {g : GroupLists} {gs : List GroupLists} {s a : KeyField} {fs : List KeyField} (symbols actions : Listed) → IsListFor (codes "symbols") n symbols s → levels_of known.names symbols ≡ g.symbols → IsListFor (codes "actions") n actions a → actions_of known actions ≡ g.actions → AreGroups known (n + 1) gs fs → AreGroups known n (g ∷ gs) (s ∷ a ∷ fs)
