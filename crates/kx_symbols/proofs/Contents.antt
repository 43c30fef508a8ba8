-- The cells of a key, by its lists of both kinds.
use Rattle.std.proofs.Common.{◌≡◌, ℕ, Option, None, Some, refl, ap, ◌∙◌}
use Rattle.std.specs.Option.{option_and_then, option_map}
use Rattle.kx_key_lists.specs.Records.{moved_in, value_in}
use Rattle.kx_merge.specs.ByGroup.{group_before}
use Rattle.kx_merge.specs.Moved.{moved_value}
use Rattle.kx_merge.specs.Offers.{merged_value}
use Rattle.kx_tree.specs.declared.tree.Mode.{Mode}
use Rattle.kx_tree.specs.declared.tree.Mode.TheVariants.{Augment, Override, Replace}
use Rattle.kx_key_fields.specs.Attributes.{attribute_before, attribute_in, attribute_moves}
use Rattle.kx_key_fields.specs.declared.cells.AttributeCell.{AttributeCell}
use Rattle.kx_symbols.specs.Keys.{KeyContent, cell_in, key_moves}
use Rattle.kx_symbols.specs.declared.cells.Cell.{Cell}
use Rattle.kx_symbols.specs.declared.cells.Cell.TheVariants as cells
use Rattle.kx_symbols.specs.declared.cells.CellValue.TheVariants as values

taken_map : {X Y : Type 0} (f : X → Y) (mode : Mode) (a b : Option X) → option_map f (merged_value mode a b) ≡ merged_value mode (option_map f a) (option_map f b)
taken_map f Augment None b = refl
taken_map f Augment (Some x) b = refl
taken_map f Override a None = refl
taken_map f Override a (Some y) = refl
taken_map f Replace a b = refl

module _ (mode : Mode) (old new other : KeyContent) where
  pub joined_cells : ((g l : ℕ) → value_in new.symbols g l ≡ merged_value mode (value_in old.symbols g l) (value_in other.symbols g l)) → ((g l : ℕ) → value_in new.actions g l ≡ merged_value mode (value_in old.actions g l) (value_in other.actions g l))
      → ((cell : AttributeCell) → attribute_in new.settings cell ≡ merged_value mode (attribute_in old.settings cell) (attribute_in other.settings cell)) → (c : Cell) → cell_in new c ≡ merged_value mode (cell_in old c) (cell_in other c)
  joined_cells symbols actions settings (cells.Keysyms g l) = ap (option_map values.Keysyms) (symbols g l) ∙ taken_map values.Keysyms mode (value_in old.symbols g l) (value_in other.symbols g l)
  joined_cells symbols actions settings (cells.Action g l) = ap (option_map values.Action) (actions g l) ∙ taken_map values.Action mode (value_in old.actions g l) (value_in other.actions g l)
  joined_cells symbols actions settings (cells.Setting c) = ap (option_map values.Setting) (settings c) ∙ taken_map values.Setting mode (attribute_in old.settings c) (attribute_in other.settings c)

module _ (key : KeyContent) where
  keysyms_before : (l : ℕ) (o : Option ℕ) → option_map values.Keysyms (option_and_then (λ g. value_in key.symbols g l) o) ≡ option_and_then (cell_in key) (option_map (λ g. cells.Keysyms g l) o)
  keysyms_before l None = refl
  keysyms_before l (Some g) = refl

  action_before : (l : ℕ) (o : Option ℕ) → option_map values.Action (option_and_then (λ g. value_in key.actions g l) o) ≡ option_and_then (cell_in key) (option_map (λ g. cells.Action g l) o)
  action_before l None = refl
  action_before l (Some g) = refl

  setting_at : (o : Option AttributeCell) → option_map values.Setting (option_and_then (attribute_in key.settings) o) ≡ option_and_then (cell_in key) (option_map cells.Setting o)
  setting_at None = refl
  setting_at (Some c) = refl

  attribute_moved : (group : Option ℕ) (c : AttributeCell) → option_map values.Setting (moved_value attribute_moves group (attribute_in key.settings) c) ≡ moved_value key_moves group (cell_in key) (cells.Setting c)
  attribute_moved None c = refl
  attribute_moved (Some n) c = setting_at (attribute_before n c)

  keysyms_moved : (group : Option ℕ) (g l : ℕ) → option_map values.Keysyms (moved_in group key.symbols g l) ≡ moved_value key_moves group (cell_in key) (cells.Keysyms g l)
  keysyms_moved None g l = refl
  keysyms_moved (Some n) g l = keysyms_before l (group_before n g)

  action_moved : (group : Option ℕ) (g l : ℕ) → option_map values.Action (moved_in group key.actions g l) ≡ moved_value key_moves group (cell_in key) (cells.Action g l)
  action_moved None g l = refl
  action_moved (Some n) g l = action_before l (group_before n g)

module _ (mode : Mode) (group : Option ℕ) (old new other : KeyContent) where
  pub moved_cells : ((g l : ℕ) → value_in new.symbols g l ≡ merged_value mode (value_in old.symbols g l) (moved_in group other.symbols g l)) → ((g l : ℕ) → value_in new.actions g l ≡ merged_value mode (value_in old.actions g l) (moved_in group other.actions g l))
      → ((cell : AttributeCell) → attribute_in new.settings cell ≡ merged_value mode (attribute_in old.settings cell) (moved_value attribute_moves group (attribute_in other.settings) cell)) → (c : Cell) → cell_in new c ≡ merged_value mode (cell_in old c) (moved_value key_moves group (cell_in other) c)
  moved_cells symbols actions settings (cells.Keysyms g l) = ap (option_map values.Keysyms) (symbols g l) ∙ taken_map values.Keysyms mode (value_in old.symbols g l) (moved_in group other.symbols g l) ∙ ap (merged_value mode (cell_in old (cells.Keysyms g l))) (keysyms_moved other group g l)
  moved_cells symbols actions settings (cells.Action g l) = ap (option_map values.Action) (actions g l) ∙ taken_map values.Action mode (value_in old.actions g l) (moved_in group other.actions g l) ∙ ap (merged_value mode (cell_in old (cells.Action g l))) (action_moved other group g l)
  moved_cells symbols actions settings (cells.Setting c) = ap (option_map values.Setting) (settings c) ∙ taken_map values.Setting mode (attribute_in old.settings c) (moved_value attribute_moves group (attribute_in other.settings) c) ∙ ap (merged_value mode (cell_in old (cells.Setting c))) (attribute_moved other group c)
