-- The cells of settings: what is given to them one after another, and joined.
use Rattle.std.proofs.Common.{◌≡◌, ℕ, ◌+◌, ◌==◌, ◌<◌, Bool, true, false, cond, List, [], ◌∷◌, length, drop, get_or, fold, Option, None, Some, refl, sym, ap, ◌∙◌}
use Rattle.std.specs.Option.{option_and_then, option_map, option_or}
use Rattle.kx_tree.specs.declared.tree.Field.{Field}
use Rattle.kx_tree.specs.declared.tree.KeyField.{KeyField}
use Rattle.kx_key_fields.specs.KeyFields.{cell_default, cell_given, default_given, defaults_after, effective, key_given, next_defaults}
use Rattle.kx_merge.specs.Last.{last_given}
use Rattle.kx_key_fields.specs.Attributes.{Settings, given_to, no_settings, attribute_in, type_at, with_given}
use Rattle.kx_key_fields.specs.declared.cells.AttributeCell.{AttributeCell}
use Rattle.kx_key_fields.specs.declared.cells.AttributeCell.TheVariants as cells
use Rattle.kx_key_fields.specs.declared.cells.AttributeValue.TheVariants as values
use Rattle.kx_key_fields.specs.declared.given.Given.{Given}
use Rattle.kx_key_fields.specs.declared.given.Given.TheVariants as given
use Rattle.kx_merge.proofs.Going.{drop_next}
use Rattle.kx_key_fields.proofs.Moving.{type_put}

-- a cell that is given something has it, and the others have what they had
pub cell_put : (s : Settings) (g : Option Given) (cell : AttributeCell) → attribute_in (with_given s g) cell ≡ option_or (option_and_then (given_to cell) g) (attribute_in s cell)
cell_put s None cell = refl
cell_put s (Some (given.GroupType group name)) (cells.GroupType h) = ap (option_map values.Type) (type_put s.group_types group name h) ∙ by (h == group)
  where
    by : (b : Bool) → option_map values.Type (cond b (Some name) (type_at s.group_types h)) ≡ option_or (cond b (Some (values.Type name)) None) (option_map values.Type (type_at s.group_types h))
    by true = refl
    by false = refl
cell_put s (Some (given.GroupType group name)) cells.KeyType = refl
cell_put s (Some (given.GroupType group name)) cells.VirtualMods = refl
cell_put s (Some (given.GroupType group name)) cells.Range = refl
cell_put s (Some (given.KeyType name)) (cells.GroupType h) = refl
cell_put s (Some (given.KeyType name)) cells.KeyType = refl
cell_put s (Some (given.KeyType name)) cells.VirtualMods = refl
cell_put s (Some (given.KeyType name)) cells.Range = refl
cell_put s (Some (given.VirtualMods set)) (cells.GroupType h) = refl
cell_put s (Some (given.VirtualMods set)) cells.KeyType = refl
cell_put s (Some (given.VirtualMods set)) cells.VirtualMods = refl
cell_put s (Some (given.VirtualMods set)) cells.Range = refl
cell_put s (Some (given.Range range)) (cells.GroupType h) = refl
cell_put s (Some (given.Range range)) cells.KeyType = refl
cell_put s (Some (given.Range range)) cells.VirtualMods = refl
cell_put s (Some (given.Range range)) cells.Range = refl

module _ (names : List (List ℕ)) where
  -- what the fields up to here gave is in the settings, and the others are to come
  abbrev pub IsLeft : Settings → List KeyField → ℕ → Settings → Type 0
  IsLeft defaults fields i s = (cell : AttributeCell) → effective names defaults fields cell ≡ effective names s (drop i fields) cell

  pub settings_go : (defaults : Settings) (fields : List KeyField) (i : ℕ) (s : Settings) (field : KeyField) (g : Option Given) (next : Settings) → i < length fields → field ≡ get_or fields i field → g ≡ key_given names field → next ≡ with_given s g
      → IsLeft defaults fields i s → IsLeft defaults fields (i + 1) next
  settings_go defaults fields i s field g next within is gave put left cell =
      let rest : List KeyField = drop (i + 1) fields in
      left cell
      ∙ ap (λ fs. effective names s fs cell) (drop_next fields i field within is)
      ∙ ap (λ o. last_given (cell_given names cell) (option_or (option_and_then (given_to cell) o) (attribute_in s cell)) rest) (sym gave)
      ∙ sym (ap (λ v. last_given (cell_given names cell) v rest) (ap (λ t. attribute_in t cell) put ∙ cell_put s g cell))

  go : (d : Settings) (cell : AttributeCell) (statements : List Field) → attribute_in (fold (next_defaults names) d statements) cell ≡ last_given (cell_default names cell) (attribute_in d cell) statements
  go d cell [] = refl
  go d cell (s ∷ ss) = go (next_defaults names d s) cell ss ∙ ap (λ v. last_given (cell_default names cell) v ss) (cell_put d (default_given names s) cell)

  none_in : (cell : AttributeCell) → attribute_in no_settings cell ≡ None
  none_in (cells.GroupType group) = refl
  none_in _ = refl

  -- of default statements the last counts
  pub last_defaults : (statements : List Field) (cell : AttributeCell) → attribute_in (defaults_after names statements) cell ≡ last_given (cell_default names cell) None statements
  last_defaults statements cell = go no_settings cell statements ∙ ap (λ v. last_given (cell_default names cell) v statements) (none_in cell)
