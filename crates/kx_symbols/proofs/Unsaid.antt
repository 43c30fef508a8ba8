-- A statement of lists alone says nothing besides.
use Rattle.std.proofs.Common.{◌≡◌, ℕ, false, List, [], ◌∷◌, Option, None, refl, sym, ◌∙◌}
use Rattle.std.specs.List.{list_any}
use Rattle.std.proofs.lemmas.Bool.{false≢true}
use Rattle.kx_tree.specs.declared.tree.KeyField.{KeyField}
use Rattle.kx_tree.specs.declared.tree.KeyField.TheVariants as fields
use Rattle.kx_key_fields.specs.KeyFields.{cell_given, effective, setting_faults}
use Rattle.kx_merge.specs.Last.{last_given}
use Rattle.kx_key_fields.specs.Attributes.{no_settings, attribute_in}
use Rattle.kx_key_fields.specs.declared.cells.AttributeCell.{AttributeCell}
use Rattle.kx_key_fields.specs.declared.cells.AttributeValue.{AttributeValue}
use Rattle.kx_key_fields.specs.declared.cells.AttributeCell.TheVariants as cells
use Rattle.kx_symbols.specs.Lists.{is_field}

nothing_given : (names : List (List ℕ)) (cell : AttributeCell) (before : Option AttributeValue) (fs : List KeyField) → list_any is_field fs ≡ false → last_given (cell_given names cell) before fs ≡ before
nothing_given names cell before [] h = refl
nothing_given names cell before (fields.List list ∷ fs) h = nothing_given names cell before fs h
nothing_given names cell before (fields.Field field ∷ fs) h = absurd (false≢true (sym h))

unset : (cell : AttributeCell) → attribute_in no_settings cell ≡ None
unset (cells.GroupType group) = refl
unset _ = refl

pub unsaid : (names : List (List ℕ)) (fs : List KeyField) → list_any is_field fs ≡ false → (cell : AttributeCell) → effective names no_settings fs cell ≡ None
unsaid names fs h cell = nothing_given names cell (attribute_in no_settings cell) fs h ∙ unset cell

pub unblamed : (file : ℕ) (names : List (List ℕ)) (fs : List KeyField) → list_any is_field fs ≡ false → setting_faults file names fs ≡ []
unblamed file names [] h = refl
unblamed file names (fields.List list ∷ fs) h = unblamed file names fs h
unblamed file names (fields.Field field ∷ fs) h = absurd (false≢true (sym h))
