-- Which lists a key statement gives: each has a kind and a group.
use Rattle.std.specs.Prelude.{ℕ, Bool, true, false, List, [], fold, Option, None, Some, is_some, if◌then◌else◌, codes}
use Rattle.std.specs.List.{list_any}
use Rattle.std.specs.Str.{str_eq_ignore_ascii_case}
use Rattle.std.specs.Option.{option_map_or}
use Rattle.kx_actions.specs.declared.action.KeyAction.{KeyAction}
use Rattle.kx_key_lists.specs.Lists.{Lists}
use Rattle.kx_key_lists.specs.Places.{given_list, group_for}
use Rattle.kx_tree.specs.declared.tree.Element.{Element}
use Rattle.kx_tree.specs.declared.tree.Element.TheVariants as elements
use Rattle.kx_tree.specs.declared.tree.Field.{Field}
use Rattle.kx_tree.specs.declared.tree.Index.{Index}
use Rattle.kx_tree.specs.declared.tree.KeyField.{KeyField}
use Rattle.kx_tree.specs.declared.tree.KeyField.TheVariants as fields
use Rattle.kx_tree.specs.declared.tree.List.{List as Listed}
use Rattle.kx_tree.specs.declared.tree.BracePart.{BracePart}
use Rattle.kx_tree.specs.declared.tree.BracePart.TheVariants as parts
use Rattle.kx_tree.specs.declared.tree.FieldPlace.{FieldPlace}
use Rattle.kx_tree.specs.declared.tree.Setting.{Setting}
use Rattle.kx_tree.specs.declared.tree.Setting.TheVariants.{To}
use Rattle.kx_tree.specs.declared.tree.Value.TheVariants as values
use Rattle.kx_symbols.specs.declared.kinds.ListKind.{ListKind}
use Rattle.kx_symbols.specs.declared.kinds.ListKind.TheVariants.{Symbols, Actions}
use Rattle.kx_symbols.specs.Actions.{actions_of}
use Rattle.kx_symbols.specs.Keysyms.{levels_of}
use Rattle.kx_symbols.specs.Known.{Known}

-- the lists of both kinds, each by group
pub record StatementLists : Type 0 where
  pub symbols : Lists (List ℕ)
  pub actions : Lists KeyAction

abbrev pub no_lists : StatementLists
no_lists = record { symbols = []; actions = [] }

abbrev pub is_call : BracePart → Bool
is_call (parts.Symbol symbol) = false
is_call (parts.Call call) = true

abbrev pub has_call : Element → Bool
has_call (elements.Symbol symbol) = false
has_call (elements.Call call) = true
has_call (elements.Braces braces) = list_any is_call braces.parts

-- a list by itself is of actions where one stands anywhere in it, else of keysyms
abbrev pub bare_kind : Listed → ListKind
bare_kind list = if list_any has_call list.elements then Actions else Symbols

abbrev pub kind_word : List ℕ → Option ListKind
kind_word word = if str_eq_ignore_ascii_case word (codes "symbols") then Some Symbols else (if str_eq_ignore_ascii_case word (codes "actions") then Some Actions else None)

-- the kind of a list under a field, which the field names
abbrev pub field_kind : FieldPlace → Option ListKind
field_kind place = if is_some place.member then None else kind_word place.word.bytes

-- whether a field isn't a list by itself
abbrev pub is_field : KeyField → Bool
is_field (fields.List list) = false
is_field (fields.Field field) = true

module _ (known : Known) where
  -- a list of a kind beside those that the statement gave before
  abbrev pub with_listed : StatementLists → Option Index → Listed → ListKind → StatementLists
  with_listed s index list Symbols = record s { symbols = given_list s.symbols (group_for s.symbols index) (levels_of known.names list) }
  with_listed s index list Actions = record s { actions = given_list s.actions (group_for s.actions index) (actions_of known list) }

  abbrev pub set_lists : StatementLists → Option Index → ListKind → Setting → StatementLists
  set_lists s index kind (To (values.List list)) = with_listed s index list kind
  set_lists s index kind _ = s

  abbrev pub field_lists : StatementLists → KeyField → StatementLists
  field_lists s (fields.List list) = with_listed s None list (bare_kind list)
  field_lists s (fields.Field field) = option_map_or (λ kind. set_lists s field.place.index kind field.setting) (field_kind field.place) s

  -- the lists that a key statement gives
  abbrev pub lists_of : List KeyField → StatementLists
  lists_of fs = fold field_lists no_lists fs

-- ---- Under a name, for clauses

abbrev pub named_lists : Known → StatementLists → Field → Option ListKind → StatementLists
named_lists known s field kind = option_map_or (λ k. set_lists known s field.place.index k field.setting) kind s
