-- The faults of the statements of a symbols section: those of key statements and of defaults for keys and actions, and
-- statements and fields that such a section doesn't have. Declarations of virtual modifiers, modifier maps and names of
-- groups are judged elsewhere.
use Rattle.std.specs.Prelude.{ℕ, nat_lt, List, [], ◌∷◌, ◌++◌, length, Option, None, Some, if◌then◌else◌}
use Rattle.std.specs.List.{flat_map}
use Rattle.std.specs.Option.{option_map_or}
use Rattle.kx_actions.specs.Arguments.{action_faults}
use Rattle.kx_actions.specs.Defaults.{default_faults as action_default_faults}
use Rattle.kx_basics.specs.declared.limits.TheConstants.{GREATEST_KEYSYM, MOST_KEYSYMS}
use Rattle.kx_lex.specs.declared.fault.Fault.{Fault}
use Rattle.kx_lex.specs.declared.fault.Fault.TheVariants.{BadValue, TooMany, UnknownField}
use Rattle.kx_lex.specs.declared.name.Name.{Name}
use Rattle.kx_lex.specs.declared.token.Span.{Span}
use Rattle.kx_key_lists.specs.Places.{place_faults}
use Rattle.kx_tree.specs.declared.tree.Braces.{Braces}
use Rattle.kx_tree.specs.declared.tree.Element.{Element}
use Rattle.kx_tree.specs.declared.tree.Element.TheVariants as elements
use Rattle.kx_tree.specs.declared.tree.Field.{Field}
use Rattle.kx_tree.specs.declared.tree.Index.{Index}
use Rattle.kx_tree.specs.declared.tree.KeyField.{KeyField}
use Rattle.kx_tree.specs.declared.tree.KeyField.TheVariants as fields
use Rattle.kx_tree.specs.declared.tree.List.{List as Listed}
use Rattle.kx_tree.specs.declared.tree.BracePart.{BracePart}
use Rattle.kx_tree.specs.declared.tree.BracePart.TheVariants as parts
use Rattle.kx_tree.specs.declared.tree.Setting.{Setting}
use Rattle.kx_tree.specs.declared.tree.Setting.TheVariants.{Off, On, To}
use Rattle.kx_tree.specs.declared.tree.Stated.{Stated}
use Rattle.kx_tree.specs.declared.tree.Statement.{Statement}
use Rattle.kx_tree.specs.declared.tree.Statement.TheVariants as statements
use Rattle.kx_tree.specs.declared.tree.Symbol.{Symbol}
use Rattle.kx_tree.specs.declared.tree.Symbol.TheVariants.{Word, Number}
use Rattle.kx_tree.specs.declared.tree.Value.TheVariants as values
use Rattle.kx_tree.specs.Sections.{word_span}
use Rattle.kx_merge.specs.Faults.{name_faults}
use Rattle.kx_include.specs.IncludeFaults.{at}
use Rattle.kx_key_fields.specs.KeyFields.{default_faults as key_default_faults, setting_faults}
use Rattle.kx_key_fields.specs.Words.{is_group_name, is_key_word}
use Rattle.kx_symbols.specs.declared.kinds.ListKind.{ListKind}
use Rattle.kx_symbols.specs.declared.kinds.ListKind.TheVariants.{Symbols, Actions}
use Rattle.kx_symbols.specs.Actions.{calls_in}
use Rattle.kx_symbols.specs.Known.{Known}
use Rattle.kx_symbols.specs.Lists.{StatementLists, bare_kind, field_kind, field_lists, no_lists}

-- the name and the fields of a key statement
abbrev pub key_in : Statement → Option (Name × List KeyField)
key_in (statements.Key name fields) = Some (name, fields)
key_in _ = None

abbrev pub symbol_span : Symbol → Span
symbol_span (Word word) = word.span
symbol_span (Number number) = number.span

module _ (file : ℕ) where
  -- a number is at most 1fffffff, the greatest keysym
  abbrev pub symbol_faults : Symbol → List Fault
  symbol_faults (Word word) = []
  symbol_faults (Number number) = if nat_lt GREATEST_KEYSYM number.value then BadValue (at file number.span) ∷ [] else []

  -- in a list of keysyms
  abbrev pub part_faults : BracePart → List Fault
  part_faults (parts.Symbol symbol) = symbol_faults symbol
  part_faults (parts.Call call) = BadValue (at file call.span) ∷ []

  -- a level has at most eight keysyms; `whole` is the statement
  abbrev pub count_faults : Span → List BracePart → List Fault
  count_faults whole ps = if nat_lt MOST_KEYSYMS (length ps) then TooMany (at file whole) ∷ [] else []

  abbrev pub element_faults : Span → Element → List Fault
  element_faults whole (elements.Symbol symbol) = symbol_faults symbol
  element_faults whole (elements.Call call) = BadValue (at file call.span) ∷ []
  element_faults whole (elements.Braces braces) = count_faults whole braces.parts ++ flat_map part_faults braces.parts

  abbrev pub elements_faults : Span → Listed → List Fault
  elements_faults whole list = flat_map (element_faults whole) list.elements

  -- a level has at most one action
  abbrev pub several_faults : Braces → List Fault
  several_faults braces = if nat_lt 1 (length (calls_in braces.parts)) then BadValue (at file braces.span) ∷ [] else []

  module _ (modifiers : List (List ℕ)) where
    -- in a list of actions
    abbrev pub action_part_faults : BracePart → List Fault
    action_part_faults (parts.Symbol symbol) = BadValue (at file (symbol_span symbol)) ∷ []
    action_part_faults (parts.Call call) = action_faults file modifiers call

    abbrev pub action_element_faults : Element → List Fault
    action_element_faults (elements.Symbol symbol) = BadValue (at file (symbol_span symbol)) ∷ []
    action_element_faults (elements.Call call) = action_faults file modifiers call
    action_element_faults (elements.Braces braces) = several_faults braces ++ flat_map action_part_faults braces.parts

    abbrev pub actions_faults : Listed → List Fault
    actions_faults list = flat_map action_element_faults list.elements

    -- of a list of a kind, after others of the statement
    abbrev pub list_faults : Span → StatementLists → Option Index → Listed → ListKind → List Fault
    list_faults whole s index list Symbols = place_faults file s.symbols index list ++ elements_faults whole list
    list_faults whole s index list Actions = place_faults file s.actions index list ++ actions_faults list

    abbrev pub set_faults : Span → StatementLists → Option Index → Span → ListKind → Setting → List Fault
    set_faults whole s index field kind (To (values.List list)) = list_faults whole s index list kind
    set_faults whole s index field kind (To (values.Expression e)) = BadValue (at file e.span) ∷ []
    set_faults whole s index field kind (To (values.Call call)) = BadValue (at file call.span) ∷ []
    set_faults whole s index field kind Off = BadValue (at file field) ∷ []
    set_faults whole s index field kind On = BadValue (at file field) ∷ []

    -- of a field of lists; what another field says is no list
    abbrev pub named_faults : Span → StatementLists → Field → Option ListKind → List Fault
    named_faults whole s field kind = option_map_or (λ k. set_faults whole s field.place.index field.span k field.setting) kind []

    abbrev pub field_faults : Span → StatementLists → KeyField → List Fault
    field_faults whole s (fields.List list) = list_faults whole s None list (bare_kind list)
    field_faults whole s (fields.Field field) = named_faults whole s field (field_kind field.place)

module _ (file : ℕ) where
  -- of the lists among the fields of a key statement, after some that gave these lists
  abbrev pub fields_faults : Known → Span → StatementLists → List KeyField → List Fault
  fields_faults known whole s [] = []
  fields_faults known whole s (f ∷ fs) = field_faults file known.modifiers whole s f ++ fields_faults known whole (field_lists known s f) fs

  -- of a statement that is about no key; `word` is where the fault of one is that such a section doesn't have
  abbrev pub other_faults : List (List ℕ) → Span → Statement → List Fault
  other_faults modifiers word (statements.VirtualModifiers declarations) = []
  other_faults modifiers word (statements.ModifierMap modifier entries) = []
  other_faults modifiers word (statements.Field field) = if is_group_name field.place then [] else if is_key_word field.place.word.bytes then key_default_faults file modifiers field else action_default_faults file modifiers field
  other_faults modifiers word _ = UnknownField (at file word) ∷ []

  -- those of a statement in a file: of a key, of its lists, and of what it says besides
  abbrev pub stated_faults : Known → Stated → List Fault
  stated_faults known stated = option_map_or (λ key. name_faults file stated.span key.0 ++ (fields_faults known stated.span no_lists key.1 ++ setting_faults file known.modifiers key.1)) (key_in stated.statement) (other_faults known.modifiers (word_span stated) stated.statement)

-- ---- Under names, for clauses and proofs

abbrev pub content_faults : (file : ℕ) → Known → Span → List KeyField → List Fault
content_faults file known whole fs = fields_faults file known whole no_lists fs ++ setting_faults file known.modifiers fs

abbrev pub default_faults : (file : ℕ) → List (List ℕ) → Field → List Fault
default_faults file modifiers field = if is_key_word field.place.word.bytes then key_default_faults file modifiers field else action_default_faults file modifiers field

abbrev pub section_field_faults : (file : ℕ) → List (List ℕ) → Field → List Fault
section_field_faults file modifiers field = if is_group_name field.place then [] else default_faults file modifiers field
