-- What the key statements of a symbols body give each key, by its keycode.
use Rattle.std.specs.Prelude.{◌≡◌, ℕ, max, nat_eq, List, [], ◌∷◌, Option, None, Some}
use Rattle.std.specs.Option.{option_map, option_map_or}
use Rattle.std.specs.Map.{lookup}
use Rattle.ks_core.specs.Table.{KeysymTable}
use Rattle.kx_actions.specs.Defaults.{next_defaults as next_action_defaults}
use Rattle.kx_actions.specs.declared.action.KeyAction.{KeyAction}
use Rattle.kx_codes.specs.Codes.{Codes, code_of}
use Rattle.kx_include.specs.Expansion.{Body}
use Rattle.kx_lex.specs.declared.name.Name.{Name}
use Rattle.kx_key_lists.specs.Lists.{level_in, width_in}
use Rattle.kx_key_lists.specs.Records.{KeyLists, value_in, width_in_key as list_width}
use Rattle.kx_merge.specs.ByGroup.{group_before}
use Rattle.kx_merge.specs.Bodies.{Rules, Moves, offers_of}
use Rattle.kx_merge.specs.Offers.{Offer, value_of, width_of}
use Rattle.kx_merge.specs.Records.{Form}
use Rattle.kx_tree.specs.declared.tree.Field.{Field}
use Rattle.kx_tree.specs.declared.tree.KeyField.{KeyField}
use Rattle.kx_tree.specs.declared.tree.Mode.{Mode}
use Rattle.kx_tree.specs.declared.tree.Statement.{Statement}
use Rattle.kx_tree.specs.declared.tree.Statement.TheVariants as statements
use Rattle.kx_key_fields.specs.KeyFields.{effective, next_defaults as next_key_defaults}
use Rattle.kx_key_fields.specs.Attributes.{Settings, attribute_before, attribute_in}
use Rattle.kx_symbols.specs.declared.cells.Cell.{Cell}
use Rattle.kx_symbols.specs.declared.cells.Cell.TheVariants as cells
use Rattle.kx_symbols.specs.declared.cells.CellValue.{CellValue}
use Rattle.kx_symbols.specs.declared.cells.CellValue.TheVariants as values
use Rattle.kx_symbols.specs.KeyFaults.{key_in, stated_faults}
use Rattle.kx_symbols.specs.Known.{Defaults, Known, no_defaults}
use Rattle.kx_symbols.specs.Lists.{StatementLists, lists_of}

-- what statements give a key together: keysyms and actions by group and level, and what they say of it besides
pub record KeyContent : Type 0 where
  pub symbols : KeyLists (List ℕ)
  pub actions : KeyLists KeyAction
  pub settings : Settings

abbrev pub cell_in : KeyContent → Cell → Option CellValue
cell_in key (cells.Keysyms group level) = option_map values.Keysyms (value_in key.symbols group level)
cell_in key (cells.Action group level) = option_map values.Action (value_in key.actions group level)
cell_in key (cells.Setting cell) = option_map values.Setting (attribute_in key.settings cell)

-- a group is as wide as the longer of its lists
abbrev pub width_in_key : KeyContent → ℕ → ℕ
width_in_key key group = max (list_width key.symbols group) (list_width key.actions group)

abbrev pub key_form : Form KeyContent Cell CellValue
key_form = record { cell = cell_in; width = width_in_key }

-- what the lists of one statement and what it says besides make of a key
abbrev pub content_of : StatementLists → Settings → KeyContent
content_of s settings = record { symbols = record { from = 0; lists = s.symbols }; actions = record { from = 0; lists = s.actions }; settings = settings }

module _ (known : Known) (fs : List KeyField) where
  -- what the fields of one statement give
  abbrev pub given_cell : Cell → Option CellValue
  given_cell (cells.Keysyms group level) = option_map values.Keysyms (level_in (lists_of known fs).symbols group level)
  given_cell (cells.Action group level) = option_map values.Action (level_in (lists_of known fs).actions group level)
  given_cell (cells.Setting cell) = option_map values.Setting (effective known.modifiers known.defaults.keys fs cell)

  abbrev pub key_offer : Mode → ℕ → Offer ℕ Cell CellValue
  key_offer mode code = record { mode = mode; name = code; value = given_cell; width = λ group. max (width_in (lists_of known fs).symbols group) (width_in (lists_of known fs).actions group) }

  -- a statement of a key that no keycode has gives nothing
  abbrev pub offered : Mode → Option ℕ → List (Offer ℕ Cell CellValue)
  offered mode code = option_map_or (λ c. key_offer mode c ∷ []) code []

abbrev pub said_offers : Codes → Known → Mode → Option (Name × List KeyField) → List (Offer ℕ Cell CellValue)
said_offers codes known mode key = option_map_or (λ k. offered known k.1 mode (code_of codes k.0.bytes)) key []

abbrev pub field_in : Statement → Option Field
field_in (statements.Field field) = Some field
field_in _ = None

module _ (modifiers : List (List ℕ)) where
  -- the defaults after a field that stands by itself, and after any statement
  abbrev pub after_field : Defaults → Field → Defaults
  after_field d field = record { actions = next_action_defaults modifiers d.actions field; keys = next_key_defaults modifiers d.keys field }

-- `modifiers` are the virtual modifiers by number
module _ (codes : Codes) (names : KeysymTable) (modifiers : List (List ℕ)) where
  abbrev pub known_under : Defaults → Known
  known_under d = record { names = names; modifiers = modifiers; defaults = d }

  abbrev pub key_rules : Rules ℕ Cell CellValue Defaults
  key_rules = record {
    start = no_defaults;
    next = λ d stated. option_map_or (after_field modifiers d) (field_in stated.statement) d;
    offers = λ d place stated. said_offers codes (known_under d) stated.mode (key_in stated.statement);
    faults = λ d place stated. stated_faults place.file (known_under d) stated;
  }

abbrev pub cell_in_any : Option KeyContent → Cell → Option CellValue
cell_in_any None c = None
cell_in_any (Some key) c = cell_in key c

abbrev pub width_in_any : Option KeyContent → ℕ → ℕ
width_in_any None group = 0
width_in_any (Some key) group = width_in_key key group

abbrev pub key_at : List (ℕ × KeyContent) → ℕ → Option KeyContent
key_at keys code = lookup (nat_eq code) keys

-- where a map is moved to a group, its group 1 goes to that group, the other groups go, and what is about no group stays
abbrev pub cell_before : ℕ → Cell → Option Cell
cell_before n (cells.Keysyms group level) = option_map (λ g. cells.Keysyms g level) (group_before n group)
cell_before n (cells.Action group level) = option_map (λ g. cells.Action g level) (group_before n group)
cell_before n (cells.Setting cell) = option_map cells.Setting (attribute_before n cell)

abbrev pub key_moves : Moves ℕ Cell
key_moves = record { key = λ n k. Some k; cell = cell_before; group = group_before }

-- a key has an action at some group and level
abbrev pub HasAction : KeyContent → Type 0
HasAction key = (group : ℕ) × (level : ℕ) × (action : KeyAction) × (cell_in key (cells.Action group level) ≡ Some (values.Action action))

-- keys by code show what a symbols body gives them: each cell has its value by precedence, each group its width
pub record KeysShow (keys : List (ℕ × KeyContent)) (codes : Codes) (names : KeysymTable) (modifiers : List (List ℕ)) (body : Body) : Type 0 where
  pub cells_are : (code : ℕ) (c : Cell) → cell_in_any (key_at keys code) c ≡ value_of nat_eq (offers_of nat_eq (key_rules codes names modifiers) key_moves body) code c
  pub widths_are : (code group : ℕ) → width_in_any (key_at keys code) group ≡ width_of nat_eq (offers_of nat_eq (key_rules codes names modifiers) key_moves body) code group

-- ---- Under names, for clauses and proofs

abbrev pub said_next : (modifiers : List (List ℕ)) → Defaults → Option Field → Defaults
said_next modifiers d field = option_map_or (after_field modifiers d) field d

abbrev pub given_width : (known : Known) → (fs : List KeyField) → ℕ → ℕ
given_width known fs group = max (width_in (lists_of known fs).symbols group) (width_in (lists_of known fs).actions group)
