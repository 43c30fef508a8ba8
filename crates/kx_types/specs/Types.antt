-- The key types that the statements of a types body declare.
use Rattle.std.specs.Prelude.{◌≡◌, ℕ, List, [], ◌∷◌, ◌++◌, Option, Some, map}
use Rattle.std.specs.Map.{lookup}
use Rattle.std.specs.Option.{option_and_then, option_map_or}
use Rattle.std.specs.Str.{bytes_eq}
use Rattle.kx_include.specs.Expansion.{Body}
use Rattle.kx_lex.specs.declared.fault.Fault.{Fault}
use Rattle.kx_lex.specs.declared.name.Name.{Name}
use Rattle.kx_virtual_mods.specs.Counted.{count_faults, statements_of}
use Rattle.kx_merge.specs.Bodies.{Rules, faults_of, offers_of, no_moves}
use Rattle.kx_merge.specs.Offers.{Offer, names_of, value_of, plain_offer}
use Rattle.kx_merge.specs.Single.{single_rules}
use Rattle.kx_tree.specs.declared.tree.Field.{Field}
use Rattle.kx_tree.specs.declared.tree.Mode.{Mode}
use Rattle.kx_tree.specs.declared.tree.Statement.{Statement}
use Rattle.kx_types.specs.KeyTypes.{Definition, definition_of}
use Rattle.kx_types.specs.TypeFaults.{stated_faults, type_in}
use Rattle.kx_types.specs.TypeFields.{sayings_of}
use Rattle.kx_types.specs.declared.limits.TheConstants.{MOST_TYPES}

-- a type has one cell, its whole definition
abbrev pub TypeOffer : Type 0
TypeOffer = Offer (List ℕ) (Unit {0}) Definition

abbrev pub said_offers : List (List ℕ) → Mode → Option (Name × List Field) → List TypeOffer
said_offers names mode t = option_map_or (λ t. plain_offer mode t.0.bytes (λ _. Some (definition_of (sayings_of names t.1))) ∷ []) t []

-- `names` are the virtual modifiers by number
module _ (names : List (List ℕ)) where
  abbrev pub type_rules : Rules (List ℕ) (Unit {0}) Definition (Unit {0})
  type_rules = single_rules (λ place stated. said_offers names stated.mode (type_in stated.statement)) (λ place stated. stated_faults names place.file stated)

-- the name that a type statement writes
abbrev pub type_names : Statement → List (List ℕ)
type_names statement = option_map_or (λ t. t.0.bytes ∷ []) (type_in statement) []

module _ (names : List (List ℕ)) (body : Body) where
  -- the definition of a type by precedence
  abbrev pub declared_type : List ℕ → Option Definition
  declared_type name = value_of bytes_eq (offers_of bytes_eq (type_rules names) no_moves body) name tt

  -- the types in the order in which they are first named
  abbrev pub declared_names : List (List ℕ)
  declared_names = names_of bytes_eq (offers_of bytes_eq (type_rules names) no_moves body)

  -- the statement with which there are too many types, and the faults of the statements
  abbrev pub types_faults : List Fault
  types_faults = count_faults type_names MOST_TYPES (statements_of body) ++ faults_of bytes_eq (type_rules names) no_moves body

-- types by name
abbrev pub NamedTypes : Type 0
NamedTypes = List (List ℕ × Option Definition)

abbrev pub names_in : NamedTypes → List (List ℕ)
names_in types = map (λ (t : List ℕ × Option Definition). t.0) types

abbrev pub type_named : NamedTypes → List ℕ → Option Definition
type_named types name = option_and_then (λ d. d) (lookup (bytes_eq name) types)

-- types by name are those that a body declares
pub record TypesShow (types : NamedTypes) (names : List (List ℕ)) (body : Body) : Type 0 where
  pub names_are : names_in types ≡ declared_names names body
  pub definitions_are : (name : List ℕ) → type_named types name ≡ declared_type names body name

-- ---- Under names, for clauses and proofs

abbrev pub type_offer : Mode → List ℕ → Definition → TypeOffer
type_offer mode name definition = plain_offer mode name (λ _. Some definition)

abbrev pub type_offers : List (List ℕ) → Body → List TypeOffer
type_offers names body = offers_of bytes_eq (type_rules names) no_moves body

abbrev pub written_name : Option (Name × List Field) → List (List ℕ)
written_name t = option_map_or (λ t. t.0.bytes ∷ []) t []
