-- The key types that a source declares, with the real modifiers that their entries choose among.
use Rattle.std.specs.Prelude.{ℕ, List, [], ◌∷◌, Option}
use Rattle.std.specs.List.{flat_map}
use Rattle.std.specs.Option.{option_map_or}
use Rattle.kx_builder.specs.Resolved.{ResolvedType}
use Rattle.kx_include.specs.Expansion.{Body}
use Rattle.kx_keys.specs.Keys.{type_with}
use Rattle.kx_keys.specs.Selecting.{RealSet}
use Rattle.kx_types.specs.KeyTypes.{Definition}
use Rattle.kx_types.specs.Types.{declared_names, declared_type}

-- `real` are the real modifiers that a set of modifiers stands for
module _ (real : ℕ → RealSet) where
  -- the type of a name, where it has a definition
  abbrev pub defined_type : (List ℕ → Option Definition) → List ℕ → List ResolvedType
  defined_type definition name = option_map_or (λ t. type_with real name t ∷ []) (definition name) []

  -- in the order in which a types body first names them
  abbrev pub declared_types : List (List ℕ) → Body → List ResolvedType
  declared_types modifiers body = flat_map (defined_type (declared_type modifiers body)) (declared_names modifiers body)
