-- Keys with the types of their groups, made out.
use Rattle.std.specs.Prelude.{ℕ, List, length}
use Rattle.kx_builder.specs.Resolved.{ResolvedGroup, ResolvedKey}
use Rattle.kx_keys.specs.Bounds.{CellsAreValid}
use Rattle.kx_keys.specs.GroupTypes.{content_group}
use Rattle.kx_keys.specs.InterpretedKey.{InterpretedKey, actions_of, given_to}
use Rattle.kx_resolve.specs.TypesInUse.{TypeInUse, TypedAreValid, typed_group, typed_groups}

module _ (key : InterpretedKey) where
  abbrev pub group_typed : ℕ → TypeInUse → ResolvedGroup
  group_typed = typed_group (actions_of key) (given_to key)

  -- of so many groups
  abbrev pub groups_typed : List TypeInUse → ℕ → List ResolvedGroup
  groups_typed = typed_groups (actions_of key) (given_to key)

  abbrev pub key_typed : ℕ → List ℕ → List TypeInUse → ResolvedKey
  key_typed code name group_types = record {
    code = code;
    name = name;
    modmap = key.modmap;
    range = (given_to key).range;
    groups = groups_typed group_types (length group_types);
  }

  abbrev pub GroupIsValid : ℕ → TypeInUse → Type 0
  GroupIsValid group group_type = CellsAreValid (actions_of key) (given_to key) (content_group (given_to key) group) group_type.levels

  abbrev pub GroupsAreValid : List TypeInUse → ℕ → Type 0
  GroupsAreValid = TypedAreValid (actions_of key) (given_to key)
