-- What is resolved, with one more type, key, group or cell.
use Rattle.std.specs.Prelude.{List, [], ◌∷◌, ◌++◌}
use Rattle.kx_builder.specs.Resolved.{Resolved, ResolvedType, ResolvedKey, ResolvedGroup, ResolvedCell}

abbrev pub change_last : {X : Type 0} → (X → X) → List X → List X
change_last change [] = []
change_last change (x ∷ []) = change x ∷ []
change_last change (x ∷ y ∷ ys) = x ∷ change_last change (y ∷ ys)

abbrev pub with_type : Resolved → ResolvedType → Resolved
with_type r t = record r { types = r.types ++ t ∷ [] }

abbrev pub with_key : Resolved → ResolvedKey → Resolved
with_key r k = record r { keys = r.keys ++ k ∷ [] }

abbrev pub key_with_group : ResolvedGroup → ResolvedKey → ResolvedKey
key_with_group g k = record k { groups = k.groups ++ g ∷ [] }

abbrev pub group_with_cell : ResolvedCell → ResolvedGroup → ResolvedGroup
group_with_cell d g = record g { cells = g.cells ++ d ∷ [] }

abbrev pub key_with_cell : ResolvedCell → ResolvedKey → ResolvedKey
key_with_cell d k = record k { groups = change_last (group_with_cell d) k.groups }

-- the last key has one more group
abbrev pub with_group : Resolved → ResolvedGroup → Resolved
with_group r g = record r { keys = change_last (key_with_group g) r.keys }

-- the last group of the last key has one more cell
abbrev pub with_cell : Resolved → ResolvedCell → Resolved
with_cell r d = record r { keys = change_last (key_with_cell d) r.keys }

-- the groups of the last key, none where there is no key
abbrev pub last_groups : List ResolvedKey → List ResolvedGroup
last_groups [] = []
last_groups (k ∷ []) = k.groups
last_groups (k ∷ l ∷ ks) = last_groups (l ∷ ks)
