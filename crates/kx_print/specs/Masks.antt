-- Sets by the names of their members.
use Rattle.std.specs.Prelude.{ℕ, ◌%◌, ◌/◌, ◌==◌, List, [], ◌∷◌, ◌++◌, codes, if◌then◌else◌}
use Rattle.kx_mods.specs.Mods.{mask, mod_names}
use Rattle.kx_mods.specs.declared.mods.Mods.{Mods}
use Rattle.kx_tables.specs.States.{state_bits}
use Rattle.kx_tables.specs.declared.rows.States.{States}
use Rattle.kx_print.specs.Phrases.{joined}
use Rattle.kx_print.specs.declared.sets.Names.{Names}
use Rattle.kx_print.specs.declared.sets.Names.TheVariants as names

-- the states of modifiers and groups, from bit 0 on
unfoldable pub state_names : List (List ℕ)
state_names = codes "base" ∷ codes "latched" ∷ codes "locked" ∷ codes "effective" ∷ []

abbrev pub names_of : Names → List (List ℕ)
names_of names.Modifiers = mod_names
names_of names.States = state_names

-- the names whose bits are set, the first name's being bit 0
abbrev pub chosen : ℕ → List (List ℕ) → List (List ℕ)
chosen bits [] = []
chosen bits (name ∷ names) = (if bits % 2 == 1 then name ∷ [] else []) ++ chosen (bits / 2) names

-- the members joined by `+`, or `none`
abbrev pub set_text : List (List ℕ) → ℕ → List ℕ
set_text names bits = if bits == 0 then codes "none" else joined (codes "+") (chosen bits names)

abbrev pub mods_text : Mods → List ℕ
mods_text mods = set_text mod_names (mask mods)

abbrev pub states_text : States → List ℕ
states_text states = set_text state_names (state_bits states)
