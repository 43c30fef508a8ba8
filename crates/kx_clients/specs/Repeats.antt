-- Whether a key repeats, as libxkbcommon has it.
use Rattle.std.specs.Prelude.{ℕ, Bool, true, false, ◌&&◌, List, [], ◌∷◌, Option, None, Some, is_some, if◌then◌else◌}
use Rattle.kx_compat.specs.Interpretations.{Interpretation}
use Rattle.kx_compat.specs.declared.interpretation_match.InterpretationMatch.{InterpretationMatch}
use Rattle.kx_mods.specs.declared.mods.Mods.{Mods}
use Rattle.kx_keys.specs.Given.{KeyGiven}
use Rattle.kx_keys.specs.GroupTypes.{has_action, level_keysyms}
use Rattle.kx_keys.specs.Vmodmap.{interpretation_at}
use Rattle.kx_clients.specs.declared.key_repeat.KeyRepeat.{KeyRepeat}
use Rattle.kx_clients.specs.declared.key_repeat.KeyRepeat.TheVariants.{Yes, No, Default}

-- what a key says, unless it leaves it to what is so without its word
abbrev pub said_or : Option KeyRepeat → Bool → Bool
said_or (Some Yes) unsaid = true
said_or (Some No) unsaid = false
said_or (Some Default) unsaid = unsaid
said_or None unsaid = unsaid

-- whether the keys of an interpretation repeat; the keysyms that none is for do
abbrev pub interpreted : (InterpretationMatch → Bool) → Option Interpretation → Bool
interpreted repeats None = true
interpreted repeats (Some i) = repeats i.interpretation_match

-- a level without keysyms doesn't repeat
abbrev pub level_repeats : (InterpretationMatch → Bool) → List ℕ → Option Interpretation → Bool
level_repeats repeats [] i = false
level_repeats repeats (keysym ∷ more) i = interpreted repeats i

module _ (repeats : InterpretationMatch → Bool) (interpretations : List Interpretation) where
  -- a key with an action of its own doesn't repeat, another does as the first level of its first group
  abbrev pub unsaid_repeats : Mods → KeyGiven → Bool
  unsaid_repeats modmap key = if has_action key then false else level_repeats repeats (level_keysyms key 0 0) (interpretation_at interpretations modmap key 0 0)

  -- a key with a name, as it says, else as it does without its word; `modmap` are the modifiers that it is mapped to
  abbrev pub key_repeats : Option (List ℕ) → Option KeyRepeat → Mods → KeyGiven → Bool
  key_repeats name said modmap key = is_some name && said_or said (unsaid_repeats modmap key)
