-- What interpretations are told apart by.
use Rattle.std.specs.Prelude.{Bool}
use Rattle.kx_compat.specs.declared.interpretation_match.InterpretationMatch.{InterpretationMatch}
use Rattle.kx_compat.specs.contracts.interpretation_match.InterpretationMatchPartialEq.TheImpl.{ghosts}

-- interpretations are told apart by keysym, condition and modifiers, however these are written: by the equality that derives
abbrev pub same_match : InterpretationMatch → InterpretationMatch → Bool
same_match = ghosts.eq
