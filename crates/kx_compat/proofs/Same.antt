-- Triggers are told apart as their definition says.
use Rattle.std.proofs.Common.{◌≡◌, refl}
use Rattle.kx_compat.specs.SameMatch.{same_match}
use Rattle.kx_compat.specs.contracts.interpretation_match.InterpretationMatchPartialEq.TheImpl.{ghosts}

pub told_as_said : ghosts.eq ≡ same_match
told_as_said = refl
