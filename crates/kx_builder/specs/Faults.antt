-- Why a push is refused: only where there is no memory, a number doesn't fit, or there is no place for what is pushed.
use Rattle.kx_builder.specs.declared.fault.BuildFault.{BuildFault}
use Rattle.kx_builder.specs.declared.fault.BuildFault.TheVariants.{Memory, TooMany, Misplaced}

-- the fault tells that a number doesn't fit, or that there is no place
abbrev pub IsCause : BuildFault → Type 0 → Type 0 → Type 0
IsCause Memory fits has_place = Unit {0}
IsCause TooMany fits has_place = fits → ⊥
IsCause Misplaced fits has_place = has_place → ⊥
