-- What a push is refused for, where nothing but memory can be wanting.
use Rattle.std.specs.Prelude.{◌≡◌, refl}
use Rattle.kx_builder.specs.Faults.{IsCause}
use Rattle.kx_builder.specs.declared.fault.BuildFault.{BuildFault}
use Rattle.kx_builder.specs.declared.fault.BuildFault.TheVariants.{Memory, TooMany, Misplaced}

-- where all numbers fit and there is a place, there is no memory
pub only_memory : (e : BuildFault) (fits has_place : Type 0) → IsCause e fits has_place → fits → has_place → e ≡ Memory
only_memory Memory fits has_place cause holds placed = refl
only_memory TooMany fits has_place cause holds placed = absurd (cause holds)
only_memory Misplaced fits has_place cause holds placed = absurd (cause placed)
