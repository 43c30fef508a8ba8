-- What a call answers of faults: those of a text that it reads, as a list.
use Rattle.std.specs.Prelude.{◌≡◌, ◌∷◌, [], List, Contains, IfErr, OnOk, Result}
use Rattle.kx_lex.specs.declared.fault.Fault.{Fault}
use Rattle.kx_lex.specs.declared.fault.Fault.TheVariants.{Memory}

-- Ok where there is no fault, else one of them
abbrev pub Reports : {X : Type 0} → Result X Fault → List Fault → Type 0
Reports result faults = OnOk result (faults ≡ []) × IfErr result (λ e. Contains faults e)

-- the same, where it may run out of memory first
abbrev pub ReportsOrRunsOut : {X : Type 0} → Result X Fault → List Fault → Type 0
ReportsOrRunsOut result faults = OnOk result (faults ≡ []) × IfErr result (λ e. Contains (Memory ∷ faults) e)
