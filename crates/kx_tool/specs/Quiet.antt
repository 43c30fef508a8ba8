-- What a session that ends with a fault left of its writer, and what the fault says of its source, whatever its reader gave.
use Rattle.std.specs.Prelude.{◌≡◌, ◌≢◌, ◌≤◌, ◌⊎◌, ℕ, List, length}
use Rattle.ks_core.specs.Table.{KeysymTable}
use Rattle.kx_include.specs.Source.{Handed}
use Rattle.kx_lex.specs.declared.fault.Fault.TheVariants.{Memory}
use Rattle.kx_source.specs.Source.{HasFault}
use Rattle.kx_lines.specs.declared.fault.ReplayFault.TheVariants.{Write}
use Rattle.kx_lines.specs.declared.fault.SessionFault.{SessionFault}
use Rattle.kx_lines.specs.declared.fault.SessionFault.TheVariants.{Compile, Replay}
use Rattle.kx_lines.specs.declared.input.TheConstants.{MOST_BYTES}

-- where the source is refused nothing was written
abbrev pub KeepsQuiet : {D : Type 0} → D → D → SessionFault → Type 0
KeepsQuiet old new (Compile fault) = new ≡ old
KeepsQuiet old new (Replay fault) = Unit {0}

-- a source that is refused is one of no more bytes than a reader may give and has the fault, or memory was refused
abbrev pub RefusesSource : Handed → KeysymTable → SessionFault → Type 0
RefusesSource files names (Compile fault) = (fault ≡ Memory) ⊎ ((source : List ℕ) × (length source ≤ MOST_BYTES) × HasFault source files names fault)
RefusesSource files names (Replay fault) = Unit {0}

-- the writer's count of failures changed where its failure is the fault, and else is as before
abbrev pub BlamesWriter : ℕ → ℕ → SessionFault → Type 0
BlamesWriter old new (Replay Write) = new ≢ old
BlamesWriter old new _ = new ≡ old
