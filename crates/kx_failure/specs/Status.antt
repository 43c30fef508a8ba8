-- What a task that ends early leaves: its failure, and its status.
use Rattle.std.specs.Prelude.{ℕ}
use Rattle.kx_lines.specs.declared.fault.SessionFault.{SessionFault}
use Rattle.kx_lines.specs.declared.fault.SessionFault.TheVariants.{Compile, Replay as Replayed}
use Rattle.kx_lines.specs.declared.fault.ReplayFault.{ReplayFault}
use Rattle.kx_lines.specs.declared.fault.ReplayFault.TheVariants.{Image as NoImage, Read, Write}
use Rattle.kx_failure.specs.declared.file_kind.FileKind.{FileKind}
use Rattle.kx_failure.specs.declared.failure.Failure.{Failure}
use Rattle.kx_failure.specs.declared.failure.Failure.TheVariants.{
  File,
  Found,
  Image,
  Missing,
  Replay,
  Source,
  Write as Unwritten,
}

-- 3 where a file, the input or the output can't be used, and 1 where what is read is refused
abbrev pub status_of : Failure → ℕ
status_of (File path kind) = 3
status_of (Found path kind) = 3
status_of (Missing path) = 3
status_of Unwritten = 3
status_of (Replay Read) = 3
status_of (Replay Write) = 3
status_of _ = 1

-- the failure of a session: that of its source, or of the answers to its lines
abbrev pub failure_of : SessionFault → Failure
failure_of (Compile fault) = Source fault
failure_of (Replayed fault) = Replay fault

-- the failure of events: that what is to be an image is of another kind, or another
abbrev pub failure_of_events : ReplayFault → FileKind → Failure
failure_of_events (NoImage fault) kind = Image fault kind
failure_of_events fault kind = Replay fault
