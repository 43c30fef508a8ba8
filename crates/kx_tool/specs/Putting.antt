-- What becomes of the text that waits while lines are read.
use Rattle.std.specs.Prelude.{◌≡◌, ◌⊎◌, ℕ, false, List, Option, Result, Ok, Err}
use Rattle.ks_core.specs.BufferedOut.{Finishes, Gathered, nothing_gathered}
use Rattle.kx_lines.specs.EventLines.{KeepsLine, Kept, is_well_formed}
use Rattle.kx_lines.specs.declared.fault.ReplayFault.{ReplayFault}
use Rattle.kx_lines.specs.declared.fault.ReplayFault.TheVariants as faults

module _ {D : Type 0} (written : D → Option (List ℕ)) (failures : D → ℕ) where
  -- what waited in the buffer p is put to the device d, which is left as e
  abbrev pub IsPut : D → Gathered → D → Type 0
  IsPut d p e = let put : Result (Unit {0}) ReplayFault = Ok tt in Finishes written failures d p e put

  -- the device failed, now or before
  abbrev pub IsBroken : D → Gathered → D → Type 0
  IsBroken d p e = let broke : Result (Unit {0}) ReplayFault = Err faults.Write in Finishes written failures d p e broke

  -- what waited is put and a new buffer begins, or it waits on
  abbrev pub PutsOrWaits : D → Gathered → D → Gathered → Type 0
  PutsOrWaits d p e q = (IsPut d p e × (q ≡ nothing_gathered)) ⊎ ((e ≡ d) × (q ≡ p))

  -- why no next byte came: the writer failed, or the reader did once all that waited was put
  abbrev pub FailsAt : Type 0 → D → Gathered → D → ReplayFault → Type 0
  FailsAt reading d p e faults.Write = IsBroken d p e
  FailsAt reading d p e faults.Read = reading × IsPut d p e
  FailsAt reading d p e _ = ⊥

  -- why lines are answered no further: the line is neither empty nor an event and all that waited was put, or the writer failed
  abbrev pub StopsAt : Kept → ℕ → D → Gathered → D → ReplayFault → Type 0
  StopsAt line number d p e faults.Write = IsBroken d p e
  StopsAt line number d p e (faults.Line stop) = (stop ≡ number) × ((text : List ℕ) → KeepsLine line text → is_well_formed text ≡ false) × IsPut d p e
  StopsAt line number d p e _ = ⊥
