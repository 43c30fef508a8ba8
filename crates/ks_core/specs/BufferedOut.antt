-- What a buffered device has gathered, and what a piece of text written to it does to it and to its device.
use Rattle.std.specs.Prelude.{◌≡◌, ◌≢◌, ℕ, Bool, true, false, List, [], ◌++◌, Option, Result, OnOk, OnErr}
use Rattle.std.specs.Io.KnownBytes.{Appends}
use Rattle.ks_core.specs.Device.{Begins}

-- the bytes that wait to be put, and whether the device failed
pub record Gathered : Type 0 where
  pub waiting : List ℕ
  pub failed : Bool

abbrev pub nothing_gathered : Gathered
nothing_gathered = record { waiting = []; failed = false }

-- a device and the bytes that wait for it together grew by the text
pub record Gathers (old : Option (List ℕ)) (waited : List ℕ) (new : Option (List ℕ)) (waits text : List ℕ) : Type 0 where
  pub sent : List ℕ
  pub put : Appends old new sent
  pub joined : waited ++ text ≡ sent ++ waits

-- `written` and `failures` read the bytes that a device holds, where they are known, and its count of failures
module _ {D : Type 0} (written : D → Option (List ℕ)) (failures : D → ℕ) where
  -- The text was written to the buffer p over the device d, which leaves them as q and e: all of it is put or waits, in order; or the
  -- device failed, and a beginning of what waited and the text was put. Once the device failed nothing changes any more.
  pub record Writes (d : D) (p : Gathered) (e : D) (q : Gathered) (text : List ℕ) : Type 0 where
    pub still : p.failed ≡ true → (q ≡ p) × (e ≡ d)
    pub gathers : q.failed ≡ false → (p.failed ≡ false) × (failures e ≡ failures d) × Gathers (written d) p.waiting (written e) q.waiting text
    pub begins : p.failed ≡ false → q.failed ≡ true → (failures e ≢ failures d) × Begins (written d) (written e) (p.waiting ++ text)

  -- the buffer p over the device d is done with, which leaves the device as e: what waited is put, or the device failed, now or before
  pub record Finishes {A E : Type 0} (d : D) (p : Gathered) (e : D) (r : Result A E) : Type 0 where
    pub all : OnOk r ((p.failed ≡ false) × (failures e ≡ failures d) × Appends (written d) (written e) p.waiting)
    pub still : OnErr r (p.failed ≡ true → e ≡ d)
    pub begun : OnErr r (p.failed ≡ false → (failures e ≢ failures d) × Begins (written d) (written e) p.waiting)
