-- What records by target hold.
use Rattle.std.specs.Prelude.{ℕ, List, [], ◌∷◌, unwrap_or}
use Rattle.indexmap.specs.IndexMap.{IndexMap, get}
use Rattle.kx_merge.specs.Plain.{plain_form}
use Rattle.kx_merge.specs.Records.{cell_in}
use Rattle.kx_merge.specs.declared.plain.Plain.{Plain}
use Rattle.kx_modmaps.specs.Entries.{same_target}
use Rattle.kx_modmaps.specs.Maps.{assigned_cell}
use Rattle.kx_modmaps.specs.declared.record.Assigned.{Assigned}
use Rattle.kx_modmaps.specs.declared.record.Cell.TheVariants.{Only}
use Rattle.kx_modmaps.specs.declared.target.Target.{Target}
use Rattle.kx_modmaps.specs.declared.target.Target.TheVariants.{Key, Keysym}

module _ {S : Type 0} (records : IndexMap Target (Plain Assigned) S) where
  -- the mask of a keysym's modifier; none where they hold none
  abbrev pub only_recorded : Target → ℕ
  only_recorded target = unwrap_or (cell_in (plain_form assigned_cell) (get same_target records target) Only) 0

  abbrev pub keysym_recorded : Target → List (ℕ × ℕ)
  keysym_recorded (Key code) = []
  keysym_recorded (Keysym keysym) = (keysym, only_recorded (Keysym keysym)) ∷ []
