use Rattle.kx_tables.proofs.Fits.{sound_fits}
use Rattle.kx_tables.specs.RawTables.{content_of}
use Rattle.kx_tables.proofs.owned.Owned.from_sound.Goals as goal

pub invariant_of-rows : goal.invariant_of-rows
invariant_of-rows c = sound_fits (content_of c.args.parts) c.requires
