-- What a source is compiled to.
use Rattle.std.specs.Prelude.{◌≡◌, ℕ, List, []}
use Rattle.ks_core.specs.Table.{KeysymTable}
use Rattle.kx_image.specs.Image.{IsImage, image as image_of}
use Rattle.kx_image.specs.declared.header.ImageVersion.TheVariants.{Two}
use Rattle.kx_include.specs.IncludeFaults.{IsWhole}
use Rattle.kx_include.specs.Library.{Library}
use Rattle.kx_include.specs.Source.{Handed, IsRead}
use Rattle.kx_run.specs.Replies.{run}
use Rattle.kx_run.specs.World.{World}
use Rattle.kx_run.specs.declared.direction.Event.{Event}
use Rattle.kx_source.specs.Meaning.{keymap_in}
use Rattle.kx_source.specs.Source.{Means, statement_faults}
use Rattle.kx_tables.specs.Content.{Content}
use Rattle.kx_tables.specs.Keymap.{Keymap}

-- source and files are read, no include and no statement has a fault, and every run over the keymap is the run that the statements mean
pub record IsCompiled (source : List ℕ) (files : Handed) (names : KeysymTable) (keymap : Keymap) : Type 0 where
  pub library : Library
  pub read : IsRead source files library
  pub whole : IsWhole library
  pub faultless : statement_faults names library ≡ []
  pub runs : (world : World) (events : List Event) → run keymap world events ≡ run (keymap_in names library) world events

-- the bytes are the version 2 image of sound tables, and these hold what the source's statements resolve to
pub record IsWritten (source : List ℕ) (files : Handed) (names : KeysymTable) (content : Content) (bytes : List ℕ) : Type 0 where
  pub image : IsImage content bytes
  pub version_2 : bytes ≡ image_of Two content
  pub means : Means source files names content
