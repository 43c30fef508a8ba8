-- What an upgrade does: the version 2 image of the same content is put, or the bytes are no image, or the writer failed.
use Rattle.std.specs.Prelude.{ℕ, List, ◌≡◌, ◌≢◌, Option, Result, Ok, Err}
use Rattle.std.specs.Io.KnownBytes.{Appends}
use Rattle.ks_core.specs.Device.{Begins}
use Rattle.kx_tables.specs.Content.{Content}
use Rattle.kx_image.specs.Image.{IsImage, HasImageFault, image}
use Rattle.kx_image.specs.declared.header.ImageVersion.TheVariants.{Two}
use Rattle.kx_image.specs.declared.upgrading.UpgradeFault.{UpgradeFault}
use Rattle.kx_image.specs.declared.upgrading.UpgradeFault.TheVariants as faults

module _ {D : Type 0} (written : D → Option (List ℕ)) (failures : D → ℕ) where
  -- the bytes are the image of a content, whose image of version 2 was put
  pub record Done (s : List ℕ) (d e : D) : Type 0 where
    pub content : Content
    pub was : IsImage content s
    pub put : Appends (written d) (written e) (image Two content)
    pub counted : failures e ≡ failures d

  -- the bytes are the image of a content, and the writer failed after a beginning of its image of version 2
  pub record Broke (s : List ℕ) (d e : D) : Type 0 where
    pub content : Content
    pub was : IsImage content s
    pub begun : Begins (written d) (written e) (image Two content)
    pub counted : failures e ≢ failures d

  abbrev pub Upgrades : {A : Type 0} → List ℕ → D → D → Result A UpgradeFault → Type 0
  Upgrades s d e (Ok x) = Done s d e
  Upgrades s d e (Err (faults.Image f)) = HasImageFault s f × (e ≡ d)
  Upgrades s d e (Err faults.Write) = Broke s d e
