-- What is kept beside the bytes of an image.
use Rattle.std.specs.Prelude.{ℕ, List, ◌≡◌}
use Rattle.kx_tables.specs.Content.{greatest_groups}
use Rattle.kx_tables.specs.declared.tables.Counts.{Counts}
use Rattle.kx_image.specs.Image.{IsImage, content_in}
use Rattle.kx_image.specs.LayoutHolds.{LayoutHolds}
use Rattle.kx_image.specs.Starts.{IsShape}
use Rattle.kx_image.specs.declared.header.Header.{Header}
use Rattle.kx_image.specs.declared.shape.Starts.{Starts}

pub record Facts (s : List ℕ) (h : Header) (groups most : ℕ) : Type 0 where
  pub shape : IsShape s h groups
  pub image : IsImage (content_in s) s
  pub most_is : most ≡ greatest_groups (content_in s).keys

pub record IsKept (s : List ℕ) (counts : Counts) (starts : Starts) (most : ℕ) : Type 0 where
  pub layout : LayoutHolds s counts starts
  pub image : IsImage (content_in s) s
  pub most_is : most ≡ greatest_groups (content_in s).keys
