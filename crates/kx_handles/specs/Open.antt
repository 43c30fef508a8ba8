-- Why bytes aren't opened.
use Rattle.std.specs.Prelude.{ℕ, List}
use Rattle.kx_image.specs.Image.{HasImageFault}
use Rattle.kx_handles.specs.declared.tables.OpenFault.{OpenFault}
use Rattle.kx_handles.specs.declared.tables.OpenFault.TheVariants.{Memory, Image}

abbrev pub IsRefused : List ℕ → OpenFault → Type 0
IsRefused s Memory = Unit {0}
IsRefused s (Image fault) = HasImageFault s fault
