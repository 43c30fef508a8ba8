-- The image of a printed text is the image of the tables that were printed, and nothing but lack of memory refuses it.
use Rattle.std.proofs.Common.{ℕ, List, ap, ◌∙◌, subst}
use Rattle.ks_core.specs.Table.{KeysymTable}
use Rattle.kx_image.specs.Image.{image}
use Rattle.kx_image.specs.declared.header.ImageVersion.TheVariants.{Two}
use Rattle.kx_include.specs.Source.{Handed}
use Rattle.kx_print.specs.Printed.{printed}
use Rattle.kx_source.specs.Source.{Means}
use Rattle.kx_tables.specs.Content.{Content}
use Rattle.kx_tool.specs.Compiled.{IsWritten}
use Rattle.kx_tool.specs.PrintedSource.{CompilesBack, IsImageAgain}

module _ (names : KeysymTable) (source : List ℕ) (files : Handed) where
  pub image_again : CompilesBack names → (d : Content) (bytes : List ℕ) → IsWritten source files names d bytes → IsImageAgain source files bytes
  image_again law d bytes written = record {
    image_is = λ c is. written.version_2 ∙ ap (image Two) (law c d is.can (subst (λ fs. Means (printed c) fs names d) is.alone (subst (λ t. Means t files names d) is.text written.means)));
  }
