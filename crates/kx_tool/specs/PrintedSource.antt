-- Sources that are the printed text of tables.
use Rattle.std.specs.Prelude.{◌≡◌, ℕ, List, []}
use Rattle.ks_core.specs.Table.{KeysymTable}
use Rattle.kx_image.specs.Image.{image}
use Rattle.kx_image.specs.declared.header.ImageVersion.TheVariants.{Two}
use Rattle.kx_include.specs.Source.{Handed}
use Rattle.kx_lex.specs.declared.fault.Fault.{Fault}
use Rattle.kx_lex.specs.declared.fault.Fault.TheVariants.{Memory}
use Rattle.kx_print.specs.Printed.{printed}
use Rattle.kx_roundtrip.specs.Again.{CanBePrinted}
use Rattle.kx_source.specs.Source.{HasFault, Means}
use Rattle.kx_tables.specs.Content.{Content}

-- the text is printed of tables that can be, and no files are handed in
pub record IsPrintedSource (c : Content) (source : List ℕ) (files : Handed) : Type 0 where
  pub can : CanBePrinted c
  pub text : source ≡ printed c
  pub alone : files ≡ []

-- where the source is such a text, the bytes are the version 2 image of the tables that were printed
pub record IsImageAgain (source : List ℕ) (files : Handed) (bytes : List ℕ) : Type 0 where
  pub image_is : (c : Content) → IsPrintedSource c source files → bytes ≡ image Two c

-- where the source is such a text, it is refused for lack of memory alone
pub record IsMemoryAlone (source : List ℕ) (files : Handed) (fault : Fault) : Type 0 where
  pub memory_is : (c : Content) → IsPrintedSource c source files → fault ≡ Memory

-- under these names a printed text means the tables that were printed, and no others; and it has no fault
abbrev pub CompilesBack : KeysymTable → Type 0
CompilesBack names = (c : Content) (d : Content) → CanBePrinted c → Means (printed c) [] names d → d ≡ c

abbrev pub HasNoFault : KeysymTable → Type 0
HasNoFault names = (c : Content) (e : Fault) → CanBePrinted c → HasFault (printed c) [] names e → ⊥
