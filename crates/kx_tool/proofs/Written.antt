-- Tables that mean what a source says are what it is compiled to, and so are those of an image that is written of it.
use Rattle.std.proofs.Common.{ℕ, List, ap, subst}
use Rattle.ks_core.specs.Table.{KeysymTable}
use Rattle.kx_image.proofs.Refused.{one_content}
use Rattle.kx_image.specs.Image.{IsImage}
use Rattle.kx_include.specs.Source.{Handed}
use Rattle.kx_run.specs.Replies.{run}
use Rattle.kx_source.specs.Source.{Means}
use Rattle.kx_tables.specs.Content.{Content}
use Rattle.kx_tables.specs.Keymap.{keymap_of}
use Rattle.kx_tool.specs.Compiled.{IsCompiled, IsWritten}

pub compiled_by : {source : List ℕ} {files : Handed} {names : KeysymTable} {content : Content} → Means source files names content → IsCompiled source files names (keymap_of content)
compiled_by means = record {
  library = means.library;
  read = means.read;
  whole = means.whole;
  faultless = means.faultless;
  runs = λ world events. ap (λ keymap. run keymap world events) means.keymap;
}

-- the tables that are found are those that were written, since the bytes are the image of one content
pub found_is_compiled : {source : List ℕ} {files : Handed} {names : KeysymTable} {content : Content} {bytes : List ℕ} → IsWritten source files names content bytes → (found : Content) → IsImage found bytes → IsCompiled source files names (keymap_of found)
found_is_compiled {source} {files} {names} {content} {bytes} image found is = subst (λ opened. IsCompiled source files names (keymap_of opened)) (one_content bytes content found image.image is) (compiled_by image.means)
