use Rattle.std.proofs.Common.{◌≡◌, ◌+◌, List, length, map}
use Rattle.std.specs.Option.{option_copied}
use Rattle.kx_include.specs.Held.{AreSketches}
use Rattle.kx_include.specs.Library.{Text}
use Rattle.kx_include.proofs.TextLists.{AreRead}
use Rattle.kx_include.proofs.sources.Library.outlined.Given as goal

abbrev pub invariant-files : goal.invariant-files
invariant-files l = record {
  wholes : List Text;
  read : AreRead l.place l.fn.tree l.files wholes;
  sketches : AreSketches l.texts.items (map option_copied l.outlines.items) wholes;
  many : length l.texts.items ≡ l.place + 1;
}
