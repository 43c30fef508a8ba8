use Rattle.std.proofs.Common.{◌≡◌, ◌<◌, true, map, Some, length}
use Rattle.std.specs.List.{slice_get}
use Rattle.kx_tree.specs.declared.tree.Section.{Section}
use Rattle.kx_include.specs.Held.{is_wanted}
use Rattle.kx_include.specs.Library.{sections_in}
use Rattle.kx_include.specs.declared.place.Place.{Place}
use Rattle.kx_include.proofs.reaching.Wanted.all.Given as goal

abbrev pub invariant-texts : goal.invariant-texts
invariant-texts l = record {
  many : length l.texts.items ≡ l.file;
  all : (place : Place) (s : Section) → place.file < l.file → slice_get (sections_in l.library place.file) place.section ≡ Some s → is_wanted (map (λ t. t.items) l.texts.items) place ≡ true;
}
