use Rattle.std.proofs.Common.{◌∙◌, sym, refl, arith}
use Rattle.std.proofs.lemmas.Option.{slice_get_read}
use Rattle.kx_include.proofs.Knowing.{same_place}
use Rattle.kx_include.proofs.expanding.known_map.Goals as goal

pub returns-then-map-room : goal.returns-then-map-room
returns-then-map-room c = record {
  map = c.index-maps-number.result;
  found = slice_get_read c.args.maps.now _ c.maps.number c.index-maps-number.result refl c.maps-test.true c.index-maps-number.is;
  there = same_place c.index-maps-number.result.place c.args.place (sym c.eq.ensures ∙ c.if-eq.true);
  depth = refl;
  count = refl;
  within = omega arith;
  few = omega arith;
}
