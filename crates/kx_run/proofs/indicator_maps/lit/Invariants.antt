use Rattle.std.proofs.Common.{◌≡◌, ◌^◌, ◌-◌, ◌<◌, ◌≤◌, length, map, drop}
use Rattle.kx_tables.specs.Keymap.{indicator_map_of}
use Rattle.kx_run.specs.Replies.{told, lit_mask}
use Rattle.kx_run.proofs.indicator_maps.lit.Given as goal

abbrev pub invariant-loop-place : goal.invariant-loop-place
invariant-loop-place g l = record {
  within : l.place ≤ length (g.T.Rows.content l.tables).indicators;
  value : l.lit ≡ lit_mask l.groups (told l.state) (map indicator_map_of (drop l.place (g.T.Rows.content l.tables).indicators));
  small : l.lit < 2 ^ (length (g.T.Rows.content l.tables).indicators - l.place);
}

abbrev pub decreases-loop-place : goal.decreases-loop-place
decreases-loop-place g l = l.place
