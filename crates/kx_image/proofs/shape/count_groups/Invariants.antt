use Rattle.std.proofs.Common.{◌≡◌, ◌+◌, ◌-◌, ◌*◌, ◌≤◌}
use Rattle.kx_image.specs.Shape.{groups_from}
use Rattle.kx_image.proofs.shape.count_groups.Given as goal

abbrev pub invariant-loop-index : goal.invariant-loop-index
invariant-loop-index l = record {
  small : l.groups ≤ 255 * l.index;
  total : l.groups + groups_from (l.keys - l.index) (l.start + 16 * l.index) l.bytes ≡ groups_from l.keys l.start l.bytes;
}
