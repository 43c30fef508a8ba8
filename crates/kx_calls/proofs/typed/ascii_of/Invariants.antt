use Rattle.std.proofs.Common.{◌≡◌, ◌-◌}
use Rattle.kx_tables.specs.Keymap.{keymap_of}
use Rattle.kx_calls.specs.Typed.{ascii_from}
use Rattle.kx_calls.proofs.typed.ascii_of.Given as goal

abbrev pub invariant-loop-group : goal.invariant-loop-group
invariant-loop-group l = let keymap = keymap_of l.fn.follower.content in record {
  same : l.follower ≡ l.fn.follower;
  left : ascii_from keymap l.fn.follower.status l.fn.code 0 keymap.groups ≡ ascii_from keymap l.fn.follower.status l.fn.code l.group (keymap.groups - l.group);
}
