use Rattle.std.proofs.Common.{◌≡◌, ◌≤◌, map, take, length, vec_len, vec_capacity}
use Rattle.kx_tables.specs.Keymap.{keymap_of}
use Rattle.kx_run.specs.Replies.{answered, run, world_after}
use Rattle.kx_run.proofs.player.Player.run.Given as goal

abbrev pub invariant-loop-event : goal.invariant-loop-event
invariant-loop-event g l = record {
  world : l.self ≡ record l.initial.self { world = world_after (keymap_of l.initial.self.content) l.initial.self.world (take l.event-index l.events) };
  replies : map answered l.replies.items ≡ run (keymap_of l.initial.self.content) l.initial.self.world (take l.event-index l.events);
  len : vec_len l.replies ≡ l.event-index;
  room : length l.events ≤ vec_capacity l.replies;
}
