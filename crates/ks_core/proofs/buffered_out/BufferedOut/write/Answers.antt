use Rattle.std.proofs.Common.{[]}
use Rattle.ks_core.proofs.BufferedOutLemmas.{writes_nothing, writes_then, writes_gathered}
use Rattle.ks_core.proofs.buffered_out.BufferedOut.write.Goals as goal
use Rattle.ks_core.proofs.buffered_out.BufferedOut.write.Goals.{then-piece-room, else-piece-room}

pub returns-then-piece-room-2 : goal.returns-then-piece-room-2
returns-then-piece-room-2 g c =
    elim c.if-piece-room.branch [
      | then-piece-room w ↦ writes_then _ _ _ _ _ _ _ _ [] _ (rw (w.self-is, w.out-is) w.flush.ensures.told) c.send.ensures
      | else-piece-room w ↦ writes_then _ _ _ _ _ _ _ _ [] _ (rw (w.self-is, w.out-is) (writes_nothing _ _ _ _)) c.send.ensures
    ]

pub returns-else-piece-room-2 : goal.returns-else-piece-room-2
returns-else-piece-room-2 g c =
    let told = writes_gathered g.O.Out.written g.O.Out.failures c.if-piece-room.out _ _ c.args.piece.now c.gather.ensures.still c.gather.ensures.gathered in
    elim c.if-piece-room.branch [
      | then-piece-room w ↦ writes_then _ _ _ _ _ _ _ _ [] _ (rw (w.self-is, w.out-is) w.flush.ensures.told) told
      | else-piece-room w ↦ writes_then _ _ _ _ _ _ _ _ [] _ (rw (w.self-is, w.out-is) (writes_nothing _ _ _ _)) told
    ]
