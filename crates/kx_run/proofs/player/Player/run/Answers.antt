use Rattle.std.proofs.Common.{◌≡◌, ◌+◌, ◌++◌, ◌∷◌, [], ◌∙◌, sym, ap, subst, map, take, get_or, arith}
use Rattle.std.proofs.lemmas.List.{take_more, take_all, map-append}
use Rattle.kx_tables.specs.Keymap.{keymap_of}
use Rattle.kx_run.specs.declared.direction.Direction.TheVariants.{Down}
use Rattle.kx_run.specs.declared.direction.Event.{Event}
use Rattle.kx_run.specs.Laws.{IsLetGo}
use Rattle.kx_run.specs.Player.{Played}
use Rattle.kx_run.specs.Replies.{Answer, answer, answered, run, world_after}
use Rattle.kx_run.specs.World.{World, step}
use Rattle.kx_run.proofs.Runs.{world_after-push, run-push, run_same, let_go_after}
use Rattle.kx_run.proofs.player.Player.run.Goals as goal

abbrev any_event : Event
any_event = record { code = 0; direction = Down }

-- a player after one more event
abbrev after_event : Event → Played → Played
after_event event player = record player { world = step (keymap_of player.content) player.world event.code event.direction }

abbrev answer_of : Event → Played → Answer
answer_of event player = answer (keymap_of player.content) player.world event.code event.direction

pub loop-event-preserved : goal.loop-event-preserved
loop-event-preserved g c =
    let player = c.args.self.now in
    let keymap = keymap_of player.content in
    let events = c.args.events.now in
    let index = c.loop-event.event-index in
    let event = get_or events index any_event in
    let more = take_more events index any_event c.loop-event-test.true in
    let world : world_after keymap player.world (take (index + 1) events) ≡ step keymap (world_after keymap player.world (take index events)) event.code event.direction =
    ap (world_after keymap player.world) more ∙ world_after-push keymap player.world (take index events) event in
    record {
      world =
          c.event.ensures.world
          ∙ ap (after_event event) c.loop-event.invariant.world
          ∙ ap (λ (w : World). record player { world = w }) (sym world);
      replies =
          ap (map answered) c.push_reserved.ensures.items
          ∙ map-append answered c.loop-event.replies.items (c.event.result ∷ [])
          ∙ ap (λ before. before ++ answered c.event.result ∷ []) c.loop-event.invariant.replies
          ∙ ap (λ one. run keymap player.world (take index events) ++ one ∷ []) (c.event.ensures.reply ∙ ap (answer_of event) c.loop-event.invariant.world)
          ∙ sym (run-push keymap player.world (take index events) event)
          ∙ ap (run keymap player.world) (sym more);
      len = omega (arith, c.push_reserved.ensures.len, c.loop-event.invariant.len);
      room = omega (arith, c.push_reserved.ensures.capacity, c.loop-event.invariant.room);
    }

pub returns-clause-released : goal.returns-clause-released
returns-clause-released g c = λ empty releases.
    let player = c.args.self.now in
    let keymap = keymap_of player.content in
    let events = c.args.events.now in
    let all = take_all c.loop-event.event-index events c.loop-event-test.false in
    let world = ap (λ (p : Played). p.world) c.loop-event.invariant.world ∙ ap (world_after keymap player.world) all in
    subst IsLetGo (sym world) (let_go_after keymap player.world events empty releases)

pub returns-clause-agrees : goal.returns-clause-agrees
returns-clause-agrees g c = λ keymap agree.
    let player = c.args.self.now in
    let events = c.args.events.now in
    let all = take_all c.loop-event.event-index events c.loop-event-test.false in
    c.loop-event.invariant.replies
    ∙ ap (run (keymap_of player.content) player.world) all
    ∙ run_same (keymap_of player.content) keymap agree player.world events
