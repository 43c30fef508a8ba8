use Rattle.std.proofs.Common.{◌≡◌, map, subst, sym}
use Rattle.kx_image.specs.Image.{IsImage}
use Rattle.kx_run.specs.Player.{Played}
use Rattle.kx_run.specs.Replies.{answered, run}
use Rattle.kx_tables.specs.Keymap.{keymap_of}
use Rattle.kx_headline.proofs.playing.play.Goals as goal

pub unreachable-requires : goal.unreachable-requires
unreachable-requires c =
    let made = c.in_ok-image.ensures.image in
    c.in-Err.ensures.only made.0 (subst (λ bytes. IsImage made.0 bytes) (sym c.as_slice.ensures.value) made.1.image)

pub returns-clause-replies : goal.returns-clause-replies
returns-clause-replies c = record {
  keymap = keymap_of c.in-Ok.view;
  compiled = c.in_ok-image.ensures.answers c.in-Ok.view (subst (λ bytes. IsImage c.in-Ok.view bytes) c.as_slice.ensures.value c.in-Ok.ensures.found);
  answers_are = subst (λ (played : Played). map answered c.in_ok-replies.replies.items ≡ run (keymap_of played.content) played.world c.args.events.now) c.in_ok-player.ensures c.in_ok-replies.ensures.replies;
}
