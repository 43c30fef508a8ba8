use Rattle.std.proofs.Common.{[], refl, rules as lemmas}
use Rattle.kx_include.specs.Shared.{links_body}
use Rattle.kx_tree.specs.declared.tree.Mode.TheVariants.{Augment}
use Rattle.kx_merge.specs.Bodies.{gathered, offers_of}
use Rattle.kx_merge.proofs.Behind.{shows_none}
use Rattle.kx_merge.proofs.Joining.{picks_gathered}
use Rattle.kx_merge.proofs.gathering.merge_joined_keys.Goals as goal

pub returns-clause-again : goal.returns-clause-again
returns-clause-again g c = λ yes rules bodies are.
    let eq = g.R.Key.PartialEq.eq in
    let moves = g.R.Fields.moves in
    let up = c.in_ok-merge_links_keys.ensures.again (search lemmas) rules bodies are in
    record {
      picked = gathered eq Augment up.picked;
      picks = picks_gathered eq g.met.R.Key.Eq.laws g.met.R.Fields.same moves g.met.R.Fields.apart c.args.renewed.now (offers_of eq rules moves (links_body bodies c.args.links.now)) up.picked up.picks;
      shows = λ os before. c.in_ok-add_joined.ensures.shows up.picked (up.shows [] (shows_none g.R.Fields.form eq c.new-joined.result [] c.new-joined.ensures.empty refl)) os before;
    }
