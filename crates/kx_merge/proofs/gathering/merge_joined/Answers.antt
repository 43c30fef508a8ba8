use Rattle.std.proofs.Common.{[], refl}
use Rattle.kx_include.specs.Shared.{links_body}
use Rattle.kx_merge.specs.Bodies.{offers_of}
use Rattle.kx_merge.proofs.Behind.{adds_all, shows_none}
use Rattle.kx_merge.proofs.gathering.merge_joined.Goals as goal

pub returns : goal.returns
returns g c = λ rules bodies are.
    let eq = g.R.Key.PartialEq.eq in
    let joined = c.in_ok-merge_links.ensures rules bodies are in
    adds_all c.add_joined.result
    (λ os shows. c.add_joined.ensures.shows (offers_of eq rules g.R.Fields.moves (links_body bodies c.args.included.links.now)) (joined.shows [] (shows_none g.R.Fields.form eq c.nothing_merged-joined.result.records [] c.nothing_merged-joined.ensures refl)) os shows)
    c.add_joined.ensures.err joined.faultless
