use Rattle.std.proofs.Common.{◌++◌, map, rules as lemmas, subst}
use Rattle.indexmap.specs.IndexMap.{get, keys}
use Rattle.kx_include.specs.Shared.{body_at}
use Rattle.kx_merge.specs.Bodies.{gather, moved, offers_of}
use Rattle.kx_merge.specs.Gatherings.{IsGathered}
use Rattle.kx_merge.specs.Offers.{names_of}
use Rattle.kx_merge.specs.Records.{Shows}
use Rattle.kx_merge.specs.Renewals.{held}
use Rattle.kx_merge.proofs.Behind.{gathered_at}
use Rattle.kx_merge.proofs.Picking.{picks_held}
use Rattle.kx_merge.proofs.gathering.merge_link_keys.Goals as goal

pub returns-clause-again : goal.returns-clause-again
returns-clause-again g c = λ yes rules bodies are.
    let form = g.R.Fields.form in
    let eq = g.R.Key.PartialEq.eq in
    let moves = g.R.Fields.moves in
    let link = c.args.link in
    let renewed = c.args.renewed.now in
    let inner = offers_of eq rules moves (body_at bodies link.map) in
    let ns = names_of eq inner in
    let found = subst (λ r. IsGathered form eq rules moves r (body_at bodies link.map)) c.in-Some-Ok.field-0-is (gathered_at form eq rules moves c.args.done.now bodies link.map c.in-Some-Ok.field-0.now are c.in-Some-Ok.ensures.lookup.3.0 c.in-Some-Ok.ensures.lookup.1) in
    let now = c.add_again.new.records in
    record {
      picked = moved moves link.group (map (gather eq link.mode inner) (held eq ns renewed));
      picks = picks_held eq g.met.R.Key.Eq.laws g.met.R.Fields.same moves g.met.R.Fields.apart inner link.mode link.group renewed ns (c.are_kept.ensures (search lemmas));
      shows = λ os before. subst (λ ks. Shows form eq (keys now) (get eq now) (os ++ moved moves link.group (map (gather eq link.mode inner) (held eq ks renewed)))) found.0.names_are (c.in_ok-add_again.ensures.shows inner found.0 os before);
    }
