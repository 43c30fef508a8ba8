use Rattle.std.proofs.Common.{ap, subst, ◌∙◌}
use Rattle.kx_include.specs.Shared.{body_at}
use Rattle.kx_merge.specs.Bodies.{moved, gathered, offers_of, faults_of}
use Rattle.kx_merge.specs.Gatherings.{IsGathered}
use Rattle.kx_merge.proofs.Behind.{adds_nothing, adds_fault, adds_all, gathered_at, gathered_past}
use Rattle.kx_merge.proofs.Movings.{moved-none}
use Rattle.kx_merge.proofs.gathering.merge_link.Goals as goal

pub returns-in-None : goal.returns-in-None
returns-in-None g c = λ rules bodies are.
    let form = g.R.Fields.form in
    let eq = g.R.Key.PartialEq.eq in
    let moves = g.R.Fields.moves in
    let past = gathered_past form eq rules moves c.args.done.now bodies c.args.link.map are c.in-None.ensures.lookup.3 in
    adds_nothing (ap (λ b. moved moves c.args.link.group (gathered eq c.args.link.mode (offers_of eq rules moves b))) past ∙ moved-none moves c.args.link.group) (ap (faults_of eq rules moves) past)

pub returns-in-Some-Err : goal.returns-in-Some-Err
returns-in-Some-Err g c = λ rules bodies are.
    let form = g.R.Fields.form in
    let eq = g.R.Key.PartialEq.eq in
    let moves = g.R.Fields.moves in
    adds_fault (subst (λ r. IsGathered form eq rules moves r (body_at bodies c.args.link.map)) c.in-Some-Err.field-0-is (gathered_at form eq rules moves c.args.done.now bodies c.args.link.map c.in-Some-Err.field-0.now are c.in-Some-Err.ensures.lookup.3.0 c.in-Some-Err.ensures.lookup.1))

pub returns-in-Some-Ok : goal.returns-in-Some-Ok
returns-in-Some-Ok g c = λ rules bodies are.
    let form = g.R.Fields.form in
    let eq = g.R.Key.PartialEq.eq in
    let moves = g.R.Fields.moves in
    let found = subst (λ r. IsGathered form eq rules moves r (body_at bodies c.args.link.map)) c.in-Some-Ok.field-0-is (gathered_at form eq rules moves c.args.done.now bodies c.args.link.map c.in-Some-Ok.field-0.now are c.in-Some-Ok.ensures.lookup.3.0 c.in-Some-Ok.ensures.lookup.1) in
    adds_all c.add_included.result (λ os shows. c.add_included.ensures.shows (offers_of eq rules moves (body_at bodies c.args.link.map)) found.0 os shows) c.add_included.ensures.err found.1
