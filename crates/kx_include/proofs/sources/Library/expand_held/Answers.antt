use Rattle.std.proofs.Common.{◌+◌, drop, refl, sym, arith}
use Rattle.kx_include.specs.Library.{sections_in}
use Rattle.kx_include.proofs.Sections.{all_bodies, all_whole, are_grown_none, are_grown_on, drop-found, none-left, section_blamed}
use Rattle.kx_include.proofs.Visiting.{err_passed}
use Rattle.kx_include.proofs.sources.Library.expand_held.Goals as goal

pub sections-init : goal.sections-init
sections-init c = are_grown_none c.args.self.now c.new-bodies.result (sections_in c.args.self.now 0) c.new-bodies.ensures.maps c.new-bodies.ensures.sections refl

pub expand_section-requires-clause-known : goal.expand_section-requires-clause-known
expand_section-requires-clause-known c = λ kind. (c.sections.invariant.grown kind).known

pub sections-preserved : goal.sections-preserved
sections-preserved c =
    let all = sections_in c.args.self.now 0 in
    let here = drop-found all c.sections.section c.in-Some.found.now (sym c.in-Some.ensures) in
    are_grown_on c.args.self.now c.sections.section c.sections.seen c.in_ok-seen.seen c.in-Some.found.now (drop c.sections.section all) (drop (c.sections.section + 1) all) c.sections.bodies c.expand_section.new.bodies here c.in_ok-seen.ensures.added c.in_ok-seen.ensures.others c.sections.invariant

pub returns-in_err-seen-clause-fault : goal.returns-in_err-seen-clause-fault
returns-in_err-seen-clause-fault c =
    let all = sections_in c.args.self.now 0 in
    let here = drop-found all c.sections.section c.in-Some.found.now (sym c.in-Some.ensures) in
    err_passed c.from_residual.result c.in_err-seen.field-0.0 _ c.from_residual.ensures.1
    (section_blamed c.args.self.now c.sections.section c.sections.seen c.in-Some.found.now (drop c.sections.section all) (drop (c.sections.section + 1) all) c.sections.bodies c.in_err-seen.field-0.0 here c.sections.invariant c.in_err-seen.ensures.fault)

pub returns-clause-whole : goal.returns-clause-whole
returns-clause-whole c =
    let all = sections_in c.args.self.now 0 in
    let end = c.sections-test.false in
    let many = c.section_count-section-end.ensures in
    all_whole c.args.self.now c.sections.section c.sections.seen (drop c.sections.section all) c.sections.bodies (none-left all c.sections.section (omega (arith, end, many))) c.sections.invariant

pub returns-clause-bodies : goal.returns-clause-bodies
returns-clause-bodies c =
    let all = sections_in c.args.self.now 0 in
    let end = c.sections-test.false in
    let many = c.section_count-section-end.ensures in
    all_bodies c.args.self.now c.sections.section c.sections.seen (drop c.sections.section all) c.sections.bodies (none-left all c.sections.section (omega (arith, end, many))) c.sections.invariant
