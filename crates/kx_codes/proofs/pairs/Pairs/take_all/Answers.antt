use Rattle.std.proofs.Common.{◌<◌, ◌≤◌, nat_eq, take, length, sym, ap, subst, ◌∙◌, take_all}
use Rattle.std.specs.List.{IsDistinct}
use Rattle.kx_codes.proofs.NumberMaps.{keys_numbers, length_numbers}
use Rattle.kx_codes.specs.Numbers.{with_numbers}
use Rattle.kx_codes.specs.Indexed.{Stands}
use Rattle.kx_codes.specs.Pairs.{all_taken}
use Rattle.kx_codes.proofs.Standing.{all_stand, some_at, next_taken, length-coded}
use Rattle.kx_codes.proofs.pairs.Pairs.take_all.Goals as goal

pub given-preserved : goal.given-preserved
given-preserved c = λ ps s.
    let vs = c.args.given.now.by_code in
    let same = c.len-count.ensures.len ∙ sym (length-coded (with_numbers c.given-2.inside.names.entries) ∙ length_numbers c.given-2.inside.names.entries) ∙ ap (λ m. length m.by_code) c.given-2.view_is in
    let one = some_at vs c.given.place (subst (λ n. c.given.place < n) same c.given-test.true) in
    next_taken c.args.mode c.take_at.new.self ps vs c.given.place one.0 one.1 (c.in_ok-take_at.ensures.took (all_taken c.args.mode ps (take c.given.place vs)) one.0 (c.given.invariant ps s) one.1)

pub returns-clause-took : goal.returns-clause-took
returns-clause-took c = λ ps qs s t.
    let vs = c.args.given.now.by_code in
    let same = c.len-count.ensures.len ∙ sym (length-coded (with_numbers c.given-2.inside.names.entries) ∙ length_numbers c.given-2.inside.names.entries) ∙ ap (λ m. length m.by_code) c.given-2.view_is in
    all_stand (with_numbers c.given-2.inside.names.entries) (subst (IsDistinct nat_eq) (keys_numbers c.given-2.inside.names.entries) c.len-count.ensures.unique) c.args.mode c.given.self c.args.given.now (ap (λ m. m.by_code) c.given-2.view_is) ps qs s.distinct_are t
    (subst (λ ws. Stands c.given.self (all_taken c.args.mode ps ws)) (take_all c.given.place vs (subst (λ n. n ≤ c.given.place) same c.given-test.false)) (c.given.invariant ps s))
