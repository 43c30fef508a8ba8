use Rattle.std.proofs.Common.{◌≡◌, ap, arith, nat_eq, subst, sym, ◌∙◌}
use Rattle.std.proofs.Math.Path.{fun_ext}
use Rattle.indexmap.specs.IndexMap.{get}
use Rattle.kx_resolve.proofs.Visiting.{visits_none}
use Rattle.kx_codes.proofs.Ends.{all_gathered}
use Rattle.kx_resolve.proofs.PlaceSteps.{below_none, unnamed_places}
use Rattle.kx_resolve.proofs.Walking.{visits_code}
use Rattle.kx_resolve.specs.Finding.{Visits}
use Rattle.kx_keys.specs.Mapping.{places_below}
use Rattle.kx_resolve.specs.NamedKeys.{mapping_in, name_in}
use Rattle.kx_resolve.proofs.finding.visit_codes.Goals as goal

pub codes-init : goal.codes-init
codes-init c = λ maps.
    let m = mapping_in c.args.keys maps in
    visits_none (get nat_eq c.args.firsts.now) (λ k. places_below k m 0) (λ k. below_none k m)

pub codes-preserved : goal.codes-preserved
codes-preserved c = λ maps.
    let m = mapping_in c.args.keys maps in
    visits_code (get nat_eq c.args.firsts.now) (get nat_eq c.codes.firsts) (get nat_eq c.visit_code.new.firsts) m c.codes.code (c.codes.invariant maps) c.visit_code.ensures

pub returns : goal.returns
returns c = λ maps.
    let m = mapping_in c.args.keys maps in
    let all : c.codes.code ≡ c.end-code-end.result = omega (arith, c.codes-test.false, c.codes.auto.code-end) in
    let same = fun_ext (λ k. ap (places_below k m) all ∙ sym (all_gathered (places_below k m) c.end-code-end.result (name_in c.args.keys) c.end-code-end.ensures (unnamed_places k m))) in
    subst (λ places. Visits places (get nat_eq c.args.firsts.now) (get nat_eq c.codes.firsts)) same (c.codes.invariant maps)
