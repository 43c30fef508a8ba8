use Rattle.std.proofs.Common.{◌≡◌, ◌<◌, length, get_or, ◌∷◌, [], ◌++◌, sym, refl, subst}
use Rattle.kx_lex.specs.declared.fault.Fault.TheVariants.{Memory}
use Rattle.kx_include.specs.Expansion.{End}
use Rattle.kx_include.specs.Shared.{bodies_behind, expanded_body, shared_body}
use Rattle.kx_codes.specs.Gathering.{AreGathered}
use Rattle.kx_codes.proofs.Behind.{one_gathered, behind_next, err_gathered, memory_blamed}
use Rattle.kx_codes.proofs.Numbering.{grows_on}
use Rattle.kx_codes.proofs.walking.gather.Goals as goal

pub maps-preserved : goal.maps-preserved
maps-preserved c = (
  λ once.
      let before = c.maps.invariant.0 once in
      let bodies = before.0 in
      let ms = c.args.expansion.now.maps.items in
      let m = c.map-item.result in
      let grows = c.gather_map-gathered.ensures.grows before.1.once in (
        bodies ++ shared_body bodies m End ∷ [],
        subst (λ ds. AreGathered c.gather_map-gathered.new.names ds (bodies ++ shared_body bodies m End ∷ [])) (sym c.in_ok-push.ensures.items)
            (one_gathered c.maps.names c.gather_map-gathered.new.names grows c.maps.done.items bodies c.gather_map-gathered.result (shared_body bodies m End) before.1 (c.gather_map-gathered.ensures.gathered bodies (subst (λ ds. AreGathered c.maps.names ds bodies) (sym c.as_slice.ensures.value) before.1))),
        behind_next bodies ms c.maps.map-index m (bodies_behind [] ms) (subst (λ ys. c.maps.map-index < length ys) c.as_slice-map-items.ensures.value c.maps-test.true) (subst (λ ys. m ≡ get_or ys c.maps.map-index m) c.as_slice-map-items.ensures.value c.map-item.is) before.2,
      ),
  λ once. grows_on c.args.names.now c.maps.names c.gather_map-gathered.new.names (c.maps.invariant.1 once) (c.gather_map-gathered.ensures.grows (c.maps.invariant.1 once).once),
)

pub returns-in_err-push-clause-gathered : goal.returns-in_err-push-clause-gathered
returns-in_err-push-clause-gathered c = λ once. err_gathered c.gather_map-gathered.new.names c.from_residual.result (expanded_body c.args.expansion.now) Memory c.from_residual.ensures.1 (memory_blamed (expanded_body c.args.expansion.now) Memory refl)

pub returns-in_err-push-clause-grows : goal.returns-in_err-push-clause-grows
returns-in_err-push-clause-grows c = λ once. grows_on c.args.names.now c.maps.names c.gather_map-gathered.new.names (c.maps.invariant.1 once) (c.gather_map-gathered.ensures.grows (c.maps.invariant.1 once).once)
