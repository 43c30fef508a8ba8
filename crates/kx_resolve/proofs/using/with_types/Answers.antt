use Rattle.std.proofs.Common.{◌≡◌, ◌<◌, ◌≤◌, ◌+◌, ◌++◌, ◌∷◌, [], Some, map, take, get_or, slice_get, length, ap, sym, ◌∙◌, subst, arith, All}
use Rattle.std.proofs.lemmas.List.{length-map, length-take, map-append, take_all, take_more}
use Rattle.std.proofs.lemmas.List.Elements.{All-nil, All-push}
use Rattle.std.proofs.lemmas.Option.{slice_get-get_or}
use Rattle.kx_builder.specs.Pushes.{with_type}
use Rattle.kx_builder.specs.Resolved.{Resolved}
use Rattle.kx_resolve.specs.Read.{TypeHoldsIn, type_in}
use Rattle.kx_resolve.proofs.using.with_types.Goals as goal

pub names-init : goal.names-init
names-init c = (c.new-builder.ensures, All-nil (TypeHoldsIn c.args.read))

pub names-preserved : goal.names-preserved
names-preserved c =
    let used = c.args.used.now in
    let n = c.names.number in
    let name = get_or used n [] in
    let within : n < length used = omega (arith, c.names-test.true, c.len-number-end.ensures) in
    let at : slice_get used n ≡ Some name = slice_get-get_or used n [] within in
    let more : take (n + 1) used ≡ take n used ++ name ∷ [] = take_more used n [] within in (
      c.in_ok-push_numbered.ensures.pushed name at
          ∙ (λ i. with_type (c.names.invariant.0 i) (type_in c.args.read name))
          ∙ (λ i. record { types = (sym (map-append (type_in c.args.read) (take n used) (name ∷ [])) ∙ ap (map (type_in c.args.read)) (sym more)) i; keys = [] }),
      subst (All (TypeHoldsIn c.args.read)) (sym more) (All-push (TypeHoldsIn c.args.read) (take n used) name c.names.invariant.1 (c.in_ok-push_numbered.ensures.holds name at)),
    )

pub push_numbered-requires-clause-keyless : goal.push_numbered-requires-clause-keyless
push_numbered-requires-clause-keyless c = ap (λ (r : Resolved). r.keys) c.names.invariant.0

pub push_numbered-requires-clause-few : goal.push_numbered-requires-clause-few
push_numbered-requires-clause-few c =
    let n = c.names.number in
    let count = ap (λ (r : Resolved). length r.types) c.names.invariant.0 in
    omega (arith, c.names-test.true, c.len-number-end.ensures, c.requires.few, count, length-map (take n c.args.used.now) (type_in c.args.read), length-take n c.args.used.now)

pub returns-clause-types : goal.returns-clause-types
returns-clause-types c =
    let past : length c.args.used.now ≤ c.names.number = omega (arith, c.names-test.false, c.len-number-end.ensures) in
    c.names.invariant.0 ∙ (λ i. record { types = map (type_in c.args.read) (take_all c.names.number c.args.used.now past i); keys = [] })

pub returns-clause-hold : goal.returns-clause-hold
returns-clause-hold c =
    let past : length c.args.used.now ≤ c.names.number = omega (arith, c.names-test.false, c.len-number-end.ensures) in
    subst (All (TypeHoldsIn c.args.read)) (take_all c.names.number c.args.used.now past) c.names.invariant.1
