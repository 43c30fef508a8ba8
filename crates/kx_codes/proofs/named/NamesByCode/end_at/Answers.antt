use Rattle.std.proofs.Common.{◌≡◌, IsSome, ap, arith, subst, sym, ◌∙◌}
use Rattle.std.proofs.lemmas.Option.{same_Some}
use Rattle.std.specs.List.{slice_get}
use Rattle.kx_codes.proofs.Standing.{coded_at, named_at, none_at}
use Rattle.kx_codes.specs.Pairs.{Pair, name_in}
use Rattle.kx_codes.proofs.named.NamesByCode.end_at.Goals as goal

pub returns-in-Some-2-clause-named : goal.returns-in-Some-2-clause-named
returns-in-Some-2-clause-named c = λ code e.
    let same : c.in-Some.code.now ≡ code = omega (arith, e) in
    let there = named_at c.self.inside.names.entries c.args.place c.in-Some.code.now c.in-Some.field-0-1.now (sym c.in-Some.ensures) in
    subst (λ n. IsSome (name_in c.args.self.now n)) same (subst (λ m. IsSome (name_in m c.in-Some.code.now)) c.self.view_is there)

pub returns-in-Some-clause-above : goal.returns-in-Some-clause-above
returns-in-Some-clause-above c = λ p is few.
    let q : Pair = record { name = c.in-Some.field-0-1.now; code = c.in-Some.code.now } in
    let stored = coded_at c.self.inside.names.entries c.args.place c.in-Some.code.now c.in-Some.field-0-1.now (sym c.in-Some.ensures) in
    let same = same_Some q p (sym stored ∙ ap (λ m. slice_get m c.args.place) c.self.view_is ∙ is) in
    let code : c.in-Some.code.now ≡ p.code = ap (λ r. r.code) same in
    absurd (omega (arith, code, few, c.if-code-ge-CODES.true))

pub returns-in-None-clause-above : goal.returns-in-None-clause-above
returns-in-None-clause-above c = λ p is few.
    absurd (none_at c.self.inside.names.entries c.args.place (sym c.in-None.ensures) p (ap (λ m. slice_get m c.args.place) c.self.view_is ∙ is))
