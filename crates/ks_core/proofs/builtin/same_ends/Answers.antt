use Rattle.std.proofs.Common.{ap₂, sym, ◌∙◌}
use Rattle.std.specs.Str.{bytes_eq}
use Rattle.ks_core.proofs.EndsLemmas.{bytes_eq-ends}
use Rattle.ks_core.proofs.builtin.same_ends.Goals as goal

pub returns-then-eq : goal.returns-then-eq
returns-then-eq g c =
    let a_first = c.in-Some-Some-Some-Some.ensures.cases.0 in
    let b_first = c.in-Some-Some-Some-Some.ensures'.cases.0 in
    let a_last = c.in-Some-Some-Some-Some.ensures''.cases.1 in
    let b_last = c.in-Some-Some-Some-Some.ensures'''.cases.1 in
    let begins = ap₂ bytes_eq (sym a_first) (sym b_first) ∙ sym c.eq.ensures ∙ c.if-eq.true in
    c.eq-then-eq.ensures ∙ ap₂ bytes_eq a_last b_last ∙ bytes_eq-ends g.row.N c.args.a.now c.args.b.now c.requires.alike c.requires.least c.requires.most begins
