use Rattle.std.proofs.Common.{◌≡◌, Some, IfOk, slice_get, sym, ap, subst, ◌∙◌}
use Rattle.std.specs.Map.{keys_of}
use Rattle.kx_basics.specs.KeyNames.{IsKeyName}
use Rattle.kx_codes.specs.Numbers.{Grows}
use Rattle.kx_codes.proofs.Names.{names_put_grow, names_put_last, names_put_there, names_put_valid, names_stay}
use Rattle.kx_codes.proofs.numbers.Names.number.Goals as goal
use Rattle.kx_codes.proofs.numbers.Names.number.Goals.{in-Some, in-None}

pub returns-in_err-number-clause-grows : goal.returns-in_err-number-clause-grows
returns-in_err-number-clause-grows c =
    let ks = keys_of c.push_new.new.self.entries in
    subst (λ before. Grows before ks) c.self.view_is (subst (λ m. Grows (keys_of m.entries) ks) c.in_err-number.ensures.err (names_stay ks c.in_err-number.ensures.unique))

pub invariant_of-self-2 : goal.invariant_of-self-2
invariant_of-self-2 c = names_put_valid c.of.result c.args.name.now c.of.ensures tt c.self.inside.names c.push_new.new.self c.in_ok-number.field-0 c.in_ok-number.ensures.place c.in_ok-number.ensures.back c.in_ok-number.ensures.entries IsKeyName c.self.invariant c.requires

pub returns-clause-name : goal.returns-clause-name
returns-clause-name c = let ks = keys_of c.push_new.new.self.entries in elim c.match-branch-2.branch [
  | in-Some w ↦ subst (λ r. IfOk r (λ n. slice_get ks n ≡ Some c.args.name.now)) (sym w.result-is) (names_put_there c.of.result c.args.name.now c.of.ensures tt c.self.inside.names c.push_new.new.self c.in_ok-number.field-0 c.in_ok-number.ensures.place c.in_ok-number.ensures.back c.in_ok-number.ensures.entries w.in-Some.number tt w.in-Some.is)
  | in-None w ↦ subst (λ r. IfOk r (λ n. slice_get ks n ≡ Some c.args.name.now)) (sym w.result-is) (ap (slice_get ks) c.len-count.ensures ∙ names_put_last c.of.result c.args.name.now c.of.ensures tt c.self.inside.names c.push_new.new.self c.in_ok-number.field-0 c.in_ok-number.ensures.place c.in_ok-number.ensures.back c.in_ok-number.ensures.entries w.in-None.is)
]

pub returns-clause-grows : goal.returns-clause-grows
returns-clause-grows c = subst (λ before. Grows before (keys_of c.push_new.new.self.entries)) c.self.view_is (names_put_grow c.of.result c.args.name.now c.of.ensures tt c.self.inside.names c.push_new.new.self c.in_ok-number.field-0 c.in_ok-number.ensures.place c.in_ok-number.ensures.back c.in_ok-number.ensures.entries c.in_ok-number.ensures.unique)
