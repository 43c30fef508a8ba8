use Rattle.std.proofs.Common.{Some, cond, nat_eq, sym, ap, ◌∙◌}
use Rattle.kx_tree.specs.declared.tree.Mode.TheVariants.{Augment}
use Rattle.kx_codes.specs.Numbers.{number}
use Rattle.kx_codes.specs.Pairs.{Pair, code_in, name_in}
use Rattle.kx_codes.proofs.Standing.{inserted, put_new}
use Rattle.kx_codes.proofs.pairs.Pairs.take_under.Goals as goal

pub returns-clause-took : goal.returns-clause-took
returns-clause-took c = λ ps s.
    let p : Pair = record { name = number c.args.name; code = c.args.code } in
    let none = sym (c.has_sharing.ensures ps s) ∙ c.if-has_sharing.false in
    put_new Augment c.put_name.new.self ps p none
    (inserted c.args.self.now c.put_name.new.self (number c.args.name) c.args.code
    (λ n. ap (λ l. code_in l n) c.in_ok-put_name.ensures.codes ∙ c.in_ok-put_code.ensures.put n)
    (λ d. c.in_ok-put_name.ensures.put d ∙ ap (λ l. cond (nat_eq c.args.code d) (Some (number c.args.name)) (name_in l d)) c.in_ok-put_code.ensures.names)
    ps s none)
