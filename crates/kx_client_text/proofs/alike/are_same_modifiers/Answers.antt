use Rattle.std.proofs.Common.{arith, refl}
use Rattle.std.proofs.lemmas.List.{same_lists}
use Rattle.kx_client_text.proofs.alike.are_same_modifiers.Goals as goal

pub returns : goal.returns
returns c = (λ _. same_lists c.args.one.now c.args.other.now c.places.invariant.0 (λ k d within. c.places.invariant.1 k d (omega (arith, within, c.places-test.false))), λ _. refl)
