use Rattle.kx_rules.proofs.Including.{taken_deep, taken_inner, taken_none}
use Rattle.kx_rules.proofs.state.State.take_name.Goals as goal

pub returns-then-depth-eq0 : goal.returns-then-depth-eq0
returns-then-depth-eq0 c = λ names. taken_deep names c.args.texts.now c.args.name.now c.args.self.now c.begin.new.self c.args.depth c.if-depth-eq0.true c.begin.ensures

pub returns-in-None : goal.returns-in-None
returns-in-None c = λ names. taken_none names c.args.texts.now c.args.name.now c.args.self.now c.enter.new.self c.args.depth c.if-depth-eq0.false c.in-None.ensures

pub returns-in-Some : goal.returns-in-Some
returns-in-Some c = λ names. taken_inner names c.args.texts.now c.args.name.now c.args.self.now c.enter.new.self c.args.depth c.in-Some.inner.now c.if-depth-eq0.false c.in-Some.ensures
