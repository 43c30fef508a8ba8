use Rattle.kx_tool.proofs.compiler.read_printed_again.Goals as goal

pub returns-clause-content : goal.returns-clause-content
returns-clause-content c = λ content d can means. c.printed_means_itself.ensures.content content d _ can c.write_name.ensures.sound means

pub returns-clause-faultless : goal.returns-clause-faultless
returns-clause-faultless c = λ content e can has. c.printed_means_itself.ensures.faultless content _ e can c.write_name.ensures.sound has
