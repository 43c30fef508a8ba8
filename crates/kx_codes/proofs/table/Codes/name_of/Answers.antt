use Rattle.std.proofs.Common.{subst}
use Rattle.kx_codes.specs.Pairs.{Agree}
use Rattle.kx_codes.proofs.table.Codes.name_of.Goals as goal

pub returns-clause-agree : goal.returns-clause-agree
returns-clause-agree c = subst (λ v. Agree v.by_name v.by_code) c.self.view_is c.self.invariant
