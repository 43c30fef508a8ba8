use Rattle.std.proofs.Common.{IfOk, subst}
use Rattle.kx_merge.specs.Records.{AreOffered}
use Rattle.kx_merge.specs.Single.{single_form}
use Rattle.kx_clients.specs.IndicatorNames.{named_offers}
use Rattle.kx_clients.proofs.indicators.read_statement.Goals as goal

pub returns-in-Some-clause-records : goal.returns-in-Some-clause-records
returns-in-Some-clause-records c = λ mode. subst (λ named. IfOk c.one_record.result (λ records. AreOffered mode single_form records.items (named_offers mode named))) c.in-Some.ensures (c.one_record.ensures.records mode)
