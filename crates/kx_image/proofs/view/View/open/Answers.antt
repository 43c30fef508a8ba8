use Rattle.kx_image.proofs.Refused.{refusal_only}
use Rattle.kx_image.proofs.view.View.open.Goals as goal

pub returns-clause-only : goal.returns-clause-only
returns-clause-only c = refusal_only c.args.bytes.now c.checked.result c.checked.ensures.fault
