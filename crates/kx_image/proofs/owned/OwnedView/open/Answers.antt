use Rattle.std.proofs.Common.{ℕ, List, subst}
use Rattle.kx_image.specs.Image.{HasImageFault}
use Rattle.kx_image.proofs.Refused.{fault_refuses}
use Rattle.kx_image.proofs.owned.OwnedView.open.Goals as goal

pub returns-in-Err-clause-only : goal.returns-in-Err-clause-only
returns-in-Err-clause-only c = fault_refuses c.args.bytes.items c.in-Err.fault (subst (λ (s : List ℕ). HasImageFault s c.in-Err.fault) c.as_slice.ensures.value c.in-Err.ensures.fault)
