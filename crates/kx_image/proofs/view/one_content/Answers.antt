use Rattle.kx_image.proofs.view.one_content.Goals as goal
use Rattle.kx_image.proofs.Refused as refused

pub returns : goal.returns
returns c = refused.one_content
