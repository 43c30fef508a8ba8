use Rattle.kx_include.specs.FileText.{FileText}
use Rattle.kx_include.proofs.Numbers.{place_of-at}
use Rattle.kx_include.proofs.files.Files.place_of.Goals as goal

pub returns : goal.returns
returns c = place_of-at (λ (t : FileText). t.bytes) c.self.inside.files.entries c.args.self.now c.args.name.now c.place_of_owned_name.result c.self.view_is c.place_of_owned_name.ensures.value
