use Rattle.std.proofs.Common.{◌∙◌, sym, None, Some}
use Rattle.kx_include.specs.FileText.{FileText}
use Rattle.kx_include.proofs.Numbers.{number_of-at}
use Rattle.kx_include.proofs.files.Files.number_of.Goals as goal

pub returns-in-None : goal.returns-in-None
returns-in-None c = number_of-at (λ (t : FileText). t.bytes) c.self.inside.files.entries c.args.self.now c.args.name.now None c.self.view_is (sym c.in-None.is ∙ c.place_of_owned_name.ensures.value)

pub returns-in-Some : goal.returns-in-Some
returns-in-Some c = number_of-at (λ (t : FileText). t.bytes) c.self.inside.files.entries c.args.self.now c.args.name.now (Some c.in-Some.place) c.self.view_is (sym c.in-Some.is ∙ c.place_of_owned_name.ensures.value)
