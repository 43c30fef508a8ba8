use Rattle.std.proofs.Common.{refl}
use Rattle.kx_include.specs.FileText.{FileText}
use Rattle.kx_include.proofs.Numbers.{put-files}
use Rattle.kx_include.proofs.files.Files.insert_text.Goals as goal

pub returns-clause-file : goal.returns-clause-file
returns-clause-file c = put-files (λ (t : FileText). t.bytes) c.self.inside.files.entries c.insert.new.self.entries c.args.self.now _ c.owning.result c.args.name.items c.args.text c.self.view_is refl c.in_ok-insert.ensures.entries c.owning.ensures
