use Rattle.std.proofs.Common.{◌≡◌, ℕ, List, OnOk, subst}
use Rattle.kx_include.specs.Library.{with_file}
use Rattle.kx_include.proofs.files.Files.insert.Goals as goal

pub returns-clause-file : goal.returns-clause-file
returns-clause-file c = subst (λ (bs : List ℕ). OnOk c.insert_text.result (c.insert_text.new.self ≡ with_file c.args.self.now c.args.name.items bs)) c.in_ok-text.ensures c.insert_text.ensures.file
