use Rattle.std.proofs.Common.{Option, ap}
use Rattle.std.specs.Borrow.{Bor}
use Rattle.std.specs.Option.{option_copied}
use Rattle.kx_include.specs.FileText.{FileText}
use Rattle.kx_include.proofs.Sketching.{outline-holds, whole-holds}
use Rattle.kx_include.proofs.Visiting.{ok_as}
use Rattle.kx_include.proofs.indexed.IndexedText.with_statements.Goals as goal

pub returns-in-Some-clause-held : goal.returns-in-Some-clause-held
returns-in-Some-clause-held c = ok_as c.built.result _ _ (λ held is whole sketch. outline-holds c.args.self held whole (option_copied c.args.file) c.in-Some.file.now c.args.wanted.now (ap (λ (o : Option (Bor FileText)). option_copied o) c.in-Some.is) sketch is) c.built.ensures.held

pub returns-clause-held : goal.returns-clause-held
returns-clause-held c whole sketch = whole-holds c.args.self whole (option_copied c.args.file) c.args.wanted.now (ap (λ (o : Option (Bor FileText)). option_copied o) c.in-None.is) sketch
