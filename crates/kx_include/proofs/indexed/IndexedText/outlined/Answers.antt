use Rattle.std.proofs.Common.{Ok, List, ap}
use Rattle.kx_tree.specs.declared.tree.Section.{Section}
use Rattle.kx_include.specs.FileText.{outline_sections}
use Rattle.kx_include.proofs.FileTexts.{unbuilt, unbuilt-found}
use Rattle.kx_include.proofs.indexed.IndexedText.outlined.Goals as goal

pub invariant_of-result : goal.invariant_of-result
invariant_of-result c = unbuilt-found (outline_sections c.args.file.now.outline) c.new-built.result.items c.new-built.ensures.items

pub returns : goal.returns
returns c = ap (λ (ss : List Section). Ok (record { sections = ss })) (unbuilt (outline_sections c.args.file.now.outline) c.new-built.result.items c.new-built.ensures.items)
