use Rattle.kx_include.proofs.FileTexts.{built-maps, built-some, built-text}
use Rattle.kx_include.proofs.indexed.IndexedText.built.Goals as goal

pub unreachable-requires : goal.unreachable-requires
unreachable-requires c = built-some c.in_ok-built.field-0 c.args.file.now.bytes c.bytes.result.now c.in-Some.outline.now c.in_default-2.is c.bytes.ensures c.in-Some.ensures.short c.in-Some.ensures.outlined c.in_ok-built.ensures.none

pub invariant_of-result : goal.invariant_of-result
invariant_of-result c = built-maps c.args.file.now c.bytes.result.now c.in-Some.outline.now c.in-Some-2.built.items c.args.wanted.now c.bytes.ensures c.in-Some.ensures.value c.in-Some.ensures.outlined (rw c.in-Some-2.is at c.in_ok-built.ensures.built)

pub returns-clause-held : goal.returns-clause-held
returns-clause-held c = built-text c.args.file.now c.bytes.result.now c.in-Some.outline.now c.in-Some-2.built.items c.args.wanted.now c.bytes.ensures c.in-Some.ensures.value c.in-Some.ensures.outlined (rw c.in-Some-2.is at c.in_ok-built.ensures.built)
