use Rattle.kx_include.proofs.FileTexts.{sketched-file}
use Rattle.kx_include.proofs.text.outline_text.Goals as goal

pub returns-in-Some-clause-sketch : goal.returns-in-Some-clause-sketch
returns-in-Some-clause-sketch c = sketched-file c.args.number c.args.file.now c.in-Some.field-0.now c.outlined.result c.in-Some.ensures.value c.in-Some.ensures.outlined c.in-Some.ensures.short c.outlined.ensures
