use Rattle.kx_text.proofs.Joined.{SoFar}
use Rattle.kx_text.proofs.typing.text_of_each.Given as goal

abbrev pub invariant-loop-keysym : goal.invariant-loop-keysym
invariant-loop-keysym l = SoFar l.keysyms l.text.bytes l.keysym-index
