use Rattle.std.proofs.Common.{inl, inr}
use Rattle.xkc_c.proofs.compiling.xkc_keymap_compile.Goals as goal

pub returns-in-Some-clause-fault : goal.returns-in-Some-clause-fault
returns-in-Some-clause-fault c = λ is. (
  c.in-Err.found,
  c.in-Some.ensures.0,
  elim c.in-Err.ensures.fault [
    | inl memory ↦ absurd (c.in-Some.ensures.1 memory)
    | inr has ↦ has
  ],
)
