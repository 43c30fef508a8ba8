use Rattle.std.proofs.Common.{[], ◌∷◌, append_assoc, append-nil, arith}
use Rattle.kx_parse.proofs.PassedOutline.{flags-more, flags-none}
use Rattle.kx_parse.proofs.outline.pass_flags.Goals as goal

pub flags-init : goal.flags-init
flags-init c = record { passes = λ end more p. rw c.new-flags.ensures.items p; within = omega arith; at = c.requires }

pub flags-preserved : goal.flags-preserved
flags-preserved c = record {
  passes = λ end more p. rw (c.in_ok-push.ensures.items, append_assoc) (c.flags.invariant.passes end (c.in-Some.flag ∷ more) (flags-more c.in-Some.flag more c.in-Some.ensures.passes p));
  within = omega (arith, c.in-Some.ensures.within, c.flags.invariant.within);
  at = c.in-Some.ensures.at;
}

pub returns-clause-passes : goal.returns-clause-passes
returns-clause-passes c = rw c.of.ensures (rw append-nil at (c.flags.invariant.passes c.flags.rest.now [] (flags-none c.flags.rest.now (rw c.in_default.is at c.pass_flag.ensures.none))))
