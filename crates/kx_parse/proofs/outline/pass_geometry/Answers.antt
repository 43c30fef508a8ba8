use Rattle.std.proofs.Common.{arith}
use Rattle.kx_lex.specs.Passing.{front_byte}
use Rattle.kx_tree.proofs.PassedForms.{some-map}
use Rattle.kx_parse.proofs.PassedSections.{deep-whole, geometry-ended}
use Rattle.kx_parse.proofs.outline.pass_geometry.Goals as goal

pub tokens-init : goal.tokens-init
tokens-init c = record { passes = λ end p. p; within = omega arith; at = c.requires.at }

pub tokens-preserved : goal.tokens-preserved
tokens-preserved c = record {
  passes = λ end p. c.tokens.invariant.passes end (c.in_ok-inner.ensures.passes end p);
  within = omega (arith, c.in_ok-inner.ensures.deeper, c.tokens.invariant.within);
  at = c.in_ok-inner.ensures.at;
}

pub returns-clause-passes : goal.returns-clause-passes
returns-clause-passes c =
    some-map c.pass_mark.result
    (λ rest p. geometry-ended (c.tokens.invariant.passes c.tokens.rest.now (deep-whole c.tokens.depth (front_byte 125 c.tokens.rest.now) c.tokens-test.ensures p)) p)
    c.pass_mark.ensures.passes
