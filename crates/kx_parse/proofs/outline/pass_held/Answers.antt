use Rattle.std.proofs.Common.{◌∙◌, arith}
use Rattle.kx_lex.proofs.PassedOver.{Ends-more}
use Rattle.kx_tree.proofs.PassedForms.{some-map}
use Rattle.kx_parse.proofs.PassedOutline.{as-known}
use Rattle.kx_parse.proofs.PassedSections.{held-geometry, held-geometry-at, held-other, ok-map}
use Rattle.kx_parse.proofs.outline.pass_held.Goals as goal

pub pass_items-requires : goal.pass_items-requires
pass_items-requires c = record { ends = Ends-more c.requires.ends c.in-Some.ensures.passes.lexes.ends; short = c.requires.short; at = c.in-Some.ensures.at }

pub returns-in-Some-pass_geometry-clause-passes : goal.returns-in-Some-pass_geometry-clause-passes
returns-in-Some-pass_geometry-clause-passes c =
    held-geometry-at c.args.text.now c.args.kind c.in-Geometry.is
    (as-known c.args.text.now (λ is e. c.of.ensures ∙ c.new.ensures.items ∙ e) (held-geometry c.args.text.now c.requires.ends c.in-Some.ensures.passes c.in-Some-pass_geometry.ensures.passes))

pub returns-in_default-kind : goal.returns-in_default-kind
returns-in_default-kind c = record {
  passes = ok-map c.pass_items.result (λ o. some-map o (λ p a. held-other c.args.text.now c.args.kind c.in_default-kind.not-Geometry c.requires.ends c.in-Some.ensures.passes a)) c.pass_items.ensures.passes;
  within = ok-map c.pass_items.result (λ o. some-map o (λ p less. omega (arith, less, c.in-Some.ensures.within))) c.pass_items.ensures.within;
  at = c.pass_items.ensures.at;
}
