use Rattle.std.proofs.Common.{refl}
use Rattle.kx_lex.proofs.PassedOver.{Ends-more}
use Rattle.kx_tree.proofs.PassedForms.{some-map}
use Rattle.kx_parse.proofs.PassedOutline.{item-include, item-moded, item-other, item-word}
use Rattle.kx_parse.proofs.outline.pass_item.Goals as goal

pub returns-in_default-clause-passes : goal.returns-in_default-clause-passes
returns-in_default-clause-passes c =
    let none = rw c.in_default.is at c.pass_keyword.ensures.none in
    some-map c.pass_statement.result (λ rest a. item-other c.args.text.now c.args.includes.now.items c.args.includes.now.items c.requires.ends refl c.requires.at none a) c.pass_statement.ensures.passes

pub pass_include-requires-clause-ends : goal.pass_include-requires-clause-ends
pass_include-requires-clause-ends c = Ends-more c.requires.ends c.in-Some.ensures.passes.lexes.ends

pub returns-in-Some-include_mode-clause-passes : goal.returns-in-Some-include_mode-clause-passes
returns-in-Some-include_mode-clause-passes c =
    item-include c.args.text.now c.args.includes.now.items c.push.new.self.items c.in-Some-2.include c.in-Some-include_mode.mode c.requires.ends c.in-Some.ensures.passes c.in-Some-include_mode.ensures.some
    (rw c.in-Some-2.is at c.in_ok-include.ensures.passes) c.in_ok-push.ensures.items

pub returns-then-front_is_moded-clause-passes : goal.returns-then-front_is_moded-clause-passes
returns-then-front_is_moded-clause-passes c =
    some-map c.pass_statement-then-front_is_moded.result
    (λ rest a. item-moded c.args.text.now c.args.includes.now.items c.args.includes.now.items c.requires.ends refl c.in-Some.ensures.passes (c.front_is_moded.ensures.some c.if-front_is_moded.true) a)
    c.pass_statement-then-front_is_moded.ensures.passes

pub returns-clause-passes : goal.returns-clause-passes
returns-clause-passes c =
    let none = rw c.in_default-include_mode.is at c.include_mode.ensures.none in
    some-map c.pass_statement_behind.result
    (λ rest goes. item-word c.args.text.now c.args.includes.now.items c.args.includes.now.items c.requires.ends refl c.in-Some.ensures.passes none (c.front_is_moded.ensures.none c.if-front_is_moded.false) (goes c.args.bytes.now c.in-Some.ensures.passes))
    c.pass_statement_behind.ensures.passes
