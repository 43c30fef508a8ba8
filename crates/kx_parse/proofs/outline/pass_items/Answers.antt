use Rattle.std.proofs.Common.{◌≡◌, ◌++◌, List, [], append-nil, arith, sym, ◌∙◌}
use Rattle.std.specs.Prelude.{filter}
use Rattle.kx_lex.proofs.PassedOver.{Ends-more}
use Rattle.kx_parse.specs.Outline.{is_include}
use Rattle.kx_tree.specs.declared.tree.Item.{Item}
use Rattle.kx_parse.proofs.PassedOutline.{as-known, items-more, items-none}
use Rattle.kx_parse.proofs.outline.pass_items.Goals as goal

row-none : (row found is : List Item) → row ≡ found → [] ≡ filter is_include is → row ≡ found ++ filter is_include is
row-none row found is same e = rw (sym e, append-nil) same

pub items-init : goal.items-init
items-init c = record { passes = λ end found p. rw c.new-includes.ensures.items at p; within = omega arith; at = c.requires.at; ends = c.requires.ends }

pub returns-in-Some-pass_mark-clause-passes : goal.returns-in-Some-pass_mark-clause-passes
returns-in-Some-pass_mark-clause-passes c =
    c.items.invariant.passes c.in-Some-pass_mark.left.now c.fitted.result
    (as-known c.args.text.now (λ is e. row-none c.fitted.result c.items.includes.items is (c.fitted.ensures ∙ c.of.ensures) e) (items-none c.args.text.now c.items.invariant.ends c.in-Some-pass_mark.ensures.passes))

pub items-preserved : goal.items-preserved
items-preserved c =
    let a = rw c.in-Some.is at c.in_ok-left.ensures.passes in
    record {
      passes = λ end found p. c.items.invariant.passes end found (items-more c.args.text.now c.items.includes.items c.pass_item.new.includes.items found a p);
      within = omega (arith, (rw c.in-Some.is at c.in_ok-left.ensures.within), c.items.invariant.within);
      at = rw c.in-Some.is at c.in_ok-left.ensures.at;
      ends = Ends-more c.items.invariant.ends a.lexes.ends;
    }
