use Rattle.std.proofs.Common.{◌≡◌, List, ℕ, ◌≤◌, ◌++◌, length}
use Rattle.std.specs.Prelude.{filter}
use Rattle.kx_lex.specs.Passing.{Ends, IsAtToken, PassesAs}
use Rattle.kx_parse.specs.Outline.{is_include, items_ended}
use Rattle.kx_tree.specs.declared.tree.Item.{Item}
use Rattle.kx_parse.proofs.outline.pass_items.Given as goal

abbrev pub invariant-items : goal.invariant-items
invariant-items l = record {
  passes : (end : List ℕ) (found : List Item) → PassesAs l.text (items_ended l.text) (λ is. found ≡ l.includes.items ++ filter is_include is) l.rest end → PassesAs l.text (items_ended l.text) (λ is. found ≡ filter is_include is) l.bytes end;
  within : length l.rest ≤ length l.bytes;
  at : IsAtToken l.rest;
  ends : Ends l.text l.rest;
}

abbrev pub decreases-items : goal.decreases-items
decreases-items l = length l.rest
