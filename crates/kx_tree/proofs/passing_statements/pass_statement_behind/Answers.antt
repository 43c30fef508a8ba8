use Rattle.std.proofs.Common.{◌≡◌, Option, Some, subst}
use Rattle.kx_lex.specs.declared.keyword.Keyword.{Keyword}
use Rattle.kx_lex.specs.declared.keyword.Keyword.TheVariants as keywords
use Rattle.kx_tree.proofs.PassedForms.{some-map}
use Rattle.kx_tree.proofs.PassedStatements.{alias-goes, field-goes, goes-as, group-goes, indicator-goes, indicator_name-goes, interpretation-goes, key-goes, key_type-goes, modifier_map-goes, virtual-goes, virtual_modifiers-goes}
use Rattle.kx_tree.proofs.passing_statements.pass_statement_behind.Goals as goal

at-some : (word : Option Keyword) (k wanted : Keyword) → word ≡ Some k → k ≡ wanted → word ≡ Some wanted
at-some word k wanted is same = subst (λ (x : Keyword). word ≡ Some x) same is

pub returns-in-Some-Key-clause-passes : goal.returns-in-Some-Key-clause-passes
returns-in-Some-Key-clause-passes c =
    let is = at-some c.args.word c.in-Some-Key.field-0 keywords.Key c.in-Some-Key.is (rw c.in-Some-Key.is at c.in-Some-Key.field-0-is) in
    some-map c.pass_key_behind.result (λ rest a. goes-as is (key-goes a)) c.pass_key_behind.ensures.passes

pub returns-in-Some-ModifierMap-clause-passes : goal.returns-in-Some-ModifierMap-clause-passes
returns-in-Some-ModifierMap-clause-passes c =
    let is = at-some c.args.word c.in-Some-ModifierMap.field-0 keywords.ModifierMap c.in-Some-ModifierMap.is (rw c.in-Some-ModifierMap.is at c.in-Some-ModifierMap.field-0-is) in
    some-map c.pass_modifier_map_behind.result (λ rest a. goes-as is (modifier_map-goes a)) c.pass_modifier_map_behind.ensures.passes

pub returns-in-Some-Alias-clause-passes : goal.returns-in-Some-Alias-clause-passes
returns-in-Some-Alias-clause-passes c =
    let is = at-some c.args.word c.in-Some-Alias.field-0 keywords.Alias c.in-Some-Alias.is (rw c.in-Some-Alias.is at c.in-Some-Alias.field-0-is) in
    some-map c.pass_alias_behind.result (λ rest a. goes-as is (alias-goes a)) c.pass_alias_behind.ensures.passes

pub returns-in-Some-Virtual-clause-passes : goal.returns-in-Some-Virtual-clause-passes
returns-in-Some-Virtual-clause-passes c =
    let is = at-some c.args.word c.in-Some-Virtual.field-0 keywords.Virtual c.in-Some-Virtual.is (rw c.in-Some-Virtual.is at c.in-Some-Virtual.field-0-is) in
    some-map c.pass_indicator_name.result (λ rest a. goes-as is (virtual-goes a)) c.pass_indicator_name.ensures.passes

pub returns-in-Some-Indicator-clause-passes : goal.returns-in-Some-Indicator-clause-passes
returns-in-Some-Indicator-clause-passes c =
    let is = at-some c.args.word c.in-Some-Indicator.field-0 keywords.Indicator c.in-Some-Indicator.is (rw c.in-Some-Indicator.is at c.in-Some-Indicator.field-0-is) in
    some-map c.pass_indicator_name_behind.result (λ rest a. goes-as is (indicator_name-goes a)) c.pass_indicator_name_behind.ensures.passes

pub returns-in-Some-Indicator-2-clause-passes : goal.returns-in-Some-Indicator-2-clause-passes
returns-in-Some-Indicator-2-clause-passes c =
    let is = at-some c.args.word c.in-Some-Indicator-2.field-0 keywords.Indicator c.in-Some-Indicator-2.is (rw c.in-Some-Indicator-2.is at c.in-Some-Indicator-2.field-0-is) in
    some-map c.pass_named_block.result (λ rest a. goes-as is (indicator-goes a)) c.pass_named_block.ensures.passes

pub returns-in-Some-VirtualModifiers-clause-passes : goal.returns-in-Some-VirtualModifiers-clause-passes
returns-in-Some-VirtualModifiers-clause-passes c =
    let is = at-some c.args.word c.in-Some-VirtualModifiers.field-0 keywords.VirtualModifiers c.in-Some-VirtualModifiers.is (rw c.in-Some-VirtualModifiers.is at c.in-Some-VirtualModifiers.field-0-is) in
    some-map c.pass_virtual_modifiers_behind.result (λ rest a. goes-as is (virtual_modifiers-goes a)) c.pass_virtual_modifiers_behind.ensures.passes

pub returns-in-Some-Type-clause-passes : goal.returns-in-Some-Type-clause-passes
returns-in-Some-Type-clause-passes c =
    let is = at-some c.args.word c.in-Some-Type.field-0 keywords.Type c.in-Some-Type.is (rw c.in-Some-Type.is at c.in-Some-Type.field-0-is) in
    some-map c.pass_named_block-in-Some-Type.result (λ rest a. goes-as is (key_type-goes a)) c.pass_named_block-in-Some-Type.ensures.passes

pub returns-in-Some-Interpret-clause-passes : goal.returns-in-Some-Interpret-clause-passes
returns-in-Some-Interpret-clause-passes c =
    let is = at-some c.args.word c.in-Some-Interpret.field-0 keywords.Interpret c.in-Some-Interpret.is (rw c.in-Some-Interpret.is at c.in-Some-Interpret.field-0-is) in
    some-map c.pass_interpretation_behind.result (λ rest a. goes-as is (interpretation-goes a)) c.pass_interpretation_behind.ensures.passes

pub returns-in-Some-Group-clause-passes : goal.returns-in-Some-Group-clause-passes
returns-in-Some-Group-clause-passes c =
    let is = at-some c.args.word c.in-Some-Group.field-0 keywords.Group c.in-Some-Group.is (rw c.in-Some-Group.is at c.in-Some-Group.field-0-is) in
    some-map c.pass_group_behind.result (λ rest a. goes-as is (group-goes a)) c.pass_group_behind.ensures.passes

pub returns-in_default-clause-passes : goal.returns-in_default-clause-passes
returns-in_default-clause-passes c = some-map c.pass_field_statement_behind.result (λ rest a. field-goes c.args.word a) c.pass_field_statement_behind.ensures.passes
