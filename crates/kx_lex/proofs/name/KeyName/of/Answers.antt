use Rattle.std.proofs.Common.{sym, ap, ◌∙◌}
use Rattle.std.proofs.lemmas.List.Sums.{AllPass-from_list_all}
use Rattle.std.specs.List.{list_all}
use Rattle.kx_basics.specs.KeyNames.{is_key_byte}
use Rattle.kx_lex.proofs.name.KeyName.of.Goals as goal

pub invariant_of-result : goal.invariant_of-result
invariant_of-result c = AllPass-from_list_all is_key_byte c.args.name.bytes (ap (list_all is_key_byte) (sym c.as_slice.ensures) ∙ sym c.are_key_bytes.ensures ∙ c.if-are_key_bytes.true)
