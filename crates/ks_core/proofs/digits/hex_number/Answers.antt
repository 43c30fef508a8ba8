use Rattle.ks_core.proofs.DigitsLemmas.{in_32_bits-hex}
use Rattle.ks_core.proofs.digits.hex_number.Goals as goal

pub unreachable-requires : goal.unreachable-requires
unreachable-requires c = let small = in_32_bits-hex c.args.digits.now c.requires.digits c.requires.few in let none = c.in-None.ensures in cc

pub returns : goal.returns
returns c = let small = in_32_bits-hex c.args.digits.now c.requires.digits c.requires.few in let some = c.in-Some.ensures in cc
