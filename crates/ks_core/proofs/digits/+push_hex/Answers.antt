use Rattle.std.proofs.Common.{◌≡◌, ◌+◌, ◌/◌, length, ap, ◌∙◌, arith, refl, append_assoc}
use Rattle.std.proofs.lemmas.Int.Digits.{length-digits_of_step}
use Rattle.std.proofs.lemmas.List.{length-append}
use Rattle.std.specs.Int.Digits.{digits_of}
use Rattle.ks_core.specs.Names.{hex_digits}
use Rattle.ks_core.proofs.DigitsLemmas.{hex_digits-step, length-hex_digits}
use Rattle.ks_core.proofs.digits.+push_hex.Goals as goal

pub push_hex-requires : goal.push_hex-requires
push_hex-requires t c =
    let longer = length-digits_of_step 16 c.args.number (omega arith) (omega arith) in (omega (arith, c.decreases), omega (arith, longer, c.requires))

pub push_ascii-requires : goal.push_ascii-requires
push_ascii-requires t c =
    let longer = length-digits_of_step 16 c.args.number (omega arith) (omega arith) in
    let whole : length c.push_hex.new.text.bytes ≡ length c.args.text.now.bytes + length (digits_of 16 (c.args.number / 16)) =
    ap length c.push_hex.ensures ∙ length-append c.args.text.now.bytes (hex_digits c.args.is_upper (c.args.number / 16))
    ∙ ap (λ n. length c.args.text.now.bytes + n) (length-hex_digits c.args.is_upper (c.args.number / 16)) in
    record { ascii = c.hex_digit.ensures.ascii; room = omega (arith, longer, whole, c.requires) }

pub returns-then-number-gt0 : goal.returns-then-number-gt0
returns-then-number-gt0 t c =
    let step = hex_digits-step c.args.is_upper c.args.number (omega arith) in
    c.push_ascii.ensures ∙ rw (c.push_hex.ensures, c.hex_digit.ensures.value, append_assoc, ← step) refl
