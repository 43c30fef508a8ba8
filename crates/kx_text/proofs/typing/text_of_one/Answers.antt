use Rattle.std.proofs.Common.{length, ap, arith, lit<}
use Rattle.kx_text.proofs.Encoding.{encode-most}
use Rattle.kx_text.proofs.typing.text_of_one.Goals as goal

pub push-requires : goal.push-requires
push-requires c =
    let most = encode-most c.typed.result in
    let none = ap length c.new-text.ensures in
    (lit< tt, omega (arith, most, none))
