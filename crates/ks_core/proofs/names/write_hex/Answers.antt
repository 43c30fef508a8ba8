use Rattle.std.proofs.Common.{◌++◌, ◌∷◌, [], length, ap, ◌∙◌, arith}
use Rattle.ks_core.proofs.NumberLemmas.{digits_most}
use Rattle.ks_core.proofs.names.write_hex.Goals as goal

pub push_hex-requires : goal.push_hex-requires
push_hex-requires c =
    let most = digits_most 8 c.args.number (omega arith) in
    let len = ap length (c.push_str.ensures.bytes ∙ ap (λ l. l ++ 48 ∷ 120 ∷ []) c.requires) in
    omega (arith, len)
