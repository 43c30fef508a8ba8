use Rattle.std.proofs.Common.{◌≡◌, ℕ, length, take, ap, arith}
use Rattle.std.proofs.lemmas.List.{length-take}
use Rattle.kx_key_fields.specs.declared.given.TheConstants.{MOST_KEPT_BYTES}
use Rattle.kx_key_fields.proofs.given.KeptName.of.Goals as goal

pub whole-requires : goal.whole-requires
whole-requires c =
    let same : length c.front_of.result.now ≡ length (take MOST_KEPT_BYTES c.args.name.now) = ap length c.front_of.ensures in
    let few = length-take {A = ℕ} MOST_KEPT_BYTES c.args.name.now in
    omega (arith, same, few)
