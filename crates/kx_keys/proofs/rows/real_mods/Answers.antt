use Rattle.std.proofs.Common.{rules, ◌<◌, ◌^◌}
use Rattle.kx_virtual_mods.specs.Sets.{real_of as stood_for}
use Rattle.kx_virtual_mods.specs.Standing.{stands_for}
use Rattle.kx_mods.specs.Mods.{mask}
use Rattle.kx_keys.proofs.Bits.{mods_is}
use Rattle.kx_keys.proofs.rows.real_mods.Goals as goal

pub returns-clause-value : goal.returns-clause-value
returns-clause-value c =
    let fits : mask c.real_of.result < 2 ^ 8 = search rules in
    mods_is c.real_of.result (stood_for (stands_for c.args.stands.now) c.args.set) fits (λ r within. c.real_of.ensures r)
