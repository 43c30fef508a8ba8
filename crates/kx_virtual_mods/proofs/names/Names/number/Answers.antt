use Rattle.std.proofs.Common.{refl}
use Rattle.kx_virtual_mods.proofs.Keyed.{add_present}
use Rattle.kx_virtual_mods.proofs.Numbered.{numbered_any}
use Rattle.kx_virtual_mods.proofs.names.Names.number.Goals as goal

pub returns-in-Some-clause-added : goal.returns-in-Some-clause-added
returns-in-Some-clause-added c =
    let names = c.args.self.now in
    let name = c.args.name.now in
    add_present names names name (numbered_any names name c.in-Some.number c.in-Some.ensures) refl
