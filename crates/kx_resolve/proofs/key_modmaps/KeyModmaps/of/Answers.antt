use Rattle.std.proofs.Common.{nat_eq, refl}
use Rattle.indexmap.specs.IndexMap.{get}
use Rattle.kx_modmaps.specs.Maps.{key_mask}
use Rattle.kx_resolve.proofs.Masks.{modmap_is}
use Rattle.kx_resolve.specs.NamedKeys.{mapping_in}
use Rattle.kx_resolve.proofs.key_modmaps.KeyModmaps.of.Goals as goal

pub returns-clause-mapped : goal.returns-clause-mapped
returns-clause-mapped c = λ code.
    let m = mapping_in c.args.keys c.args.maps in
    modmap_is m (get nat_eq c.in_ok-firsts.firsts) (get nat_eq c.in_ok-by_keysym.by_keysym) (key_mask c.args.maps code) code refl c.in_ok-firsts.ensures.firsts c.in_ok-by_keysym.ensures.mods
