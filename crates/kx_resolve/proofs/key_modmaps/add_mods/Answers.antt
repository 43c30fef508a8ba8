use Rattle.std.proofs.Common.{nat_eq}
use Rattle.indexmap.specs.IndexMap.{get}
use Rattle.kx_resolve.proofs.Masks.{one_more}
use Rattle.kx_resolve.proofs.key_modmaps.add_mods.Goals as goal

pub returns-clause-added : goal.returns-clause-added
returns-clause-added c = one_more c.args.code (get nat_eq c.args.by_code.now) (get nat_eq c.insert.new.self) c.mods_at.result c.args.mods c.with-mods.result c.in_ok-insert.ensures.updates.0 c.mods_at.ensures c.with-mods.ensures
