use Rattle.std.proofs.Common.{refl}
use Rattle.kx_ordered.proofs.ByHead.{by_bytes, by_heads}
use Rattle.kx_ordered.proofs.name_key.cmp_by_head.Goals as goal

pub returns-in-Equal : goal.returns-in-Equal
returns-in-Equal c = by_bytes c.args.bytes.now c.args.other.now c.args.bytes.now c.args.other.now c.args.head c.args.other_head refl refl c.requires.head c.requires.other c.cmp.result c.cmp.ensures c.cmp_bytes.result c.cmp_bytes.ensures c.in-Equal.is

pub returns-in_default : goal.returns-in_default
returns-in_default c = by_heads c.args.bytes.now c.args.other.now c.args.bytes.now c.args.other.now c.args.head c.args.other_head refl refl c.requires.head c.requires.other c.cmp.result c.cmp.ensures c.in_default.not-Equal
