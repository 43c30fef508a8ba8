use Rattle.std.proofs.Common.{[], sym, subst}
use Rattle.std.specs.Str.{IsUtf8}
use Rattle.ks_core.proofs.X11Lemmas.{x11-utf8}
use Rattle.ks_core.proofs.x11.text_at.Goals as goal

pub unreachable-requires : goal.unreachable-requires
unreachable-requires c = c.in-Err.ensures.cases.0 (subst IsUtf8 (sym c.bytes_at.ensures) (x11-utf8 c.args.place ([], 0) c.requires))
