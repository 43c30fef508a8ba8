use Rattle.std.proofs.Common.{refl}
use Rattle.std.proofs.lemmas.Option.{slice_get_read}
use Rattle.ks_core.proofs.BufferedOutLemmas.{writes_more}
use Rattle.kx_client_text.specs.Written.{alias_line}
use Rattle.kx_client_text.proofs.keycodes.write_aliases.Goals as goal

pub aliases-preserved : goal.aliases-preserved
aliases-preserved g c =
    let aliases = c.args.aliases.now in
    let at = slice_get_read aliases _ c.aliases.alias-index c.alias-item.result refl c.aliases-test.true c.alias-item.is in
    writes_more g.O.Out.written g.O.Out.failures c.args.out.now c.aliases.out c.write_alias.new.out c.args.buffered.now c.aliases.buffered c.write_alias.new.buffered alias_line aliases c.aliases.alias-index c.alias-item.result
    at c.aliases.invariant c.write_alias.ensures
