use Rattle.std.proofs.Common.{subst, ap, ◌∙◌, ◌≡◌}
use Rattle.ks_core.specs.BufferedOut.{Writes, Gathered}
use Rattle.ks_core.proofs.BufferedOutLemmas.{writes_then, writes_finish}
use Rattle.kx_image.specs.Image.{header_for}
use Rattle.kx_image.specs.Shape.{header_bytes}
use Rattle.kx_image.specs.declared.header.ImageVersion.TheVariants.{Two}
use Rattle.kx_image.proofs.writer.write.Goals as goal

pub returns : goal.returns
returns g c =
    let text : c.bytes.result ≡ header_bytes (header_for Two (g.T.Rows.content c.args.tables.now)) = c.bytes.ensures ∙ ap header_bytes c.header_of.ensures in
    let told = subst (λ t. Writes g.O.Out.written g.O.Out.failures c.args.out.now c.new-buffered.result c.write.new.out c.write.new.self t) text c.write.ensures in
    let first = subst (λ (p : Gathered). Writes g.O.Out.written g.O.Out.failures c.args.out.now p c.write.new.out c.write.new.self (header_bytes (header_for Two (g.T.Rows.content c.args.tables.now)))) c.new-buffered.ensures told in
    writes_finish g.O.Out.written g.O.Out.failures c.args.out.now c.write_body.new.out c.finish.new.out c.write_body.new.buffered c.finish.result _
    (writes_then g.O.Out.written g.O.Out.failures _ _ _ _ _ _ _ _ first c.write_body.ensures) c.finish.ensures
