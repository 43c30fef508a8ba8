use Rattle.std.proofs.Common.{◌≡◌, ◌++◌, ◌∷◌, [], codes, get_or, map, take, sym, ap, ◌∙◌, subst}
use Rattle.std.proofs.lemmas.Option.{slice_get-get_or}
use Rattle.ks_core.specs.Names.{name_of_keysym}
use Rattle.kx_print.proofs.Listing.{Listed, listed_more}
use Rattle.kx_lines.proofs.Listings.{map-take-at}
use Rattle.kx_lines.proofs.listing.write_keysym_names.Goals as goal

pub loop-keysym-preserved : goal.loop-keysym-preserved
loop-keysym-preserved g c =
    let keysym = get_or c.args.keysyms.now c.loop-keysym.keysym-index 0 in
    let at = slice_get-get_or c.args.keysyms.now c.loop-keysym.keysym-index 0 c.loop-keysym-test.true in
    let name_of = name_of_keysym c.args.names.now in
    let done = map name_of (take c.loop-keysym.keysym-index c.args.keysyms.now) in
    let name : c.as_bytes.result.now ≡ name_of keysym = c.as_bytes.ensures.value ∙ c.as_str.ensures.value ∙ c.write_name.ensures.written in
    subst (λ pieces. Listed g.O.Out.written g.O.Out.failures (codes ",") c.args.out.now c.write_piece.new.out c.args.buffered.now c.write_piece.new.buffered (codes ",") pieces)
    (ap (λ n. done ++ n ∷ []) name ∙ sym (map-take-at name_of c.args.keysyms.now c.loop-keysym.keysym-index keysym at))
    (listed_more g.O.Out.written g.O.Out.failures (codes ",") c.args.out.now c.loop-keysym.out c.write_piece.new.out c.args.buffered.now c.loop-keysym.buffered c.write_piece.new.buffered c.loop-keysym.before.now done c.as_bytes.result.now c.loop-keysym.invariant c.write_piece.ensures)
