use Rattle.std.proofs.Common.{◌≡◌, sym, subst, refl}
use Rattle.kx_tree.specs.Sections.{Spells}
use Rattle.kx_rules.specs.Sources.{source_of}
use Rattle.roundtrip_text.proofs.Texts.{text_reads}
use Rattle.rules_tree.specs.Includes.{HasFourIncludes}
use Rattle.rules_tree.proofs.Texts.{made_lexes, plain_parts, unmarked, made_slices}
use Rattle.rules_tree.proofs.Trees.{made_reads}
use Rattle.rules_tree.proofs.made_source_has_four_includes.Goals as goal

pub returns-clause-some : goal.returns-clause-some
returns-clause-some k c writable =
    let r = text_reads (source_of c) (made_slices c) (made_lexes c writable) (unmarked c) in
    let m = made_reads (source_of c) c (plain_parts c writable) r.tokens r.begins in
    (r.tokens, m.tree, r.reading, m.spelled)

pub returns-clause-only : goal.returns-clause-only
returns-clause-only k c tokens tree writable reading spelled =
    let r = text_reads (source_of c) (made_slices c) (made_lexes c writable) (unmarked c) in
    let m = made_reads (source_of c) c (plain_parts c writable) r.tokens r.begins in
    let same = k.one_reading.ensures.one (source_of c) r.tokens tokens r.reading reading in
    subst (HasFourIncludes c) (k.one_tree.ensures.source (source_of c) tokens m.tree tree (subst (λ ts. Spells (source_of c) ts m.tree) same m.spelled) spelled) m.shows
