-- How printed key types are read.
use Rattle.std.proofs.Common.{List, [], ◌∷◌, arith}
use Rattle.kx_builder.specs.Resolved.{ResolvedType}
use Rattle.kx_builder.specs.Seen.{type_seen}
use Rattle.kx_print.specs.Printed.{type_block}
use Rattle.kx_tables.specs.Content.{Content}
use Rattle.kx_tables.specs.declared.rows.EntryRow.{EntryRow}
use Rattle.kx_tables.specs.declared.rows.TypeRow.{TypeRow}
use Rattle.roundtrip_text.specs.Slices.{Lexes}
use Rattle.roundtrip_text.specs.Source.{EachOf, EntryFits, TypeFits}
use Rattle.roundtrip_text.specs.Types.{type_statement_slices}
use Rattle.roundtrip_text.proofs.Blocks.{Each, no_more, and_more, type_lexes}
use Rattle.roundtrip_text.proofs.Blocks.{EntryFits as EntryLexes}

-- a type has at most 64 levels
entries_lex : (t : ResolvedType) (es : List EntryRow) → TypeFits t → EachOf (EntryFits t) es → Each EntryLexes es
entries_lex t [] fits each = no_more
entries_lex t (e ∷ es) fits each =
    and_more (record { mods = each.0.mods; preserve = each.0.preserve; level = (let most = fits.levels in let within = each.0.level in omega (arith, most, within)) }) (entries_lex t es fits each.1)

pub type_statement_lexes : (c : Content) (t : TypeRow) → TypeFits (type_seen c t) → Lexes (type_block c t) (type_statement_slices (type_seen c t))
type_statement_lexes c t fits =
    type_lexes c t (record { name = fits.bytes; mods = fits.mods; levels = (let most = fits.levels in omega (arith, most)); entries = entries_lex (type_seen c t) (type_seen c t).entries fits fits.entries })
