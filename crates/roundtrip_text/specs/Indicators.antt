-- The tokens of a printed indicator.
use Rattle.std.specs.Prelude.{List, [], ◌∷◌, ◌++◌, codes}
use Rattle.kx_builder.specs.IndicatorMaps.{ResolvedIndicator}
use Rattle.kx_lex.specs.declared.token.TokenKind.TheVariants.{Number}
use Rattle.kx_print.specs.Masks.{state_names}
use Rattle.kx_print.specs.Phrases.{hexadecimal}
use Rattle.kx_tables.specs.States.{state_bits}
use Rattle.kx_tables.specs.declared.rows.States.{States}
use Rattle.roundtrip_text.specs.Slices.{Slice, slice}
use Rattle.roundtrip_text.specs.Spelled.{word, text, terms, set_words, mods_terms, setting_slices, block_slices}

abbrev pub states_terms : States → List Slice
states_terms states = terms (set_words state_names (state_bits states))

abbrev pub indicator_map_slices : ResolvedIndicator → List Slice
indicator_map_slices d =
    setting_slices (codes "whichModState") (states_terms d.mod_states)
    ++ (setting_slices (codes "modifiers") (mods_terms d.mods)
    ++ (setting_slices (codes "whichGroupState") (states_terms d.group_states) ++ setting_slices (codes "groups") (slice Number (hexadecimal d.groups) ∷ [])))

abbrev pub indicator_statement_slices : ResolvedIndicator → List Slice
indicator_statement_slices d = block_slices (word (codes "indicator") ∷ text d.name ∷ []) (indicator_map_slices d)
