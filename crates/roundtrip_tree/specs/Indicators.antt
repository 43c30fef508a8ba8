-- What a tree shows of a printed indicator.
use Rattle.std.specs.Prelude.{List, [], ◌∷◌, ◌≡◌, codes}
use Rattle.kx_builder.specs.IndicatorMaps.{ResolvedIndicator}
use Rattle.kx_lex.specs.declared.token.Span.{Span}
use Rattle.kx_tree.specs.declared.tree.Field.{Field}
use Rattle.kx_tree.specs.declared.tree.Statement.{Statement}
use Rattle.kx_tree.specs.declared.tree.Statement.TheVariants as statements
use Rattle.kx_print.specs.Masks.{state_names}
use Rattle.kx_print.specs.Phrases.{hexadecimal}
use Rattle.kx_tables.specs.States.{state_bits}
use Rattle.kx_tables.specs.declared.rows.States.{States}
use Rattle.roundtrip_text.specs.Spelled.{set_words}
use Rattle.roundtrip_tree.specs.Shows.{AreShown, name_at}
use Rattle.roundtrip_tree.specs.ShowsLines.{Written, Words, Digits, Line, Set, IsLine}
use Rattle.roundtrip_tree.specs.Types.{mods_written}

abbrev pub states_written : States → Written
states_written states = Words (set_words state_names (state_bits states))

abbrev pub indicator_map_lines : ResolvedIndicator → List Line
indicator_map_lines d =
    Set (codes "whichModState") (states_written d.mod_states) ∷ Set (codes "modifiers") (mods_written d.mods)
    ∷ Set (codes "whichGroupState") (states_written d.group_states) ∷ Set (codes "groups") (Digits (hexadecimal d.groups) d.groups) ∷ []

pub record IsIndicator (d : ResolvedIndicator) (statement : Statement) : Type 0 where
  pub span : Span
  pub fields : List Field
  pub is : statement ≡ statements.Indicator (name_at d.name span) fields
  pub are : AreShown IsLine (indicator_map_lines d) fields
