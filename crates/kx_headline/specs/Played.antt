-- What a keyboard answers by the statements of a source.
use Rattle.std.specs.Prelude.{◌≡◌, ℕ, List}
use Rattle.ks_core.specs.Table.{KeysymTable}
use Rattle.kx_include.specs.Source.{Handed}
use Rattle.kx_run.specs.Replies.{Answer, run}
use Rattle.kx_run.specs.World.{opening}
use Rattle.kx_run.specs.declared.direction.Event.{Event}
use Rattle.kx_tables.specs.Keymap.{Keymap}
use Rattle.kx_tool.specs.Compiled.{IsCompiled}

-- the answers of a keyboard with nothing held, latched or locked, over a keymap that the source is compiled to
pub record AnswersAs (source : List ℕ) (files : Handed) (names : KeysymTable) (events : List Event) (answers : List Answer) : Type 0 where
  pub keymap : Keymap
  pub compiled : IsCompiled source files names keymap
  pub answers_are : answers ≡ run keymap opening events
