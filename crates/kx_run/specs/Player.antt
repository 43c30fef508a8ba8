-- A player and a follower as contracts see them: what their tables hold, and the state that they keep.
use Rattle.std.specs.Prelude.{◌≡◌, ℕ, List, Option, pos}
use Rattle.kx_tables.specs.Content.{Content}
use Rattle.kx_tables.specs.Keymap.{keymap_of}
use Rattle.kx_tables.specs.declared.rows.KeyRow.{KeyRow}
use Rattle.kx_run.specs.Laws.{IsBounded}
use Rattle.kx_run.specs.Lookup.{TellsChoices, TellsKeys}
use Rattle.kx_run.specs.declared.choices.Choice.{Choice}
use Rattle.kx_run.specs.World.{World, group_modulo}
use Rattle.kx_run.specs.Replies.{Status, lit_in, status_in, told}
use Rattle.kx_run.specs.declared.reply.Components.{Components}

pub record Played : Type 0 where
  pub content : Content
  pub world : World

-- what a player keeps beside its tables and its keyboard
pub record IsKept (c : Content) (keys : List (Option KeyRow)) (choices : List Choice) (world : World) (groups : ℕ) (state : Components) (lit : ℕ) : Type 0 where
  pub all_groups : groups ≡ (keymap_of c).groups
  pub told_keys : TellsKeys keys c
  pub told_choices : TellsChoices choices c
  pub told_state : told state ≡ status_in (keymap_of c) world
  pub indicator_maps : lit ≡ lit_in (keymap_of c) (told state)
  pub bounded : IsBounded world

pub record Followed : Type 0 where
  pub content : Content
  pub status : Status

-- the state of a player is shown as that of another over the same tables
abbrev pub IsShownAs : Played → Played → Type 0
IsShownAs before after = status_in (keymap_of before.content) after.world ≡ status_in (keymap_of before.content) before.world

-- a keyboard that is told what is latched and locked: what is held stays held
abbrev pub taken_over : ℕ → Status → World → World
taken_over groups s world =
    record world {
      latched = s.latched;
      locked = s.locked;
      latched_group = group_modulo groups (pos s.latched_group);
      locked_group = group_modulo groups (pos s.locked_group);
    }
