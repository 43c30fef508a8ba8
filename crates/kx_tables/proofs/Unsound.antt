-- A row that breaks a rule makes tables unsound.
use Rattle.std.specs.Prelude.{ℕ, List}
use Rattle.kx_tables.specs.Broken.{Breaks, RowBreaks}
use Rattle.kx_tables.specs.Content.{Content}
use Rattle.kx_tables.specs.Sound.{Sound, EachRow}
use Rattle.kx_tables.specs.declared.check.RecordKind.{RecordKind}
use Rattle.kx_tables.specs.declared.check.RecordKind.TheVariants.{Header, KeyType, Entry, Key, Group, Cell, Keysym, Indicator, GroupName, Name}

row_breaks : {X : Type 0} (xs : List X) (P : ℕ → X → Type 0) (i : ℕ) → RowBreaks xs P i → EachRow xs P → ⊥
row_breaks xs P i broken each = broken.2 (each i broken.0 broken.1)

pub breaks_unsound : (c : Content) (part : RecordKind) (i : ℕ) → Breaks c part i → Sound c → ⊥
breaks_unsound c Header i broken sound = broken.1 sound.counts
breaks_unsound c KeyType i broken sound = row_breaks c.types _ i broken sound.types
breaks_unsound c Entry i broken sound = broken.breaks (sound.entries broken.owner broken.key_type broken.owner_is i broken.entry broken.from broken.below broken.entry_is)
breaks_unsound c Key i broken sound = row_breaks c.keys _ i broken sound.keys
breaks_unsound c Group i broken sound = row_breaks c.groups _ i broken sound.groups
breaks_unsound c Cell i broken sound = row_breaks c.cells _ i broken sound.cells
breaks_unsound c Keysym i broken sound = row_breaks c.keysyms _ i broken sound.keysyms
breaks_unsound c Indicator i broken sound = row_breaks c.indicators _ i broken sound.indicators
breaks_unsound c GroupName i broken sound = row_breaks c.group_names _ i broken sound.group_names
breaks_unsound c Name i broken sound = row_breaks c.names _ i broken sound.names
