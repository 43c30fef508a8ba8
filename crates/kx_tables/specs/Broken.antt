-- Which row of tables that aren't sound breaks a rule.
use Rattle.std.specs.Prelude.{ℕ, List, ◌≡◌, ◌+◌, ◌<◌, ◌≤◌, Some, slice_get, sum_by, take}
use Rattle.kx_tables.specs.Content.{Content}
use Rattle.kx_basics.specs.Keysyms.{IsKeysym}
use Rattle.kx_tables.specs.Sound.{CountsHold, TypeHolds, EntryHolds, KeyHolds, GroupHolds, CellHolds, IndicatorHolds, GroupNameHolds, NameByteHolds}
use Rattle.kx_tables.specs.declared.check.RecordKind.{RecordKind}
use Rattle.kx_tables.specs.declared.check.RecordKind.TheVariants.{Header, KeyType, Entry, Key, Group, Cell, Keysym, Indicator, GroupName, Name}
use Rattle.kx_tables.specs.declared.rows.EntryRow.{EntryRow}
use Rattle.kx_tables.specs.declared.rows.TypeRow.{TypeRow}

-- the row at an index breaks P
abbrev pub RowBreaks : {X : Type 0} → List X → (ℕ → X → Type 0) → ℕ → Type 0
RowBreaks {X} xs P i = (x : X) × (slice_get xs i ≡ Some x) × (P i x → ⊥)

-- the entry at an index breaks the rules of the type that it belongs to; that type's entries begin where those before them end
pub record EntryBreaks (c : Content) (i : ℕ) : Type 0 where
  pub owner : ℕ
  pub key_type : TypeRow
  pub entry : EntryRow
  pub owner_is : slice_get c.types owner ≡ Some key_type
  pub placed : key_type.first_entry ≡ sum_by (λ (u : TypeRow). u.entries) (take owner c.types)
  pub from : key_type.first_entry ≤ i
  pub below : i < key_type.first_entry + key_type.entries
  pub entry_is : slice_get c.entries i ≡ Some entry
  pub breaks : EntryHolds c key_type i entry → ⊥

-- a row that breaks a rule; the header is the one row of its kind
abbrev pub Breaks : Content → RecordKind → ℕ → Type 0
Breaks c Header i = (i ≡ 0) × (CountsHold c → ⊥)
Breaks c KeyType i = RowBreaks c.types (TypeHolds c) i
Breaks c Entry i = EntryBreaks c i
Breaks c Key i = RowBreaks c.keys (KeyHolds c) i
Breaks c Group i = RowBreaks c.groups (GroupHolds c) i
Breaks c Cell i = RowBreaks c.cells (CellHolds c) i
Breaks c Keysym i = RowBreaks c.keysyms (λ j s. IsKeysym s) i
Breaks c Indicator i = RowBreaks c.indicators (IndicatorHolds c) i
Breaks c GroupName i = RowBreaks c.group_names (GroupNameHolds c) i
Breaks c Name i = RowBreaks c.names (NameByteHolds c) i
