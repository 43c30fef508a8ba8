-- What a tree shows of a printed key type.
use Rattle.std.specs.Prelude.{ℕ, List, [], ◌∷◌, ◌++◌, ◌≡◌, ◌==◌, codes, decimal, if◌then◌else◌}
use Rattle.std.specs.List.{flat_map}
use Rattle.kx_builder.specs.Resolved.{ResolvedType}
use Rattle.kx_lex.specs.declared.token.Span.{Span}
use Rattle.kx_mods.specs.Mods.{mask, mod_names}
use Rattle.kx_mods.specs.declared.mods.Mods.{Mods}
use Rattle.kx_tree.specs.declared.tree.Field.{Field}
use Rattle.kx_tree.specs.declared.tree.Statement.{Statement}
use Rattle.kx_tree.specs.declared.tree.Statement.TheVariants as statements
use Rattle.kx_tables.specs.declared.rows.EntryRow.{EntryRow}
use Rattle.roundtrip_text.specs.Spelled.{set_words}
use Rattle.roundtrip_tree.specs.Shows.{AreShown, name_at}
use Rattle.roundtrip_tree.specs.ShowsLines.{Written, Words, Digits, Quoted, Line, Set, SetAt, IsLine}

abbrev pub mods_written : Mods → Written
mods_written mods = Words (set_words mod_names (mask mods))

abbrev pub number_written : ℕ → Written
number_written n = Digits (decimal n) n

-- the level of an entry, and what it preserves
abbrev pub entry_shown : EntryRow → List Line
entry_shown e = SetAt (codes "map") (mods_written e.mods) (number_written e.level) ∷ (if mask e.preserve == 0 then [] else SetAt (codes "preserve") (mods_written e.mods) (mods_written e.preserve) ∷ [])

abbrev pub type_lines : ResolvedType → List Line
type_lines t = Set (codes "modifiers") (mods_written t.mods) ∷ (flat_map entry_shown t.entries ++ SetAt (codes "level_name") (number_written t.levels) (Quoted []) ∷ [])

pub record IsType (t : ResolvedType) (statement : Statement) : Type 0 where
  pub span : Span
  pub fields : List Field
  pub is : statement ≡ statements.KeyType (name_at t.name span) fields
  pub are : AreShown IsLine (type_lines t) fields
