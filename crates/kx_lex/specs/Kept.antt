-- What is kept in one of two forms: the bytes of a name, short or long, and the items of a row.
use Rattle.std.specs.Prelude.{ℕ, List, take}
use Rattle.kx_lex.specs.declared.kept.Kept.{Kept}
use Rattle.kx_lex.specs.declared.kept.Kept.TheVariants.{Short, Long}
use Rattle.kx_lex.specs.declared.name.SmallItems.{SmallItems}
use Rattle.kx_lex.specs.declared.name.SmallItems.TheVariants.{One, Others}

abbrev pub kept_bytes : Kept → List ℕ
kept_bytes (Short len bytes) = take len bytes
kept_bytes (Long bytes) = bytes.value.items

abbrev pub kept_items : {A : Type 0} → SmallItems A → List A
kept_items (One item) = item
kept_items (Others items) = items.items
