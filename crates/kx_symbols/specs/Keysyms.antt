-- The keysyms that a key's lists stand for, level by level (libxkbcommon's keymap text format, key statements).
use Rattle.std.specs.Prelude.{ℕ, ◌+◌, ◌==◌, ◌||◌, nat_lt, Bool, List, [], ◌∷◌, map, Option, None, Some, if◌then◌else◌, codes}
use Rattle.std.specs.List.{flat_map}
use Rattle.std.specs.Option.{option_and_then, option_to_list}
use Rattle.std.specs.Str.{is_utf8, str_eq_ignore_ascii_case}
use Rattle.ks_core.specs.Table.{KeysymTable}
use Rattle.ks_core.specs.Names.{keysym_named}
use Rattle.kx_tree.specs.declared.tree.Element.{Element}
use Rattle.kx_tree.specs.declared.tree.Element.TheVariants as elements
use Rattle.kx_tree.specs.declared.tree.List.{List as Listed}
use Rattle.kx_tree.specs.declared.tree.BracePart.{BracePart}
use Rattle.kx_tree.specs.declared.tree.BracePart.TheVariants as parts
use Rattle.kx_tree.specs.declared.tree.Symbol.{Symbol}
use Rattle.kx_tree.specs.declared.tree.Symbol.TheVariants.{Word, Number}

-- what a level gives: its keysyms, or nothing
abbrev pub Level : Type 0
Level = Option (List ℕ)

abbrev pub is_no_symbol : List ℕ → Bool
is_no_symbol word = str_eq_ignore_ascii_case word (codes "any") || str_eq_ignore_ascii_case word (codes "nosymbol")

abbrev pub is_void_symbol : List ℕ → Bool
is_void_symbol word = str_eq_ignore_ascii_case word (codes "none") || str_eq_ignore_ascii_case word (codes "voidsymbol")

-- a name that no keysym has stands for none, and so does one of keysym 0; 16777215 is VoidSymbol
abbrev pub named : KeysymTable → List ℕ → Option ℕ
named names word = option_and_then (λ keysym. if keysym == 0 then None else Some keysym) (if is_utf8 word then keysym_named names word else None)

abbrev pub word_keysym : KeysymTable → List ℕ → Option ℕ
word_keysym names word = if is_no_symbol word then None else (if is_void_symbol word then Some 16777215 else named names word)

-- a number of one digit is that digit's keysym, another is the keysym of that number
abbrev pub symbol_keysym : KeysymTable → Symbol → Option ℕ
symbol_keysym names (Word word) = word_keysym names word.bytes
symbol_keysym names (Number number) = Some (if nat_lt number.value 10 then 48 + number.value else number.value)

abbrev pub part_keysyms : KeysymTable → BracePart → List ℕ
part_keysyms names (parts.Symbol symbol) = option_to_list (symbol_keysym names symbol)
part_keysyms names (parts.Call call) = []

-- where no keysym is left, nothing is given
abbrev pub given : List ℕ → Level
given [] = None
given (keysym ∷ keysyms) = Some (keysym ∷ keysyms)

abbrev pub element_level : KeysymTable → Element → Level
element_level names (elements.Symbol symbol) = given (option_to_list (symbol_keysym names symbol))
element_level names (elements.Call call) = None
element_level names (elements.Braces braces) = given (flat_map (part_keysyms names) braces.parts)

abbrev pub levels_of : KeysymTable → Listed → List Level
levels_of names list = map (element_level names) list.elements

-- ---- Under names, for clauses and proofs

abbrev pub keysym_of_text : KeysymTable → List ℕ → Option ℕ
keysym_of_text names word = if is_utf8 word then keysym_named names word else None
