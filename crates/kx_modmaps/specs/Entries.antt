-- What a modifier map statement names, and its faults.
use Rattle.std.specs.Prelude.{ℕ, ◌||◌, Bool, List, [], ◌∷◌, ◌++◌, fold, Option, None, Some, is_some, if◌then◌else◌, codes}
use Rattle.std.specs.List.{flat_map}
use Rattle.std.specs.Option.{option_map, option_map_or}
use Rattle.std.specs.Str.{str_eq_ignore_ascii_case}
use Rattle.ks_core.specs.Table.{KeysymTable}
use Rattle.kx_merge.specs.Faults.{name_faults}
use Rattle.kx_codes.specs.Codes.{Codes, code_of}
use Rattle.kx_include.specs.IncludeFaults.{at}
use Rattle.kx_lex.specs.declared.fault.Fault.{Fault}
use Rattle.kx_lex.specs.declared.fault.Fault.TheVariants.{BadValue, UnknownModifier}
use Rattle.kx_lex.specs.declared.name.Name.{Name}
use Rattle.kx_lex.specs.declared.token.Span.{Span}
use Rattle.kx_virtual_mods.specs.Masks.{real_mask, virtual_number}
use Rattle.kx_merge.specs.Offers.{with_name}
use Rattle.kx_tree.specs.declared.tree.Entry.{Entry}
use Rattle.kx_tree.specs.declared.tree.Entry.TheVariants.{KeyName, Symbol}
use Rattle.kx_tree.specs.declared.tree.Stated.{Stated}
use Rattle.kx_tree.specs.declared.tree.Statement.{Statement}
use Rattle.kx_tree.specs.declared.tree.Statement.TheVariants.{ModifierMap}
use Rattle.kx_symbols.specs.KeyFaults.{symbol_faults}
use Rattle.kx_symbols.specs.Keysyms.{symbol_keysym}
use Rattle.kx_modmaps.specs.declared.target.Target.{Target}
use Rattle.kx_modmaps.specs.declared.target.Target.TheVariants.{Key, Keysym}
use Rattle.kx_modmaps.specs.contracts.target.TargetPartialEq.TheImpl.{ghosts}

-- by the equality that derives
abbrev pub same_target : Target → Target → Bool
same_target = ghosts.eq

-- the word and the entries of a modifier map statement
abbrev pub map_in : Statement → Option (Name × List Entry)
map_in (ModifierMap word entries) = Some (word, entries)
map_in _ = None

abbrev pub is_all : List ℕ → Bool
is_all word = str_eq_ignore_ascii_case word (codes "all")

-- the mask of the one real modifier that a word names, or of none; `all` isn't one
abbrev pub word_mask : List ℕ → Option ℕ
word_mask word = if is_all word then None else real_mask word

-- an unknown name of a key and an unknown keysym name no target, and `Any` and `NoSymbol` name none
module _ (codes : Codes) (names : KeysymTable) where
  abbrev pub entry_target : Entry → Option Target
  entry_target (KeyName name) = option_map (λ code. Key code) (code_of codes name.bytes)
  entry_target (Symbol symbol) = option_map (λ keysym. Keysym keysym) (symbol_keysym names symbol)

  abbrev pub with_entry : List Target → Entry → List Target
  with_entry targets entry = option_map_or (with_name same_target targets) (entry_target entry) targets

  -- what entries name, each once, in order
  abbrev pub targets_of : List Entry → List Target
  targets_of entries = fold with_entry [] entries

module _ (file : ℕ) where
  -- a word that is read as a mask or declared is of the wrong kind; `modifiers` are the names of virtual modifiers
  abbrev pub other_faults : List (List ℕ) → Name → List Fault
  other_faults modifiers word = if is_all word.bytes || is_some (virtual_number modifiers word.bytes) then BadValue (at file word.span) ∷ [] else UnknownModifier (at file word.span) ∷ []

  abbrev pub word_faults : List (List ℕ) → Name → List Fault
  word_faults modifiers word = if is_some (word_mask word.bytes) then [] else other_faults modifiers word

  -- `whole` is the statement
  abbrev pub entry_faults : Span → Entry → List Fault
  entry_faults whole (KeyName name) = name_faults file whole name
  entry_faults whole (Symbol symbol) = symbol_faults file symbol

  -- those of a modifier map; those of other statements are none of these
  abbrev pub stated_faults : List (List ℕ) → Stated → List Fault
  stated_faults modifiers stated = option_map_or (λ map. word_faults modifiers map.0 ++ flat_map (entry_faults stated.span) map.1) (map_in stated.statement) []

-- ---- Under names, for clauses and proofs

abbrev pub with_target : List Target → Option Target → List Target
with_target targets target = option_map_or (with_name same_target targets) target targets
