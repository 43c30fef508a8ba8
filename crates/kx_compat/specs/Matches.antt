-- For which keys an interpretation is: for those with its keysym, or with any, where the modifiers that they are mapped to meet its
-- condition. `table` are the names of keysyms, `names` the virtual modifiers by number.
use Rattle.std.specs.Prelude.{ℕ, Bool, false, List, [], ◌∷◌, Option, None, Some, if◌then◌else◌, codes}
use Rattle.std.specs.Option.{option_and_then, option_map, option_map_or}
use Rattle.std.specs.Str.{str_eq_ignore_ascii_case}
use Rattle.ks_core.specs.Table.{KeysymTable}
use Rattle.kx_merge.specs.Words.{among, lone_word}
use Rattle.kx_include.specs.IncludeFaults.{at}
use Rattle.kx_lex.specs.declared.fault.Fault.{Fault}
use Rattle.kx_lex.specs.declared.fault.Fault.TheVariants.{BadValue, UnknownField}
use Rattle.kx_virtual_mods.specs.Masks.{mask_set, real_mask_faults}
use Rattle.kx_tree.specs.declared.tree.Argument.{Argument}
use Rattle.kx_tree.specs.declared.tree.Argument.TheVariants.{Plain}
use Rattle.kx_tree.specs.declared.tree.Call.{Call}
use Rattle.kx_tree.specs.declared.tree.Expression.{Expression}
use Rattle.kx_tree.specs.declared.tree.PlacedArgument.{PlacedArgument}
use Rattle.kx_tree.specs.declared.tree.Predicate.{Predicate}
use Rattle.kx_tree.specs.declared.tree.Predicate.TheVariants as predicates
use Rattle.kx_tree.specs.declared.tree.Symbol.{Symbol}
use Rattle.kx_tree.specs.declared.tree.Symbol.TheVariants.{Word, Number}
use Rattle.kx_symbols.specs.Keysyms.{is_no_symbol, symbol_keysym}
use Rattle.kx_mods.specs.declared.condition.Condition.{Condition}
use Rattle.kx_mods.specs.declared.condition.Condition.TheVariants.{Exactly, AllOf, NoneOf, AnyOf, AnyOfOrNone}
use Rattle.kx_compat.specs.declared.interpretation_match.InterpretationMatch.{InterpretationMatch}
use Rattle.kx_compat.specs.declared.interpretation_match.WantedKeysym.{WantedKeysym}
use Rattle.kx_compat.specs.declared.interpretation_match.WantedKeysym.TheVariants.{Any, Named}

abbrev pub is_any : Symbol → Bool
is_any (Word word) = is_no_symbol word.bytes
is_any (Number number) = false

abbrev pub wanted_keysym : KeysymTable → Symbol → Option WantedKeysym
wanted_keysym table symbol = option_map_or (λ k. Some (Named k)) (symbol_keysym table symbol) (if is_any symbol then Some Any else None)

-- ---- The condition, and the modifiers as a mask of real ones

abbrev pub Wanted : Type 0
Wanted = Condition × ℕ

-- read without regard to case
abbrev pub condition_words : List (List ℕ × Condition)
condition_words = (codes "exactly", Exactly) ∷ (codes "allOf", AllOf) ∷ (codes "noneOf", NoneOf) ∷ (codes "anyOf", AnyOf) ∷ (codes "anyOfOrNone", AnyOfOrNone) ∷ []

abbrev pub plain_mask : Argument → Option Expression
plain_mask (Plain e) = Some e
plain_mask _ = None

-- the one argument of a call, where it is a mask without a name
abbrev pub only_mask : List PlacedArgument → Option Expression
only_mask (a ∷ []) = plain_mask a.argument
only_mask _ = None

abbrev pub is_any_word : Expression → Bool
is_any_word e = option_map_or (λ w. str_eq_ignore_ascii_case w.bytes (codes "any")) (lone_word e) false

-- no predicate is AnyOfOrNone of all eight, the word Any is AnyOf of all, and a mask by itself is Exactly
abbrev pub predicate_wants : Option Predicate → Option Wanted
predicate_wants None = Some (AnyOfOrNone, 255)
predicate_wants (Some (predicates.Call call)) = option_and_then (λ condition. option_map (λ e. (condition, mask_set [] e)) (only_mask call.arguments)) (among condition_words call.word.bytes)
predicate_wants (Some (predicates.Mask e)) = Some (if is_any_word e then (AnyOf, 255) else (Exactly, mask_set [] e))

module _ (file : ℕ) (names : List (List ℕ)) where
  -- a predicate is about real modifiers alone
  abbrev pub predicate_faults : Option Predicate → List Fault
  predicate_faults None = []
  predicate_faults (Some (predicates.Call call)) = option_map_or (λ _. option_map_or (real_mask_faults file names) (only_mask call.arguments) (BadValue (at file call.span) ∷ [])) (among condition_words call.word.bytes) (UnknownField (at file call.word.span) ∷ [])
  predicate_faults (Some (predicates.Mask e)) = if is_any_word e then [] else real_mask_faults file names e

abbrev pub match_with : Option WantedKeysym → Option Wanted → Option InterpretationMatch
match_with (Some keysym) (Some wanted) = Some (record { keysym = keysym; condition = wanted.0; mask = wanted.1 })
match_with _ _ = None

abbrev pub match_of : KeysymTable → Symbol → Option Predicate → Option InterpretationMatch
match_of table symbol predicate = match_with (wanted_keysym table symbol) (predicate_wants predicate)

-- ---- Under names, for clauses and proofs

abbrev pub call_wants : Call → Option Wanted
call_wants call = option_and_then (λ condition. option_map (λ e. (condition, mask_set [] e)) (only_mask call.arguments)) (among condition_words call.word.bytes)

abbrev pub only_mask_faults : (file : ℕ) → (names : List (List ℕ)) → Call → Option Expression → List Fault
only_mask_faults file names call mask = option_map_or (real_mask_faults file names) mask (BadValue (at file call.span) ∷ [])

abbrev pub condition_faults : (file : ℕ) → (names : List (List ℕ)) → Call → Option Condition → List Fault
condition_faults file names call condition = option_map_or (λ _. option_map_or (real_mask_faults file names) (only_mask call.arguments) (BadValue (at file call.span) ∷ [])) condition (UnknownField (at file call.word.span) ∷ [])

abbrev pub mask_predicate_faults : (file : ℕ) → (names : List (List ℕ)) → Expression → List Fault
mask_predicate_faults file names e = if is_any_word e then [] else real_mask_faults file names e

abbrev pub mask_wants : Expression → Wanted
mask_wants e = if is_any_word e then (AnyOf, 255) else (Exactly, mask_set [] e)

abbrev pub keysym_among : Symbol → Option ℕ → Option WantedKeysym
keysym_among symbol keysym = option_map_or (λ k. Some (Named k)) keysym (if is_any symbol then Some Any else None)
