-- Values that are the number of a group or a level, as it is written or after the word Group or Level.
use Rattle.std.specs.Prelude.{ℕ, Bool, ◌&&◌, List, [], ◌∷◌, Option, Some, None, codes, drop, if◌then◌else◌, nat_le, nat_lt, take}
use Rattle.std.specs.Str.{str_eq_ignore_ascii_case}
use Rattle.std.specs.Str.Parse.{digits_value}
use Rattle.std.specs.Option.{option_and_then, option_map_or}
use Rattle.kx_basics.specs.declared.limits.TheConstants.{MOST_GROUPS, MOST_LEVELS}
use Rattle.kx_include.specs.IncludeFaults.{at}
use Rattle.kx_parse.specs.IncludeText.{is_number}
use Rattle.kx_lex.specs.declared.fault.At.{At}
use Rattle.kx_lex.specs.declared.fault.Fault.{Fault}
use Rattle.kx_lex.specs.declared.fault.Fault.TheVariants.{BadValue, GroupRange, LevelRange}
use Rattle.kx_tree.specs.declared.tree.Expression.{Expression}
use Rattle.kx_tree.specs.declared.tree.Term.{Term}
use Rattle.kx_tree.specs.declared.tree.Term.TheVariants.{Number, Word}
use Rattle.kx_merge.specs.Words.{single}
use Rattle.kx_merge.specs.declared.numbers.Counted.{Counted}
use Rattle.kx_merge.specs.declared.numbers.Counted.TheVariants.{Group, Level}

-- the word before the number of a group, or of a level
abbrev pub counted_word : Counted → List ℕ
counted_word Group = codes "group"
counted_word Level = codes "level"

-- the number after the word in any case; leading zeros don't count
abbrev pub word_number : Counted → List ℕ → Option ℕ
word_number what word = if str_eq_ignore_ascii_case (take 5 word) (counted_word what) && is_number (drop 5 word) then Some (digits_value 10 (drop 5 word)) else None

abbrev pub term_number : Counted → Term → Option ℕ
term_number what (Number number) = Some number.value
term_number what (Word word) = word_number what word.bytes
term_number what _ = None

-- a group or a level is one term without a sign, counted from 1
abbrev pub number_named : Counted → Expression → Option ℕ
number_named what e = single e.rest (term_number what e.first)

abbrev pub most_of : Counted → ℕ
most_of Group = MOST_GROUPS
most_of Level = MOST_LEVELS

abbrev pub is_within : Counted → ℕ → Bool
is_within what n = nat_lt 0 n && nat_le n (most_of what)

-- the same, where it is within the range
abbrev pub number_at : Counted → Expression → Option ℕ
number_at what e = option_and_then (λ n. if is_within what n then Some n else None) (number_named what e)

abbrev pub range_fault : Counted → At → Fault
range_fault Group at = GroupRange at
range_fault Level at = LevelRange at

-- of an expression that is to name a group or a level
abbrev pub number_faults : ℕ → Counted → Expression → List Fault
number_faults file what e = option_map_or (λ n. if is_within what n then [] else range_fault what (at file e.span) ∷ []) (number_named what e) (BadValue (at file e.span) ∷ [])
