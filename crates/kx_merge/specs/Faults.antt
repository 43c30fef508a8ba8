-- The faults of fields whose values are of another kind.
use Rattle.std.specs.Prelude.{ℕ, if◌then◌else◌, length, nat_lt, ◌++◌, List, [], ◌∷◌, Option, Some, None}
use Rattle.std.specs.Option.{option_map_or}
use Rattle.kx_lex.specs.declared.fault.Fault.{Fault}
use Rattle.kx_lex.specs.declared.fault.Fault.TheVariants.{BadValue, TooMany}
use Rattle.kx_lex.specs.declared.token.Span.{Span}
use Rattle.kx_include.specs.IncludeFaults.{at}
use Rattle.kx_tree.specs.declared.tree.Expression.{Expression}
use Rattle.kx_tree.specs.declared.tree.Setting.{Setting}
use Rattle.kx_tree.specs.declared.tree.Setting.TheVariants.{Off, On, To}
use Rattle.kx_tree.specs.declared.tree.Value.TheVariants.{Expression as Expressed, Call as Called, List as Listed}
use Rattle.kx_lex.specs.declared.name.Name.{Name}
use Rattle.kx_basics.specs.declared.limits.TheConstants.{MOST_NAME_BYTES}

-- a name has at most 255 bytes; `whole` is the statement
abbrev pub name_faults : ℕ → Span → Name → List Fault
name_faults file whole name = if nat_lt MOST_NAME_BYTES (length name.bytes) then TooMany (at file whole) ∷ [] else []

abbrev pub expression_in : Setting → Option Expression
expression_in (To (Expressed e)) = Some e
expression_in _ = None

-- of a value that is no expression; where none is written, the fault is at the field, which is `whole`
abbrev pub other_faults : ℕ → Span → Setting → List Fault
other_faults file whole (To (Expressed e)) = []
other_faults file whole (To (Called call)) = BadValue (at file call.span) ∷ []
other_faults file whole (To (Listed list)) = BadValue (at file list.span) ∷ []
other_faults file whole Off = BadValue (at file whole) ∷ []
other_faults file whole On = BadValue (at file whole) ∷ []

-- of a value, where an expression has some faults
abbrev pub value_faults : ℕ → (Expression → List Fault) → Span → Setting → List Fault
value_faults file faults whole s = other_faults file whole s ++ option_map_or faults (expression_in s) []
