-- The faults of the statements of a keycodes body.
use Rattle.std.specs.Prelude.{ℕ, Bool, false, ◌||◌, nat_lt, List, [], ◌∷◌, ◌++◌, if◌then◌else◌, codes, is_some}
use Rattle.std.specs.Str.{str_eq_ignore_ascii_case}
use Rattle.kx_basics.specs.declared.limits.TheConstants.{GREATEST_CODE}
use Rattle.kx_lex.specs.declared.fault.Fault.{Fault}
use Rattle.kx_lex.specs.declared.fault.Fault.TheVariants.{CodeRange, UnknownField}
use Rattle.kx_lex.specs.declared.token.Span.{Span}
use Rattle.kx_lex.specs.declared.name.Number.{Number}
use Rattle.kx_tree.specs.declared.tree.FieldPlace.{FieldPlace}
use Rattle.kx_tree.specs.declared.tree.Statement.{Statement}
use Rattle.kx_tree.specs.declared.tree.Statement.TheVariants.{Keycode, Alias, IndicatorName, Field}
use Rattle.kx_include.specs.Expansion.{Body, End, Begin, Own, Inc}
use Rattle.kx_include.specs.IncludeFaults.{at}
use Rattle.kx_merge.specs.Faults.{name_faults}

-- the fields that are read and not used
abbrev pub is_limit : FieldPlace → Bool
is_limit place = if is_some place.member then false else (str_eq_ignore_ascii_case place.word.bytes (codes "minimum") || str_eq_ignore_ascii_case place.word.bytes (codes "maximum"))

-- those of a statement in a file, which has a first token and is a whole
abbrev pub said_faults : ℕ → Statement → Span → Span → List Fault
said_faults file (Keycode name code) first whole = name_faults file whole name ++ (if nat_lt GREATEST_CODE code.value then CodeRange (at file code.span) ∷ [] else [])
said_faults file (Alias name target) first whole = name_faults file whole name ++ name_faults file whole target
said_faults file (IndicatorName number name) first whole = []
said_faults file (Field field) first whole = if is_limit field.place then [] else UnknownField (at file field.place.word.span) ∷ []
said_faults file _ first whole = UnknownField (at file first) ∷ []

-- those of each statement, hidden or not, in the source or in a file that is included
abbrev pub faults_of : Body → List Fault
faults_of End = []
faults_of (Begin rest) = faults_of rest
faults_of (Own place stated rest) = said_faults place.file stated.statement stated.first stated.span ++ faults_of rest
faults_of (Inc mode group body rest) = faults_of body ++ faults_of rest

-- ---- Under names, for clauses and proofs

abbrev pub code_faults : ℕ → Number → List Fault
code_faults file code = if nat_lt GREATEST_CODE code.value then CodeRange (at file code.span) ∷ [] else []
