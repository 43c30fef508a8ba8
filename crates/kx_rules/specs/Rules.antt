-- The components that a rules text gives.
use Rattle.std.specs.Prelude.{ℕ, zero, suc, ◌+◌, ◌-◌, Bool, true, false, not, ◌==◌, ◌||◌, nat_le, List, [], ◌∷◌, ◌++◌, length, take, Option, None, Some, Result, Ok, Err, if◌then◌else◌}
use Rattle.std.specs.List.{count_by}
use Rattle.std.specs.Map.{lookup}
use Rattle.std.specs.Str.{bytes_eq}
use Rattle.kx_rules.specs.Expansions.{expanded, joined}
use Rattle.kx_rule_lines.specs.Lines.{Line, Blank, Inclusion, Listing, Heading, Rule, Broken, line_of, lines}
use Rattle.kx_rules.specs.Mappings.{Mapping, has_choice, mapping_of}
use Rattle.kx_rules.specs.Matches.{Groups, applies, members_of, with_group}
use Rattle.kx_rules.specs.Names.{Names, are_short}
use Rattle.kx_rule_lines.specs.Pieces.{Piece, pieces}
use Rattle.kx_rules.specs.Uses.{IsLeft, uses_of}
use Rattle.kx_rules.specs.declared.columns.Section.{Section}
use Rattle.kx_rules.specs.declared.columns.Section.TheVariants.{Keycodes, Types, Compat, Symbols, Geometry}
use Rattle.kx_rules.specs.declared.fault.Fault.{Fault}
use Rattle.kx_rules.specs.declared.fault.Fault.TheVariants.{LongName, TooMuch, Unexpected, NoComponents}
use Rattle.kx_rules.specs.declared.limits.TheConstants.{MOST_DEPTH, MOST_READ_BYTES}
use Rattle.kx_rules.specs.declared.passed.Passed.{Passed}
use Rattle.kx_rules.specs.declared.state.Rules.{Rules}
use Rattle.kx_rules.specs.declared.state.Rules.TheVariants.{NoRules, PassedOver, Under}
use Rattle.kx_rules.specs.declared.uses.Use.{Use}

pub record Components : Type 0 where
  pub keycodes : List ℕ
  pub types : List ℕ
  pub compat : List ℕ
  pub symbols : List ℕ

-- after a line: what rules may stand next, and what lasts
pub record State : Type 0 where
  pub rules : Rules
  pub groups : Groups
  pub components : Components
  -- how many bytes were read, and whether an include was left out for it
  pub read : ℕ
  pub is_full : Bool
  -- what the rules that applied took
  pub taken : List Use

-- after which no rules may stand
abbrev pub anew : State → State
anew s = record s { rules = NoRules }

abbrev pub has_rules : Rules → Bool
has_rules NoRules = false
has_rules _ = true

abbrev pub rules_of : Option Mapping → Rules
rules_of None = PassedOver
rules_of (Some mapping) = Under mapping

abbrev pub with_text : Section → Option (List ℕ) → Components → Components
with_text section None c = c
with_text Keycodes (Some text) c = record c { keycodes = joined c.keycodes text }
with_text Types (Some text) c = record c { types = joined c.types text }
with_text Compat (Some text) c = record c { compat = joined c.compat text }
with_text Symbols (Some text) c = record c { symbols = joined c.symbols text }
with_text Geometry (Some text) c = c

abbrev pub with_texts : Names → List Section → List Piece → Components → Components
with_texts names [] rights c = c
with_texts names (section ∷ sections) [] c = c
with_texts names (section ∷ sections) (value ∷ rights) c = with_texts names sections rights (with_text section (expanded names value.text 0) c)

-- of rules about options each that applies counts, of others the first
abbrev pub with_rule_under : Names → Mapping → List Piece → List Piece → State → State
with_rule_under names mapping lefts rights s =
    if applies names s.groups mapping lefts rights
    then record s { rules = (if has_choice mapping.columns then s.rules else PassedOver); components = with_texts names mapping.sections rights s.components; taken = s.taken ++ uses_of names s.groups mapping.columns lefts rights }
    else s

abbrev pub with_rule : Names → Rules → List Piece → List Piece → State → State
with_rule names (Under mapping) lefts rights s = with_rule_under names mapping lefts rights s
with_rule names _ lefts rights s = s

-- how far a text is read: to its end, or to where so many bytes are left and something unexpected begins
abbrev pub Reading : Type 0
Reading = State × Option ℕ

-- after a line; what it includes is handed in
unfoldable pub after : Names → (List ℕ → State → State) → State → Line → Reading
after names included s Blank = (s, None)
after names included s (Inclusion name) = (included name s, None)
after names included s (Listing name words cut) = (record (anew s) { groups = with_group s.groups name (members_of names words) }, cut)
after names included s (Heading lefts rights) = (record s { rules = rules_of (mapping_of names lefts rights) }, None)
after names included s (Rule lefts rights) = (with_rule names s.rules lefts rights s, None)
after names included s (Broken left) = (s, Some left)

abbrev pub go_on : Reading → (State → Reading) → Reading
go_on (s, None) next = next s
go_on (s, Some left) next = (s, Some left)

-- after lines one by one, up to the first that isn't whole
abbrev pub run : Names → (List ℕ → State → State) → State → List (List Piece) → Reading
run names included s [] = (s, None)
run names included s (line ∷ rest) = go_on (after names included s (line_of (has_rules s.rules) line)) (λ next. run names included next rest)

abbrev pub lines_of : List ℕ → List (List Piece)
lines_of text = lines [] (pieces text 0)

abbrev pub Texts : Type 0
Texts = List (List ℕ × List ℕ)

abbrev pub text_of : Texts → List ℕ → Option (List ℕ)
text_of texts name = lookup (bytes_eq name) texts

-- texts with one more, which takes the place of one of its name
abbrev pub with_named_text : Texts → List ℕ → List ℕ → Texts
with_named_text [] name text = (name, text) ∷ []
with_named_text (known ∷ texts) name text = if bytes_eq name known.0 then (known.0, text) ∷ texts else known ∷ with_named_text texts name text

abbrev pub is_room : State → List ℕ → Bool
is_room s text = nat_le (s.read + length text) MOST_READ_BYTES

abbrev pub opening : State → List ℕ → State
opening s text = record (anew s) { read = s.read + length text }

-- after an include, where includes may be nested so deep; one that isn't found or is too deep is passed over, and what is unexpected in a text ends that text alone
unfoldable pub included : ℕ → Names → Texts → List ℕ → State → State
included zero names texts name s = anew s
included (suc depth) names texts name s = elim (text_of texts name) [
  | None ↦ anew s
  | Some text ↦ (if is_room s text then anew (run names (included depth names texts) (opening s text) (lines_of text)).0 else record (anew s) { is_full = true })
]

abbrev pub at_first : ℕ → State
at_first read = record { rules = NoRules; groups = []; components = record { keycodes = []; types = []; compat = []; symbols = [] }; read = read; is_full = false; taken = [] }

abbrev pub is_some_empty : Components → Bool
is_some_empty c = (nat_le (length c.keycodes) 0 || nat_le (length c.types) 0) || (nat_le (length c.compat) 0 || nat_le (length c.symbols) 0)

-- the line in which so many bytes are left
abbrev pub line_number : List ℕ → ℕ → ℕ
line_number text left = 1 + count_by (λ b. b == 10) (take (length text - left) text)

abbrev pub outcome : List ℕ → Reading → Result Components Fault
outcome text (s, Some left) = Err (Unexpected (line_number text left))
outcome text (s, None) = if s.is_full then Err TooMuch else if is_some_empty s.components then Err NoComponents else Ok s.components

-- what is read of a whole text
abbrev pub whole : List ℕ → Texts → Names → Reading
whole text texts names = run names (included MOST_DEPTH names texts) (at_first (length text)) (lines_of text)

-- the components for names; the limits on names and on bytes are ours
unfoldable pub meaning : List ℕ → Texts → Names → Result Components Fault
meaning text texts names =
    if not (are_short names) then Err LongName else
    if not (nat_le (length text) MOST_READ_BYTES) then Err TooMuch else
    outcome text (whole text texts names)

-- what no rule of the text took is passed over
abbrev pub IsPassedOver : List ℕ → Texts → Names → Passed → Type 0
IsPassedOver text texts names passed = IsLeft names (whole text texts names).0.groups (whole text texts names).0.taken passed
