-- The lines of a rules text, and what each says by itself.
use Rattle.std.specs.Prelude.{ℕ, zero, Bool, true, false, ◌&&◌, List, [], ◌∷◌, ◌++◌, take, drop, Option, None, Some, if◌then◌else◌}
use Rattle.std.specs.List.{prefix_len}
use Rattle.kx_rule_lines.specs.Pieces.{Piece}
use Rattle.kx_rule_lines.specs.declared.scan.Kind.{Kind}
use Rattle.kx_rule_lines.specs.declared.scan.Kind.TheVariants.{NewLine, Bang, Equals, Star, Include, Group, Word}

abbrev pub is_bang : Kind → Bool
is_bang Bang = true
is_bang _ = false

abbrev pub is_include : Kind → Bool
is_include Include = true
is_include _ = false

abbrev pub is_word : Kind → Bool
is_word Word = true
is_word _ = false

abbrev pub is_value : Kind → Bool
is_value Word = true
is_value Star = true
is_value Group = true
is_value _ = false

abbrev pub begins_include : List Piece → Bool
begins_include (a ∷ b ∷ []) = is_bang a.kind && is_include b.kind
begins_include _ = false

-- a line ends with its line end; a line that includes a text ends after its name, and what stands after that is the next one
abbrev pub closes : List Piece → Kind → Bool
closes line NewLine = true
closes line Word = begins_include line
closes line _ = false

-- the lines of pieces, of which the first began before them
unfoldable pub lines : List Piece → List Piece → List (List Piece)
lines [] [] = []
lines (a ∷ begun) [] = (a ∷ begun) ∷ []
lines begun (p ∷ ps) = if closes begun p.kind then (begun ++ p ∷ []) ∷ lines [] ps else lines (begun ++ p ∷ []) ps

pub data Line : Type 0 where
  Blank : Line
  -- ! include NAME
  Inclusion : List ℕ → Line
  -- ! $NAME = words; if it is cut, how many bytes are left where something unexpected begins
  Listing : List ℕ → List Piece → Option ℕ → Line
  -- ! words = words
  Heading : List Piece → List Piece → Line
  -- values = words
  Rule : List Piece → List Piece → Line
  -- something unexpected begins where so many bytes are left
  Broken : ℕ → Line

abbrev pub words_len : List Piece → ℕ
words_len = prefix_len (λ p. is_word p.kind)

abbrev pub values_len : List Piece → ℕ
values_len = prefix_len (λ p. is_value p.kind)

-- the words after a sign =, and what is unexpected if the line doesn't end after them
pub record Right : Type 0 where
  pub words : List Piece
  pub cut : Option ℕ

-- where something unexpected begins, if a line doesn't end here
abbrev pub cut_at : List Piece → Option ℕ
cut_at [] = Some zero
cut_at (p ∷ ps) = elim p.kind [ NewLine ↦ None | _ ↦ Some p.left ]

abbrev pub right_behind : List Piece → Right
right_behind ps = record { words = take (words_len ps) ps; cut = cut_at (drop (words_len ps) ps) }

-- the right side of a line from its sign = on
unfoldable pub right_of : List Piece → Right
right_of [] = record { words = []; cut = Some zero }
right_of (p ∷ ps) = elim p.kind [ Equals ↦ right_behind ps | _ ↦ record { words = []; cut = Some p.left } ]

abbrev pub uncut : Option ℕ → Line → Line
uncut None line = line
uncut (Some left) line = Broken left

abbrev pub sides : (List Piece → List Piece → Line) → ℕ → List Piece → Line
sides line len ps = let right = right_of (drop len ps) in uncut right.cut (line (take len ps) right.words)

abbrev pub inclusion : List Piece → Line
inclusion [] = Broken zero
inclusion (p ∷ ps) = elim p.kind [ Word ↦ Inclusion p.text | _ ↦ Broken p.left ]

abbrev pub listing : List ℕ → List Piece → Line
listing name ps = let right = right_of ps in Listing name right.words right.cut

-- after a !
abbrev pub told : List Piece → Line
told [] = Broken zero
told (p ∷ ps) = elim p.kind [ Include ↦ inclusion ps | Group ↦ listing p.text ps | Word ↦ sides Heading (words_len (p ∷ ps)) (p ∷ ps) | _ ↦ Broken p.left ]

-- a rule, where one may stand
abbrev pub ruled : Bool → ℕ → List Piece → Line
ruled true left ps = sides Rule (values_len ps) ps
ruled false left ps = Broken left

-- what a line says, where rules may stand or not
unfoldable pub line_of : Bool → List Piece → Line
line_of has_rules [] = Blank
line_of has_rules (p ∷ ps) = elim p.kind [ NewLine ↦ Blank | Bang ↦ told ps | _ ↦ ruled has_rules p.left (p ∷ ps) ]
