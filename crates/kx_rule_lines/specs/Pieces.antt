-- The pieces of a rules text.
use Rattle.std.specs.Prelude.{ℕ, zero, suc, ◌+◌, ◌-◌, Bool, not, ◌==◌, ◌&&◌, ◌||◌, nat_le, List, [], ◌∷◌, length, take, drop, codes, if◌then◌else◌}
use Rattle.std.specs.List.{prefix_len, starts_with}
use Rattle.kx_rule_lines.specs.declared.scan.Kind.{Kind}
use Rattle.kx_rule_lines.specs.declared.scan.Kind.TheVariants.{NewLine, Bang, Equals, Star, Include, Group, Word, Bad}

-- a piece, with its text if it is a word or a group's name, and how many bytes of the text are left where it begins
pub record Piece : Type 0 where
  pub kind : Kind
  pub text : List ℕ
  pub left : ℕ

abbrev pub piece : Kind → List ℕ → ℕ → Piece
piece kind text left = record { kind = kind; text = text; left = left }

abbrev pub begins : List ℕ → List ℕ → Bool
begins front text = starts_with ◌==◌ text front

-- a blank, a tab or a carriage return
abbrev pub is_blank : ℕ → Bool
is_blank b = (b == 32 || b == 9) || b == 13

-- visible ASCII but the backslash
abbrev pub is_word_byte : ℕ → Bool
is_word_byte b = (nat_le 33 b && nat_le b 126) && not (b == 92)

abbrev pub word_len : List ℕ → ℕ
word_len = prefix_len is_word_byte

-- how far it is to the line's end
abbrev pub line_len : List ℕ → ℕ
line_len = prefix_len (λ b. not (b == 10))

-- how many bytes at the front say nothing: blanks, a comment, or a backslash that joins two lines
unfoldable pub gap_len : List ℕ → ℕ
gap_len text =
    if nat_le 1 (prefix_len is_blank text) then prefix_len is_blank text else
    if begins (codes "//") text then 2 + line_len (drop 2 text) else
    if begins (92 ∷ 10 ∷ []) text then 2 else
    if begins (92 ∷ 13 ∷ 10 ∷ []) text then 3 else 0

-- the piece that a text begins with; signs count where a piece begins, within a word they are part of it
unfoldable pub kind_at : List ℕ → Kind
kind_at text =
    if begins (10 ∷ []) text then NewLine else
    if begins (codes "!") text then Bang else
    if begins (codes "=") text then Equals else
    if begins (codes "*") text then Star else
    if begins (codes "$") text then (if nat_le 1 (word_len (drop 1 text)) then Group else Bad) else
    if begins (codes "include") text then Include else
    if nat_le 1 (word_len text) then Word else Bad

abbrev pub text_at : Kind → List ℕ → List ℕ
text_at Group text = take (word_len (drop 1 text)) (drop 1 text)
text_at Word text = take (word_len text) text
text_at _ text = []

abbrev pub piece_len : Kind → List ℕ → ℕ
piece_len Group text = 1 + word_len (drop 1 text)
piece_len Word text = word_len text
piece_len Include text = 7
piece_len _ text = 1

-- the pieces after the first so many bytes of a text
unfoldable pub pieces : List ℕ → ℕ → List Piece
pieces [] behind = []
pieces (b ∷ bs) (suc behind) = pieces bs behind
pieces (b ∷ bs) zero =
    if nat_le 1 (gap_len (b ∷ bs)) then pieces bs (gap_len (b ∷ bs) - 1) else
    piece (kind_at (b ∷ bs)) (text_at (kind_at (b ∷ bs)) (b ∷ bs)) (length (b ∷ bs)) ∷ pieces bs (piece_len (kind_at (b ∷ bs)) (b ∷ bs) - 1)
