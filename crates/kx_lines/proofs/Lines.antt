-- The lines of a text that is read a byte at a time.
use Rattle.std.proofs.Common.{◌≡◌, ◌≤◌, ℕ, zero, suc, ◌==◌, Bool, true, false, cond, List, [], ◌∷◌, ◌++◌, length, refl, sym, ap, ◌∙◌, arith, append_assoc, append-nil}
use Rattle.std.specs.List.{All, flat_map}
use Rattle.std.proofs.lemmas.Grind.{flat_map-append}
use Rattle.std.proofs.lemmas.List.{length-append}
use Rattle.std.proofs.lemmas.List.Elements.{All-append, All-nil}
use Rattle.std.proofs.lemmas.List.Splits.{slice_split_at, slice_split_none}
use Rattle.std.proofs.lemmas.List.Sums.{take_while-cons}
use Rattle.ks_core.specs.Lines.{lines_of}
use Rattle.kx_lines.specs.EventLines.{well_formed_lines, is_well_formed}
use Rattle.kx_lines.specs.Sources.{is_mark, source_of, lines_behind}

-- the lines with a line feed after each
abbrev pub ended : List ℕ → List ℕ
ended line = line ++ 10 ∷ []

abbrev pub joined : List (List ℕ) → List ℕ
joined lines = flat_map ended lines

-- a line has no line feed
pub record Free (line : List ℕ) : Type 0 where
  pub none : All (λ c. (c == 10) ≡ false) line

-- a test has this answer for each line
abbrev pub EachIs : (List ℕ → Bool) → Bool → List (List ℕ) → Type 0
EachIs test answer [] = Unit {0}
EachIs test answer (line ∷ lines) = (test line ≡ answer) × EachIs test answer lines

abbrev pub EachFree : List (List ℕ) → Type 0
EachFree [] = Unit {0}
EachFree (line ∷ lines) = Free line × EachFree lines

pub free_nothing : Free []
free_nothing = record { none = All-nil _ }

all_of_one : {X : Type 0} (P : X → Type 0) (x : X) → P x → All P (x ∷ [])
all_of_one P x here zero d within = here
all_of_one P x here (suc k) d within = absurd (omega arith)

pub free_more : (line : List ℕ) (byte : ℕ) → Free line → (byte == 10) ≡ false → Free (line ++ byte ∷ [])
free_more line byte free other = record { none = All-append (λ c. (c == 10) ≡ false) line (byte ∷ []) free.none (all_of_one (λ c. (c == 10) ≡ false) byte other) }

pub free_part : (line part : List ℕ) → Free line → All (λ c. (c == 10) ≡ false) part → Free (line ++ part)
free_part line part free more = record { none = All-append (λ c. (c == 10) ≡ false) line part free.none more }

pub each_free_more : (lines : List (List ℕ)) (line : List ℕ) → EachFree lines → Free line → EachFree (lines ++ line ∷ [])
each_free_more [] line free here = (here, tt)
each_free_more (first ∷ rest) line free here = (free.0, each_free_more rest line free.1 here)

pub each_is_more : (test : List ℕ → Bool) (answer : Bool) (lines : List (List ℕ)) (line : List ℕ) → EachIs test answer lines → test line ≡ answer → EachIs test answer (lines ++ line ∷ [])
each_is_more test answer [] line each here = (here, tt)
each_is_more test answer (first ∷ rest) line each here = (each.0, each_is_more test answer rest line each.1 here)

pub joined-more : (lines : List (List ℕ)) (line : List ℕ) → joined (lines ++ line ∷ []) ≡ joined lines ++ (line ++ 10 ∷ [])
joined-more lines line = flat_map-append ended lines (line ∷ []) ∙ ap (λ t. joined lines ++ t) (append-nil (ended line))

pub length-joined : (lines : List (List ℕ)) → length lines ≤ length (joined lines)
length-joined [] = omega arith
length-joined (line ∷ lines) =
    let rest = length-joined lines in
    omega (arith, length-append (line ++ 10 ∷ []) (joined lines), length-append line (10 ∷ []))

-- the lines of whole lines, and of what follows them
pub lines_of-joined : (lines : List (List ℕ)) (text : List ℕ) → EachFree lines → lines_of (joined lines ++ text) ≡ lines ++ lines_of text
lines_of-joined [] text free = refl
lines_of-joined (line ∷ lines) text free =
    ap lines_of shifted ∙ slice_split_at (λ c. c == 10) line 10 (joined lines ++ text) free.0.none refl ∙ ap (λ ls. line ∷ ls) (lines_of-joined lines text free.1)
  where
    shifted : ((line ++ 10 ∷ []) ++ joined lines) ++ text ≡ line ++ (10 ∷ (joined lines ++ text))
    shifted = simp append_assoc

pub lines_of-part : (line : List ℕ) → Free line → lines_of line ≡ line ∷ []
lines_of-part line free = slice_split_none (λ c. c == 10) line free.none

-- a text that ends with a line, and one that goes on after it
pub lines_of-whole : (lines : List (List ℕ)) (line : List ℕ) → EachFree lines → Free line → lines_of (joined lines ++ line) ≡ lines ++ line ∷ []
lines_of-whole lines line free here = lines_of-joined lines line free ∙ ap (λ ls. lines ++ ls) (lines_of-part line here)

pub lines_of-cut : (lines : List (List ℕ)) (line rest : List ℕ) → EachFree lines → Free line → lines_of (((joined lines ++ line) ++ 10 ∷ []) ++ rest) ≡ lines ++ line ∷ lines_of rest
lines_of-cut lines line rest free here =
    ap lines_of shifted ∙ lines_of-joined lines (line ++ 10 ∷ rest) free ∙ ap (λ ls. lines ++ ls) (slice_split_at (λ c. c == 10) line 10 rest here.none refl)
  where
    shifted : ((joined lines ++ line) ++ 10 ∷ []) ++ rest ≡ joined lines ++ (line ++ (10 ∷ rest))
    shifted = simp append_assoc

-- ---- Lines of events

pub well_formed_lines-append : (lines rest : List (List ℕ)) → EachIs is_well_formed true lines → well_formed_lines (lines ++ rest) ≡ lines ++ well_formed_lines rest
well_formed_lines-append [] rest formed = refl
well_formed_lines-append (line ∷ lines) rest formed =
    take_while-cons is_well_formed line (lines ++ rest) ∙ ap (λ b. cond b (line ∷ well_formed_lines (lines ++ rest)) []) formed.0 ∙ ap (λ ls. line ∷ ls) (well_formed_lines-append lines rest formed.1)

pub well_formed_lines-stop : (lines : List (List ℕ)) (line : List ℕ) (rest : List (List ℕ)) → EachIs is_well_formed true lines → is_well_formed line ≡ false → well_formed_lines (lines ++ line ∷ rest) ≡ lines
well_formed_lines-stop lines line rest formed bad =
    well_formed_lines-append lines (line ∷ rest) formed
    ∙ ap (λ ls. lines ++ ls) (take_while-cons is_well_formed line rest ∙ ap (λ b. cond b (line ∷ well_formed_lines rest) []) bad)
    ∙ append-nil lines

pub well_formed_lines-all : (lines : List (List ℕ)) → EachIs is_well_formed true lines → well_formed_lines lines ≡ lines
well_formed_lines-all lines formed = ap well_formed_lines (sym (append-nil lines)) ∙ well_formed_lines-append lines [] formed ∙ append-nil lines

-- ---- Sources

not_marked : (line : List ℕ) (one other : List ℕ) → is_mark line ≡ false → cond (is_mark line) one other ≡ other
not_marked line one other unmarked = ap (λ b. cond b one other) unmarked

-- without a mark the source is the text
pub source_of-whole : (lines : List (List ℕ)) (line : List ℕ) → EachIs is_mark false lines → is_mark line ≡ false → source_of (lines ++ line ∷ []) ≡ joined lines ++ line
source_of-whole [] line each unmarked = not_marked line [] line unmarked
source_of-whole (first ∷ []) line each unmarked =
    not_marked first [] _ each.0 ∙ ap (λ t. (first ++ 10 ∷ []) ++ t) (not_marked line [] line unmarked) ∙ ap (λ t. t ++ line) (sym (append-nil (first ++ 10 ∷ [])))
source_of-whole (first ∷ (next ∷ rest)) line each unmarked =
    not_marked first [] _ each.0 ∙ ap (λ t. (first ++ 10 ∷ []) ++ t) (source_of-whole (next ∷ rest) line each.1 unmarked)
    ∙ sym (append_assoc (first ++ 10 ∷ []) (joined (next ∷ rest)) line)

-- the source ends before the mark
pub source_of-marked : (lines : List (List ℕ)) (mark : List ℕ) (behind : List (List ℕ)) → EachIs is_mark false lines → is_mark mark ≡ true → source_of (lines ++ mark ∷ behind) ≡ joined lines
source_of-marked [] mark [] each marked = ap (λ b. cond b [] mark) marked
source_of-marked [] mark (next ∷ rest) each marked = ap (λ b. cond b [] ((mark ++ 10 ∷ []) ++ source_of (next ∷ rest))) marked
source_of-marked (first ∷ []) mark behind each marked = not_marked first [] _ each.0 ∙ ap (λ t. (first ++ 10 ∷ []) ++ t) (source_of-marked [] mark behind tt marked)
source_of-marked (first ∷ (next ∷ rest)) mark behind each marked = not_marked first [] _ each.0 ∙ ap (λ t. (first ++ 10 ∷ []) ++ t) (source_of-marked (next ∷ rest) mark behind each.1 marked)

pub lines_behind-none : (lines : List (List ℕ)) → EachIs is_mark false lines → lines_behind lines ≡ []
lines_behind-none [] each = refl
lines_behind-none (line ∷ lines) each = ap (λ b. cond b lines (lines_behind lines)) each.0 ∙ lines_behind-none lines each.1

pub lines_behind-marked : (lines : List (List ℕ)) (mark : List ℕ) (behind : List (List ℕ)) → EachIs is_mark false lines → is_mark mark ≡ true → lines_behind (lines ++ mark ∷ behind) ≡ behind
lines_behind-marked [] mark behind each marked = ap (λ b. cond b behind (lines_behind behind)) marked
lines_behind-marked (line ∷ lines) mark behind each marked = ap (λ b. cond b (lines ++ mark ∷ behind) (lines_behind (lines ++ mark ∷ behind))) each.0 ∙ lines_behind-marked lines mark behind each.1 marked
