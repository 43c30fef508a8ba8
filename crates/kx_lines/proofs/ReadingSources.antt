-- The source that is read, a byte at a time.
use Rattle.std.proofs.Common.{◌≡◌, ℕ, ◌==◌, true, false, List, [], ◌∷◌, ◌++◌, Option, None, Some, IfSome, drop, take, length, sym, ap, ◌∙◌, append_assoc, append-nil}
use Rattle.std.specs.Option.{option_map}
use Rattle.std.specs.Io.KnownBytes.{Consumes, IsAtEnd}
use Rattle.std.proofs.Math.Seq.{drop-append_seam, take-append_seam}
use Rattle.ks_core.specs.Lines.{lines_of}
use Rattle.kx_lines.specs.Input.{Came}
use Rattle.kx_lines.specs.Sources.{ReadsSource, is_mark, lines_behind, lines_in, source_in, source_of}
use Rattle.kx_lines.proofs.Lines.{EachFree, EachIs, Free, each_free_more, each_is_more, free_more, free_nothing, joined, joined-more, lines_behind-marked, lines_behind-none, lines_of-cut, lines_of-whole, source_of-marked, source_of-whole}
use Rattle.kx_lines.proofs.Reading.{came_more, within_at_end}

-- whole lines that are no mark were read, and a part of the next one
pub record SourceSoFar (old : Option (List ℕ)) (old_budget : ℕ) (new : Option (List ℕ)) (new_budget : ℕ) (text : List ℕ) (line_start : ℕ) : Type 0 where
  pub done : List (List ℕ)
  pub part : List ℕ
  pub text_is : text ≡ joined done ++ part
  pub start_is : line_start ≡ length (joined done)
  pub came : Came old old_budget new new_budget text
  pub done_free : EachFree done
  pub part_free : Free part
  pub unmarked : EachIs is_mark false done

pub source_byte : (old mid new : Option (List ℕ)) (k m n : ℕ) (text : List ℕ) (line_start byte : ℕ) → SourceSoFar old k mid m text line_start → Came mid m new n (byte ∷ []) → (byte == 10) ≡ false
    → SourceSoFar old k new n (text ++ byte ∷ []) line_start
source_byte old mid new k m n text line_start byte h came other =
    record {
      done = h.done;
      part = h.part ++ byte ∷ [];
      text_is = ap (λ t. t ++ byte ∷ []) h.text_is ∙ append_assoc (joined h.done) h.part (byte ∷ []);
      start_is = h.start_is;
      came = came_more old mid new k m n text (byte ∷ []) h.came came;
      done_free = h.done_free;
      part_free = free_more h.part byte h.part_free other;
      unmarked = h.unmarked;
    }

pub source_line : (old mid new : Option (List ℕ)) (k m n : ℕ) (text : List ℕ) (line_start : ℕ) (h : SourceSoFar old k mid m text line_start) → Came mid m new n (10 ∷ []) → is_mark h.part ≡ false
    → SourceSoFar old k new n (text ++ 10 ∷ []) (length (text ++ 10 ∷ []))
source_line old mid new k m n text line_start h came unmarked =
    let whole = ap (λ t. t ++ 10 ∷ []) h.text_is ∙ append_assoc (joined h.done) h.part (10 ∷ []) ∙ sym (joined-more h.done h.part) in
    record {
      done = h.done ++ h.part ∷ [];
      part = [];
      text_is = whole ∙ sym (append-nil (joined (h.done ++ h.part ∷ [])));
      start_is = ap length whole;
      came = came_more old mid new k m n text (10 ∷ []) h.came came;
      done_free = each_free_more h.done h.part h.done_free h.part_free;
      part_free = free_nothing;
      unmarked = each_is_more is_mark false h.done h.part h.unmarked unmarked;
    }

-- at the end of what is read there is no line after the source
pub source_ends : (old new later : Option (List ℕ)) (k n m : ℕ) (text : List ℕ) (line_start : ℕ) (h : SourceSoFar old k new n text line_start) → IsAtEnd new → is_mark h.part ≡ false
    → ReadsSource old k later m text false
source_ends old new later k n m text line_start h end unmarked =
    record {
      came = λ has. absurd cc;
      is = whole old new h.came.consumed end;
      lines = λ has. absurd cc;
      none = λ has. nothing old new h.came.consumed end;
      whole = λ has. within_at_end old new k n text h.came end;
    }
  where
    all_lines : lines_of text ≡ h.done ++ h.part ∷ []
    all_lines = ap lines_of h.text_is ∙ lines_of-whole h.done h.part h.done_free h.part_free

    at_end : (s rest : List ℕ) → s ≡ text ++ rest → rest ≡ [] → s ≡ text
    at_end s rest parted empty = parted ∙ ap (λ r. text ++ r) empty ∙ append-nil text

    whole : (a b : Option (List ℕ)) → Consumes a b text → IsAtEnd b → IfSome a (λ s. text ≡ source_in s)
    whole None b consumed over = tt
    whole (Some s) None consumed over = absurd consumed
    whole (Some s) (Some rest) consumed over =
        sym (ap (λ t. source_of (lines_of t)) (at_end s rest consumed over) ∙ ap source_of all_lines ∙ source_of-whole h.done h.part h.unmarked unmarked ∙ sym h.text_is)

    nothing : (a b : Option (List ℕ)) → Consumes a b text → IsAtEnd b → IfSome a (λ s. lines_in s ≡ [])
    nothing None b consumed over = tt
    nothing (Some s) None consumed over = absurd consumed
    nothing (Some s) (Some rest) consumed over =
        ap (λ t. lines_behind (lines_of t)) (at_end s rest consumed over) ∙ ap lines_behind all_lines
        ∙ lines_behind-none (h.done ++ h.part ∷ []) (each_is_more is_mark false h.done h.part h.unmarked unmarked)

-- a mark at the end of what is read
pub source_ends_marked : (old new later : Option (List ℕ)) (k n m : ℕ) (text : List ℕ) (line_start : ℕ) (h : SourceSoFar old k new n text line_start) → IsAtEnd new → is_mark h.part ≡ true
    → ReadsSource old k later m (joined h.done) false
source_ends_marked old new later k n m text line_start h end marked =
    record {
      came = λ has. absurd cc;
      is = whole old new h.came.consumed end;
      lines = λ has. absurd cc;
      none = λ has. nothing old new h.came.consumed end;
      whole = λ has. within_at_end old new k n text h.came end;
    }
  where
    all_lines : lines_of text ≡ h.done ++ h.part ∷ []
    all_lines = ap lines_of h.text_is ∙ lines_of-whole h.done h.part h.done_free h.part_free

    at_end : (s rest : List ℕ) → s ≡ text ++ rest → rest ≡ [] → s ≡ text
    at_end s rest parted empty = parted ∙ ap (λ r. text ++ r) empty ∙ append-nil text

    whole : (a b : Option (List ℕ)) → Consumes a b text → IsAtEnd b → IfSome a (λ s. joined h.done ≡ source_in s)
    whole None b consumed over = tt
    whole (Some s) None consumed over = absurd consumed
    whole (Some s) (Some rest) consumed over =
        sym (ap (λ t. source_of (lines_of t)) (at_end s rest consumed over) ∙ ap source_of all_lines ∙ source_of-marked h.done h.part [] h.unmarked marked)

    nothing : (a b : Option (List ℕ)) → Consumes a b text → IsAtEnd b → IfSome a (λ s. lines_in s ≡ [])
    nothing None b consumed over = tt
    nothing (Some s) None consumed over = absurd consumed
    nothing (Some s) (Some rest) consumed over =
        ap (λ t. lines_behind (lines_of t)) (at_end s rest consumed over) ∙ ap lines_behind all_lines ∙ lines_behind-marked h.done h.part [] h.unmarked marked

-- a mark with a line feed after it: lines of events follow
pub source_marked : (old mid new : Option (List ℕ)) (k m n : ℕ) (text : List ℕ) (line_start : ℕ) (h : SourceSoFar old k mid m text line_start) → Came mid m new n (10 ∷ []) → is_mark h.part ≡ true
    → ReadsSource old k new n (joined h.done) true
source_marked old mid new k m n text line_start h came marked =
    let all = came_more old mid new k m n text (10 ∷ []) h.came came in
    record {
      came = λ has. (text ++ 10 ∷ [], all);
      is = whole old new all.consumed;
      lines = λ has. behind old new all.consumed;
      none = λ has. absurd cc;
      whole = λ has. absurd cc;
    }
  where
    all_lines : (s rest : List ℕ) → s ≡ (text ++ 10 ∷ []) ++ rest → lines_of s ≡ h.done ++ h.part ∷ lines_of rest
    all_lines s rest parted = ap lines_of (parted ∙ ap (λ t. (t ++ 10 ∷ []) ++ rest) h.text_is) ∙ lines_of-cut h.done h.part rest h.done_free h.part_free

    whole : (a b : Option (List ℕ)) → Consumes a b (text ++ 10 ∷ []) → IfSome a (λ s. joined h.done ≡ source_in s)
    whole None b consumed = tt
    whole (Some s) None consumed = absurd consumed
    whole (Some s) (Some rest) consumed = sym (ap source_of (all_lines s rest consumed) ∙ source_of-marked h.done h.part (lines_of rest) h.unmarked marked)

    behind : (a b : Option (List ℕ)) → Consumes a b (text ++ 10 ∷ []) → IfSome a (λ s. option_map lines_of b ≡ Some (lines_in s))
    behind None b consumed = tt
    behind (Some s) None consumed = absurd consumed
    behind (Some s) (Some rest) consumed = ap Some (sym (ap lines_behind (all_lines s rest consumed) ∙ lines_behind-marked h.done h.part (lines_of rest) h.unmarked marked))

-- where the next line begins, what was read ends with the part of it
pub line_part : (old new : Option (List ℕ)) (k n : ℕ) (text : List ℕ) (line_start : ℕ) (h : SourceSoFar old k new n text line_start) → drop line_start text ≡ h.part
line_part old new k n text line_start h =
    ap (λ t. drop line_start t) h.text_is ∙ ap (λ i. drop i (joined h.done ++ h.part)) h.start_is ∙ drop-append_seam (joined h.done) h.part

pub line_front : (old new : Option (List ℕ)) (k n : ℕ) (text : List ℕ) (line_start : ℕ) (h : SourceSoFar old k new n text line_start) → take line_start text ≡ joined h.done
line_front old new k n text line_start h =
    ap (λ t. take line_start t) h.text_is ∙ ap (λ i. take i (joined h.done ++ h.part)) h.start_is ∙ take-append_seam (joined h.done) h.part
