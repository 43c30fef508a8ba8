-- A rule that is passed over.
use Rattle.std.proofs.Common.{◌≡◌, ◌≢◌, ℕ, zero, suc, ◌+◌, ◌-◌, ◌<◌, ◌≤◌, nat_le, get_or, IfSome, ◌==◌, ◌&&◌, ◌||◌, not, Bool, cond, true, false, List, [], ◌∷◌, ◌++◌, length, take, drop, Option, None, Some, refl, sym, ap, ◌∙◌, subst, append_assoc, append-nil, arith, le-leb, leb-true, leb-false, ne_eqb}
use Rattle.std.proofs.lemmas.Bool.{eqb-false}
use Rattle.std.specs.List.{prefix_len}
use Rattle.kx_rule_lines.specs.Bytes.{begins_plain}
use Rattle.kx_rule_lines.specs.Lines.{Blank, Line, Right, Rule, begins_include, closes, cut_at, is_bang, is_include, is_value, is_word, line_of, lines, right_behind, right_of, ruled, sides, told, uncut, values_len, words_len}
use Rattle.kx_rules.specs.Names.{Names}
use Rattle.kx_rule_lines.specs.Pieces.{Piece, gap_len, is_blank, is_word_byte, kind_at, piece, piece_len, pieces, text_at, word_len}
use Rattle.kx_rules.specs.Rules.{State, after, go_on, has_rules, run, with_rule}
use Rattle.kx_rules.specs.Steps.{BeginsWith, IsBehind}
use Rattle.kx_rule_lines.specs.declared.scan.Kind.{Kind}
use Rattle.kx_rule_lines.specs.declared.scan.Kind.TheVariants.{NewLine, Bang, Equals, Star, Include, Group, Word, Bad}
use Rattle.kx_rules.specs.declared.state.Rules.TheVariants.{PassedOver}
use Rattle.kx_rule_lines.proofs.Scanning.{first_piece, no_gap, skip_gap}

begins_bang : List Piece → Bool
begins_bang [] = false
begins_bang (a ∷ rest) = is_bang a.kind

-- no line that begins otherwise is an include
not_include : (begun : List Piece) → begins_bang begun ≡ false → begins_include begun ≡ false
unfolding begins_bang
not_include [] h = refl
not_include (a ∷ []) h = refl
not_include (a ∷ b ∷ []) h = ap (λ t. t && is_include b.kind) h
not_include (a ∷ b ∷ c ∷ rest) h = refl

longer : (begun : List Piece) (p : Piece) → begins_bang begun ≡ false → is_bang p.kind ≡ false → begins_bang (begun ++ p ∷ []) ≡ false
unfolding begins_bang
longer [] p h k = k
longer (a ∷ begun) p h k = h

goes_on : (begun : List Piece) (p : Piece) (ps : List Piece) → closes begun p.kind ≡ false → lines begun (p ∷ ps) ≡ lines (begun ++ p ∷ []) ps
unfolding lines
goes_on [] p ps h = ap (λ t. cond t ((p ∷ []) ∷ lines [] ps) (lines (p ∷ []) ps)) h
goes_on (a ∷ begun) p ps h = ap (λ t. cond t (((a ∷ begun) ++ p ∷ []) ∷ lines [] ps) (lines ((a ∷ begun) ++ p ∷ []) ps)) h

ends : (begun : List Piece) (p : Piece) (ps : List Piece) → p.kind ≡ NewLine → lines begun (p ∷ ps) ≡ (begun ++ p ∷ []) ∷ lines [] ps
unfolding lines
ends [] p ps h = ap (λ k. cond (closes [] k) ((p ∷ []) ∷ lines [] ps) (lines (p ∷ []) ps)) h
ends (a ∷ begun) p ps h = ap (λ k. cond (closes (a ∷ begun) k) (((a ∷ begun) ++ p ∷ []) ∷ lines [] ps) (lines ((a ∷ begun) ++ p ∷ []) ps)) h

-- what no line begins with and what ends none
record IsInner (k : Kind) : Type 0 where
  pub no_bang : is_bang k ≡ false
  pub no_end : (begun : List Piece) → begins_bang begun ≡ false → closes begun k ≡ false

inner_value : (k : Kind) → is_value k ≡ true → IsInner k
inner_value Word h = record { no_bang = refl; no_end = not_include }
inner_value Star h = record { no_bang = refl; no_end = λ begun b. refl }
inner_value Group h = record { no_bang = refl; no_end = λ begun b. refl }
inner_value NewLine h = cc
inner_value Bang h = cc
inner_value Equals h = cc
inner_value Include h = cc
inner_value Bad h = cc

inner_word : (k : Kind) → is_word k ≡ true → IsInner k
inner_word Word h = record { no_bang = refl; no_end = not_include }
inner_word Star h = cc
inner_word Group h = cc
inner_word NewLine h = cc
inner_word Bang h = cc
inner_word Equals h = cc
inner_word Include h = cc
inner_word Bad h = cc

inner_equals : IsInner Equals
inner_equals = record { no_bang = refl; no_end = λ begun b. refl }

more-one : (n : ℕ) → 1 + n ≡ suc n
more-one n = omega arith

record IsPassed (n : ℕ) (begun ps : List Piece) : Type 0 where
  pub same : lines begun ps ≡ lines (begun ++ take n ps) (drop n ps)
  pub no_bang : begins_bang (begun ++ take n ps) ≡ false

none_passed : (begun ps : List Piece) → begins_bang begun ≡ false → IsPassed 0 begun ps
none_passed begun [] h = record { same = ap (λ b. lines b []) (sym (append-nil begun)); no_bang = ap begins_bang (append-nil begun) ∙ h }
none_passed begun (p ∷ ps) h = record { same = ap (λ b. lines b (p ∷ ps)) (sym (append-nil begun)); no_bang = ap begins_bang (append-nil begun) ∙ h }

one_passed : (n : ℕ) (begun ps : List Piece) (p : Piece) → begins_bang begun ≡ false → IsInner p.kind → IsPassed n (begun ++ p ∷ []) ps → IsPassed (suc n) begun (p ∷ ps)
one_passed n begun ps p h inner rest = record {
  same = goes_on begun p ps (inner.no_end begun h) ∙ rest.same ∙ ap (λ b. lines b (drop n ps)) (append_assoc begun (p ∷ []) (take n ps));
  no_bang = ap begins_bang (sym (append_assoc begun (p ∷ []) (take n ps))) ∙ rest.no_bang;
}

module _ (test : Kind → Bool) (inner : (k : Kind) → test k ≡ true → IsInner k) where
  len : List Piece → ℕ
  len = prefix_len (λ p. test p.kind)

  passed : (begun ps : List Piece) → begins_bang begun ≡ false → IsPassed (len ps) begun ps
  unfolding len
  passed begun [] h = none_passed begun [] h
  passed begun (p ∷ ps) h = by (test p.kind) refl (passed (begun ++ p ∷ []) ps)
    where
      by : (t : Bool) → test p.kind ≡ t → (begins_bang (begun ++ p ∷ []) ≡ false → IsPassed (len ps) (begun ++ p ∷ []) ps) → IsPassed (cond t (1 + len ps) 0) begun (p ∷ ps)
      by true e rest = subst (λ n. IsPassed n begun (p ∷ ps)) (sym (more-one (len ps))) (one_passed (len ps) begun ps p h (inner p.kind e) (rest (longer begun p h (inner p.kind e).no_bang)))
      by false e rest = none_passed begun (p ∷ ps) h

  -- after the same pieces stands what is put there
  left : (ps ys : List Piece) (p : Piece) → test p.kind ≡ false → drop (len (take (len ps) ps ++ p ∷ ys)) (take (len ps) ps ++ p ∷ ys) ≡ p ∷ ys
  unfolding len
  left [] ys p h = ap (λ t. drop (cond t (1 + len ys) 0) (p ∷ ys)) h
  left (q ∷ ps) ys p h = by (test q.kind) refl (left ps ys p h)
    where
      by : (t : Bool) → test q.kind ≡ t → drop (len (take (len ps) ps ++ p ∷ ys)) (take (len ps) ps ++ p ∷ ys) ≡ p ∷ ys → drop (len (take (cond t (1 + len ps) 0) (q ∷ ps) ++ p ∷ ys)) (take (cond t (1 + len ps) 0) (q ∷ ps) ++ p ∷ ys) ≡ p ∷ ys
      by true e rest =
          ap (λ n. drop (len (take n (q ∷ ps) ++ p ∷ ys)) (take n (q ∷ ps) ++ p ∷ ys)) (more-one (len ps))
          ∙ ap (λ t. drop (cond t (1 + len (take (len ps) ps ++ p ∷ ys)) 0) (q ∷ (take (len ps) ps ++ p ∷ ys))) e
          ∙ ap (λ n. drop n (q ∷ (take (len ps) ps ++ p ∷ ys))) (more-one (len (take (len ps) ps ++ p ∷ ys)))
          ∙ rest
      by false e rest = ap (λ t. drop (cond t (1 + len ys) 0) (p ∷ ys)) h

  first : (ps ys : List Piece) (p : Piece) (P : List Piece → Type 0) → P (p ∷ ys) → ((q : Piece) (qs : List Piece) → test q.kind ≡ true → P (q ∷ qs)) → P (take (len ps) ps ++ p ∷ ys)
  unfolding len
  first [] ys p P none some = none
  first (q ∷ ps) ys p P none some = by (test q.kind) refl
    where
      by : (t : Bool) → test q.kind ≡ t → P (take (cond t (1 + len ps) 0) (q ∷ ps) ++ p ∷ ys)
      by true e = subst (λ n. P (take n (q ∷ ps) ++ p ∷ ys)) (sym (more-one (len ps))) (some q (take (len ps) ps ++ p ∷ ys) e)
      by false e = none

IsRuled : List Piece → Type 0
IsRuled line = line_of true line ≡ sides Rule (values_len line) line

ruled_kind : (k : Kind) (nothing other line : Line) → is_value k ≡ true → elim k as (λ _. Line) [ NewLine ↦ nothing | Bang ↦ other | _ ↦ line ] ≡ line
ruled_kind Word nothing other line h = refl
ruled_kind Star nothing other line h = refl
ruled_kind Group nothing other line h = refl
ruled_kind NewLine nothing other line h = cc
ruled_kind Bang nothing other line h = cc
ruled_kind Equals nothing other line h = refl
ruled_kind Include nothing other line h = refl
ruled_kind Bad nothing other line h = refl

ruled_value : (q : Piece) (qs : List Piece) → is_value q.kind ≡ true → IsRuled (q ∷ qs)
unfolding IsRuled line_of
ruled_value q qs h = ruled_kind q.kind Blank (told qs) (ruled true q.left (q ∷ qs)) h

ruled_equals : (q : Piece) (qs : List Piece) → q.kind ≡ Equals → IsRuled (q ∷ qs)
unfolding IsRuled line_of
ruled_equals q qs h = ap (λ k. elim k as (λ _. Line) [ NewLine ↦ Blank | Bang ↦ told qs | _ ↦ ruled true q.left (q ∷ qs) ]) h

cut_kind : (k : Kind) (left : ℕ) → k ≡ NewLine → elim k as (λ _. Option ℕ) [ NewLine ↦ None | _ ↦ Some left ] ≡ None
cut_kind k left h = ap (λ j. elim j as (λ _. Option ℕ) [ NewLine ↦ None | _ ↦ Some left ]) h

no_cut : (p : Piece) (ps : List Piece) → p.kind ≡ NewLine → cut_at (p ∷ ps) ≡ None
no_cut p ps h = cut_kind p.kind p.left h

right_of_equals : (p : Piece) (ps : List Piece) → p.kind ≡ Equals → right_of (p ∷ ps) ≡ right_behind ps
unfolding right_of
right_of_equals p ps h = ap (λ k. elim k as (λ _. Right) [ Equals ↦ right_behind ps | _ ↦ record { words = []; cut = Some p.left } ]) h

module _ (ps qs rs : List Piece) (eq end : Piece) (is_eq : eq.kind ≡ Equals) (is_end : end.kind ≡ NewLine) (behind_values : drop (values_len ps) ps ≡ eq ∷ qs) (behind_words : drop (words_len qs) qs ≡ end ∷ rs) where
  values : List Piece
  values = take (values_len ps) ps

  words : List Piece
  words = take (words_len qs) qs

  line : List Piece
  line = values ++ eq ∷ (words ++ end ∷ [])

  not_word : (k : Kind) → k ≡ NewLine → is_word k ≡ false
  not_word k h = ap is_word h

  not_value : (k : Kind) → k ≡ Equals → is_value k ≡ false
  not_value k h = ap is_value h

  line_is : ((values ++ eq ∷ []) ++ words) ++ end ∷ [] ≡ line
  unfolding line
  line_is = append_assoc (values ++ eq ∷ []) words (end ∷ []) ∙ append_assoc values (eq ∷ []) (words ++ end ∷ [])

  first_line : lines [] ps ≡ line ∷ lines [] rs
  unfolding values words len begins_bang
  first_line =
      let a = passed is_value inner_value [] ps refl in
      let b = passed is_word inner_word (values ++ eq ∷ []) qs (longer values eq a.no_bang (ap is_bang is_eq)) in
      a.same
      ∙ ap (λ xs. lines values xs) behind_values
      ∙ goes_on values eq qs (ap (closes values) is_eq)
      ∙ b.same
      ∙ ap (λ xs. lines ((values ++ eq ∷ []) ++ words) xs) behind_words
      ∙ ends ((values ++ eq ∷ []) ++ words) end rs is_end
      ∙ ap (λ l. l ∷ lines [] rs) line_is

  right_whole : (right_of (drop (values_len line) line)).cut ≡ None
  unfolding line values words len
  right_whole =
      ap (λ xs. (right_of xs).cut) (left is_value inner_value ps (words ++ end ∷ []) eq (not_value eq.kind is_eq))
      ∙ ap (λ (r : Right). r.cut) (right_of_equals eq (words ++ end ∷ []) is_eq)
      ∙ ap cut_at (left is_word inner_word qs [] end (not_word end.kind is_end))
      ∙ no_cut end [] is_end

  is_rule : line_of true line ≡ Rule (take (values_len line) line) (right_of (drop (values_len line) line)).words
  unfolding line values IsRuled len
  is_rule =
      first is_value inner_value ps (words ++ end ∷ []) eq IsRuled (ruled_equals eq (words ++ end ∷ []) is_eq) ruled_value
      ∙ ap (λ cut. uncut cut (Rule (take (values_len line) line) (right_of (drop (values_len line) line)).words)) right_whole

  module _ (names : Names) (inc : List ℕ → State → State) (s : State) (over : s.rules ≡ PassedOver) where
    nothing : (lefts rights : List Piece) → with_rule names s.rules lefts rights s ≡ s
    nothing lefts rights = ap (λ r. with_rule names r lefts rights s) over

    after_rule : after names inc s (line_of (has_rules s.rules) line) ≡ (s, None)
    unfolding after
    after_rule =
        ap (λ r. after names inc s (line_of (has_rules r) line)) over
        ∙ ap (after names inc s) is_rule
        ∙ ap (λ (t : State). (t, None)) (nothing (take (values_len line) line) (right_of (drop (values_len line) line)).words)

    skipped : run names inc s (lines [] rs) ≡ run names inc s (lines [] ps)
    skipped = sym (ap (run names inc s) first_line ∙ ap (λ r. go_on r (λ next. run names inc next (lines [] rs))) after_rule)

pub behind_rule : (ps qs rs : List Piece) → IsBehind is_value Equals ps qs → IsBehind is_word NewLine qs rs → (names : Names) (inc : List ℕ → State → State) (s : State) → s.rules ≡ PassedOver → run names inc s (lines [] rs) ≡ run names inc s (lines [] ps)
behind_rule ps qs rs a b names inc s over = skipped ps qs rs a.0 b.0 a.1 b.1 a.2 b.2 names inc s over

-- one more piece that passes a test
pub behind_one : (test : Kind → Bool) (kind : Kind) (before all ps rest : List Piece) → all ≡ before → BeginsWith test all ps → IsBehind test kind ps rest → IsBehind test kind before rest
behind_one test kind before all ps rest same first b = (
  b.0,
  b.1,
  ap (λ qs. drop (prefix_len (λ q. test q.kind) qs) qs) (sym same ∙ first.2)
      ∙ ap (λ t. drop (cond t (1 + prefix_len (λ (q : Piece). test q.kind) ps) 0) (first.0 ∷ ps)) first.1
      ∙ ap (λ n. drop n (first.0 ∷ ps)) (more-one (prefix_len (λ (q : Piece). test q.kind) ps))
      ∙ b.2,
)

none_passes : (test : Kind → Bool) (before all ps : List Piece) (p : Piece) → all ≡ before → all ≡ p ∷ ps → test p.kind ≡ false → drop (prefix_len (λ (q : Piece). test q.kind) before) before ≡ p ∷ ps
none_passes test before all ps p same is fails =
    ap (λ qs. drop (prefix_len (λ (q : Piece). test q.kind) qs) qs) (sym same ∙ is)
    ∙ ap (λ t. drop (cond t (1 + prefix_len (λ (q : Piece). test q.kind) ps) 0) (p ∷ ps)) fails

-- single bytes
one_byte : (b : ℕ) (bs : List ℕ) (kind : Kind) → gap_len (b ∷ bs) ≡ 0 → kind ≡ kind_at (b ∷ bs) → [] ≡ text_at kind (b ∷ bs) → 1 ≡ piece_len kind (b ∷ bs) → pieces (b ∷ bs) 0 ≡ piece kind [] (length (b ∷ bs)) ∷ pieces bs 0
one_byte b bs kind none is shown len = first_piece (b ∷ bs) [] kind 1 none (omega arith) is shown len (omega arith)

equals_first : (bs : List ℕ) → pieces (61 ∷ bs) 0 ≡ piece Equals [] (length (61 ∷ bs)) ∷ pieces bs 0
unfolding kind_at gap_len
equals_first bs = one_byte 61 bs Equals refl refl refl refl

end_first : (bs : List ℕ) → pieces (10 ∷ bs) 0 ≡ piece NewLine [] (length (10 ∷ bs)) ∷ pieces bs 0
unfolding kind_at gap_len
end_first bs = one_byte 10 bs NewLine refl refl refl refl

star_first : (bs : List ℕ) → pieces (42 ∷ bs) 0 ≡ piece Star [] (length (42 ∷ bs)) ∷ pieces bs 0
unfolding kind_at gap_len
star_first bs = one_byte 42 bs Star refl refl refl refl

take_whole : (bs : List ℕ) (n : ℕ) → length bs ≤ n → take n bs ≡ bs
take_whole [] zero h = refl
take_whole [] (suc n) h = refl
take_whole (b ∷ bs) zero h = absurd (omega (arith, h))
take_whole (b ∷ bs) (suc n) h = ap (λ cs. b ∷ cs) (take_whole bs n (omega (arith, h)))

-- a text is its first byte and what stands after it
split : (text : List ℕ) (b : ℕ) → 1 ≤ length text → get_or text 0 0 ≡ b → text ≡ b ∷ take (length text - 1) (drop 1 text)
split [] b h is = absurd (omega (arith, h))
split (c ∷ cs) b h is = ap (λ d. d ∷ cs) is ∙ ap (λ ds. b ∷ ds) (sym (take_whole cs (length (c ∷ cs) - 1) (omega arith)))

module _ (text : List ℕ) (some : 1 ≤ length text) where
  rest : List ℕ
  rest = take (length text - 1) (drop 1 text)

  pub behind_sign : (before : List Piece) → get_or text 0 0 ≡ 61 → pieces text 0 ≡ before → IsBehind is_value Equals before (pieces (take (length text - 1) (drop 1 text)) 0)
  unfolding rest
  behind_sign before is same =
      (piece Equals [] (length (61 ∷ rest)), refl, none_passes is_value before (pieces text 0) (pieces rest 0) (piece Equals [] (length (61 ∷ rest))) same (ap (λ t. pieces t 0) (split text 61 some is) ∙ equals_first rest) refl)

  pub behind_end : (before : List Piece) → get_or text 0 0 ≡ 10 → pieces text 0 ≡ before → IsBehind is_word NewLine before (pieces (take (length text - 1) (drop 1 text)) 0)
  unfolding rest
  behind_end before is same =
      (piece NewLine [] (length (10 ∷ rest)), refl, none_passes is_word before (pieces text 0) (pieces rest 0) (piece NewLine [] (length (10 ∷ rest))) same (ap (λ t. pieces t 0) (split text 10 some is) ∙ end_first rest) refl)

  pub star_value : get_or text 0 0 ≡ 42 → BeginsWith is_value (pieces text 0) (pieces (take (length text - 1) (drop 1 text)) 0)
  unfolding rest
  star_value is = (piece Star [] (length (42 ∷ rest)), refl, ap (λ t. pieces t 0) (split text 42 some is) ∙ star_first rest)

pub word_value : (ps rest : List Piece) → BeginsWith is_word ps rest → BeginsWith is_value ps rest
word_value ps rest w = (w.0, by w.0.kind w.1, w.2)
  where
    by : (k : Kind) → is_word k ≡ true → is_value k ≡ true
    by Word h = refl
    by NewLine h = cc
    by Bang h = cc
    by Equals h = cc
    by Star h = cc
    by Include h = cc
    by Group h = cc
    by Bad h = cc

-- a group's name
group_kind : (bs : List ℕ) → 1 ≤ word_len bs → Group ≡ kind_at (36 ∷ bs)
unfolding kind_at
group_kind bs h = sym (ap (λ t. cond t Group Bad) (le-leb 1 (word_len bs) h))

group_gap : (bs : List ℕ) → gap_len (36 ∷ bs) ≡ 0
unfolding gap_len
group_gap bs = refl

drop_more : (n : ℕ) (b : ℕ) (bs : List ℕ) → drop (1 + n) (b ∷ bs) ≡ drop n bs
drop_more n b bs = ap (λ m. drop m (b ∷ bs)) (more-one n)

group_at : (text name rest : List ℕ) (n : ℕ) → text ≡ 36 ∷ name → n ≡ word_len name → n ≢ 0 → rest ≡ drop n name → BeginsWith is_value (pieces text 0) (pieces rest 0)
group_at text name rest n is len some behind =
    let long : 1 ≤ word_len name = omega arith in (
      piece Group (take (word_len name) name) (length (36 ∷ name)),
      refl,
      ap (λ t. pieces t 0) is
          ∙ first_piece (36 ∷ name) (take (word_len name) name) Group (1 + word_len name) (group_gap name) (omega arith) (group_kind name long) refl refl (omega arith)
          ∙ ap (λ ts. piece Group (take (word_len name) name) (length (36 ∷ name)) ∷ pieces ts 0) (drop_more (word_len name) 36 name ∙ ap (λ m. drop m name) (sym len) ∙ sym behind),
    )

pub group_value : (text rest : List ℕ) (n : ℕ) → 1 ≤ length text → get_or text 0 0 ≡ 36 → n ≡ word_len (take (length text - 1) (drop 1 text)) → n ≢ 0 → rest ≡ drop n (take (length text - 1) (drop 1 text)) → BeginsWith is_value (pieces text 0) (pieces rest 0)
group_value text rest n h is len some behind = group_at text (take (length text - 1) (drop 1 text)) rest n (split text 36 h is) len some behind

-- blanks
gap_blanks : (text : List ℕ) → nat_le 1 (prefix_len is_blank text) ≡ true → gap_len text ≡ prefix_len is_blank text
unfolding gap_len
gap_blanks text e = rw e refl

whole : (ts : List ℕ) → pieces (drop 0 ts) 0 ≡ pieces ts 0
whole [] = refl
whole (t ∷ ts) = refl

pub behind_blanks : (text : List ℕ) → pieces (drop (prefix_len is_blank text) text) 0 ≡ pieces text 0
behind_blanks text = by (nat_le 1 (prefix_len is_blank text)) refl
  where
    by : (t : Bool) → nat_le 1 (prefix_len is_blank text) ≡ t → pieces (drop (prefix_len is_blank text) text) 0 ≡ pieces text 0
    by true e = skip_gap text (prefix_len is_blank text) (sym (gap_blanks text e))
    by false e =
        let over : prefix_len is_blank text < 1 = leb-false 1 (prefix_len is_blank text) e in
        let none : prefix_len is_blank text ≡ 0 = omega arith in
        ap (λ n. pieces (drop n text) 0) none ∙ whole text

-- words that begin with a plain byte
and_left : (a b : Bool) → (a && b) ≡ true → a ≡ true
and_left true b h = refl
and_left false b h = h

and_right : (a b : Bool) → (a && b) ≡ true → b ≡ true
and_right true b h = h
and_right false b h = cc

neither : (a b : Bool) → not (a || b) ≡ true → (not a ≡ true) × (not b ≡ true)
neither true b h = cc
neither false b h = (refl, h)

is_not : (a : Bool) → not a ≡ true → a ≡ false
is_not true h = cc
is_not false h = refl

record IsPlain (b : ℕ) : Type 0 where
  pub word : is_word_byte b ≡ true
  pub low : 33 ≤ b
  pub bang : (b == 33) ≡ false
  pub equals : (b == 61) ≡ false
  pub star : (b == 42) ≡ false
  pub dollar : (b == 36) ≡ false
  pub letter : (b == 105) ≡ false
  pub slash : (b == 47) ≡ false
  pub backslash : (b == 92) ≡ false

plain : (b : ℕ) → begins_plain b ≡ true → IsPlain b
plain b h =
    let word : is_word_byte b ≡ true = and_left (is_word_byte b) (not ((((b == 33 || b == 61) || b == 42) || b == 36) || (b == 105 || b == 47))) h in
    let signs = neither (((b == 33 || b == 61) || b == 42) || b == 36) (b == 105 || b == 47) (and_right (is_word_byte b) (not ((((b == 33 || b == 61) || b == 42) || b == 36) || (b == 105 || b == 47))) h) in
    let three = neither ((b == 33 || b == 61) || b == 42) (b == 36) signs.0 in
    let two = neither (b == 33 || b == 61) (b == 42) three.0 in
    let one = neither (b == 33) (b == 61) two.0 in
    let last = neither (b == 105) (b == 47) signs.1 in
    let shown = and_left (nat_le 33 b && nat_le b 126) (not (b == 92)) word in
    record {
      word = word;
      low = leb-true 33 b (and_left (nat_le 33 b) (nat_le b 126) shown);
      bang = is_not (b == 33) one.0;
      equals = is_not (b == 61) one.1;
      star = is_not (b == 42) two.1;
      dollar = is_not (b == 36) three.1;
      letter = is_not (b == 105) last.0;
      slash = is_not (b == 47) last.1;
      backslash = is_not (b == 92) (and_right (nat_le 33 b && nat_le b 126) (not (b == 92)) word);
    }

below : (b n : ℕ) → 33 ≤ b → n < 33 → (b == n) ≡ false
below b n h l = ne_eqb b n (λ (e : b ≡ n). omega (arith, e, h, l))

swapped : (n b : ℕ) → (b == n) ≡ false → (n == b) ≡ false
swapped n b h = ne_eqb n b (λ e. eqb-false b n h (sym e))

plain_len : (b : ℕ) (bs : List ℕ) → IsPlain b → word_len (b ∷ bs) ≡ 1 + word_len bs
plain_len b bs p = ap (λ t. cond t (1 + word_len bs) 0) p.word

plain_gap : (b : ℕ) (bs : List ℕ) → IsPlain b → gap_len (b ∷ bs) ≡ 0
plain_gap b bs p =
    let is_32 = below b 32 p.low (omega arith) in
    let is_9 = below b 9 p.low (omega arith) in
    let is_13 = below b 13 p.low (omega arith) in
    no_gap b bs (rw (is_32, is_9, is_13, p.slash, p.backslash) refl)

plain_kind : (b : ℕ) (bs : List ℕ) → IsPlain b → Word ≡ kind_at (b ∷ bs)
unfolding kind_at
plain_kind b bs p =
    let is_10 = swapped 10 b (below b 10 p.low (omega arith)) in
    let is_33 = swapped 33 b p.bang in
    let is_61 = swapped 61 b p.equals in
    let is_42 = swapped 42 b p.star in
    let is_36 = swapped 36 b p.dollar in
    let is_105 = swapped 105 b p.letter in
    let some = le-leb 1 (1 + word_len bs) (omega arith) in
    rw (is_10, is_33, is_61, is_42, is_36, is_105, p.word, some) refl

module _ (text tail : List ℕ) (b : ℕ) (is : text ≡ b ∷ tail) (h : begins_plain b ≡ true) where
  long : 1 ≤ word_len text
  long =
      let e : word_len text ≡ 1 + word_len tail = ap word_len is ∙ plain_len b tail (plain b h) in
      omega (arith, e)

  word_at : (rest : List ℕ) (n : ℕ) → n ≡ word_len text → rest ≡ drop n text → BeginsWith is_word (pieces text 0) (pieces rest 0)
  word_at rest n len behind = (
    piece Word (take (word_len (b ∷ tail)) (b ∷ tail)) (length (b ∷ tail)),
    refl,
    ap (λ t. pieces t 0) is
        ∙ first_piece (b ∷ tail) (take (word_len (b ∷ tail)) (b ∷ tail)) Word (word_len (b ∷ tail)) (plain_gap b tail (plain b h)) (omega arith) (plain_kind b tail (plain b h)) refl refl (subst (λ t. 1 ≤ word_len t) is long)
        ∙ ap (λ ts. piece Word (take (word_len (b ∷ tail)) (b ∷ tail)) (length (b ∷ tail)) ∷ pieces ts 0) (ap (λ t. drop (word_len t) t) (sym is) ∙ ap (λ m. drop m text) (sym len) ∙ sym behind),
  )

pub plain_long : (text : List ℕ) → 1 ≤ length text → begins_plain (get_or text 0 0) ≡ true → 1 ≤ word_len text
plain_long text some h = long text (take (length text - 1) (drop 1 text)) (get_or text 0 0) (split text (get_or text 0 0) some refl) h

pub plain_word : (text rest : List ℕ) (n : ℕ) → 1 ≤ length text → begins_plain (get_or text 0 0) ≡ true → n ≡ word_len text → rest ≡ drop n text → BeginsWith is_word (pieces text 0) (pieces rest 0)
plain_word text rest n some h len behind = word_at text (take (length text - 1) (drop 1 text)) (get_or text 0 0) (split text (get_or text 0 0) some refl) h rest n len behind

pub some_then : {A : Type 0} (o : Option A) (P Q : A → Type 0) → ((x : A) → P x → Q x) → IfSome o P → IfSome o Q
some_then None P Q f h = h
some_then (Some x) P Q f h = f x h
