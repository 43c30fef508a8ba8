-- Pieces from a place on.
use Rattle.std.proofs.Common.{◌≡◌, ℕ, zero, suc, ◌-◌, ◌≤◌, nat_le, Bool, cond, true, false, ◌==◌, ◌||◌, List, [], ◌∷◌, length, drop, refl, sym, ap, ◌∙◌, arith}
use Rattle.std.proofs.lemmas.Bool.{eqb-false, le-leb, ne_eqb}
use Rattle.kx_rule_lines.specs.Pieces.{Piece, gap_len, is_blank, kind_at, piece, piece_len, pieces, text_at}
use Rattle.kx_rule_lines.specs.declared.scan.Kind.{Kind}

pieces-drop : (bs : List ℕ) (k : ℕ) → pieces bs k ≡ pieces (drop k bs) 0
unfolding pieces
pieces-drop [] zero = refl
pieces-drop [] (suc k) = refl
pieces-drop (b ∷ bs) zero = refl
pieces-drop (b ∷ bs) (suc k) = pieces-drop bs k

less-one : (k : ℕ) → suc k - 1 ≡ k
less-one k = omega arith

one-most : (k : ℕ) → nat_le 1 (suc k) ≡ true
one-most k = le-leb 1 (suc k) (omega arith)

-- the pieces of a text whose gap has so many bytes
from : ℕ → ℕ → List ℕ → ℕ → List Piece
from n b bs len = cond (nat_le 1 n) (pieces bs (n - 1)) (piece (kind_at (b ∷ bs)) (text_at (kind_at (b ∷ bs)) (b ∷ bs)) (length (b ∷ bs)) ∷ pieces bs (len - 1))

from-gap : (k b : ℕ) (bs : List ℕ) (len : ℕ) → pieces bs k ≡ from (suc k) b bs len
unfolding from
from-gap k b bs len = sym (ap (λ t. cond t (pieces bs (suc k - 1)) (piece (kind_at (b ∷ bs)) (text_at (kind_at (b ∷ bs)) (b ∷ bs)) (length (b ∷ bs)) ∷ pieces bs (len - 1))) (one-most k) ∙ ap (pieces bs) (less-one k))

pieces-from : (b : ℕ) (bs : List ℕ) → pieces (b ∷ bs) 0 ≡ from (gap_len (b ∷ bs)) b bs (piece_len (kind_at (b ∷ bs)) (b ∷ bs))
unfolding pieces from
pieces-from b bs = refl

from-piece : (b : ℕ) (bs : List ℕ) (k : ℕ) → from 0 b bs (suc k) ≡ piece (kind_at (b ∷ bs)) (text_at (kind_at (b ∷ bs)) (b ∷ bs)) (length (b ∷ bs)) ∷ pieces bs k
unfolding from
from-piece b bs k = ap (λ n. piece (kind_at (b ∷ bs)) (text_at (kind_at (b ∷ bs)) (b ∷ bs)) (length (b ∷ bs)) ∷ pieces bs n) (less-one k)

other_way : (n b : ℕ) → (b == n) ≡ false → (n == b) ≡ false
other_way n b h = ne_eqb n b (λ e. eqb-false b n h (sym e))

-- a gap begins with a blank, a slash or a backslash
pub no_gap : (b : ℕ) (bs : List ℕ) → ((is_blank b || b == 47) || b == 92) ≡ false → gap_len (b ∷ bs) ≡ 0
unfolding gap_len
no_gap b bs h = let none = none_of (is_blank b) (b == 47) (b == 92) h in rw (none.0, other_way 47 b none.1, other_way 92 b none.2) refl
  where
    none_of : (p q r : Bool) → ((p || q) || r) ≡ false → (p ≡ false) × (q ≡ false) × (r ≡ false)
    none_of true q r h = cc
    none_of false true r h = cc
    none_of false false true h = cc
    none_of false false false h = (refl, refl, refl)

pub skip_gap : (text : List ℕ) (n : ℕ) → n ≡ gap_len text → pieces (drop n text) 0 ≡ pieces text 0
skip_gap [] zero e = refl
skip_gap [] (suc n) e = refl
skip_gap (b ∷ bs) zero e = refl
skip_gap (b ∷ bs) (suc k) e =
    sym (pieces-drop bs k) ∙ from-gap k b bs (piece_len (kind_at (b ∷ bs)) (b ∷ bs)) ∙ ap (λ n. from n b bs (piece_len (kind_at (b ∷ bs)) (b ∷ bs))) e ∙ sym (pieces-from b bs)

pub no_pieces : (text : List ℕ) → length text ≡ 0 → pieces text 0 ≡ []
unfolding pieces
no_pieces [] h = refl
no_pieces (b ∷ bs) h = absurd (omega (arith, h))

pub first_piece : (text shown : List ℕ) (kind : Kind) (len : ℕ) → gap_len text ≡ 0 → 1 ≤ length text → kind ≡ kind_at text → shown ≡ text_at kind text → len ≡ piece_len kind text → 1 ≤ len → pieces text 0 ≡ piece kind shown (length text) ∷ pieces (drop len text) 0
first_piece [] shown kind len none h is e at some = absurd (omega (arith, h))
first_piece (b ∷ bs) shown kind zero none h is e at some = absurd (omega (arith, some))
first_piece (b ∷ bs) shown kind (suc k) none h is e at some =
    pieces-from b bs
    ∙ ap (λ n. from n b bs (piece_len (kind_at (b ∷ bs)) (b ∷ bs))) none
    ∙ ap (λ n. from 0 b bs n) (ap (λ t. piece_len t (b ∷ bs)) (sym is) ∙ sym at)
    ∙ from-piece b bs k
    ∙ ap (λ t. piece t (text_at t (b ∷ bs)) (length (b ∷ bs)) ∷ pieces bs k) (sym is)
    ∙ ap (λ t. piece kind t (length (b ∷ bs)) ∷ pieces bs k) (sym e)
    ∙ ap (λ ts. piece kind shown (length (b ∷ bs)) ∷ ts) (pieces-drop bs k)
