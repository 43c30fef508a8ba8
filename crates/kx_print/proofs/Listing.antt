-- Lists with a mark between the pieces, a piece at a time.
use Rattle.std.proofs.Common.{◌≡◌, ℕ, ◌+◌, List, [], ◌∷◌, ◌++◌, Option, Some, take, map, slice_get, refl, sym, ap, ◌∙◌, subst, append_assoc, append-nil}
use Rattle.std.proofs.lemmas.Grind.{flat_map-append}
use Rattle.std.proofs.lemmas.List.{map-append}
use Rattle.std.specs.List.{flat_map}
use Rattle.ks_core.specs.BufferedOut.{Gathered, Writes}
use Rattle.kx_print.specs.Phrases.{joined}
use Rattle.kx_print.proofs.Rows.{take-at}
use Rattle.kx_print.proofs.Writing.{◌⨟◌, rewritten}

-- what stands before the next piece
abbrev pub lead : List ℕ → List (List ℕ) → List ℕ
lead mark [] = []
lead mark (piece ∷ pieces) = mark

pub joined-append : (mark : List ℕ) (xs : List (List ℕ)) (y : List ℕ) (ys : List (List ℕ)) → joined mark (xs ++ (y ∷ ys)) ≡ joined mark xs ++ (lead mark xs ++ joined mark (y ∷ ys))
joined-append mark [] y ys = refl
joined-append mark (x ∷ xs) y ys =
    ap (λ t. x ++ t) (flat_map-append (λ other. mark ++ other) xs (y ∷ ys))
    ∙ sym (append_assoc x (flat_map (λ other. mark ++ other) xs) (flat_map (λ other. mark ++ other) (y ∷ ys)))
    ∙ ap (λ t. (x ++ flat_map (λ other. mark ++ other) xs) ++ t) (append_assoc mark y (flat_map (λ other. mark ++ other) ys))

lead-append : (mark : List ℕ) (xs : List (List ℕ)) (y : List ℕ) (ys : List (List ℕ)) → lead mark (xs ++ (y ∷ ys)) ≡ mark
lead-append mark [] y ys = refl
lead-append mark (x ∷ xs) y ys = refl

-- pieces of a list were written, and the next one stands after `before`
module _ {D : Type 0} (written : D → Option (List ℕ)) (failures : D → ℕ) where
  pub record Listed (mark : List ℕ) (d e : D) (p q : Gathered) (before : List ℕ) (pieces : List (List ℕ)) : Type 0 where
    pub told : Writes written failures d p e q (joined mark pieces)
    pub before_is : before ≡ lead mark pieces

  -- some pieces more, which are not none
  pub listed_append : (mark : List ℕ) (d e f : D) (p q r : Gathered) (before : List ℕ) (pieces : List (List ℕ)) (y : List ℕ) (ys : List (List ℕ)) → Listed mark d e p q before pieces
      → Writes written failures e q f r (before ++ joined mark (y ∷ ys)) → Listed mark d f p r mark (pieces ++ (y ∷ ys))
  listed_append mark d e f p q r before pieces y ys h here =
      record {
        told = rewritten (ap (λ b. joined mark pieces ++ (b ++ joined mark (y ∷ ys))) h.before_is ∙ sym (joined-append mark pieces y ys)) (h.told ⨟ here);
        before_is = sym (lead-append mark pieces y ys);
      }

  pub listed_more : (mark : List ℕ) (d e f : D) (p q r : Gathered) (before : List ℕ) (pieces : List (List ℕ)) (piece : List ℕ) → Listed mark d e p q before pieces
      → Writes written failures e q f r (before ++ piece) → Listed mark d f p r mark (pieces ++ piece ∷ [])
  listed_more mark d e f p q r before pieces piece h here =
      listed_append mark d e f p q r before pieces piece [] h (rewritten (ap (λ t. before ++ t) (sym (append-nil piece))) here)

  -- the piece of one row more
  pub listed_row : {X : Type 0} (text_of : X → List ℕ) (xs : List X) (i : ℕ) (x : X) (mark : List ℕ) (d e f : D) (p q r : Gathered) (before : List ℕ) → slice_get xs i ≡ Some x
      → Listed mark d e p q before (map text_of (take i xs)) → Writes written failures e q f r (before ++ text_of x) → Listed mark d f p r mark (map text_of (take (i + 1) xs))
  listed_row text_of xs i x mark d e f p q r before at h here =
      subst (λ pieces. Listed mark d f p r mark pieces) (sym (ap (map text_of) (take-at xs i x at) ∙ map-append text_of (take i xs) (x ∷ [])))
      (listed_more mark d e f p q r before (map text_of (take i xs)) (text_of x) h here)

  -- the pieces of one row more, which are not none
  pub listed_rows : (mark : List ℕ) (d e f : D) (p q r : Gathered) (before : List ℕ) (pieces more all : List (List ℕ)) (y : List ℕ) (ys : List (List ℕ)) → more ≡ y ∷ ys → all ≡ pieces ++ more → Listed mark d e p q before pieces
      → Writes written failures e q f r (before ++ joined mark more) → Listed mark d f p r mark all
  listed_rows mark d e f p q r before pieces more all y ys some is h here =
      subst (λ l. Listed mark d f p r mark l) (sym (is ∙ ap (λ l. pieces ++ l) some))
      (listed_append mark d e f p q r before pieces y ys h (rewritten (ap (λ l. before ++ joined mark l) some) here))
