-- One word of those that `each_new` reads.
use Rattle.std.proofs.Common.{◌≡◌, ℕ, ◌+◌, ◌<◌, Option, Some, None, Bool, true, false, List, [], ◌∷◌, ◌++◌, length, drop, get_or, refl, sym, ap, ◌∙◌}
use Rattle.std.specs.List.{list_any}
use Rattle.std.proofs.lemmas.List.{drop_more}
use Rattle.kx_rules.specs.Mappings.{each_new}
use Rattle.kx_rule_lines.specs.Pieces.{Piece}

here : (words : List Piece) (i : ℕ) (word : Piece) → i < length words → word ≡ get_or words i word → drop i words ≡ word ∷ drop (i + 1) words
here words i word inside is = drop_more words i word inside ∙ ap (λ w. w ∷ drop (i + 1) words) (sym is)

module _ {A : Type 0} (same : A → A → Bool) (read : List ℕ → Option A) (known : List A) (words : List Piece) (i : ℕ) (word : Piece) (inside : i < length words) (is : word ≡ get_or words i word) where
  pub unknown : read word.text ≡ None → each_new same read known (drop i words) ≡ None
  unknown e = rw (here words i word inside is, e, each_new) refl

  pub said_before : (x : A) → read word.text ≡ Some x → list_any (same x) known ≡ true → each_new same read known (drop i words) ≡ None
  said_before x e before = rw (here words i word inside is, e, before, each_new) refl

  pub said : (x : A) → read word.text ≡ Some x → list_any (same x) known ≡ false → each_new same read known (drop i words) ≡ each_new same read (known ++ x ∷ []) (drop (i + 1) words)
  said x e new = rw (here words i word inside is, e, new, each_new) refl
