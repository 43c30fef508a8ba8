-- What the table of the bytes of words says.
use Rattle.std.proofs.Common.{◌≡◌, ◌≢◌, ℕ, Bool, true, false, cond, refl, sym, ap, ◌∙◌}
use Rattle.kx_rule_lines.specs.Bytes.{in_word_of}
use Rattle.kx_rule_lines.specs.Pieces.{is_word_byte}
use Rattle.kx_rule_lines.specs.declared.bytes.InWord.{InWord}
use Rattle.kx_rule_lines.specs.declared.bytes.InWord.TheVariants.{No, Yes}

pub in_word : (b : ℕ) (w : InWord) → w ≡ in_word_of b → w ≡ Yes → true ≡ is_word_byte b
unfolding in_word_of
in_word b w e is = by (is_word_byte b) (sym e ∙ is)
  where
    by : (t : Bool) → cond t Yes No ≡ Yes → true ≡ t
    by true h = refl
    by false h = cc

pub out_of_word : (b : ℕ) (w : InWord) → w ≡ in_word_of b → w ≢ Yes → false ≡ is_word_byte b
unfolding in_word_of
out_of_word b w e other = by (is_word_byte b) (λ is. other (e ∙ is))
  where
    by : (t : Bool) → (cond t Yes No ≡ Yes → ⊥) → false ≡ t
    by true h = absurd (h refl)
    by false h = refl
