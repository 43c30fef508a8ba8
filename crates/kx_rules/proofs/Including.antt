-- What an include gives.
use Rattle.std.proofs.Common.{◌≡◌, ℕ, zero, suc, ◌+◌, true, List, Option, None, Some, refl, sym, ap, ◌∙◌, add-one, if◌then◌else◌}
use Rattle.kx_rule_lines.specs.Lines.{Inclusion}
use Rattle.kx_rules.specs.Names.{Names}
use Rattle.kx_rules.specs.Rules.{Reading, State, Texts, after, anew, included, is_room, lines_of, opening, run, text_of}
use Rattle.kx_rules.specs.Steps.{IsEntered, IsEnteredAs, reading}

module _ (names : Names) (texts : Texts) (text : List ℕ) (old : State) where
  read_include : (depth : ℕ) → reading names texts depth (Inclusion text) old ≡ (included depth names texts text old, None)
  unfolding after
  read_include depth = refl

  found : ℕ → Option (List ℕ) → State
  found depth o = elim o [ None ↦ anew old | Some t ↦ (if is_room old t then anew (run names (included depth names texts) (opening old t) (lines_of t)).0 else record (anew old) { is_full = true }) ]

  included_found : (depth : ℕ) → included (suc depth) names texts text old ≡ found depth (text_of texts text)
  unfolding included found
  included_found depth = refl

  none_found : (depth : ℕ) (new : State) (o : Option (List ℕ)) → IsEnteredAs o old new None → found depth o ≡ new
  unfolding found
  none_found depth new None e = sym e.1
  none_found depth new (Some t) e = ap (λ b. if b then anew (run names (included depth names texts) (opening old t) (lines_of t)).0 else record (anew old) { is_full = true }) e.0 ∙ sym e.1

  some_found : (depth : ℕ) (new : State) (inner : List ℕ) (o : Option (List ℕ)) → IsEnteredAs o old new (Some inner) → found depth o ≡ anew (run names (included depth names texts) new (lines_of inner)).0
  unfolding found
  some_found depth new inner None e = cc (e.0)
  some_found depth new inner (Some t) e =
      ap (λ b. if b then anew (run names (included depth names texts) (opening old t) (lines_of t)).0 else record (anew old) { is_full = true }) e.0
      ∙ ap (λ s. anew (run names (included depth names texts) (opening old t) (lines_of s)).0) (sym e.1)
      ∙ ap (λ m. anew (run names (included depth names texts) m (lines_of inner)).0) (sym e.2)

  whole : State → Reading
  whole s = (s, None)

  module _ (new : State) where
    pub taken_deep : (depth : ℕ) → depth ≡ 0 → new ≡ anew old → reading names texts depth (Inclusion text) old ≡ (new, None)
    unfolding included whole
    taken_deep depth deep e = read_include depth ∙ ap whole (ap (λ d. included d names texts text old) deep ∙ sym e)

    pub taken_none : (depth : ℕ) → (depth ≡ 0 → ⊥) → IsEntered texts text old new None → reading names texts depth (Inclusion text) old ≡ (new, None)
    unfolding whole
    taken_none zero deep e = absurd (deep refl)
    taken_none (suc d) deep e = read_include (suc d) ∙ ap whole (included_found d ∙ none_found d new (text_of texts text) e)

    pub taken_inner : (depth : ℕ) (inner : List ℕ) → (depth ≡ 0 → ⊥) → IsEntered texts text old new (Some inner) → (x : ℕ) × (depth ≡ x + 1) × (reading names texts depth (Inclusion text) old ≡ (anew (run names (included x names texts) new (lines_of inner)).0, None))
    unfolding whole
    taken_inner zero inner deep e = absurd (deep refl)
    taken_inner (suc d) inner deep e = (d, sym (add-one d), read_include (suc d) ∙ ap whole (included_found d ∙ some_found d new inner (text_of texts text) e))
