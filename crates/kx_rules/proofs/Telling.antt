-- What the first piece of a line says of it.
use Rattle.std.proofs.Common.{◌≡◌, ℕ, zero, suc, ◌-◌, ◌≤◌, take, Option, None, Some, List, [], ◌∷◌, length, drop, get_or, refl, sym, ap, ◌∙◌, subst, arith}
use Rattle.kx_rule_lines.specs.Lines.{Line, Inclusion, Heading, Broken, inclusion, listing, sides, told, words_len}
use Rattle.kx_rules.specs.Names.{Names}
use Rattle.kx_rule_lines.specs.Pieces.{Piece}
use Rattle.kx_rules.specs.Rules.{State, Texts}
use Rattle.kx_rules.specs.Steps.{IsCutAt, IsTaken, reading}
use Rattle.kx_rule_lines.specs.declared.scan.Kind.{Kind}
use Rattle.kx_rule_lines.specs.declared.scan.Kind.TheVariants.{Include, Group, Word}
use Rattle.kx_rules.specs.declared.state.Taken.{Taken}

pub inclusion_word : (line : List Piece) (p : Piece) (name : List ℕ) → 1 ≤ length line → p ≡ get_or line 0 p → p.kind ≡ Word → name ≡ p.text → inclusion line ≡ Inclusion name
inclusion_word [] p name h is word e = absurd (omega (arith, h))
inclusion_word (q ∷ ps) p name h is word e =
    ap (λ k. elim k as (λ _. Line) [ Word ↦ Inclusion q.text | _ ↦ Broken q.left ]) (sym (ap (λ (r : Piece). r.kind) is) ∙ word)
    ∙ ap Inclusion (sym (e ∙ ap (λ (r : Piece). r.text) is))

take_whole : (ps : List Piece) (n : ℕ) → length ps ≤ n → take n ps ≡ ps
take_whole [] zero h = refl
take_whole [] (suc n) h = refl
take_whole (p ∷ ps) zero h = absurd (omega (arith, h))
take_whole (p ∷ ps) (suc n) h = ap (λ qs. p ∷ qs) (take_whole ps n (omega (arith, h)))

behind_first : (q : Piece) (ps : List Piece) → take (length (q ∷ ps) - 1) ps ≡ ps
behind_first q ps = take_whole ps (length (q ∷ ps) - 1) (omega arith)

by_kind : Kind → Piece → List Piece → Line
by_kind k q ps = elim k as (λ _. Line) [ Include ↦ inclusion ps | Group ↦ listing q.text ps | Word ↦ sides Heading (words_len (q ∷ ps)) (q ∷ ps) | _ ↦ Broken q.left ]

pub told_include : (line more : List Piece) (p : Piece) → 1 ≤ length line → p ≡ get_or line 0 p → more ≡ take (length line - 1) (drop 1 line) → p.kind ≡ Include → told line ≡ inclusion more
unfolding by_kind
told_include [] more p h is behind kind = absurd (omega (arith, h))
told_include (q ∷ ps) more p h is behind kind =
    ap (λ k. by_kind k q ps) (sym (ap (λ (r : Piece). r.kind) is) ∙ kind) ∙ ap inclusion (sym (behind ∙ behind_first q ps))

pub told_group : (line more : List Piece) (p : Piece) (name : List ℕ) → 1 ≤ length line → p ≡ get_or line 0 p → more ≡ take (length line - 1) (drop 1 line) → p.kind ≡ Group → name ≡ p.text → told line ≡ listing name more
unfolding by_kind
told_group [] more p name h is behind kind e = absurd (omega (arith, h))
told_group (q ∷ ps) more p name h is behind kind e =
    ap (λ k. by_kind k q ps) (sym (ap (λ (r : Piece). r.kind) is) ∙ kind) ∙ ap (λ (n : List ℕ). listing n ps) (sym (e ∙ ap (λ (r : Piece). r.text) is)) ∙ ap (listing name) (sym (behind ∙ behind_first q ps))

pub cut_taken : (names : Names) (texts : Texts) (depth : ℕ) (line : Line) (old new : State) (cut : Option ℕ) (taken : Taken) → IsCutAt cut taken → reading names texts depth line old ≡ (new, cut) → IsTaken names texts depth line old new taken
cut_taken names texts depth line old new None taken at e = subst (IsTaken names texts depth line old new) (sym at) e
cut_taken names texts depth line old new (Some left) taken at e = subst (IsTaken names texts depth line old new) (sym at) e
