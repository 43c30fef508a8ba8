use Rattle.std.proofs.Common.{◌≡◌, ℕ, ◌-◌, ◌≤◌, Bool, true, false, List, [], ◌∷◌, length, take, drop, get_or, cond, nat_le, refl, sym, ap, ◌∙◌, arith}
use Rattle.std.proofs.lemmas.List.{take_all}
use Rattle.kx_rule_lines.specs.Pieces.{kind_at, word_len}
use Rattle.kx_rule_lines.specs.declared.scan.Kind.TheVariants.{NewLine, Group, Bad}
use Rattle.kx_rule_lines.proofs.scan.kind_at.Goals as goal

new_line : (text : List ℕ) → 1 ≤ length text → get_or text 0 0 ≡ 10 → NewLine ≡ kind_at text
unfolding kind_at
new_line [] some is = absurd (omega (arith, some))
new_line (b ∷ bs) some is = rw is refl

group : (text : List ℕ) (in_word : Bool) → 1 ≤ length text → get_or text 0 0 ≡ 36 → nat_le 1 (word_len (take (length text - 1) (drop 1 text))) ≡ in_word → cond in_word Group Bad ≡ kind_at text
unfolding kind_at
group [] in_word some is read = absurd (omega (arith, some))
group (b ∷ bs) in_word some is read =
    let all : take (length (b ∷ bs) - 1) bs ≡ bs = take_all (length (b ∷ bs) - 1) bs (omega arith) in
    let whole : nat_le 1 (word_len bs) ≡ in_word = ap (λ bs. nat_le 1 (word_len bs)) (sym all) ∙ read in
    rw (is, whole) refl

pub returns-in-10-clause-value : goal.returns-in-10-clause-value
returns-in-10-clause-value c = new_line c.args.text.now c.requires c.in-10.is

pub returns-in-36-clause-value : goal.returns-in-36-clause-value
returns-in-36-clause-value c = group c.args.text.now true c.requires c.in-36.is (sym c.begins_word.ensures ∙ c.if-begins_word.true)

pub returns-in-36-clause-include : goal.returns-in-36-clause-include
returns-in-36-clause-include c = λ e. cc

pub returns-in-36-2-clause-value : goal.returns-in-36-2-clause-value
returns-in-36-2-clause-value c = group c.args.text.now false c.requires c.in-36.is (sym c.begins_word.ensures ∙ c.if-begins_word.false)

pub returns-in-36-2-clause-include : goal.returns-in-36-2-clause-include
returns-in-36-2-clause-include c = λ e. cc

pub returns-in_default-clause-include : goal.returns-in_default-clause-include
returns-in_default-clause-include c = λ e. cc

pub returns-in_default-2-clause-include : goal.returns-in_default-2-clause-include
returns-in_default-2-clause-include c = λ e. cc
