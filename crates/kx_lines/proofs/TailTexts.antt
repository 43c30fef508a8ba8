-- The end of an answer in which no indicator is lit.
use Rattle.std.proofs.Common.{◌≡◌, ℕ, List, [], ◌∷◌, ◌++◌, Option, sym, ap, subst}
use Rattle.ks_core.specs.BufferedOut.{Gathered, Writes}
use Rattle.kx_tables.specs.Content.{Content}
use Rattle.kx_run.specs.Replies.{Answer}
use Rattle.kx_lines.specs.Answer.{all_mods_text, group_text, lit_text, tail_text, unlit_tail}

pub unlit_is_tail : (content : Content) (answer : Answer) → answer.lit ≡ 0 → unlit_tail answer.look.consumed answer.state ≡ tail_text content answer
unlit_is_tail content answer dark =
    sym (ap (λ lit. all_mods_text answer.look.consumed answer.state ++ (group_text answer.state ++ (lit_text content lit ++ 10 ∷ []))) dark)

-- a text that was written is the end of an answer
pub writes_unlit : {D : Type 0} (written : D → Option (List ℕ)) (failures : D → ℕ) (d e : D) (p q : Gathered) (content : Content) (answer : Answer) → answer.lit ≡ 0
    → Writes written failures d p e q (unlit_tail answer.look.consumed answer.state) → Writes written failures d p e q (tail_text content answer)
writes_unlit written failures d e p q content answer dark told = subst (λ t. Writes written failures d p e q t) (unlit_is_tail content answer dark) told
