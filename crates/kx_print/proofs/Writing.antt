-- Texts written in turn are one text written.
use Rattle.std.proofs.Common.{◌≡◌, ℕ, ◌++◌, List, Option, subst}
use Rattle.ks_core.specs.BufferedOut.{Gathered, Writes}
use Rattle.ks_core.proofs.BufferedOutLemmas.{writes_then}

infixr 20 ◌⨟◌
-- one text is written, and then another
pub ◌⨟◌ : {D : Type 0} {written : D → Option (List ℕ)} {failures : D → ℕ} {d e f : D} {p q r : Gathered} {s t : List ℕ} → Writes written failures d p e q s → Writes written failures e q f r t → Writes written failures d p f r (s ++ t)
◌⨟◌ {D} {written} {failures} {d} {e} {f} {p} {q} {r} {s} {t} first second = writes_then written failures d e f p q r s t first second

-- the same text, said otherwise
pub rewritten : {D : Type 0} {written : D → Option (List ℕ)} {failures : D → ℕ} {d e : D} {p q : Gathered} {s t : List ℕ} → s ≡ t → Writes written failures d p e q s → Writes written failures d p e q t
rewritten {D} {written} {failures} {d} {e} {p} {q} same told = subst (λ text. Writes written failures d p e q text) same told
