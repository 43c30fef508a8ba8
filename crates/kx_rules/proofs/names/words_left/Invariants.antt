use Rattle.std.proofs.Common.{◌≡◌, ℕ, List, ◌++◌, drop, map}
use Rattle.kx_rules.proofs.Marking.{unmarked_from}
use Rattle.kx_rules.proofs.names.words_left.Given as goal

abbrev pub invariant-entries : goal.invariant-entries
invariant-entries l = map (λ w. w.items) l.left.items ++ map (λ (e : ℕ × List ℕ). e.1) (unmarked_from l.place l.marks (map (λ e. e.0) (drop l.place l.entries))) ≡ map (λ (e : ℕ × List ℕ). e.1) (unmarked_from 0 l.marks (map (λ e. e.0) l.entries))
