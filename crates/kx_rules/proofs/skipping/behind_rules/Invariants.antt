use Rattle.std.proofs.Common.{◌≡◌, ◌≤◌, ℕ, List, length}
use Rattle.kx_rules.specs.Names.{Names}
use Rattle.kx_rules.specs.Rules.{State, lines_of, run}
use Rattle.kx_rules.specs.declared.state.Rules.TheVariants.{PassedOver}
use Rattle.kx_rules.proofs.skipping.behind_rules.Given as goal

abbrev pub invariant-rules : goal.invariant-rules
invariant-rules l = record { same : (names : Names) (inc : List ℕ → State → State) (s : State) → s.rules ≡ PassedOver → run names inc s (lines_of l.rest) ≡ run names inc s (lines_of l.text); within : length l.rest ≤ length l.text }

abbrev pub decreases-rules : goal.decreases-rules
decreases-rules l = length l.rest
