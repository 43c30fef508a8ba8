use Rattle.std.proofs.Common.{ℕ, ◌≡◌, ◌<◌, get_or}
use Rattle.kx_merge.proofs.Behind.{no_link}
use Rattle.kx_merge.proofs.gathering.are_same_links.Given as goal

abbrev pub invariant-links : goal.invariant-links
invariant-links l = (k : ℕ) → k < l.place → get_or l.some k no_link ≡ get_or l.others k no_link
