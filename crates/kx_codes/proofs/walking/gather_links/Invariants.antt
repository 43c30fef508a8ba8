use Rattle.std.proofs.Common.{◌≡◌, ℕ, List, [], drop}
use Rattle.kx_include.specs.Expansion.{Body}
use Rattle.kx_include.specs.Shared.{links_body}
use Rattle.kx_codes.specs.Gathering.{AreGathered}
use Rattle.kx_codes.proofs.Behind.{Going}
use Rattle.kx_codes.proofs.walking.gather_links.Given as goal

abbrev pub invariant-links : goal.invariant-links
invariant-links l = (names : List (List ℕ)) (bodies : List Body) → AreGathered names l.done bodies → Going (λ ps. ps ≡ []) names l.joined (links_body bodies l.links) (links_body bodies (drop l.link-index l.links))
