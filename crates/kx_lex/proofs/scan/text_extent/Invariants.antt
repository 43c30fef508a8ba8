use Rattle.std.proofs.Common.{◌≡◌, false, drop}
use Rattle.kx_lex.specs.Pieces.{extent, longer}
use Rattle.kx_lex.proofs.scan.text_extent.Given as goal

-- what is left, moved by what was passed, is how far the whole text goes
abbrev pub invariant-loop-i : goal.invariant-loop-i
invariant-loop-i l = extent false l.bytes ≡ longer l.i (extent l.escaped (drop l.i l.bytes))
