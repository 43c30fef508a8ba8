use Rattle.std.proofs.Common.{◌≡◌, [], drop}
use Rattle.kx_calls.specs.Handed.{handed}
use Rattle.kx_calls.proofs.files.files_of.Given as goal

-- those that are left come on top of those that were handed in
abbrev pub invariant-loop-file : goal.invariant-loop-file
invariant-loop-file l = handed l.files (drop l.file-index l.given) ≡ handed [] l.given
