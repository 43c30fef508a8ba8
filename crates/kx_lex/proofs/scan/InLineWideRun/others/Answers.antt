use Rattle.std.proofs.Common.{cond, eqb, refl, not}
use Rattle.std.proofs.lemmas.Simd.{zip2_splat}
use Rattle.kx_lex.specs.Bytes.{is_not_line_feed}
use Rattle.kx_lex.proofs.Masks.{mask-of}
use Rattle.kx_lex.proofs.scan.InLineWideRun.others.Goals as goal

pub returns : goal.returns
returns c = mask-of (λ b. cond (eqb b 10) 255 0) (λ b. not (is_not_line_feed b)) c.args.front c.fits-front (zip2_splat (λ a b. cond (eqb a b) 255 0) c.args.front 16 10 c.fits-front.0) refl
