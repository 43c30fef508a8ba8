use Rattle.std.proofs.Common.{◌+◌, ◌-◌, ◌%◌, bit_and, cond, eqb, leb, refl, not, ℕ}
use Rattle.std.proofs.lemmas.Simd.{zip2_of_maps, zip2_splat, splat_is_map}
use Rattle.kx_lex.specs.Bytes.{is_blank}
use Rattle.kx_lex.proofs.Masks.{mask-of}
use Rattle.kx_lex.proofs.scan.BlanksWideRun.others.Goals as goal

pub returns : goal.returns
returns c =
    let v = c.args.front in
    let long = c.fits-front.0 in
    let not_controls =
    zip2_of_maps (λ (a b : ℕ). cond (leb a b) 255 0) (λ _. 5) (λ b. (b + (256 - 9)) % 256) v
    (splat_is_map v 16 5 long) (zip2_splat (λ a b. (a + (256 - b)) % 256) v 16 9 long) in
    mask-of _ (λ b. not (is_blank b)) v c.fits-front (zip2_of_maps bit_and _ _ v (zip2_splat (λ a b. cond (not (eqb a b)) 255 0) v 16 32 long) not_controls) refl
