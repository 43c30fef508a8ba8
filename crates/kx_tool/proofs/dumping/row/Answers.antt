use Rattle.std.proofs.Common.{◌≡◌, ◌-◌, ◌*◌, ◌∙◌, ℕ, List, length, drop, take, min, ap, arith}
use Rattle.std.proofs.lemmas.List.{length-drop, take_all}
use Rattle.kx_tool.proofs.dumping.row.Goals as goal

-- so many elements at most
take-min : (xs : List ℕ) (n : ℕ) → take (min (length xs) n) xs ≡ take n xs
take-min xs n = grind (arith, take_all)

pub returns-clause-value : goal.returns-clause-value
returns-clause-value c =
    let rest = drop (32 * c.args.index) c.args.bytes.now in
    let whole : take (length c.args.bytes.now - 32 * c.args.index) rest ≡ rest = take_all _ rest (omega (arith, length-drop (32 * c.args.index) c.args.bytes.now)) in
    ap (λ n. take n (take (length c.args.bytes.now - 32 * c.args.index) rest)) c.min.ensures ∙ ap (λ xs. take (min (length xs) 32) xs) whole ∙ take-min rest 32
