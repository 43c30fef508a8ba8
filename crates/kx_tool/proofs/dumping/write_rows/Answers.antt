use Rattle.std.proofs.Common.{◌≡◌, ◌+◌, ◌++◌, ℕ, List, zero, suc, sym, ap, ◌∙◌, subst, add-one, append-nil, append_assoc, arith}
use Rattle.std.specs.List.{flat_map, range_with_len}
use Rattle.ks_core.specs.BufferedOut.{Writes}
use Rattle.ks_core.proofs.BufferedOutLemmas.{writes_then}
use Rattle.kx_tool.specs.Dump.{row_at, row_text}
use Rattle.kx_tool.proofs.dumping.write_rows.Goals as goal

-- a text for each number below n, and for n
more : (f : ℕ → List ℕ) (a n : ℕ) → flat_map f (range_with_len a (suc n)) ≡ flat_map f (range_with_len a n) ++ f (a + n)
more f a zero = append-nil (f a) ∙ ap f (omega arith)
more f a (suc n) = ap (λ t. f a ++ t) (more f (a + 1) n) ∙ sym (append_assoc (f a) (flat_map f (range_with_len (a + 1) n)) (f (a + 1 + n))) ∙ ap (λ k. (f a ++ flat_map f (range_with_len (a + 1) n)) ++ f k) (omega arith)

one_more : (f : ℕ → List ℕ) (n : ℕ) (piece : List ℕ) → piece ≡ f n → flat_map f (range_with_len 0 n) ++ piece ≡ flat_map f (range_with_len 0 (n + 1))
one_more f n piece is =
    ap (λ t. flat_map f (range_with_len 0 n) ++ t) (is ∙ ap f (omega arith)) ∙ sym (more f 0 n) ∙ ap (λ k. flat_map f (range_with_len 0 k)) (sym (add-one n))

pub loop-index-preserved : goal.loop-index-preserved
loop-index-preserved g c =
    subst (λ t. Writes g.O.Out.written g.O.Out.failures c.args.out.now c.args.buffered.now c.write_row.new.out c.write_row.new.buffered t)
    (one_more (λ i. row_text (row_at c.args.bytes.now i)) c.loop-index.index _ (ap row_text c.row.ensures.value))
    (writes_then g.O.Out.written g.O.Out.failures _ _ _ _ _ _ _ _ c.loop-index.invariant c.write_row.ensures)
