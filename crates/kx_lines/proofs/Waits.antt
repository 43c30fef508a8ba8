-- The bytes that wait in a chunk, and those of them that stand before a line feed.
use Rattle.std.proofs.Common.{◌≡◌, ◌<◌, ◌≤◌, ◌+◌, ◌-◌, ◌==◌, ℕ, false, not, List, ◌++◌, drop, take, length, arith, sym, ap, subst, ◌∙◌, drop-drop, get_or-take, length-take, take-append-drop}
use Rattle.std.proofs.lemmas.List.{drop-take}
use Rattle.std.proofs.lemmas.List.Sums.{fails_before_first}
use Rattle.std.specs.List.{All, prefix_len, take_while}

-- none of the bytes before the first line feed is one
pub before_feed : (bytes : List ℕ) (count : ℕ) → count ≡ length (take_while (λ byte. not (byte == 10)) bytes) → All (λ byte. (byte == 10) ≡ false) (take count bytes)
before_feed bytes count is k d within =
    let front = prefix_len (λ byte. not (byte == 10)) bytes in
    let low : k < count = omega (arith, within, length-take count bytes) in
    let early : k < front = omega (arith, low, is, length-take front bytes) in
    subst (λ byte. (byte == 10) ≡ false) (sym (get_or-take count bytes k d low)) (fails_before_first (λ byte. byte == 10) bytes k d early)

-- so many of the bytes that wait, and then the others
pub waits_split : (chunk : List ℕ) (start stop count : ℕ) → start ≤ stop → drop start (take stop chunk) ≡ take count (take (stop - start) (drop start chunk)) ++ drop (start + count) (take stop chunk)
waits_split chunk start stop count ordered =
    sym (take-append-drop count (drop start (take stop chunk)))
    ∙ ap (λ bytes. take count bytes ++ drop count (drop start (take stop chunk))) (ap (λ n. drop start (take n chunk)) (omega arith) ∙ drop-take start (stop - start) chunk)
    ∙ ap (λ bytes. take count (take (stop - start) (drop start chunk)) ++ bytes) (drop-drop count start (take stop chunk))
