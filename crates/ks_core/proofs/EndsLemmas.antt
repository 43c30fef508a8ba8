-- Texts of one length are the same where they begin and end with the same bytes, and no byte lies between these.
use Rattle.std.proofs.Common.{◌≡◌, ℕ, ◌+◌, ◌-◌, ◌≤◌, true, List, ◌++◌, length, take, drop, sym, ap, ap₂, ◌∙◌, arith}
use Rattle.std.proofs.lemmas.List.{drop-drop, take-append-drop}
use Rattle.std.proofs.lemmas.Slice.Eq.{bytes_eq-Decides}
use Rattle.std.specs.Bool.{one_answer}
use Rattle.std.specs.Str.{bytes_eq}

-- the bytes after the first n end the last n
drop-last : (n : ℕ) (xs : List ℕ) → n ≤ length xs → length xs ≤ n + n → drop n xs ≡ drop (n + n - length xs) (drop (length xs - n) xs)
drop-last n xs least most =
    let parted : (length xs - n) + (n + n - length xs) ≡ n = omega arith in sym (drop-drop (n + n - length xs) (length xs - n) xs ∙ ap (λ (i : ℕ). drop i xs) parted)

same_by_ends : (n : ℕ) (xs ys : List ℕ) → length xs ≡ length ys → n ≤ length xs → length xs ≤ n + n → take n xs ≡ take n ys → drop (length xs - n) xs ≡ drop (length ys - n) ys → xs ≡ ys
same_by_ends n xs ys alike least most first last =
    let rest : drop n xs ≡ drop n ys =
    drop-last n xs least most ∙ ap₂ (λ (len : ℕ) (end : List ℕ). drop (n + n - len) end) alike last ∙ sym (drop-last n ys (omega arith) (omega arith)) in
    sym (take-append-drop n xs) ∙ ap₂ (λ (a b : List ℕ). a ++ b) first rest ∙ take-append-drop n ys

pub bytes_eq-ends : (n : ℕ) (xs ys : List ℕ) → length xs ≡ length ys → n ≤ length xs → length xs ≤ n + n → bytes_eq (take n xs) (take n ys) ≡ true → bytes_eq (drop (length xs - n) xs) (drop (length ys - n) ys) ≡ bytes_eq xs ys
bytes_eq-ends n xs ys alike least most first =
    let begins = (bytes_eq-Decides (take n xs) (take n ys)).0 first in
    let ends = bytes_eq-Decides (drop (length xs - n) xs) (drop (length ys - n) ys) in
    one_answer (bytes_eq (drop (length xs - n) xs) (drop (length ys - n) ys)) (bytes_eq xs ys) (
      λ same. same_by_ends n xs ys alike least most begins (ends.0 same),
      λ same. ends.1 (ap (λ (zs : List ℕ). drop (length zs - n) zs) same),
    ) (bytes_eq-Decides xs ys)
