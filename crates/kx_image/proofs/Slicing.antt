-- Tables of records of one size: their rows, from bytes and to bytes.
use Rattle.std.proofs.Common.{ℕ, zero, suc, List, [], ◌∷◌, ◌++◌, ◌≡◌, ◌+◌, ◌*◌, ◌<◌, Some, length, take, drop, slice_get, refl, ap, arith, sym, ◌∙◌, append_assoc, subst, drop-drop}
use Rattle.std.proofs.lemmas.List.{take-append-drop}
use Rattle.std.proofs.Math.Seq.{take-append_seam, drop-append_seam}
use Rattle.std.specs.List.{flat_map}
use Rattle.kx_tables.specs.Content.{part}
use Rattle.kx_image.specs.Cut.{rows_at, record_at}

module _ {X : Type 0} (of : List ℕ → X) (size : ℕ) where
  pub length-rows_at : (n start : ℕ) (s : List ℕ) → length (rows_at of size n start s) ≡ n
  length-rows_at zero start s = refl
  length-rows_at (suc n) start s = ap suc (length-rows_at n (start + size) s)

  pub rows_at-get : (n start : ℕ) (s : List ℕ) (i : ℕ) → i < n → slice_get (rows_at of size n start s) i ≡ Some (of (record_at s start size i))
  rows_at-get zero start s i lt = absurd (omega arith)
  rows_at-get (suc n) start s zero lt = let e : start + size * 0 ≡ start = omega arith in rw e refl
  rows_at-get (suc n) start s (suc i) lt =
      let e : start + size + size * i ≡ start + size * suc i = omega arith in
      rows_at-get n (start + size) s i (omega arith) ∙ ap (λ (p : ℕ). Some (of (part s p size))) e

  -- the first record and what is after it
  cut_first : (start : ℕ) (s : List ℕ) → part s start size ++ drop (start + size) s ≡ drop start s
  cut_first start s = ap (λ t. part s start size ++ t) (sym (drop-drop size start s)) ∙ take-append-drop size (drop start s)

module _ {X : Type 0} (bytes_of : X → List ℕ) (of : List ℕ → X) (size : ℕ) where
  -- records that are the bytes of their rows
  pub table_bytes : (n start : ℕ) (s : List ℕ) → ((i : ℕ) → i < n → bytes_of (of (record_at s start size i)) ≡ record_at s start size i) → drop start s ≡ flat_map bytes_of (rows_at of size n start s) ++ drop (start + size * n) s
  table_bytes zero start s is_canonical = let e : start + size * 0 ≡ start = omega arith in rw e refl
  table_bytes (suc n) start s is_canonical =
      let first : bytes_of (of (part s start size)) ≡ part s start size = let e : start + size * 0 ≡ start = omega arith in rw e at (is_canonical 0 (omega arith)) in
      let later : (i : ℕ) → i < n → bytes_of (of (record_at s (start + size) size i)) ≡ record_at s (start + size) size i = λ i lt.
      let e : start + size * suc i ≡ start + size + size * i = omega arith in subst (λ (p : ℕ). bytes_of (of (part s p size)) ≡ part s p size) e (is_canonical (suc i) (omega arith)) in
      let rest = table_bytes n (start + size) s later in
      let end : start + size + size * n ≡ start + size * suc n = omega arith in
      sym (cut_first of size start s) ∙ ap (λ t. part s start size ++ t) (rest ∙ ap (λ (p : ℕ). flat_map bytes_of (rows_at of size n (start + size) s) ++ drop p s) end)
      ∙ ap (λ f. f ++ (flat_map bytes_of (rows_at of size n (start + size) s) ++ drop (start + size * suc n) s)) (sym first)
      ∙ sym (append_assoc (bytes_of (of (part s start size))) (flat_map bytes_of (rows_at of size n (start + size) s)) (drop (start + size * suc n) s))

  -- the records of a table's bytes
  pub record Read (xs : List X) (start : ℕ) (s rest : List ℕ) : Type 0 where
    pub rows : rows_at of size (length xs) start s ≡ xs
    pub behind : drop (start + size * length xs) s ≡ rest
    pub records : (i : ℕ) (x : X) → slice_get xs i ≡ Some x → record_at s start size i ≡ bytes_of x

  records_again : (y : X) (ys : List X) (start : ℕ) (s : List ℕ) → part s start size ≡ bytes_of y → ((i : ℕ) (x : X) → slice_get ys i ≡ Some x → record_at s (start + size) size i ≡ bytes_of x) → (i : ℕ) (x : X) → slice_get (y ∷ ys) i ≡ Some x → record_at s start size i ≡ bytes_of x
  records_again y ys start s first later zero x has =
      let e : start + size * 0 ≡ start = omega arith in
      let same : y ≡ x = cc in
      ap (λ (p : ℕ). part s p size) e ∙ first ∙ ap bytes_of same
  records_again y ys start s first later (suc i) x has =
      let e : start + size * suc i ≡ start + size + size * i = omega arith in
      ap (λ (p : ℕ). part s p size) e ∙ later i x has

  pub table_again : (xs : List X) (start : ℕ) (s rest : List ℕ) → ((i : ℕ) (x : X) → slice_get xs i ≡ Some x → (length (bytes_of x) ≡ size) × (of (bytes_of x) ≡ x)) → drop start s ≡ flat_map bytes_of xs ++ rest → Read xs start s rest
  table_again [] start s rest again at = record {
    rows = refl;
    behind = let e : start + size * 0 ≡ start = omega arith in rw e at;
    records = λ i x none. cc;
  }
  table_again (y ∷ ys) start s rest again at =
      let long : length (bytes_of y) ≡ size = (again 0 y refl).0 in
      let first : part s start size ≡ bytes_of y = ap (take size) (at ∙ append_assoc (bytes_of y) (flat_map bytes_of ys) rest) ∙ ap (λ k. take k (bytes_of y ++ (flat_map bytes_of ys ++ rest))) (sym long) ∙ take-append_seam (bytes_of y) (flat_map bytes_of ys ++ rest) in
      let next : drop (start + size) s ≡ flat_map bytes_of ys ++ rest = sym (drop-drop size start s) ∙ ap (drop size) (at ∙ append_assoc (bytes_of y) (flat_map bytes_of ys) rest) ∙ ap (λ k. drop k (bytes_of y ++ (flat_map bytes_of ys ++ rest))) (sym long) ∙ drop-append_seam (bytes_of y) (flat_map bytes_of ys ++ rest) in
      let later : Read ys (start + size) s rest = table_again ys (start + size) s rest (λ i x has. again (suc i) x has) next in
      record {
        rows = ap (λ t. of t ∷ rows_at of size (length ys) (start + size) s) first ∙ ap (λ x. x ∷ rows_at of size (length ys) (start + size) s) (again 0 y refl).1 ∙ ap (λ xs. y ∷ xs) later.rows;
        behind = let e : start + size + size * length ys ≡ start + size * suc (length ys) = omega arith in rw e at later.behind;
        records = records_again y ys start s first later.records;
      }
