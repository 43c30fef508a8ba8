-- Sound tables hold what is seen in them.
use Rattle.std.proofs.Common.{◌≡◌, ℕ, suc, ◌+◌, ◌≤◌, List, [], ◌∷◌, ◌++◌, Some, length, map, take, drop, slice_get, refl, sym, ap, ap₂, ◌∙◌, arith, length-append}
use Rattle.std.proofs.lemmas.List.{drop-drop, length-take, length-drop, take-append-drop}
use Rattle.std.proofs.lemmas.List.Sums.{sum_by-cons}
use Rattle.std.specs.List.{flat_map, sum_by}
use Rattle.kx_builder.specs.Placed.{all_entries, names_of_types, rows_behind, rows_of, type_row}
use Rattle.kx_builder.specs.Resolved.{ResolvedType}
use Rattle.kx_builder.specs.Seen.{type_seen}
use Rattle.kx_tables.specs.Content.{Content, part, type_name}
use Rattle.kx_tables.specs.Sound.{Sound}
use Rattle.kx_tables.specs.declared.rows.TypeRow.{TypeRow}
use Rattle.roundtrip_text.specs.Rows.{AreJoined}

-- ---- Parts of a list

pub joined : {R : Type 0} (first count : R → ℕ) (rows : List R) (at : ℕ) → ((i : ℕ) (r : R) → slice_get rows i ≡ Some r → first r ≡ at + sum_by count (take i rows)) → AreJoined first count at rows
joined first count [] at each = tt
joined first count (r ∷ rs) at each =
    let here : first r ≡ at = (let e = each 0 r refl in omega (arith, e)) in
    (here, joined first count rs (at + count r) (λ i s is. (let e = each (suc i) s is in omega (arith, e, sum_by-cons count r (take i rs)))))

pub length-part : {X : Type 0} (xs : List X) (first count : ℕ) → first + count ≤ length xs → length (part xs first count) ≡ count
length-part xs first count within = omega (arith, length-take count (drop first xs), length-drop first xs)

pub part-drop : {X : Type 0} (xs : List X) (at count : ℕ) → part xs at count ++ drop (at + count) xs ≡ drop at xs
part-drop xs at count = ap (λ ys. part xs at count ++ ys) (sym (drop-drop count at xs)) ∙ take-append-drop count (drop at xs)

drop-all : {X : Type 0} (xs : List X) → drop (length xs) xs ≡ []
drop-all [] = refl
drop-all (x ∷ xs) = drop-all xs

-- parts that fill a list are the list
pub parts_joined : {R X : Type 0} (first count : R → ℕ) (xs : List X) (rows : List R) (at : ℕ) → AreJoined first count at rows → at + sum_by count rows ≡ length xs → flat_map (λ r. part xs (first r) (count r)) rows ≡ drop at xs
parts_joined first count xs [] at are total = let all : at ≡ length xs = omega arith in sym (ap (λ n. drop n xs) all ∙ drop-all xs)
parts_joined first count xs (r ∷ rs) at are total =
    ap₂ (λ n ys. part xs n (count r) ++ ys) are.0 (parts_joined first count xs rs (at + count r) are.1 (omega (arith, sum_by-cons count r rs))) ∙ part-drop xs at (count r)

pub flat_map-map : {X Y A : Type 0} (f : Y → List A) (g : X → Y) (xs : List X) → flat_map f (map g xs) ≡ flat_map (λ x. f (g x)) xs
flat_map-map f g [] = refl
flat_map-map f g (x ∷ xs) = ap (λ ys. f (g x) ++ ys) (flat_map-map f g xs)

-- ---- Types

module _ (c : Content) where
  types_again : (before : List ResolvedType) (rows : List TypeRow) (a b : ℕ) → length (all_entries before) ≡ a → length (names_of_types before) ≡ b
      → AreJoined (λ t. t.first_entry) (λ t. t.entries) a rows → AreJoined (λ t. t.first_name) (λ t. t.name_length) b rows
      → a + sum_by (λ t. t.entries) rows ≤ length c.entries → b + sum_by (λ t. t.name_length) rows ≤ length c.names
      → rows_behind type_row before (map (type_seen c) rows) ≡ rows
  types_again before [] a b ea eb ja jb wa wb = refl
  types_again before (t ∷ ts) a b ea eb ja jb wa wb =
      let sa = sum_by-cons (λ (t : TypeRow). t.entries) t ts in
      let sb = sum_by-cons (λ (t : TypeRow). t.name_length) t ts in
      let entries : length (part c.entries t.first_entry t.entries) ≡ t.entries = length-part c.entries t.first_entry t.entries (let here = ja.0 in omega (arith, here, sa)) in
      let names : length (type_name c t) ≡ t.name_length = length-part c.names t.first_name t.name_length (let here = jb.0 in omega (arith, here, sb)) in
      let row : type_row before (type_seen c t) ≡ t = λ i. record { mods = t.mods; levels = t.levels; entries = entries i; name_length = names i; first_entry = (ea ∙ sym ja.0) i; first_name = (eb ∙ sym jb.0) i } in
      ap₂ (λ r rs. r ∷ rs) row
      (types_again (before ++ type_seen c t ∷ []) ts (a + t.entries) (b + t.name_length) (grown (λ (u : ResolvedType). u.entries) before (type_seen c t) ∙ (omega (arith, ea, entries))) (grown (λ (u : ResolvedType). u.name) before (type_seen c t) ∙ (omega (arith, eb, names))) ja.1 jb.1 (omega (arith, sa)) (omega (arith, sb)))
    where
      grown : {X A : Type 0} (f : X → List A) (xs : List X) (x : X) → length (flat_map f (xs ++ x ∷ [])) ≡ length (flat_map f xs) + length (f x)
      grown f [] x = omega (arith, length-append (f x) [])
      grown f (y ∷ ys) x = let rec = grown f ys x in omega (arith, rec, length-append (f y) (flat_map f (ys ++ x ∷ [])), length-append (f y) (flat_map f ys))

  pub types_placed : Sound c → rows_of type_row (map (type_seen c) c.types) ≡ c.types
  types_placed sound =
      types_again [] c.types 0 0 refl refl
      (joined (λ t. t.first_entry) (λ t. t.entries) c.types 0 (λ i t is. (let e = (sound.types i t is).first_entry in omega (arith, e))))
      (joined (λ t. t.first_name) (λ t. t.name_length) c.types 0 (λ i t is. (let e = (sound.types i t is).first_name in omega (arith, e))))
      (let n = sound.counts.entries in omega (arith, n)) (let n = sound.counts.names in omega (arith, n))

  pub entries_placed : Sound c → all_entries (map (type_seen c) c.types) ≡ c.entries
  entries_placed sound =
      flat_map-map (λ (t : ResolvedType). t.entries) (type_seen c) c.types
      ∙ parts_joined (λ t. t.first_entry) (λ t. t.entries) c.entries c.types 0
      (joined (λ t. t.first_entry) (λ t. t.entries) c.types 0 (λ i t is. (let e = (sound.types i t is).first_entry in omega (arith, e))))
      (let n = sound.counts.entries in omega (arith, n))
