-- A text of parts is cut where its first join stands.
use Rattle.std.proofs.Common.{◌≡◌, ℕ, ◌+◌, suc, Bool, true, false, not, cond, List, [], ◌∷◌, Option, None, Some, is_some, refl, sym, ap, ◌∙◌, take, drop, length, arith}
use Rattle.std.specs.List.{prefix_len}
use Rattle.kx_tree.specs.declared.tree.Mode.{Mode}
use Rattle.kx_parse.specs.IncludeText.{join_of, joined, split, split_by}
use Rattle.kx_parse.specs.Splits.{is_inner}

inner-none : (o : Option Mode) → not (is_some o) ≡ true → o ≡ None
inner-none None h = refl
inner-none (Some m) h = cc

split-no_front : (b : ℕ) (bs : List ℕ) (o : Option Mode) → join_of b ≡ o → not (is_some o) ≡ false → (split (b ∷ bs)).0 ≡ []
split-no_front b bs None h e = cc
split-no_front b bs (Some mode) h e = ap (λ o. (split_by o b (split bs)).0) h

front_len : (b : ℕ) (bs : List ℕ) → is_inner b ≡ true → prefix_len is_inner (b ∷ bs) ≡ suc (prefix_len is_inner bs)
front_len b bs h = let one : 1 + prefix_len is_inner bs ≡ suc (prefix_len is_inner bs) = omega arith in ap (λ c. cond c (1 + prefix_len is_inner bs) 0) h ∙ one

no_front_len : (b : ℕ) (bs : List ℕ) → is_inner b ≡ false → prefix_len is_inner (b ∷ bs) ≡ 0
no_front_len b bs h = ap (λ c. cond c (1 + prefix_len is_inner bs) 0) h

split_front : (bs : List ℕ) → split bs ≡ (take (prefix_len is_inner bs) bs, (split (drop (prefix_len is_inner bs) bs)).1)
split_front [] = refl
split_front (b ∷ bs) = by (split_front bs) (is_inner b) refl
  where
    by : split bs ≡ (take (prefix_len is_inner bs) bs, (split (drop (prefix_len is_inner bs) bs)).1) → (t : Bool) → is_inner b ≡ t → split (b ∷ bs) ≡ (take (prefix_len is_inner (b ∷ bs)) (b ∷ bs), (split (drop (prefix_len is_inner (b ∷ bs)) (b ∷ bs))).1)
    by inside true h =
        let none = inner-none (join_of b) h in
        rw (front_len b bs h) (ap (λ o. split_by o b (split bs)) none ∙ ap (λ (r : List ℕ × List (Mode × List ℕ)). (b ∷ r.0, r.1)) inside)
    by inside false h = rw (no_front_len b bs h) (ap (λ (r : List ℕ). (r, (split (b ∷ bs)).1)) (split-no_front b bs (join_of b) refl h))

-- what is left after the front begins with a join
left-join : (bs : List ℕ) (c : ℕ) (cs : List ℕ) → drop (prefix_len is_inner bs) bs ≡ c ∷ cs → is_inner c ≡ false
left-join [] c cs e = cc
left-join (b ∷ bs) c cs e = by (left-join bs c cs) (is_inner b) refl
  where
    by : (drop (prefix_len is_inner bs) bs ≡ c ∷ cs → is_inner c ≡ false) → (t : Bool) → is_inner b ≡ t → is_inner c ≡ false
    by inside true h = inside (sym (ap (λ n. drop n (b ∷ bs)) (front_len b bs h)) ∙ e)
    by inside false h = let same : b ∷ bs ≡ c ∷ cs = sym (ap (λ n. drop n (b ∷ bs)) (no_front_len b bs h)) ∙ e in cc

none-left : (bs : List ℕ) → length bs ≡ 0 → bs ≡ []
none-left [] h = refl
none-left (b ∷ bs) h = absurd (omega (arith, h))

pub cut_end : (bs : List ℕ) → length (drop (prefix_len is_inner bs) bs) ≡ 0 → split bs ≡ (take (prefix_len is_inner bs) bs, [])
cut_end bs h = let e = none-left (drop (prefix_len is_inner bs) bs) h in split_front bs ∙ ap (λ rest. (take (prefix_len is_inner bs) bs, (split rest).1)) e

pub cut_no_join : (bs : List ℕ) (c : ℕ) (cs : List ℕ) → drop (prefix_len is_inner bs) bs ≡ c ∷ cs → join_of c ≡ None → ⊥
cut_no_join bs c cs e h = let not_inner = left-join bs c cs e in let inner : is_inner c ≡ true = ap (λ o. not (is_some o)) h in cc

pub cut_join : (bs : List ℕ) (c : ℕ) (cs : List ℕ) (mode : Mode) → drop (prefix_len is_inner bs) bs ≡ c ∷ cs → join_of c ≡ Some mode → split bs ≡ (take (prefix_len is_inner bs) bs, joined mode (split cs))
cut_join bs c cs mode e h = split_front bs ∙ ap (λ rest. (take (prefix_len is_inner bs) bs, (split rest).1)) e ∙ ap (λ o. (take (prefix_len is_inner bs) bs, (split_by o c (split cs)).1)) h
