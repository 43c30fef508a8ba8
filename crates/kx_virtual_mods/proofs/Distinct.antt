-- A statement offers each virtual modifier once.
use Rattle.std.proofs.Common.{◌≡◌, ℕ, Bool, true, false, cond, List, [], ◌∷◌, ◌++◌, fold, map, nat_eq, refl, sym, ap, subst, arith}
use Rattle.std.specs.List.{AllByRecursion, IsDistinct, list_any}
use Rattle.std.proofs.lemmas.Bool.Decides.{nat_tests}
use Rattle.std.proofs.lemmas.Bool.{or_parts}
use Rattle.kx_merge.specs.Offers.{Offer, with_name}
use Rattle.kx_tree.specs.declared.tree.Mode.{Mode}
use Rattle.kx_virtual_mods.specs.Declarations.{Given, given_in, declarations_in, mask_offer, mask_rules, numbers_of}
use Rattle.kx_virtual_mods.specs.Once.{OffersOnce}

all-push : (P : ℕ → Type 0) (ks : List ℕ) (k : ℕ) → AllByRecursion P ks → P k → AllByRecursion P (ks ++ k ∷ [])
all-push P [] k all last = (last, tt)
all-push P (j ∷ ks) k all last = (all.0, all-push P ks k all.1 last)

flipped : (j k : ℕ) → nat_eq k j ≡ false → nat_eq j k ≡ false
flipped j k h = grind (arith, nat_tests, h)

distinct-push : (ks : List ℕ) (k : ℕ) → list_any (nat_eq k) ks ≡ false → IsDistinct nat_eq ks → IsDistinct nat_eq (ks ++ k ∷ [])
unfolding IsDistinct
distinct-push [] k h d = (tt, tt)
distinct-push (j ∷ ks) k h d =
    let none = or_parts (nat_eq k j) (list_any (nat_eq k) ks) h in
    (all-push (λ y. nat_eq j y ≡ false) ks k d.0 (flipped j k none.0), distinct-push ks k none.1 d.1)

distinct-with : (ks : List ℕ) (k : ℕ) → IsDistinct nat_eq ks → IsDistinct nat_eq (with_name nat_eq ks k)
distinct-with ks k d = by (list_any (nat_eq k) ks) refl
  where
    by : (b : Bool) → list_any (nat_eq k) ks ≡ b → IsDistinct nat_eq (cond b ks (ks ++ k ∷ []))
    by true h = d
    by false h = distinct-push ks k h d

distinct-fold : (ks more : List ℕ) → IsDistinct nat_eq ks → IsDistinct nat_eq (fold (with_name nat_eq) ks more)
distinct-fold ks [] d = d
distinct-fold ks (k ∷ more) d = distinct-fold (with_name nat_eq ks k) more (distinct-with ks k d)

distinct-none : IsDistinct nat_eq []
unfolding IsDistinct
distinct-none = tt

offer-names : (mode : Mode) (given : List Given) (ns : List ℕ) → map (λ (o : Offer ℕ (Unit {0}) ℕ). o.name) (map (mask_offer mode given) ns) ≡ ns
offer-names mode given [] = refl
offer-names mode given (n ∷ ns) = ap (λ xs. n ∷ xs) (offer-names mode given ns)

pub masks_once : (names : List (List ℕ)) → OffersOnce nat_eq (mask_rules names)
masks_once names d place stated =
    let given = given_in names (declarations_in stated.statement) in
    subst (IsDistinct nat_eq) (sym (offer-names stated.mode given (numbers_of given))) (distinct-fold [] (map (λ (g : Given). g.0) given) distinct-none)
