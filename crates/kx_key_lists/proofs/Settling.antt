-- The lists of a key that begin at the first group, and those that were merged.
use Rattle.std.proofs.Common.{◌≡◌, ℕ, ◌-◌, false, cond, max, nat_lt, None, sym, ap, ◌∙◌, arith}
use Rattle.std.proofs.lemmas.Bool.{le-ltb}
use Rattle.kx_tree.specs.declared.tree.Mode.{Mode}
use Rattle.kx_key_lists.specs.Lists.{level_in, width_in}
use Rattle.kx_key_lists.specs.Records.{KeyLists, value_in, width_in_key}
use Rattle.kx_merge.specs.Offers.{merged_value}

settled : {X : Type 0} (key : KeyLists X) (g l : ℕ) → key.from ≡ 0 → value_in key g l ≡ level_in key.lists g l
settled key g l start =
    let low : nat_lt g key.from ≡ false = le-ltb g key.from (omega (arith, start)) in
    let same : g - key.from ≡ g = omega (arith, start) in
    ap (λ b. cond b None (level_in key.lists (g - key.from) l)) low ∙ ap (λ j. level_in key.lists j l) same

settled-width : {X : Type 0} (key : KeyLists X) (g : ℕ) → key.from ≡ 0 → width_in_key key g ≡ width_in key.lists g
settled-width key g start =
    let low : nat_lt g key.from ≡ false = le-ltb g key.from (omega (arith, start)) in
    let same : g - key.from ≡ g = omega (arith, start) in
    ap (λ b. cond b 0 (width_in key.lists (g - key.from))) low ∙ ap (width_in key.lists) same

module _ {X : Type 0} (old now final other : KeyLists X) (start : now.from ≡ 0) (still : final.from ≡ 0) where
  pub joined_values : (mode : Mode) → ((g l : ℕ) → value_in now g l ≡ value_in old g l)
      → ((g l : ℕ) → level_in final.lists g l ≡ merged_value mode (level_in now.lists g l) (cond (nat_lt g other.from) None (level_in other.lists (g - other.from) l))) → (g l : ℕ) → value_in final g l ≡ merged_value mode (value_in old g l) (value_in other g l)
  joined_values mode same levels g l = settled final g l still ∙ levels g l ∙ ap (λ o. merged_value mode o (value_in other g l)) (sym (settled now g l start) ∙ same g l)

  pub joined_widths : ((g : ℕ) → width_in_key now g ≡ width_in_key old g) → ((g : ℕ) → width_in final.lists g ≡ max (width_in now.lists g) (cond (nat_lt g other.from) 0 (width_in other.lists (g - other.from)))) → (g : ℕ) → width_in_key final g ≡ max (width_in_key old g) (width_in_key other g)
  joined_widths same widths g = settled-width final g still ∙ widths g ∙ ap (λ n. max n (width_in_key other g)) (sym (settled-width now g start) ∙ same g)
