use Rattle.std.proofs.Common.{◌≡◌, ◌-◌, ℕ, None, cond, max, nat_lt, sym, subst}
use Rattle.kx_merge.specs.Offers.{merged_value}
use Rattle.kx_key_lists.specs.Records.{KeyLists, value_in, width_in_key}
use Rattle.kx_key_lists.specs.Lists.{level_in, width_in}
use Rattle.kx_key_lists.proofs.Settling.{joined_values, joined_widths}
use Rattle.kx_key_lists.proofs.key_lists.GroupLists.merge_lists.Goals as goal

pub returns-clause-cells : goal.returns-clause-cells
returns-clause-cells t c =
    let now : KeyLists t.row.X.Denot = record { from = c.self.inside.from; lists = c.self.inside.lists.items } in
    let final : KeyLists t.row.X.Denot = record { from = c.self.inside.from; lists = c.merge_groups.new.lists.items } in
    let other : KeyLists t.row.X.Denot = record { from = c.other.inside.from; lists = c.other.inside.lists.items } in
    let start : now.from ≡ 0 = subst (λ k. k.from ≡ 0) (sym c.self.view_is) c.in_ok-settle.ensures.from in
    subst (λ o. (g l : ℕ) → value_in final g l ≡ merged_value c.args.mode (value_in c.args.self.now g l) (value_in o g l)) c.other.view_is
    (joined_values c.args.self.now now final other start start c.args.mode (subst (λ k. (g l : ℕ) → value_in k g l ≡ value_in c.args.self.now g l) (sym c.self.view_is) c.in_ok-settle.ensures.cells)
    (subst (λ n. (g l : ℕ) → level_in c.merge_groups.new.lists.items g l ≡ merged_value c.args.mode (level_in c.self.inside.lists.items g l) (cond (nat_lt g n) None (level_in c.other.inside.lists.items (g - n) l))) c.from.ensures c.in_ok-merge_groups.ensures.levels))

pub returns-clause-widths : goal.returns-clause-widths
returns-clause-widths t c =
    let now : KeyLists t.row.X.Denot = record { from = c.self.inside.from; lists = c.self.inside.lists.items } in
    let final : KeyLists t.row.X.Denot = record { from = c.self.inside.from; lists = c.merge_groups.new.lists.items } in
    let other : KeyLists t.row.X.Denot = record { from = c.other.inside.from; lists = c.other.inside.lists.items } in
    let start : now.from ≡ 0 = subst (λ k. k.from ≡ 0) (sym c.self.view_is) c.in_ok-settle.ensures.from in
    subst (λ o. (g : ℕ) → width_in_key final g ≡ max (width_in_key c.args.self.now g) (width_in_key o g)) c.other.view_is
    (joined_widths c.args.self.now now final other start start (subst (λ k. (g : ℕ) → width_in_key k g ≡ width_in_key c.args.self.now g) (sym c.self.view_is) c.in_ok-settle.ensures.widths)
    (subst (λ n. (g : ℕ) → width_in c.merge_groups.new.lists.items g ≡ max (width_in c.self.inside.lists.items g) (cond (nat_lt g n) 0 (width_in c.other.inside.lists.items (g - n)))) c.from.ensures c.in_ok-merge_groups.ensures.widths))
