use Rattle.std.proofs.Common.{ℕ, get_or, sym}
use Rattle.kx_merge.specs.declared.single.Single.{Single}
use Rattle.kx_merge.proofs.Going.{read_again}
use Rattle.kx_virtual_mods.proofs.Offering.{next_offered, nothing_offered}
use Rattle.kx_virtual_mods.proofs.declared.records_for.Goals as goal

pub numbers-init : goal.numbers-init
numbers-init c = λ mode. nothing_offered mode c.new-records.result.items c.new-records.ensures.items

pub numbers-preserved : goal.numbers-preserved
numbers-preserved c = λ mode.
    let ns = c.args.numbers.now in
    let i = c.numbers.number-index in
    let number : ℕ = get_or ns i 0 in
    let d : Single ℕ = record { value = c.last_mask-value.result } in
    next_offered mode c.numbers.records.items c.push.new.self.items c.args.given.now ns i number d c.numbers-test.true (read_again ns i 0 c.numbers-test.true) (c.numbers.invariant mode) c.in_ok-push.ensures.items (λ cell. sym c.last_mask-value.ensures)
