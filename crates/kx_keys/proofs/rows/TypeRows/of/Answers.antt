use Rattle.std.proofs.Common.{◌≡◌, ap, sym, ◌∙◌, subst, ℕ}
use Rattle.kx_virtual_mods.specs.Sets.{real_of, has}
use Rattle.kx_virtual_mods.specs.Standing.{stands_for}
use Rattle.kx_mods.specs.Mods.{mask}
use Rattle.kx_keys.specs.Going.{RowsOf}
use Rattle.kx_keys.specs.Rows.{entry_rows}
use Rattle.kx_keys.proofs.Adding.{rows_hold}
use Rattle.kx_keys.proofs.Fining.{rows_valid, stands_wider}
use Rattle.kx_keys.proofs.RowsShown.{rows_show}
use Rattle.kx_keys.proofs.rows.TypeRows.of.Goals as goal

pub returns-clause-shows : goal.returns-clause-shows
returns-clause-shows c =
    let real = real_of (stands_for c.args.stands.now) in
    let t = c.args.key_type.now in
    let mods = c.real_mods-mods.result in
    let rows = c.in_ok-entries.entries.items in
    let bits : (r : ℕ) → has (mask mods) r ≡ real t.modifiers r = λ r. c.real_mods-mods.ensures.bits r ∙ ap (λ s. real s r) c.modifiers.ensures in
    let same = c.in_ok-entries.ensures ∙ ap (entry_rows real) c.entries.ensures.value in
    rows_show real t mods rows c.real_mods-mods.ensures.fits bits (subst (RowsOf real t.entries) (sym same) (rows_hold real t.entries)) c.entries.ensures.lawful

pub returns-clause-valid : goal.returns-clause-valid
returns-clause-valid c =
    let real = real_of (stands_for c.args.stands.now) in
    let t = c.args.key_type.now in
    let mods = c.real_mods-mods.result in
    let rows = c.in_ok-entries.entries.items in
    let bits : (r : ℕ) → has (mask mods) r ≡ real t.modifiers r = λ r. c.real_mods-mods.ensures.bits r ∙ ap (λ s. real s r) c.modifiers.ensures in
    let same = c.in_ok-entries.ensures ∙ ap (entry_rows real) c.entries.ensures.value in
    rows_valid real (stands_wider (stands_for c.args.stands.now)) t mods rows c.real_mods-mods.ensures.fits bits (subst (RowsOf real t.entries) (sym same) (rows_hold real t.entries)) c.entries.ensures.lawful
