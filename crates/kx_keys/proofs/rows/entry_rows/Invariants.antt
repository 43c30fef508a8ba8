use Rattle.std.proofs.Common.{◌≡◌, take}
use Rattle.kx_virtual_mods.specs.Sets.{real_of}
use Rattle.kx_virtual_mods.specs.Standing.{stands_for}
use Rattle.kx_keys.specs.Rows.{entry_rows}
use Rattle.kx_keys.proofs.rows.entry_rows.Given as goal

abbrev pub invariant-entries : goal.invariant-entries
invariant-entries l = l.rows.items ≡ entry_rows (real_of (stands_for l.stands)) (take l.entry-index l.entries)
