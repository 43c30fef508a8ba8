use Rattle.std.proofs.Common.{◌≡◌, drop, fold}
use Rattle.kx_symbols.specs.KeyFaults.{fields_faults}
use Rattle.kx_symbols.specs.Lists.{field_lists, lists_of, no_lists}
use Rattle.kx_symbols.proofs.fields.read_lists.Given as goal

abbrev pub invariant-fields : goal.invariant-fields
invariant-fields l = (lists_of l.known l.fields ≡ fold (field_lists l.known) l.lists (drop l.field-index l.fields)) × (fields_faults l.whole.file l.known l.whole.span no_lists l.fields ≡ fields_faults l.whole.file l.known l.whole.span l.lists (drop l.field-index l.fields))
