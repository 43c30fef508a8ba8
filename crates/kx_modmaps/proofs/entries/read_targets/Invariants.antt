use Rattle.std.proofs.Common.{◌≡◌, drop, fold}
use Rattle.std.specs.List.{flat_map}
use Rattle.kx_modmaps.specs.Entries.{entry_faults, targets_of, with_entry}
use Rattle.kx_modmaps.proofs.entries.read_targets.Given as goal

abbrev pub invariant-entries : goal.invariant-entries
invariant-entries l = (targets_of l.context.codes.now l.context.keysyms.now l.entries ≡ fold (with_entry l.context.codes.now l.context.keysyms.now) l.targets (drop l.entry-index l.entries)) × (flat_map (entry_faults l.whole.file l.whole.span) l.entries ≡ flat_map (entry_faults l.whole.file l.whole.span) (drop l.entry-index l.entries))
