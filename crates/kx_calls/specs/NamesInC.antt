-- Names of keysyms, and the faults of lines that give them, as C has them.
use Rattle.std.specs.Prelude.{[], Option, None, Some}
use Rattle.ks_core.specs.Table.{KeysymTable, with_names}
use Rattle.ks_core.specs.declared.fault.NameFault.{NameFault}
use Rattle.ks_core.specs.declared.fault.NameFault.TheVariants as name_faults
use Rattle.kx_calls.specs.declared.names.XkcNamesFault.{XkcNamesFault}

-- an empty handle has the built-in names alone
abbrev pub names_in : Option KeysymTable → KeysymTable
names_in None = with_names []
names_in (Some table) = table

abbrev pub names_fault_in_c : NameFault → XkcNamesFault
names_fault_in_c name_faults.Memory = record { line = 0; number = 1 }
names_fault_in_c (name_faults.LineShape line) = record { line = line; number = 2 }
names_fault_in_c (name_faults.Twice line) = record { line = line; number = 3 }
names_fault_in_c (name_faults.Value line) = record { line = line; number = 4 }
