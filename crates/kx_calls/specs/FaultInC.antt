-- A fault as a struct of C.
use Rattle.std.specs.Prelude.{ℕ}
use Rattle.kx_lex.specs.declared.fault.At.{At}
use Rattle.kx_lex.specs.declared.fault.Fault.{Fault}
use Rattle.kx_lex.specs.declared.fault.Fault.TheVariants as faults
use Rattle.kx_calls.specs.declared.fault.XkcFault.{XkcFault}

abbrev placed : ℕ → At → XkcFault
placed number place = record { number = number; file = place.file; start = place.span.start; stop = place.span.stop }

abbrev pub fault_in_c : Fault → XkcFault
fault_in_c faults.Memory = record { number = 1; file = 0; start = 0; stop = 0 }
fault_in_c (faults.TooLong place) = placed 2 place
fault_in_c (faults.BadByte place) = placed 3 place
fault_in_c (faults.OpenString place) = placed 4 place
fault_in_c (faults.OpenKeyName place) = placed 5 place
fault_in_c (faults.Syntax place) = placed 6 place
fault_in_c (faults.NumberTooBig place) = placed 7 place
fault_in_c (faults.BadInclude place) = placed 8 place
fault_in_c (faults.FileMissing place) = placed 9 place
fault_in_c (faults.MapMissing place) = placed 10 place
fault_in_c (faults.DepthOver16 place) = placed 11 place
fault_in_c (faults.UnknownModifier place) = placed 12 place
fault_in_c (faults.TooMany place) = placed 13 place
fault_in_c (faults.UnknownField place) = placed 14 place
fault_in_c (faults.BadValue place) = placed 15 place
fault_in_c (faults.GroupRange place) = placed 16 place
fault_in_c (faults.LevelRange place) = placed 17 place
fault_in_c (faults.CodeRange place) = placed 18 place
