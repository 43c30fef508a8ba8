-- Choices of the definitions under names, for clauses and proofs.
use Rattle.std.specs.Prelude.{List, Option}
use Rattle.std.specs.Option.{option_map_or}
use Rattle.kx_lex.specs.declared.fault.At.{At}
use Rattle.kx_lex.specs.declared.fault.Fault.{Fault}
use Rattle.kx_lex.specs.declared.fault.Fault.TheVariants as fault
use Rattle.kx_include.specs.Expansion.{Body, End, parts_body}
use Rattle.kx_include.specs.IncludeFaults.{Findings, only}
use Rattle.kx_parse.specs.IncludeText.{Part}
use Rattle.kx_include.specs.declared.place.Place.{Place}

abbrev pub text_body : (Part → Body) → Option (List Part) → Body
text_body inner ps = option_map_or (parts_body inner) ps End

abbrev pub found_body : (Place → Body → Body) → Option Place → Body
found_body body place = option_map_or (λ found. body found End) place End

abbrev pub unless : Option Fault → Findings → Findings
unless f a = option_map_or only f a

abbrev pub in_place : (Place → Findings) → At → Option Place → Findings
in_place inner text place = option_map_or inner place (only (fault.MapMissing text))
