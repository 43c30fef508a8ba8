use Rattle.std.proofs.Common.{◌≡◌, ◌++◌, drop}
use Rattle.std.specs.List.{flat_map}
use Rattle.kx_clients.specs.Aliases.{known_alias, names_in}
use Rattle.kx_clients.proofs.aliases.known_of.Given as goal

abbrev pub invariant-records : goal.invariant-records
invariant-records l = flat_map (known_alias l.codes) (names_in l.records) ≡ l.aliases.items ++ flat_map (known_alias l.codes) (names_in (drop l.record-index l.records))
