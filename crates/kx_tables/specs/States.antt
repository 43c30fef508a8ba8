-- The states that an indicator looks at, as a number: 1 base, 2 latched, 4 locked, 8 effective.
use Rattle.std.specs.Prelude.{ℕ}
use Rattle.kx_tables.specs.declared.rows.States.{States}

abbrev pub state_bits : States → ℕ
state_bits s = s.0
