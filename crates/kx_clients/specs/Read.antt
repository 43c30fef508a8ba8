-- Which keys repeat, as it is read.
use Rattle.std.specs.Prelude.{ℕ, Bool}
use Rattle.kx_codes.specs.Codes.{name_of}
use Rattle.kx_keys.specs.Given.{given_in}
use Rattle.kx_resolve.specs.Modmaps.{modmap_at}
use Rattle.kx_symbols.specs.Keys.{key_at}
use Rattle.kx_clients.specs.Records.{repeat_recorded, truth_recorded}
use Rattle.kx_clients.specs.Repeats.{key_repeats}
use Rattle.kx_clients.specs.declared.repeating.ReadKeys.{ReadKeys}

abbrev pub read_repeats : ReadKeys → ℕ → Bool
read_repeats r code = key_repeats (truth_recorded r.interpreted.now.by_match) r.interpretations.now (name_of r.codes.now code) (repeat_recorded r.said.now.by_code code) (modmap_at r.modmaps.now code) (given_in (key_at r.keys.now code))
