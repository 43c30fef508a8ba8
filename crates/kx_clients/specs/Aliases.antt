-- The aliases by which keys are known.
use Rattle.std.specs.Prelude.{List, [], ◌∷◌, map, ℕ, Option, None, Some, if◌then◌else◌}
use Rattle.std.specs.List.{flat_map}
use Rattle.std.specs.Option.{option_and_then, option_map_or}
use Rattle.std.specs.Str.{bytes_eq}
use Rattle.kx_codes.specs.Aliases.{alias_offers, alias_rules}
use Rattle.kx_codes.specs.Codes.{Codes, code_of, name_of}
use Rattle.kx_include.specs.Expansion.{Body}
use Rattle.kx_lex.specs.declared.fault.Fault.{Fault}
use Rattle.kx_merge.specs.Bodies.{faults_of, no_moves}
use Rattle.kx_merge.specs.Offers.{names_of}
use Rattle.kx_clients.specs.declared.alias.Alias.{Alias}

-- the own name of a key that has this other name
abbrev pub named_key : Codes → List ℕ → Option (List ℕ)
named_key codes name = option_and_then (λ key. if bytes_eq name key then None else Some key) (option_and_then (name_of codes) (code_of codes name))

abbrev pub known_alias : Codes → List ℕ → List Alias
known_alias codes name = option_map_or (λ key. record { name = name; key = key } ∷ []) (named_key codes name) []

-- in the order in which a keycodes body first names them; one of no key is left out, and one that is a key's own name
abbrev pub known_aliases : Codes → Body → List Alias
known_aliases codes body = flat_map (known_alias codes) (names_of bytes_eq (alias_offers body))

-- ---- Under names, for clauses

abbrev pub alias_faults : Body → List Fault
alias_faults body = faults_of bytes_eq alias_rules no_moves body

-- the names of records
abbrev pub names_in : {R : Type 0} → List (List ℕ × R) → List (List ℕ)
names_in {R} records = map {A = List ℕ × R} {B = List ℕ} (λ r. r.0) records
