-- Aliases of names of keys, and the target that a keycodes body gives each, by precedence.
use Rattle.std.specs.Prelude.{ℕ, List, [], ◌∷◌, ◌++◌, Option, None, Some, map}
use Rattle.std.specs.Map.{lookup}
use Rattle.std.specs.Option.{option_and_then, option_map_or}
use Rattle.std.specs.Str.{bytes_eq}
use Rattle.kx_include.specs.Expansion.{Body}
use Rattle.kx_lex.specs.declared.fault.Fault.{Fault}
use Rattle.kx_lex.specs.declared.name.Name.{Name}
use Rattle.kx_lex.specs.declared.token.Span.{Span}
use Rattle.kx_merge.specs.Bodies.{Rules, offers_of, no_moves}
use Rattle.kx_merge.specs.Offers.{Offer, value_of, plain_offer}
use Rattle.kx_merge.specs.Single.{single_rules}
use Rattle.kx_tree.specs.declared.tree.Mode.{Mode}
use Rattle.kx_tree.specs.declared.tree.Stated.{Stated}
use Rattle.kx_tree.specs.declared.tree.Statement.{Statement}
use Rattle.kx_tree.specs.declared.tree.Statement.TheVariants.{Alias}
use Rattle.kx_merge.specs.Faults.{name_faults}

-- an alias has one cell, its target
abbrev pub AliasOffer : Type 0
AliasOffer = Offer (List ℕ) (Unit {0}) (List ℕ)

abbrev pub alias_offer : Mode → List ℕ → List ℕ → AliasOffer
alias_offer mode name target = plain_offer mode name (λ _. Some target)

-- the name and the target of an alias statement
abbrev pub alias_in : Statement → Option (Name × Name)
alias_in (Alias name target) = Some (name, target)
alias_in _ = None

abbrev pub stated_offers : Stated → List AliasOffer
stated_offers stated = option_map_or (λ a. alias_offer stated.mode a.0.bytes a.1.bytes ∷ []) (alias_in stated.statement) []

-- the faults of an alias' two names, in a statement
abbrev pub alias_faults : ℕ → Span → Option (Name × Name) → List Fault
alias_faults file whole alias = option_map_or (λ a. name_faults file whole a.0 ++ name_faults file whole a.1) alias []

abbrev pub alias_rules : Rules (List ℕ) (Unit {0}) (List ℕ) (Unit {0})
alias_rules = single_rules (λ place stated. stated_offers stated) (λ place stated. alias_faults place.file stated.span (alias_in stated.statement))

abbrev pub alias_offers : Body → List AliasOffer
alias_offers body = offers_of bytes_eq alias_rules no_moves body

-- names, each with its target
abbrev pub Aliases : Type 0
Aliases = List (List ℕ × Option (List ℕ))

abbrev pub target_in : Aliases → List ℕ → Option (List ℕ)
target_in aliases name = option_and_then (λ target. target) (lookup (bytes_eq name) aliases)

-- the aliases of a body
abbrev pub aliases_of : Body → Aliases
aliases_of body = map (λ (o : AliasOffer). (o.name, value_of bytes_eq (alias_offers body) o.name tt)) (alias_offers body)

-- ---- Under a name, for clauses and proofs

abbrev pub target_of : Body → List ℕ → Option (List ℕ)
target_of body name = value_of bytes_eq (alias_offers body) name tt
