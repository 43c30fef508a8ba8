-- Where no statement of keycodes has a fault, no alias has one.
use Rattle.std.proofs.Common.{◌≡◌, ℕ, List, [], ◌∷◌, ◌++◌, refl, rules, ap, ◌∙◌}
use Rattle.std.specs.Str.{bytes_eq}
use Rattle.kx_include.specs.Expansion.{Body, End, Begin, Own, Inc}
use Rattle.kx_lex.specs.declared.fault.Fault.{Fault}
use Rattle.kx_lex.specs.declared.token.Span.{Span}
use Rattle.kx_merge.specs.Bodies.{faults, no_moves}
use Rattle.kx_tree.specs.declared.tree.Statement.{Statement as Said}
use Rattle.kx_tree.specs.declared.tree.Statement.TheVariants as said
use Rattle.kx_codes.specs.Aliases.{alias_faults, alias_in, alias_rules}
use Rattle.kx_codes.specs.CodeFaults.{faults_of, said_faults}

none-left : (fs gs : List Fault) → fs ++ gs ≡ [] → fs ≡ []
none-left [] gs none = refl
none-left (f ∷ fs) gs none = Prim.search rules

none-right : (fs gs : List Fault) → fs ++ gs ≡ [] → gs ≡ []
none-right [] gs none = none
none-right (f ∷ fs) gs none = Prim.search rules

none-both : (fs gs : List Fault) → fs ≡ [] → gs ≡ [] → fs ++ gs ≡ []
none-both fs gs left right = ap (λ xs. xs ++ gs) left ∙ right

said-faultless : (file : ℕ) (statement : Said) (first whole : Span) → said_faults file statement first whole ≡ [] → alias_faults file whole (alias_in statement) ≡ []
said-faultless file (said.Alias name target) first whole none = none
said-faultless file _ first whole none = refl

pub aliases_faultless : (body : Body) → faults_of body ≡ [] → faults bytes_eq alias_rules no_moves tt body ≡ []
aliases_faultless End none = refl
aliases_faultless (Begin rest) none = aliases_faultless rest none
aliases_faultless (Own place stated rest) none =
    let said = said_faults place.file stated.statement stated.first stated.span in
    none-both (alias_faults place.file stated.span (alias_in stated.statement)) (faults bytes_eq alias_rules no_moves tt rest) (said-faultless place.file stated.statement stated.first stated.span (none-left said (faults_of rest) none)) (aliases_faultless rest (none-right said (faults_of rest) none))
aliases_faultless (Inc mode group body rest) none = none-both (faults bytes_eq alias_rules no_moves tt body) (faults bytes_eq alias_rules no_moves tt rest) (aliases_faultless body (none-left (faults_of body) (faults_of rest) none)) (aliases_faultless rest (none-right (faults_of body) (faults_of rest) none))
