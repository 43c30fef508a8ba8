-- The virtual modifiers of a keymap, and their declared masks by precedence.
use Rattle.std.specs.Prelude.{◌≡◌, ℕ, ◌<◌, ◌≤◌, ◌==◌, nat_eq, List, [], ◌∷◌, ◌++◌, fold, length, map, slice_get, Option, None, is_some, unwrap_or, if◌then◌else◌}
use Rattle.std.specs.List.{flat_map}
use Rattle.std.specs.Option.{option_or, option_map, option_map_or}
use Rattle.kx_include.specs.Expansion.{Body}
use Rattle.kx_include.specs.IncludeFaults.{at}
use Rattle.kx_include.specs.Shared.{expanded_body}
use Rattle.kx_include.specs.declared.expansion.Bodies.{Bodies}
use Rattle.kx_lex.specs.declared.fault.Fault.{Fault}
use Rattle.kx_lex.specs.declared.fault.Fault.TheVariants.{BadValue}
use Rattle.kx_lex.specs.declared.name.Name.{Name}
use Rattle.kx_merge.specs.Bodies.{Rules, faults_of, offers_of, no_moves}
use Rattle.kx_merge.specs.Offers.{Offer, value_of, with_name, plain_offer}
use Rattle.kx_merge.specs.Single.{single_rules}
use Rattle.kx_mods.specs.Mods.{mask}
use Rattle.kx_mods.specs.declared.mods.Mods.{Mods}
use Rattle.kx_tree.specs.declared.tree.Declaration.{Declaration}
use Rattle.kx_tree.specs.declared.tree.Expression.{Expression}
use Rattle.kx_tree.specs.declared.tree.Mode.{Mode}
use Rattle.kx_tree.specs.declared.tree.Stated.{Stated}
use Rattle.kx_tree.specs.declared.tree.Statement.{Statement}
use Rattle.kx_tree.specs.declared.tree.Statement.TheVariants.{VirtualModifiers}
use Rattle.kx_virtual_mods.specs.Counted.{all_statements, count_faults, names_of}
use Rattle.kx_virtual_mods.specs.Masks.{mask_set, real_mask, real_mask_faults, virtual_number}
use Rattle.kx_virtual_mods.specs.Sets.{union}
use Rattle.kx_virtual_mods.specs.declared.limits.TheConstants.{MOST_VIRTUAL_MODIFIERS}

abbrev pub declarations_in : Statement → List Declaration
declarations_in (VirtualModifiers declarations) = declarations
declarations_in _ = []

-- what a declaration names; a word for real modifiers is no virtual one
abbrev pub named_by : Declaration → List (List ℕ)
named_by d = if is_some (real_mask d.word.bytes) then [] else d.word.bytes ∷ []

-- the virtual modifiers that a statement names
abbrev pub named_in : Statement → List (List ℕ)
named_in statement = flat_map named_by (declarations_in statement)

-- what a declaration gives: its number, and the mask where it writes one
abbrev pub Given : Type 0
Given = ℕ × Option ℕ

-- of what is written twice the mask written last counts
abbrev pub last_mask : List Given → ℕ → Option ℕ
last_mask [] number = None
last_mask (g ∷ gs) number = option_or (last_mask gs number) (if number == g.0 then g.1 else None)

-- a statement offers each virtual modifier that it names its mask once, as its one cell
abbrev pub mask_offers : Mode → List Given → List (Offer ℕ (Unit {0}) ℕ)
mask_offers mode given = map (λ number. plain_offer mode number (λ _. last_mask given number)) (fold (with_name nat_eq) [] (map (λ (g : Given). g.0) given))

module _ (names : List (List ℕ)) where
  abbrev pub given_in : List Declaration → List Given
  given_in declarations = flat_map (λ d. option_map_or (λ number. (number, option_map (mask_set []) d.mask) ∷ []) (virtual_number names d.word.bytes) []) declarations

  abbrev pub stated_offers : Stated → List (Offer ℕ (Unit {0}) ℕ)
  stated_offers stated = mask_offers stated.mode (given_in (declarations_in stated.statement))

module _ (file : ℕ) where
  -- a virtual modifier has no name of a real one, in any case, and isn't `all` or `none`
  abbrev pub name_faults : Name → List Fault
  name_faults word = if is_some (real_mask word.bytes) then BadValue (at file word.span) ∷ [] else []

  -- a declared mask has real modifiers only
  abbrev pub declaration_faults : List (List ℕ) → Declaration → List Fault
  declaration_faults names d = name_faults d.word ++ option_map_or (real_mask_faults file names) d.mask []

  abbrev pub stated_faults : List (List ℕ) → Stated → List Fault
  stated_faults names stated = flat_map (declaration_faults names) (declarations_in stated.statement)

abbrev pub mask_rules : List (List ℕ) → Rules ℕ (Unit {0}) ℕ (Unit {0})
mask_rules names = single_rules (λ place stated. stated_offers names stated) (λ place stated. stated_faults place.file names stated)

-- the bodies in which virtual modifiers are declared, in the order in which they are numbered
abbrev pub modifier_bodies : Bodies → List Body
modifier_bodies b = expanded_body b.types ∷ expanded_body b.compat ∷ expanded_body b.symbols ∷ []

-- those of bodies together
abbrev pub declared_mask : List (List ℕ) → List Body → ℕ → ℕ
declared_mask names bodies number = fold (λ mask body. union mask (unwrap_or (value_of nat_eq (offers_of nat_eq (mask_rules names) no_moves body) number tt) 0)) 0 bodies

-- the virtual modifiers of a keymap by number, and their declared masks
pub record ModNames : Type 0 where
  pub names : List (List ℕ)
  pub masks : List Mods

-- the virtual modifiers by number
abbrev pub virtual_names : List Body → List (List ℕ)
virtual_names bodies = names_of named_in (all_statements bodies)

abbrev pub mask_at : ModNames → ℕ → ℕ
mask_at m number = option_map_or mask (slice_get m.masks number) 0

-- what bodies declare: the names by first appearance, and the masks
pub record AreModNames (m : ModNames) (bodies : List Body) : Type 0 where
  pub names_are : m.names ≡ virtual_names bodies
  pub masks_are : (number : ℕ) → number < MOST_VIRTUAL_MODIFIERS → mask_at m number ≡ declared_mask m.names bodies number
  pub few : length m.names ≤ MOST_VIRTUAL_MODIFIERS

-- the statement with which there are too many, and the faults of declarations
abbrev pub modifier_faults : List Body → List Fault
modifier_faults bodies =
    count_faults named_in MOST_VIRTUAL_MODIFIERS (all_statements bodies)
    ++ flat_map (faults_of nat_eq (mask_rules (virtual_names bodies)) no_moves) bodies

-- ---- Under names, for clauses and proofs

abbrev pub given_by : Option ℕ → Option Expression → List Given
given_by number mask = option_map_or (λ n. (n, option_map (mask_set []) mask) ∷ []) number []

abbrev pub mask_offer : Mode → List Given → ℕ → Offer ℕ (Unit {0}) ℕ
mask_offer mode given number = plain_offer mode number (λ _. last_mask given number)

abbrev pub declared_faults : ℕ → List (List ℕ) → Option Expression → List Fault
declared_faults file names mask = option_map_or (real_mask_faults file names) mask []

abbrev pub numbers_of : List Given → List ℕ
numbers_of given = fold (with_name nat_eq) [] (map (λ (g : Given). g.0) given)
