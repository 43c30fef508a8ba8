-- The modifiers that the modifier maps of a symbols body give keys and keysyms.
use Rattle.std.specs.Prelude.{◌≡◌, ℕ, ◌^◌, List, [], ◌∷◌, map, Option, None, Some, unwrap_or, if◌then◌else◌}
use Rattle.std.specs.List.{flat_map}
use Rattle.std.specs.Map.{lookup}
use Rattle.std.specs.Option.{option_map, option_map_or}
use Rattle.ks_core.specs.Table.{KeysymTable}
use Rattle.kx_codes.specs.Codes.{Codes}
use Rattle.kx_include.specs.Expansion.{Body}
use Rattle.kx_lex.specs.declared.fault.Fault.{Fault}
use Rattle.kx_lex.specs.declared.name.Name.{Name}
use Rattle.kx_virtual_mods.specs.Sets.{has}
use Rattle.kx_merge.specs.Bodies.{Rules, Moves, faults_of, offers_of, no_moves}
use Rattle.kx_merge.specs.Offers.{Offer, names_of, value_of, plain_offer}
use Rattle.kx_merge.specs.Plain.{plain_form}
use Rattle.kx_merge.specs.Records.{AreOffered}
use Rattle.kx_merge.specs.declared.plain.Plain.{Plain}
use Rattle.kx_mods.specs.Mods.{mask}
use Rattle.kx_tree.specs.declared.tree.Entry.{Entry}
use Rattle.kx_tree.specs.declared.tree.Mode.{Mode}
use Rattle.kx_modmaps.specs.Entries.{map_in, same_target, stated_faults, targets_of, word_mask}
use Rattle.kx_modmaps.specs.declared.maps.KeysymEntry.{KeysymEntry}
use Rattle.kx_modmaps.specs.declared.record.Assigned.{Assigned}
use Rattle.kx_modmaps.specs.declared.record.Cell.{Cell}
use Rattle.kx_modmaps.specs.declared.record.Cell.TheVariants.{Present, Only}
use Rattle.kx_modmaps.specs.declared.target.Target.{Target}
use Rattle.kx_modmaps.specs.declared.target.Target.TheVariants.{Key, Keysym}

-- a key has a cell for each modifier, with the modifier where it is present; none is a modifier, and no cell has it
abbrev pub present : ℕ → ℕ → Option ℕ
present mask modifier = if has mask modifier then Some (2 ^ modifier) else None

-- a keysym has one cell, with its one modifier or with none
abbrev pub given : Target → ℕ → Cell → Option ℕ
given (Key code) mask (Present modifier) = present mask modifier
given (Key code) mask Only = None
given (Keysym keysym) mask (Present modifier) = None
given (Keysym keysym) mask Only = Some mask

abbrev pub offers_to : Mode → Option ℕ → List Target → List (Offer Target Cell ℕ)
offers_to mode None targets = []
offers_to mode (Some mask) targets = map (λ target. plain_offer mode target (given target mask)) targets

abbrev pub map_offers : Codes → KeysymTable → Mode → Option (Name × List Entry) → List (Offer Target Cell ℕ)
map_offers codes names mode map = option_map_or (λ m. offers_to mode (word_mask m.0.bytes) (targets_of codes names m.1)) map []

-- `modifiers` are the names of virtual modifiers
abbrev pub map_rules : Codes → KeysymTable → List (List ℕ) → Rules Target Cell ℕ (Unit {0})
map_rules codes names modifiers = record { start = tt; next = λ d stated. tt; offers = λ d place stated. map_offers codes names stated.mode (map_in stated.statement); faults = λ d place stated. stated_faults place.file modifiers stated }

abbrev pub map_offers_of : Codes → KeysymTable → List (List ℕ) → Body → List (Offer Target Cell ℕ)
map_offers_of codes names modifiers body = offers_of same_target (map_rules codes names modifiers) no_moves body

-- what a record of a target holds
abbrev pub assigned_cell : Assigned → Cell → Option ℕ
assigned_cell a (Present modifier) = present (mask a.present) modifier
assigned_cell a Only = option_map mask a.only

-- what modifier maps give: records by target, and the keysyms among them in order
pub record Maps : Type 0 where
  pub by_target : List (Target × Plain Assigned)
  pub by_keysym : List KeysymEntry

-- the mask of the modifiers of a key
abbrev pub key_mask : Maps → ℕ → ℕ
key_mask maps code = option_map_or (λ (a : Plain Assigned). mask a.values.present) (lookup (same_target (Key code)) maps.by_target) 0

-- a keysym and the mask of its modifier
abbrev pub shown_entry : KeysymEntry → ℕ × ℕ
shown_entry e = (e.keysym, mask e.modifier)

module _ (os : List (Offer Target Cell ℕ)) where
  abbrev pub keysym_given : Target → List (ℕ × ℕ)
  keysym_given (Key code) = []
  keysym_given (Keysym keysym) = (keysym, unwrap_or (value_of same_target os (Keysym keysym) Only) 0) ∷ []

  -- the keysyms that modifier maps name, in the order of first appearance, each with the mask of its modifier
  abbrev pub keysyms_given : List (ℕ × ℕ)
  keysyms_given = flat_map keysym_given (names_of same_target os)

-- that keys and keysyms have the modifiers that a symbols body gives them by precedence
pub record AreModifierMaps (maps : Maps) (codes : Codes) (names : KeysymTable) (modifiers : List (List ℕ)) (body : Body) : Type 0 where
  pub keys_are : (code modifier : ℕ) → present (key_mask maps code) modifier ≡ value_of same_target (map_offers_of codes names modifiers body) (Key code) (Present modifier)
  pub keysyms_are : map shown_entry maps.by_keysym ≡ keysyms_given (map_offers_of codes names modifiers body)

-- ---- Under names, for clauses and proofs

abbrev pub map_moves : Moves Target Cell
map_moves = no_moves

abbrev pub map_offer : Mode → ℕ → Target → Offer Target Cell ℕ
map_offer mode mask target = plain_offer mode target (given target mask)

abbrev pub map_faults_of : Codes → KeysymTable → List (List ℕ) → Body → List Fault
map_faults_of codes names modifiers body = faults_of same_target (map_rules codes names modifiers) map_moves body

-- records of targets are offers in order
abbrev pub AreAssigned : Mode → List (Target × Plain Assigned) → List (Offer Target Cell ℕ) → Type 0
AreAssigned mode records os = AreOffered {K = Target} {C = Cell} {V = ℕ} {R = Plain Assigned} mode (plain_form assigned_cell) records os
