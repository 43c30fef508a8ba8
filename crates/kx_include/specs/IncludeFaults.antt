-- The faults of the includes of a keymap, and the includes in the order in which they are expanded.
use Rattle.std.specs.Prelude.{◌≡◌, ◌⊎◌, ℕ, ◌+◌, ◌-◌, ◌≤◌, suc, zero, length, List, [], ◌∷◌, ◌++◌, Contains, Option, None, Some, Ok, Err, slice_get}
use Rattle.std.specs.Option.{option_map_or}
use Rattle.kx_lex.specs.declared.fault.At.{At}
use Rattle.kx_lex.specs.declared.fault.Fault.{Fault}
use Rattle.kx_lex.specs.declared.fault.Fault.TheVariants as fault
use Rattle.kx_lex.specs.declared.token.Span.{Span}
use Rattle.kx_tree.specs.declared.tree.Item.{Item}
use Rattle.kx_tree.specs.declared.tree.Item.TheVariants.{Include, Statement}
use Rattle.kx_tree.specs.declared.tree.Kind.{Kind}
use Rattle.kx_tree.specs.declared.tree.Section.{Section}
use Rattle.kx_parse.specs.IncludeText.{Part, parts_of}
use Rattle.kx_include.specs.Library.{Library, Text, items_in, sections_in, file_of, place_in}
use Rattle.kx_include.specs.declared.expanding.TheConstants.{MOST_DEPTH, MOST_PARTS}
use Rattle.kx_include.specs.declared.place.Place.{Place}

abbrev pub at : ℕ → Span → At
at file span = record { file = file; span = span }

-- what there is to say of maps: the places of the includes in them as they are expanded, and the faults
pub record Findings : Type 0 where
  pub visits : List At
  pub faults : List Fault

abbrev pub nothing : Findings
nothing = record { visits = []; faults = [] }

abbrev pub only : Fault → Findings
only f = record { visits = []; faults = f ∷ [] }

abbrev pub both : Findings → Findings → Findings
both a b = record { visits = a.visits ++ b.visits; faults = a.faults ++ b.faults }

abbrev pub after : At → Findings → Findings
after place a = record { visits = place ∷ a.visits; faults = a.faults }

-- the fault for which a text has no tree
abbrev pub fault_in : Option Text → Option Fault
fault_in (Some (Err f)) = Some f
fault_in _ = None

-- in a file's map, where there is the file, its text has a tree and the map is in it
abbrev pub in_file : (Place → Findings) → Library → Kind → Option (List ℕ) → At → Option ℕ → Findings
in_file inner library kind map text None = only (fault.FileMissing text)
in_file inner library kind map text (Some file) = option_map_or only (fault_in (slice_get library.texts file)) (option_map_or inner (place_in library kind map file) (only (fault.MapMissing text)))

abbrev pub all_of : {X : Type 0} → (X → Findings) → List X → Findings
all_of f [] = nothing
all_of f (x ∷ xs) = both (f x) (all_of f xs)

-- an item of a section of a file; a fault is at the text, and a place is that of the word and the text
abbrev pub in_item : (At → Part → Findings) → ℕ → Item → Findings
in_item inner file (Include mode text span) = option_map_or (all_of (λ p. after (at file span) ((inner (at file text.span)) p))) (parts_of text.bytes) (only (fault.BadInclude (at file text.span)))
in_item inner file (Statement stated) = nothing

-- a part in a text at a place, in which includes may be nested as deep as a number
abbrev pub in_depth : ℕ → Library → Kind → At → Part → Findings
in_depth zero library kind text p = only (fault.DepthOver16 text)
in_depth (suc depth) library kind text p = in_file (λ place. all_of (in_item (in_depth depth library kind) place.file) (items_in library place)) library kind p.map text (file_of library.names kind p.file)

-- those of a map, in which includes may be nested as deep as a number
abbrev pub in_map : ℕ → Library → Kind → Place → Findings
in_map depth library kind place = all_of (in_item (in_depth depth library kind) place.file) (items_in library place)

-- the source's sections, counted on
abbrev pub in_sections : (Kind → Place → Findings) → ℕ → List Section → Findings
in_sections inner n [] = nothing
in_sections inner n (s ∷ ss) = both (inner s.kind (record { file = 0; section = n })) (in_sections inner (n + 1) ss)

abbrev pub findings : Library → Findings
findings library = in_sections (λ kind place. in_map MOST_DEPTH library kind place) 0 (sections_in library 0)

-- where a number of parts was expanded before, a fault of these: too many parts are one from the first beyond on
abbrev pub HasFaultFrom : ℕ → Findings → Fault → Type 0
HasFaultFrom n a e = Contains a.faults e ⊎ ((place : At) × (slice_get a.visits (MOST_PARTS - n) ≡ Some place) × (e ≡ fault.TooMany place))

-- a fault of a keymap's includes
abbrev pub HasIncludeFault : Library → Fault → Type 0
HasIncludeFault library e = HasFaultFrom 0 (findings library) e

-- none has a fault, and there are not too many parts
abbrev pub IsWhole : Library → Type 0
IsWhole library = ((findings library).faults ≡ []) × (length (findings library).visits ≤ MOST_PARTS)

-- ---- Under names, for clauses and proofs

abbrev pub in_part : (Part → Findings) → At → Part → Findings
in_part inner whole p = after whole (inner p)

abbrev pub in_include : (Part → Findings) → At → At → Option (List Part) → Findings
in_include inner text whole ps = option_map_or (all_of (λ p. after whole (inner p))) ps (only (fault.BadInclude text))
