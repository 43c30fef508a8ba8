-- Libraries that lack the statements of maps that no include reaches.
use Rattle.std.specs.Prelude.{◌≡◌, ℕ, ◌+◌, Bool, true, false, List, [], ◌∷◌, Option, Some, None, Ok, get_or, if◌then◌else◌, map, slice_get}
use Rattle.std.specs.List.{list_all}
use Rattle.std.specs.Option.{option_map_or}
use Rattle.kx_parse.specs.Outline.{IsOutline, outline_of}
use Rattle.kx_parse.specs.declared.outline.Outline.{Outline}
use Rattle.kx_tree.specs.declared.tree.Item.{Item}
use Rattle.kx_tree.specs.declared.tree.Item.TheVariants.{Include, Statement}
use Rattle.kx_tree.specs.declared.tree.Kind.{Kind}
use Rattle.kx_tree.specs.declared.tree.Section.{Section}
use Rattle.kx_tree.specs.declared.tree.Tree.{Tree}
use Rattle.kx_include.specs.Expansion.{body_of}
use Rattle.kx_include.specs.FileText.{FileText}
use Rattle.kx_include.specs.IncludeFaults.{findings}
use Rattle.kx_parse.specs.IncludeText.{Part, parts_of}
use Rattle.kx_include.specs.Library.{Library, Text, place_of, sections_in}
use Rattle.kx_include.specs.Source.{Handed, IsRead}
use Rattle.kx_include.specs.Texts.{AreTexts, IsLibrary}
use Rattle.kx_include.specs.declared.place.Place.{Place}

-- the same bodies, the same includes and the same faults of them: no more is ever looked at
pub record StandsFor (held whole : Library) : Type 0 where
  pub bodies : (kind : Kind) → body_of held kind ≡ body_of whole kind
  pub found : findings held ≡ findings whole

-- a library stands for that of a source and its files
pub record IsHeld (source : List ℕ) (files : Handed) (held : Library) : Type 0 where
  pub whole : Library
  pub read : IsRead source files whole
  pub stands : StandsFor held whole

-- a library stands for that of a tree and files
pub record IsHeldLibrary (tree : Tree) (files : Handed) (held : Library) : Type 0 where
  pub whole : Library
  pub read : IsLibrary tree files whole
  pub stands : StandsFor held whole

-- ---- Under names, for clauses and proofs

-- a section with its statements where it is wanted, and else without them
abbrev pub held_section : Bool → Section → Section
held_section wanted s = if wanted then s else outline_of s

-- the same of sections one after another: none is wanted that no flag is for
abbrev pub held_sections : List Bool → List Section → List Section
held_sections wanted [] = []
held_sections [] (s ∷ ss) = outline_of s ∷ held_sections [] ss
held_sections (w ∷ ws) (s ∷ ss) = held_section w s ∷ held_sections ws ss

-- a text that is no file's outline is all of it; one that is has the outlines of the file's sections
abbrev pub IsSketch : Text → Option FileText → Text → Type 0
IsSketch text None whole = whole ≡ text
IsSketch text (Some file) whole = (outline : Outline) × (file.outline ≡ Some outline) × (text ≡ Ok (record { sections = outline.sections })) × ((is : IsOutline file.bytes outline) × (whole ≡ Ok (record { sections = map (λ s. s.0) is.sections })))

-- the same of texts one after another
pub data AreSketches : List Text → List (Option FileText) → List Text → Type 0 where
  sketch_none : AreSketches [] [] []
  sketch_more : {text whole : Text} {file : Option FileText} {texts wholes : List Text} {files : List (Option FileText)} → IsSketch text file whole → AreSketches texts files wholes → AreSketches (text ∷ texts) (file ∷ files) (whole ∷ wholes)

-- the file whose outline the text of a number is
abbrev pub file_by : List (Option FileText) → ℕ → Option FileText
file_by files n = get_or files n None

-- a source's tree, and the texts of files as they are outlined
pub record AreOutlined (tree : Tree) (files : Handed) (outlined : Library) (outlines : List (Option FileText)) : Type 0 where
  pub names : outlined.names ≡ map (λ f. f.0) files
  pub wholes : List Text
  pub texts : AreTexts 1 files wholes
  pub sketches : AreSketches outlined.texts outlines (Ok tree ∷ wholes)

-- of each text which of its sections are wanted
abbrev pub Flags : Type 0
Flags = List (List Bool)

abbrev pub flags_of : Flags → ℕ → List Bool
flags_of flags file = get_or flags file []

abbrev pub is_wanted : Flags → Place → Bool
is_wanted flags place = get_or (flags_of flags place.file) place.section false

-- an outlined text, the same with the statements that are wanted, and all of it
pub data Holds (wanted : List Bool) : Text → Text → Text → Type 0 where
  all : {text : Text} → Holds wanted text text text
  some : {sections : List Section} → Holds wanted (Ok (record { sections = map outline_of sections })) (Ok (record { sections = held_sections wanted sections })) (Ok (record { sections = sections }))

-- the same of texts one after another, counted on
pub data AreHeld (flags : Flags) : ℕ → List Text → List Text → List Text → Type 0 where
  held_none : {n : ℕ} → AreHeld flags n [] [] []
  held_more : {n : ℕ} {text held whole : Text} {texts helds wholes : List Text} → Holds (flags_of flags n) text held whole → AreHeld flags (n + 1) texts helds wholes → AreHeld flags n (text ∷ texts) (held ∷ helds) (whole ∷ wholes)

-- what a part names is wanted, if it names a map
abbrev pub closed_part : Library → Flags → Kind → Part → Bool
closed_part library flags kind p = option_map_or (is_wanted flags) (place_of library kind p) true

abbrev pub closed_text : Library → Flags → Kind → List ℕ → Bool
closed_text library flags kind text = option_map_or (list_all (closed_part library flags kind)) (parts_of text) true

abbrev pub closed_item : Library → Flags → Kind → Item → Bool
closed_item library flags kind (Include mode text span) = closed_text library flags kind text.bytes
closed_item library flags kind (Statement stated) = true

-- the includes of a section that is wanted name none that isn't; and of the source each section is
pub record IsClosedAt (library : Library) (flags : Flags) (file n : ℕ) : Type 0 where
  pub source : (s : Section) → file ≡ 0 → slice_get (sections_in library file) n ≡ Some s → is_wanted flags (record { file = file; section = n }) ≡ true
  pub closed : (s : Section) → is_wanted flags (record { file = file; section = n }) ≡ true → slice_get (sections_in library file) n ≡ Some s → list_all (closed_item library flags s.kind) s.items ≡ true

abbrev pub IsClosedIn : Library → Flags → ℕ → Type 0
IsClosedIn library flags file = (n : ℕ) → IsClosedAt library flags file n

abbrev pub IsClosed : Library → Flags → Type 0
IsClosed library flags = (file : ℕ) → IsClosedIn library flags file

-- all sections are wanted
abbrev pub IsAll : Library → Flags → Type 0
IsAll library flags = (place : Place) (s : Section) → slice_get (sections_in library place.file) place.section ≡ Some s → is_wanted flags place ≡ true
