-- A library that holds the statements of each map that includes reach stands for the whole one.
use Rattle.std.proofs.Common.{◌≡◌, ℕ, ◌+◌, zero, suc, Bool, true, false, cond, List, [], ◌∷◌, Option, None, Some, refl, sym, ap, ◌∙◌, subst, arith}
use Rattle.std.specs.List.{slice_get}
use Rattle.std.specs.Option.{option_and_then}
use Rattle.kx_lex.specs.declared.fault.At.{At}
use Rattle.kx_tree.specs.declared.tree.Item.{Item}
use Rattle.kx_tree.specs.declared.tree.Item.TheVariants.{Include, Statement}
use Rattle.kx_tree.specs.declared.tree.Kind.{Kind}
use Rattle.kx_tree.specs.declared.tree.Section.{Section}
use Rattle.kx_include.specs.Chosen.{found_body, in_place, text_body, unless}
use Rattle.kx_include.specs.Expansion.{Body, Begin, End, Inc, Own, body_of, items_body, map_body, parts_body, sections_body}
use Rattle.kx_include.specs.Held.{StandsFor}
use Rattle.kx_include.specs.IncludeFaults.{Findings, after, all_of, at, both, fault_in, in_depth, in_file, in_include, in_item, in_map, in_part, in_sections, nothing}
use Rattle.kx_parse.specs.IncludeText.{Part, parts_of}
use Rattle.kx_include.specs.Library.{Library, file_of, is_of, items_in, place_in, place_of, sections_in}
use Rattle.kx_include.specs.Limits.{most_depth}
use Rattle.kx_include.specs.Sharing.{part_body}
use Rattle.kx_include.specs.declared.place.Place.{Place}
use Rattle.kx_include.proofs.Sections.{kind-is_of}

-- each part of an include's text, where it has parts, and each of the includes of items
unfoldable pub EachPart : (Part → Type 0) → List Part → Type 0
EachPart Is [] = Unit {0}
EachPart Is (p ∷ ps) = Is p × EachPart Is ps

unfoldable pub EachOfText : (Part → Type 0) → Option (List Part) → Type 0
EachOfText Is (Some ps) = EachPart Is ps
EachOfText Is None = Unit {0}

abbrev pub EachIncluded : (Part → Type 0) → List Item → Type 0
EachIncluded Is [] = Unit {0}
EachIncluded Is (Include mode text span ∷ is) = EachOfText Is (parts_of text.bytes) × EachIncluded Is is
EachIncluded Is (Statement s ∷ is) = EachIncluded Is is

-- what a part names is reached
abbrev pub Reaches : Library → (Kind → Place → Type 0) → Kind → Part → Type 0
Reaches library IsReached kind p = (next : Place) → place_of library kind p ≡ Some next → IsReached kind next

-- places that the sections of the source are among, and what the includes at each of them name; and there both libraries hold the same
pub record Agrees (held whole : Library) (IsReached : Kind → Place → Type 0) : Type 0 where
  pub names : held.names ≡ whole.names
  pub places : (kind : Kind) (map : Option (List ℕ)) (file : ℕ) → place_in held kind map file ≡ place_in whole kind map file
  pub failed : (file : ℕ) → fault_in (slice_get held.texts file) ≡ fault_in (slice_get whole.texts file)
  pub items : (kind : Kind) (place : Place) → IsReached kind place → items_in held place ≡ items_in whole place
  pub closed : (kind : Kind) (place : Place) → IsReached kind place → EachIncluded (Reaches whole IsReached kind) (items_in whole place)
  pub source : sections_in held 0 ≡ sections_in whole 0
  pub starts : (n : ℕ) (s : Section) → slice_get (sections_in whole 0) n ≡ Some s → IsReached s.kind (record { file = 0; section = n })

module _ (held whole : Library) (IsReached : Kind → Place → Type 0) (agrees : Agrees held whole IsReached) where
  files-same : (kind : Kind) (name : List ℕ) → file_of held.names kind name ≡ file_of whole.names kind name
  files-same kind name = ap (λ (ns : List (List ℕ)). file_of ns kind name) agrees.names

  found-same : (kind : Kind) (map : Option (List ℕ)) (file : Option ℕ) → option_and_then (place_in held kind map) file ≡ option_and_then (place_in whole kind map) file
  found-same kind map None = refl
  found-same kind map (Some file) = agrees.places kind map file

  place_of-same : (kind : Kind) (p : Part) → place_of held kind p ≡ place_of whole kind p
  place_of-same kind p = ap (λ (f : Option ℕ). option_and_then (place_in held kind p.map) f) (files-same kind p.file) ∙ found-same kind p.map (file_of whole.names kind p.file)

  -- ---- The bodies

  SameBody : ℕ → Kind → Part → Type 0
  SameBody d kind p = part_body d held kind p ≡ part_body d whole kind p

  parts-same : (d : ℕ) (kind : Kind) (ps : List Part) → EachPart (SameBody d kind) ps → parts_body (part_body d held kind) ps ≡ parts_body (part_body d whole kind) ps
  unfolding EachPart SameBody
  parts-same d kind [] same = refl
  parts-same d kind (p ∷ ps) same = rw same.0 (ap (λ (b : Body). Inc p.mode p.group (part_body d whole kind p) b) (parts-same d kind ps same.1))

  text-same : (d : ℕ) (kind : Kind) (ps : Option (List Part)) → EachOfText (SameBody d kind) ps → text_body (part_body d held kind) ps ≡ text_body (part_body d whole kind) ps
  unfolding EachOfText
  text-same d kind (Some ps) same = parts-same d kind ps same
  text-same d kind None same = refl

  items-same : (d : ℕ) (kind : Kind) (place : Place) (is : List Item) (rest : Body) → EachIncluded (SameBody d kind) is → items_body (part_body d held kind) place is rest ≡ items_body (part_body d whole kind) place is rest
  items-same d kind place [] rest same = refl
  items-same d kind place (Include mode text span ∷ is) rest same =
      ap (λ (b : Body). Inc mode None b (items_body (part_body d held kind) place is rest)) (text-same d kind (parts_of text.bytes) same.0)
      ∙ ap (λ (b : Body). Inc mode None (text_body (part_body d whole kind) (parts_of text.bytes)) b) (items-same d kind place is rest same.1)
  items-same d kind place (Statement s ∷ is) rest same = ap (λ (b : Body). Own place s b) (items-same d kind place is rest same)

  -- what is known of each part that is reached, of all of them
  each-part : {P Q : Part → Type 0} → ((p : Part) → P p → Q p) → (ps : List Part) → EachPart P ps → EachPart Q ps
  unfolding EachPart
  each-part f [] each = tt
  each-part f (p ∷ ps) each = (f p each.0, each-part f ps each.1)

  each-text : {P Q : Part → Type 0} → ((p : Part) → P p → Q p) → (ps : Option (List Part)) → EachOfText P ps → EachOfText Q ps
  unfolding EachOfText
  each-text f (Some ps) each = each-part f ps each
  each-text f None each = tt

  each-included : {P Q : Part → Type 0} → ((p : Part) → P p → Q p) → (is : List Item) → EachIncluded P is → EachIncluded Q is
  each-included f [] each = tt
  each-included f (Include mode text span ∷ is) each = (each-text f (parts_of text.bytes) each.0, each-included f is each.1)
  each-included f (Statement s ∷ is) each = each-included f is each

  SameMap : ℕ → Type 0
  SameMap d = (kind : Kind) (place : Place) (rest : Body) → IsReached kind place → map_body d held kind place rest ≡ map_body d whole kind place rest

  found_body-same : (d : ℕ) → SameMap d → (kind : Kind) (o : Option Place) → ((next : Place) → o ≡ Some next → IsReached kind next) → found_body (map_body d held kind) o ≡ found_body (map_body d whole kind) o
  unfolding SameMap
  found_body-same d same kind None reached = refl
  found_body-same d same kind (Some next) reached = same kind next End (reached next refl)

  part-same : (d : ℕ) → SameMap d → (kind : Kind) (p : Part) → Reaches whole IsReached kind p → SameBody d kind p
  unfolding SameBody
  part-same d same kind p reaches =
      ap (λ (o : Option Place). found_body (map_body d held kind) o) (place_of-same kind p) ∙ found_body-same d same kind (place_of whole kind p) reaches

  map-same : (d : ℕ) → SameMap d
  unfolding SameMap
  map-same zero kind place rest reached = refl
  map-same (suc d) kind place rest reached =
      let each = each-included (λ p reaches. part-same d (map-same d) kind p reaches) (items_in whole place) (agrees.closed kind place reached) in
      ap (λ (is : List Item). Begin (items_body (part_body d held kind) place is rest)) (agrees.items kind place reached)
      ∙ ap Begin (items-same d kind place (items_in whole place) rest each)

  -- the sections of a kind, from a number on
  sections-same : (kind : Kind) (n : ℕ) (ss : List Section) → ((k : ℕ) (s : Section) → slice_get ss k ≡ Some s → IsReached s.kind (record { file = 0; section = n + k })) → sections_body (map_body (suc most_depth) held kind) kind n ss ≡ sections_body (map_body (suc most_depth) whole kind) kind n ss
  unfolding SameMap
  sections-same kind n [] reached = refl
  sections-same kind n (s ∷ ss) reached = go (is_of kind s) refl (sections-same kind (n + 1) ss (λ k t found. subst (λ (m : ℕ). IsReached t.kind (record { file = 0; section = m })) (omega arith) (reached (suc k) t found)))
    where
      here : IsReached s.kind (record { file = 0; section = n })
      here = subst (λ (m : ℕ). IsReached s.kind (record { file = 0; section = m })) (omega arith) (reached 0 s refl)

      go : (b : Bool) → is_of kind s ≡ b → sections_body (map_body (suc most_depth) held kind) kind (n + 1) ss ≡ sections_body (map_body (suc most_depth) whole kind) kind (n + 1) ss → cond b (map_body (suc most_depth) held kind (record { file = 0; section = n }) (sections_body (map_body (suc most_depth) held kind) kind (n + 1) ss)) (sections_body (map_body (suc most_depth) held kind) kind (n + 1) ss)
          ≡ cond b (map_body (suc most_depth) whole kind (record { file = 0; section = n }) (sections_body (map_body (suc most_depth) whole kind) kind (n + 1) ss)) (sections_body (map_body (suc most_depth) whole kind) kind (n + 1) ss)
      go true is rest =
          let reached_here = subst (λ (k : Kind). IsReached k (record { file = 0; section = n })) (sym (kind-is_of kind s is)) here in
          map-same (suc most_depth) kind (record { file = 0; section = n }) _ reached_here ∙ ap (λ (b : Body). map_body (suc most_depth) whole kind (record { file = 0; section = n }) b) rest
      go false is rest = rest

  started : (n : ℕ) (s : Section) → slice_get (sections_in whole 0) n ≡ Some s → IsReached s.kind (record { file = 0; section = 0 + n })
  started n s found = subst (λ (m : ℕ). IsReached s.kind (record { file = 0; section = m })) (omega arith) (agrees.starts n s found)

  bodies-same : (kind : Kind) → body_of held kind ≡ body_of whole kind
  bodies-same kind = ap (λ (ss : List Section). sections_body (map_body (suc most_depth) held kind) kind 0 ss) agrees.source ∙ sections-same kind 0 (sections_in whole 0) started

  -- ---- The findings

  SameFound : ℕ → Kind → Part → Type 0
  SameFound d kind p = (text : At) → in_depth d held kind text p ≡ in_depth d whole kind text p

  all-same : (d : ℕ) (kind : Kind) (text place : At) (ps : List Part) → EachPart (SameFound d kind) ps → all_of (in_part (in_depth d held kind text) place) ps ≡ all_of (in_part (in_depth d whole kind text) place) ps
  unfolding EachPart SameFound
  all-same d kind text place [] same = refl
  all-same d kind text place (p ∷ ps) same = rw (same.0 text) (ap (λ (f : Findings). both (after place (in_depth d whole kind text p)) f) (all-same d kind text place ps same.1))

  include-same : (d : ℕ) (kind : Kind) (text place : At) (ps : Option (List Part)) → EachOfText (SameFound d kind) ps → in_include (in_depth d held kind text) text place ps ≡ in_include (in_depth d whole kind text) text place ps
  unfolding EachOfText
  include-same d kind text place (Some ps) same = all-same d kind text place ps same
  include-same d kind text place None same = refl

  found-items : (d : ℕ) (kind : Kind) (file : ℕ) (is : List Item) → EachIncluded (SameFound d kind) is → all_of (in_item (in_depth d held kind) file) is ≡ all_of (in_item (in_depth d whole kind) file) is
  found-items d kind file [] same = refl
  found-items d kind file (Include mode text span ∷ is) same =
      ap (λ (f : Findings). both f (all_of (in_item (in_depth d held kind) file) is)) (include-same d kind (at file text.span) (at file span) (parts_of text.bytes) same.0)
      ∙ ap (λ (f : Findings). both (in_item (in_depth d whole kind) file (Include mode text span)) f) (found-items d kind file is same.1)
  found-items d kind file (Statement s ∷ is) same = ap (λ (f : Findings). both nothing f) (found-items d kind file is same)

  SameMapFound : ℕ → Type 0
  SameMapFound d = (kind : Kind) (place : Place) → IsReached kind place → in_map d held kind place ≡ in_map d whole kind place

  in_place-same : (d : ℕ) → SameMapFound d → (kind : Kind) (text : At) (o : Option Place) → ((next : Place) → o ≡ Some next → IsReached kind next) → in_place (in_map d held kind) text o ≡ in_place (in_map d whole kind) text o
  unfolding SameMapFound
  in_place-same d same kind text None reached = refl
  in_place-same d same kind text (Some next) reached = same kind next (reached next refl)

  in_file-same : (d : ℕ) → SameMapFound d → (kind : Kind) (text : At) (map : Option (List ℕ)) (file : Option ℕ) → ((next : Place) → option_and_then (place_in whole kind map) file ≡ Some next → IsReached kind next) → in_file (in_map d held kind) held kind map text file ≡ in_file (in_map d whole kind) whole kind map text file
  in_file-same d same kind text map None reached = refl
  in_file-same d same kind text map (Some file) reached =
      ap (λ (f : _). unless f (in_place (in_map d held kind) text (place_in held kind map file))) (agrees.failed file)
      ∙ ap (λ (o : Option Place). unless (fault_in (slice_get whole.texts file)) (in_place (in_map d held kind) text o)) (agrees.places kind map file)
      ∙ ap (λ (f : Findings). unless (fault_in (slice_get whole.texts file)) f) (in_place-same d same kind text (place_in whole kind map file) reached)

  in_depth-same : (d : ℕ) → SameMapFound d → (kind : Kind) (p : Part) → Reaches whole IsReached kind p → SameFound (suc d) kind p
  unfolding SameFound
  in_depth-same d same kind p reaches text =
      ap (λ (f : Option ℕ). in_file (in_map d held kind) held kind p.map text f) (files-same kind p.file) ∙ in_file-same d same kind text p.map (file_of whole.names kind p.file) reaches

  in_zero-same : (kind : Kind) (p : Part) → SameFound 0 kind p
  unfolding SameFound
  in_zero-same kind p text = refl

  found-same_map : (d : ℕ) → SameMapFound d
  unfolding SameMapFound
  found-same_map zero kind place reached =
      let each = each-included (λ p reaches. in_zero-same kind p) (items_in whole place) (agrees.closed kind place reached) in
      ap (λ (is : List Item). all_of (in_item (in_depth 0 held kind) place.file) is) (agrees.items kind place reached) ∙ found-items 0 kind place.file (items_in whole place) each
  found-same_map (suc d) kind place reached =
      let each = each-included (λ p reaches. in_depth-same d (found-same_map d) kind p reaches) (items_in whole place) (agrees.closed kind place reached) in
      ap (λ (is : List Item). all_of (in_item (in_depth (suc d) held kind) place.file) is) (agrees.items kind place reached) ∙ found-items (suc d) kind place.file (items_in whole place) each

  in_sections-same : (n : ℕ) (ss : List Section) → ((k : ℕ) (s : Section) → slice_get ss k ≡ Some s → IsReached s.kind (record { file = 0; section = n + k })) → in_sections (λ kind place. in_map most_depth held kind place) n ss ≡ in_sections (λ kind place. in_map most_depth whole kind place) n ss
  unfolding SameMapFound
  in_sections-same n [] reached = refl
  in_sections-same n (s ∷ ss) reached =
      let here = subst (λ (m : ℕ). IsReached s.kind (record { file = 0; section = m })) (omega arith) (reached 0 s refl) in
      let next = in_sections-same (n + 1) ss (λ k t found. subst (λ (m : ℕ). IsReached t.kind (record { file = 0; section = m })) (omega arith) (reached (suc k) t found)) in
      ap (λ (f : Findings). both f (in_sections (λ kind place. in_map most_depth held kind place) (n + 1) ss)) (found-same_map most_depth s.kind (record { file = 0; section = n }) here)
      ∙ ap (λ (f : Findings). both (in_map most_depth whole s.kind (record { file = 0; section = n })) f) next

  pub stands-for : StandsFor held whole
  stands-for = record {
    bodies = bodies-same;
    found = ap (λ (ss : List Section). in_sections (λ kind place. in_map most_depth held kind place) 0 ss) agrees.source ∙ in_sections-same 0 (sections_in whole 0) started;
  }
