-- A whole source's bodies leave nothing out.
use Rattle.std.proofs.Common.{◌≡◌, ℕ, ◌+◌, zero, suc, Bool, true, false, cond, List, [], ◌∷◌, ◌++◌, Contains, IsSome, Option, None, Some, refl, sym, ap, ◌∙◌, subst, arith}
use Rattle.std.specs.List.{slice_get}
use Rattle.std.specs.Option.{option_and_then}
use Rattle.kx_lex.specs.declared.fault.At.{At}
use Rattle.kx_lex.specs.declared.fault.Fault.{Fault}
use Rattle.kx_tree.specs.declared.tree.Item.{Item}
use Rattle.kx_tree.specs.declared.tree.Item.TheVariants.{Include, Statement}
use Rattle.kx_tree.specs.declared.tree.Kind.{Kind}
use Rattle.kx_tree.specs.declared.tree.Section.{Section}
use Rattle.kx_include.specs.Complete.{Includes, LeadsTo, LeavesNothingOut, NamesMaps, here, there}
use Rattle.kx_include.specs.Chosen.{found_body, in_place, text_body, unless}
use Rattle.kx_include.specs.Expansion.{Body, Begin, End, Inc, Own, items_body, map_body, parts_body, sections_body}
use Rattle.kx_include.specs.IncludeFaults.{Findings, all_of, at, fault_in, in_depth, in_file, in_include, in_item, in_map, in_part, in_sections, IsWhole}
use Rattle.kx_parse.specs.IncludeText.{Part, parts_of}
use Rattle.kx_include.specs.Library.{Library, file_of, is_of, items_in, place_in, place_of, sections_in}
use Rattle.kx_include.specs.Limits.{most_depth}
use Rattle.kx_include.specs.Sharing.{part_body}
use Rattle.kx_include.specs.declared.place.Place.{Place}
use Rattle.kx_include.proofs.Sections.{kind-is_of}

none-left : (xs ys : List Fault) → xs ++ ys ≡ [] → xs ≡ []
none-left [] ys h = refl
none-left (x ∷ xs) ys h = cc

none-right : (xs ys : List Fault) → xs ++ ys ≡ [] → ys ≡ []
none-right [] ys h = h
none-right (x ∷ xs) ys h = cc

each-faultless : {X : Type 0} (f : X → Findings) (xs : List X) (x : X) → (all_of f xs).faults ≡ [] → Contains xs x → (f x).faults ≡ []
each-faultless f [] x none among = absurd (omega (arith, among.1))
each-faultless f (y ∷ xs) x none (zero, within, is) = subst (λ z. (f z).faults ≡ []) is (none-left (f y).faults (all_of f xs).faults none)
each-faultless f (y ∷ xs) x none (suc k, within, is) = each-faultless f xs x (none-right (f y).faults (all_of f xs).faults none) (k, omega (arith, within), is)

-- ---- A part without a fault names a map without one

record GoesInto (library : Library) (kind : Kind) (d : ℕ) (p : Part) : Type 0 where
  inner : ℕ
  deeper : d ≡ suc inner
  place : Place
  found : place_of library kind p ≡ Some place
  faultless : (in_map inner library kind place).faults ≡ []

in_place-faultless : (inner : Place → Findings) (text : At) (o : Option Place) → (in_place inner text o).faults ≡ [] → (place : Place) × (o ≡ Some place) × ((inner place).faults ≡ [])
in_place-faultless inner text None none = cc
in_place-faultless inner text (Some place) none = (place, refl, none)

unless-faultless : (o : Option Fault) (a : Findings) → (unless o a).faults ≡ [] → a.faults ≡ []
unless-faultless None a none = none
unless-faultless (Some f) a none = cc

in_file-faultless : (library : Library) (kind : Kind) (inner : Place → Findings) (text : At) (p : Part) (file : Option ℕ) → (in_file inner library kind p.map text file).faults ≡ [] → (place : Place) × (option_and_then (place_in library kind p.map) file ≡ Some place) × ((inner place).faults ≡ [])
in_file-faultless library kind inner text p None none = cc
in_file-faultless library kind inner text p (Some file) none = in_place-faultless inner text (place_in library kind p.map file) (unless-faultless (fault_in (slice_get library.texts file)) (in_place inner text (place_in library kind p.map file)) none)

goes_into : (library : Library) (kind : Kind) (text : At) (d : ℕ) (p : Part) → (in_depth d library kind text p).faults ≡ [] → GoesInto library kind d p
goes_into library kind text zero p none = cc
goes_into library kind text (suc d) p none =
    let into = in_file-faultless library kind (in_map d library kind) text p (file_of library.names kind p.file) none in
    record { inner = d; deeper = refl; place = into.0; found = into.1; faultless = into.2 }

in_include-faultless : (inner : Part → Findings) (text whole : At) (o : Option (List Part)) → (in_include inner text whole o).faults ≡ [] → (ps : List Part) × (o ≡ Some ps) × ((all_of (in_part inner whole) ps).faults ≡ [])
in_include-faultless inner text whole None none = cc
in_include-faultless inner text whole (Some ps) none = (ps, refl, none)

-- ---- The first law: each include names maps

parts_there : (library : Library) (kind : Kind) (d : ℕ) (place : Place) (text : List ℕ) → (in_map d library kind place).faults ≡ [] → Includes library place text → (ps : List Part) × (parts_of text ≡ Some ps) × ((p : Part) → Contains ps p → GoesInto library kind d p)
parts_there library kind d place text none (mode, name, span, is, among) =
    let item = each-faultless (in_item (in_depth d library kind) place.file) (items_in library place) (Include mode name span) none among in
    let parts = in_include-faultless (in_depth d library kind (at place.file name.span)) (at place.file name.span) (at place.file span) (parts_of name.bytes) item in
    (parts.0, ap parts_of (sym is) ∙ parts.1, λ p within. goes_into library kind (at place.file name.span) d p (each-faultless (in_part (in_depth d library kind (at place.file name.span)) (at place.file span)) parts.0 p parts.2 within))

abbrev Among : Option (List Part) → Part → Type 0
Among (Some ps) p = Contains ps p
Among None p = ⊥

abbrev Faultless : (Place → Findings) → Option Place → Type 0
Faultless inner (Some place) = (inner place).faults ≡ []
Faultless inner None = ⊥

led_to : (library : Library) (kind : Kind) (place last : Place) (d : ℕ) → LeadsTo library kind place last → (in_map d library kind place).faults ≡ [] → (deep : ℕ) × ((in_map deep library kind last).faults ≡ [])
led_to library kind place last d here none = (d, none)
led_to library kind place last d (there {next = next} {text = text} {part = p} includes are among found leads) none =
    let all = parts_there library kind d place text none includes in
    let ps = all.0 in
    let is : Some _ ≡ Some ps = sym are ∙ all.1 in
    let into = all.2 p (subst (λ o. Among o p) is among) in
    let same : Some next ≡ Some into.place = sym found ∙ into.found in
    led_to library kind next last into.inner leads (subst (λ o. Faultless (in_map into.inner library kind) o) (sym same) into.faultless)

section_faultless : (f : Kind → Place → Findings) (start : ℕ) (ss : List Section) (n : ℕ) (s : Section) → (in_sections f start ss).faults ≡ [] → slice_get ss n ≡ Some s → (f s.kind (record { file = 0; section = start + n })).faults ≡ []
section_faultless f start [] n s none found = cc
section_faultless f start (x ∷ ss) zero s none found =
    let here : start ≡ start + 0 = omega arith in
    let is : x ≡ s = cc in
    subst (λ (y : Section). (f y.kind (record { file = 0; section = start + 0 })).faults ≡ []) is (subst (λ k. (f x.kind (record { file = 0; section = k })).faults ≡ []) here (none-left (f x.kind (record { file = 0; section = start })).faults (in_sections f (start + 1) ss).faults none))
section_faultless f start (x ∷ ss) (suc n) s none found =
    let next : start + 1 + n ≡ start + suc n = omega arith in
    subst (λ k. (f s.kind (record { file = 0; section = k })).faults ≡ []) next (section_faultless f (start + 1) ss n s (none-right (f x.kind (record { file = 0; section = start })).faults (in_sections f (start + 1) ss).faults none) found)

all_named : (library : Library) → IsWhole library → (n : ℕ) (section : Section) → slice_get (sections_in library 0) n ≡ Some section → (place : Place) → LeadsTo library section.kind (record { file = 0; section = n }) place → (text : List ℕ) → Includes library place text → NamesMaps library section.kind text
all_named library whole n section found place leads text includes =
    let zeroth : 0 + n ≡ n = omega arith in
    let start = section_faultless (λ kind place. in_map most_depth library kind place) 0 (sections_in library 0) n section whole.0 found in
    let led = led_to library section.kind (record { file = 0; section = n }) place most_depth leads (subst (λ k. (in_map most_depth library section.kind (record { file = 0; section = k })).faults ≡ []) zeroth start) in
    let parts = parts_there library section.kind led.0 place text led.1 includes in
    (parts.0, parts.1, λ p within. subst IsSome (sym (parts.2 p within).found) refl)

-- ---- The second law: a greater depth adds nothing

module _ (library : Library) (kind : Kind) (more : ℕ) where
  abbrev SameParts : ℕ → Type 0
  SameParts d = (text : At) (p : Part) → (in_depth d library kind text p).faults ≡ [] → part_body (d + more) library kind p ≡ part_body d library kind p

  abbrev SameMaps : ℕ → Type 0
  SameMaps d = (place : Place) (rest : Body) → (in_map d library kind place).faults ≡ [] → map_body (suc (d + more)) library kind place rest ≡ map_body (suc d) library kind place rest

  parts_same : (d : ℕ) (text whole : At) → SameParts d → (ps : List Part) → (all_of (in_part (in_depth d library kind text) whole) ps).faults ≡ [] → parts_body (part_body (d + more) library kind) ps ≡ parts_body (part_body d library kind) ps
  parts_same d text whole same [] none = refl
  parts_same d text whole same (p ∷ ps) none =
      let first = none-left (in_depth d library kind text p).faults (all_of (in_part (in_depth d library kind text) whole) ps).faults none in
      let others = none-right (in_depth d library kind text p).faults (all_of (in_part (in_depth d library kind text) whole) ps).faults none in
      ap (λ b. Inc p.mode p.group b (parts_body (part_body (d + more) library kind) ps)) (same text p first)
      ∙ ap (Inc p.mode p.group (part_body d library kind p)) (parts_same d text whole same ps others)

  text_same : (d : ℕ) (text whole : At) → SameParts d → (o : Option (List Part)) → (in_include (in_depth d library kind text) text whole o).faults ≡ [] → text_body (part_body (d + more) library kind) o ≡ text_body (part_body d library kind) o
  text_same d text whole same None none = refl
  text_same d text whole same (Some ps) none = parts_same d text whole same ps none

  items_same : (d : ℕ) → SameParts d → (place : Place) (is : List Item) (rest : Body) → (all_of (in_item (in_depth d library kind) place.file) is).faults ≡ [] → items_body (part_body (d + more) library kind) place is rest ≡ items_body (part_body d library kind) place is rest
  items_same d same place [] rest none = refl
  items_same d same place (Statement stated ∷ is) rest none = ap (Own place stated) (items_same d same place is rest none)
  items_same d same place (Include mode text span ∷ is) rest none =
      let found = in_item (in_depth d library kind) place.file (Include mode text span) in
      let others = all_of (in_item (in_depth d library kind) place.file) is in
      ap (λ b. Inc mode None b (items_body (part_body (d + more) library kind) place is rest)) (text_same d (at place.file text.span) (at place.file span) same (parts_of text.bytes) (none-left found.faults others.faults none))
      ∙ ap (Inc mode None (text_body (part_body d library kind) (parts_of text.bytes))) (items_same d same place is rest (none-right found.faults others.faults none))

  maps_same : (d : ℕ) → SameParts d → SameMaps d
  maps_same d same place rest none = ap Begin (items_same d same place (items_in library place) rest none)

  same_parts : (d : ℕ) → SameParts d
  same_parts zero text p none = cc
  same_parts (suc d) text p none =
      let into = in_file-faultless library kind (in_map d library kind) text p (file_of library.names kind p.file) none in
      let next : suc d + more ≡ suc (d + more) = omega arith in
      ap (found_body (map_body (suc d + more) library kind)) into.1
      ∙ ap (λ n. map_body n library kind into.0 End) next
      ∙ maps_same d (same_parts d) into.0 End into.2
      ∙ sym (ap (found_body (map_body (suc d) library kind)) into.1)

  sections_same : (d n : ℕ) (ss : List Section) → (in_sections (λ kind place. in_map d library kind place) n ss).faults ≡ [] → sections_body (map_body (suc (d + more)) library kind) kind n ss ≡ sections_body (map_body (suc d) library kind) kind n ss
  sections_same d n [] none = refl
  sections_same d n (s ∷ ss) none = by (sections_same d (n + 1) ss (none-right (in_map d library s.kind (record { file = 0; section = n })).faults (in_sections (λ kind place. in_map d library kind place) (n + 1) ss).faults none)) (is_of kind s) refl
    where
      place : Place
      place = record { file = 0; section = n }

      deep : Body
      deep = sections_body (map_body (suc (d + more)) library kind) kind (n + 1) ss

      shallow : Body
      shallow = sections_body (map_body (suc d) library kind) kind (n + 1) ss

      by : deep ≡ shallow → (b : Bool) → is_of kind s ≡ b → cond b (map_body (suc (d + more)) library kind place deep) deep ≡ cond b (map_body (suc d) library kind place shallow) shallow
      by rest false other = rest
      by rest true same =
          let here = subst (λ k. (in_map d library k place).faults ≡ []) (sym (kind-is_of kind s same)) (none-left (in_map d library s.kind place).faults (in_sections (λ kind place. in_map d library kind place) (n + 1) ss).faults none) in
          maps_same d (same_parts d) place deep here ∙ ap (map_body (suc d) library kind place) rest

pub nothing_left_out : (library : Library) → IsWhole library → LeavesNothingOut library
nothing_left_out library whole = record {
  names = all_named library whole;
  deepest = λ kind more.
      let next : suc most_depth + more ≡ suc (most_depth + more) = omega arith in
      ap (λ n. sections_body (map_body n library kind) kind 0 (sections_in library 0)) next
      ∙ sections_same library kind more most_depth 0 (sections_in library 0) whole.0;
}
