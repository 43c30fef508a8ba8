-- Outlined texts, the same with the statements that are wanted, and whole ones: what they have in common.
use Rattle.std.proofs.Common.{◌≡◌, ◌&&◌, ℕ, ◌+◌, zero, suc, Bool, true, false, cond, List, [], ◌∷◌, map, Option, None, Some, refl, sym, ap, ◌∙◌, subst, arith, get_or}
use Rattle.std.proofs.lemmas.Iterator.Adapters.{position_from-zero}
use Rattle.std.specs.List.{list_all, list_any, position, position_from, slice_get}
use Rattle.std.specs.Option.{option_and_then, option_map, option_map_or, option_or}
use Rattle.std.specs.Prelude.{filter}
use Rattle.kx_parse.specs.Outline.{is_include, outline_of}
use Rattle.kx_tree.specs.declared.tree.Item.{Item}
use Rattle.kx_tree.specs.declared.tree.Item.TheVariants.{Include, Statement}
use Rattle.kx_tree.specs.declared.tree.Kind.{Kind}
use Rattle.kx_tree.specs.declared.tree.Section.{Section}
use Rattle.kx_include.specs.Held.{AreHeld, Flags, Holds, IsClosed, all, closed_item, closed_part, closed_text, flags_of, held_more, held_none, held_section, held_sections, is_wanted, some}
use Rattle.kx_include.specs.IncludeFaults.{fault_in}
use Rattle.kx_parse.specs.IncludeText.{Part, parts_of}
use Rattle.kx_include.specs.Library.{Library, Text, file_of, has_name, is_default_flag, is_of, items_in, map_of, place_in, place_of, sections_in, sections_of}
use Rattle.kx_include.specs.declared.place.Place.{Place}
use Rattle.kx_include.proofs.Reached.{Agrees, EachIncluded, EachOfText, EachPart, Reaches}
use Rattle.kx_include.proofs.Sections.{kind-is_of}

-- ---- A section's kind, name and flags are those of its outline

held-from : (test : Section → Bool) → ((s : Section) → test (outline_of s) ≡ test s) → (i : ℕ) (ws : List Bool) (ss : List Section) → position_from test i (held_sections ws ss) ≡ position_from test i ss
held-from test same i ws [] = refl
held-from test same i [] (s ∷ ss) = go (test (outline_of s)) (test s) (same s) (held-from test same (i + 1) [] ss)
  where
    go : (a b : Bool) → a ≡ b → position_from test (i + 1) (held_sections [] ss) ≡ position_from test (i + 1) ss → cond a (Some i) (position_from test (i + 1) (held_sections [] ss)) ≡ cond b (Some i) (position_from test (i + 1) ss)
    go true true e rest = refl
    go false false e rest = rest
    go true false e rest = cc
    go false true e rest = cc
held-from test same i (w ∷ ws) (s ∷ ss) = go (test (held_section w s)) (test s) (of w) (held-from test same (i + 1) ws ss)
  where
    of : (w : Bool) → test (held_section w s) ≡ test s
    of true = refl
    of false = same s

    go : (a b : Bool) → a ≡ b → position_from test (i + 1) (held_sections ws ss) ≡ position_from test (i + 1) ss → cond a (Some i) (position_from test (i + 1) (held_sections ws ss)) ≡ cond b (Some i) (position_from test (i + 1) ss)
    go true true e rest = refl
    go false false e rest = rest
    go true false e rest = cc
    go false true e rest = cc

held-position : (test : Section → Bool) → ((s : Section) → test (outline_of s) ≡ test s) → (ws : List Bool) (ss : List Section) → position test (held_sections ws ss) ≡ position test ss
held-position test same ws ss = position_from-zero test (held_sections ws ss) ∙ held-from test same 0 ws ss ∙ sym (position_from-zero test ss)

pub held-map_of : (ws : List Bool) (ss : List Section) (kind : Kind) (name : Option (List ℕ)) → map_of (held_sections ws ss) kind name ≡ map_of ss kind name
held-map_of ws ss kind (Some name) = held-position (λ s. is_of kind s && has_name name s.name) (λ s. refl) ws ss
held-map_of ws ss kind None =
    let flagged = held-position (λ s. is_of kind s && list_any is_default_flag s.flags) (λ s. refl) ws ss in
    let first = held-position (is_of kind) (λ s. refl) ws ss in
    ap (λ (o : Option ℕ). option_or o (position (is_of kind) (held_sections ws ss))) flagged ∙ ap (λ (o : Option ℕ). option_or (position (λ s. is_of kind s && list_any is_default_flag s.flags) ss) o) first

outlined-held : (ss : List Section) → held_sections [] ss ≡ map outline_of ss
outlined-held [] = refl
outlined-held (s ∷ ss) = ap (λ (hs : List Section). outline_of s ∷ hs) (outlined-held ss)

pub outlined-map_of : (ss : List Section) (kind : Kind) (name : Option (List ℕ)) → map_of (map outline_of ss) kind name ≡ map_of ss kind name
outlined-map_of ss kind name = ap (λ (hs : List Section). map_of hs kind name) (sym (outlined-held ss)) ∙ held-map_of [] ss kind name

-- ---- Where a test finds a place, something stands there that passes it

found-from : {X : Type 0} (test : X → Bool) (i : ℕ) (xs : List X) (n : ℕ) → position_from test i xs ≡ Some n → (k : ℕ) × (x : X) × (n ≡ i + k) × (slice_get xs k ≡ Some x) × (test x ≡ true)
found-from test i [] n e = cc
found-from test i (x ∷ xs) n e = go (test x) refl e (λ w. found-from test (i + 1) xs n w)
  where
    go : (b : Bool) → test x ≡ b → cond b (Some i) (position_from test (i + 1) xs) ≡ Some n → (position_from test (i + 1) xs ≡ Some n → (k : ℕ) × (y : _) × (n ≡ i + 1 + k) × (slice_get xs k ≡ Some y) × (test y ≡ true)) → (k : ℕ) × (y : _) × (n ≡ i + k) × (slice_get (x ∷ xs) k ≡ Some y) × (test y ≡ true)
    go true h w ih = let same : i ≡ n = cc in (0, x, omega arith, refl, h)
    go false h w ih = let more = ih w in (suc more.0, more.1, (let e = more.2 in omega arith), more.3, more.4)

pub found-position : {X : Type 0} (test : X → Bool) (xs : List X) (n : ℕ) → position test xs ≡ Some n → (x : X) × (slice_get xs n ≡ Some x) × (test x ≡ true)
found-position test xs n e =
    let found = found-from test 0 xs n (sym (position_from-zero test xs) ∙ e) in
    let same : found.0 ≡ n = (let e = found.2 in omega arith) in
    (found.1, subst (λ (k : ℕ). slice_get xs k ≡ Some found.1) same found.3, found.4)

left_true : (a b : Bool) → (a && b) ≡ true → a ≡ true
left_true true b h = refl
left_true false b h = cc

-- a map that is found is of the kind
pub found-map_of : (ss : List Section) (kind : Kind) (name : Option (List ℕ)) (n : ℕ) → map_of ss kind name ≡ Some n → (s : Section) × (slice_get ss n ≡ Some s) × (is_of kind s ≡ true)
found-map_of ss kind (Some name) n e =
    let found = found-position (λ s. is_of kind s && has_name name s.name) ss n e in
    (found.0, found.1, left_true (is_of kind found.0) (has_name name found.0.name) found.2)
found-map_of ss kind None n e = go (position (λ s. is_of kind s && list_any is_default_flag s.flags) ss) refl e
  where
    go : (o : Option ℕ) → position (λ s. is_of kind s && list_any is_default_flag s.flags) ss ≡ o → option_or o (position (is_of kind) ss) ≡ Some n → (s : Section) × (slice_get ss n ≡ Some s) × (is_of kind s ≡ true)
    go (Some m) h w =
        let same : m ≡ n = cc in
        let found = found-position (λ s. is_of kind s && list_any is_default_flag s.flags) ss n (h ∙ ap Some same) in
        (found.0, found.1, left_true (is_of kind found.0) (list_any is_default_flag found.0.flags) found.2)
    go None h w = found-position (is_of kind) ss n w

-- ---- Texts at one number

HoldsAt : List Bool → Option Text → Option Text → Option Text → Type 0
HoldsAt ws (Some text) (Some held) (Some whole) = Holds ws text held whole
HoldsAt ws None None None = Unit {0}
HoldsAt ws text held whole = ⊥

holds_at : {flags : Flags} {n : ℕ} {texts helds wholes : List Text} → AreHeld flags n texts helds wholes → (file : ℕ) → HoldsAt (flags_of flags (n + file)) (slice_get texts file) (slice_get helds file) (slice_get wholes file)
unfolding HoldsAt
holds_at held_none file = tt
holds_at {flags = flags} {n = n} (held_more {text = text} {held = held} {whole = whole} one rest) zero = let here : n ≡ n + 0 = omega arith in subst (λ (k : ℕ). Holds (flags_of flags k) text held whole) here one
holds_at {flags = flags} {n = n} (held_more {texts = texts} {helds = helds} {wholes = wholes} one rest) (suc file) =
    let next : n + 1 + file ≡ n + suc file = omega arith in
    subst (λ (k : ℕ). HoldsAt (flags_of flags k) (slice_get texts file) (slice_get helds file) (slice_get wholes file)) next (holds_at rest file)

failed-same : (ws : List Bool) (o h w : Option Text) → HoldsAt ws o h w → fault_in h ≡ fault_in w
unfolding HoldsAt
failed-same ws (Some _) (Some _) (Some _) all = refl
failed-same ws (Some _) (Some _) (Some _) some = refl
failed-same ws None None None holds = refl
failed-same ws o h w holds = absurd holds

maps-same : (ws : List Bool) (o h w : Option Text) → HoldsAt ws o h w → (kind : Kind) (name : Option (List ℕ)) → map_of (sections_of h) kind name ≡ map_of (sections_of w) kind name
unfolding HoldsAt
maps-same ws (Some _) (Some _) (Some _) all kind name = refl
maps-same ws (Some _) (Some _) (Some _) (some {sections}) kind name = held-map_of ws sections kind name
maps-same ws None None None holds kind name = refl
maps-same ws o h w holds kind name = absurd holds

outlined_maps-same : (ws : List Bool) (o h w : Option Text) → HoldsAt ws o h w → (kind : Kind) (name : Option (List ℕ)) → map_of (sections_of o) kind name ≡ map_of (sections_of w) kind name
unfolding HoldsAt
outlined_maps-same ws (Some _) (Some _) (Some _) all kind name = refl
outlined_maps-same ws (Some _) (Some _) (Some _) (some {sections}) kind name = outlined-map_of sections kind name
outlined_maps-same ws None None None holds kind name = refl
outlined_maps-same ws o h w holds kind name = absurd holds

-- a section that is wanted
held-get : (ws : List Bool) (ss : List Section) (n : ℕ) → get_or ws n false ≡ true → slice_get (held_sections ws ss) n ≡ slice_get ss n
held-get ws [] n e = refl
held-get [] (s ∷ ss) n e = cc
held-get (w ∷ ws) (s ∷ ss) zero e = rw e refl
held-get (w ∷ ws) (s ∷ ss) (suc n) e = held-get ws ss n e

items-at : (ws : List Bool) (o h w : Option Text) → HoldsAt ws o h w → (n : ℕ) → get_or ws n false ≡ true → slice_get (sections_of h) n ≡ slice_get (sections_of w) n
unfolding HoldsAt
items-at ws (Some _) (Some _) (Some _) all n e = refl
items-at ws (Some _) (Some _) (Some _) (some {sections}) n e = held-get ws sections n e
items-at ws None None None holds n e = refl
items-at ws o h w holds n e = absurd holds

-- its outline has the same includes
abbrev Shows : Section → Section → Type 0
Shows o s = (o.kind ≡ s.kind) × ((P : Item → Bool) → ((stated : _) → P (Statement stated) ≡ true) → list_all P o.items ≡ true → list_all P s.items ≡ true)

includes-all : (P : Item → Bool) → ((stated : _) → P (Statement stated) ≡ true) → (is : List Item) → list_all P (filter is_include is) ≡ true → list_all P is ≡ true
includes-all P stated [] h = refl
includes-all P stated (Include mode text span ∷ is) h = go (P (Include mode text span)) h (λ w. includes-all P stated is w)
  where
    go : (b : Bool) → (b && list_all P (filter is_include is)) ≡ true → (list_all P (filter is_include is) ≡ true → list_all P is ≡ true) → (b && list_all P is) ≡ true
    go true w more = more w
    go false w more = cc
includes-all P stated (Statement s ∷ is) h = rw (stated s) (includes-all P stated is h)

outlined-get : (ss : List Section) (n : ℕ) (s : Section) → slice_get ss n ≡ Some s → (o : Section) × (slice_get (map outline_of ss) n ≡ Some o) × Shows o s
outlined-get [] n s e = cc
outlined-get (t ∷ ss) zero s e = let same : t ≡ s = cc in (outline_of t, refl, (ap (λ (u : Section). u.kind) same, λ P stated h. includes-all P stated s.items (subst (λ (u : Section). list_all P (outline_of u).items ≡ true) same h)))
outlined-get (t ∷ ss) (suc n) s e = outlined-get ss n s e

outlined-at : (ws : List Bool) (o h w : Option Text) → HoldsAt ws o h w → (n : ℕ) (s : Section) → slice_get (sections_of w) n ≡ Some s → (t : Section) × (slice_get (sections_of o) n ≡ Some t) × Shows t s
unfolding HoldsAt
outlined-at ws (Some _) (Some _) (Some _) all n s e = (s, e, (refl, λ P stated h. h))
outlined-at ws (Some _) (Some _) (Some _) (some {sections}) n s e = outlined-get sections n s e
outlined-at ws None None None holds n s e = cc
outlined-at ws o h w holds n s e = absurd holds

-- ---- The libraries of such texts

-- where all are wanted, all are held
held-full : (ws : List Bool) (ss : List Section) → ((n : ℕ) (s : Section) → slice_get ss n ≡ Some s → get_or ws n false ≡ true) → held_sections ws ss ≡ ss
held-full ws [] every = refl
held-full [] (s ∷ ss) every = let never = every 0 s refl in cc
held-full (w ∷ ws) (s ∷ ss) every = let here : w ≡ true = every 0 s refl in rw here (ap (λ (hs : List Section). s ∷ hs) (held-full ws ss (λ n t found. every (suc n) t found)))

full-at : (ws : List Bool) (o h w : Option Text) → HoldsAt ws o h w → ((n : ℕ) (s : Section) → slice_get (sections_of w) n ≡ Some s → get_or ws n false ≡ true) → sections_of h ≡ sections_of w
unfolding HoldsAt
full-at ws (Some _) (Some _) (Some _) all every = refl
full-at ws (Some _) (Some _) (Some _) (some {sections}) every = held-full ws sections every
full-at ws None None None holds every = refl
full-at ws o h w holds every = absurd holds

module _ (names : List (List ℕ)) (flags : Flags) (outlined held whole : List Text) (are : AreHeld flags 0 outlined held whole) (closed : IsClosed (record { names = names; texts = outlined }) flags) where
  abbrev O : Library
  O = record { names = names; texts = outlined }

  abbrev H : Library
  H = record { names = names; texts = held }

  abbrev W : Library
  W = record { names = names; texts = whole }

  at_file : (file : ℕ) → HoldsAt (flags_of flags file) (slice_get O.texts file) (slice_get H.texts file) (slice_get W.texts file)
  at_file file = let here : 0 + file ≡ file = omega arith in subst (λ (k : ℕ). HoldsAt (flags_of flags k) (slice_get O.texts file) (slice_get H.texts file) (slice_get W.texts file)) here (holds_at are file)

  abbrev pub IsReached : Kind → Place → Type 0
  IsReached kind place = (is_wanted flags place ≡ true) × ((s : Section) × (slice_get (sections_in W place.file) place.section ≡ Some s) × (s.kind ≡ kind))

  places-same : (kind : Kind) (name : Option (List ℕ)) (file : ℕ) → place_in H kind name file ≡ place_in W kind name file
  places-same kind name file = ap (λ (o : Option ℕ). option_map (λ section. record { file = file; section = section }) o) (maps-same (flags_of flags file) (slice_get O.texts file) (slice_get H.texts file) (slice_get W.texts file) (at_file file) kind name)

  outlined_places-same : (kind : Kind) (name : Option (List ℕ)) (file : ℕ) → place_in O kind name file ≡ place_in W kind name file
  outlined_places-same kind name file = ap (λ (o : Option ℕ). option_map (λ section. record { file = file; section = section }) o) (outlined_maps-same (flags_of flags file) (slice_get O.texts file) (slice_get H.texts file) (slice_get W.texts file) (at_file file) kind name)

  place_of-outlined : (kind : Kind) (p : Part) → place_of O kind p ≡ place_of W kind p
  place_of-outlined kind p = go (file_of names kind p.file)
    where
      go : (file : Option ℕ) → option_and_then (place_in O kind p.map) file ≡ option_and_then (place_in W kind p.map) file
      go None = refl
      go (Some file) = outlined_places-same kind p.map file

  -- what a part names is a section of the kind
  named-is : (kind : Kind) (p : Part) (next : Place) → place_of W kind p ≡ Some next → (s : Section) × (slice_get (sections_in W next.file) next.section ≡ Some s) × (s.kind ≡ kind)
  named-is kind p next e = by_file (file_of names kind p.file) e
    where
      by_section : (file : ℕ) (o : Option ℕ) → map_of (sections_in W file) kind p.map ≡ o → option_map (λ section. record { file = file; section = section }) o ≡ Some next → (s : Section) × (slice_get (sections_in W next.file) next.section ≡ Some s) × (s.kind ≡ kind)
      by_section file None h w = cc
      by_section file (Some n) h w =
          let same : record { file = file; section = n } ≡ next = cc in
          let found = found-map_of (sections_in W file) kind p.map n h in
          subst (λ (q : Place). (s : Section) × (slice_get (sections_in W q.file) q.section ≡ Some s) × (s.kind ≡ kind)) same (found.0, found.1, sym (kind-is_of kind found.0 found.2))

      by_file : (file : Option ℕ) → option_and_then (place_in W kind p.map) file ≡ Some next → (s : Section) × (slice_get (sections_in W next.file) next.section ≡ Some s) × (s.kind ≡ kind)
      by_file None w = cc
      by_file (Some file) w = by_section file (map_of (sections_in W file) kind p.map) refl w

  reaches : (kind : Kind) (p : Part) → closed_part O flags kind p ≡ true → Reaches W IsReached kind p
  reaches kind p is next e =
      let there : place_of O kind p ≡ Some next = place_of-outlined kind p ∙ e in
      (subst (λ (o : Option Place). option_map_or (is_wanted flags) o true ≡ true) there is, named-is kind p next e)

  each-part : (kind : Kind) (ps : List Part) → list_all (closed_part O flags kind) ps ≡ true → EachPart (Reaches W IsReached kind) ps
  unfolding EachPart
  each-part kind [] h = tt
  each-part kind (p ∷ ps) h = go (closed_part O flags kind p) refl h (λ w. each-part kind ps w)
    where
      go : (b : Bool) → closed_part O flags kind p ≡ b → (b && list_all (closed_part O flags kind) ps) ≡ true → (list_all (closed_part O flags kind) ps ≡ true → EachPart (Reaches W IsReached kind) ps) → Reaches W IsReached kind p × EachPart (Reaches W IsReached kind) ps
      go true e w more = (reaches kind p e, more w)
      go false e w more = cc

  each-text : (kind : Kind) (ps : Option (List Part)) → option_map_or (list_all (closed_part O flags kind)) ps true ≡ true → EachOfText (Reaches W IsReached kind) ps
  unfolding EachOfText
  each-text kind (Some ps) h = each-part kind ps h
  each-text kind None h = tt

  each-item : (kind : Kind) (is : List Item) → list_all (closed_item O flags kind) is ≡ true → EachIncluded (Reaches W IsReached kind) is
  each-item kind [] h = tt
  each-item kind (Include mode text span ∷ is) h = go (closed_text O flags kind text.bytes) refl h (λ w. each-item kind is w)
    where
      go : (b : Bool) → closed_text O flags kind text.bytes ≡ b → (b && list_all (closed_item O flags kind) is) ≡ true → (list_all (closed_item O flags kind) is ≡ true → EachIncluded (Reaches W IsReached kind) is) → EachOfText (Reaches W IsReached kind) (parts_of text.bytes) × EachIncluded (Reaches W IsReached kind) is
      go true e w more = (each-text kind (parts_of text.bytes) e, more w)
      go false e w more = cc
  each-item kind (Statement s ∷ is) h = each-item kind is h

  closed-at : (kind : Kind) (place : Place) → IsReached kind place → EachIncluded (Reaches W IsReached kind) (items_in W place)
  closed-at kind place (wanted, (s, found, is)) =
      let o = outlined-at (flags_of flags place.file) (slice_get O.texts place.file) (slice_get H.texts place.file) (slice_get W.texts place.file) (at_file place.file) place.section s found in
      let there = (closed place.file place.section).closed o.0 wanted o.1 in
      let all_closed = o.2.1 (closed_item O flags o.0.kind) (λ stated. refl) there in
      let kinds : o.0.kind ≡ kind = o.2.0 ∙ is in
      let each = each-item kind s.items (subst (λ (k : Kind). list_all (closed_item O flags k) s.items ≡ true) kinds all_closed) in
      subst (λ (t : Option Section). EachIncluded (Reaches W IsReached kind) (option_map_or (λ (u : Section). u.items) t [])) (sym found) each

  -- of the source all sections are wanted
  source-wanted : (n : ℕ) (s : Section) → slice_get (sections_in W 0) n ≡ Some s → is_wanted flags (record { file = 0; section = n }) ≡ true
  source-wanted n s found =
      let o = outlined-at (flags_of flags 0) (slice_get O.texts 0) (slice_get H.texts 0) (slice_get W.texts 0) (at_file 0) n s found in
      (closed 0 n).source o.0 refl o.1

  pub agrees : Agrees H W IsReached
  agrees = record {
    names = refl;
    places = places-same;
    failed = λ file. failed-same (flags_of flags file) (slice_get O.texts file) (slice_get H.texts file) (slice_get W.texts file) (at_file file);
    items = λ kind place reached. ap (λ (t : Option Section). option_map_or (λ (u : Section). u.items) t []) (items-at (flags_of flags place.file) (slice_get O.texts place.file) (slice_get H.texts place.file) (slice_get W.texts place.file) (at_file place.file) place.section reached.0);
    closed = closed-at;
    source = full-at (flags_of flags 0) (slice_get O.texts 0) (slice_get H.texts 0) (slice_get W.texts 0) (at_file 0) source-wanted;
    starts = λ n s found. (source-wanted n s found, (s, found, refl));
  }
