-- What is expanded of a map, an item, a text, a part and a file.
use Rattle.std.proofs.Common.{◌≡◌, ℕ, ◌+◌, ◌-◌, ◌<◌, ◌≤◌, zero, suc, List, [], ◌∷◌, ◌++◌, length, drop, get_or, Option, None, Some, Result, Ok, Err, IfOk, IfErr, refl, sym, ap, ◌∙◌, subst, arith, inl, inr}
use Rattle.std.proofs.lemmas.Bool.{cases_lt}
use Rattle.std.specs.List.{slice_get}
use Rattle.std.specs.Option.{option_and_then}
use Rattle.std.specs.Result.{IsErrAnd}
use Rattle.kx_lex.specs.declared.fault.At.{At}
use Rattle.kx_lex.specs.declared.fault.Fault.{Fault}
use Rattle.kx_lex.specs.declared.name.Name.{Name}
use Rattle.kx_lex.specs.declared.token.Span.{Span}
use Rattle.kx_tree.specs.declared.tree.Item.{Item}
use Rattle.kx_tree.specs.declared.tree.Item.TheVariants.{Include, Statement}
use Rattle.kx_tree.specs.declared.tree.Kind.{Kind}
use Rattle.kx_tree.specs.declared.tree.Mode.{Mode}
use Rattle.kx_include.specs.Chosen.{found_body, in_place, unless}
use Rattle.kx_include.specs.Expansion.{Body, Begin, Inc, items_body, map_body}
use Rattle.kx_include.specs.IncludeFaults.{Findings, at, fault_in, in_depth, in_file, in_include, in_item, in_map, in_part, only, HasFaultFrom}
use Rattle.kx_parse.specs.IncludeText.{Part, parts_of}
use Rattle.kx_include.specs.Library.{Library, file_of, items_in, place_in}
use Rattle.kx_include.specs.Limits.{most_parts}
use Rattle.kx_include.specs.Shared.{body_at, entries_body, links_body}
use Rattle.kx_include.specs.Sharing.{AreEntriesOf, AreLinksOf, Blames, Expands, IsFound, IsLinkOf, IsMapOf, IsMeant, IsNumberOf, IsTextOf, bodies_of, part_body}
use Rattle.kx_include.specs.declared.expansion.Entry.{Entry}
use Rattle.kx_include.specs.declared.expansion.Entry.TheVariants as entry
use Rattle.kx_include.specs.declared.expansion.Link.{Link}
use Rattle.kx_include.specs.declared.expansion.Map.{Map}
use Rattle.kx_include.specs.declared.place.Place.{Place}
use Rattle.kx_include.proofs.Knowing.{meant_as}
use Rattle.kx_include.proofs.Progress.{fault-after}

-- ---- The two lists that are gone over

abbrev pub AreEntries : Library → Kind → Place → ℕ → List Body → List Item → List Entry → Type 0
AreEntries library kind place d bodies items es = AreEntriesOf library kind place items es d bodies

abbrev pub IsEntry : Library → Kind → Place → ℕ → List Body → Item → Entry → Type 0
IsEntry library kind place d bodies item e = AreEntriesOf library kind place (item ∷ []) (e ∷ []) d bodies

abbrev pub AreLinks : Library → Kind → ℕ → List Body → List Part → List Link → Type 0
AreLinks library kind d bodies ps ls = AreLinksOf library kind ps ls d bodies

abbrev pub IsLink : Library → Kind → ℕ → List Body → Part → Link → Type 0
IsLink library kind d bodies p l = IsLinkOf library kind p l d bodies

pub no_entries : (library : Library) (kind : Kind) (place : Place) (d : ℕ) (bodies : List Body) → AreEntries library kind place d bodies [] []
no_entries library kind place d bodies rest = refl

entries-first : (bodies : List Body) (place : Place) (e : Entry) (es : List Entry) (rest : Body) → entries_body bodies place (e ∷ es) rest ≡ entries_body bodies place (e ∷ []) (entries_body bodies place es rest)
entries-first bodies place (entry.Own stated) es rest = refl
entries-first bodies place (entry.Include mode links) es rest = refl

items-first : (inner : Part → Body) (place : Place) (x : Item) (xs : List Item) (rest : Body) → items_body inner place (x ∷ xs) rest ≡ items_body inner place (x ∷ []) (items_body inner place xs rest)
items-first inner place (Include mode text span) xs rest = refl
items-first inner place (Statement stated) xs rest = refl

pub one_entry : (library : Library) (kind : Kind) (place : Place) (d : ℕ) (bodies : List Body) (x : Item) (e : Entry) (xs : List Item) (es : List Entry) → IsEntry library kind place d bodies x e → AreEntries library kind place d bodies xs es → AreEntries library kind place d bodies (x ∷ xs) (e ∷ es)
one_entry library kind place d bodies x e xs es is are rest =
    entries-first bodies place e es rest
    ∙ is (entries_body bodies place es rest)
    ∙ ap (items_body (part_body d library kind) place (x ∷ [])) (are rest)
    ∙ sym (items-first (part_body d library kind) place x xs rest)

pub no_links : (library : Library) (kind : Kind) (d : ℕ) (bodies : List Body) → AreLinks library kind d bodies [] []
no_links library kind d bodies = refl

pub one_link : (library : Library) (kind : Kind) (d : ℕ) (bodies : List Body) (p : Part) (l : Link) (ps : List Part) (ls : List Link) → IsLink library kind d bodies p l → AreLinks library kind d bodies ps ls → AreLinks library kind d bodies (p ∷ ps) (l ∷ ls)
one_link library kind d bodies p l ps ls is are = is (links_body bodies ls) ∙ ap (Inc p.mode p.group (part_body d library kind p)) are

-- ---- What is expanded, told of something that holds it

retold : (library : Library) (kind : Kind) (most seen : ℕ) (old new : List Map) (found other : ℕ → Findings) (is as_told : ℕ → List Body → Type 0) (depth count : ℕ)
    → ((d : ℕ) → found d ≡ other d) → ((d : ℕ) (b : List Body) → is d b → as_told d b)
    → Expands library kind most seen old new found is depth count → Expands library kind most seen old new other as_told depth count
retold library kind most seen old new found other is as_told depth count same means e = record {
  grown = e.grown;
  known = e.known;
  meant = λ d h. meant_as (bodies_of new) seen count (found d) (other d) (is d) (as_told d) (same d) (means d) (e.meant d h);
  within = e.within;
  few = e.few;
}

-- of a map
pub map_made : (library : Library) (kind : Kind) (place : Place) (most seen : ℕ) (old new : List Map) (m : Map) (depth count : ℕ) → m.place ≡ place → m.depth ≡ depth → m.parts ≡ count - seen
    → Expands library kind most seen old new (λ d. in_map d library kind place) (AreEntriesOf library kind place (items_in library place) m.entries.items) depth count
    → Expands library kind most seen old new (λ d. in_map d library kind place) (IsMapOf library kind place m) m.depth (seen + m.parts)
map_made library kind place most seen old new m depth count there is_depth is_parts e =
    let all : count ≡ seen + m.parts = (let counted = (e.meant depth (omega arith)).counted in omega arith) in
    subst (λ h. Expands library kind most seen old new (λ d. in_map d library kind place) (IsMapOf library kind place m) h (seen + m.parts)) (sym is_depth)
    (subst (Expands library kind most seen old new (λ d. in_map d library kind place) (IsMapOf library kind place m) depth) all
    (retold library kind most seen old new (λ d. in_map d library kind place) (λ d. in_map d library kind place) (AreEntriesOf library kind place (items_in library place) m.entries.items) (IsMapOf library kind place m) depth count (λ d. refl)
    (λ d bodies are rest. ap Begin (ap (λ p. entries_body bodies p m.entries.items rest) there ∙ are rest)) e))

-- of an item
pub include_made : (library : Library) (kind : Kind) (place : Place) (most seen : ℕ) (old new : List Map) (mode : Mode) (text : Name) (span : Span) (item : Item) (made : Entry) (links : List Link) (depth count : ℕ) → item ≡ Include mode text span → ((bodies : List Body) (rest : Body) → entries_body bodies place (made ∷ []) rest ≡ Inc mode None (links_body bodies links) rest)
    → Expands library kind most seen old new (λ d. in_include (in_depth d library kind (at place.file text.span)) (at place.file text.span) (at place.file span) (parts_of text.bytes)) (IsTextOf library kind (parts_of text.bytes) links) depth count
    → Expands library kind most seen old new (λ d. in_item (in_depth d library kind) place.file item) (AreEntriesOf library kind place (item ∷ []) (made ∷ [])) depth count
include_made library kind place most seen old new mode text span item made links depth count is is_made e =
    retold library kind most seen old new (λ d. in_include (in_depth d library kind (at place.file text.span)) (at place.file text.span) (at place.file span) (parts_of text.bytes)) (λ d. in_item (in_depth d library kind) place.file item) (IsTextOf library kind (parts_of text.bytes) links) (AreEntriesOf library kind place (item ∷ []) (made ∷ [])) depth count
    (λ d. ap (in_item (in_depth d library kind) place.file) (sym is))
    (λ d bodies are rest. is_made bodies rest ∙ ap (λ b. Inc mode None b rest) are ∙ ap (λ x. items_body (part_body d library kind) place (x ∷ []) rest) (sym is))
    e

-- of a part
pub part_made : (library : Library) (kind : Kind) (most seen : ℕ) (old new : List Map) (text whole : At) (p : Part) (l : Link) (file : ℕ) (depth deeper count : ℕ) → file_of library.names kind p.file ≡ Some file → l.mode ≡ p.mode → l.group ≡ p.group → deeper ≡ depth + 1 → 0 < most
    → Expands library kind (most - 1) (seen + 1) old new (λ d. in_file (in_map d library kind) library kind p.map text (Some file)) (IsFound library kind (place_in library kind p.map file) l.map) depth count
    → Expands library kind most seen old new (λ d. in_part (in_depth d library kind text) whole p) (IsLinkOf library kind p l) deeper count
part_made library kind most seen old new text whole p l file depth deeper count in_files is_mode is_group is_depth room e = record {
  grown = e.grown;
  known = e.known;
  meant = meant;
  within = (let within = e.within in omega arith);
  few = e.few;
}
  where
    meant : (d : ℕ) → deeper ≤ d → IsMeant (bodies_of new) seen count (in_part (in_depth d library kind text) whole p) (IsLinkOf library kind p l d)
    meant zero h = absurd (omega arith)
    meant (suc d) h =
        let met = e.meant d (omega arith) in
        let there : in_depth (suc d) library kind text p ≡ in_file (in_map d library kind) library kind p.map text (Some file) = ap (in_file (in_map d library kind) library kind p.map text) in_files in
        record {
          faultless = ap (λ (a : Findings). a.faults) there ∙ met.faultless;
          counted = (let counted = met.counted in let same = ap (λ (a : Findings). length a.visits) there in omega arith);
          means = λ more rest.
              ap (λ m. Inc m l.group (body_at (bodies_of new ++ more) l.map) rest) is_mode
              ∙ ap (λ g. Inc p.mode g (body_at (bodies_of new ++ more) l.map) rest) is_group
              ∙ ap (λ b. Inc p.mode p.group b rest) (met.means more ∙ ap (λ o. found_body (map_body (suc d) library kind) (option_and_then (place_in library kind p.map) o)) (sym in_files));
        }

-- a fault of a part, into whose file there is room to go
pub part_blamed : (library : Library) (kind : Kind) (most seen : ℕ) (text whole : At) (p : Part) (file : Option ℕ) (e : Fault) → seen < most_parts → 0 < most → file_of library.names kind p.file ≡ file
    → Blames (seen + 1) (in_file (in_map (most - 1) library kind) library kind p.map text file) e → Blames seen (in_part (in_depth most library kind text) whole p) e
part_blamed library kind most seen text whole p file e room some in_files (inl memory) = inl memory
part_blamed library kind most seen text whole p file e room some in_files (inr has) =
    let same = ap (in_file (in_map (most - 1) library kind) library kind p.map text) (sym in_files) ∙ sym (deeper most some) in
    inr (fault-after seen whole (in_depth most library kind text p) e room (subst (λ a. HasFaultFrom (seen + 1) a e) same has))
  where
    deeper : (d : ℕ) → 0 < d → in_depth d library kind text p ≡ in_file (in_map (d - 1) library kind) library kind p.map text (file_of library.names kind p.file)
    deeper zero h = absurd (omega (arith, h))
    deeper (suc d) h = let same : suc d - 1 ≡ d = omega arith in rw same refl

-- of the map that a file's text has
pub file_made : (library : Library) (kind : Kind) (most seen : ℕ) (old new : List Map) (map : Option (List ℕ)) (text : At) (file n : ℕ) (place : Place) (depth count : ℕ) → fault_in (slice_get library.texts file) ≡ None → place_in library kind map file ≡ Some place
    → Expands library kind most seen old new (λ d. in_map d library kind place) (IsNumberOf library kind place n) depth count
    → Expands library kind most seen old new (λ d. in_file (in_map d library kind) library kind map text (Some file)) (IsFound library kind (place_in library kind map file) n) depth count
file_made library kind most seen old new map text file n place depth count sound there e =
    retold library kind most seen old new (λ d. in_map d library kind place) (λ d. in_file (in_map d library kind) library kind map text (Some file)) (IsNumberOf library kind place n) (IsFound library kind (place_in library kind map file) n) depth count
    (λ d. sym (in_there library kind (in_map d library kind) map text file place sound there))
    (λ d bodies is. is ∙ ap (found_body (map_body (suc d) library kind)) (sym there))
    e
  where
    in_there : (library : Library) (kind : Kind) (inner : Place → Findings) (map : Option (List ℕ)) (text : At) (file : ℕ) (place : Place) → fault_in (slice_get library.texts file) ≡ None → place_in library kind map file ≡ Some place → in_file inner library kind map text (Some file) ≡ inner place
    in_there library kind inner map text file place sound there = ap (λ o. unless o (in_place inner text (place_in library kind map file))) sound ∙ ap (in_place inner text) there

-- ---- Answers

pub ok_as : {V E : Type 0} (r : Result V E) (P Q : V → Type 0) → ((v : V) → P v → Q v) → IfOk r P → IfOk r Q
ok_as (Ok v) P Q f h = f v h
ok_as (Err e) P Q f h = h

pub err_passed : {V : Type 0} (r : Result V Fault) (e : Fault) (P : Fault → Type 0) → IsErrAnd r (λ y. y ≡ e) → P e → IfErr r P
err_passed (Ok v) e P is h = absurd is
err_passed (Err y) e P is h = subst P (sym is) h

-- ---- Counts

pub blamed_only : (seen : ℕ) (f : Fault) → Blames seen (only f) f
blamed_only seen f = inr (inl (0, omega arith, refl))

pub below : (n most : ℕ) → n ≤ most → (n ≡ most → ⊥) → n < most
below n most within other = elim (cases_lt n most) [
  | inl less ↦ less
  | inr more ↦ absurd (other (omega arith))
]

pub positive : (n : ℕ) → (n ≡ 0 → ⊥) → 0 < n
positive zero other = absurd (other refl)
positive (suc n) other = omega arith

-- a list that is gone over by index
pub drop_next : {X : Type 0} (xs : List X) (i : ℕ) (x : X) → i < length xs → x ≡ get_or xs i x → drop i xs ≡ x ∷ drop (i + 1) xs
drop_next [] i x within h = absurd (omega (arith, within))
drop_next (y ∷ xs) zero x within h = ap (λ z. z ∷ xs) (sym h)
drop_next (y ∷ xs) (suc i) x within h = let next : suc i + 1 ≡ suc (i + 1) = omega arith in rw next (drop_next xs i x (omega (arith, within)) h)
