-- The statements of the maps that an expansion has.
use Rattle.std.proofs.Common.{◌≡◌, ℕ, ◌+◌, ◌≤◌, ◌<◌, zero, suc, List, [], ◌∷◌, ◌++◌, length, take, get_or, Some, None, Option, refl, sym, ap, ◌∙◌, arith}
use Rattle.std.specs.List.{flat_map, slice_get}
use Rattle.std.proofs.Math.Seq.{take-append_seam}
use Rattle.std.proofs.lemmas.List.{append-nil, append_assoc, length-append, take_all}
use Rattle.kx_include.specs.Expansion.{Body, End, Own}
use Rattle.kx_include.specs.Shared.{bodies_behind, body_at, entries_body, links_body, shared_body, shared_sections}
use Rattle.kx_include.specs.declared.expansion.Entry.{Entry}
use Rattle.kx_include.specs.declared.expansion.Entry.TheVariants as entry
use Rattle.kx_include.specs.declared.expansion.Link.{Link}
use Rattle.kx_include.specs.declared.expansion.Map.{Map}
use Rattle.kx_include.specs.declared.place.Place.{Place}
use Rattle.kx_virtual_mods.specs.Counted.{statements_of}
use Rattle.kx_virtual_mods.specs.Tallies.{bodies_of, entry_statements, links_statements, map_statements}

module _ (bodies : List Body) where
  links-said : (ls : List Link) → statements_of (links_body bodies ls) ≡ links_statements bodies ls
  links-said [] = refl
  links-said (l ∷ ls) = ap (λ xs. statements_of (body_at bodies l.map) ++ xs) (links-said ls)

  entries-said : (place : Place) (es : List Entry) (rest : Body) → statements_of (entries_body bodies place es rest) ≡ flat_map (entry_statements bodies place) es ++ statements_of rest
  entries-said place [] rest = refl
  entries-said place (entry.Own stated ∷ es) rest = ap (λ xs. (place, stated.now) ∷ xs) (entries-said place es rest)
  entries-said place (entry.Include mode links ∷ es) rest =
      ap (λ xs. xs ++ statements_of (entries_body bodies place es rest)) (links-said links.items)
      ∙ ap (λ xs. links_statements bodies links.items ++ xs) (entries-said place es rest)
      ∙ sym (append_assoc (links_statements bodies links.items) (flat_map (entry_statements bodies place) es) (statements_of rest))

  pub map_said : (m : Map) (rest : Body) → statements_of (shared_body bodies m rest) ≡ map_statements bodies m ++ statements_of rest
  map_said m rest = entries-said m.place m.entries.items rest

  pub sections_said : (ms : List Map) → statements_of (shared_sections bodies ms) ≡ flat_map (map_statements bodies) ms
  sections_said [] = refl
  sections_said (m ∷ ms) = map_said m (shared_sections bodies ms) ∙ ap (λ xs. map_statements bodies m ++ xs) (sections_said ms)

behind-grows : (bs : List Body) (ms : List Map) → (more : List Body) × (bodies_behind bs ms ≡ bs ++ more)
behind-grows bs [] = ([], sym (append-nil bs))
behind-grows bs (m ∷ ms) =
    let rest = behind-grows (bs ++ shared_body bs m End ∷ []) ms in
    (shared_body bs m End ∷ rest.0, rest.1 ∙ append_assoc bs (shared_body bs m End ∷ []) rest.0)

length-behind : (bs : List Body) (ms : List Map) → length (bodies_behind bs ms) ≡ length bs + length ms
length-behind bs [] = omega arith
length-behind bs (m ∷ ms) =
    let rest = length-behind (bs ++ shared_body bs m End ∷ []) ms in
    let one = length-append bs (shared_body bs m End ∷ []) in
    omega arith

at-seam : (bs more : List Body) (b : Body) → body_at (bs ++ b ∷ more) (length bs) ≡ b
at-seam [] more b = refl
at-seam (c ∷ bs) more b = at-seam bs more b

at-behind : (bs : List Body) (ms : List Map) (n k : ℕ) (d : Map) → n < length ms → k ≡ length bs + n → body_at (bodies_behind bs ms) k ≡ shared_body (take k (bodies_behind bs ms)) (get_or ms n d) End
at-behind bs [] n k d within is = absurd (omega (arith, within))
at-behind bs (m ∷ ms) zero k d within is =
    let grown = behind-grows (bs ++ shared_body bs m End ∷ []) ms in
    let all : bodies_behind bs (m ∷ ms) ≡ bs ++ shared_body bs m End ∷ grown.0 = grown.1 ∙ append_assoc bs (shared_body bs m End ∷ []) grown.0 in
    let here : k ≡ length bs = omega arith in
    ap (λ xs. body_at xs k) all ∙ ap (body_at (bs ++ shared_body bs m End ∷ grown.0)) here ∙ at-seam bs grown.0 (shared_body bs m End)
    ∙ ap (λ xs. shared_body xs m End) (sym (take-append_seam bs (shared_body bs m End ∷ grown.0)))
    ∙ ap (λ j. shared_body (take j (bs ++ shared_body bs m End ∷ grown.0)) m End) (sym here)
    ∙ ap (λ xs. shared_body (take k xs) m End) (sym all)
at-behind bs (m ∷ ms) (suc n) k d within is =
    let one = length-append bs (shared_body bs m End ∷ []) in
    at-behind (bs ++ shared_body bs m End ∷ []) ms n k d (omega arith) (omega arith)

get-front : (bs : List Body) (n k : ℕ) → k < n → slice_get (take n bs) k ≡ slice_get bs k
get-front [] zero k h = refl
get-front [] (suc n) k h = refl
get-front (b ∷ bs) zero k h = absurd (omega (arith, h))
get-front (b ∷ bs) (suc n) zero h = refl
get-front (b ∷ bs) (suc n) (suc k) h = get-front bs n k (omega (arith, h))

abbrev or_end_of : Option Body → Body
or_end_of (Some b) = b
or_end_of None = End

-- a number below the front's length is that of the same body in the whole
pub front_at : (bs : List Body) (n k : ℕ) → k < n → body_at (take n bs) k ≡ body_at bs k
front_at bs n k h = ap or_end_of (get-front bs n k h)

pub whole_front : (maps : List Map) → take (length maps) (bodies_of maps) ≡ bodies_of maps
whole_front maps = let long = length-behind [] maps in take_all (length maps) (bodies_of maps) (omega arith)

-- the statements of the map of a number
pub number_said : (maps : List Map) (n : ℕ) (d : Map) → n < length maps → statements_of (body_at (bodies_of maps) n) ≡ map_statements (take n (bodies_of maps)) (get_or maps n d)
number_said maps n d within = ap statements_of (at-behind [] maps n n d within (omega arith)) ∙ map_said (take n (bodies_of maps)) (get_or maps n d) End ∙ append-nil (map_statements (take n (bodies_of maps)) (get_or maps n d))

-- those of an included map, where it is below a number
pub included_is : (maps : List Map) (below n : ℕ) (m : Map) → n < below → below ≤ length maps → m ≡ get_or maps n m → statements_of (body_at (take below (bodies_of maps)) n) ≡ map_statements (take n (bodies_of maps)) m
included_is maps below n m low within is = ap statements_of (front_at (bodies_of maps) below n low) ∙ number_said maps n m (omega (arith, low, within)) ∙ ap (map_statements (take n (bodies_of maps))) (sym is)

pub included_at : (maps : List Map) (below n : ℕ) → n < below → statements_of (body_at (take below (bodies_of maps)) n) ≡ statements_of (body_at (bodies_of maps) n)
included_at maps below n low = ap statements_of (front_at (bodies_of maps) below n low)

-- those of an expansion, section by section
pub expansion_said : (maps sections : List Map) → statements_of (shared_sections (bodies_of maps) sections) ≡ flat_map (map_statements (take (length maps) (bodies_of maps))) sections
expansion_said maps sections = sections_said (bodies_of maps) sections ∙ ap (λ bs. flat_map (map_statements bs) sections) (sym (whole_front maps))
