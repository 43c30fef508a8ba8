-- What the tables of X11's names show: where a name stands in their text, and where it is found by its hash.
use Rattle.std.proofs.Common.{◌≡◌, ℕ, ◌≤◌, ◌<◌, ◌+◌, ◌-◌, zero, suc, Bool, true, false, not, ◌&&◌, ◌||◌, ◌==◌, nat_le, List, [], ◌∷◌, ◌++◌, get_or, Option, None, Some, is_some, slice_index, take, drop, length, refl, sym, ap, ap₂, subst, ◌∙◌, cond, eqb-true, find, arith, map, zero-le, nat_lt, filter}
use Rattle.std.proofs.lemmas.Bool.{and_parts, leb-true}
use Rattle.std.proofs.lemmas.Bool.Decides.{nat_tests}
use Rattle.std.proofs.lemmas.Str.{IsUtf8-from_ascii}
use Rattle.std.proofs.lemmas.Slice.Eq.{bytes_eq-Decides}
use Rattle.std.proofs.lemmas.List.Sums.{AllPass-from_list_all}
use Rattle.std.proofs.lemmas.Map.Entries.{lookup-filter-keys}
use Rattle.std.proofs.lemmas.Str.Ascii.{IsAscii-from_all}
use Rattle.std.specs.List.{list_all, list_any}
use Rattle.std.specs.Option.{option_map}
use Rattle.std.specs.Str.{bytes_eq, IsAscii, IsUtf8}
use Rattle.ks_core.specs.BuiltIn.{built_in, built_in_runs, numbered, entries_of_run}
use Rattle.ks_core.specs.Entry.{Entry, keysym_in, name_in}
use Rattle.ks_core.specs.Lines.{is_sound, is_given_name}
use Rattle.kx_basics.specs.Keysyms.{is_keysym}
use Rattle.ks_core.specs.Name.{is_word, is_word_start, is_word_byte, is_hex, is_u_form}
use Rattle.ks_core.specs.X11.{x11_runs, x11_others, x11_firsts, x11_seconds, underscored, x11_names}
use Rattle.ks_core.specs.X11Index.{cut, steps, IsText, place_of, all_placed}
use Rattle.ks_core.proofs.IndexLemmas.{same_bytes, climbs, first-at}
use Rattle.ks_core.proofs.NamedLemmas.{sound-parts}

-- ---- A part of a text

pub steps-low : (from : ℕ) (ends : List ℕ) (d o : ℕ) → steps from ends ≡ true → d < suc (length ends) → from ≤ get_or (from ∷ ends) d o
unfolding steps
steps-low from ends zero o h within = omega arith
steps-low from [] (suc d) o h within = absurd (omega (arith, within))
steps-low from (e ∷ es) (suc d) o h within =
    let parts = and_parts (nat_le from e) (steps e es) h in
    let rest = steps-low e es d o parts.1 (omega (arith, within)) in omega (arith, rest, leb-true from e parts.0)

drop-nil : {A : Type 0} (n : ℕ) → drop {A = A} n [] ≡ []
drop-nil zero = refl
drop-nil (suc n) = refl

drop-after : {A : Type 0} (m n : ℕ) (xs : List A) → drop m (drop n xs) ≡ drop (n + m) xs
drop-after m zero xs = let e : 0 + m ≡ m = omega arith in rw e refl
drop-after m (suc n) [] = drop-nil m ∙ sym (drop-nil (suc n + m))
drop-after m (suc n) (x ∷ xs) = let e : suc n + m ≡ suc (n + m) = omega arith in rw e (drop-after m n xs)

span-at : (from : ℕ) (ends text : List ℕ) (d o : ℕ) (p : List ℕ) → steps from ends ≡ true → d < length ends → get_or (cut from ends text) d p ≡ take (get_or ends d o - get_or (from ∷ ends) d o) (drop (get_or (from ∷ ends) d o - from) text)
unfolding steps cut
span-at from [] text d o p h within = absurd (omega (arith, within))
span-at from (e ∷ es) text zero o p h within = let z : from - from ≡ 0 = omega arith in rw z refl
span-at from (e ∷ es) text (suc d) o p h within =
    let parts = and_parts (nat_le from e) (steps e es) h in
    let low = steps-low e es d o parts.1 (omega (arith, within)) in
    let first = leb-true from e parts.0 in
    let sum : (e - from) + (get_or (e ∷ es) d o - e) ≡ get_or (e ∷ es) d o - from = omega (arith, low, first) in
    span-at e es (drop (e - from) text) d o p parts.1 (omega (arith, within))
    ∙ ap (take (get_or es d o - get_or (e ∷ es) d o)) (drop-after (get_or (e ∷ es) d o - e) (e - from) text ∙ ap (λ n. drop n text) sum)

steps-next : (from : ℕ) (ends : List ℕ) (d o : ℕ) → steps from ends ≡ true → suc d < length ends → get_or ends d o ≤ get_or ends (suc d) o
unfolding steps
steps-next from [] d o h within = absurd (omega (arith, within))
steps-next from (e ∷ es) zero o h within = steps-low e es 1 o (and_parts (nat_le from e) (steps e es) h).1 (omega (arith, within))
steps-next from (e ∷ es) (suc d) o h within = steps-next e es d o (and_parts (nat_le from e) (steps e es) h).1 (omega (arith, within))

cut-length : (from : ℕ) (ends text : List ℕ) → length (cut from ends text) ≡ length ends
unfolding cut
cut-length from [] text = refl
cut-length from (e ∷ es) text = ap suc (cut-length e es (drop (e - from) text))

names-length : (es : List Entry) → length (map (λ (e : Entry). e.0) es) ≡ length es
names-length [] = refl
names-length (e ∷ es) = ap suc (names-length es)

pub keysyms-length : (es : List Entry) → length (map (λ (e : Entry). e.1) es) ≡ length es
keysyms-length [] = refl
keysyms-length (e ∷ es) = ap suc (keysyms-length es)

name-in : (es : List Entry) (d : ℕ) (o : Entry) → d < length es → get_or (map (λ (e : Entry). e.0) es) d [] ≡ (get_or es d o).0
name-in [] d o within = absurd (omega (arith, within))
name-in (e ∷ es) zero o within = refl
name-in (e ∷ es) (suc d) o within = name-in es d o (omega (arith, within))

pub keysym-at : (es : List Entry) (d k : ℕ) (o : Entry) → d < length es → get_or (map (λ (e : Entry). e.1) es) d k ≡ (get_or es d o).1
keysym-at [] d k o within = absurd (omega (arith, within))
keysym-at (e ∷ es) zero k o within = refl
keysym-at (e ∷ es) (suc d) k o within = keysym-at es d k o (omega (arith, within))

module _ (starts text : List ℕ) (is : IsText starts text) where
  pub starts-length : length starts ≡ suc (length x11_names)
  starts-length = sym (cut-length 0 starts text) ∙ ap length is.named ∙ ap suc (names-length x11_names)

  pub start-inside : (d o : ℕ) → d < length starts → get_or starts d o ≤ length text
  start-inside d o within = leb-true (get_or starts d o) (length text) (AllPass-from_list_all (λ start. nat_le start (length text)) starts is.inside d o within)

  pub starts-few : length starts ≤ 4096
  starts-few = leb-true (length starts) 4096 is.few

  pub start-next : (d o : ℕ) → suc d < length starts → get_or starts d o ≤ get_or starts (d + 1) o
  start-next d o within = let e : d + 1 ≡ suc d = omega arith in rw e (steps-next 0 starts d o is.rising within)

  pub name-at : (d o : ℕ) (e : Entry) → d < length x11_names → take (get_or starts (d + 1) o - get_or starts d o) (drop (get_or starts d o) text) ≡ (get_or x11_names d e).0
  name-at d o e within =
      let s : d + 1 ≡ suc d = omega arith in
      let length' = starts-length in
      let z : get_or starts d o - 0 ≡ get_or starts d o = omega arith in
      rw s
      (ap (λ n. take (get_or starts (suc d) o - get_or starts d o) (drop n text)) (sym z)
      ∙ sym (span-at 0 starts text (suc d) o [] is.rising (omega (arith, length', within)))
      ∙ ap (λ ns. get_or ns (suc d) []) is.named
      ∙ name-in x11_names d e within)

-- ---- A name at its place

module _ (shifts slots : List (List ℕ)) where
  placed-at : (es : List Entry) (from d : ℕ) (e : Entry) → all_placed shifts slots from es ≡ true → d < length es → place_of shifts slots (get_or es d e).0 ≡ from + d
  unfolding all_placed
  placed-at [] from d e h within = absurd (omega (arith, within))
  placed-at (f ∷ es) from zero e h within =
      let here = eqb-true (place_of shifts slots f.0) from (and_parts (place_of shifts slots f.0 == from) (all_placed shifts slots (from + 1) es) h).0 in omega (arith, here)
  placed-at (f ∷ es) from (suc d) e h within =
      let rest = placed-at es (from + 1) d e (and_parts (place_of shifts slots f.0 == from) (all_placed shifts slots (from + 1) es) h).1 (omega (arith, within)) in
      omega (arith, rest)

-- a name that is found is that of an entry
found-at : (es : List Entry) (name : List ℕ) (keysym : ℕ) → keysym_in es name ≡ Some keysym → (d : ℕ) × (d < length es) × ((e : Entry) → get_or es d e ≡ (name, keysym))
found-at [] name keysym found = cc
found-at (f ∷ es) name keysym found = by (found-at es name keysym) (bytes_eq name f.0) refl
  where
    by : (keysym_in es name ≡ Some keysym → (d : ℕ) × (d < length es) × ((e : Entry) → get_or es d e ≡ (name, keysym))) → (b : Bool) → bytes_eq name f.0 ≡ b → (d : ℕ) × (d < length (f ∷ es)) × ((e : Entry) → get_or (f ∷ es) d e ≡ (name, keysym))
    by rest true here =
        let is : Some f.1 ≡ Some keysym = sym (ap (λ b. cond b (Some f.1) (keysym_in es name)) here) ∙ found in
        let named = same_bytes name f.0 here in
        let value : f.1 ≡ keysym = cc in
        (0, omega arith, λ e. ap₂ (λ (a : List ℕ) (b : ℕ). (a, b)) (sym named) value)
    by rest false later =
        let r = rest (sym (ap (λ b. cond b (Some f.1) (keysym_in es name)) later) ∙ found) in
        (suc r.0, omega (arith, r.1), r.2)

-- the name of an entry is found
has-at : (es : List Entry) (d : ℕ) (e : Entry) (name : List ℕ) → d < length es → (get_or es d e).0 ≡ name → keysym_in es name ≡ None → ⊥
has-at [] d e name within is none = absurd (omega (arith, within))
has-at (f ∷ es) d e name within is none = by d within is (λ d below same more. has-at es d e name below same more) (bytes_eq name f.0) refl
  where
    by : (d : ℕ) → d < length (f ∷ es) → (get_or (f ∷ es) d e).0 ≡ name → ((d : ℕ) → d < length es → (get_or es d e).0 ≡ name → keysym_in es name ≡ None → ⊥) → (b : Bool) → bytes_eq name f.0 ≡ b → ⊥
    by d within is rest true here = let some : Some f.1 ≡ None = sym (ap (λ b. cond b (Some f.1) (keysym_in es name)) here) ∙ none in cc
    by zero within is rest false later = let same = (bytes_eq-Decides name f.0).1 (sym is) in cc
    by (suc d) within is rest false later = rest d (omega (arith, within)) is (sym (ap (λ b. cond b (Some f.1) (keysym_in es name)) later) ∙ none)

module _ (shifts slots : List (List ℕ)) (es : List Entry) (placed : all_placed shifts slots 0 es ≡ true) where
  -- of entries that all stand in their places, one with a name is the one that is found by it
  pub hit : (name : List ℕ) (d : ℕ) (e : Entry) → d < length es → (get_or es d e).0 ≡ name → keysym_in es name ≡ Some (get_or es d e).1
  hit name d e within is = by (keysym_in es name) refl
    where
      by : (r : Option ℕ) → keysym_in es name ≡ r → r ≡ Some (get_or es d e).1
      by None none = absurd (has-at es d e name within is none)
      by (Some keysym) some =
          let f = found-at es name keysym some in
          let there = placed-at shifts slots es 0 f.0 e placed f.1 in
          let here = placed-at shifts slots es 0 d e placed within in
          let same : place_of shifts slots (get_or es f.0 e).0 ≡ place_of shifts slots (get_or es d e).0 =
          ap (λ (x : Entry). place_of shifts slots x.0) (f.2 e) ∙ ap (place_of shifts slots) (sym is) in
          let place : d ≡ f.0 = omega (arith, there, here, same) in
          sym (ap (λ n. Some (get_or es n e).1) place ∙ ap (λ (x : Entry). Some x.1) (f.2 e))

  -- where no name stands at the place, or another one, it isn't there
  pub miss : (name : List ℕ) → ((e : Entry) → place_of shifts slots name < length es → (get_or es (place_of shifts slots name) e).0 ≡ name → ⊥) → None ≡ keysym_in es name
  miss name other = by (keysym_in es name) refl
    where
      by : (r : Option ℕ) → keysym_in es name ≡ r → None ≡ r
      by None none = refl
      by (Some keysym) some =
          let f = found-at es name keysym some in
          let e : Entry = (name, keysym) in
          let at : place_of shifts slots (get_or es f.0 e).0 ≡ f.0 = let there = placed-at shifts slots es 0 f.0 e placed f.1 in omega (arith, there) in
          let place : place_of shifts slots name ≡ f.0 = sym (ap (λ (x : Entry). place_of shifts slots x.0) (f.2 e)) ∙ at in
          absurd (other e (subst (λ d. d < length es) (sym place) f.1) (ap (λ d. (get_or es d e).0) place ∙ ap (λ (x : Entry). x.0) (f.2 e)))

-- ---- The first name of a keysym

-- each of the second entries has the keysym of a first one
unfoldable pub covered : List Entry → List Entry → Bool
covered firsts [] = true
covered [] (s ∷ seconds) = false
covered (f ∷ firsts) (s ∷ seconds) = cond (f.1 == s.1) (covered (f ∷ firsts) seconds) (covered firsts (s ∷ seconds))

or-false : (a b : Bool) → (a || b) ≡ false → (a ≡ false) × (b ≡ false)
or-false true b h = cc
or-false false b h = (refl, h)

abbrev has_keysym : ℕ → List Entry → Bool
has_keysym keysym es = list_any (λ (e : Entry). e.1 == keysym) es

covered-absent : (keysym : ℕ) (firsts seconds : List Entry) → covered firsts seconds ≡ true → has_keysym keysym firsts ≡ false → has_keysym keysym seconds ≡ false
unfolding covered
covered-absent keysym firsts [] h none = refl
covered-absent keysym [] (s ∷ seconds) h none = cc
covered-absent keysym (f ∷ firsts) (s ∷ seconds) h none = by (covered-absent keysym (f ∷ firsts) seconds) (covered-absent keysym firsts (s ∷ seconds)) (f.1 == s.1) refl
  where
    parts : ((f.1 == keysym) ≡ false) × (has_keysym keysym firsts ≡ false)
    parts = or-false (f.1 == keysym) (has_keysym keysym firsts) none

    by : (covered (f ∷ firsts) seconds ≡ true → has_keysym keysym (f ∷ firsts) ≡ false → has_keysym keysym seconds ≡ false)
        → (covered firsts (s ∷ seconds) ≡ true → has_keysym keysym firsts ≡ false → has_keysym keysym (s ∷ seconds) ≡ false)
        → (b : Bool) → (f.1 == s.1) ≡ b → has_keysym keysym (s ∷ seconds) ≡ false
    by here there true same =
        let rest = here (sym (ap (λ b. cond b (covered (f ∷ firsts) seconds) (covered firsts (s ∷ seconds))) same) ∙ h) none in
        let at : (s.1 == keysym) ≡ false = ap (λ n. n == keysym) (sym (eqb-true f.1 s.1 same)) ∙ parts.0 in
        ap (λ b. b || has_keysym keysym seconds) at ∙ rest
    by here there false other = there (sym (ap (λ b. cond b (covered (f ∷ firsts) seconds) (covered firsts (s ∷ seconds))) other) ∙ h) parts.1

absent : (keysym : ℕ) (es : List Entry) → has_keysym keysym es ≡ false → name_in es keysym ≡ None
absent keysym [] h = refl
absent keysym (e ∷ es) h =
    let parts = or-false (e.1 == keysym) (has_keysym keysym es) h in
    ap (λ b. option_map (λ (x : Entry). x.0) (cond b (Some e) (find (λ (x : Entry). x.1 == keysym) es))) parts.0 ∙ absent keysym es parts.1

absent-behind : (keysym : ℕ) (es fs : List Entry) → has_keysym keysym es ≡ false → name_in (es ++ fs) keysym ≡ name_in fs keysym
absent-behind keysym [] fs h = refl
absent-behind keysym (e ∷ es) fs h =
    let parts = or-false (e.1 == keysym) (has_keysym keysym es) h in
    ap (λ b. option_map (λ (x : Entry). x.0) (cond b (Some e) (find (λ (x : Entry). x.1 == keysym) (es ++ fs)))) parts.0 ∙ absent-behind keysym es fs parts.1

-- ---- Of X11, by computing

firsts_climb : climbs 0 x11_firsts ≡ true
unfolding x11_runs numbered entries_of_run x11_firsts climbs
firsts_climb = refl

seconds_covered : covered x11_firsts x11_seconds ≡ true
unfolding x11_runs x11_others numbered entries_of_run x11_firsts x11_seconds covered
seconds_covered = refl

underscored_covered : covered x11_firsts (underscored (x11_firsts ++ x11_seconds)) ≡ true
unfolding x11_runs x11_others numbered entries_of_run x11_firsts x11_seconds underscored covered
underscored_covered = refl

parts_are : x11_names ≡ x11_firsts ++ (x11_seconds ++ underscored (x11_firsts ++ x11_seconds))
unfolding x11_names
parts_are = refl

-- each is a name that a line may give, of a keysym that it may name
abbrev is_named : Entry → Bool
is_named e = is_given_name e.0 && is_keysym e.1

all_named : list_all is_named x11_names ≡ true
unfolding x11_runs x11_others numbered entries_of_run x11_firsts x11_seconds underscored x11_names is_given_name is_word is_hex is_u_form
all_named = refl

-- and not built in
abbrev new_in : List Entry → Entry → Bool
new_in fs e = not (is_some (keysym_in fs e.0))

abbrev is_new : Entry → Bool
is_new e = new_in built_in e

-- no name of the first entries is one of the others: each test splits both, so that few are left to compare
unfoldable apart : List (List ℕ → Bool) → List Entry → List Entry → Bool
apart [] es fs = list_all (new_in fs) es
apart (t ∷ ts) [] fs = true
apart (t ∷ ts) (e ∷ es) [] = true
apart (t ∷ ts) (e ∷ es) (f ∷ fs) =
    apart ts (filter (λ x. t x.0) (e ∷ es)) (filter (λ x. t x.0) (f ∷ fs))
    && apart ts (filter (λ x. not (t x.0)) (e ∷ es)) (filter (λ x. not (t x.0)) (f ∷ fs))

abbrev below_at : ℕ → ℕ → List ℕ → Bool
below_at k m name = nat_lt (get_or name k 0) m

abbrev splits : List (List ℕ → Bool)
splits = (λ name. nat_lt (length name) 9) ∷ below_at 1 102 ∷ below_at 0 86 ∷ below_at 2 98 ∷ below_at 3 100 ∷ below_at 4 109
    ∷ below_at 6 106 ∷ below_at 0 76 ∷ below_at 5 102 ∷ []

apart_here : apart splits x11_names built_in ≡ true
unfolding x11_runs x11_others numbered entries_of_run x11_firsts x11_seconds underscored x11_names built_in built_in_runs apart
apart_here = refl

-- in the entries that pass a test, a name that passes is found as in all
among : (t : List ℕ → Bool) (fs es : List Entry) → list_all (new_in (filter (λ x. t x.0) fs)) (filter (λ x. t x.0) es) ≡ true → list_all (new_in fs) (filter (λ x. t x.0) es) ≡ true
among t fs [] h = refl
among t fs (e ∷ es) h = by (among t fs es) (t e.0) refl h
  where
    by : (list_all (new_in (filter (λ x. t x.0) fs)) (filter (λ x. t x.0) es) ≡ true → list_all (new_in fs) (filter (λ x. t x.0) es) ≡ true)
        → (b : Bool) → t e.0 ≡ b
        → list_all (new_in (filter (λ x. t x.0) fs)) (cond b (e ∷ filter (λ x. t x.0) es) (filter (λ x. t x.0) es)) ≡ true
        → list_all (new_in fs) (cond b (e ∷ filter (λ x. t x.0) es) (filter (λ x. t x.0) es)) ≡ true
    by rest true passes h =
        let parts = and_parts (new_in (filter (λ x. t x.0) fs) e) (list_all (new_in (filter (λ x. t x.0) fs)) (filter (λ x. t x.0) es)) h in
        let found = lookup-filter-keys (bytes_eq e.0) t true (λ k same. ap t (sym (same_bytes e.0 k same)) ∙ passes) fs in
        let new : new_in fs e ≡ true = sym (ap (λ o. not (is_some o)) found) ∙ parts.0 in
        ap (λ b. b && list_all (new_in fs) (filter (λ x. t x.0) es)) new ∙ rest parts.1
    by rest false fails h = rest h

-- each entry passes a test or its opposite
either-all : (p t : Entry → Bool) (es : List Entry) → list_all p (filter t es) ≡ true → list_all p (filter (λ x. not (t x)) es) ≡ true → list_all p es ≡ true
either-all p t [] h k = refl
either-all p t (e ∷ es) h k = by (either-all p t es) (t e) h k
  where
    by : (list_all p (filter t es) ≡ true → list_all p (filter (λ x. not (t x)) es) ≡ true → list_all p es ≡ true)
        → (b : Bool) → list_all p (cond b (e ∷ filter t es) (filter t es)) ≡ true
        → list_all p (cond (not b) (e ∷ filter (λ x. not (t x)) es) (filter (λ x. not (t x)) es)) ≡ true → list_all p (e ∷ es) ≡ true
    by rest true h k = let parts = and_parts (p e) (list_all p (filter t es)) h in ap (λ b. b && list_all p es) parts.0 ∙ rest parts.1 k
    by rest false h k = let parts = and_parts (p e) (list_all p (filter (λ x. not (t x)) es)) k in ap (λ b. b && list_all p es) parts.0 ∙ rest h parts.1

new_in-nil : (es : List Entry) → list_all (new_in []) es ≡ true
new_in-nil [] = refl
new_in-nil (e ∷ es) = new_in-nil es

apart-new : (ts : List (List ℕ → Bool)) (es fs : List Entry) → apart ts es fs ≡ true → list_all (new_in fs) es ≡ true
unfolding apart
apart-new [] es fs h = h
apart-new (t ∷ ts) [] fs h = refl
apart-new (t ∷ ts) (e ∷ es) [] h = new_in-nil (e ∷ es)
apart-new (t ∷ ts) (e ∷ es) (f ∷ fs) h =
    let pass = λ (x : Entry). t x.0 in
    let fail = λ (x : Entry). not (t x.0) in
    let parts = and_parts (apart ts (filter pass (e ∷ es)) (filter pass (f ∷ fs))) (apart ts (filter fail (e ∷ es)) (filter fail (f ∷ fs))) h in
    let one = among t (f ∷ fs) (e ∷ es) (apart-new ts (filter pass (e ∷ es)) (filter pass (f ∷ fs)) parts.0) in
    let other = among (λ name. not (t name)) (f ∷ fs) (e ∷ es) (apart-new ts (filter fail (e ∷ es)) (filter fail (f ∷ fs)) parts.1) in
    either-all (new_in (f ∷ fs)) pass (e ∷ es) one other

all_new : list_all is_new x11_names ≡ true
all_new = apart-new splits x11_names built_in apart_here

both_all : (p q : Entry → Bool) (es : List Entry) → list_all p es ≡ true → list_all q es ≡ true → list_all (λ e. p e && q e) es ≡ true
both_all p q [] h k = refl
both_all p q (e ∷ es) h k =
    let one = and_parts (p e) (list_all p es) h in
    let two = and_parts (q e) (list_all q es) k in
    ap₂ (λ a b. a && b && list_all (λ x. p x && q x) es) one.0 two.0 ∙ both_all p q es one.1 two.1

pub all_sound : list_all is_sound x11_names ≡ true
unfolding is_sound
all_sound = both_all is_named is_new x11_names all_named all_new

-- ---- What names.rt and x11.rt need of it

is_word-ascii : (c : ℕ) → is_word_byte c ≡ true → c < 128
is_word-ascii c h = grind (arith, nat_tests)

pub word-ascii : (name : List ℕ) → is_word name ≡ true → IsAscii name
unfolding is_word
word-ascii name h = IsAscii-from_all name (λ k d within. is_word-ascii (get_or name k d) (AllPass-from_list_all is_word_byte name (and_parts (is_word_start (slice_index name 0)) (list_all is_word_byte name) h).1 k d within))

-- each name is text
pub x11-utf8 : (place : ℕ) (e : Entry) → place < length x11_names → IsUtf8 (get_or x11_names place e).0
x11-utf8 place e within =
    IsUtf8-from_ascii _ (word-ascii _ (sound-parts (get_or x11_names place e) (AllPass-from_list_all is_sound x11_names all_sound place e within)).word)

append-at : (es fs : List Entry) (d : ℕ) (o : Entry) → d < length es → get_or (es ++ fs) d o ≡ get_or es d o
append-at [] fs d o within = absurd (omega (arith, within))
append-at (e ∷ es) fs zero o within = refl
append-at (e ∷ es) fs (suc d) o within = append-at es fs d o (omega (arith, within))

append-length : (es fs : List Entry) → length es ≤ length (es ++ fs)
append-length [] fs = zero-le
append-length (e ∷ es) fs = let rest = append-length es fs in omega (arith, rest)

pub first-within : (d : ℕ) → d < length (map (λ (e : Entry). e.1) x11_firsts) → d < length x11_names
first-within d within =
    let count = keysyms-length x11_firsts in
    let more = append-length x11_firsts (x11_seconds ++ underscored (x11_firsts ++ x11_seconds)) in
    subst (λ es. d < length es) (sym parts_are) (omega (arith, within, count, more))

pub any-default : (es : List Entry) (d : ℕ) (e f : Entry) → d < length es → get_or es d e ≡ get_or es d f
any-default [] d e f within = absurd (omega (arith, within))
any-default (x ∷ es) zero e f within = refl
any-default (x ∷ es) (suc d) e f within = any-default es d e f (omega (arith, within))

pub first-keysym : (d keysym : ℕ) (e : Entry) → d < length (map (λ (e : Entry). e.1) x11_firsts) → get_or (map (λ (e : Entry). e.1) x11_firsts) d 0 ≡ keysym → (get_or x11_names d e).1 ≡ keysym
first-keysym d keysym e within is =
    let inside : d < length x11_firsts = let count = keysyms-length x11_firsts in omega (arith, within, count) in
    ap (λ es. (get_or es d e).1) parts_are
    ∙ ap (λ (x : Entry). x.1) (append-at x11_firsts (x11_seconds ++ underscored (x11_firsts ++ x11_seconds)) d e inside)
    ∙ sym (keysym-at x11_firsts d 0 e inside) ∙ is

-- the keysym at a place of the first ones has the name at that place
pub first-named : (d keysym : ℕ) (e : Entry) → d < length (map (λ (e : Entry). e.1) x11_firsts) → get_or (map (λ (e : Entry). e.1) x11_firsts) d 0 ≡ keysym → name_in x11_names keysym ≡ Some (get_or x11_names d e).0
first-named d keysym e within is =
    let inside : d < length x11_firsts = let count = keysyms-length x11_firsts in omega (arith, within, count) in
    let of : (get_or x11_firsts d e).1 ≡ keysym = sym (keysym-at x11_firsts d 0 e inside) ∙ is in
    let more = x11_seconds ++ underscored (x11_firsts ++ x11_seconds) in
    ap (λ es. name_in es keysym) parts_are
    ∙ first-at x11_firsts more 0 d e keysym firsts_climb inside of
    ∙ ap (λ (x : Entry). Some x.0) (sym (append-at x11_firsts more d e inside))
    ∙ ap (λ es. Some (get_or es d e).0) (sym parts_are)

-- a keysym that no entry has
nowhere : (keysym : ℕ) (es : List Entry) → ((d : ℕ) → d < length es → (get_or es d ([], 0)).1 ≡ keysym → ⊥) → has_keysym keysym es ≡ false
nowhere keysym [] other = refl
nowhere keysym (e ∷ es) other = by (e.1 == keysym) refl (λ h. nowhere keysym es h)
  where
    by : (b : Bool) → (e.1 == keysym) ≡ b → (((d : ℕ) → d < length es → (get_or es d ([], 0)).1 ≡ keysym → ⊥) → has_keysym keysym es ≡ false) → (b || has_keysym keysym es) ≡ false
    by true same rest = absurd (other 0 (omega arith) (eqb-true e.1 keysym same))
    by false h rest = rest (λ d within is. other (suc d) (omega (arith, within)) is)

-- a keysym that isn't among the first ones has no name
pub none-named : (keysym : ℕ) → ((d : ℕ) → d < length (map (λ (e : Entry). e.1) x11_firsts) → get_or (map (λ (e : Entry). e.1) x11_firsts) d 0 ≡ keysym → ⊥) → name_in x11_names keysym ≡ None
none-named keysym other =
    let firsts = nowhere keysym x11_firsts (λ d within is.
    let count = keysyms-length x11_firsts in
    other d (omega (arith, within, count)) (keysym-at x11_firsts d 0 ([], 0) within ∙ is)) in
    let seconds = covered-absent keysym x11_firsts x11_seconds seconds_covered firsts in
    let thirds = covered-absent keysym x11_firsts (underscored (x11_firsts ++ x11_seconds)) underscored_covered firsts in
    ap (λ es. name_in es keysym) parts_are
    ∙ absent-behind keysym x11_firsts (x11_seconds ++ underscored (x11_firsts ++ x11_seconds)) firsts
    ∙ absent-behind keysym x11_seconds (underscored (x11_firsts ++ x11_seconds)) seconds
    ∙ absent keysym (underscored (x11_firsts ++ x11_seconds)) thirds
