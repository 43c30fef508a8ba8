-- Which sections of texts are wanted.
use Rattle.std.proofs.Common.{◌≡◌, ◌≤◌, ◌<◌, ◌+◌, ℕ, zero, suc, Bool, true, false, List, [], ◌∷◌, ◌++◌, Option, None, Some, Result, Ok, Err, IfOk, get_or, length, replicate, refl, ap, ◌∙◌, subst, arith}
use Rattle.std.proofs.lemmas.Bool.{ltb-true, ltb-false}
use Rattle.std.specs.List.{list_all, slice_get}
use Rattle.std.specs.Option.{option_and_then, option_map, option_map_or}
use Rattle.std.specs.Prelude.{nat_lt}
use Rattle.kx_tree.specs.declared.tree.Item.{Item}
use Rattle.kx_tree.specs.declared.tree.Item.TheVariants.{Include, Statement}
use Rattle.kx_tree.specs.declared.tree.Kind.{Kind}
use Rattle.kx_tree.specs.declared.tree.Section.{Section}
use Rattle.kx_include.specs.Held.{Flags, IsAll, IsClosed, IsClosedAt, IsClosedIn, closed_item, closed_part, flags_of, is_wanted}
use Rattle.kx_parse.specs.IncludeText.{Part, parts_of}
use Rattle.kx_include.specs.Library.{Library, Text, file_of, map_of, place_in, sections_in, sections_of}
use Rattle.kx_include.specs.declared.place.Place.{Place}
use Rattle.kx_include.proofs.Outlining.{found-map_of}

none-beyond : {X : Type 0} (xs : List X) (n : ℕ) → length xs ≤ n → slice_get xs n ≡ None
none-beyond [] n h = refl
none-beyond (x ∷ xs) zero h = absurd (omega arith)
none-beyond (x ∷ xs) (suc n) h = none-beyond xs n (omega arith)

nothing-at : (library : Library) (file n : ℕ) (s : Section) → length library.texts ≤ file → slice_get (sections_in library file) n ≡ Some s → ⊥
nothing-at library file n s beyond found = none-there (subst (λ (t : Option Text). slice_get (sections_of t) n ≡ Some s) (none-beyond library.texts file beyond) found)
  where
    none-there : slice_get (sections_of None) n ≡ Some s → ⊥
    none-there e = cc

-- no text stands beyond the last
closed-beyond : (library : Library) (flags : Flags) (file : ℕ) → length library.texts ≤ file → IsClosedIn library flags file
closed-beyond library flags file beyond n = record {
  source = λ s zeroth found. absurd (nothing-at library file n s beyond found);
  closed = λ s wanted found. absurd (nothing-at library file n s beyond found);
}

-- nor a section after the last of a text
closed-none : (library : Library) (flags : Flags) (file n : ℕ) → slice_get (sections_in library file) n ≡ None → IsClosedAt library flags file n
closed-none library flags file n none = record { source = λ s zeroth found. cc; closed = λ s wanted found. cc }

pub closed-sections : (library : Library) (flags : Flags) (file end : ℕ) → length (sections_in library file) ≤ end → ((n : ℕ) → n < end → IsClosedAt library flags file n) → IsClosedIn library flags file
closed-sections library flags file end many closed n = go (nat_lt n end) refl
  where
    go : (b : Bool) → nat_lt n end ≡ b → IsClosedAt library flags file n
    go true e = closed n (ltb-true n end e)
    go false e = closed-none library flags file n (none-beyond (sections_in library file) n (let beyond = ltb-false n end e in omega arith))

pub closed-next : (library : Library) (flags : Flags) (file n : ℕ) → ((k : ℕ) → k < n → IsClosedAt library flags file k) → IsClosedAt library flags file n → (k : ℕ) → k < n + 1 → IsClosedAt library flags file k
closed-next library flags file n closed here k less = go (nat_lt k n) refl
  where
    go : (b : Bool) → nat_lt k n ≡ b → IsClosedAt library flags file k
    go true e = closed k (ltb-true k n e)
    go false e = let same : n ≡ k = (let last = ltb-false k n e in omega arith) in subst (λ (m : ℕ). IsClosedAt library flags file m) same here

pub closed-all : (library : Library) (flags : Flags) (end : ℕ) → length library.texts ≤ end → ((file : ℕ) → file < end → IsClosedIn library flags file) → IsClosed library flags
closed-all library flags end many closed file = go (nat_lt file end) refl
  where
    go : (b : Bool) → nat_lt file end ≡ b → IsClosedIn library flags file
    go true e = closed file (ltb-true file end e)
    go false e = closed-beyond library flags file (let beyond = ltb-false file end e in omega arith)

pub closed-more : (library : Library) (flags : Flags) (file : ℕ) → ((f : ℕ) → f < file → IsClosedIn library flags f) → IsClosedIn library flags file → (f : ℕ) → f < file + 1 → IsClosedIn library flags f
closed-more library flags file closed here f less = go (nat_lt f file) refl
  where
    go : (b : Bool) → nat_lt f file ≡ b → IsClosedIn library flags f
    go true e = closed f (ltb-true f file e)
    go false e = let same : file ≡ f = (let last = ltb-false f file e in omega arith) in subst (λ (k : ℕ). IsClosedIn library flags k) same here

-- ---- The flags of one more text

flags-before : (flags : Flags) (more : List Bool) (file : ℕ) → file < length flags → flags_of (flags ++ more ∷ []) file ≡ flags_of flags file
flags-before [] more file h = absurd (omega arith)
flags-before (f ∷ fs) more zero h = refl
flags-before (f ∷ fs) more (suc file) h = flags-before fs more file (omega arith)

flags-last : (flags : Flags) (more : List Bool) (file : ℕ) → file ≡ length flags → flags_of (flags ++ more ∷ []) file ≡ more
flags-last [] more zero h = refl
flags-last [] more (suc file) h = absurd (omega arith)
flags-last (f ∷ fs) more zero h = absurd (omega arith)
flags-last (f ∷ fs) more (suc file) h = flags-last fs more file (omega arith)

there : {X : Type 0} (xs : List X) (n : ℕ) (x : X) → slice_get xs n ≡ Some x → n < length xs
there [] n x e = cc
there (y ∷ ys) zero x e = omega arith
there (y ∷ ys) (suc n) x e = let less = there ys n x e in omega arith

-- each section that stands there, before a text and in it
pub all-more : (library : Library) (flags : Flags) (more : List Bool) (file : ℕ) → length flags ≡ file → ((n : ℕ) → n < length (sections_in library file) → get_or more n false ≡ true)
    → ((place : Place) (s : Section) → place.file < file → slice_get (sections_in library place.file) place.section ≡ Some s → is_wanted flags place ≡ true)
    → (place : Place) (s : Section) → place.file < file + 1 → slice_get (sections_in library place.file) place.section ≡ Some s → is_wanted (flags ++ more ∷ []) place ≡ true
all-more library flags more file many here before place s less found = go (nat_lt place.file file) refl
  where
    go : (b : Bool) → nat_lt place.file file ≡ b → is_wanted (flags ++ more ∷ []) place ≡ true
    go true e =
        let earlier = ltb-true place.file file e in
        ap (λ (ws : List Bool). get_or ws place.section false) (flags-before flags more place.file (omega (arith, many))) ∙ before place s earlier found
    go false e =
        let last : place.file ≡ file = (let beyond = ltb-false place.file file e in omega arith) in
        let within = there (sections_in library place.file) place.section s found in
        let same = subst (λ (k : ℕ). place.section < length (sections_in library k)) last within in
        ap (λ (ws : List Bool). get_or ws place.section false) (flags-last flags more place.file (omega (arith, many, last))) ∙ here place.section same

pub all-all : (library : Library) (flags : Flags) (end : ℕ) → length library.texts ≤ end
    → ((place : Place) (s : Section) → place.file < end → slice_get (sections_in library place.file) place.section ≡ Some s → is_wanted flags place ≡ true) → IsAll library flags
all-all library flags end many before place s found = go (nat_lt place.file end) refl
  where
    go : (b : Bool) → nat_lt place.file end ≡ b → is_wanted flags place ≡ true
    go true e = before place s (ltb-true place.file end e) found
    go false e = absurd (nothing-at library place.file place.section s (let beyond = ltb-false place.file end e in omega arith) found)

pub all-true : (k n : ℕ) → n < k → get_or (replicate k true) n false ≡ true
all-true zero n h = absurd (omega arith)
all-true (suc k) zero h = refl
all-true (suc k) (suc n) h = all-true k n (omega arith)

-- ---- Where all are wanted, no include names one that isn't

part-closed : (library : Library) (flags : Flags) (kind : Kind) (p : Part) → IsAll library flags → closed_part library flags kind p ≡ true
part-closed library flags kind p every = by_file (file_of library.names kind p.file)
  where
    by_section : (file : ℕ) (o : Option ℕ) → map_of (sections_in library file) kind p.map ≡ o → option_map_or (is_wanted flags) (option_map (λ section. record { file = file; section = section }) o) true ≡ true
    by_section file None e = refl
    by_section file (Some n) e = let found = found-map_of (sections_in library file) kind p.map n e in every (record { file = file; section = n }) found.0 found.1

    by_file : (file : Option ℕ) → option_map_or (is_wanted flags) (option_and_then (place_in library kind p.map) file) true ≡ true
    by_file None = refl
    by_file (Some file) = by_section file (map_of (sections_in library file) kind p.map) refl

parts-closed : (library : Library) (flags : Flags) (kind : Kind) (ps : List Part) → IsAll library flags → list_all (closed_part library flags kind) ps ≡ true
parts-closed library flags kind [] every = refl
parts-closed library flags kind (p ∷ ps) every = rw (part-closed library flags kind p every) (parts-closed library flags kind ps every)

text-closed : (library : Library) (flags : Flags) (kind : Kind) (ps : Option (List Part)) → IsAll library flags → option_map_or (list_all (closed_part library flags kind)) ps true ≡ true
text-closed library flags kind (Some ps) every = parts-closed library flags kind ps every
text-closed library flags kind None every = refl

items-closed : (library : Library) (flags : Flags) (kind : Kind) (is : List Item) → IsAll library flags → list_all (closed_item library flags kind) is ≡ true
items-closed library flags kind [] every = refl
items-closed library flags kind (Include mode text span ∷ is) every = rw (text-closed library flags kind (parts_of text.bytes) every) (items-closed library flags kind is every)
items-closed library flags kind (Statement s ∷ is) every = items-closed library flags kind is every

all-closed : (library : Library) (flags : Flags) → IsAll library flags → IsClosed library flags
all-closed library flags every file n = record {
  source = λ s zeroth found. every (record { file = file; section = n }) s found;
  closed = λ s wanted found. items-closed library flags s.kind s.items every;
}

pub all-closed-in : {E : Type 0} (library : Library) (r : Result Flags E) → IfOk r (λ flags. IsAll library flags) → IfOk r (λ flags. IsClosed library flags)
all-closed-in library (Ok flags) every = all-closed library flags every
all-closed-in library (Err e) every = every
