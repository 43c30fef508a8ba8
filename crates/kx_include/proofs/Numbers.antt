-- The number of a file's name, as its place among the keys of a map.
use Rattle.std.proofs.Common.{◌≡◌, ℕ, ◌+◌, suc, Bool, true, false, not, cond, List, [], ◌∷◌, length, map, Option, refl, sym, ap, ◌∙◌}
use Rattle.std.specs.List.{position, prefix_len}
use Rattle.std.specs.Str.{bytes_eq}
use Rattle.std.specs.Option.{option_map}
use Rattle.kx_include.specs.Library.{number_of, with_file}
use Rattle.indexmap.specs.IndexMap.{insert_entry}

prefix_len-map : {X Y : Type 0} (f : X → Y) (p : Y → Bool) (xs : List X) → prefix_len p (map f xs) ≡ prefix_len (λ x. p (f x)) xs
prefix_len-map f p [] = refl
prefix_len-map f p (x ∷ xs) = ap (λ n. cond (p (f x)) (1 + n) 0) (prefix_len-map f p xs)

pub length-mapped : {X Y : Type 0} (f : X → Y) (xs : List X) → length (map f xs) ≡ length xs
length-mapped f [] = refl
length-mapped f (x ∷ xs) = ap suc (length-mapped f xs)

position-map : {X Y : Type 0} (f : X → Y) (p : Y → Bool) (xs : List X) → position p (map f xs) ≡ position (λ x. p (f x)) xs
position-map f p xs = rw (prefix_len-map f (λ y. not (p y)) xs, length-mapped f xs) refl

-- the place of a name among the keys is that among the files
pub place_of-at : {V : Type 0} (g : V → List ℕ) (es : List (List ℕ × V)) (files : List (List ℕ × List ℕ)) (name : List ℕ) (o : Option ℕ) → map {B = List ℕ × List ℕ} (λ e. (e.0, g e.1)) es ≡ files → o ≡ position (bytes_eq name) (map {A = List ℕ × V} (λ e. e.0) es) → o ≡ position (bytes_eq name) (map {A = List ℕ × List ℕ} (λ p. p.0) files)
place_of-at {V = V} g es files name o same found =
    found ∙ position-map {X = List ℕ × V} (λ e. e.0) (bytes_eq name) es ∙ sym (position-map {Y = List ℕ × List ℕ} (λ e. (e.0, g e.1)) (λ p. bytes_eq name p.0) es) ∙ sym (position-map (λ p. p.0) (bytes_eq name) (map {B = List ℕ × List ℕ} (λ e. (e.0, g e.1)) es))
    ∙ ap (λ fs. position (bytes_eq name) (map {A = List ℕ × List ℕ} (λ p. p.0) fs)) same

pub number_of-at : {V : Type 0} (g : V → List ℕ) (es : List (List ℕ × V)) (files : List (List ℕ × List ℕ)) (name : List ℕ) (o : Option ℕ) → map {B = List ℕ × List ℕ} (λ e. (e.0, g e.1)) es ≡ files → o ≡ position (bytes_eq name) (map {A = List ℕ × V} (λ e. e.0) es) → option_map (λ n. n + 1) o ≡ number_of (map {A = List ℕ × List ℕ} (λ p. p.0) files) name
number_of-at g es files name o same found = ap (option_map (λ n. n + 1)) (place_of-at g es files name o same found)

-- files where one is put into a map
pub put-file : {V : Type 0} (g : V → List ℕ) (es : List (List ℕ × V)) (key : List ℕ) (value : V) → map {B = List ℕ × List ℕ} (λ e. (e.0, g e.1)) (insert_entry bytes_eq es key value) ≡ with_file (map {B = List ℕ × List ℕ} (λ e. (e.0, g e.1)) es) key (g value)
put-file g [] key value = refl
put-file g (e ∷ es) key value = by (bytes_eq key e.0) (put-file g es key value)
  where
    by : (b : Bool) → map {B = List ℕ × List ℕ} (λ e. (e.0, g e.1)) (insert_entry bytes_eq es key value) ≡ with_file (map {B = List ℕ × List ℕ} (λ e. (e.0, g e.1)) es) key (g value)
        → map {B = List ℕ × List ℕ} (λ e. (e.0, g e.1)) (cond b ((e.0, value) ∷ es) (e ∷ insert_entry bytes_eq es key value)) ≡ cond b ((e.0, g value) ∷ map {B = List ℕ × List ℕ} (λ e. (e.0, g e.1)) es) ((e.0, g e.1) ∷ with_file (map {B = List ℕ × List ℕ} (λ e. (e.0, g e.1)) es) key (g value))
    by true rest = refl
    by false rest = ap (λ fs. (e.0, g e.1) ∷ fs) rest

pub put-files : {V : Type 0} (g : V → List ℕ) (es new : List (List ℕ × V)) (files made : List (List ℕ × List ℕ)) (key name : List ℕ) (value : V) → map {B = List ℕ × List ℕ} (λ e. (e.0, g e.1)) es ≡ files → map {B = List ℕ × List ℕ} (λ e. (e.0, g e.1)) new ≡ made → new ≡ insert_entry bytes_eq es key value → key ≡ name → made ≡ with_file files name (g value)
put-files g es new files made key name value before after is same = sym after ∙ ap (map (λ e. (e.0, g e.1))) is ∙ put-file g es key value ∙ ap (λ fs. with_file fs key (g value)) before ∙ ap (λ n. with_file files n (g value)) same
