-- The image of a content has no fault, and tells that content alone.
use Rattle.std.proofs.Common.{ℕ, suc, List, [], ◌∷◌, ◌++◌, ◌≡◌, ◌+◌, ◌*◌, ◌<◌, ◌^◌, None, length, drop, get_or, slice_index, sum_by, refl, ap, arith, sym, ◌∙◌, subst, append_assoc, length-append, get_or-drop, drop-drop}
use Rattle.std.specs.List.{flat_map}
use Rattle.std.proofs.lemmas.Bool.{le-ltb}
use Rattle.std.proofs.lemmas.List.Sums.{sum_by-cons}
use Rattle.std.proofs.lemmas.Nat.{from_le_bytes-to_le_bytes_2, from_le_bytes-to_le_bytes_4}
use Rattle.kx_tables.specs.declared.rows.KeyRow.{KeyRow}
use Rattle.kx_image.specs.Records.{key_bytes}
use Rattle.kx_image.specs.Shape.{front_fault, header_bytes, header_of, header_size, groups_from}
use Rattle.kx_image.specs.declared.header.Header.{Header}
use Rattle.kx_image.specs.declared.header.ImageVersion.{ImageVersion}
use Rattle.kx_image.specs.declared.header.ImageVersion.TheVariants.{One, Two}
use Rattle.kx_image.proofs.Found.{same_header}

-- a header whose numbers fit
pub record HeaderFits (h : Header) : Type 0 where
  pub groups : h.groups < 2 ^ 16
  pub types : h.types < 2 ^ 16
  pub keys : h.keys < 2 ^ 16
  pub entries : h.entries < 2 ^ 32
  pub cells : h.cells < 2 ^ 32
  pub keysyms : h.keysyms < 2 ^ 32
  pub names : h.names < 2 ^ 32
  pub indicators : h.indicators < 2 ^ 16
  pub group_names : h.group_names < 2 ^ 16

-- version 1 has no new counts
abbrev pub Old : ImageVersion → Header → Type 0
Old One h = (h.indicators ≡ 0) × (h.group_names ≡ 0)
Old Two h = Unit {0}

header_at : (e : ImageVersion) (a b c d f g k n i j : ℕ) (rest : List ℕ) (h : Header) → h ≡ record { version = e; groups = a; types = b; keys = c; entries = d; cells = f; keysyms = g; names = k; indicators = i; group_names = j } → n ≡ 0 → HeaderFits h → Old e h
    → header_of (header_bytes (record { version = e; groups = a; types = b; keys = c; entries = d; cells = f; keysyms = g; names = k; indicators = i; group_names = j }) ++ rest) ≡ record { version = e; groups = a; types = b; keys = c; entries = d; cells = f; keysyms = g; names = k; indicators = i; group_names = j }
header_at One a b c d f g k n i j rest h is none fits old = let fit = subst HeaderFits is fits in let without = subst (Old One) is old in
    same_header One _ _ _ _ _ _ _ _ _ _ _ _ _ _ _ _ _ _ (from_le_bytes-to_le_bytes_2 a fit.groups) (from_le_bytes-to_le_bytes_2 b fit.types) (from_le_bytes-to_le_bytes_2 c fit.keys)
    (from_le_bytes-to_le_bytes_4 d fit.entries) (from_le_bytes-to_le_bytes_4 f fit.cells) (from_le_bytes-to_le_bytes_4 g fit.keysyms) (from_le_bytes-to_le_bytes_4 k fit.names) (sym without.0) (sym without.1)
header_at Two a b c d f g k n i j rest h is none fits old = let fit = subst HeaderFits is fits in
    same_header Two _ _ _ _ _ _ _ _ _ _ _ _ _ _ _ _ _ _ (from_le_bytes-to_le_bytes_2 a fit.groups) (from_le_bytes-to_le_bytes_2 b fit.types) (from_le_bytes-to_le_bytes_2 c fit.keys)
    (from_le_bytes-to_le_bytes_4 d fit.entries) (from_le_bytes-to_le_bytes_4 f fit.cells) (from_le_bytes-to_le_bytes_4 g fit.keysyms) (from_le_bytes-to_le_bytes_4 k fit.names) (from_le_bytes-to_le_bytes_2 i fit.indicators) (from_le_bytes-to_le_bytes_2 j fit.group_names)

pub header_again : (h : Header) (rest : List ℕ) → HeaderFits h → Old h.version h → header_of (header_bytes h ++ rest) ≡ h
header_again h rest fits old = header_at h.version h.groups h.types h.keys h.entries h.cells h.keysyms h.names 0 h.indicators h.group_names rest h refl refl fits old

front_at : (e : ImageVersion) (a b c d f g k i j : ℕ) (rest : List ℕ) → front_fault (header_bytes (record { version = e; groups = a; types = b; keys = c; entries = d; cells = f; keysyms = g; names = k; indicators = i; group_names = j }) ++ rest) ≡ None
front_at One a b c d f g k i j rest = rw (le-ltb (length (header_bytes (record { version = One; groups = a; types = b; keys = c; entries = d; cells = f; keysyms = g; names = k; indicators = i; group_names = j }) ++ rest)) 28 (omega arith)) refl
front_at Two a b c d f g k i j rest = rw (le-ltb (length (header_bytes (record { version = Two; groups = a; types = b; keys = c; entries = d; cells = f; keysyms = g; names = k; indicators = i; group_names = j }) ++ rest)) 28 (omega arith), le-ltb (length (header_bytes (record { version = Two; groups = a; types = b; keys = c; entries = d; cells = f; keysyms = g; names = k; indicators = i; group_names = j }) ++ rest)) 32 (omega arith)) refl

pub front_again : (h : Header) (rest : List ℕ) → front_fault (header_bytes h ++ rest) ≡ None
front_again h rest = front_at h.version h.groups h.types h.keys h.entries h.cells h.keysyms h.names h.indicators h.group_names rest

behind_at : (e : ImageVersion) (a b c d f g k i j : ℕ) (rest : List ℕ) → drop (header_size e) (header_bytes (record { version = e; groups = a; types = b; keys = c; entries = d; cells = f; keysyms = g; names = k; indicators = i; group_names = j }) ++ rest) ≡ rest
behind_at One a b c d f g k i j rest = refl
behind_at Two a b c d f g k i j rest = refl

pub behind_header : (h : Header) (rest : List ℕ) → drop (header_size h.version) (header_bytes h ++ rest) ≡ rest
behind_header h rest = behind_at h.version h.groups h.types h.keys h.entries h.cells h.keysyms h.names h.indicators h.group_names rest

size_at : (e : ImageVersion) (a b c d f g k i j : ℕ) → length (header_bytes (record { version = e; groups = a; types = b; keys = c; entries = d; cells = f; keysyms = g; names = k; indicators = i; group_names = j })) ≡ header_size e
size_at One a b c d f g k i j = refl
size_at Two a b c d f g k i j = refl

pub length-header : (h : Header) → length (header_bytes h) ≡ header_size h.version
length-header h = size_at h.version h.groups h.types h.keys h.entries h.cells h.keysyms h.names h.indicators h.group_names

pub length-table : {X : Type 0} (bytes_of : X → List ℕ) (size : ℕ) → ((x : X) → length (bytes_of x) ≡ size) → (xs : List X) → length (flat_map bytes_of xs) ≡ size * length xs
length-table bytes_of size each [] = omega arith
length-table bytes_of size each (x ∷ xs) =
    let more : size * suc (length xs) ≡ size + size * length xs = omega arith in
    omega (arith, length-append (bytes_of x) (flat_map bytes_of xs), each x, length-table bytes_of size each xs, more)

-- the keys' groups are counted from their records
pub groups_again : (ks : List KeyRow) (start : ℕ) (s rest : List ℕ) → drop start s ≡ flat_map key_bytes ks ++ rest → groups_from (length ks) start s ≡ sum_by (λ k. k.groups) ks
groups_again [] start s rest at = refl
groups_again (k ∷ ks) start s rest at =
    let whole : drop start s ≡ key_bytes k ++ (flat_map key_bytes ks ++ rest) = at ∙ append_assoc (key_bytes k) (flat_map key_bytes ks) rest in
    let here : slice_index s (start + 5) ≡ k.groups = sym (get_or-drop start s 5 0) ∙ ap (λ t. get_or t 5 0) whole in
    let next : drop (start + 16) s ≡ flat_map key_bytes ks ++ rest = sym (drop-drop 16 start s) ∙ ap (drop 16) whole in
    omega (arith, here, groups_again ks (start + 16) s rest next, sum_by-cons (λ l. l.groups) k ks)
