-- Bytes whose form has no fault, whose records tell their rows and whose rows are sound are the image of their content.
use Rattle.std.proofs.Common.{ℕ, zero, suc, Bool, true, false, cond, List, [], ◌∷◌, ◌++◌, ◌≡◌, ◌+◌, ◌<◌, ◌≤◌, ◌==◌, ◌⊎◌, inl, inr, Option, None, Some, length, take, drop, get_or, refl, ap, arith, sym, ◌∙◌, subst, add-one}
use Rattle.std.specs.List.{flat_map}
use Rattle.std.specs.Str.{bytes_eq}
use Rattle.std.specs.Prelude.{nat_lt}
use Rattle.std.specs.Option.{option_or}
use Rattle.std.proofs.Math.Seq.{drop-cons, drop-length}
use Rattle.std.proofs.lemmas.Bool.{ltb-false, eqb-true}
use Rattle.std.proofs.lemmas.List.{append-nil, drop-drop, take-append-drop}
use Rattle.std.proofs.lemmas.Nat.{le_bytes_2, le_bytes_4}
use Rattle.std.proofs.lemmas.Slice.Eq.{bytes_eq-Decides}
use Rattle.kx_tables.specs.Content.{Content, greatest_groups, part}
use Rattle.kx_tables.specs.Sound.{Sound}
use Rattle.kx_image.specs.Cut.{rows_at}
use Rattle.kx_image.specs.Image.{IsImage, IsExpressible, body, content_in, header_for}
use Rattle.kx_image.specs.Records.{two, four, two_at, four_at, type_bytes, type_of, entry_bytes, entry_of, key_bytes, key_of, group_bytes, group_of, cell_bytes, cell_of, keysym_bytes, keysym_of, indicator_bytes, indicator_of, group_name_bytes, group_name_of}
use Rattle.kx_image.specs.Shape.{magic, version_number, version_of, new_count_at, front_fault, length_fault, shape_fault, called_for, header_bytes, header_of, header_size, entries_start, keys_start, groups_start, cells_start, keysyms_start, indicators_start, group_names_start, names_start, group_count}
use Rattle.kx_image.specs.Canonical.{AreCanonical}
use Rattle.kx_image.specs.declared.fault.ImageFault.{ImageFault}
use Rattle.kx_image.specs.declared.fault.ImageFault.TheVariants.{Truncated, Magic, Version}
use Rattle.kx_image.specs.declared.header.Header.{Header}
use Rattle.kx_image.specs.declared.header.ImageVersion.{ImageVersion}
use Rattle.kx_image.specs.declared.header.ImageVersion.TheVariants.{One, Two}
use Rattle.kx_image.proofs.Slicing.{length-rows_at, table_bytes}
use Rattle.kx_image.proofs.Reading.{length-part}

abbrev pub AreBytes : List ℕ → Type 0
AreBytes s = (i : ℕ) → get_or s i 0 < 256

pair_bytes : (a b : ℕ) → a < 256 → b < 256 → AreBytes (a ∷ b ∷ [])
pair_bytes a b p q zero = p
pair_bytes a b p q (suc zero) = q
pair_bytes a b p q (suc (suc i)) = omega arith

quad_bytes : (a b c d : ℕ) → a < 256 → b < 256 → c < 256 → d < 256 → AreBytes (a ∷ b ∷ c ∷ d ∷ [])
quad_bytes a b c d p q r t zero = p
quad_bytes a b c d p q r t (suc zero) = q
quad_bytes a b c d p q r t (suc (suc zero)) = r
quad_bytes a b c d p q r t (suc (suc (suc zero))) = t
quad_bytes a b c d p q r t (suc (suc (suc (suc i)))) = omega arith

module _ (s : List ℕ) (bytes : AreBytes s) where
  next_byte : (i j : ℕ) → i < length s → j ≡ i + 1 → drop i s ≡ get_or s i 0 ∷ drop j s
  next_byte i j low j_is = drop-cons s i 0 low ∙ ap (λ k. get_or s i 0 ∷ drop k s) (sym (j_is ∙ add-one i))

  two_then : (i j : ℕ) → i + 2 ≤ length s → j ≡ i + 2 → drop i s ≡ two (two_at s i) ++ drop j s
  two_then i j low j_is =
      next_byte i (i + 1) (omega arith) refl ∙ ap (λ t. get_or s i 0 ∷ t) (next_byte (i + 1) j (omega arith) (omega arith))
      ∙ ap (λ p. p ++ drop j s) (sym (le_bytes_2 (get_or s i 0 ∷ get_or s (i + 1) 0 ∷ []) (two_at s i) refl (pair_bytes _ _ (bytes i) (bytes (i + 1))) refl))

  four_then : (i j : ℕ) → i + 4 ≤ length s → j ≡ i + 4 → drop i s ≡ four (four_at s i) ++ drop j s
  four_then i j low j_is =
      next_byte i (i + 1) (omega arith) refl ∙ ap (λ t. get_or s i 0 ∷ t) (next_byte (i + 1) (i + 2) (omega arith) (omega arith)
      ∙ ap (λ t. get_or s (i + 1) 0 ∷ t) (next_byte (i + 2) (i + 3) (omega arith) (omega arith) ∙ ap (λ t. get_or s (i + 2) 0 ∷ t) (next_byte (i + 3) j (omega arith) (omega arith))))
      ∙ ap (λ p. p ++ drop j s) (sym (le_bytes_4 (get_or s i 0 ∷ get_or s (i + 1) 0 ∷ get_or s (i + 2) 0 ∷ get_or s (i + 3) 0 ∷ []) (four_at s i) refl (quad_bytes _ _ _ _ (bytes i) (bytes (i + 1)) (bytes (i + 2)) (bytes (i + 3))) refl))

  common : 28 ≤ length s → drop 4 s ≡ two (two_at s 4) ++ (two (two_at s 6) ++ (two (two_at s 8) ++ (two (two_at s 10) ++ (four (four_at s 12) ++ (four (four_at s 16) ++ (four (four_at s 20) ++ (four (four_at s 24) ++ drop 28 s)))))))
  common long =
      two_then 4 6 (omega arith) refl ∙ ap (λ t. two (two_at s 4) ++ t) (two_then 6 8 (omega arith) refl ∙ ap (λ t. two (two_at s 6) ++ t) (two_then 8 10 (omega arith) refl
      ∙ ap (λ t. two (two_at s 8) ++ t) (two_then 10 12 (omega arith) refl ∙ ap (λ t. two (two_at s 10) ++ t) (four_then 12 16 (omega arith) refl ∙ ap (λ t. four (four_at s 12) ++ t) (four_then 16 20 (omega arith) refl
      ∙ ap (λ t. four (four_at s 16) ++ t) (four_then 20 24 (omega arith) refl ∙ ap (λ t. four (four_at s 20) ++ t) (four_then 24 28 (omega arith) refl)))))))

-- the header of a version
abbrev header_with : ImageVersion → List ℕ → Header
header_with e s = record {
  version = e;
  groups = two_at s 6;
  types = two_at s 8;
  keys = two_at s 10;
  entries = four_at s 12;
  cells = four_at s 16;
  keysyms = four_at s 20;
  names = four_at s 24;
  indicators = new_count_at e s 28;
  group_names = new_count_at e s 30;
}

header_told : (e : ImageVersion) (s : List ℕ) → AreBytes s → take 4 s ≡ magic → two_at s 4 ≡ version_number e → header_size e ≤ length s → s ≡ header_bytes (header_with e s) ++ drop (header_size e) s
header_told One s bytes begins number long =
    sym (take-append-drop 4 s) ∙ ap (λ m. m ++ drop 4 s) begins ∙ ap (λ t. magic ++ t) (common s bytes long)
    ∙ ap (λ n. magic ++ (two n ++ (two (two_at s 6) ++ (two (two_at s 8) ++ (two (two_at s 10) ++ (four (four_at s 12) ++ (four (four_at s 16) ++ (four (four_at s 20) ++ (four (four_at s 24) ++ drop 28 s))))))))) number
header_told Two s bytes begins number long =
    sym (take-append-drop 4 s) ∙ ap (λ m. m ++ drop 4 s) begins ∙ ap (λ t. magic ++ t) (common s bytes (omega arith))
    ∙ ap (λ n. magic ++ (two n ++ (two (two_at s 6) ++ (two (two_at s 8) ++ (two (two_at s 10) ++ (four (four_at s 12) ++ (four (four_at s 16) ++ (four (four_at s 20) ++ (four (four_at s 24) ++ drop 28 s))))))))) number
    ∙ ap (λ t. magic ++ (two 2 ++ (two (two_at s 6) ++ (two (two_at s 8) ++ (two (two_at s 10) ++ (four (four_at s 12) ++ (four (four_at s 16) ++ (four (four_at s 20) ++ (four (four_at s 24) ++ t)))))))))
    (two_then s bytes 28 30 (omega arith) refl ∙ ap (λ t. two (two_at s 28) ++ t) (two_then s bytes 30 32 (omega arith) refl))

front_facts : (a b c d e : Bool) → cond a (Some Truncated) (cond b (cond c None (cond d (cond e (Some Truncated) None) (Some Version))) (Some Magic)) ≡ None → (a ≡ false) × (b ≡ true) × ((c ≡ true) ⊎ ((c ≡ false) × (d ≡ true) × (e ≡ false)))
front_facts true b c d e none = cc
front_facts false false c d e none = cc
front_facts false true true d e none = (refl, refl, inl refl)
front_facts false true false false e none = cc
front_facts false true false true true none = cc
front_facts false true false true false none = (refl, refl, inr (refl, refl, refl))

-- the first of two faults is none where both are
first_none : (a b : Option ImageFault) → option_or a b ≡ None → a ≡ None
first_none None b none = refl
first_none (Some f) b none = cc

record Front (s : List ℕ) : Type 0 where
  begins : take 4 s ≡ magic
  number : two_at s 4 ≡ version_number (version_of (two_at s 4))
  long : header_size (version_of (two_at s 4)) ≤ length s

front_whole : (s : List ℕ) → shape_fault s ≡ None → Front s
front_whole s whole =
    let facts = front_facts (nat_lt (length s) 28) (bytes_eq (take 4 s) magic) (two_at s 4 == 1) (two_at s 4 == 2) (nat_lt (length s) 32) (first_none (front_fault s) (length_fault s) whole) in
    let long : 28 ≤ length s = ltb-false (length s) 28 facts.0 in
    let begins : take 4 s ≡ magic = (bytes_eq-Decides (take 4 s) magic).0 facts.1 in
    elim facts.2 [
      | inl one ↦ record {
        begins = begins;
        number = eqb-true (two_at s 4) 1 one ∙ sym (ap (λ b. version_number (cond b One Two)) one);
        long = subst (λ (b : Bool). header_size (cond b One Two) ≤ length s) (sym one) long;
      }
      | inr other ↦ record {
        begins = begins;
        number = eqb-true (two_at s 4) 2 other.1 ∙ sym (ap (λ b. version_number (cond b One Two)) other.0);
        long = subst (λ (b : Bool). header_size (cond b One Two) ≤ length s) (sym other.0) (ltb-false (length s) 32 other.2);
      }
    ]

pub same_header : (e : ImageVersion) (a b c d f g h i j a' b' c' d' f' g' h' i' j' : ℕ) → a ≡ a' → b ≡ b' → c ≡ c' → d ≡ d' → f ≡ f' → g ≡ g' → h ≡ h' → i ≡ i' → j ≡ j'
    → ◌≡◌ {A = Header} (record { version = e; groups = a; types = b; keys = c; entries = d; cells = f; keysyms = g; names = h; indicators = i; group_names = j }) (record { version = e; groups = a'; types = b'; keys = c'; entries = d'; cells = f'; keysyms = g'; names = h'; indicators = i'; group_names = j' })
same_header e a b c d f g h i j a' b' c' d' f' g' h' i' j' p q r t u v w x y = cc

header_is : (s : List ℕ) → length s ≡ called_for s → (header_of s).groups ≡ greatest_groups (content_in s).keys → header_for (header_of s).version (content_in s) ≡ header_of s
header_is s end groups_are =
    let h = header_of s in
    let groups = group_count h s in
    same_header _ _ _ _ _ _ _ _ _ _ _ _ _ _ _ _ _ _ _
    (sym groups_are)
    (length-rows_at type_of 16 h.types (header_size h.version) s)
    (length-rows_at key_of 16 h.keys (keys_start h) s)
    (length-rows_at entry_of 4 h.entries (entries_start h) s)
    (length-rows_at cell_of 12 h.cells (cells_start h groups) s)
    (length-rows_at keysym_of 4 h.keysyms (keysyms_start h groups) s)
    (length-part s (names_start h groups) h.names (omega (arith, end)))
    (length-rows_at indicator_of 16 h.indicators (indicators_start h groups) s)
    (length-rows_at group_name_of 8 h.group_names (group_names_start h groups) s)

-- the last part of the bytes is all that is left
last_part : (s : List ℕ) (start n : ℕ) → length s ≡ start + n → drop start s ≡ part s start n
last_part s start n end = sym (take-append-drop n (drop start s)) ∙ ap (λ t. take n (drop start s) ++ t) (drop-drop n start s ∙ ap (λ k. drop k s) (sym end) ∙ drop-length s) ∙ append-nil (take n (drop start s))

body_is : (s : List ℕ) → length s ≡ called_for s → AreCanonical s → drop (header_size (header_of s).version) s ≡ body (content_in s)
body_is s end all =
    let h = header_of s in
    let groups = group_count h s in
    table_bytes type_bytes type_of 16 h.types (header_size h.version) s all.types.each
    ∙ ap (λ t. flat_map type_bytes (content_in s).types ++ t) (table_bytes entry_bytes entry_of 4 h.entries (entries_start h) s all.entries.each
    ∙ ap (λ t. flat_map entry_bytes (content_in s).entries ++ t) (table_bytes key_bytes key_of 16 h.keys (keys_start h) s all.keys.each
    ∙ ap (λ t. flat_map key_bytes (content_in s).keys ++ t) (table_bytes group_bytes group_of 8 groups (groups_start h) s all.groups.each
    ∙ ap (λ t. flat_map group_bytes (content_in s).groups ++ t) (table_bytes cell_bytes cell_of 12 h.cells (cells_start h groups) s all.cells.each
    ∙ ap (λ t. flat_map cell_bytes (content_in s).cells ++ t) (table_bytes keysym_bytes keysym_of 4 h.keysyms (keysyms_start h groups) s all.keysyms.each
    ∙ ap (λ t. flat_map keysym_bytes (content_in s).keysyms ++ t) (table_bytes indicator_bytes indicator_of 16 h.indicators (indicators_start h groups) s all.indicators.each
    ∙ ap (λ t. flat_map indicator_bytes (content_in s).indicators ++ t) (table_bytes group_name_bytes group_name_of 8 h.group_names (group_names_start h groups) s all.group_names.each
    ∙ ap (λ t. flat_map group_name_bytes (content_in s).group_names ++ t) (last_part s (names_start h groups) h.names end))))))))

expressible_in : (e : ImageVersion) (s : List ℕ) (a b : ℕ) (c : Content) → c.indicators ≡ rows_at indicator_of 16 (new_count_at e s 28) a s → c.group_names ≡ rows_at group_name_of 8 (new_count_at e s 30) b s → IsExpressible e c
expressible_in One s a b c p q = (p, q)
expressible_in Two s a b c p q = tt

pub image_found : (s : List ℕ) → AreBytes s → shape_fault s ≡ None → length s ≡ called_for s → AreCanonical s → (header_of s).groups ≡ greatest_groups (content_in s).keys → Sound (content_in s) → IsImage (content_in s) s
image_found s bytes whole end all groups_are sound =
    let front = front_whole s whole in
    let e = version_of (two_at s 4) in
    record {
      version = e;
      sound = sound;
      expressible = expressible_in e s (indicators_start (header_of s) (group_count (header_of s) s)) (group_names_start (header_of s) (group_count (header_of s) s)) (content_in s) refl refl;
      is = header_told e s bytes front.begins front.number front.long ∙ ap (λ t. header_bytes (header_of s) ++ t) (body_is s end all)
          ∙ ap (λ h. header_bytes h ++ body (content_in s)) (sym (header_is s end groups_are));
    }
