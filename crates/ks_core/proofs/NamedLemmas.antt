-- A name that is written is read back.
use Rattle.std.proofs.Common.{◌≡◌, ℕ, zero, suc, ◌+◌, ◌-◌, ◌<◌, ◌≤◌, ◌^◌, Bool, true, false, not, ◌&&◌, ◌||◌, ◌==◌, cond, nat_le, List, [], ◌∷◌, length, slice_index, drop, Option, None, Some, is_some, IfSome, refl, sym, ap, ap₂, subst, ◌∙◌, arith, true≢false, eqb-true}
use Rattle.std.proofs.lemmas.Bool.{and_parts, leb-true, le-leb}
use Rattle.std.proofs.lemmas.Bool.Decides.{nat_tests}
use Rattle.std.specs.Borrow.{Bor}
use Rattle.std.specs.Char.{is_ascii_hexdigit}
use Rattle.std.specs.List.{list_all}
use Rattle.std.specs.Option.{option_map, option_or}
use Rattle.std.specs.Str.Parse.{digits_value}
use Rattle.ks_core.specs.BuiltIn.{built_in}
use Rattle.ks_core.specs.Entry.{Entry, keysym_in, name_in}
use Rattle.ks_core.specs.Lines.{is_sound, is_given_name}
use Rattle.ks_core.specs.Table.{KeysymTable}
use Rattle.ks_core.specs.Name.{is_word, is_word_start, is_word_byte, is_hex, is_u_form, is_hex_form, is_decimal, is_between, keysym_of_character, u_keysym, hex_keysym}
use Rattle.kx_basics.specs.Keysyms.{is_keysym}
use Rattle.ks_core.specs.Names.{keysym_named, hex_digits, four_digits, name_of_number, is_word_or_number, is_written_back}
use Rattle.ks_core.proofs.BuiltInLemmas.{built_in-free, built_in-zero}
use Rattle.ks_core.proofs.IndexLemmas.{keysym_in-entry, name_in-entry}
use Rattle.ks_core.proofs.NumberLemmas.{value-hex_digits, all_hex-hex_digits, digits_most, some_digits, value-four_digits, all_hex-four_digits, length-four_digits}
use Rattle.ks_core.proofs.DigitsLemmas.{length-hex_digits}

-- a name that lines gave is sound
pub sound-named : (given : List Entry) (keysym : ℕ) (r : Option (Bor (List ℕ))) → list_all is_sound given ≡ true → option_map (λ (n : Bor (List ℕ)). n.now) r ≡ name_in given keysym → IfSome r (λ n. is_sound (n.now, keysym) ≡ true)
sound-named given keysym None sound h = tt
sound-named given keysym (Some n) sound h =
    let e = name_in-entry is_sound given n.now keysym sound (sym h) in ap₂ (λ (a : List ℕ) (b : ℕ). is_sound (a, b)) (sym e.3) (sym e.2) ∙ e.1

-- the parts of that
pub record Sound (name : List ℕ) : Type 0 where
  pub word : is_word name ≡ true
  pub short : length name ≤ 63
  pub no_u_form : not (is_u_form name) ≡ true
  pub not_built_in : keysym_in built_in name ≡ None

not-some : {X : Type 0} (o : Option X) → not (is_some o) ≡ true → o ≡ None
not-some None h = refl
not-some (Some x) h = cc

pub sound-parts : (e : Entry) → is_sound e ≡ true → Sound e.0
unfolding is_sound is_given_name
sound-parts e h =
    let all = and_parts (is_given_name e.0 && is_keysym e.1) (not (is_some (keysym_in built_in e.0))) h in
    let name = (and_parts (is_given_name e.0) (is_keysym e.1) all.0).0 in
    let shape = and_parts (is_word e.0 && nat_le (length e.0) 63) (not (is_u_form e.0)) name in
    let word = and_parts (is_word e.0) (nat_le (length e.0) 63) shape.0 in
    record { word = word.0; short = leb-true (length e.0) 63 word.1; no_u_form = shape.1; not_built_in = not-some (keysym_in built_in e.0) all.1 }

-- no word begins with a digit
no_word : (name : List ℕ) → is_word name ≡ true → is_hex_form name ≡ true → ⊥
unfolding is_word is_hex_form
no_word name word form =
    let start = (and_parts (is_word_start (slice_index name 0)) (list_all is_word_byte name) word).0 in
    let zeroth = (and_parts (slice_index name 0 == 48) (slice_index name 1 == 120) (and_parts ((slice_index name 0 == 48) && (slice_index name 1 == 120)) (is_hex 8 (drop 2 name)) form).0).0 in
    true≢false (sym start ∙ ap is_word_start (eqb-true (slice_index name 0) 48 zeroth))

no-true : (b : Bool) → not b ≡ true → b ≡ true → ⊥
no-true true h k = cc
no-true false h k = cc

-- a name that stands for a number is none that lines gave
given-free : (given : List Entry) (name : List ℕ) → list_all is_sound given ≡ true → (is_u_form name || is_hex_form name) ≡ true → keysym_in given name ≡ None
given-free given name sound either = by (keysym_in given name) refl
  where
    clash : (u h : Bool) → is_u_form name ≡ u → is_hex_form name ≡ h → (u || h) ≡ true → Sound name → ⊥
    clash true h u_is h_is some e = no-true (is_u_form name) e.no_u_form u_is
    clash false true u_is h_is some e = no_word name e.word h_is
    clash false false u_is h_is some e = true≢false (sym some)

    by : (r : Option ℕ) → keysym_in given name ≡ r → keysym_in given name ≡ None
    by None none = none
    by (Some keysym) some =
        let e = keysym_in-entry is_sound given name keysym sound some in
        absurd (clash (is_u_form name) (is_hex_form name) refl refl either (subst Sound e.2 (sound-parts e.0 e.1)))

-- ---- names of numbers
is_hex-from : (most : ℕ) (ds : List ℕ) → 0 < length ds → length ds ≤ most → list_all is_ascii_hexdigit ds ≡ true → is_hex most ds ≡ true
unfolding is_hex
is_hex-from most ds some few all =
    ap (λ b. b && nat_le (length ds) most && list_all is_ascii_hexdigit ds) (le-leb 1 (length ds) some) ∙ ap (λ b. b && list_all is_ascii_hexdigit ds) (le-leb (length ds) most few) ∙ all

between : (first last n : ℕ) → is_between first last n ≡ true → (first ≤ n) × (n ≤ last)
between first last n h = let parts = and_parts (nat_le first n) (nat_le n last) h in (leb-true first n parts.0, leb-true n last parts.1)

-- of a character above Latin-1
module _ (c : ℕ) (low : 0x100 ≤ c) (high : c ≤ 0x10ffff) where
  u_name : List ℕ
  u_name = 85 ∷ four_digits (hex_digits true c)

  u_name-is_u_form : is_u_form u_name ≡ true
  unfolding is_u_form u_name
  u_name-is_u_form =
      let most = digits_most 6 c (omega arith) in
      let len = length-four_digits c in
      is_hex-from 6 (four_digits (hex_digits true c)) (omega (arith, len)) (omega (arith, len, most)) (all_hex-four_digits c)

  character : keysym_of_character c ≡ Some (0x1000000 + c)
  character = grind (arith, nat_tests)

  u_name-keysym : u_keysym u_name ≡ Some (0x1000000 + c)
  unfolding u_keysym u_name
  u_name-keysym = ap (λ b. cond b (keysym_of_character (digits_value 16 (four_digits (hex_digits true c)))) None) u_name-is_u_form ∙ ap keysym_of_character (value-four_digits c) ∙ character

-- of another keysym
module _ (k : ℕ) (some : 0 < k) (small : k < 2 ^ 32) where
  x_name : List ℕ
  x_name = 48 ∷ 120 ∷ hex_digits false k

  x_name-is_hex_form : is_hex_form x_name ≡ true
  unfolding is_hex_form x_name
  x_name-is_hex_form =
      let most = digits_most 8 k (omega arith) in
      let least = some_digits k some in
      let len = length-hex_digits false k in
      is_hex-from 8 (hex_digits false k) (omega (arith, len, least)) (omega (arith, len, most)) (all_hex-hex_digits false k)

  x_name-no_u_form : is_u_form x_name ≡ false
  unfolding is_u_form x_name
  x_name-no_u_form = refl

  x_name-no_u_keysym : u_keysym x_name ≡ None
  unfolding u_keysym
  x_name-no_u_keysym = ap (λ b. cond b (keysym_of_character (digits_value 16 (drop 1 x_name))) None) x_name-no_u_form

  x_name-keysym : is_keysym k ≡ true → hex_keysym x_name ≡ Some k
  unfolding hex_keysym x_name
  x_name-keysym nameable =
      ap (λ b. cond (b && is_keysym (digits_value 16 (hex_digits false k))) (Some (digits_value 16 (hex_digits false k))) None) x_name-is_hex_form
      ∙ ap (λ n. cond (is_keysym n) (Some n) None) (value-hex_digits false k) ∙ ap (λ b. cond b (Some k) None) nameable

-- neither built in nor given
named-free : (given : KeysymTable) (name : List ℕ) → list_all is_sound given.names ≡ true → (is_u_form name || is_hex_form name) ≡ true → keysym_named given name ≡ option_or (u_keysym name) (hex_keysym name)
unfolding keysym_named
named-free given name sound form =
    ap (λ o. option_or o (option_or (keysym_in given.names name) (option_or (u_keysym name) (hex_keysym name)))) (built_in-free name form)
    ∙ ap (λ o. option_or o (option_or (u_keysym name) (hex_keysym name))) (given-free given.names name sound form)

some-digits : (k : ℕ) → name_in built_in k ≡ None → 0 < k
some-digits zero none = absurd (true≢false (sym built_in-zero ∙ ap is_some none))
some-digits (suc k) none = omega arith

or_false : (a b : Bool) → (a || b) ≡ true → a ≡ false → b ≡ true
or_false true b h free = cc
or_false false b h free = h

-- a keysym without a built-in name has the name of its number
pub name_of_number-named : (given : KeysymTable) (k : ℕ) → list_all is_sound given.names ≡ true → name_in built_in k ≡ None → k < 2 ^ 32 → is_written_back k ≡ true → keysym_named given (name_of_number k) ≡ Some k
unfolding name_of_number u_name x_name
name_of_number-named given k sound none small back = by (is_between 0x1000100 0x110ffff k) refl
  where
    by : (b : Bool) → is_between 0x1000100 0x110ffff k ≡ b → keysym_named given (cond b (85 ∷ four_digits (hex_digits true (k - 0x1000000))) (48 ∷ 120 ∷ hex_digits false k)) ≡ Some k
    by true in_range =
        let at = between 0x1000100 0x110ffff k in_range in
        let c = k - 0x1000000 in
        let low : 0x100 ≤ c = omega (arith, at.0) in
        let high : c ≤ 0x10ffff = omega (arith, at.1) in
        let whole : 0x1000000 + c ≡ k = omega (arith, at.0) in
        let form = u_name-is_u_form c low high in
        named-free given (u_name c low high) sound (ap (λ b. b || is_hex_form (u_name c low high)) form)
        ∙ ap (λ o. option_or o (hex_keysym (u_name c low high))) (u_name-keysym c low high) ∙ ap Some whole
    by false out =
        let some = some-digits k none in
        let nonzero : (k == 0) ≡ false = grind (arith, nat_tests) in
        let nameable = or_false (k == 0) (is_keysym k) back nonzero in
        let form = x_name-is_hex_form k some small in
        named-free given (x_name k some small) sound (ap (λ b. b || is_hex_form (x_name k some small)) (x_name-no_u_form k some small) ∙ form)
        ∙ ap (λ o. option_or o (hex_keysym (x_name k some small))) (x_name-no_u_keysym k some small) ∙ x_name-keysym k some small nameable

first-none : {X : Type 0} (a b : Option X) → None ≡ option_or a b → a ≡ None
first-none None b h = refl
first-none (Some x) b h = cc

-- ---- what a name is made of
hex_word : (c : ℕ) → is_ascii_hexdigit c ≡ true → is_word_byte c ≡ true
hex_word c h = grind (arith, nat_tests)

hex_words : (ds : List ℕ) → list_all is_ascii_hexdigit ds ≡ true → list_all is_word_byte ds ≡ true
hex_words [] h = refl
hex_words (d ∷ ds) h =
    let parts = and_parts (is_ascii_hexdigit d) (list_all is_ascii_hexdigit ds) h in ap (λ b. b && list_all is_word_byte ds) (hex_word d parts.0) ∙ hex_words ds parts.1

word_or : (a b c : Bool) → a ≡ true → (a || b || c) ≡ true
word_or a b c h = ap (λ x. x || b || c) h

hex_or : (a b c : Bool) → c ≡ true → (a || b || c) ≡ true
hex_or true b c h = refl
hex_or false true c h = refl
hex_or false false c h = h

pub is_word_or_number-word : (name : List ℕ) → is_word name ≡ true → is_word_or_number name ≡ true
is_word_or_number-word name h = word_or (is_word name) (is_decimal name) (is_hex_form name) h

pub name_of_number-lexical : (k : ℕ) → 0 < k → k < 2 ^ 32 → is_word_or_number (name_of_number k) ≡ true
unfolding name_of_number is_word x_name
name_of_number-lexical k some small = by (is_between 0x1000100 0x110ffff k)
  where
    by : (b : Bool) → is_word_or_number (cond b (85 ∷ four_digits (hex_digits true (k - 0x1000000))) (48 ∷ 120 ∷ hex_digits false k)) ≡ true
    by true =
        let name = 85 ∷ four_digits (hex_digits true (k - 0x1000000)) in
        word_or (is_word name) (is_decimal name) (is_hex_form name) (hex_words (four_digits (hex_digits true (k - 0x1000000))) (all_hex-four_digits (k - 0x1000000)))
    by false =
        let name = 48 ∷ 120 ∷ hex_digits false k in hex_or (is_word name) (is_decimal name) (is_hex_form name) (x_name-is_hex_form k some small)

pub keysym_named-built_in : (given : KeysymTable) (name : List ℕ) (keysym : ℕ) → keysym_in built_in name ≡ Some keysym → keysym_named given name ≡ Some keysym
unfolding keysym_named
keysym_named-built_in given name keysym h = ap (λ o. option_or o (option_or (keysym_in given.names name) (option_or (u_keysym name) (hex_keysym name)))) h

pub keysym_named-given : (given : KeysymTable) (name : List ℕ) (keysym : ℕ) → keysym_in built_in name ≡ None → keysym_in given.names name ≡ Some keysym → keysym_named given name ≡ Some keysym
unfolding keysym_named
keysym_named-given given name keysym none h =
    ap (λ o. option_or o (option_or (keysym_in given.names name) (option_or (u_keysym name) (hex_keysym name)))) none ∙ ap (λ o. option_or o (option_or (u_keysym name) (hex_keysym name))) h

pub IfSome-map : {X : Type 0} (o : Option X) (P Q : X → Type 0) → ((x : X) → P x → Q x) → IfSome o P → IfSome o Q
IfSome-map None P Q f p = tt
IfSome-map (Some x) P Q f p = f x p

pub IfSome-both : {X : Type 0} (o : Option X) (P Q R : X → Type 0) → ((x : X) → P x → Q x → R x) → IfSome o P → IfSome o Q → IfSome o R
IfSome-both None P Q R f p q = tt
IfSome-both (Some x) P Q R f p q = f x p q

pub no_name-positive : (k : ℕ) (given : List Entry) → None ≡ option_or (name_in built_in k) (name_in given k) → (name_in built_in k ≡ None) × (0 < k)
no_name-positive k given h = let none = first-none (name_in built_in k) (name_in given k) h in (none, some-digits k none)

or_second : (a b : Bool) → b ≡ true → (a || b) ≡ true
or_second true b h = refl
or_second false b h = h

-- so is the keysym of a name that lines gave
pub sound-written_back : (given : List Entry) (name : List ℕ) (r : Option ℕ) → list_all is_sound given ≡ true → r ≡ keysym_in given name → IfSome r (λ keysym. is_written_back keysym ≡ true)
unfolding is_sound
sound-written_back given name None sound h = tt
sound-written_back given name (Some keysym) sound h =
    let e = keysym_in-entry is_sound given name keysym sound (sym h) in
    let valid = and_parts (is_given_name e.0.0 && is_keysym e.0.1) (not (is_some (keysym_in built_in e.0.0))) e.1 in
    let nameable = (and_parts (is_given_name e.0.0) (is_keysym e.0.1) valid.0).1 in
    subst (λ k. is_written_back k ≡ true) e.3 (or_second (e.0.1 == 0) (is_keysym e.0.1) nameable)
