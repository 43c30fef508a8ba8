-- How printed keysyms are read.
use Rattle.std.proofs.Common.{◌≡◌, ℕ, ◌+◌, ◌-◌, ◌<◌, ◌≤◌, nat_le, nat_lt, Bool, true, false, cond, ◌==◌, ◌&&◌, ◌||◌, List, [], ◌∷◌, length, Option, None, Some, refl, sym, ap, ap₂, ◌∙◌, subst, arith, true≢false, eqb-true}
use Rattle.std.proofs.lemmas.Bool.{and_parts, leb-true, le-ltb}
use Rattle.std.proofs.lemmas.Bool.Decides.{nat_tests}
use Rattle.std.specs.Char.{is_ascii_digit, is_ascii_hexdigit}
use Rattle.std.specs.List.{list_all}
use Rattle.std.specs.Option.{option_or, unwrap_or}
use Rattle.std.specs.Str.Parse.{digits_value}
use Rattle.ks_core.specs.BuiltIn.{built_in, built_in_runs, numbered, entries_of_run}
use Rattle.ks_core.specs.Entry.{Entry, name_in}
use Rattle.ks_core.specs.Name.{is_word, is_hex, is_hex_form, is_decimal, is_between, is_word_start as starts_name, is_word_byte as in_name}
use Rattle.ks_core.specs.Names.{name_of_keysym, name_of_number, is_word_or_number, hex_digits, four_digits}
use Rattle.ks_core.proofs.BuiltInLemmas.{built_in-named}
use Rattle.ks_core.proofs.DigitsLemmas.{length-hex_digits}
use Rattle.ks_core.proofs.IndexLemmas.{name_in-entry}
use Rattle.ks_core.proofs.NamedLemmas.{name_of_number-lexical}
use Rattle.ks_core.proofs.NumberLemmas.{value-hex_digits, all_hex-hex_digits, all_hex-four_digits, some_digits}
use Rattle.kx_basics.specs.Keysyms.{IsKeysym}
use Rattle.kx_basics.specs.declared.limits.TheConstants.{GREATEST_KEYSYM}
use Rattle.kx_lex.specs.Bytes.{is_word_byte}
use Rattle.kx_lex.specs.Kinds.{number_value}
use Rattle.kx_print.specs.Printed.{keysym_text}
use Rattle.roundtrip_text.specs.Slices.{LexesBefore}
use Rattle.roundtrip_text.specs.KeyPhrases.{Worded, Numbered, keysym_slice}
use Rattle.roundtrip_text.proofs.Lexing.{digits_lex}
use Rattle.roundtrip_text.proofs.Phrases.{hex_lexes}
use Rattle.roundtrip_text.specs.Keys.{keysym_phrase}
use Rattle.roundtrip_text.proofs.Lines.{is_text_word, one_word}

-- ---- Words and numbers

in_word : (b : ℕ) → in_name b ≡ true → is_word_byte b ≡ true
in_word b h = by (nat_le 65 b && nat_le b 90) (nat_le 97 b && nat_le b 122) (b == 95) (is_ascii_digit b) h
  where
    by : (capital small bar digit : Bool) → (((capital || small) || bar) || digit) ≡ true → (((digit || capital) || small) || bar) ≡ true
    by true small bar true h = refl
    by true small bar false h = refl
    by false small bar true h = refl
    by false true bar false h = refl
    by false false bar false h = or_false bar h
      where
        or_false : (t : Bool) → (t || false) ≡ true → t ≡ true
        or_false true h = refl
        or_false false h = h

all_in_word : (w : List ℕ) → list_all in_name w ≡ true → list_all is_word_byte w ≡ true
all_in_word [] h = refl
all_in_word (x ∷ w) h = let both = and_parts (in_name x) (list_all in_name w) h in ap₂ (λ a b. a && b) (in_word x both.0) (all_in_word w both.1)

pub text_word : (w : List ℕ) → is_word w ≡ true → is_text_word w ≡ true
unfolding is_word
text_word [] h = cc
text_word (x ∷ w) h = let both = and_parts (starts_name x) (list_all in_name (x ∷ w)) h in ap₂ (λ a b. a && b) both.0 (all_in_word (x ∷ w) both.1)

-- digits alone
decimal_number : (w : List ℕ) → is_decimal w ≡ true → LexesBefore w (keysym_slice (Numbered w) ∷ [])
unfolding is_decimal
decimal_number [] h = cc
decimal_number (x ∷ w) h = digits_lex x w (and_parts (nat_le 1 (length (x ∷ w))) (list_all is_ascii_digit (x ∷ w)) h).1

-- 0x and digits
hex_number : (w : List ℕ) → is_hex_form w ≡ true → LexesBefore w (keysym_slice (Numbered w) ∷ [])
unfolding is_hex_form is_hex
hex_number [] h = cc
hex_number (a ∷ []) h = let both = and_parts ((a == 48) && false) false h in cc
hex_number (a ∷ b ∷ []) h = let both = and_parts ((a == 48) && (b == 120)) false h in cc
hex_number (a ∷ b ∷ x ∷ hs) h =
    let both = and_parts ((a == 48) && (b == 120)) (is_hex 8 (x ∷ hs)) h in
    let marks = and_parts (a == 48) (b == 120) both.0 in
    let all = (and_parts (nat_le 1 (length (x ∷ hs)) && nat_le (length (x ∷ hs)) 8) (list_all is_ascii_hexdigit (x ∷ hs)) both.1).1 in
    subst (λ w. LexesBefore w (keysym_slice (Numbered w) ∷ [])) (ap₂ (λ p q. p ∷ q ∷ x ∷ hs) (sym (eqb-true a 48 marks.0)) (sym (eqb-true b 120 marks.1))) (hex_lexes x hs all)

-- ---- Their text

-- a built-in name, or that of the number
pub by_name : (P : List ℕ → Type 0) → (keysym : ℕ) → ((name : List ℕ) → name_in built_in keysym ≡ Some name → P name) → (name_in built_in keysym ≡ None → P (name_of_number keysym)) → P (keysym_text keysym)
unfolding name_of_keysym
by_name P keysym named numbered = by (name_in built_in keysym) refl
  where
    by : (name : Option (List ℕ)) → name_in built_in keysym ≡ name → P (keysym_text keysym)
    by None e = subst P (sym (ap (λ o. unwrap_or (option_or o None) (name_of_number keysym)) e)) (numbered e)
    by (Some name) e = subst P (sym (ap (λ o. unwrap_or (option_or o None) (name_of_number keysym)) e)) (named name e)

lexical : (keysym : ℕ) → IsKeysym keysym → is_word_or_number (keysym_text keysym) ≡ true
lexical keysym h =
    by_name (λ w. is_word_or_number w ≡ true) keysym (λ name found. (built_in-named name keysym found).2) (λ none. name_of_number-lexical keysym (let low = h.least in omega (arith, low)) (let high = h.most in omega (arith, high)))

pub keysym_lexes : (keysym : ℕ) → IsKeysym keysym → LexesBefore (keysym_text keysym) (keysym_slice (keysym_phrase keysym) ∷ [])
keysym_lexes keysym h = by (is_word (keysym_text keysym)) refl (is_decimal (keysym_text keysym)) refl (is_hex_form (keysym_text keysym)) refl (lexical keysym h)
  where
    by : (w : Bool) → is_word (keysym_text keysym) ≡ w → (d : Bool) → is_decimal (keysym_text keysym) ≡ d → (x : Bool) → is_hex_form (keysym_text keysym) ≡ x → (w || d || x) ≡ true
        → LexesBefore (keysym_text keysym) (keysym_slice (cond w (Worded (keysym_text keysym)) (Numbered (keysym_text keysym))) ∷ [])
    by true w d d_is x x_is any = one_word (keysym_text keysym) (text_word (keysym_text keysym) w)
    by false w true d_is x x_is any = decimal_number (keysym_text keysym) d_is
    by false w false d_is true x_is any = hex_number (keysym_text keysym) x_is
    by false w false d_is false x_is any = cc

-- ---- What a number stands for

-- a number of one digit stands for that digit's keysym
pub record NumberStandsFor (keysym value : ℕ) : Type 0 where
  pub most : value ≤ GREATEST_KEYSYM
  pub means : cond (nat_lt value 10) (48 + value) value ≡ keysym

abbrev is_counted : Entry → Bool
is_counted e = is_word e.0 || (nat_le (number_value e.0) GREATEST_KEYSYM && (cond (nat_lt (number_value e.0) 10) (48 + number_value e.0) (number_value e.0) == e.1))

all_counted : list_all is_counted built_in ≡ true
unfolding built_in built_in_runs numbered entries_of_run is_word number_value
all_counted = refl

counted : (name : List ℕ) (keysym : ℕ) → name_in built_in keysym ≡ Some name → is_word name ≡ false → NumberStandsFor keysym (number_value name)
counted name keysym found no_word =
    let e = name_in-entry is_counted built_in name keysym all_counted found in
    subst (λ n. NumberStandsFor keysym (number_value n)) e.3 (subst (λ k. NumberStandsFor k (number_value e.0.0)) e.2 (by (is_word e.0.0) (ap is_word e.3 ∙ no_word) e.1))
  where
    by : {n k : ℕ} → (w : Bool) → w ≡ false → (w || (nat_le n GREATEST_KEYSYM && (cond (nat_lt n 10) (48 + n) n == k))) ≡ true → NumberStandsFor k n
    by true none h = cc
    by {n} {k} false none h =
        let both = and_parts (nat_le n GREATEST_KEYSYM) (cond (nat_lt n 10) (48 + n) n == k) h in
        record { most = leb-true n GREATEST_KEYSYM both.0; means = eqb-true (cond (nat_lt n 10) (48 + n) n) k both.1 }

hex_byte : (b : ℕ) → is_ascii_hexdigit b ≡ true → in_name b ≡ true
hex_byte b h = grind (arith, nat_tests)

hex_bytes : (ds : List ℕ) → list_all is_ascii_hexdigit ds ≡ true → list_all in_name ds ≡ true
hex_bytes [] h = refl
hex_bytes (d ∷ ds) h = let both = and_parts (is_ascii_hexdigit d) (list_all is_ascii_hexdigit ds) h in ap₂ (λ a b. a && b) (hex_byte d both.0) (hex_bytes ds both.1)

-- the value of 0x and digits
hex_value : (ds : List ℕ) → 0 < length ds → list_all is_ascii_hexdigit ds ≡ true → number_value (48 ∷ 120 ∷ ds) ≡ digits_value 16 ds
unfolding number_value
hex_value [] some all = absurd (omega (arith, some))
hex_value (d ∷ ds) some all = ap (λ t. cond t (digits_value 16 (d ∷ ds)) (digits_value 10 (48 ∷ 120 ∷ d ∷ ds))) (and_parts (is_ascii_hexdigit d) (list_all is_ascii_hexdigit ds) all).0

of_number : (keysym : ℕ) → IsKeysym keysym → is_word (name_of_number keysym) ≡ false → NumberStandsFor keysym (number_value (name_of_number keysym))
unfolding name_of_number is_word
of_number keysym h no_word = by (is_between 0x1000100 0x110ffff keysym) no_word
  where
    by : (t : Bool) → is_word (cond t (85 ∷ four_digits (hex_digits true (keysym - 0x1000000))) (48 ∷ 120 ∷ hex_digits false keysym)) ≡ false
        → NumberStandsFor keysym (number_value (cond t (85 ∷ four_digits (hex_digits true (keysym - 0x1000000))) (48 ∷ 120 ∷ hex_digits false keysym)))
    by true none = absurd (true≢false (sym (hex_bytes (four_digits (hex_digits true (keysym - 0x1000000))) (all_hex-four_digits (keysym - 0x1000000))) ∙ none))
    by false none =
        let low : 10 ≤ keysym = h.least in
        let some : 0 < length (hex_digits false keysym) = omega (arith, low, some_digits keysym (omega (arith, low)), length-hex_digits false keysym) in
        let is : number_value (48 ∷ 120 ∷ hex_digits false keysym) ≡ keysym = hex_value (hex_digits false keysym) some (all_hex-hex_digits false keysym) ∙ value-hex_digits false keysym in
        subst (NumberStandsFor keysym) (sym is) (record { most = h.most; means = ap (λ t. cond t (48 + keysym) keysym) (le-ltb keysym 10 low) })

pub number_stands_for : (keysym : ℕ) → IsKeysym keysym → is_word (keysym_text keysym) ≡ false → NumberStandsFor keysym (number_value (keysym_text keysym))
number_stands_for keysym h = by_name (λ w. is_word w ≡ false → NumberStandsFor keysym (number_value w)) keysym (counted_in keysym) (λ none. of_number keysym h)
  where
    counted_in : (keysym : ℕ) (name : List ℕ) → name_in built_in keysym ≡ Some name → is_word name ≡ false → NumberStandsFor keysym (number_value name)
    counted_in keysym name found = counted name keysym found
