-- What holds of each built-in name, by computing.
use Rattle.std.proofs.Common.{◌≡◌, ℕ, ◌<◌, ◌≤◌, Bool, true, false, not, ◌&&◌, ◌||◌, nat_le, nat_lt, List, [], get_or, length, Option, None, Some, is_some, refl, sym, ap, subst, ◌∙◌}
use Rattle.std.proofs.lemmas.Bool.{and_parts, leb-true, ltb-true}
use Rattle.std.proofs.lemmas.List.Sums.{AllPass-from_list_all}
use Rattle.std.proofs.lemmas.Str.Ascii.{IsAscii-from_all}
use Rattle.std.specs.Char.{is_ascii}
use Rattle.std.specs.List.{list_all}
use Rattle.std.specs.Str.{IsAscii}
use Rattle.ks_core.specs.BuiltIn.{built_in, built_in_runs, numbered, entries_of_run}
use Rattle.ks_core.specs.Entry.{Entry, keysym_in, name_in}
use Rattle.ks_core.specs.Name.{is_word, is_hex, is_u_form, is_hex_form, is_decimal}
use Rattle.ks_core.specs.Names.{is_word_or_number, is_written_back}
use Rattle.ks_core.proofs.IndexLemmas.{is_keysym, is_keysym-true, keysym_in-entry, name_in-entry}

-- its name is of that keysym, has at most 64 bytes, is an identifier or a number, and of neither the U form nor the 0x form
abbrev is_valid : Entry → Bool
is_valid e = is_keysym (keysym_in built_in e.0) e.1 && (nat_le (length e.0) 64 && (is_word_or_number e.0 && not (is_u_form e.0 || is_hex_form e.0)))

all_valid : list_all is_valid built_in ≡ true
unfolding is_keysym built_in built_in_runs numbered entries_of_run is_word is_hex is_u_form is_hex_form is_decimal
all_valid = refl

pub built_in-named : (name : List ℕ) (keysym : ℕ) → name_in built_in keysym ≡ Some name → (keysym_in built_in name ≡ Some keysym) × (length name ≤ 64) × (is_word_or_number name ≡ true)
built_in-named name keysym found =
    let e = name_in-entry is_valid built_in name keysym all_valid found in
    let one = and_parts (is_keysym (keysym_in built_in e.0.0) e.0.1) _ e.1 in
    let two = and_parts (nat_le (length e.0.0) 64) _ one.1 in
    let three = and_parts (is_word_or_number e.0.0) _ two.1 in (
      ap (keysym_in built_in) (sym e.3) ∙ is_keysym-true (keysym_in built_in e.0.0) e.0.1 one.0 ∙ ap Some e.2,
      subst (λ n. length n ≤ 64) e.3 (leb-true (length e.0.0) 64 two.0),
      subst (λ n. is_word_or_number n ≡ true) e.3 three.0,
    )

-- an entry is found by its name
pub built_in-found : (k : ℕ) → k < length built_in → keysym_in built_in (get_or built_in k ([], 0)).0 ≡ Some (get_or built_in k ([], 0)).1
built_in-found k within =
    let e : Entry = get_or built_in k ([], 0) in
    let valid = AllPass-from_list_all is_valid built_in all_valid k ([], 0) within in
    is_keysym-true (keysym_in built_in e.0) e.1 (and_parts (is_keysym (keysym_in built_in e.0) e.1) _ valid).0

no-true : (b : Bool) → not b ≡ true → b ≡ true → ⊥
no-true true h k = cc
no-true false h k = cc

-- no built-in name is of the U form or the 0x form
pub built_in-free : (name : List ℕ) → (is_u_form name || is_hex_form name) ≡ true → keysym_in built_in name ≡ None
built_in-free name form = by (keysym_in built_in name) refl
  where
    by : (r : Option ℕ) → keysym_in built_in name ≡ r → keysym_in built_in name ≡ None
    by None none = none
    by (Some keysym) some =
        let e = keysym_in-entry is_valid built_in name keysym all_valid some in
        let one = and_parts (is_keysym (keysym_in built_in e.0.0) e.0.1) _ e.1 in
        let two = and_parts (nat_le (length e.0.0) 64) _ one.1 in
        let three = and_parts (is_word_or_number e.0.0) _ two.1 in
        absurd (no-true (is_u_form e.0.0 || is_hex_form e.0.0) three.1 (subst (λ n. (is_u_form n || is_hex_form n) ≡ true) (sym e.2) form))

-- the keysym 0 has a name
pub built_in-zero : is_some (name_in built_in 0) ≡ true
unfolding built_in built_in_runs numbered entries_of_run
built_in-zero = refl

all_written_back : list_all (λ e. is_written_back e.1) built_in ≡ true
unfolding built_in built_in_runs numbered entries_of_run
all_written_back = refl

-- the keysym of a built-in name is one whose name is read back
pub built_in-written_back : (name : List ℕ) (keysym : ℕ) → keysym_in built_in name ≡ Some keysym → is_written_back keysym ≡ true
built_in-written_back name keysym found =
    let e = keysym_in-entry (λ e. is_written_back e.1) built_in name keysym all_written_back found in subst (λ k. is_written_back k ≡ true) e.3 e.1

-- a built-in name is of 1 to 20 bytes, all ASCII
abbrev is_short_ascii : Entry → Bool
is_short_ascii e = nat_lt 0 (length e.0) && (nat_le (length e.0) 20 && list_all is_ascii e.0)

all_short_ascii : list_all is_short_ascii built_in ≡ true
unfolding built_in built_in_runs numbered entries_of_run
all_short_ascii = refl

pub record ShortAscii (name : List ℕ) : Type 0 where
  pub some : 0 < length name
  pub short : length name ≤ 20
  pub ascii : IsAscii name

pub built_in-short_ascii : (name : List ℕ) (keysym : ℕ) → keysym_in built_in name ≡ Some keysym → ShortAscii name
built_in-short_ascii name keysym found =
    let e = keysym_in-entry is_short_ascii built_in name keysym all_short_ascii found in
    let one = and_parts (nat_lt 0 (length e.0.0)) _ e.1 in
    let two = and_parts (nat_le (length e.0.0) 20) (list_all is_ascii e.0.0) one.1 in
    subst ShortAscii e.2 (record {
      some = ltb-true 0 (length e.0.0) one.0;
      short = leb-true (length e.0.0) 20 two.0;
      ascii = IsAscii-from_all e.0.0 (λ k d within. ltb-true (get_or e.0.0 k d) 128 (AllPass-from_list_all is_ascii e.0.0 two.1 k d within));
    })
