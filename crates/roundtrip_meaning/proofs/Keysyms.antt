-- Printed keysyms are read back.
use Rattle.std.proofs.Common.{◌≡◌, ℕ, ◌-◌, ◌≤◌, Bool, true, false, not, cond, ◌==◌, ◌&&◌, ◌||◌, get_or, slice_index, List, [], ◌∷◌, ◌++◌, map, None, Some, refl, sym, ap, ap₂, ◌∙◌, subst, arith, eqb-true}
use Rattle.std.proofs.lemmas.Bool.{and_parts, ltb-true, ne_eqb, le-leb, not-true}
use Rattle.std.proofs.lemmas.Bool.Decides.{nat_tests}
use Rattle.std.proofs.lemmas.List.Sums.{AllPass-from_list_all}
use Rattle.std.proofs.lemmas.Str.Ascii.{IsAscii-from_all}
use Rattle.std.specs.Char.{is_ascii}
use Rattle.std.specs.List.{list_all, flat_map}
use Rattle.std.specs.Option.{option_and_then, option_to_list}
use Rattle.std.specs.Str.{is_utf8}
use Rattle.ks_core.specs.BuiltIn.{built_in, built_in_runs, numbered, entries_of_run}
use Rattle.ks_core.specs.Entry.{Entry, name_in}
use Rattle.ks_core.specs.Table.{KeysymTable}
use Rattle.ks_core.specs.Lines.{is_sound}
use Rattle.ks_core.specs.Name.{is_word, is_word_start, is_word_byte, is_between}
use Rattle.ks_core.specs.Names.{keysym_named, name_of_number, is_written_back, hex_digits, four_digits}
use Rattle.ks_core.proofs.BuiltInLemmas.{built_in-named}
use Rattle.ks_core.proofs.IndexLemmas.{name_in-entry}
use Rattle.ks_core.proofs.NamedLemmas.{name_of_number-named, keysym_named-built_in}
use Rattle.ks_core.proofs.TextLemmas.{ascii_is_utf8}
use Rattle.kx_basics.specs.Keysyms.{IsKeysym}
use Rattle.kx_basics.specs.declared.limits.TheConstants.{GREATEST_KEYSYM, LEAST_KEYSYM}
use Rattle.kx_tree.specs.declared.tree.BracePart.{BracePart}
use Rattle.kx_tree.specs.declared.tree.Element.{Element}
use Rattle.kx_tree.specs.declared.tree.Symbol.{Symbol}
use Rattle.kx_print.specs.Printed.{keysym_text}
use Rattle.kx_symbols.specs.Keysyms.{Level, is_no_symbol, is_void_symbol, word_keysym, symbol_keysym, part_keysyms, given, element_level}
use Rattle.roundtrip_text.specs.Source.{EachOf, CellFits}
use Rattle.roundtrip_text.specs.KeyPhrases.{Worded, Numbered}
use Rattle.roundtrip_text.specs.Keys.{keysym_phrase, level_phrases}
use Rattle.roundtrip_text.proofs.Keysyms.{by_name, number_stands_for}
use Rattle.kx_builder.specs.Resolved.{ResolvedCell}
use Rattle.roundtrip_tree.specs.Keys.{IsKeysymOf, IsPartOf, IsLevelOf}
use Rattle.roundtrip_tree.specs.Shows.{AreShown, none, more}

-- ---- Words

word_byte_ascii : (b : ℕ) → is_word_byte b ≡ true → is_ascii b ≡ true
word_byte_ascii b h = grind (arith, nat_tests)

bytes_ascii : (w : List ℕ) → list_all is_word_byte w ≡ true → list_all is_ascii w ≡ true
bytes_ascii [] h = refl
bytes_ascii (b ∷ w) h = let both = and_parts (is_word_byte b) (list_all is_word_byte w) h in ap₂ (λ a b. a && b) (word_byte_ascii b both.0) (bytes_ascii w both.1)

word_utf8 : (w : List ℕ) → is_word w ≡ true → is_utf8 w ≡ true
unfolding is_word
word_utf8 w h =
    let all = bytes_ascii w (and_parts (is_word_start (slice_index w 0)) (list_all is_word_byte w) h).1 in
    ascii_is_utf8 w (IsAscii-from_all w (λ k d within. ltb-true (get_or w k d) 128 (AllPass-from_list_all is_ascii w all k d within)))

-- a name whose word is read otherwise is that of no keysym of a level, or VoidSymbol
abbrev is_read : Entry → Bool
is_read e = (e.1 == 0) || (not (is_no_symbol e.0) && (not (is_void_symbol e.0) || (e.1 == 16777215)))

all_read : list_all is_read built_in ≡ true
unfolding built_in built_in_runs numbered entries_of_run
all_read = refl

-- what a word stands for is what it names
record IsName (keysym : ℕ) (word : List ℕ) : Type 0 where
  some_symbol : is_no_symbol word ≡ false
  void : is_void_symbol word ≡ true → keysym ≡ 16777215

of_built_in : (name : List ℕ) (keysym : ℕ) → 10 ≤ keysym → name_in built_in keysym ≡ Some name → IsName keysym name
of_built_in name keysym least found =
    let e = name_in-entry is_read built_in name keysym all_read found in
    subst (IsName keysym) e.3 (subst (λ k. IsName k e.0.0) e.2 (by (e.0.1 == 0) refl (let same = e.2 in omega (arith, least, same)) e.1))
  where
    by : {k : ℕ} {n : List ℕ} → (t : Bool) → (k == 0) ≡ t → 10 ≤ k → (t || (not (is_no_symbol n) && (not (is_void_symbol n) || (k == 16777215)))) ≡ true → IsName k n
    by {k} true z least h = let zero_is : k ≡ 0 = eqb-true k 0 z in absurd (omega (arith, least, zero_is))
    by {k} {n} false z least h =
        let both = and_parts (not (is_no_symbol n)) (not (is_void_symbol n) || (k == 16777215)) h in
        record { some_symbol = not-true (is_no_symbol n) both.0; void = λ v. eqb-true k 16777215 (or_second (is_void_symbol n) v both.1) }
      where
        or_second : (v : Bool) → v ≡ true → (not v || (k == 16777215)) ≡ true → (k == 16777215) ≡ true
        or_second true e h = h
        or_second false e h = cc

-- a name of the U form is none of those words
of_number : (keysym : ℕ) → is_word (name_of_number keysym) ≡ true → IsName keysym (name_of_number keysym)
unfolding name_of_number is_word
of_number keysym word = by (is_between 0x1000100 0x110ffff keysym) word
  where
    by : (t : Bool) → is_word (cond t (85 ∷ four_digits (hex_digits true (keysym - 0x1000000))) (48 ∷ 120 ∷ hex_digits false keysym)) ≡ true
        → IsName keysym (cond t (85 ∷ four_digits (hex_digits true (keysym - 0x1000000))) (48 ∷ 120 ∷ hex_digits false keysym))
    by true h = record { some_symbol = refl; void = λ v. cc }
    by false h = cc

is_name : (keysym : ℕ) → IsKeysym keysym → is_word (keysym_text keysym) ≡ true → IsName keysym (keysym_text keysym)
is_name keysym h = by_name (λ w. is_word w ≡ true → IsName keysym w) keysym (λ name found word. of_built_in name keysym h.least found) (λ none word. of_number keysym word)

-- ---- What they stand for

module _ (names : KeysymTable) (table : list_all is_sound names.names ≡ true) where
  named_back : (keysym : ℕ) → IsKeysym keysym → keysym_named names (keysym_text keysym) ≡ Some keysym
  named_back keysym h = by_name (λ w. keysym_named names w ≡ Some keysym) keysym (λ name found. keysym_named-built_in names name keysym (built_in-named name keysym found).0)
      (λ none. name_of_number-named names keysym table none (let most = h.most in omega (arith, most)) written)
    where
      written : is_written_back keysym ≡ true
      written = ap₂ (λ a b. a || b) (ne_eqb keysym 0 (λ z. let least = h.least in omega (arith, least, z))) (ap₂ (λ a b. a && b) (le-leb LEAST_KEYSYM keysym h.least) (le-leb keysym GREATEST_KEYSYM h.most))

  word_back : (keysym : ℕ) → IsKeysym keysym → is_word (keysym_text keysym) ≡ true → word_keysym names (keysym_text keysym) ≡ Some keysym
  word_back keysym h word = by (is_no_symbol (keysym_text keysym)) n.some_symbol (is_void_symbol (keysym_text keysym)) refl
    where
      n : IsName keysym (keysym_text keysym)
      n = is_name keysym h word

      some : (keysym == 0) ≡ false
      some = ne_eqb keysym 0 (λ z. let least = h.least in omega (arith, least, z))

      by : (no : Bool) → no ≡ false → (void : Bool) → is_void_symbol (keysym_text keysym) ≡ void
          → cond no None (cond void (Some 16777215) (option_and_then (λ k. cond (k == 0) None (Some k)) (cond (is_utf8 (keysym_text keysym)) (keysym_named names (keysym_text keysym)) None))) ≡ Some keysym
      by true e void is = cc
      by false e true is = ap Some (sym (n.void is))
      by false e false is =
          ap (λ t. option_and_then (λ k. cond (k == 0) None (Some k)) (cond t (keysym_named names (keysym_text keysym)) None)) (word_utf8 (keysym_text keysym) word)
          ∙ ap (λ o. option_and_then (λ k. cond (k == 0) None (Some k)) o) (named_back keysym h) ∙ ap (λ t. cond t None (Some keysym)) some

  -- what a printed keysym's symbol stands for
  pub keysym_back : (keysym : ℕ) → IsKeysym keysym → (s : Symbol) → IsKeysymOf (keysym_phrase keysym) s → symbol_keysym names s ≡ Some keysym
  keysym_back keysym h s = by (is_word (keysym_text keysym)) refl
    where
      by : (w : Bool) → is_word (keysym_text keysym) ≡ w → IsKeysymOf (cond w (Worded (keysym_text keysym)) (Numbered (keysym_text keysym))) s → symbol_keysym names s ≡ Some keysym
      by true word is = ap (symbol_keysym names) is.1 ∙ word_back keysym h word
      by false number is = ap (symbol_keysym names) is.1 ∙ ap Some (number_stands_for keysym h number).means

  parts_back : (keysyms : List ℕ) → EachOf IsKeysym keysyms → (ps : List BracePart) → AreShown IsPartOf (map keysym_phrase keysyms) ps → flat_map (part_keysyms names) ps ≡ keysyms
  parts_back [] all [] none = refl
  parts_back [] all (p ∷ ps) are = elim are [ ]
  parts_back (k ∷ ks) all [] are = elim are [ ]
  parts_back (k ∷ ks) all (p ∷ ps) (more one are) =
      ap₂ (λ (a : List ℕ) b. a ++ b) (ap (part_keysyms names) one.1 ∙ ap option_to_list (keysym_back k all.0 one.0 one.2)) (parts_back ks all.1 ps are)

  pub level_back : (keysyms : List ℕ) → EachOf IsKeysym keysyms → (e : Element) → IsLevelOf (map keysym_phrase keysyms) e → element_level names e ≡ given keysyms
  level_back [] all e is = ap (element_level names) is.1
  level_back (k ∷ []) all e is = ap (element_level names) is.1 ∙ ap (λ o. given (option_to_list o)) (keysym_back k all.0 is.0 is.2)
  level_back (k ∷ l ∷ ks) all e is = ap (element_level names) is.1 ∙ ap given (parts_back (k ∷ l ∷ ks) all is.0.parts is.2)

  pub levels_back : (cells : List ResolvedCell) → EachOf CellFits cells → (es : List Element) → AreShown IsLevelOf (map level_phrases cells) es → map (element_level names) es ≡ map (λ (d : ResolvedCell). given d.syms) cells
  levels_back [] all [] none = refl
  levels_back [] all (e ∷ es) are = elim are [ ]
  levels_back (d ∷ ds) all [] are = elim are [ ]
  levels_back (d ∷ ds) all (e ∷ es) (more one are) = ap₂ (λ (x : Level) xs. x ∷ xs) (level_back d.syms all.0.keysyms e one) (levels_back ds all.1 es are)
