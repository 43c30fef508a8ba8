-- How printed lines are read.
use Rattle.std.proofs.Common.{◌≡◌, ◌≢◌, ℕ, suc, ◌*◌, ◌/◌, ◌%◌, ◌<◌, ◌^◌, Bool, true, false, cond, ◌==◌, ◌&&◌, List, [], ◌∷◌, ◌++◌, length, codes, refl, sym, ap, ap₂, ◌∙◌, subst, arith, append_assoc, append-nil}
use Rattle.std.proofs.lemmas.Bool.{and_parts, ne_eqb, eqb-false}
use Rattle.std.proofs.Math.Nat.{pow-suc}
use Rattle.std.specs.Fmt.{decimal}
use Rattle.std.specs.List.{list_all, flat_map}
use Rattle.kx_basics.specs.KeyNames.{is_key_byte}
use Rattle.kx_lex.specs.Bytes.{is_word_start, is_word_byte}
use Rattle.kx_mods.specs.Mods.{mask, mod_names}
use Rattle.kx_mods.specs.declared.mods.Mods.{Mods}
use Rattle.kx_print.specs.Masks.{chosen, mods_text, set_text}
use Rattle.kx_print.specs.Phrases.{joined, setting, setting_at, quoted}
use Rattle.kx_print.specs.Printed.{keycode_line, entry_lines, preserve_line, levels_line}
use Rattle.roundtrip_text.specs.Slices.{Slice, Lexes, LexesBefore, parts}
use Rattle.roundtrip_text.proofs.Lexing.{nothing_lexes, then_lexes, before_lexes, then_before, weaker, word_lexes, decimal_lexes, key_name_lexes}
use Rattle.roundtrip_text.proofs.Phrases.{marks_lex, printed_name_lexes}
use Rattle.roundtrip_text.specs.Spelled.{word, mark, number, text, terms, set_words, mods_terms, keycode_slices, setting_slices, setting_at_slices, entry_slices, levels_slices}
use Rattle.kx_tables.specs.Content.{Content, key_name}
use Rattle.kx_tables.specs.declared.rows.EntryRow.{EntryRow}
use Rattle.kx_tables.specs.declared.rows.KeyRow.{KeyRow}

-- ---- Words

abbrev pub is_text_word : List ℕ → Bool
is_text_word [] = false
is_text_word (x ∷ w) = is_word_start x && list_all is_word_byte (x ∷ w)

pub one_word : (w : List ℕ) → is_text_word w ≡ true → LexesBefore w (word w ∷ [])
one_word [] h = cc
one_word (x ∷ w) h = let both = and_parts (is_word_start x) (list_all is_word_byte (x ∷ w)) h in word_lexes x w both.0 both.1

-- what a byte parts from what stands before
pub before_before : {a : List ℕ} {c : ℕ} {b : List ℕ} {x y : List Slice} → LexesBefore a x → parts c ≡ true → LexesBefore (c ∷ b) y → LexesBefore (a ++ c ∷ b) (x ++ y)
before_before {a} {c} {b} {x} {y} la apart lb = record { lex = λ d rest more ends l. rw (append_assoc a (c ∷ b) (d ∷ rest), append_assoc x y more) (la.lex c (b ++ d ∷ rest) (y ++ more) apart (lb.lex d rest more ends l)) }

other_words : (ws : List (List ℕ)) → list_all is_text_word ws ≡ true → LexesBefore (flat_map (λ o. codes "+" ++ o) ws) (flat_map (λ o. mark 43 ∷ word o ∷ []) ws)
other_words [] h = weaker nothing_lexes
other_words (w ∷ ws) h =
    let both = and_parts (is_text_word w) (list_all is_text_word ws) h in
    let one : LexesBefore (43 ∷ w) (mark 43 ∷ word w ∷ []) = then_before (marks_lex (43 ∷ []) refl) (one_word w both.0) in
    by ws one (other_words ws both.1)
  where
    by : (ws : List (List ℕ)) → LexesBefore (43 ∷ w) (mark 43 ∷ word w ∷ []) → LexesBefore (flat_map (λ o. codes "+" ++ o) ws) (flat_map (λ o. mark 43 ∷ word o ∷ []) ws) → LexesBefore ((43 ∷ w) ++ flat_map (λ o. codes "+" ++ o) ws) (mark 43 ∷ word w ∷ flat_map (λ o. mark 43 ∷ word o ∷ []) ws)
    by [] one rest = subst (λ bs. LexesBefore bs (mark 43 ∷ word w ∷ [])) (sym (append-nil (43 ∷ w))) one
    by (v ∷ vs) one rest = before_before one refl rest

pub terms_lex : (w : List ℕ) (ws : List (List ℕ)) → list_all is_text_word (w ∷ ws) ≡ true → LexesBefore (joined (codes "+") (w ∷ ws)) (terms (w ∷ ws))
terms_lex w ws h = by ws (and_parts (is_text_word w) (list_all is_text_word ws) h).1
  where
    first : is_text_word w ≡ true
    first = (and_parts (is_text_word w) (list_all is_text_word ws) h).0

    by : (ws : List (List ℕ)) → list_all is_text_word ws ≡ true → LexesBefore (w ++ flat_map (λ o. codes "+" ++ o) ws) (word w ∷ flat_map (λ o. mark 43 ∷ word o ∷ []) ws)
    by [] h = subst (λ bs. LexesBefore bs (word w ∷ [])) (sym (append-nil w)) (one_word w first)
    by (v ∷ vs) h = before_before (one_word w first) refl (other_words (v ∷ vs) h)

-- ---- Sets

pub chosen_all : (p : List ℕ → Bool) (bits : ℕ) (names : List (List ℕ)) → list_all p names ≡ true → list_all p (chosen bits names) ≡ true
chosen_all p bits [] h = refl
chosen_all p bits (name ∷ names) h = let both = and_parts (p name) (list_all p names) h in by (bits % 2 == 1) both.0 (chosen_all p (bits / 2) names both.1)
  where
    by : (t : Bool) → p name ≡ true → list_all p (chosen (bits / 2) names) ≡ true → list_all p (cond t (name ∷ []) [] ++ chosen (bits / 2) names) ≡ true
    by true here rest = ap₂ (λ a b. a && b) here rest
    by false here rest = rest

half : (bits n : ℕ) → bits < 2 ^ suc n → bits / 2 < 2 ^ n
half bits n small = let power : 2 ^ suc n ≡ 2 ^ n * 2 = pow-suc 2 n in omega (arith, power)

-- some name is chosen by bits that are not all clear
pub chosen_some : (bits : ℕ) (names : List (List ℕ)) → (bits == 0) ≡ false → bits < 2 ^ length names → (w : List ℕ) × (ws : List (List ℕ)) × (chosen bits names ≡ w ∷ ws)
chosen_some bits [] some small = absurd (eqb-false bits 0 some (omega arith))
chosen_some bits (name ∷ names) some small = by (bits % 2 == 1) refl (λ h. chosen_some (bits / 2) names h (half bits (length names) small))
  where
    by : (t : Bool) → (bits % 2 == 1) ≡ t → (((bits / 2) == 0) ≡ false → (w : List ℕ) × (ws : List (List ℕ)) × (chosen (bits / 2) names ≡ w ∷ ws)) → (w : List ℕ) × (ws : List (List ℕ)) × (cond t (name ∷ []) [] ++ chosen (bits / 2) names ≡ w ∷ ws)
    by true set rest = (name, chosen (bits / 2) names, refl)
    by false clear rest = rest (ne_eqb (bits / 2) 0 (λ e. eqb-false bits 0 some (let odd : bits % 2 ≢ 1 = eqb-false (bits % 2) 1 clear in omega (arith, e, odd))))

pub set_lexes : (names : List (List ℕ)) (bits : ℕ) → list_all is_text_word names ≡ true → bits < 2 ^ length names → LexesBefore (set_text names bits) (terms (set_words names bits))
set_lexes names bits all small = by (bits == 0) refl
  where
    by : (t : Bool) → (bits == 0) ≡ t → LexesBefore (cond t (codes "none") (joined (codes "+") (chosen bits names))) (terms (cond t (codes "none" ∷ []) (chosen bits names)))
    by true none = one_word (codes "none") refl
    by false some =
        let c = chosen_some bits names some small in
        subst (λ ws. LexesBefore (joined (codes "+") ws) (terms ws)) (sym c.2) (terms_lex c.0 c.1 (ap (list_all is_text_word) (sym c.2) ∙ chosen_all is_text_word bits names all))

pub mods_lex : (mods : Mods) → mask mods < 2 ^ 8 → LexesBefore (mods_text mods) (mods_terms mods)
unfolding mod_names
mods_lex mods small = set_lexes mod_names (mask mods) refl small

-- ---- Lines

pub keycode_lexes : (c : Content) (k : KeyRow) → list_all is_key_byte (key_name c k) ≡ true → k.code < 2 ^ 64 → Lexes (keycode_line c k) (keycode_slices c k)
unfolding keycode_line
keycode_lexes c k bytes small = then_lexes (key_name_lexes (key_name c k) bytes) (then_lexes (marks_lex (codes "= ") refl) (before_lexes (decimal_lexes k.code small) refl (marks_lex (codes ";\n") refl)))

pub setting_lexes : (w value : List ℕ) (ss : List Slice) → is_text_word w ≡ true → LexesBefore value ss → Lexes (setting w value) (setting_slices w ss)
setting_lexes w value ss h lv = before_lexes (one_word w h) refl (then_lexes (marks_lex (codes "= ") refl) (before_lexes lv refl (marks_lex (codes ";\n") refl)))

pub setting_at_lexes : (w index value : List ℕ) (is ss : List Slice) → is_text_word w ≡ true → LexesBefore index is → LexesBefore value ss → Lexes (setting_at w index value) (setting_at_slices w is ss)
setting_at_lexes w index value is ss h li lv = before_lexes (one_word w h) refl (then_lexes (marks_lex (codes "[") refl) (before_lexes li refl (then_lexes (marks_lex (codes "]= ") refl) (before_lexes lv refl (marks_lex (codes ";\n") refl)))))

pub entry_lexes : (e : EntryRow) → mask e.mods < 2 ^ 8 → mask e.preserve < 2 ^ 8 → e.level < 2 ^ 64 → Lexes (entry_lines e) (entry_slices e)
unfolding entry_lines preserve_line
entry_lexes e mods kept level = then_lexes (setting_at_lexes (codes "map") (mods_text e.mods) (decimal e.level) (mods_terms e.mods) (number e.level ∷ []) refl (mods_lex e.mods mods) (decimal_lexes e.level level)) (by (mask e.preserve == 0))
  where
    by : (t : Bool) → Lexes (cond t [] (setting_at (codes "preserve") (mods_text e.mods) (mods_text e.preserve))) (cond t [] (setting_at_slices (codes "preserve") (mods_terms e.mods) (mods_terms e.preserve)))
    by true = nothing_lexes
    by false = setting_at_lexes (codes "preserve") (mods_text e.mods) (mods_text e.preserve) (mods_terms e.mods) (mods_terms e.preserve) refl (mods_lex e.mods mods) (mods_lex e.preserve kept)

pub levels_lex : (levels : ℕ) → levels < 2 ^ 64 → Lexes (levels_line levels) (levels_slices levels)
unfolding levels_line
levels_lex levels small = setting_at_lexes (codes "level_name") (decimal levels) (quoted []) (number levels ∷ []) (text [] ∷ []) refl (decimal_lexes levels small) (weaker (printed_name_lexes [] refl))
