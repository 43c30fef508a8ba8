-- How printed key statements are read.
use Rattle.std.proofs.Common.{◌≡◌, ℕ, ◌+◌, ◌<◌, ◌≤◌, ◌^◌, List, [], ◌∷◌, ◌++◌, length, map, codes, refl, ap, ◌∙◌, subst, arith}
use Rattle.std.proofs.lemmas.List.{length-map}
use Rattle.std.specs.Fmt.{decimal}
use Rattle.std.specs.List.{flat_map}
use Rattle.kx_basics.specs.Keysyms.{IsKeysym}
use Rattle.kx_builder.specs.Seen.{cell_seen}
use Rattle.kx_print.specs.Phrases.{joined, numbered, quoted, field_at, elements}
use Rattle.kx_print.specs.Printed.{keysym_text, symbols_text, cell_symbols, cell_action, cells_of, type_of, group_fields, range_fields, groups_of, fields_of, on_new_line, key_block}
use Rattle.kx_tables.specs.Content.{Content, key_name}
use Rattle.kx_tables.specs.Sound.{RangeHolds}
use Rattle.kx_tables.specs.declared.rows.CellRow.{CellRow}
use Rattle.kx_tables.specs.declared.rows.GroupRow.{GroupRow}
use Rattle.kx_tables.specs.declared.rows.KeyRow.{KeyRow}
use Rattle.kx_tables.specs.declared.rows.Range.{Range}
use Rattle.kx_tables.specs.declared.rows.Range.TheVariants.{Wrap, Clamp, Redirect}
use Rattle.roundtrip_text.specs.Slices.{Slice, Lexes, LexesBefore}
use Rattle.roundtrip_text.proofs.Lexing.{nothing_lexes, then_lexes, before_lexes, then_before, weaker, decimal_lexes, key_name_lexes}
use Rattle.roundtrip_text.proofs.Phrases.{marks_lex, printed_name_lexes}
use Rattle.roundtrip_text.specs.Source.{EachOf, CellFits, GroupFits, KeyFits, group_printed, key_printed}
use Rattle.roundtrip_text.specs.KeyPhrases.{a_mark, keysym_slices, level_slices, call_slices, GroupPhrase, FieldPhrase, TypeOf, SymbolsOf, ActionsOf, field_slices, group_phrases, field_phrases, listed_slices, behind_comma, bracket_slices, at_slices}
use Rattle.roundtrip_text.specs.Keys.{keysym_phrase, level_phrases, call_of, group_phrase, range_phrases, key_phrase, key_statement_slices}
use Rattle.roundtrip_text.proofs.Lines.{one_word, before_before}
use Rattle.roundtrip_text.proofs.Blocks.{field_at_lexes}
use Rattle.roundtrip_text.proofs.Actions.{before_nothing, action_lexes}
use Rattle.roundtrip_text.proofs.Keysyms.{keysym_lexes}

pub each_map : {X Y : Type 0} (P : Y → Type 0) (f : X → Y) (xs : List X) → EachOf P (map f xs) → EachOf (λ x. P (f x)) xs
each_map P f [] all = tt
each_map P f (x ∷ xs) all = (all.0, each_map P f xs all.1)

-- ---- Lists

-- texts apart by a comma and blanks
module _ {X : Type 0} (P : X → Type 0) (blanks : List ℕ) (comma : Lexes (44 ∷ blanks) (a_mark 44 ∷ [])) (f : X → List ℕ) (g : X → List Slice) (each : (x : X) → P x → LexesBefore (f x) (g x)) where
  abbrev other_texts : List X → List ℕ
  other_texts xs = flat_map (λ o. (44 ∷ blanks) ++ o) (map f xs)

  join : {a : List ℕ} {x : List Slice} (xs : List X) → LexesBefore a x → LexesBefore (other_texts xs) (flat_map (behind_comma g) xs) → LexesBefore (a ++ other_texts xs) (x ++ flat_map (behind_comma g) xs)
  join [] one rest = before_nothing one
  join (y ∷ ys) one rest = before_before one refl rest

  others_lex : (xs : List X) → EachOf P xs → LexesBefore (other_texts xs) (flat_map (behind_comma g) xs)
  others_lex [] all = weaker nothing_lexes
  others_lex (x ∷ xs) all = join xs (then_before comma (each x all.0)) (others_lex xs all.1)

  pub joined_lexes : (xs : List X) → EachOf P xs → LexesBefore (joined (44 ∷ blanks) (map f xs)) (listed_slices g xs)
  joined_lexes [] all = weaker nothing_lexes
  joined_lexes (x ∷ xs) all = join xs (each x all.0) (others_lex xs all.1)

elements_lex : {X : Type 0} (P : X → Type 0) (f : X → List ℕ) (g : X → List Slice) → ((x : X) → P x → LexesBefore (f x) (g x)) → (xs : List X) → EachOf P xs → Lexes (elements (map f xs)) (bracket_slices g xs)
elements_lex P f g each xs all = then_lexes (marks_lex (codes "[ ") refl) (before_lexes (joined_lexes P (codes " ") (marks_lex (codes ", ") refl) f g each xs all) refl (marks_lex (codes " ]") refl))

-- the slices of things by what they come from
others_map : {X Y : Type 0} (g : Y → List Slice) (f : X → Y) (xs : List X) → flat_map (behind_comma (λ x. g (f x))) xs ≡ flat_map (behind_comma g) (map f xs)
others_map g f [] = refl
others_map g f (x ∷ xs) = ap (λ ss. behind_comma g (f x) ++ ss) (others_map g f xs)

listed_map : {X Y : Type 0} (g : Y → List Slice) (f : X → Y) (xs : List X) → listed_slices (λ x. g (f x)) xs ≡ listed_slices g (map f xs)
listed_map g f [] = refl
listed_map g f (x ∷ xs) = ap (λ ss. g (f x) ++ ss) (others_map g f xs)

-- ---- Levels

symbols_lex : (keysyms : List ℕ) → EachOf IsKeysym keysyms → LexesBefore (symbols_text keysyms) (level_slices (map keysym_phrase keysyms))
symbols_lex [] all = one_word (codes "NoSymbol") refl
symbols_lex (k ∷ []) all = keysym_lexes k all.0
symbols_lex (k ∷ l ∷ ks) all = weaker (then_lexes (marks_lex (codes "{ ") refl) (before_lexes listed refl (marks_lex (codes " }") refl)))
  where
    listed : LexesBefore (joined (codes ", ") (map keysym_text (k ∷ l ∷ ks))) (listed_slices keysym_slices (map keysym_phrase (k ∷ l ∷ ks)))
    listed = subst (LexesBefore (joined (codes ", ") (map keysym_text (k ∷ l ∷ ks)))) (listed_map keysym_slices keysym_phrase (k ∷ l ∷ ks)) (joined_lexes IsKeysym (codes " ") (marks_lex (codes ", ") refl) keysym_text (λ k. keysym_slices (keysym_phrase k)) keysym_lexes (k ∷ l ∷ ks) all)

module _ (c : Content) where
  abbrev RowFits : CellRow → Type 0
  RowFits d = CellFits (cell_seen c d)

  cell_symbols_lex : (d : CellRow) → RowFits d → LexesBefore (cell_symbols c d) (level_slices (level_phrases (cell_seen c d)))
  unfolding cell_symbols
  cell_symbols_lex d fits = symbols_lex (cell_seen c d).syms fits.keysyms

  cell_action_lexes : (d : CellRow) → RowFits d → LexesBefore (cell_action d) (call_slices (call_of (cell_seen c d)))
  unfolding cell_action
  cell_action_lexes d fits = weaker (action_lexes d.action fits.does)

  -- by rows, and by what is printed of them
  symbols_same : (ds : List CellRow) → listed_slices (λ d. level_slices (level_phrases (cell_seen c d))) ds ≡ listed_slices level_slices (map level_phrases (map (cell_seen c) ds))
  symbols_same ds = listed_map (λ d. level_slices (level_phrases d)) (cell_seen c) ds ∙ listed_map level_slices level_phrases (map (cell_seen c) ds)

  calls_same : (ds : List CellRow) → listed_slices (λ d. call_slices (call_of (cell_seen c d))) ds ≡ listed_slices call_slices (map call_of (map (cell_seen c) ds))
  calls_same ds = listed_map (λ d. call_slices (call_of d)) (cell_seen c) ds ∙ listed_map call_slices call_of (map (cell_seen c) ds)

  -- ---- Groups

  abbrev phrase_of : GroupRow → GroupPhrase
  phrase_of g = group_phrase (group_printed c g)

  module _ (n : ℕ) (small : n < 2 ^ 64) (g : GroupRow) (fits : GroupFits (group_printed c g)) where
    type_field_lexes : LexesBefore (field_at (codes "type") (decimal n) (quoted (type_of c g))) (field_slices (TypeOf n (phrase_of g).key_type))
    type_field_lexes = field_at_lexes (codes "type") (decimal n) (quoted (type_of c g)) _ _ refl (decimal_lexes n small) (weaker (printed_name_lexes (type_of c g) fits.bytes))

    rows_fit : EachOf RowFits (cells_of c g)
    rows_fit = each_map CellFits (cell_seen c) (cells_of c g) fits.cells

    symbols_field_lexes : LexesBefore (field_at (codes "symbols") (decimal n) (elements (map (cell_symbols c) (cells_of c g)))) (field_slices (SymbolsOf n (phrase_of g).symbols))
    symbols_field_lexes =
        subst (λ ss. LexesBefore (field_at (codes "symbols") (decimal n) (elements (map (cell_symbols c) (cells_of c g)))) (at_slices (codes "symbols") n (a_mark 91 ∷ (ss ++ a_mark 93 ∷ [])))) (symbols_same (cells_of c g))
        (field_at_lexes (codes "symbols") (decimal n) (elements (map (cell_symbols c) (cells_of c g))) _ _ refl (decimal_lexes n small) (weaker (elements_lex RowFits (cell_symbols c) (λ d. level_slices (level_phrases (cell_seen c d))) cell_symbols_lex (cells_of c g) rows_fit)))

    actions_field_lexes : LexesBefore (field_at (codes "actions") (decimal n) (elements (map cell_action (cells_of c g)))) (field_slices (ActionsOf n (phrase_of g).actions))
    actions_field_lexes =
        subst (λ ss. LexesBefore (field_at (codes "actions") (decimal n) (elements (map cell_action (cells_of c g)))) (at_slices (codes "actions") n (a_mark 91 ∷ (ss ++ a_mark 93 ∷ [])))) (calls_same (cells_of c g))
        (field_at_lexes (codes "actions") (decimal n) (elements (map cell_action (cells_of c g))) _ _ refl (decimal_lexes n small) (weaker (elements_lex RowFits cell_action (λ d. call_slices (call_of (cell_seen c d))) cell_action_lexes (cells_of c g) rows_fit)))

-- ---- Fields

-- texts of fields and what they say, side by side
data AreFieldTexts : List (List ℕ) → List FieldPhrase → Type 0 where
  no_text : AreFieldTexts [] []
  one_text : {t : List ℕ} {ts : List (List ℕ)} {p : FieldPhrase} {ps : List FieldPhrase} → LexesBefore t (field_slices p) → AreFieldTexts ts ps → AreFieldTexts (t ∷ ts) (p ∷ ps)

texts_append : (ts us : List (List ℕ)) (ps qs : List FieldPhrase) → AreFieldTexts ts ps → AreFieldTexts us qs → AreFieldTexts (ts ++ us) (ps ++ qs)
texts_append [] us [] qs no_text more = more
texts_append [] us (p ∷ ps) qs all more = elim all [ ]
texts_append (t ∷ ts) us [] qs all more = elim all [ ]
texts_append (t ∷ ts) us (p ∷ ps) qs (one_text h hs) more = one_text h (texts_append ts us ps qs hs more)

groups_texts : (c : Content) (n : ℕ) (gs : List GroupRow) → n + length gs ≤ 33 → EachOf GroupFits (map (group_printed c) gs) → AreFieldTexts (numbered (group_fields c) n gs) (group_phrases n (map group_phrase (map (group_printed c) gs)))
unfolding group_fields
groups_texts c n [] few all = no_text
groups_texts c n (g ∷ gs) few all =
    let small : n < 2 ^ 64 = omega (arith, few) in
    one_text (type_field_lexes c n small g all.0) (one_text (symbols_field_lexes c n small g all.0) (one_text (actions_field_lexes c n small g all.0) (groups_texts c (n + 1) gs (omega (arith, few)) all.1)))

range_texts : (range : Range) → RangeHolds range → AreFieldTexts (range_fields range) (range_phrases range)
range_texts Wrap h = no_text
range_texts Clamp h = one_text (one_word (codes "groupsClamp") refl) no_text
range_texts (Redirect group) h = one_text (before_before (one_word (codes "groupsRedirect") refl) refl (then_before (marks_lex (codes "= ") refl) (decimal_lexes (group + 1) (omega (arith, h))))) no_text

fields_texts : (c : Content) (k : KeyRow) → KeyFits (key_printed c k) → AreFieldTexts (fields_of c k) (field_phrases (key_phrase (key_printed c k)))
fields_texts c k fits =
    let few = fits.few in
    texts_append (numbered (group_fields c) 1 (groups_of c k)) (range_fields k.range) (group_phrases 1 (map group_phrase (map (group_printed c) (groups_of c k)))) (range_phrases k.range)
    (groups_texts c 1 (groups_of c k) (omega (arith, few, length-map (groups_of c k) (group_printed c))) fits.groups) (range_texts k.range fits.range)

-- each on a new line, with a comma after all but the last
abbrev other_lines : List (List ℕ) → List ℕ
other_lines ts = flat_map (λ o. codes "," ++ o) (map on_new_line ts)

lines_join : {a : List ℕ} {x : List Slice} (ts : List (List ℕ)) (ps : List FieldPhrase) → AreFieldTexts ts ps → LexesBefore a x → LexesBefore (other_lines ts) (flat_map (behind_comma field_slices) ps) → LexesBefore (a ++ other_lines ts) (x ++ flat_map (behind_comma field_slices) ps)
lines_join [] [] no_text one rest = before_nothing one
lines_join [] (p ∷ ps) all one rest = elim all [ ]
lines_join (t ∷ ts) ps all one rest = before_before one refl rest

other_lines_lex : (ts : List (List ℕ)) (ps : List FieldPhrase) → AreFieldTexts ts ps → LexesBefore (other_lines ts) (flat_map (behind_comma field_slices) ps)
other_lines_lex [] [] no_text = weaker nothing_lexes
other_lines_lex [] (p ∷ ps) all = elim all [ ]
other_lines_lex (t ∷ ts) [] all = elim all [ ]
other_lines_lex (t ∷ ts) (p ∷ ps) (one_text h hs) = lines_join ts ps hs (then_before (marks_lex (codes ",\n") refl) h) (other_lines_lex ts ps hs)

lines_lex : (ts : List (List ℕ)) (ps : List FieldPhrase) → AreFieldTexts ts ps → LexesBefore (joined (codes ",") (map on_new_line ts)) (listed_slices field_slices ps)
lines_lex [] [] no_text = weaker nothing_lexes
lines_lex [] (p ∷ ps) all = elim all [ ]
lines_lex (t ∷ ts) [] all = elim all [ ]
lines_lex (t ∷ ts) (p ∷ ps) (one_text h hs) = lines_join ts ps hs (then_before (marks_lex (codes "\n") refl) h) (other_lines_lex ts ps hs)

-- ---- Keys

pub key_lexes : (c : Content) (k : KeyRow) → KeyFits (key_printed c k) → Lexes (key_block c k) (key_statement_slices (key_printed c k))
unfolding key_block
key_lexes c k fits =
    before_lexes (one_word (codes "key") refl) refl (then_lexes (marks_lex (codes " ") refl) (then_lexes (key_name_lexes (key_name c k) fits.bytes) (then_lexes (marks_lex (codes " {") refl)
    (before_lexes (lines_lex (fields_of c k) (field_phrases (key_phrase (key_printed c k))) (fields_texts c k fits)) refl (marks_lex (codes "\n};\n") refl)))))
