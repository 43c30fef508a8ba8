-- What printed key statements are spelled as.
use Rattle.std.proofs.Common.{◌≡◌, ℕ, ◌+◌, ◌<◌, ◌≤◌, ◌^◌, Bool, true, false, cond, ◌==◌, pos, negsuc, List, [], ◌∷◌, ◌++◌, length, map, codes, Some, refl, sym, subst, arith}
use Rattle.std.specs.List.{list_all}
use Rattle.ks_core.specs.Name.{is_word}
use Rattle.kx_basics.specs.KeyNames.{is_key_byte}
use Rattle.kx_basics.specs.Keysyms.{IsKeysym}
use Rattle.kx_builder.specs.Resolved.{ResolvedCell}
use Rattle.kx_lex.specs.Keywords.{keyword_of, spellings}
use Rattle.kx_lex.specs.Kinds.{is_keyword}
use Rattle.kx_lex.specs.Tokens.{close_brace, open_brace}
use Rattle.kx_lex.specs.declared.keyword.Keyword.TheVariants as keywords
use Rattle.kx_lex.specs.declared.token.Span.{Span}
use Rattle.kx_lex.specs.declared.token.Token.{Token}
use Rattle.kx_lex.specs.declared.token.TokenKind.TheVariants.{Mark, Word, KeyName}
use Rattle.kx_mods.specs.Mods.{mask, mod_names}
use Rattle.kx_mods.specs.declared.mods.Mods.{Mods}
use Rattle.kx_tree.specs.Sections.{item, join_of, mode_of}
use Rattle.kx_tree.specs.Statements.{statement, key, key_field, keycodes_statement, types_statement, symbols_statement}
use Rattle.kx_tree.specs.declared.tree.Statement.TheVariants as statements
use Rattle.kx_print.specs.Masks.{chosen}
use Rattle.kx_print.specs.Printed.{keysym_text}
use Rattle.kx_tables.specs.Sound.{ActionHolds, GroupChangeHolds, RangeHolds}
use Rattle.kx_tables.specs.declared.rows.Action.{Action}
use Rattle.kx_tables.specs.declared.rows.Action.TheVariants as actions
use Rattle.kx_tables.specs.declared.rows.GroupChange.{GroupChange}
use Rattle.kx_tables.specs.declared.rows.GroupChange.TheVariants.{Absolute, Relative}
use Rattle.kx_tables.specs.declared.rows.Range.{Range}
use Rattle.kx_tables.specs.declared.rows.Range.TheVariants.{Wrap, Clamp, Redirect}
use Rattle.roundtrip_text.specs.Slices.{Begins, none, more, IsAt}
use Rattle.roundtrip_text.specs.Source.{EachOf, PrintedGroup, PrintedKey, CellFits, GroupFits, KeyFits}
use Rattle.roundtrip_text.specs.KeyPhrases.{a_mark, Worded, Numbered, Words, field_slices, listed_slices, group_phrases, field_phrases, KeyPhrase, key_slices}
use Rattle.roundtrip_text.specs.Keys.{keysym_phrase, level_phrases, mods_phrase, change_phrase, flag_phrases, two_flags, affect_phrases, action_phrase, call_of, group_phrase, range_phrases, key_phrase, key_statement_slices}
use Rattle.roundtrip_text.proofs.Actions.{fall_bound, rise_bound}
use Rattle.roundtrip_text.proofs.Keysyms.{number_stands_for}
use Rattle.roundtrip_text.proofs.Lines.{chosen_some}
use Rattle.roundtrip_tree.specs.Keys.{IsFieldOf, IsKeyOf, IsKey}
use Rattle.roundtrip_tree.specs.Shows.{ReadsAs, IsItem}
use Rattle.roundtrip_tree.proofs.KeyFields.{IsGiven, field_reads, field_starts}
use Rattle.roundtrip_tree.proofs.KeyRows.{each_listed}
use Rattle.roundtrip_tree.proofs.KeyValues.{IsReadable, IsSaid, IsSayable}
use Rattle.roundtrip_tree.proofs.Rows.{stop, parted}
use Rattle.roundtrip_tree.proofs.Spellings.{after_spelled, keyword_spelled, first_spelled, second_spelled, headed_spelled}
use Rattle.roundtrip_tree.proofs.Statements.{item_spelled}
use Rattle.roundtrip_tree.proofs.Tokens.{token, key_name_spelled}
use Rattle.roundtrip_tree.proofs.Types.{each-append}

-- ---- A statement

module _ (text : List ℕ) (phrase : KeyPhrase) (bytes : list_all is_key_byte phrase.name ≡ true) (given : EachOf IsGiven (field_phrases phrase)) where
  -- from after the brace that opens
  key_closes : (s1 s2 s3 : Span) (us mid rest : List Token) → IsAt text (60 ∷ phrase.name ++ 62 ∷ []) s2 → Begins text (listed_slices field_slices (field_phrases phrase)) us mid → Begins text (a_mark 125 ∷ a_mark 59 ∷ []) mid rest
      → ReadsAs (item text) (IsItem (IsKeyOf phrase)) (token (Word (keyword_of (codes "key"))) s1 ∷ token KeyName s2 ∷ token (Mark 123) s3 ∷ us) rest
  unfolding statement key keycodes_statement types_statement symbols_statement mode_of join_of is_keyword spellings
  key_closes s1 s2 s3 us mid rest a2 first (more s4 a4 (more s5 a5 none)) =
      let r = each_listed text close_brace (key_field text) field_slices IsFieldOf IsGiven (field_reads text) (field_starts text) (field_phrases phrase) given us (token (Mark 125) s4 ∷ token (Mark 59) s5 ∷ rest) first (stop refl) refl refl in
      let h = headed_spelled text open_brace close_brace statements.Key (token (Mark 123) s3) (token (Mark 125) s4) (key_name_spelled text phrase.name s2 (token (Mark 123) s3 ∷ us) bytes a2) refl r.spelled refl in
      let k = after_spelled (keyword_spelled text keywords.Key (token (Word (Some keywords.Key)) s1) (token KeyName s2 ∷ token (Mark 123) s3 ∷ us) refl) h in
      let s = second_spelled _ refl (second_spelled _ refl (second_spelled _ refl (second_spelled _ refl (second_spelled _ refl (second_spelled _ refl (second_spelled _ refl (second_spelled _ refl (second_spelled _ refl (first_spelled _ refl k))))))))) in
      record {
        value = _;
        spelled = item_spelled text (token (Mark 59) s5) rest refl refl s refl;
        is = record { stated = _; item_is = refl; is = record { mode_is = refl; shows = record { name_span = s2; fields = r.value; is = refl; are = r.is } } };
      }

  pub key_phrase_reads : (ts rest : List Token) → Begins text (key_slices phrase) ts rest → ReadsAs (item text) (IsItem (IsKeyOf phrase)) ts rest
  key_phrase_reads ts rest (more s1 a1 (more s2 a2 (more {ts = us} s3 a3 begins))) =
      let p = parted (listed_slices field_slices (field_phrases phrase)) (a_mark 125 ∷ a_mark 59 ∷ []) begins in key_closes s1 s2 s3 us p.mid rest a2 p.first p.second

-- ---- What printed keys say can be read

keysym_readable : (keysym : ℕ) → IsKeysym keysym → IsReadable (keysym_phrase keysym)
keysym_readable keysym h = by (is_word (keysym_text keysym)) refl
  where
    by : (w : Bool) → is_word (keysym_text keysym) ≡ w → IsReadable (cond w (Worded (keysym_text keysym)) (Numbered (keysym_text keysym)))
    by true e = tt
    by false e = let most = (number_stands_for keysym h e).most in omega (arith, most)

keysyms_readable : (keysyms : List ℕ) → EachOf IsKeysym keysyms → EachOf IsReadable (map keysym_phrase keysyms)
keysyms_readable [] all = tt
keysyms_readable (k ∷ ks) all = (keysym_readable k all.0, keysyms_readable ks all.1)

levels_readable : (cells : List ResolvedCell) → EachOf CellFits cells → EachOf (EachOf IsReadable) (map level_phrases cells)
levels_readable [] all = tt
levels_readable (d ∷ ds) all = (keysyms_readable d.syms all.0.keysyms, levels_readable ds all.1)

mods_said : (mods : Mods) → mask mods < 2 ^ 8 → IsSaid (mods_phrase mods)
unfolding mod_names
mods_said mods small = by (mask mods == 0) refl
  where
    by : (t : Bool) → (mask mods == 0) ≡ t → IsSaid (Words (codes "modifiers") (cond t (codes "none" ∷ []) (chosen (mask mods) mod_names)))
    by true e = tt
    by false e = let c = chosen_some (mask mods) mod_names e small in subst (λ ws. IsSaid (Words (codes "modifiers") ws)) (sym c.2) tt

change_said : (change : GroupChange) → GroupChangeHolds change → IsSaid (change_phrase change)
change_said (Absolute group) h = omega (arith, h)
change_said (Relative (pos n)) h = let most = rise_bound n h in omega (arith, most)
change_said (Relative (negsuc n)) h = let most = fall_bound n h in omega (arith, most)

flag_said : (w : List ℕ) (is_set : Bool) → EachOf IsSaid (flag_phrases w is_set)
flag_said w true = (tt, tt)
flag_said w false = tt

flags_said : (clear latch : Bool) → EachOf IsSaid (two_flags clear latch)
flags_said true true = (tt, (tt, tt))
flags_said true false = (tt, tt)
flags_said false true = (tt, tt)
flags_said false false = tt

affect_said : (locks unlocks : Bool) → EachOf IsSaid (affect_phrases locks unlocks)
affect_said true true = tt
affect_said true false = (tt, tt)
affect_said false true = (tt, tt)
affect_said false false = (tt, tt)

action_sayable : (action : Action) → ActionHolds action → IsSayable (action_phrase action)
action_sayable actions.None h = tt
action_sayable (actions.SetMods mods clear) h = (mods_said mods h, flag_said (codes "clearLocks") clear)
action_sayable (actions.LatchMods mods clear latch) h = (mods_said mods h, flags_said clear latch)
action_sayable (actions.LockMods mods locks unlocks) h = (mods_said mods h, affect_said locks unlocks)
action_sayable (actions.SetGroup group clear) h = (change_said group h, flag_said (codes "clearLocks") clear)
action_sayable (actions.LatchGroup group clear latch) h = (change_said group h, flags_said clear latch)
action_sayable (actions.LockGroup group) h = (change_said group h, tt)

calls_sayable : (cells : List ResolvedCell) → EachOf CellFits cells → EachOf IsSayable (map call_of cells)
calls_sayable [] all = tt
calls_sayable (d ∷ ds) all = (action_sayable d.action all.0.does, calls_sayable ds all.1)

groups_given : (n : ℕ) (gs : List PrintedGroup) → n + length gs ≤ 33 → EachOf GroupFits gs → EachOf IsGiven (group_phrases n (map group_phrase gs))
groups_given n [] few all = tt
groups_given n (g ∷ gs) few all =
    let small : n < 2 ^ 32 = omega (arith, few) in
    ((small, all.0.bytes), ((small, levels_readable g.cells all.0.cells), ((small, calls_sayable g.cells all.0.cells), groups_given (n + 1) gs (omega (arith, few)) all.1)))

range_given : (range : Range) → RangeHolds range → EachOf IsGiven (range_phrases range)
range_given Wrap h = tt
range_given Clamp h = (tt, tt)
range_given (Redirect group) h = (omega (arith, h), tt)

key_given : (k : PrintedKey) → KeyFits k → EachOf IsGiven (field_phrases (key_phrase k))
key_given k fits = let few = fits.few in each-append IsGiven (group_phrases 1 (map group_phrase k.groups)) (range_phrases k.range) (groups_given 1 k.groups (omega (arith, few)) fits.groups) (range_given k.range fits.range)

pub key_reads : (text : List ℕ) (k : PrintedKey) → KeyFits k → (ts rest : List Token) → Begins text (key_statement_slices k) ts rest → ReadsAs (item text) (λ i. IsItem (IsKey k) i) ts rest
key_reads text k fits ts rest begins = key_phrase_reads text (key_phrase k) fits.bytes (key_given k fits) ts rest begins
