-- What printed key types are spelled as.
use Rattle.std.proofs.Common.{◌≡◌, ℕ, ◌<◌, ◌^◌, ◌==◌, Bool, true, false, cond, List, [], ◌∷◌, ◌++◌, length, codes, Some, refl, sym, ap, ap₂, ◌∙◌, arith, subst, append-nil}
use Rattle.std.proofs.lemmas.Grind.{flat_map-append}
use Rattle.std.specs.List.{flat_map}
use Rattle.ks_core.specs.PrintedName.{printed_name}
use Rattle.kx_builder.specs.Resolved.{ResolvedType}
use Rattle.kx_lex.specs.Keywords.{spellings}
use Rattle.kx_lex.specs.Kinds.{is_keyword}
use Rattle.kx_lex.specs.Production.{span_between}
use Rattle.kx_lex.specs.declared.keyword.Keyword.TheVariants as keywords
use Rattle.kx_lex.specs.declared.token.Span.{Span}
use Rattle.kx_lex.specs.declared.token.Token.{Token}
use Rattle.kx_lex.specs.declared.token.TokenKind.TheVariants.{Word, Text, Mark}
use Rattle.kx_mods.specs.Mods.{mask, mod_names}
use Rattle.kx_mods.specs.declared.mods.Mods.{Mods}
use Rattle.kx_tree.specs.Sections.{item, join_of, mode_of}
use Rattle.kx_tree.specs.Statements.{statement, keycodes_statement, types_statement, key_type}
use Rattle.kx_tree.specs.declared.tree.Item.TheVariants as items
use Rattle.kx_tree.specs.declared.tree.Statement.TheVariants as statements
use Rattle.kx_print.specs.Masks.{chosen}
use Rattle.kx_tables.specs.declared.rows.EntryRow.{EntryRow}
use Rattle.roundtrip_text.specs.Slices.{IsAt, Begins, none, more}
use Rattle.roundtrip_text.proofs.Phrases.{name_value}
use Rattle.roundtrip_text.proofs.Texts.{decimal_value}
use Rattle.roundtrip_text.specs.Source.{EachOf, EntryFits, TypeFits}
use Rattle.roundtrip_text.specs.Spelled.{mark, number, set_words, mods_terms, setting_slices, setting_at_slices, entry_slices, levels_slices}
use Rattle.roundtrip_text.specs.Types.{type_statement_slices}
use Rattle.roundtrip_text.proofs.Lines.{chosen_some}
use Rattle.roundtrip_tree.specs.Shows.{ReadsAs, IsItem, name_at}
use Rattle.roundtrip_tree.specs.ShowsLines.{Quoted, SetAt, line_slices, is_some_word, IsReadable, IsReadableLine}
use Rattle.roundtrip_tree.specs.Types.{mods_written, number_written, entry_shown, type_lines, IsType}
use Rattle.roundtrip_tree.proofs.Lines.{block_reads}
use Rattle.roundtrip_tree.proofs.Rows.{parted}
use Rattle.roundtrip_tree.proofs.Spellings.{keyword_spelled, made2_spelled, after_spelled, first_spelled, second_spelled}
use Rattle.roundtrip_tree.proofs.Statements.{item_spelled, stated_at}
use Rattle.roundtrip_tree.proofs.Tokens.{token, text_spelled}

-- ---- The lines of a type

entry_same : (e : EntryRow) → flat_map line_slices (entry_shown e) ≡ entry_slices e
entry_same e = ap (λ ss. setting_at_slices (codes "map") (mods_terms e.mods) (number e.level ∷ []) ++ ss) (by (mask e.preserve == 0))
  where
    by : (t : Bool) → flat_map line_slices (cond t [] (SetAt (codes "preserve") (mods_written e.mods) (mods_written e.preserve) ∷ [])) ≡ cond t [] (setting_at_slices (codes "preserve") (mods_terms e.mods) (mods_terms e.preserve))
    by true = refl
    by false = append-nil (setting_at_slices (codes "preserve") (mods_terms e.mods) (mods_terms e.preserve))

entries_same : (es : List EntryRow) → flat_map line_slices (flat_map entry_shown es) ≡ flat_map entry_slices es
entries_same [] = refl
entries_same (e ∷ es) = flat_map-append line_slices (entry_shown e) (flat_map entry_shown es) ∙ ap₂ (λ a b. a ++ b) (entry_same e) (entries_same es)

lines_same : (t : ResolvedType) → flat_map line_slices (type_lines t) ≡ setting_slices (codes "modifiers") (mods_terms t.mods) ++ (flat_map entry_slices t.entries ++ levels_slices t.levels)
lines_same t = ap (λ ss. setting_slices (codes "modifiers") (mods_terms t.mods) ++ ss)
    (flat_map-append line_slices (flat_map entry_shown t.entries) (SetAt (codes "level_name") (number_written t.levels) (Quoted []) ∷ []) ∙ ap₂ (λ a b. a ++ b) (entries_same t.entries) (append-nil (levels_slices t.levels)))

-- ---- They can be read

pub some_words : (names : List (List ℕ)) (bits : ℕ) → bits < 2 ^ length names → is_some_word (set_words names bits) ≡ true
some_words names bits small = by (bits == 0) refl
  where
    by : (t : Bool) → (bits == 0) ≡ t → is_some_word (cond t (codes "none" ∷ []) (chosen bits names)) ≡ true
    by true empty = refl
    by false some = ap is_some_word (chosen_some bits names some small).2

pub mods_readable : (mods : Mods) → mask mods < 2 ^ 8 → IsReadable (mods_written mods)
unfolding mod_names
mods_readable mods small = some_words mod_names (mask mods) small

pub number_readable : (n : ℕ) → n < 2 ^ 32 → IsReadable (number_written n)
number_readable n small = (decimal_value n (omega (arith, small)), small)

pub each-append : {X : Type 0} (P : X → Type 0) (xs ys : List X) → EachOf P xs → EachOf P ys → EachOf P (xs ++ ys)
each-append P [] ys a b = b
each-append P (x ∷ xs) ys a b = (a.0, each-append P xs ys a.1 b)

entry_readable : (t : ResolvedType) (e : EntryRow) → TypeFits t → EntryFits t e → EachOf IsReadableLine (entry_shown e)
entry_readable t e fits of = ((mods_readable e.mods of.mods, number_readable e.level (let most = fits.levels in let within = of.level in omega (arith, most, within))), by (mask e.preserve == 0))
  where
    by : (b : Bool) → EachOf IsReadableLine (cond b [] (SetAt (codes "preserve") (mods_written e.mods) (mods_written e.preserve) ∷ []))
    by true = tt
    by false = ((mods_readable e.mods of.mods, mods_readable e.preserve of.preserve), tt)

entries_readable : (t : ResolvedType) (es : List EntryRow) → TypeFits t → EachOf (EntryFits t) es → EachOf IsReadableLine (flat_map entry_shown es)
entries_readable t [] fits each = tt
entries_readable t (e ∷ es) fits each = each-append IsReadableLine (entry_shown e) (flat_map entry_shown es) (entry_readable t e fits each.0) (entries_readable t es fits each.1)

lines_readable : (t : ResolvedType) → TypeFits t → EachOf IsReadableLine (type_lines t)
lines_readable t fits = (
  mods_readable t.mods fits.mods,
  each-append IsReadableLine (flat_map entry_shown t.entries) (SetAt (codes "level_name") (number_written t.levels) (Quoted []) ∷ []) (entries_readable t t.entries fits fits.entries)
      ((number_readable t.levels (let most = fits.levels in omega (arith, most)), refl), tt),
)

-- ---- The statement

closed_reads : (text : List ℕ) (t : ResolvedType) → TypeFits t → (s1 s2 s3 : Span) (us mid rest : List Token)
    → IsAt text (34 ∷ printed_name t.name ++ 34 ∷ []) s2 → Begins text (flat_map line_slices (type_lines t)) us mid → Begins text (mark 125 ∷ mark 59 ∷ []) mid rest
    → ReadsAs (item text) (IsItem (IsType t)) (token (Word (Some keywords.Type)) s1 ∷ token Text s2 ∷ token (Mark 123) s3 ∷ us) rest
unfolding statement key_type keycodes_statement types_statement mode_of join_of is_keyword
closed_reads text t fits s1 s2 s3 us mid rest a2 first (more s4 a4 (more s5 a5 none)) =
    let b = block_reads text (type_lines t) (lines_readable t fits) s3 s4 us (token (Mark 59) s5 ∷ rest) first in
    let n = text_spelled text (printed_name t.name) t.name s2 (token (Mark 123) s3 ∷ us) (name_value t.name fits.bytes) a2 in
    let s = after_spelled (keyword_spelled text keywords.Type (token (Word (Some keywords.Type)) s1) _ refl) (made2_spelled statements.KeyType n b.spelled) in
    record {
      value = items.Statement (stated_at (statements.KeyType (name_at t.name s2) b.value) s1 (span_between (token (Word (Some keywords.Type)) s1 ∷ token Text s2 ∷ token (Mark 123) s3 ∷ us) rest));
      spelled = item_spelled text (token (Mark 59) s5) rest refl refl
          (second_spelled _ refl (second_spelled _ refl (second_spelled _ refl (second_spelled _ refl (second_spelled _ refl (first_spelled _ refl s))))))
          refl;
      is = record { stated = _; item_is = refl; is = record { mode_is = refl; shows = record { span = s2; fields = b.value; is = refl; are = b.is } } };
    }

pub type_reads : (text : List ℕ) (t : ResolvedType) → TypeFits t → (ts rest : List Token) → Begins text (type_statement_slices t) ts rest → ReadsAs (item text) (λ i. IsItem (IsType t) i) ts rest
unfolding spellings
type_reads text t fits ts rest (more s1 a1 (more s2 a2 (more {ts = us} s3 a3 begins))) =
    let p = parted (flat_map line_slices (type_lines t)) (mark 125 ∷ mark 59 ∷ []) (subst (λ ss. Begins text (ss ++ mark 125 ∷ mark 59 ∷ []) us rest) (sym (lines_same t)) begins) in
    closed_reads text t fits s1 s2 s3 us p.mid rest a2 p.first p.second
