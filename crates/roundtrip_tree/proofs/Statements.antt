-- What printed statements are spelled as.
use Rattle.std.proofs.Common.{◌≡◌, ℕ, ◌<◌, ◌^◌, true, false, List, [], ◌∷◌, ◌++◌, refl, ap}
use Rattle.std.specs.List.{list_all}
use Rattle.kx_basics.specs.KeyNames.{is_key_byte}
use Rattle.kx_lex.specs.Kinds.{is_keyword, is_mark, number_value}
use Rattle.kx_lex.specs.Production.{fronted, front_span, span_between}
use Rattle.kx_lex.specs.declared.token.Span.{Span}
use Rattle.kx_lex.specs.declared.token.Token.{Token}
use Rattle.kx_lex.specs.declared.token.TokenKind.TheVariants.{KeyName, Number, Mark}
use Rattle.kx_tree.specs.Sections.{item, own, moded, begins_include, begins_moded, join_of, mode_of}
use Rattle.kx_tree.specs.Statements.{statement, keycode, keycodes_statement}
use Rattle.kx_tree.specs.declared.tree.Item.{Item}
use Rattle.kx_tree.specs.declared.tree.Item.TheVariants as items
use Rattle.kx_tree.specs.declared.tree.Mode.TheVariants.{Override}
use Rattle.kx_tree.specs.declared.tree.Stated.{Stated}
use Rattle.kx_tree.specs.declared.tree.Statement.{Statement}
use Rattle.kx_tree.specs.declared.tree.Statement.TheVariants as statements
use Rattle.roundtrip_text.specs.Slices.{slice, Begins, none, more}
use Rattle.roundtrip_tree.specs.Shows.{name_at, number_at, IsSpelled, IsItem, IsKeycode, IsStated}
use Rattle.roundtrip_tree.proofs.Spellings.{mark_spelled, placed_spelled, fronted_spelled, first_spelled, second_spelled, assigned_spelled}
use Rattle.roundtrip_tree.proofs.Tokens.{token, key_name_spelled, number_spelled}

-- without a mode
abbrev pub stated_at : Statement → Span → Span → Stated
stated_at statement first whole = record { mode = Override; statement = statement; first = first; span = whole }

-- by what a printed statement shows
pub stated_as : {Is : Statement → Type 0} (s : Stated) → IsStated Is s → (said : Statement) → s.statement ≡ said → s ≡ stated_at said s.first s.span
stated_as s is said e = λ i. record { mode = is.mode_is i; statement = e i; first = s.first; span = s.span }

-- a statement and the mark that ends it, where no mode stands before it
pub item_spelled : (text : List ℕ) {ts : List Token} {s : Statement} (close : Token) (rest : List Token) → begins_include ts ≡ false → begins_moded ts ≡ false → IsSpelled (statement text) ts s (close ∷ rest) → close.kind ≡ Mark 59 → IsSpelled (item text) ts (items.Statement (stated_at s (front_span ts) (span_between ts rest))) rest
unfolding item own moded
item_spelled text {s = s} close rest no_include no_mode spelled h =
    second_spelled _ no_include (placed_spelled (λ s span. items.Statement (record { mode = s.0; statement = s.1; first = s.2; span = span })) (second_spelled _ no_mode (with_end (fronted_spelled spelled))))
  where
    with_end : {ts : List Token} → IsSpelled (fronted (statement text)) ts (s, front_span ts) (close ∷ rest) → IsSpelled (moded text Override) ts (Override, s, front_span ts) rest
    with_end {ts} f = record { spelled = ((s, front_span ts), close ∷ rest, f.spelled, (close, rest, (mark_spelled text 59 close rest (ap (λ kind. is_mark 59 (token kind close.span)) h)).spelled, (refl, refl))) }

pub record Reads (text : List ℕ) (Is : Statement → Type 0) (ts rest : List Token) : Type 0 where
  pub item : Item
  pub spelled : IsSpelled (Rattle.kx_tree.specs.Sections.item text) ts item rest
  pub is : IsItem Is item

pub keycode_reads : (text name : List ℕ) (bytes : List ℕ) (code : ℕ) (ts rest : List Token) → list_all is_key_byte name ≡ true → number_value bytes ≡ code → code < 2 ^ 32
    → Begins text (slice KeyName (60 ∷ name ++ 62 ∷ []) ∷ slice (Mark 61) (61 ∷ []) ∷ slice Number bytes ∷ slice (Mark 59) (59 ∷ []) ∷ []) ts rest → Reads text (IsKeycode name code) ts rest
unfolding statement keycode keycodes_statement mode_of join_of is_keyword
keycode_reads text name bytes code ts rest all value small (more s1 a1 (more s2 a2 (more s3 a3 (more s4 a4 none)))) = record {
  item = items.Statement (stated_at (statements.Keycode (name_at name s1) (number_at code s3)) s1 (span_between (token KeyName s1 ∷ token (Mark 61) s2 ∷ token Number s3 ∷ token (Mark 59) s4 ∷ rest) rest));
  spelled = item_spelled text (token (Mark 59) s4) rest refl refl
      (first_spelled _ refl (assigned_spelled text statements.Keycode (token (Mark 61) s2) (key_name_spelled text name s1 _ all a1) refl (number_spelled text bytes code s3 _ value small a3)))
      refl;
  is = record { stated = _; item_is = refl; is = record { mode_is = refl; shows = record { name_span = s1; code_span = s3; is = refl } } };
}
