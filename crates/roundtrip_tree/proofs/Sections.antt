-- What printed sections are spelled as.
use Rattle.std.proofs.Common.{◌≡◌, ℕ, true, false, List, [], ◌∷◌, ◌++◌, Option, None, Some, is_some, refl, ap}
use Rattle.std.specs.List.{flat_map}
use Rattle.std.specs.Option.{ok_or}
use Rattle.kx_lex.specs.Kinds.{front, is_text, is_keyword, before_mark}
use Rattle.kx_lex.specs.Production.{many}
use Rattle.kx_lex.specs.Stops.{syntax_at}
use Rattle.kx_lex.specs.Tokens.{text_name, open_brace, close_brace, semicolon}
use Rattle.kx_lex.specs.declared.keyword.Keyword.{Keyword}
use Rattle.kx_lex.specs.declared.keyword.Keyword.TheVariants as keywords
use Rattle.kx_lex.specs.declared.token.Span.{Span}
use Rattle.kx_lex.specs.declared.token.Token.{Token}
use Rattle.kx_lex.specs.declared.token.TokenKind.TheVariants.{Mark, Word}
use Rattle.kx_tree.specs.Sections.{item, section, flags, flag, flagged, plain_section, geometry_section, kind, kind_of, flag_of, optional_text, held_items}
use Rattle.kx_tree.specs.declared.tree.Item.{Item}
use Rattle.kx_tree.specs.declared.tree.Kind.{Kind}
use Rattle.kx_tree.specs.declared.tree.Kind.TheVariants as kinds
use Rattle.kx_tree.specs.declared.tree.Section.{Section}
use Rattle.roundtrip_text.specs.Slices.{Slice, slice, Begins, none, more}
use Rattle.roundtrip_tree.specs.Shows.{IsSpelled, ReadsAs, AreShown}
use Rattle.roundtrip_tree.proofs.Rows.{optional_none, parted, many_reads}
use Rattle.roundtrip_tree.proofs.Spellings.{after_spelled, mark_spelled, second_spelled, made3_spelled, ended_spelled}
use Rattle.roundtrip_tree.proofs.Tokens.{token}

pub record IsSection {X : Type 0} (k : Kind) (Is : X → Item → Type 0) (xs : List X) (s : Section) : Type 0 where
  pub items : List Item
  pub is : s ≡ record { flags = []; kind = k; name = None; items = items }
  pub are : AreShown Is xs items

-- the word that begins a section of a kind, and no other
pub record Begun (keyword : Keyword) (k : Kind) : Type 0 where
  pub kind_is : (span : Span) → kind_of (token (Word (Some keyword)) span) ≡ Some k
  pub no_flag : (span : Span) → is_some (flag_of (token (Word (Some keyword)) span)) ≡ false
  pub no_geometry : (span : Span) → is_keyword keywords.XkbGeometry (token (Word (Some keyword)) span) ≡ false

module _ (text : List ℕ) (keyword : Keyword) (k : Kind) (begun : Begun keyword k) {X : Type 0} (slices : X → List Slice) (Is : X → Item → Type 0)
    (each : (x : X) (ts rest : List Token) → Begins text (slices x) ts rest → (before_mark close_brace ts ≡ true) × ReadsAs (item text) (Is x) ts rest) where
  kind_spelled : (span : Span) (rest : List Token) → IsSpelled (kind text) (token (Word (Some keyword)) span ∷ rest) k rest
  unfolding kind
  kind_spelled span rest = record {
    spelled = (
      token (Word (Some keyword)) span,
      rest,
      (refl, ap is_some (begun.kind_is span)),
      (ap (λ (o : Option Kind). ok_or o (syntax_at (token (Word (Some keyword)) span))) (begun.kind_is span), refl),
    );
  }

  -- from the mark that opens the section on
  held_reads : (xs : List X) (s1 s2 : Span) (us mid rest : List Token) → Begins text (flat_map slices xs) us mid → Begins text (slice (Mark 125) (125 ∷ []) ∷ slice (Mark 59) (59 ∷ []) ∷ []) mid rest
      → ReadsAs (section text) (IsSection k Is xs) (token (Word (Some keyword)) s1 ∷ token (Mark 123) s2 ∷ us) rest
  unfolding section flags flagged plain_section held_items optional_text
  held_reads xs s1 s2 us mid rest first (more s3 a3 (more s4 a4 none)) =
      let items = many_reads text (item text) (before_mark close_brace) slices Is each xs us (token (Mark 125) s3 ∷ token (Mark 59) s4 ∷ rest) first refl in
      let held = after_spelled (mark_spelled text open_brace (token (Mark 123) s2) us refl) (ended_spelled text close_brace (token (Mark 125) s3) (token (Mark 59) s4 ∷ rest) items.spelled refl) in
      let plain = made3_spelled (λ k n is. let s : Section = record { flags = []; kind = k; name = n; items = is } in s) (kind_spelled s1 (token (Mark 123) s2 ∷ us)) (optional_none (text_name text) (front is_text) (token (Mark 123) s2 ∷ us) refl) held in
      let whole = ended_spelled text semicolon (token (Mark 59) s4) rest (second_spelled {test = front (is_keyword keywords.XkbGeometry)} (geometry_section text []) (begun.no_geometry s1) plain) refl in
      let no_flags : IsSpelled (many (front (λ t. is_some (flag_of t))) (flag text)) (token (Word (Some keyword)) s1 ∷ token (Mark 123) s2 ∷ us) [] (token (Word (Some keyword)) s1 ∷ token (Mark 123) s2 ∷ us) = record { spelled = (refl, begun.no_flag s1) } in
      record {
        value = record { flags = []; kind = k; name = None; items = items.value };
        spelled = record { spelled = ([], (token (Word (Some keyword)) s1 ∷ token (Mark 123) s2 ∷ us), no_flags.spelled, whole.spelled) };
        is = record { items = items.value; is = refl; are = items.is };
      }

  pub section_reads : (bytes : List ℕ) (xs : List X) (ts rest : List Token)
      → Begins text (slice (Word (Some keyword)) bytes ∷ slice (Mark 123) (123 ∷ []) ∷ (flat_map slices xs ++ slice (Mark 125) (125 ∷ []) ∷ slice (Mark 59) (59 ∷ []) ∷ [])) ts rest
      → ReadsAs (section text) (IsSection k Is xs) ts rest
  section_reads bytes xs ts rest (more s1 a1 (more {ts = us} s2 a2 begins)) =
      let p = parted (flat_map slices xs) (slice (Mark 125) (125 ∷ []) ∷ slice (Mark 59) (59 ∷ []) ∷ []) begins in
      held_reads xs s1 s2 us p.mid rest p.first p.second

pub keycodes_begun : Begun keywords.XkbKeycodes kinds.Keycodes
unfolding kind_of flag_of is_keyword
keycodes_begun = record { kind_is = λ span. refl; no_flag = λ span. refl; no_geometry = λ span. refl }

pub symbols_begun : Begun keywords.XkbSymbols kinds.Symbols
unfolding kind_of flag_of is_keyword
symbols_begun = record { kind_is = λ span. refl; no_flag = λ span. refl; no_geometry = λ span. refl }
