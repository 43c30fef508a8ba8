-- What printed names of groups are spelled as.
use Rattle.std.proofs.Common.{ℕ, ◌≤◌, List, ◌∷◌, codes, None, Some, refl, ap, ◌∙◌, arith}
use Rattle.kx_basics.specs.declared.limits.TheConstants.{MOST_GROUPS}
use Rattle.kx_lex.specs.Keywords.{spellings}
use Rattle.kx_lex.specs.Kinds.{is_keyword}
use Rattle.kx_lex.specs.Production.{span_between}
use Rattle.kx_lex.specs.declared.token.Span.{Span}
use Rattle.kx_lex.specs.declared.token.Token.{Token}
use Rattle.kx_lex.specs.declared.token.TokenKind.TheVariants.{Mark, Word}
use Rattle.kx_tree.specs.Sections.{item, join_of, mode_of}
use Rattle.kx_tree.specs.Statements.{statement, keycodes_statement, types_statement, symbols_statement, field_statement}
use Rattle.kx_tree.specs.declared.tree.Expression.{Expression}
use Rattle.kx_tree.specs.declared.tree.FieldPlace.{FieldPlace}
use Rattle.kx_tree.specs.declared.tree.Item.TheVariants as items
use Rattle.kx_tree.specs.declared.tree.Setting.TheVariants as settings
use Rattle.kx_tree.specs.declared.tree.Statement.TheVariants as statements
use Rattle.kx_tree.specs.declared.tree.Value.TheVariants as values
use Rattle.roundtrip_text.specs.Slices.{Begins, more}
use Rattle.roundtrip_text.specs.Source.{NamedGroup, NameFits}
use Rattle.roundtrip_text.specs.GroupNames.{name_statement_slices}
use Rattle.roundtrip_tree.specs.Shows.{IsItem, ReadsAs, name_at}
use Rattle.roundtrip_tree.specs.ShowsLines.{Line, Quoted, SetAt}
use Rattle.roundtrip_tree.specs.Source.{IsGroupName}
use Rattle.roundtrip_tree.specs.Types.{number_written}
use Rattle.roundtrip_tree.proofs.Lines.{Ended, line_reads}
use Rattle.roundtrip_tree.proofs.Spellings.{made_spelled, second_spelled}
use Rattle.roundtrip_tree.proofs.Statements.{item_spelled, stated_at}
use Rattle.roundtrip_tree.proofs.Tokens.{token}
use Rattle.roundtrip_tree.proofs.Types.{number_readable}

abbrev name_shown : ℕ → List ℕ → Line
name_shown n name = SetAt (codes "name") (number_written n) (Quoted name)

name_spelled : (text : List ℕ) (n : ℕ) (name : List ℕ) (s : Span) (us rest : List Token) → Ended text (name_shown n name) (token (Word None) s ∷ us) rest → ReadsAs (item text) (IsItem (IsGroupName n name)) (token (Word None) s ∷ us) rest
unfolding statement keycodes_statement types_statement symbols_statement field_statement mode_of join_of is_keyword
name_spelled text n name s us rest e =
    let f = e.is in
    let at = f.at_is in
    let value = f.is in
    record {
      value = items.Statement (stated_at (statements.Field e.value) s (span_between (token (Word None) s ∷ us) rest));
      spelled = item_spelled text (token (Mark 59) e.end) rest refl refl
          (second_spelled _ refl (second_spelled _ refl (second_spelled _ refl (second_spelled _ refl
          (second_spelled _ refl (second_spelled _ refl (second_spelled _ refl (second_spelled _ refl (second_spelled _ refl
          (second_spelled _ refl (second_spelled _ refl (made_spelled statements.Field e.spelled))))))))))))
          refl;
      is = record {
        stated = _;
        item_is = refl;
        is = record {
          mode_is = refl;
          shows = record {
            field = e.value;
            word_span = f.word_span;
            number_span = at.0;
            expression_span = at.1;
            index_span = f.index_span;
            text_span = value.0;
            value_span = value.1;
            is = refl;
            place_is = f.place_is ∙ ap (λ (x : Expression). let p : FieldPlace = record { word = name_at (codes "name") f.word_span; member = None; index = Some (record { value = x; span = f.index_span }) } in p) at.2;
            setting_is = f.setting_is ∙ ap (λ x. settings.To (values.Expression x)) value.2;
          };
        };
      };
    }

pub name_reads : (text : List ℕ) (g : NamedGroup) → NameFits g.name → 1 ≤ g.group → g.group ≤ MOST_GROUPS → (ts rest : List Token) → Begins text (name_statement_slices g) ts rest → ReadsAs (item text) (λ i. IsItem (IsGroupName g.group g.name) i) ts rest
unfolding spellings
name_reads text g fits some few ts rest (more {ts = us} s a begins) =
    name_spelled text g.group g.name s us rest (line_reads text (name_shown g.group g.name) (number_readable g.group (omega (arith, few)), fits.bytes) (token (Word None) s ∷ us) rest (more s a begins))
