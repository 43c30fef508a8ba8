-- Fields of a printed key, by what they show.
use Rattle.std.proofs.Common.{◌≡◌, ℕ, ◌+◌, ◌-◌, ◌<◌, ◌&&◌, cond, List, [], ◌∷◌, None, Some, ap, ap₂, ◌∙◌, arith}
use Rattle.std.proofs.lemmas.Bool.{lt-ltb, le-leb}
use Rattle.std.specs.Option.{option_map}
use Rattle.kx_include.specs.IncludeFaults.{at}
use Rattle.kx_lex.specs.declared.fault.Fault.{Fault}
use Rattle.kx_lex.specs.declared.fault.Fault.TheVariants.{GroupRange}
use Rattle.kx_lex.specs.declared.token.Span.{Span}
use Rattle.kx_tree.specs.declared.tree.Expression.{Expression}
use Rattle.kx_tree.specs.declared.tree.FieldPlace.{FieldPlace}
use Rattle.kx_tree.specs.declared.tree.KeyField.{KeyField}
use Rattle.kx_tree.specs.declared.tree.KeyField.TheVariants as fields
use Rattle.kx_tree.specs.declared.tree.Setting.{Setting}
use Rattle.kx_tree.specs.declared.tree.Setting.TheVariants.{On, To}
use Rattle.kx_tree.specs.declared.tree.Term.TheVariants as terms
use Rattle.kx_tree.specs.declared.tree.Value.{Value}
use Rattle.kx_tree.specs.declared.tree.Value.TheVariants as values
use Rattle.kx_key_lists.specs.Groups.{group_at}
use Rattle.kx_merge.specs.Numbers.{number_faults}
use Rattle.kx_merge.specs.declared.numbers.Counted.TheVariants.{Group}
use Rattle.roundtrip_tree.specs.Keys.{IsIndexedField, IsBareField, IsNumberField, indexed_place, plain_place}
use Rattle.roundtrip_tree.specs.Shows.{number_at}

abbrev pub field_of : FieldPlace → Setting → Span → KeyField
field_of place setting span = fields.Field (record { place = place; setting = setting; span = span })

pub indexed_is : {w : List ℕ} {n : ℕ} {Is : Value → Type 0} {f : KeyField} (is : IsIndexedField w n Is f) → f ≡ field_of (indexed_place w n is.word_span is.number_span is.expression_span is.index_span) (To is.value) is.field.span
indexed_is is = is.is ∙ ap₂ (λ p s. field_of p s is.field.span) is.place_is is.setting_is

pub bare_is : {w : List ℕ} {f : KeyField} (is : IsBareField w f) → f ≡ field_of (plain_place w is.word_span) On is.field.span
bare_is is = is.is ∙ ap₂ (λ p s. field_of p s is.field.span) is.place_is is.setting_is

pub numbered_is : {w : List ℕ} {n : ℕ} {f : KeyField} (is : IsNumberField w n f) → f ≡ field_of (plain_place w is.word_span) (To (values.Expression is.value)) is.field.span
numbered_is is = is.is ∙ ap₂ (λ p s. field_of p s is.field.span) is.place_is is.setting_is

abbrev pub number_expression : ℕ → Span → Span → Expression
number_expression n span whole = record { first = terms.Number (number_at n span); rest = []; span = whole }

-- ---- The group of a number that is printed

pub group_is : (n : ℕ) (span whole : Span) → n < 32 → group_at (number_expression (n + 1) span whole) ≡ Some n
group_is n span whole small =
    ap (λ t. option_map (λ m. m - 1) (cond t (Some (n + 1)) None)) (ap₂ (λ a b. a && b) (lt-ltb 0 (n + 1) (omega arith)) (le-leb (n + 1) 32 (omega arith))) ∙ ap Some (let same : n + 1 - 1 ≡ n = omega arith in same)

pub group_faultless : (file n : ℕ) (span whole : Span) → n < 32 → number_faults file Group (number_expression (n + 1) span whole) ≡ []
group_faultless file n span whole small =
    ap (λ t. let fs : List Fault = cond t [] (GroupRange (at file whole) ∷ []) in fs) (ap₂ (λ a b. a && b) (lt-ltb 0 (n + 1) (omega arith)) (le-leb (n + 1) 32 (omega arith)))
