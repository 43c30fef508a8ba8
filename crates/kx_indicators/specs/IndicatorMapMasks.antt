-- The masks of states and of groups that the fields of indicators name: terms joined from the left, `+` for union and `-`
-- for difference.
use Rattle.std.specs.Prelude.{ℕ, ◌-◌, ◌^◌, List, [], ◌∷◌, fold, Option, None, Some, is_some, unwrap_or, if◌then◌else◌, codes}
use Rattle.std.specs.Option.{option_and_then, option_or, option_map_or}
use Rattle.kx_include.specs.IncludeFaults.{at}
use Rattle.kx_lex.specs.declared.fault.Fault.{Fault}
use Rattle.kx_lex.specs.declared.fault.Fault.TheVariants.{BadValue, GroupRange}
use Rattle.kx_lex.specs.declared.token.Span.{Span}
use Rattle.kx_virtual_mods.specs.Masks.{joined}
use Rattle.kx_tree.specs.declared.tree.Expression.{Expression}
use Rattle.kx_tree.specs.declared.tree.Operation.{Operation}
use Rattle.kx_tree.specs.declared.tree.Term.{Term}
use Rattle.kx_tree.specs.declared.tree.Term.TheVariants.{Number, Word}
use Rattle.kx_merge.specs.Numbers.{is_within, word_number}
use Rattle.kx_merge.specs.declared.numbers.Counted.TheVariants.{Group}
use Rattle.kx_indicators.specs.declared.masks.MaskKind.{MaskKind}
use Rattle.kx_indicators.specs.declared.masks.MaskKind.TheVariants.{States, Groups}
use Rattle.kx_merge.specs.Words.{among}
use Rattle.kx_merge.specs.Terms.{term_span, terms_faults}

-- how many bits a mask has
abbrev pub width : MaskKind → ℕ
width States = 4
width Groups = 32

-- words are read without regard to case; of states the bits are 1 base, 2 latched, 4 locked, 8 effective
abbrev pub words : MaskKind → List (List ℕ × ℕ)
words States = (codes "none", 0) ∷ (codes "base", 1) ∷ (codes "latched", 2) ∷ (codes "locked", 4) ∷ (codes "effective", 8) ∷ (codes "any", 8) ∷ (codes "compat", 8) ∷ []
words Groups = (codes "none", 0) ∷ (codes "all", 4294967295) ∷ []

abbrev pub named_group : MaskKind → List ℕ → Option ℕ
named_group States word = None
named_group Groups word = word_number Group word

-- a number is itself a mask of groups, and no mask of states
abbrev pub number_mask : MaskKind → ℕ → Option ℕ
number_mask States n = None
number_mask Groups n = Some n

abbrev pub term_mask : MaskKind → Term → Option ℕ
term_mask kind (Number number) = number_mask kind number.value
term_mask kind (Word word) = option_or (among (words kind) word.bytes) (option_and_then (λ n. if is_within Group n then Some (2 ^ (n - 1)) else None) (named_group kind word.bytes))
term_mask kind _ = None

abbrev pub operated : MaskKind → ℕ → Operation → ℕ
operated kind mask o = joined o.sign mask (unwrap_or (term_mask kind o.term) 0)

abbrev pub mask_of : MaskKind → Expression → ℕ
mask_of kind e = fold (operated kind) (unwrap_or (term_mask kind e.first) 0) e.rest

-- the group that a term names, in range or not
abbrev pub group_in : MaskKind → Term → Option ℕ
group_in kind (Word word) = named_group kind word.bytes
group_in kind _ = None

module _ (file : ℕ) where
  abbrev pub term_faults : MaskKind → Term → List Fault
  term_faults kind term = if is_some (term_mask kind term) then [] else option_map_or (λ _. GroupRange (at file (term_span term)) ∷ []) (group_in kind term) (BadValue (at file (term_span term)) ∷ [])

  abbrev pub mask_faults : MaskKind → Expression → List Fault
  mask_faults kind e = terms_faults (term_faults kind) e

-- ---- Under a name, for clauses and proofs

abbrev pub operation_faults : ℕ → MaskKind → Operation → List Fault
operation_faults file kind o = term_faults file kind o.term

abbrev pub group_bit : ℕ → Option ℕ
group_bit n = if is_within Group n then Some (2 ^ (n - 1)) else None

abbrev pub other_faults : (file : ℕ) → Span → Option ℕ → List Fault
other_faults file span group = option_map_or (λ _. GroupRange (at file span) ∷ []) group (BadValue (at file span) ∷ [])

abbrev pub word_mask : MaskKind → List ℕ → Option ℕ
word_mask kind word = option_or (among (words kind) word) (option_and_then (λ n. if is_within Group n then Some (2 ^ (n - 1)) else None) (named_group kind word))
