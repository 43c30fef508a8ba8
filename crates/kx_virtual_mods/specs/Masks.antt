-- The set of modifiers that a mask names, and its faults. A mask is terms joined from the left: `+` for union and `-` for
-- difference.
use Rattle.std.specs.Prelude.{ℕ, nat_le, List, [], ◌∷◌, fold, Option, is_some, position, unwrap_or, if◌then◌else◌, codes}
use Rattle.std.specs.Option.{option_map, option_or}
use Rattle.std.specs.Str.{bytes_eq}
use Rattle.kx_include.specs.IncludeFaults.{at}
use Rattle.kx_lex.specs.declared.fault.Fault.{Fault}
use Rattle.kx_lex.specs.declared.fault.Fault.TheVariants.{BadValue, UnknownModifier}
use Rattle.kx_lex.specs.declared.name.Name.{Name}
use Rattle.kx_tree.specs.declared.tree.Expression.{Expression}
use Rattle.kx_tree.specs.declared.tree.Operation.{Operation}
use Rattle.kx_tree.specs.declared.tree.Sign.{Sign}
use Rattle.kx_tree.specs.declared.tree.Sign.TheVariants.{Plus, Minus}
use Rattle.kx_tree.specs.declared.tree.Term.{Term}
use Rattle.kx_tree.specs.declared.tree.Term.TheVariants.{Number, Word}
use Rattle.kx_virtual_mods.specs.Sets.{union, without, virtual_set}
use Rattle.kx_merge.specs.Words.{among}
use Rattle.kx_merge.specs.Terms.{bad_term, terms_faults}

-- the words for real modifiers, each with its mask; they are read without regard to case
abbrev pub real_words : List (List ℕ × ℕ)
real_words = (codes "none", 0) ∷ (codes "all", 255) ∷ (codes "shift", 1) ∷ (codes "lock", 2) ∷ (codes "control", 4)
    ∷ (codes "mod1", 8) ∷ (codes "mod2", 16) ∷ (codes "mod3", 32) ∷ (codes "mod4", 64) ∷ (codes "mod5", 128) ∷ []

abbrev pub real_mask : List ℕ → Option ℕ
real_mask word = among real_words word

-- `names` are the virtual modifiers by number; they are read exactly
module _ (names : List (List ℕ)) where
  abbrev pub virtual_number : List ℕ → Option ℕ
  virtual_number word = position (bytes_eq word) names

  abbrev pub word_set : List ℕ → Option ℕ
  word_set word = option_or (real_mask word) (option_map virtual_set (virtual_number word))

  -- a number is a mask of the real modifiers
  abbrev pub term_set : Term → ℕ
  term_set (Number number) = if nat_le number.value 255 then number.value else 0
  term_set (Word word) = unwrap_or (word_set word.bytes) 0
  term_set _ = 0

abbrev pub joined : Sign → ℕ → ℕ → ℕ
joined Plus set other = union set other
joined Minus set other = without set other

abbrev pub operated : List (List ℕ) → ℕ → Operation → ℕ
operated names set o = joined o.sign set (term_set names o.term)

abbrev pub mask_set : List (List ℕ) → Expression → ℕ
mask_set names e = fold (operated names) (term_set names e.first) e.rest

-- `words` are the faults of a word
abbrev pub term_faults : ℕ → (Name → List Fault) → Term → List Fault
term_faults file words (Number number) = if nat_le number.value 255 then [] else BadValue (at file number.span) ∷ []
term_faults file words (Word word) = words word
term_faults file words term = bad_term file term

module _ (file : ℕ) (names : List (List ℕ)) where
  abbrev pub word_faults : Name → List Fault
  word_faults word = if is_some (word_set names word.bytes) then [] else UnknownModifier (at file word.span) ∷ []

  abbrev pub mask_faults : Expression → List Fault
  mask_faults e = terms_faults (term_faults file word_faults) e

  abbrev pub real_word_faults : Name → List Fault
  real_word_faults word = if is_some (real_mask word.bytes) then [] else if is_some (virtual_number names word.bytes) then BadValue (at file word.span) ∷ [] else UnknownModifier (at file word.span) ∷ []

  -- of a mask of real modifiers alone
  abbrev pub real_mask_faults : Expression → List Fault
  real_mask_faults e = terms_faults (term_faults file real_word_faults) e

-- ---- Under a name, for clauses and proofs

abbrev pub operation_faults : ℕ → (Name → List Fault) → Operation → List Fault
operation_faults file words o = term_faults file words o.term
