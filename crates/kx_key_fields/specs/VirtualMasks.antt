-- The virtual modifiers that a mask of these alone names, and its faults: terms joined from the left, `+` for union and `-`
-- for difference.
use Rattle.std.specs.Prelude.{ℕ, List, [], ◌∷◌, fold, Option, None, is_some, if◌then◌else◌}
use Rattle.std.specs.Option.{option_map, option_and_then}
use Rattle.kx_include.specs.IncludeFaults.{at}
use Rattle.kx_lex.specs.declared.fault.Fault.{Fault}
use Rattle.kx_lex.specs.declared.fault.Fault.TheVariants.{BadValue, UnknownModifier}
use Rattle.kx_lex.specs.declared.name.Name.{Name}
use Rattle.kx_virtual_mods.specs.Masks.{joined, real_mask, virtual_number}
use Rattle.kx_virtual_mods.specs.Sets.{virtual_set}
use Rattle.kx_tree.specs.declared.tree.Expression.{Expression}
use Rattle.kx_tree.specs.declared.tree.Operation.{Operation}
use Rattle.kx_tree.specs.declared.tree.Term.{Term}
use Rattle.kx_tree.specs.declared.tree.Term.TheVariants.{Word}
use Rattle.kx_merge.specs.Terms.{bad_term, terms_faults}

-- `names` are the virtual modifiers by number
module _ (names : List (List ℕ)) where
  abbrev pub term_virtual : Term → Option ℕ
  term_virtual (Word word) = if is_some (real_mask word.bytes) then None else option_map virtual_set (virtual_number names word.bytes)
  term_virtual _ = None

  abbrev pub with_term : Option ℕ → Operation → Option ℕ
  with_term set o = option_and_then (λ s. option_map (joined o.sign s) (term_virtual o.term)) set

  -- the set that a mask names, where each of its terms is a virtual name
  abbrev pub virtual_mask : Expression → Option ℕ
  virtual_mask e = fold with_term (term_virtual e.first) e.rest

  module _ (file : ℕ) where
    abbrev pub virtual_word_faults : Name → List Fault
    virtual_word_faults word = if is_some (real_mask word.bytes) then BadValue (at file word.span) ∷ [] else if is_some (virtual_number names word.bytes) then [] else UnknownModifier (at file word.span) ∷ []

    abbrev pub virtual_term_faults : Term → List Fault
    virtual_term_faults (Word word) = virtual_word_faults word
    virtual_term_faults term = bad_term file term

    abbrev pub virtual_mask_faults : Expression → List Fault
    virtual_mask_faults e = terms_faults virtual_term_faults e

-- ---- Under names, for clauses and proofs

abbrev pub word_virtual : (names : List (List ℕ)) → List ℕ → Option ℕ
word_virtual names word = if is_some (real_mask word) then None else option_map virtual_set (virtual_number names word)

abbrev pub virtual_operation_faults : (names : List (List ℕ)) → (file : ℕ) → Operation → List Fault
virtual_operation_faults names file o = virtual_term_faults names file o.term
