-- Printed actions are read back, and have no faults.
use Rattle.std.proofs.Common.{◌≡◌, ℕ, pos, negsuc, neg_ℤ, suc, ◌+◌, ◌-◌, ◌&&◌, true, false, cond, List, [], ◌∷◌, ◌++◌, map, codes, Option, None, Some, refl, ap, ap₂, ◌∙◌, arith}
use Rattle.std.proofs.lemmas.Bool.{lt-ltb, le-leb}
use Rattle.std.specs.List.{flat_map}
use Rattle.ks_core.specs.Table.{KeysymTable}
use Rattle.kx_actions.specs.Arguments.{action_of, action_faults}
use Rattle.kx_actions.specs.Defaults.{no_defaults}
use Rattle.kx_actions.specs.Groups.{Written, change_of, written}
use Rattle.kx_actions.specs.declared.action.KeyAction.{KeyAction}
use Rattle.kx_builder.specs.Resolved.{ResolvedCell}
use Rattle.kx_lex.specs.declared.fault.Fault.{Fault}
use Rattle.kx_lex.specs.declared.token.Span.{Span}
use Rattle.kx_mods.specs.Mods.{mask}
use Rattle.kx_tree.specs.declared.tree.Argument.{Argument}
use Rattle.kx_tree.specs.declared.tree.Argument.TheVariants as arguments
use Rattle.kx_tree.specs.declared.tree.Call.{Call}
use Rattle.kx_tree.specs.declared.tree.Element.{Element}
use Rattle.kx_tree.specs.declared.tree.Expression.{Expression}
use Rattle.kx_tree.specs.declared.tree.Operation.{Operation}
use Rattle.kx_tree.specs.declared.tree.PlacedArgument.{PlacedArgument}
use Rattle.kx_tree.specs.declared.tree.Sign.TheVariants.{Plus, Minus}
use Rattle.kx_symbols.specs.Actions.{defined, element_action}
use Rattle.kx_symbols.specs.KeyFaults.{action_element_faults}
use Rattle.kx_symbols.specs.Known.{Known, no_defaults as nothing_given}
use Rattle.kx_tables.specs.Sound.{ActionHolds, GroupChangeHolds}
use Rattle.kx_tables.specs.declared.rows.Action.{Action}
use Rattle.kx_tables.specs.declared.rows.Action.TheVariants as rows
use Rattle.kx_tables.specs.declared.rows.GroupChange.{GroupChange}
use Rattle.kx_tables.specs.declared.rows.GroupChange.TheVariants.{Absolute, Relative}
use Rattle.kx_merge.specs.Words.{single, term_word, lone_word}
use Rattle.roundtrip_text.specs.Source.{EachOf, CellFits}
use Rattle.roundtrip_text.specs.Keys.{change_phrase, action_phrase, call_of}
use Rattle.roundtrip_text.proofs.Actions.{fall_bound, rise_bound}
use Rattle.roundtrip_tree.specs.Keys.{IsAddedWord, AreWordsOf, IsSetTo, IsArgumentOf, IsCallOf, IsActionOf}
use Rattle.roundtrip_tree.specs.Shows.{AreShown, name_at, none, more}
use Rattle.roundtrip_meaning.specs.Given.{key_action}
use Rattle.roundtrip_meaning.proofs.ActionMasks.{mask_back, mods_back}

-- ---- Values

-- one word
pub lone_is : (w : List ℕ) (e : Expression) → (is : AreWordsOf (w ∷ []) e) → lone_word e ≡ Some (name_at w is.0.0)
lone_is w e is = by e.rest is.1
  where
    by : (os : List Operation) → AreShown IsAddedWord [] os → single os (term_word e.first) ≡ Some (name_at w is.0.0)
    by [] none = ap term_word is.0.1
    by (o ∷ os) are = elim are [ ]

-- a change of the group, as it is written
record IsChange (change : GroupChange) (e : Expression) : Type 0 where
  how : Written
  written_is : written e ≡ Some how
  change_is : change_of how ≡ Some change

change_back : (change : GroupChange) → GroupChangeHolds change → (a : PlacedArgument) → IsArgumentOf (change_phrase change) a → IsSetTo (codes "group") (IsChange change) a
change_back (Absolute group) h a is = (
  is.0,
  is.1,
  is.2,
  record {
    how = (None, group + 1);
    written_is = ap written is.3.2;
    change_is = ap (λ t. let o : Option GroupChange = cond t (Some (Absolute (group + 1 - 1))) None in o) (ap₂ (λ a b. a && b) (lt-ltb 0 (group + 1) (omega arith)) (le-leb (group + 1) 32 (omega (arith, h))))
        ∙ (let same : group + 1 - 1 ≡ group = omega arith in ap (λ (n : ℕ). Some (Absolute n)) same);
  },
)
change_back (Relative (pos n)) h a is = (
  is.0,
  is.1,
  is.2,
  record {
    how = (Some Plus, n);
    written_is = ap written is.3.3;
    change_is = ap (λ t. let o : Option GroupChange = cond t (Some (Relative (pos n))) None in o) (le-leb n 32 (rise_bound n h));
  },
)
change_back (Relative (negsuc n)) h a is = (
  is.0,
  is.1,
  is.2,
  record {
    how = (Some Minus, n + 1);
    written_is = ap written is.3.3;
    change_is = ap (λ t. let o : Option GroupChange = cond t (Some (Relative (neg_ℤ (pos (n + 1))))) None in o) (le-leb (n + 1) 32 (let most = fall_bound n h in omega (arith, most)))
        ∙ (let same : n + 1 ≡ suc n = omega arith in ap (λ (m : ℕ). Some (Relative (neg_ℤ (pos m)))) same);
  },
)

-- ---- Calls

abbrev made_call : List ℕ → Span → List PlacedArgument → Span → Call
made_call w word xs whole = record { word = name_at w word; arguments = xs; span = whole }

abbrev placed : Argument → Span → PlacedArgument
placed argument span = record { argument = argument; span = span }

module _ (names : List (List ℕ)) where
  record IsAction (action : Action) (c : Call) : Type 0 where
    is : action_of names no_defaults c ≡ key_action action
    faultless : (file : ℕ) → action_faults file names c ≡ []

  action_reads : (action : Action) → ActionHolds action → (s t : Span) (xs : List PlacedArgument) → AreShown IsArgumentOf (action_phrase action).arguments xs → IsAction action (made_call (action_phrase action).word s xs t)
  action_reads rows.None h s t xs none = record { is = refl; faultless = λ file. refl }
  action_reads (rows.SetMods mods true) h s t xs (more {a = a} is_a (more {a = b} is_b none)) =
      let mask_a = mask_back names (mask mods) h is_a.1 is_a.3 in
      let at_a : a ≡ placed (arguments.Set (name_at (codes "modifiers") is_a.0) None is_a.1) a.span = ap (λ x. placed x a.span) is_a.2 in
      let word_b = lone_is (codes "clearLocks") is_b.0 is_b.2 in
      let at_b : b ≡ placed (arguments.Plain is_b.0) b.span = ap (λ x. placed x b.span) is_b.1 in
      let list : xs ≡ placed (arguments.Set (name_at (codes "modifiers") is_a.0) None is_a.1) a.span ∷ placed (arguments.Plain is_b.0) b.span ∷ [] = ap₂ (λ (x : PlacedArgument) ys. x ∷ ys) at_a (ap (λ x. x ∷ []) at_b) in
      let value : action_of names no_defaults (made_call (codes "SetMods") s (placed (arguments.Set (name_at (codes "modifiers") is_a.0) None is_a.1) a.span ∷ placed (arguments.Plain is_b.0) b.span ∷ []) t) ≡ key_action (rows.SetMods mods true) = rw (mods_back names (mask mods) h is_a.1 is_a.3, word_b) refl in
      let no_faults : (file : ℕ) → action_faults file names (made_call (codes "SetMods") s (placed (arguments.Set (name_at (codes "modifiers") is_a.0) None is_a.1) a.span ∷ placed (arguments.Plain is_b.0) b.span ∷ []) t) ≡ [] = λ file. rw (mask_a.no_modmap_is, mask_a.faultless file, word_b) refl in
      record { is = ap (λ ys. action_of names no_defaults (made_call (codes "SetMods") s ys t)) list ∙ value; faultless = λ file. ap (λ ys. action_faults file names (made_call (codes "SetMods") s ys t)) list ∙ no_faults file }
  action_reads (rows.SetMods mods false) h s t xs (more {a = a} is_a none) =
      let mask_a = mask_back names (mask mods) h is_a.1 is_a.3 in
      let at_a : a ≡ placed (arguments.Set (name_at (codes "modifiers") is_a.0) None is_a.1) a.span = ap (λ x. placed x a.span) is_a.2 in
      let list : xs ≡ placed (arguments.Set (name_at (codes "modifiers") is_a.0) None is_a.1) a.span ∷ [] = ap (λ x. x ∷ []) at_a in
      let value : action_of names no_defaults (made_call (codes "SetMods") s (placed (arguments.Set (name_at (codes "modifiers") is_a.0) None is_a.1) a.span ∷ []) t) ≡ key_action (rows.SetMods mods false) = rw (mods_back names (mask mods) h is_a.1 is_a.3) refl in
      let no_faults : (file : ℕ) → action_faults file names (made_call (codes "SetMods") s (placed (arguments.Set (name_at (codes "modifiers") is_a.0) None is_a.1) a.span ∷ []) t) ≡ [] = λ file. rw (mask_a.no_modmap_is, mask_a.faultless file) refl in
      record { is = ap (λ ys. action_of names no_defaults (made_call (codes "SetMods") s ys t)) list ∙ value; faultless = λ file. ap (λ ys. action_faults file names (made_call (codes "SetMods") s ys t)) list ∙ no_faults file }
  action_reads (rows.LatchMods mods true true) h s t xs (more {a = a} is_a (more {a = b} is_b (more {a = d} is_d none))) =
      let mask_a = mask_back names (mask mods) h is_a.1 is_a.3 in
      let at_a : a ≡ placed (arguments.Set (name_at (codes "modifiers") is_a.0) None is_a.1) a.span = ap (λ x. placed x a.span) is_a.2 in
      let word_b = lone_is (codes "clearLocks") is_b.0 is_b.2 in
      let at_b : b ≡ placed (arguments.Plain is_b.0) b.span = ap (λ x. placed x b.span) is_b.1 in
      let word_d = lone_is (codes "latchToLock") is_d.0 is_d.2 in
      let at_d : d ≡ placed (arguments.Plain is_d.0) d.span = ap (λ x. placed x d.span) is_d.1 in
      let list : xs ≡ placed (arguments.Set (name_at (codes "modifiers") is_a.0) None is_a.1) a.span ∷ placed (arguments.Plain is_b.0) b.span ∷ placed (arguments.Plain is_d.0) d.span ∷ [] = ap₂ (λ (x : PlacedArgument) ys. x ∷ ys) at_a (ap₂ (λ (x : PlacedArgument) ys. x ∷ ys) at_b (ap (λ x. x ∷ []) at_d)) in
      let value : action_of names no_defaults (made_call (codes "LatchMods") s (placed (arguments.Set (name_at (codes "modifiers") is_a.0) None is_a.1) a.span ∷ placed (arguments.Plain is_b.0) b.span ∷ placed (arguments.Plain is_d.0) d.span ∷ []) t) ≡ key_action (rows.LatchMods mods true true) = rw (mods_back names (mask mods) h is_a.1 is_a.3, word_b, word_d) refl in
      let no_faults : (file : ℕ) → action_faults file names (made_call (codes "LatchMods") s (placed (arguments.Set (name_at (codes "modifiers") is_a.0) None is_a.1) a.span ∷ placed (arguments.Plain is_b.0) b.span ∷ placed (arguments.Plain is_d.0) d.span ∷ []) t) ≡ [] = λ file. rw (mask_a.no_modmap_is, mask_a.faultless file, word_b, word_d) refl in
      record { is = ap (λ ys. action_of names no_defaults (made_call (codes "LatchMods") s ys t)) list ∙ value; faultless = λ file. ap (λ ys. action_faults file names (made_call (codes "LatchMods") s ys t)) list ∙ no_faults file }
  action_reads (rows.LatchMods mods true false) h s t xs (more {a = a} is_a (more {a = b} is_b none)) =
      let mask_a = mask_back names (mask mods) h is_a.1 is_a.3 in
      let at_a : a ≡ placed (arguments.Set (name_at (codes "modifiers") is_a.0) None is_a.1) a.span = ap (λ x. placed x a.span) is_a.2 in
      let word_b = lone_is (codes "clearLocks") is_b.0 is_b.2 in
      let at_b : b ≡ placed (arguments.Plain is_b.0) b.span = ap (λ x. placed x b.span) is_b.1 in
      let list : xs ≡ placed (arguments.Set (name_at (codes "modifiers") is_a.0) None is_a.1) a.span ∷ placed (arguments.Plain is_b.0) b.span ∷ [] = ap₂ (λ (x : PlacedArgument) ys. x ∷ ys) at_a (ap (λ x. x ∷ []) at_b) in
      let value : action_of names no_defaults (made_call (codes "LatchMods") s (placed (arguments.Set (name_at (codes "modifiers") is_a.0) None is_a.1) a.span ∷ placed (arguments.Plain is_b.0) b.span ∷ []) t) ≡ key_action (rows.LatchMods mods true false) = rw (mods_back names (mask mods) h is_a.1 is_a.3, word_b) refl in
      let no_faults : (file : ℕ) → action_faults file names (made_call (codes "LatchMods") s (placed (arguments.Set (name_at (codes "modifiers") is_a.0) None is_a.1) a.span ∷ placed (arguments.Plain is_b.0) b.span ∷ []) t) ≡ [] = λ file. rw (mask_a.no_modmap_is, mask_a.faultless file, word_b) refl in
      record { is = ap (λ ys. action_of names no_defaults (made_call (codes "LatchMods") s ys t)) list ∙ value; faultless = λ file. ap (λ ys. action_faults file names (made_call (codes "LatchMods") s ys t)) list ∙ no_faults file }
  action_reads (rows.LatchMods mods false true) h s t xs (more {a = a} is_a (more {a = b} is_b none)) =
      let mask_a = mask_back names (mask mods) h is_a.1 is_a.3 in
      let at_a : a ≡ placed (arguments.Set (name_at (codes "modifiers") is_a.0) None is_a.1) a.span = ap (λ x. placed x a.span) is_a.2 in
      let word_b = lone_is (codes "latchToLock") is_b.0 is_b.2 in
      let at_b : b ≡ placed (arguments.Plain is_b.0) b.span = ap (λ x. placed x b.span) is_b.1 in
      let list : xs ≡ placed (arguments.Set (name_at (codes "modifiers") is_a.0) None is_a.1) a.span ∷ placed (arguments.Plain is_b.0) b.span ∷ [] = ap₂ (λ (x : PlacedArgument) ys. x ∷ ys) at_a (ap (λ x. x ∷ []) at_b) in
      let value : action_of names no_defaults (made_call (codes "LatchMods") s (placed (arguments.Set (name_at (codes "modifiers") is_a.0) None is_a.1) a.span ∷ placed (arguments.Plain is_b.0) b.span ∷ []) t) ≡ key_action (rows.LatchMods mods false true) = rw (mods_back names (mask mods) h is_a.1 is_a.3, word_b) refl in
      let no_faults : (file : ℕ) → action_faults file names (made_call (codes "LatchMods") s (placed (arguments.Set (name_at (codes "modifiers") is_a.0) None is_a.1) a.span ∷ placed (arguments.Plain is_b.0) b.span ∷ []) t) ≡ [] = λ file. rw (mask_a.no_modmap_is, mask_a.faultless file, word_b) refl in
      record { is = ap (λ ys. action_of names no_defaults (made_call (codes "LatchMods") s ys t)) list ∙ value; faultless = λ file. ap (λ ys. action_faults file names (made_call (codes "LatchMods") s ys t)) list ∙ no_faults file }
  action_reads (rows.LatchMods mods false false) h s t xs (more {a = a} is_a none) =
      let mask_a = mask_back names (mask mods) h is_a.1 is_a.3 in
      let at_a : a ≡ placed (arguments.Set (name_at (codes "modifiers") is_a.0) None is_a.1) a.span = ap (λ x. placed x a.span) is_a.2 in
      let list : xs ≡ placed (arguments.Set (name_at (codes "modifiers") is_a.0) None is_a.1) a.span ∷ [] = ap (λ x. x ∷ []) at_a in
      let value : action_of names no_defaults (made_call (codes "LatchMods") s (placed (arguments.Set (name_at (codes "modifiers") is_a.0) None is_a.1) a.span ∷ []) t) ≡ key_action (rows.LatchMods mods false false) = rw (mods_back names (mask mods) h is_a.1 is_a.3) refl in
      let no_faults : (file : ℕ) → action_faults file names (made_call (codes "LatchMods") s (placed (arguments.Set (name_at (codes "modifiers") is_a.0) None is_a.1) a.span ∷ []) t) ≡ [] = λ file. rw (mask_a.no_modmap_is, mask_a.faultless file) refl in
      record { is = ap (λ ys. action_of names no_defaults (made_call (codes "LatchMods") s ys t)) list ∙ value; faultless = λ file. ap (λ ys. action_faults file names (made_call (codes "LatchMods") s ys t)) list ∙ no_faults file }
  action_reads (rows.LockMods mods true true) h s t xs (more {a = a} is_a none) =
      let mask_a = mask_back names (mask mods) h is_a.1 is_a.3 in
      let at_a : a ≡ placed (arguments.Set (name_at (codes "modifiers") is_a.0) None is_a.1) a.span = ap (λ x. placed x a.span) is_a.2 in
      let list : xs ≡ placed (arguments.Set (name_at (codes "modifiers") is_a.0) None is_a.1) a.span ∷ [] = ap (λ x. x ∷ []) at_a in
      let value : action_of names no_defaults (made_call (codes "LockMods") s (placed (arguments.Set (name_at (codes "modifiers") is_a.0) None is_a.1) a.span ∷ []) t) ≡ key_action (rows.LockMods mods true true) = rw (mods_back names (mask mods) h is_a.1 is_a.3) refl in
      let no_faults : (file : ℕ) → action_faults file names (made_call (codes "LockMods") s (placed (arguments.Set (name_at (codes "modifiers") is_a.0) None is_a.1) a.span ∷ []) t) ≡ [] = λ file. rw (mask_a.no_modmap_is, mask_a.faultless file) refl in
      record { is = ap (λ ys. action_of names no_defaults (made_call (codes "LockMods") s ys t)) list ∙ value; faultless = λ file. ap (λ ys. action_faults file names (made_call (codes "LockMods") s ys t)) list ∙ no_faults file }
  action_reads (rows.LockMods mods true false) h s t xs (more {a = a} is_a (more {a = b} is_b none)) =
      let mask_a = mask_back names (mask mods) h is_a.1 is_a.3 in
      let at_a : a ≡ placed (arguments.Set (name_at (codes "modifiers") is_a.0) None is_a.1) a.span = ap (λ x. placed x a.span) is_a.2 in
      let word_b = lone_is (codes "lock") is_b.1 is_b.3 in
      let at_b : b ≡ placed (arguments.Set (name_at (codes "affect") is_b.0) None is_b.1) b.span = ap (λ x. placed x b.span) is_b.2 in
      let list : xs ≡ placed (arguments.Set (name_at (codes "modifiers") is_a.0) None is_a.1) a.span ∷ placed (arguments.Set (name_at (codes "affect") is_b.0) None is_b.1) b.span ∷ [] = ap₂ (λ (x : PlacedArgument) ys. x ∷ ys) at_a (ap (λ x. x ∷ []) at_b) in
      let value : action_of names no_defaults (made_call (codes "LockMods") s (placed (arguments.Set (name_at (codes "modifiers") is_a.0) None is_a.1) a.span ∷ placed (arguments.Set (name_at (codes "affect") is_b.0) None is_b.1) b.span ∷ []) t) ≡ key_action (rows.LockMods mods true false) = rw (mods_back names (mask mods) h is_a.1 is_a.3, word_b) refl in
      let no_faults : (file : ℕ) → action_faults file names (made_call (codes "LockMods") s (placed (arguments.Set (name_at (codes "modifiers") is_a.0) None is_a.1) a.span ∷ placed (arguments.Set (name_at (codes "affect") is_b.0) None is_b.1) b.span ∷ []) t) ≡ [] = λ file. rw (mask_a.no_modmap_is, mask_a.faultless file, word_b) refl in
      record { is = ap (λ ys. action_of names no_defaults (made_call (codes "LockMods") s ys t)) list ∙ value; faultless = λ file. ap (λ ys. action_faults file names (made_call (codes "LockMods") s ys t)) list ∙ no_faults file }
  action_reads (rows.LockMods mods false true) h s t xs (more {a = a} is_a (more {a = b} is_b none)) =
      let mask_a = mask_back names (mask mods) h is_a.1 is_a.3 in
      let at_a : a ≡ placed (arguments.Set (name_at (codes "modifiers") is_a.0) None is_a.1) a.span = ap (λ x. placed x a.span) is_a.2 in
      let word_b = lone_is (codes "unlock") is_b.1 is_b.3 in
      let at_b : b ≡ placed (arguments.Set (name_at (codes "affect") is_b.0) None is_b.1) b.span = ap (λ x. placed x b.span) is_b.2 in
      let list : xs ≡ placed (arguments.Set (name_at (codes "modifiers") is_a.0) None is_a.1) a.span ∷ placed (arguments.Set (name_at (codes "affect") is_b.0) None is_b.1) b.span ∷ [] = ap₂ (λ (x : PlacedArgument) ys. x ∷ ys) at_a (ap (λ x. x ∷ []) at_b) in
      let value : action_of names no_defaults (made_call (codes "LockMods") s (placed (arguments.Set (name_at (codes "modifiers") is_a.0) None is_a.1) a.span ∷ placed (arguments.Set (name_at (codes "affect") is_b.0) None is_b.1) b.span ∷ []) t) ≡ key_action (rows.LockMods mods false true) = rw (mods_back names (mask mods) h is_a.1 is_a.3, word_b) refl in
      let no_faults : (file : ℕ) → action_faults file names (made_call (codes "LockMods") s (placed (arguments.Set (name_at (codes "modifiers") is_a.0) None is_a.1) a.span ∷ placed (arguments.Set (name_at (codes "affect") is_b.0) None is_b.1) b.span ∷ []) t) ≡ [] = λ file. rw (mask_a.no_modmap_is, mask_a.faultless file, word_b) refl in
      record { is = ap (λ ys. action_of names no_defaults (made_call (codes "LockMods") s ys t)) list ∙ value; faultless = λ file. ap (λ ys. action_faults file names (made_call (codes "LockMods") s ys t)) list ∙ no_faults file }
  action_reads (rows.LockMods mods false false) h s t xs (more {a = a} is_a (more {a = b} is_b none)) =
      let mask_a = mask_back names (mask mods) h is_a.1 is_a.3 in
      let at_a : a ≡ placed (arguments.Set (name_at (codes "modifiers") is_a.0) None is_a.1) a.span = ap (λ x. placed x a.span) is_a.2 in
      let word_b = lone_is (codes "neither") is_b.1 is_b.3 in
      let at_b : b ≡ placed (arguments.Set (name_at (codes "affect") is_b.0) None is_b.1) b.span = ap (λ x. placed x b.span) is_b.2 in
      let list : xs ≡ placed (arguments.Set (name_at (codes "modifiers") is_a.0) None is_a.1) a.span ∷ placed (arguments.Set (name_at (codes "affect") is_b.0) None is_b.1) b.span ∷ [] = ap₂ (λ (x : PlacedArgument) ys. x ∷ ys) at_a (ap (λ x. x ∷ []) at_b) in
      let value : action_of names no_defaults (made_call (codes "LockMods") s (placed (arguments.Set (name_at (codes "modifiers") is_a.0) None is_a.1) a.span ∷ placed (arguments.Set (name_at (codes "affect") is_b.0) None is_b.1) b.span ∷ []) t) ≡ key_action (rows.LockMods mods false false) = rw (mods_back names (mask mods) h is_a.1 is_a.3, word_b) refl in
      let no_faults : (file : ℕ) → action_faults file names (made_call (codes "LockMods") s (placed (arguments.Set (name_at (codes "modifiers") is_a.0) None is_a.1) a.span ∷ placed (arguments.Set (name_at (codes "affect") is_b.0) None is_b.1) b.span ∷ []) t) ≡ [] = λ file. rw (mask_a.no_modmap_is, mask_a.faultless file, word_b) refl in
      record { is = ap (λ ys. action_of names no_defaults (made_call (codes "LockMods") s ys t)) list ∙ value; faultless = λ file. ap (λ ys. action_faults file names (made_call (codes "LockMods") s ys t)) list ∙ no_faults file }
  action_reads (rows.SetGroup group true) h s t xs (more {a = a} is_a (more {a = b} is_b none)) =
      let change_a = change_back group h a is_a in
      let at_a : a ≡ placed (arguments.Set (name_at (codes "group") change_a.0) None change_a.1) a.span = ap (λ x. placed x a.span) change_a.2 in
      let word_b = lone_is (codes "clearLocks") is_b.0 is_b.2 in
      let at_b : b ≡ placed (arguments.Plain is_b.0) b.span = ap (λ x. placed x b.span) is_b.1 in
      let list : xs ≡ placed (arguments.Set (name_at (codes "group") change_a.0) None change_a.1) a.span ∷ placed (arguments.Plain is_b.0) b.span ∷ [] = ap₂ (λ (x : PlacedArgument) ys. x ∷ ys) at_a (ap (λ x. x ∷ []) at_b) in
      let value : action_of names no_defaults (made_call (codes "SetGroup") s (placed (arguments.Set (name_at (codes "group") change_a.0) None change_a.1) a.span ∷ placed (arguments.Plain is_b.0) b.span ∷ []) t) ≡ key_action (rows.SetGroup group true) = rw (change_a.3.written_is, change_a.3.change_is, word_b) refl in
      let no_faults : (file : ℕ) → action_faults file names (made_call (codes "SetGroup") s (placed (arguments.Set (name_at (codes "group") change_a.0) None change_a.1) a.span ∷ placed (arguments.Plain is_b.0) b.span ∷ []) t) ≡ [] = λ file. rw (change_a.3.written_is, change_a.3.change_is, word_b) refl in
      record { is = ap (λ ys. action_of names no_defaults (made_call (codes "SetGroup") s ys t)) list ∙ value; faultless = λ file. ap (λ ys. action_faults file names (made_call (codes "SetGroup") s ys t)) list ∙ no_faults file }
  action_reads (rows.SetGroup group false) h s t xs (more {a = a} is_a none) =
      let change_a = change_back group h a is_a in
      let at_a : a ≡ placed (arguments.Set (name_at (codes "group") change_a.0) None change_a.1) a.span = ap (λ x. placed x a.span) change_a.2 in
      let list : xs ≡ placed (arguments.Set (name_at (codes "group") change_a.0) None change_a.1) a.span ∷ [] = ap (λ x. x ∷ []) at_a in
      let value : action_of names no_defaults (made_call (codes "SetGroup") s (placed (arguments.Set (name_at (codes "group") change_a.0) None change_a.1) a.span ∷ []) t) ≡ key_action (rows.SetGroup group false) = rw (change_a.3.written_is, change_a.3.change_is) refl in
      let no_faults : (file : ℕ) → action_faults file names (made_call (codes "SetGroup") s (placed (arguments.Set (name_at (codes "group") change_a.0) None change_a.1) a.span ∷ []) t) ≡ [] = λ file. rw (change_a.3.written_is, change_a.3.change_is) refl in
      record { is = ap (λ ys. action_of names no_defaults (made_call (codes "SetGroup") s ys t)) list ∙ value; faultless = λ file. ap (λ ys. action_faults file names (made_call (codes "SetGroup") s ys t)) list ∙ no_faults file }
  action_reads (rows.LatchGroup group true true) h s t xs (more {a = a} is_a (more {a = b} is_b (more {a = d} is_d none))) =
      let change_a = change_back group h a is_a in
      let at_a : a ≡ placed (arguments.Set (name_at (codes "group") change_a.0) None change_a.1) a.span = ap (λ x. placed x a.span) change_a.2 in
      let word_b = lone_is (codes "clearLocks") is_b.0 is_b.2 in
      let at_b : b ≡ placed (arguments.Plain is_b.0) b.span = ap (λ x. placed x b.span) is_b.1 in
      let word_d = lone_is (codes "latchToLock") is_d.0 is_d.2 in
      let at_d : d ≡ placed (arguments.Plain is_d.0) d.span = ap (λ x. placed x d.span) is_d.1 in
      let list : xs ≡ placed (arguments.Set (name_at (codes "group") change_a.0) None change_a.1) a.span ∷ placed (arguments.Plain is_b.0) b.span ∷ placed (arguments.Plain is_d.0) d.span ∷ [] = ap₂ (λ (x : PlacedArgument) ys. x ∷ ys) at_a (ap₂ (λ (x : PlacedArgument) ys. x ∷ ys) at_b (ap (λ x. x ∷ []) at_d)) in
      let value : action_of names no_defaults (made_call (codes "LatchGroup") s (placed (arguments.Set (name_at (codes "group") change_a.0) None change_a.1) a.span ∷ placed (arguments.Plain is_b.0) b.span ∷ placed (arguments.Plain is_d.0) d.span ∷ []) t) ≡ key_action (rows.LatchGroup group true true) = rw (change_a.3.written_is, change_a.3.change_is, word_b, word_d) refl in
      let no_faults : (file : ℕ) → action_faults file names (made_call (codes "LatchGroup") s (placed (arguments.Set (name_at (codes "group") change_a.0) None change_a.1) a.span ∷ placed (arguments.Plain is_b.0) b.span ∷ placed (arguments.Plain is_d.0) d.span ∷ []) t) ≡ [] = λ file. rw (change_a.3.written_is, change_a.3.change_is, word_b, word_d) refl in
      record { is = ap (λ ys. action_of names no_defaults (made_call (codes "LatchGroup") s ys t)) list ∙ value; faultless = λ file. ap (λ ys. action_faults file names (made_call (codes "LatchGroup") s ys t)) list ∙ no_faults file }
  action_reads (rows.LatchGroup group true false) h s t xs (more {a = a} is_a (more {a = b} is_b none)) =
      let change_a = change_back group h a is_a in
      let at_a : a ≡ placed (arguments.Set (name_at (codes "group") change_a.0) None change_a.1) a.span = ap (λ x. placed x a.span) change_a.2 in
      let word_b = lone_is (codes "clearLocks") is_b.0 is_b.2 in
      let at_b : b ≡ placed (arguments.Plain is_b.0) b.span = ap (λ x. placed x b.span) is_b.1 in
      let list : xs ≡ placed (arguments.Set (name_at (codes "group") change_a.0) None change_a.1) a.span ∷ placed (arguments.Plain is_b.0) b.span ∷ [] = ap₂ (λ (x : PlacedArgument) ys. x ∷ ys) at_a (ap (λ x. x ∷ []) at_b) in
      let value : action_of names no_defaults (made_call (codes "LatchGroup") s (placed (arguments.Set (name_at (codes "group") change_a.0) None change_a.1) a.span ∷ placed (arguments.Plain is_b.0) b.span ∷ []) t) ≡ key_action (rows.LatchGroup group true false) = rw (change_a.3.written_is, change_a.3.change_is, word_b) refl in
      let no_faults : (file : ℕ) → action_faults file names (made_call (codes "LatchGroup") s (placed (arguments.Set (name_at (codes "group") change_a.0) None change_a.1) a.span ∷ placed (arguments.Plain is_b.0) b.span ∷ []) t) ≡ [] = λ file. rw (change_a.3.written_is, change_a.3.change_is, word_b) refl in
      record { is = ap (λ ys. action_of names no_defaults (made_call (codes "LatchGroup") s ys t)) list ∙ value; faultless = λ file. ap (λ ys. action_faults file names (made_call (codes "LatchGroup") s ys t)) list ∙ no_faults file }
  action_reads (rows.LatchGroup group false true) h s t xs (more {a = a} is_a (more {a = b} is_b none)) =
      let change_a = change_back group h a is_a in
      let at_a : a ≡ placed (arguments.Set (name_at (codes "group") change_a.0) None change_a.1) a.span = ap (λ x. placed x a.span) change_a.2 in
      let word_b = lone_is (codes "latchToLock") is_b.0 is_b.2 in
      let at_b : b ≡ placed (arguments.Plain is_b.0) b.span = ap (λ x. placed x b.span) is_b.1 in
      let list : xs ≡ placed (arguments.Set (name_at (codes "group") change_a.0) None change_a.1) a.span ∷ placed (arguments.Plain is_b.0) b.span ∷ [] = ap₂ (λ (x : PlacedArgument) ys. x ∷ ys) at_a (ap (λ x. x ∷ []) at_b) in
      let value : action_of names no_defaults (made_call (codes "LatchGroup") s (placed (arguments.Set (name_at (codes "group") change_a.0) None change_a.1) a.span ∷ placed (arguments.Plain is_b.0) b.span ∷ []) t) ≡ key_action (rows.LatchGroup group false true) = rw (change_a.3.written_is, change_a.3.change_is, word_b) refl in
      let no_faults : (file : ℕ) → action_faults file names (made_call (codes "LatchGroup") s (placed (arguments.Set (name_at (codes "group") change_a.0) None change_a.1) a.span ∷ placed (arguments.Plain is_b.0) b.span ∷ []) t) ≡ [] = λ file. rw (change_a.3.written_is, change_a.3.change_is, word_b) refl in
      record { is = ap (λ ys. action_of names no_defaults (made_call (codes "LatchGroup") s ys t)) list ∙ value; faultless = λ file. ap (λ ys. action_faults file names (made_call (codes "LatchGroup") s ys t)) list ∙ no_faults file }
  action_reads (rows.LatchGroup group false false) h s t xs (more {a = a} is_a none) =
      let change_a = change_back group h a is_a in
      let at_a : a ≡ placed (arguments.Set (name_at (codes "group") change_a.0) None change_a.1) a.span = ap (λ x. placed x a.span) change_a.2 in
      let list : xs ≡ placed (arguments.Set (name_at (codes "group") change_a.0) None change_a.1) a.span ∷ [] = ap (λ x. x ∷ []) at_a in
      let value : action_of names no_defaults (made_call (codes "LatchGroup") s (placed (arguments.Set (name_at (codes "group") change_a.0) None change_a.1) a.span ∷ []) t) ≡ key_action (rows.LatchGroup group false false) = rw (change_a.3.written_is, change_a.3.change_is) refl in
      let no_faults : (file : ℕ) → action_faults file names (made_call (codes "LatchGroup") s (placed (arguments.Set (name_at (codes "group") change_a.0) None change_a.1) a.span ∷ []) t) ≡ [] = λ file. rw (change_a.3.written_is, change_a.3.change_is) refl in
      record { is = ap (λ ys. action_of names no_defaults (made_call (codes "LatchGroup") s ys t)) list ∙ value; faultless = λ file. ap (λ ys. action_faults file names (made_call (codes "LatchGroup") s ys t)) list ∙ no_faults file }
  action_reads (rows.LockGroup group) h s t xs (more {a = a} is_a none) =
      let change_a = change_back group h a is_a in
      let at_a : a ≡ placed (arguments.Set (name_at (codes "group") change_a.0) None change_a.1) a.span = ap (λ x. placed x a.span) change_a.2 in
      let list : xs ≡ placed (arguments.Set (name_at (codes "group") change_a.0) None change_a.1) a.span ∷ [] = ap (λ x. x ∷ []) at_a in
      let value : action_of names no_defaults (made_call (codes "LockGroup") s (placed (arguments.Set (name_at (codes "group") change_a.0) None change_a.1) a.span ∷ []) t) ≡ key_action (rows.LockGroup group) = rw (change_a.3.written_is, change_a.3.change_is) refl in
      let no_faults : (file : ℕ) → action_faults file names (made_call (codes "LockGroup") s (placed (arguments.Set (name_at (codes "group") change_a.0) None change_a.1) a.span ∷ []) t) ≡ [] = λ file. rw (change_a.3.written_is, change_a.3.change_is) refl in
      record { is = ap (λ ys. action_of names no_defaults (made_call (codes "LockGroup") s ys t)) list ∙ value; faultless = λ file. ap (λ ys. action_faults file names (made_call (codes "LockGroup") s ys t)) list ∙ no_faults file }

  -- a call by what it shows
  action_back : (action : Action) → ActionHolds action → (c : Call) → IsCallOf (action_phrase action) c → IsAction action c
  action_back action h c is =
      let r = action_reads action h is.word_span c.span c.arguments is.are in
      let same : c ≡ made_call (action_phrase action).word is.word_span c.arguments c.span = ap (λ w. let d : Call = record { word = w; arguments = c.arguments; span = c.span } in d) is.word_is in
      record { is = ap (action_of names no_defaults) same ∙ r.is; faultless = λ file. ap (action_faults file names) same ∙ r.faultless file }

-- ---- Levels

abbrev pub known_by : KeysymTable → List (List ℕ) → Known
known_by names modifiers = record { names = names; modifiers = modifiers; defaults = nothing_given }

pub actions_back : (names : KeysymTable) (modifiers : List (List ℕ)) (cells : List ResolvedCell) → EachOf CellFits cells → (es : List Element) → AreShown IsActionOf (map call_of cells) es
    → map (element_action (known_by names modifiers)) es ≡ map (λ (d : ResolvedCell). defined (key_action d.action)) cells
actions_back names modifiers [] all [] none = refl
actions_back names modifiers [] all (e ∷ es) are = elim are [ ]
actions_back names modifiers (d ∷ ds) all [] are = elim are [ ]
actions_back names modifiers (d ∷ ds) all (e ∷ es) (more one are) =
    ap₂ (λ (o : Option KeyAction) os. o ∷ os) (ap (element_action (known_by names modifiers)) one.1 ∙ ap defined (action_back modifiers d.action all.0.does one.0 one.2).is) (actions_back names modifiers ds all.1 es are)

pub actions_faultless : (file : ℕ) (modifiers : List (List ℕ)) (cells : List ResolvedCell) → EachOf CellFits cells → (es : List Element) → AreShown IsActionOf (map call_of cells) es → flat_map (action_element_faults file modifiers) es ≡ []
actions_faultless file modifiers [] all [] none = refl
actions_faultless file modifiers [] all (e ∷ es) are = elim are [ ]
actions_faultless file modifiers (d ∷ ds) all [] are = elim are [ ]
actions_faultless file modifiers (d ∷ ds) all (e ∷ es) (more one are) =
    ap₂ (λ (a : List Fault) b. a ++ b) (ap (action_element_faults file modifiers) one.1 ∙ (action_back modifiers d.action all.0.does one.0 one.2).faultless file) (actions_faultless file modifiers ds all.1 es are)
