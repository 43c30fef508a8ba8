-- Lines that are read in turn.
use Rattle.std.proofs.Common.{◌≡◌, ℕ, ◌+◌, ◌<◌, ◌≤◌, Bool, true, false, ◌&&◌, not, cond, List, [], ◌∷◌, ◌++◌, ◌⊎◌, inl, inr, length, Option, None, Some, is_some, refl, sym, ap, ap₂, subst, ◌∙◌, arith, append_assoc, length-append}
use Rattle.std.proofs.Math.Seq.{take-append_seam, get_or-append_seam}
use Rattle.std.proofs.lemmas.Bool.{and_parts, cases_lt}
use Rattle.std.proofs.lemmas.List.Folds.{list_all-append}
use Rattle.std.proofs.lemmas.List.Sums.{fold-append}
use Rattle.std.specs.List.{list_all}
use Rattle.std.specs.Option.{option_or}
use Rattle.ks_core.specs.BuiltIn.{built_in}
use Rattle.ks_core.specs.Entry.{Entry, keysym_in}
use Rattle.ks_core.specs.Lines.{is_skipped, has_shape, is_given_name, is_number, name_part, value_part, number_in, entry_of, known_keysym, own_fault, fault_of_line, with_entry, given_after, given_by, fault_at, is_sound, IsFirstFault}
use Rattle.kx_basics.specs.Keysyms.{is_keysym}
use Rattle.ks_core.specs.declared.fault.NameFault.{NameFault}
use Rattle.ks_core.specs.declared.fault.NameFault.TheVariants.{LineShape, Value}

-- the lines that were read have no fault and gave these names, and the others are left
pub record ReadSoFar (lines : List (List ℕ)) (number : ℕ) (given : List Entry) (left : List (List ℕ)) : Type 0 where
  pub done : List (List ℕ)
  pub parted : lines ≡ done ++ left
  pub counted : number ≡ length done
  pub gave : given ≡ given_by done
  pub valid : (index : ℕ) → index < length done → fault_at lines index ≡ None

pub ReadSoFar-start : (lines : List (List ℕ)) → ReadSoFar lines 0 [] lines
unfolding given_by
ReadSoFar-start lines = record { done = []; parted = refl; counted = refl; gave = refl; valid = λ index below. absurd (omega arith) }

module _ (lines : List (List ℕ)) (number : ℕ) (given : List Entry) (line : List ℕ) (left : List (List ℕ)) (h : ReadSoFar lines number given (line ∷ left)) where
  -- the fault of the next line
  fault_at-next : fault_at lines number ≡ fault_of_line given (number + 1) line
  unfolding fault_at
  fault_at-next =
      let same : (ls : List (List ℕ)) → ls ≡ lines → fault_at ls number ≡ fault_at lines number = λ ls e. ap (λ l. fault_at l number) e in
      sym (same (h.done ++ line ∷ left) (sym h.parted))
      ∙ rw h.counted
      (ap₂ (λ l m. fault_of_line (given_by l) (length h.done + 1) m) (take-append_seam h.done (line ∷ left)) (get_or-append_seam h.done line left [])
      ∙ ap (λ g. fault_of_line g (length h.done + 1) line) (sym h.gave))

  pub ReadSoFar-fault : (fault : NameFault) → fault_of_line given (number + 1) line ≡ Some fault → IsFirstFault lines fault
  ReadSoFar-fault fault is =
      record {
        index = number;
        within = rw (h.parted, h.counted) (omega (arith, length-append h.done (line ∷ left)));
        is = fault_at-next ∙ is;
        before = λ earlier below. h.valid earlier (rw (← h.counted) below);
      }

  pub ReadSoFar-next : fault_of_line given (number + 1) line ≡ None → ReadSoFar lines (number + 1) (given_after given line) left
  unfolding given_by
  ReadSoFar-next none =
      record {
        done = h.done ++ line ∷ [];
        parted = h.parted ∙ sym (append_assoc h.done (line ∷ []) left);
        counted = ap (λ n. n + 1) h.counted ∙ sym (length-append h.done (line ∷ []));
        gave = ap (λ g. given_after g line) h.gave ∙ sym (fold-append given_after [] h.done (line ∷ []));
        valid = λ index below.
            let le : index < length h.done + 1 = omega (arith, length-append h.done (line ∷ []), below) in
            by index (cases_lt index (length h.done)) le;
      }
    where
      by : (index : ℕ) → (index < length h.done) ⊎ (length h.done ≤ index) → index < length h.done + 1 → fault_at lines index ≡ None
      by index (inl before) below = h.valid index before
      by index (inr at) below = let here : index ≡ number = omega (arith, h.counted) in rw here (fault_at-next ∙ none)

-- ---- each name that is given is sound
option_or-none : {X : Type 0} (a b : Option X) → option_or a b ≡ None → a ≡ None
option_or-none None b h = refl
option_or-none (Some x) b h = cc

some_fault : {X : Type 0} (b : Bool) (x : X) (o : Option X) → cond b (Some x) o ≡ None → (b ≡ false) × (o ≡ None)
some_fault true x o h = cc
some_fault false x o h = (refl, h)

not-false : (b : Bool) → not b ≡ false → b ≡ true
not-false true h = refl
not-false false h = sym h

shaped : (number : ℕ) (line : List ℕ) → own_fault number line ≡ None → is_skipped line ≡ false → (is_given_name (name_part line) ≡ true) × (is_keysym (entry_of line).1 ≡ true)
unfolding own_fault
shaped number line none read =
    let rest = subst (λ s. cond s None (cond (not (has_shape line)) (Some (LineShape number)) (cond (not (is_keysym (entry_of line).1)) (Some (Value number)) None)) ≡ None) read none in
    let shape = some_fault (not (has_shape line)) (LineShape number) (cond (not (is_keysym (entry_of line).1)) (Some (Value number)) None) rest in
    let value = some_fault (not (is_keysym (entry_of line).1)) (Value number) None shape.1 in (
      (and_parts (is_given_name (name_part line)) (is_number (value_part line)) (not-false (has_shape line) shape.0)).0,
      not-false (is_keysym (entry_of line).1) value.0,
    )

is_some-none : {X : Type 0} (o : Option X) → is_some o ≡ false → o ≡ None
is_some-none None h = refl
is_some-none (Some x) h = cc

sound_entry : (given : List Entry) (line : List ℕ) → is_given_name (name_part line) ≡ true → is_keysym (entry_of line).1 ≡ true → is_some (known_keysym given (entry_of line).0) ≡ false → is_sound (entry_of line) ≡ true
unfolding is_sound entry_of known_keysym
sound_entry given line name value new =
    let absent : keysym_in built_in (name_part line) ≡ None = option_or-none _ _ (is_some-none (option_or (keysym_in built_in (name_part line)) (keysym_in given (name_part line))) new) in
    ap (λ b. b && is_keysym (number_in (value_part line)) && not (is_some (keysym_in built_in (name_part line)))) name
    ∙ ap (λ b. b && not (is_some (keysym_in built_in (name_part line)))) value ∙ ap (λ o. not (is_some o)) absent

pub sound_after : (given : List Entry) (number : ℕ) (line : List ℕ) → list_all is_sound given ≡ true → fault_of_line given number line ≡ None → list_all is_sound (given_after given line) ≡ true
unfolding fault_of_line given_after with_entry
sound_after given number line sound none = by (is_skipped line) refl (is_some (known_keysym given (entry_of line).0)) refl
  where
    own : own_fault number line ≡ None
    own = option_or-none (own_fault number line) _ none

    by : (s : Bool) → is_skipped line ≡ s → (k : Bool) → is_some (known_keysym given (entry_of line).0) ≡ k → list_all is_sound (cond s given (cond k given (given ++ entry_of line ∷ []))) ≡ true
    by true skipped k known = sound
    by false read true known = sound
    by false read false new =
        let shape = shaped number line own read in
        list_all-append is_sound given (entry_of line ∷ []) ∙ ap (λ b. b && (is_sound (entry_of line) && true)) sound
        ∙ ap (λ b. b && true) (sound_entry given line shape.0 shape.1 new)
