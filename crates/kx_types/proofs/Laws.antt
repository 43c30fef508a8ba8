-- What fields declare is lawful where each level that they name is one.
use Rattle.std.proofs.Common.{◌≡◌, ℕ, ◌≤◌, ◌==◌, max, nat_eq, Bool, true, false, List, [], ◌∷◌, ◌++◌, fold, Option, None, Some, unwrap_or, ap, ◌∙◌, All, arith, if◌then◌else◌}
use Rattle.std.specs.List.{list_any}
use Rattle.std.specs.Int.RustNames.{bit_and}
use Rattle.std.specs.Int.Bits.{and_self}
use Rattle.std.proofs.lemmas.Nat.{and_assoc}
use Rattle.std.proofs.lemmas.List.Elements.{All-nil, All-push, All-map, All-weaker, All-head, All-tail}
use Rattle.std.specs.Option.{option_or}
use Rattle.indexmap.specs.IndexSet.{insert_key}
use Rattle.kx_basics.specs.declared.limits.TheConstants.{MOST_LEVELS}
use Rattle.kx_virtual_mods.specs.Sets.{meet}
use Rattle.kx_merge.specs.Last.{last_given}
use Rattle.kx_types.specs.Firsts.{with_key, each_once}
use Rattle.kx_types.specs.KeyTypes.{Definition, definition_of, entry_of, level_in, levels_of, mapped, mask_in, modifiers_of, preserved}
use Rattle.kx_types.specs.Lawful.{EntryIsLawful, IsLawful, NamesLevel}
use Rattle.kx_types.specs.declared.saying.Saying.{Saying}
use Rattle.kx_types.specs.declared.saying.Saying.TheVariants.{Modifiers, Map, Preserve, LevelName}

meet-again : (a b : ℕ) → meet (meet a b) b ≡ meet a b
meet-again a b = and_assoc b a b ∙ ap (bit_and a) (and_self b)

module _ {K : Type 0} (P : K → Type 0) (eq : K → K → Bool) where
  All-insert : (ks : List K) (k : K) → All P ks → P k → All P (insert_key eq ks k)
  All-insert ks k all here = elim (list_any (eq k) ks) as (λ b. All P (if b then ks else ks ++ k ∷ [])) [ true ↦ all | false ↦ All-push P ks k all here ]

-- each mask that is kept was cut
cut_mask : (modifiers : ℕ) (said : List Saying) (ks : List ℕ) → All (λ m. meet m modifiers ≡ m) ks → All (λ m. meet m modifiers ≡ m) (fold (λ ks x. with_key nat_eq (mask_in modifiers) ks (mask_in modifiers x)) ks said)
cut_mask modifiers [] ks all = all
cut_mask modifiers (Modifiers names ∷ said) ks all = cut_mask modifiers said ks all
cut_mask modifiers (LevelName level ∷ said) ks all = cut_mask modifiers said ks all
cut_mask modifiers (Map mask level ∷ said) ks all = cut_mask modifiers said (insert_key nat_eq ks (meet mask modifiers)) (All-insert (λ m. meet m modifiers ≡ m) nat_eq ks (meet mask modifiers) all (meet-again mask modifiers))
cut_mask modifiers (Preserve mask kept ∷ said) ks all = cut_mask modifiers said (insert_key nat_eq ks (meet mask modifiers)) (All-insert (λ m. meet m modifiers ≡ m) nat_eq ks (meet mask modifiers) all (meet-again mask modifiers))

-- a level that was given last is one, and none is greater than the greatest
abbrev IsWithin : ℕ → Option ℕ → Type 0
IsWithin most None = Unit {0}
IsWithin most (Some level) = (1 ≤ level) × (level ≤ most)

raised : (old new : ℕ) (o : Option ℕ) → old ≤ new → IsWithin old o → IsWithin new o
raised old new None more h = tt
raised old new (Some level) more h = (h.0, omega (arith, more, h.1))

most_named : (said : List Saying) (most : ℕ) → most ≤ fold (λ most s. max most (level_in s)) most said
most_named [] most = omega arith
most_named (s ∷ said) most = let rest = most_named said (max most (level_in s)) in omega (arith, rest)

few_named : (said : List Saying) (most : ℕ) → most ≤ MOST_LEVELS → All NamesLevel said → fold (λ most s. max most (level_in s)) most said ≤ MOST_LEVELS
few_named [] most few all = few
few_named (s ∷ said) most few all = few_named said (max most (level_in s)) (here s (All-head NamesLevel s said all)) (All-tail NamesLevel s said all)
  where
    here : (s : Saying) → NamesLevel s → max most (level_in s) ≤ MOST_LEVELS
    here (Modifiers names) h = omega (arith, few)
    here (Preserve mask kept) h = omega (arith, few)
    here (Map mask level) h = let top = h.1 in omega (arith, few, top)
    here (LevelName level) h = let top = h.1 in omega (arith, few, top)

module _ (modifiers mask : ℕ) where
  last_within : (said : List Saying) (most : ℕ) (last : Option ℕ) → IsWithin most last → All NamesLevel said
      → IsWithin (fold (λ most s. max most (level_in s)) most said) (fold (λ last x. option_or (mapped modifiers mask x) last) last said)
  last_within [] most last h all = h
  last_within (s ∷ said) most last h all = last_within said (max most (level_in s)) (option_or (mapped modifiers mask s) last) (here s (All-head NamesLevel s said all)) (All-tail NamesLevel s said all)
    where
      kept : (n : ℕ) → IsWithin (max most n) last
      kept n = raised most (max most n) last (omega arith) h

      here : (s : Saying) → NamesLevel s → IsWithin (max most (level_in s)) (option_or (mapped modifiers mask s) last)
      here (Modifiers names) g = kept 0
      here (Preserve written names) g = kept 0
      here (LevelName level) g = kept level
      here (Map written level) g =
          elim (meet written modifiers == mask) as (λ b. IsWithin (max most level) (option_or (if b then Some level else None) last))
          [ true ↦ (g.0, omega arith) | false ↦ kept level ]

or_first : (most : ℕ) (o : Option ℕ) → 1 ≤ most → IsWithin most o → (1 ≤ unwrap_or o 1) × (unwrap_or o 1 ≤ most)
or_first most None some h = (omega arith, some)
or_first most (Some level) some h = h

pub lawful : (said : List Saying) → All NamesLevel said → IsLawful (definition_of said)
lawful said all = record {
  some_level = most_named said 1;
  few_levels = few_named said 1 (omega arith) all;
  each_entry = All-map (EntryIsLawful t) (entry_of modifiers said) (each_once nat_eq (mask_in modifiers) said) (All-weaker (λ m. meet m modifiers ≡ m) (λ m. EntryIsLawful t (entry_of modifiers said m)) one (each_once nat_eq (mask_in modifiers) said) (cut_mask modifiers said [] (All-nil (λ m. meet m modifiers ≡ m))));
}
  where
    t : Definition
    t = definition_of said

    modifiers : ℕ
    modifiers = modifiers_of said

    one : (m : ℕ) → meet m modifiers ≡ m → EntryIsLawful t (entry_of modifiers said m)
    one m cut =
        let level = or_first (levels_of said) (last_given (mapped modifiers m) None said) (most_named said 1) (last_within modifiers m said 1 None tt all) in
        record { some_level = level.0; level = level.1; within = cut; preserve_within = meet-again (unwrap_or (last_given (preserved modifiers m) None said) 0) m }
