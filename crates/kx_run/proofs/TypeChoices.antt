-- What the kept choices of types tell.
use Rattle.std.proofs.Common.{◌≡◌, ℕ, ◌+◌, ◌<◌, ◌==◌, ◌∙◌, List, [], ◌∷◌, ◌++◌, Some, ap, arith, bit_and, eqb, get_or, inl, inr, length, length-set, ltb, set, slice_get, subst, sym}
use Rattle.std.specs.Prelude.{find}
use Rattle.std.specs.Int.Bits.{and_self}
use Rattle.std.proofs.Math.Seq.{get_or-append_seam}
use Rattle.std.proofs.lemmas.Bool.{cases_Bool, eqb-true, eqb-false, ltb-true}
use borrow.Author.Tests.{ltb-false}
use Rattle.std.proofs.lemmas.List.{get_or-set_same, get_or-set_other, get_or_append_left}
use Rattle.std.proofs.lemmas.Nat.{and_assoc}
use Rattle.std.proofs.lemmas.Option.{slice_get_cases, slice_get_within}
use Rattle.kx_mods.specs.Mods.{mask}
use Rattle.kx_tables.proofs.Bounds.{cells_within}
use Rattle.kx_tables.specs.Content.{Content, part}
use Rattle.kx_tables.specs.Sound.{GroupHolds, Sound}
use Rattle.kx_tables.specs.Keymap.{cell_shows, consumed_by, entry_for, group_shows, level_of, type_shows}
use Rattle.kx_tables.specs.declared.rows.GroupRow.{GroupRow}
use Rattle.kx_tables.specs.declared.rows.TypeRow.{TypeRow}
use Rattle.kx_run.specs.Lookup.{Chooses, Gives, IsChoice, TellsChoices}
use Rattle.kx_run.specs.declared.choices.Choice.{Choice}

masked_twice : (m t : ℕ) → bit_and (bit_and m t) t ≡ bit_and m t
masked_twice m t = and_assoc t m t ∙ ap (bit_and m) (and_self t)

-- a type reads no modifiers but its own
entry_for-masked : (c : Content) (t : TypeRow) (m : ℕ) → entry_for c t (bit_and m (mask t.mods)) ≡ entry_for c t m
entry_for-masked c t m = ap (λ n. find (λ e. mask e.mods == n) (part c.entries t.first_entry t.entries)) (masked_twice m (mask t.mods))

-- what a type gives under those of its modifiers that are set, it gives under all that are set
pub chosen_by : (c : Content) (t : TypeRow) (mods : ℕ) (choice : Choice) → IsChoice c t choice → mask choice.mods ≡ bit_and mods (mask choice.type_mods) → Chooses c t mods choice
chosen_by c t mods choice holds met =
    let same : entry_for c t (mask choice.mods) ≡ entry_for c t mods = ap (entry_for c t) (met ∙ ap (bit_and mods) holds.type_mods) ∙ entry_for-masked c t mods in
    record {
      level = holds.chosen.level ∙ ap level_of same;
      consumed = holds.chosen.consumed ∙ ap (consumed_by t) same;
      within = holds.chosen.within;
    }

same_row : (a b : TypeRow) → Some a ≡ Some b → a ≡ b
same_row a b e = cc

-- the same, where the type's modifiers were taken from an earlier choice of the type at its place
pub chosen_fresh : (c : Content) (t read : TypeRow) (index mods : ℕ) (last choice : Choice) → slice_get c.types index ≡ Some t → slice_get c.types index ≡ Some read → IsChoice c t last → IsChoice c read choice → mask choice.mods ≡ bit_and mods (mask last.type_mods) → Chooses c t mods choice
chosen_fresh c t read index mods last choice at here before holds met =
    let row = same_row read t (sym here ∙ at) in
    let own = subst (λ r. IsChoice c r choice) row holds in
    chosen_by c t mods choice own (met ∙ ap (bit_and mods) (before.type_mods ∙ sym own.type_mods))

-- a group gives what its type chooses
chosen_shows : (c : Content) (g : GroupRow) (t : TypeRow) (mods : ℕ) (choice : Choice) → slice_get c.types g.key_type ≡ Some t → Chooses c t mods choice → cell_shows c (mask choice.consumed) (slice_get c.cells (g.first_cell + choice.level)) ≡ group_shows c mods (Some g)
chosen_shows c g t mods choice at chosen =
    ap (λ n. cell_shows c n (slice_get c.cells (g.first_cell + choice.level))) chosen.consumed
    ∙ ap (λ n. cell_shows c (consumed_by t (entry_for c t mods)) (slice_get c.cells (g.first_cell + n))) chosen.level
    ∙ sym (ap (type_shows c g mods) at)

type_there : (c : Content) (n : ℕ) → n < length c.types → (t : TypeRow) × (slice_get c.types n ≡ Some t)
type_there c n within = elim (slice_get_cases c.types n).1 [ inl there ↦ (there.0, there.2) | inr past ↦ absurd (omega (arith, within, past.0)) ]

pub group_chosen : (c : Content) (i : ℕ) (g : GroupRow) (mods : ℕ) (choice : Choice) → Sound c → slice_get c.groups i ≡ Some g → Gives c g.key_type mods choice → cell_shows c (mask choice.consumed) (slice_get c.cells (g.first_cell + choice.level)) ≡ group_shows c mods (slice_get c.groups i)
group_chosen c i g mods choice sound at gives =
    let holds : GroupHolds c i g = sound.groups i g at in
    let there = type_there c g.key_type holds.key_type in
    chosen_shows c g there.0 mods choice there.1 (gives there.0 there.1) ∙ ap (group_shows c mods) (sym at)

pub chosen_within : (c : Content) (i : ℕ) (g : GroupRow) (mods : ℕ) (choice : Choice) → Sound c → slice_get c.groups i ≡ Some g → Gives c g.key_type mods choice → g.first_cell + choice.level < length c.cells
chosen_within c i g mods choice sound at gives =
    let holds : GroupHolds c i g = sound.groups i g at in
    let there = type_there c g.key_type holds.key_type in
    let chosen = gives there.0 there.1 in
    omega (arith, chosen.within, cells_within c sound i g there.0 at there.1)

pub choice_set : (c : Content) (choices : List Choice) (place : ℕ) (row : TypeRow) (choice : Choice) → TellsChoices choices c → slice_get c.types place ≡ Some row → IsChoice c row choice → TellsChoices (set choices place choice) c
choice_set c choices place row choice told at holds = record {
  long = length-set choices place choice ∙ told.long;
  each = λ i t d read.
      elim (cases_Bool (eqb i place)) [
        | inl same ↦
            let e = eqb-true i place same in
            let within : place < length choices = omega (arith, told.long, slice_get_within c.types place row at) in
            let r = same_row row t (sym at ∙ ap (slice_get c.types) (sym e) ∙ read) in
            let here = ap (λ n. get_or (set choices place choice) n d) e ∙ get_or-set_same choices place choice d within in
            subst (λ u. IsChoice c u (get_or (set choices place choice) i d)) r (subst (IsChoice c row) (sym here) holds)
        | inr other ↦ subst (IsChoice c t) (sym (get_or-set_other choices place i choice d (eqb-false i place other))) (told.each i t d read)
      ];
}

pub choice_push : (c : Content) (choices : List Choice) (n : ℕ) (row : TypeRow) (choice : Choice) → length choices ≡ n → ((i : ℕ) (t : TypeRow) (d : Choice) → i < n → slice_get c.types i ≡ Some t → IsChoice c t (get_or choices i d)) → slice_get c.types n ≡ Some row → IsChoice c row choice → (i : ℕ) (t : TypeRow) (d : Choice) → i < n + 1 → slice_get c.types i ≡ Some t → IsChoice c t (get_or (choices ++ choice ∷ []) i d)
choice_push c choices n row choice long each at holds i t d within read =
    elim (cases_Bool (ltb i n)) [
      | inl before ↦
          let inside = ltb-true i n before in
          subst (IsChoice c t) (sym (get_or_append_left choices (choice ∷ []) d i (omega (arith, long, inside)))) (each i t d inside read)
      | inr after ↦
          let e : i ≡ length choices = omega (arith, long, ltb-false i n after) in
          let r = same_row row t (sym at ∙ ap (slice_get c.types) (sym (e ∙ long)) ∙ read) in
          let here = ap (λ k. get_or (choices ++ choice ∷ []) k d) e ∙ get_or-append_seam choices choice [] d in
          subst (λ u. IsChoice c u (get_or (choices ++ choice ∷ []) i d)) r (subst (IsChoice c row) (sym here) holds)
    ]
