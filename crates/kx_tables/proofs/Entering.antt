-- The entries of a type, one after another.
use Rattle.std.proofs.Common.{ℕ, zero, suc, Bool, true, false, List, ◌≡◌, ◌+◌, ◌<◌, ◌≤◌, Some, length, get_or, set, slice_get, replicate, arith, ap, sym, refl, ◌∙◌, inl, inr, subst}
use Rattle.std.proofs.lemmas.Bool.{cases_lt}
use Rattle.std.proofs.lemmas.Bool.Decides.{eqb_tells}
use Rattle.std.proofs.lemmas.List.{get_or-replicate, get_or-set_other, get_or-set_same}
use Rattle.std.proofs.Math.ListN.{length-set}
use Rattle.kx_mods.specs.Mods.{mask}
use Rattle.kx_tables.proofs.Growing.{each_more}
use Rattle.kx_tables.specs.Content.{Content}
use Rattle.kx_tables.specs.SoFar.{EachBelow, EntriesAre, EntryNumbers}
use Rattle.kx_tables.specs.Sound.{EntryHolds, EntriesHold}
use Rattle.kx_tables.specs.declared.rows.EntryRow.{EntryRow}
use Rattle.kx_tables.specs.declared.rows.TypeRow.{TypeRow}

past_replicate : (n i : ℕ) → n ≤ i → get_or (replicate n false) i false ≡ false
past_replicate zero i le = refl
past_replicate (suc n) zero le = absurd (omega arith)
past_replicate (suc n) (suc i) le = past_replicate n i (omega arith)

none_seen : (n i : ℕ) → get_or (replicate n false) i false ≡ false
none_seen n i = elim (cases_lt i n) [ inl low ↦ get_or-replicate n i false false low | inr high ↦ past_replicate n i high ]

pub entries_none : (c : Content) (t : TypeRow) → EntriesAre c t t.first_entry (replicate 256 false)
entries_none c t = record {
  size = refl;
  each = λ j e from below at. absurd (omega arith);
  seen_only = λ m is_seen. let e = none_seen 256 m in absurd (cc (e));
  seen_all = λ j e from below at. absurd (omega arith);
}

same_row : (c : Content) (i j : ℕ) (e d : EntryRow) → i ≡ j → slice_get c.entries i ≡ Some e → slice_get c.entries j ≡ Some d → e ≡ d
same_row c i j e d same at at' = let moved : slice_get c.entries j ≡ Some e = rw (← same) at in cc

-- an entry that is seen first
pub entries_more : (c : Content) (t : TypeRow) (n m : ℕ) (seen : List Bool) (e : EntryRow) → slice_get c.entries n ≡ Some e → t.first_entry ≤ n → EntriesAre c t n seen → EntryNumbers e t → m ≡ mask e.mods → get_or seen m false ≡ false → EntriesAre c t (n + 1) (set seen m true)
entries_more c t n m seen e at from so_far numbers m_is unseen =
    let here : m < length seen = let h = numbers.mods in let s = so_far.size in omega arith in
    let holds : EntryHolds c t n e = record {
      mods = numbers.mods;
      preserve = numbers.preserve;
      within = numbers.within;
      preserve_within = numbers.preserve_within;
      some_level = numbers.some_level;
      level = numbers.level;
      is_new = λ j d from' below at' same.
          let was_seen = so_far.seen_all j d from' below at' in
          let marked : get_or seen m false ≡ true = rw (m_is, ← same) was_seen in
          absurd (cc (marked, unseen));
    } in
    record {
      size = length-set seen m true ∙ so_far.size;
      each = λ j d from' below at'. elim (cases_lt j n) [
        | inl earlier ↦ so_far.each j d from' earlier at'
        | inr later ↦
            let same : n ≡ j = omega arith in
            let row : e ≡ d = same_row c n j e d same at at' in
            subst (λ (z : EntryRow). EntryHolds c t j z) row (subst (λ (k : ℕ). EntryHolds c t k e) same holds)
      ];
      seen_only = λ k is_seen. elim (eqb_tells k m) [
        | inl same ↦ record { place = n; entry = e; from = from; below = omega arith; is = at; mods = let s = same.1 in omega arith }
        | inr other ↦
            let kept : get_or seen k false ≡ true = sym (get_or-set_other seen m k true false other.1) ∙ is_seen in
            let had = so_far.seen_only k kept in
            record { place = had.place; entry = had.entry; from = had.from; below = let h = had.below in omega arith; is = had.is; mods = had.mods }
      ];
      seen_all = λ j d from' below at'. elim (eqb_tells (mask d.mods) m) [
        | inl same ↦ rw (same.1) (get_or-set_same seen m true false here)
        | inr other ↦ elim (cases_lt j n) [
          | inl earlier ↦ get_or-set_other seen m (mask d.mods) true false other.1 ∙ so_far.seen_all j d from' earlier at'
          | inr later ↦
              let same : n ≡ j = omega arith in
              let row : e ≡ d = same_row c n j e d same at at' in
              absurd (other.1 (sym (ap (λ (z : EntryRow). mask z.mods) row) ∙ sym m_is))
        ]
      ];
    }

-- the entries of one type more
pub owners_more : (c : Content) (n : ℕ) (t : TypeRow) → slice_get c.types n ≡ Some t → EachBelow c.types (EntriesHold c) n → EntriesHold c n t → EachBelow c.types (EntriesHold c) (n + 1)
owners_more c n t at so_far here = each_more c.types (EntriesHold c) n t at so_far here
