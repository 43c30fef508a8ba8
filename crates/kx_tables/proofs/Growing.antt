-- One more row: sums and facts of the rows below an index.
use Rattle.std.proofs.Common.{ℕ, List, ◌≡◌, ◌+◌, ◌<◌, ◌≤◌, Some, length, take, get_or, slice_get, sum_by, arith, ap, sym, refl, max, zero, suc, [], ◌∷◌, add-one, inl, inr, subst}
use Rattle.std.proofs.Math.Seq.{take-length}
use Rattle.std.proofs.lemmas.Bool.{cases_lt}
use Rattle.std.proofs.lemmas.List.Sums.{sum_by_more}
use Rattle.std.proofs.lemmas.Option.{slice_get_within, get_or_from_slice_get, slice_get_cases}
use Rattle.std.specs.Option.{option_map_or}
use Rattle.kx_tables.specs.Broken.{RowBreaks}
use Rattle.kx_tables.specs.Content.{Content, greatest_groups, levels_of, types_used, type_names}
use Rattle.kx_tables.specs.SoFar.{EachBelow, TypesAre, TypeNumbers, KeysAre, KeyNumbers, KeyIsNumbered, GroupsAre, GroupNumbers, CellsAre, CellNumbers, IndicatorsAre, IndicatorNumbers, IndicatorIsNumbered, GroupNamesAre, GroupNameNumbers}
use Rattle.kx_tables.specs.Sound.{CellHolds, GroupHolds, GroupNameHolds, TypeHolds}
use Rattle.kx_tables.specs.declared.rows.CellRow.{CellRow}
use Rattle.kx_tables.specs.declared.rows.GroupNameRow.{GroupNameRow}
use Rattle.kx_tables.specs.declared.rows.GroupRow.{GroupRow}
use Rattle.kx_tables.specs.declared.rows.IndicatorRow.{IndicatorRow}
use Rattle.kx_tables.specs.declared.rows.KeyRow.{KeyRow}
use Rattle.kx_tables.specs.declared.rows.TypeRow.{TypeRow}

pub sum_more : {X : Type 0} (f : X → ℕ) (xs : List X) (i : ℕ) (x : X) → slice_get xs i ≡ Some x → sum_by f (take (i + 1) xs) ≡ sum_by f (take i xs) + f x
sum_more f xs i x e =
    let here : i < length xs = slice_get_within xs i x e in
    let same : f (get_or xs i x) ≡ f x = ap f (get_or_from_slice_get xs i x x e) in
    omega (arith, sum_by_more f xs i x here, same)

pub each_more : {X : Type 0} (xs : List X) (P : ℕ → X → Type 0) (n : ℕ) (x : X) → slice_get xs n ≡ Some x → EachBelow xs P n → P n x → EachBelow xs P (n + 1)
each_more {X} xs P n x e below here i y lt at =
    elim (cases_lt i n) [
      | inl earlier ↦ below i y earlier at
      | inr later ↦
          let same : i ≡ n = omega arith in
          let e' : slice_get xs i ≡ Some x = rw same e in
          let y_is : x ≡ y = cc in
          subst (λ (z : X). P i z) y_is (subst (λ (j : ℕ). P j x) (sym same) here)
    ]

pub types_more : (c : Content) (n entries names a b : ℕ) (t : TypeRow) → slice_get c.types n ≡ Some t → TypesAre c n entries names → TypeNumbers t entries names → a ≡ t.entries → b ≡ t.name_length → TypesAre c (n + 1) (entries + a) (names + b)
types_more c n entries names a b t e so_far numbers a_is b_is = record {
  entries_sum = omega (arith, so_far.entries_sum, sum_more (λ u. u.entries) c.types n t e);
  names_sum = omega (arith, so_far.names_sum, sum_more (λ u. u.name_length) c.types n t e);
  each = each_more c.types _ n t e so_far.each
      (subst (λ (a : ℕ). TypeNumbers t a (sum_by (λ u. u.name_length) (take n c.types))) so_far.entries_sum
      (subst (λ (b : ℕ). TypeNumbers t entries b) so_far.names_sum numbers));
}

pub keys_more : (c : Content) (n groups names next a b : ℕ) (k : KeyRow) → slice_get c.keys n ≡ Some k → KeysAre c n groups names next → KeyNumbers k groups names → next ≤ k.code → a ≡ k.groups → b ≡ k.name_length → KeysAre c (n + 1) (groups + a) (names + b) (k.code + 1)
keys_more c n groups names next a b k e so_far numbers rises a_is b_is = record {
  groups_sum = omega (arith, so_far.groups_sum, sum_more (λ l. l.groups) c.keys n k e);
  names_sum = omega (arith, so_far.names_sum, sum_more (λ l. l.name_length) c.keys n k e);
  above = each_more c.keys (λ i l. l.code < k.code + 1) n k e (λ i l lt at. let h : l.code < next = so_far.above i l lt at in omega arith) (omega arith);
  next_is = λ some. (n, k, omega arith, e, refl);
  each = each_more c.keys (KeyIsNumbered c) n k e so_far.each (record {
    numbers = subst (λ (x : ℕ). KeyNumbers k x (type_names c + sum_by (λ l. l.name_length) (take n c.keys))) so_far.groups_sum
        (subst (λ (y : ℕ). KeyNumbers k groups y) so_far.names_sum numbers);
    rises = λ j l lt at. let h : l.code < next = so_far.above j l lt at in omega arith;
  });
}

types_used_more : (gs : List GroupRow) (n : ℕ) (g : GroupRow) → slice_get gs n ≡ Some g → types_used (take (suc n) gs) ≡ max (types_used (take n gs)) (g.key_type + 1)
types_used_more [] n g e = cc
types_used_more (h ∷ hs) zero g e =
    let same : h ≡ g = cc in
    rw same (omega arith)
types_used_more (h ∷ hs) (suc n) g e = omega (arith, types_used_more hs n g e)

pub groups_more : (c : Content) (n used cells more a : ℕ) (g : GroupRow) (t : TypeRow) → slice_get c.groups n ≡ Some g → slice_get c.types g.key_type ≡ Some t → GroupsAre c n used cells → GroupNumbers g (length c.types) used cells → more ≡ max used (g.key_type + 1) → a ≡ t.levels → GroupsAre c (n + 1) more (cells + a)
groups_more c n used cells more a g t e f so_far numbers more_is a_is =
    let levels : levels_of c g ≡ t.levels = ap (λ o. option_map_or (λ (u : TypeRow). u.levels) o 0) f in
    let used_more : types_used (take (n + 1) c.groups) ≡ max (types_used (take n c.groups)) (g.key_type + 1) = rw add-one (types_used_more c.groups n g e) in
    record {
      used_is = omega (arith, so_far.used_is, used_more);
      used_exist = omega (arith, so_far.used_exist, numbers.key_type);
      cells_sum = omega (arith, so_far.cells_sum, sum_more (levels_of c) c.groups n g e, levels);
      each = each_more c.groups (GroupHolds c) n g e so_far.each (record {
        key_type = numbers.key_type;
        first_use = omega (arith, so_far.used_is, numbers.first_use);
        first_cell = omega (arith, so_far.cells_sum, numbers.first_cell);
      });
    }

pub cells_more : (c : Content) (n keysyms a : ℕ) (d : CellRow) → slice_get c.cells n ≡ Some d → CellsAre c n keysyms → CellNumbers d keysyms → a ≡ d.keysyms → CellsAre c (n + 1) (keysyms + a)
cells_more c n keysyms a d e so_far numbers a_is = record {
  keysyms_sum = omega (arith, so_far.keysyms_sum, sum_more (λ f. f.keysyms) c.cells n d e);
  each = each_more c.cells (CellHolds c) n d e so_far.each (record {
    keysyms = numbers.keysyms;
    action = numbers.action;
    first_keysym = omega (arith, so_far.keysyms_sum, numbers.first_keysym);
  });
}

pub indicators_more : (c : Content) (n names a : ℕ) (d : IndicatorRow) → slice_get c.indicators n ≡ Some d → IndicatorsAre c n names → IndicatorNumbers d n names → a ≡ d.name_length → IndicatorsAre c (n + 1) (names + a)
indicators_more c n names a d e so_far numbers a_is = record {
  names_sum = omega (arith, so_far.names_sum, sum_more (λ f. f.name_length) c.indicators n d e);
  each = each_more c.indicators (IndicatorIsNumbered c) n d e so_far.each
      (subst (λ (x : ℕ). IndicatorNumbers d n x) so_far.names_sum numbers);
}

pub group_names_more : (c : Content) (n names a : ℕ) (g : GroupNameRow) → slice_get c.group_names n ≡ Some g → GroupNamesAre c n names → GroupNameNumbers g n (length c.group_names) names → a ≡ g.name_length → GroupNamesAre c (n + 1) (names + a)
group_names_more c n names a g e so_far numbers a_is = record {
  names_sum = omega (arith, so_far.names_sum, sum_more (λ h. h.name_length) c.group_names n g e);
  each = each_more c.group_names (GroupNameHolds c) n g e so_far.each (record {
    place = numbers.place;
    name_length = numbers.name_length;
    first_name = omega (arith, so_far.names_sum, numbers.first_name);
    last = numbers.last;
  });
}

-- a type that no group uses
pub unused_breaks : (c : Content) (used cells : ℕ) → GroupsAre c (length c.groups) used cells → used < length c.types → RowBreaks c.types (TypeHolds c) used
unused_breaks c used cells are below =
    let all : types_used (take (length c.groups) c.groups) ≡ types_used c.groups = ap types_used (take-length c.groups) in
    elim ((slice_get_cases c.types used).1) [
      | inl within ↦ (within.0, within.2, λ holds. let h : used < types_used c.groups = holds.is_used in omega (arith, are.used_is, all))
      | inr past ↦ absurd (let h : length c.types ≤ used = past.0 in omega arith)
    ]

greatest_up_to : (ks : List KeyRow) (n : ℕ) (k : KeyRow) → slice_get ks n ≡ Some k → greatest_groups (take (suc n) ks) ≡ max (greatest_groups (take n ks)) k.groups
greatest_up_to [] n k e = cc
greatest_up_to (l ∷ ls) zero k e =
    let same : l ≡ k = cc in
    rw same (omega arith)
greatest_up_to (l ∷ ls) (suc n) k e = omega (arith, greatest_up_to ls n k e)

pub greatest_more : (ks : List KeyRow) (n : ℕ) (k : KeyRow) → slice_get ks n ≡ Some k → greatest_groups (take (n + 1) ks) ≡ max (greatest_groups (take n ks)) k.groups
greatest_more ks n k e = rw add-one (greatest_up_to ks n k e)
