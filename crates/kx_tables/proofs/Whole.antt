-- Tables whose checks passed are sound.
use Rattle.std.proofs.Common.{ℕ, List, ◌≡◌, ◌+◌, ◌<◌, length, take, sum_by, arith, ap, ◌∙◌}
use Rattle.std.proofs.Math.Seq.{take-length}
use Rattle.std.proofs.lemmas.Option.{slice_get_within}
use Rattle.kx_tables.proofs.Bounds.{sum_up_to}
use Rattle.kx_tables.specs.Content.{Content, levels_of, types_used, type_names, key_names, indicator_names, type_name, key_name, indicator_name}
use Rattle.kx_tables.specs.Fit.{CountsFit}
use Rattle.kx_tables.specs.SoFar.{EachBelow, TypesAre, TypeNumbers, KeysAre, GroupsAre, CellsAre, IndicatorsAre, GroupNamesAre, NamesAreNew, EntriesBegin, EntriesLie}
use Rattle.kx_basics.specs.Keysyms.{IsKeysym}
use Rattle.kx_tables.specs.Sound.{Sound, EachRow, EntriesHold, NameByteHolds}

pub each_of : {X : Type 0} (xs : List X) (P : ℕ → X → Type 0) → EachBelow xs P (length xs) → EachRow xs P
each_of xs P below i x at = below i x (slice_get_within xs i x at) at

pub sum_all : {X : Type 0} (f : X → ℕ) (xs : List X) → sum_by f (take (length xs) xs) ≡ sum_by f xs
sum_all f xs = ap (sum_by f) (take-length xs)

pub entries_lie : (c : Content) (names : ℕ) → TypesAre c (length c.types) (length c.entries) names → EachRow c.types (EntriesLie c)
entries_lie c names are i t at =
    let numbers : TypeNumbers t (sum_by (λ u. u.entries) (take i c.types)) (sum_by (λ u. u.name_length) (take i c.types)) = are.each i t (slice_get_within c.types i t at) at in
    omega (arith, numbers.first_entry, are.entries_sum, sum_all (λ u. u.entries) c.types, sum_up_to (λ u. u.entries) c.types i t at)

pub entries_begin : (c : Content) (names : ℕ) → TypesAre c (length c.types) (length c.entries) names → EachRow c.types (EntriesBegin c)
entries_begin c names are i t at =
    let numbers : TypeNumbers t (sum_by (λ u. u.entries) (take i c.types)) (sum_by (λ u. u.name_length) (take i c.types)) = are.each i t (slice_get_within c.types i t at) at in
    numbers.first_entry

pub whole_is_sound : (c : Content) (type_end key_end next indicator_end : ℕ) → CountsFit c
    → GroupsAre c (length c.groups) (length c.types) (length c.cells)
    → TypesAre c (length c.types) (length c.entries) type_end
    → KeysAre c (length c.keys) (length c.groups) key_end next
    → CellsAre c (length c.cells) (length c.keysyms)
    → EachBelow c.keysyms (λ i s. IsKeysym s) (length c.keysyms)
    → IndicatorsAre c (length c.indicators) indicator_end
    → GroupNamesAre c (length c.group_names) (length c.names)
    → EachRow c.types (EntriesHold c)
    → EachRow c.names (NameByteHolds c)
    → NamesAreNew c.types (type_name c)
    → NamesAreNew c.keys (key_name c)
    → NamesAreNew c.indicators (indicator_name c)
    → Sound c
whole_is_sound c type_end key_end next indicator_end fit groups types keys cells keysyms indicators named entries bytes new_types new_keys new_indicators = record {
  counts = record {
    types = fit.types;
    entries = types.entries_sum ∙ sum_all (λ t. t.entries) c.types;
    entries_fit = fit.entries;
    keys = fit.keys;
    groups = keys.groups_sum ∙ sum_all (λ k. k.groups) c.keys;
    cells = groups.cells_sum ∙ sum_all (levels_of c) c.groups;
    cells_fit = fit.cells;
    keysyms = cells.keysyms_sum ∙ sum_all (λ d. d.keysyms) c.cells;
    keysyms_fit = fit.keysyms;
    names = named.names_sum ∙ ap (λ n. type_names c + key_names c + indicator_names c + n) (sum_all (λ g. g.name_length) c.group_names);
    names_fit = fit.names;
  };
  types = λ i t at.
      let within : i < length c.types = slice_get_within c.types i t at in
      let numbers : TypeNumbers t (sum_by (λ u. u.entries) (take i c.types)) (sum_by (λ u. u.name_length) (take i c.types)) = types.each i t within at in
      let used : length c.types ≡ types_used c.groups = groups.used_is ∙ ap types_used (take-length c.groups) in
      record {
        mods = numbers.mods;
        some_level = numbers.some_level;
        levels = numbers.levels;
        entries = numbers.entries;
        name_length = numbers.name_length;
        first_entry = numbers.first_entry;
        first_name = numbers.first_name;
        is_used = omega arith;
        is_new = new_types i t at;
      };
  entries = entries;
  keys = λ i k at.
      let numbered = keys.each i k (slice_get_within c.keys i k at) at in
      record {
        code = numbered.numbers.code;
        modmap = numbered.numbers.modmap;
        range = numbered.numbers.range;
        groups = numbered.numbers.groups;
        name_length = numbered.numbers.name_length;
        first_name = numbered.numbers.first_name;
        first_group = numbered.numbers.first_group;
        rises = numbered.rises;
        is_new = new_keys i k at;
      };
  groups = each_of c.groups _ groups.each;
  cells = each_of c.cells _ cells.each;
  keysyms = each_of c.keysyms _ keysyms;
  indicators = λ i d at.
      let numbers = indicators.each i d (slice_get_within c.indicators i d at) at in
      record {
        place = numbers.place;
        mods = numbers.mods;
        mod_states = numbers.mod_states;
        group_states = numbers.group_states;
        groups = numbers.groups;
        name_length = numbers.name_length;
        first_name = numbers.first_name;
        is_new = new_indicators i d at;
      };
  group_names = each_of c.group_names _ named.each;
  names = bytes;
}
