-- What sound tables keep of what is printed of them.
use Rattle.std.proofs.Common.{◌≡◌, ◌≢◌, ℕ, zero, suc, ◌+◌, ◌-◌, ◌<◌, ◌≤◌, ◌&&◌, Bool, true, List, [], ◌∷◌, Option, None, Some, length, map, take, drop, slice_get, nat_lt, unwrap_or, refl, sym, ap, ap₂, ◌∙◌, subst, arith}
use Rattle.std.proofs.lemmas.Bool.{lt-ltb}
use Rattle.std.proofs.lemmas.List.{length-map, length-take}
use Rattle.std.proofs.lemmas.Option.{slice_get-map, slice_get_within}
use Rattle.std.specs.List.{list_all}
use Rattle.std.specs.Option.{option_map, option_map_or}
use Rattle.kx_basics.specs.KeyNames.{is_key_byte}
use Rattle.kx_basics.specs.Keysyms.{IsKeysym}
use Rattle.kx_builder.specs.IndicatorMaps.{ResolvedIndicator}
use Rattle.kx_builder.specs.Resolved.{ResolvedType}
use Rattle.kx_builder.specs.Seen.{cell_seen, type_seen}
use Rattle.kx_mods.specs.Mods.{mask}
use Rattle.kx_tables.specs.Content.{Content, group_name, key_name, levels_of, part, type_name}
use Rattle.kx_tables.specs.Sound.{EntryHolds, KeyHolds, Sound, TypeHolds}
use Rattle.kx_tables.specs.declared.rows.CellRow.{CellRow}
use Rattle.kx_tables.specs.declared.rows.EntryRow.{EntryRow}
use Rattle.kx_tables.specs.declared.rows.GroupNameRow.{GroupNameRow}
use Rattle.kx_tables.specs.declared.rows.GroupRow.{GroupRow}
use Rattle.kx_tables.specs.declared.rows.KeyRow.{KeyRow}
use Rattle.kx_tables.specs.declared.rows.TypeRow.{TypeRow}
use Rattle.kx_tables.proofs.Bounds.{sum_up_to, cells_within}
use Rattle.roundtrip_text.specs.Source.{EachOf, AreApart, AreRising, are_bytes, EntryFits, TypeFits, types_printed, IndicatorFits, indicator_seen, indicators_printed, NameFits, NamesFit, names_printed, PrintedKey, CellFits, GroupFits, KeyFits, group_printed, key_printed, keys_printed}
use Rattle.roundtrip_text.proofs.Joined.{length-part}
use Rattle.roundtrip_text.proofs.Tables.{type_name_length, key_name_length, indicator_name_length, group_name_length}

-- ---- Rows by their places

pub take_get : {X : Type 0} (n : ℕ) (xs : List X) (i : ℕ) (x : X) → slice_get (take n xs) i ≡ Some x → slice_get xs i ≡ Some x
take_get zero xs i x is = cc
take_get (suc n) [] i x is = is
take_get (suc n) (y ∷ ys) zero x is = is
take_get (suc n) (y ∷ ys) (suc i) x is = take_get n ys i x is

pub drop_get : {X : Type 0} (n : ℕ) (xs : List X) (i : ℕ) → slice_get (drop n xs) i ≡ slice_get xs (n + i)
drop_get zero xs i = ap (slice_get xs) (let same : i ≡ 0 + i = omega arith in same)
drop_get (suc n) [] i = refl
drop_get (suc n) (y ∷ ys) i = drop_get n ys i ∙ ap (slice_get (y ∷ ys)) (let same : suc (n + i) ≡ suc n + i = omega arith in same)

pub part_get : {X : Type 0} (xs : List X) (first count i : ℕ) (x : X) → slice_get (part xs first count) i ≡ Some x → slice_get xs (first + i) ≡ Some x
part_get xs first count i x is = sym (drop_get first xs i) ∙ take_get count (drop first xs) i x is

pub part_within : {X : Type 0} (xs : List X) (first count i : ℕ) (x : X) → slice_get (part xs first count) i ≡ Some x → i < count
part_within xs first count i x is = let within = slice_get_within (part xs first count) i x is in omega (arith, within, length-take count (drop first xs))

pub each_row : {X : Type 0} (Q : X → Type 0) (xs : List X) → ((i : ℕ) (x : X) → slice_get xs i ≡ Some x → Q x) → EachOf Q xs
each_row Q [] each = tt
each_row Q (x ∷ xs) each = (each 0 x refl, each_row Q xs (λ i y is. each (suc i) y is))

pub each_mapped : {X Y : Type 0} (Q : Y → Type 0) (f : X → Y) (xs : List X) → ((i : ℕ) (x : X) → slice_get xs i ≡ Some x → Q (f x)) → EachOf Q (map f xs)
each_mapped Q f [] each = tt
each_mapped Q f (x ∷ xs) each = (each 0 x refl, each_mapped Q f xs (λ i y is. each (suc i) y is))

pub apart_mapped : {X Y Z : Type 0} (f : X → Y) (g : Y → Z) (xs : List X) → ((i j : ℕ) (x y : X) → i < j → slice_get xs i ≡ Some x → slice_get xs j ≡ Some y → g (f x) ≢ g (f y)) → AreApart g (map f xs)
apart_mapped f g [] each = tt
apart_mapped f g (x ∷ xs) each =
    (each_mapped _ f xs (λ i y is. each 0 (suc i) x y (omega arith) refl is), apart_mapped f g xs (λ i j y z less is js. each (suc i) (suc j) y z (omega (arith, less)) is js))

pub rising_mapped : {X Y : Type 0} (f : X → Y) (g : Y → ℕ) (low : ℕ) (xs : List X) → ((i : ℕ) (x : X) → slice_get xs i ≡ Some x → low ≤ g (f x)) → ((i j : ℕ) (x y : X) → i < j → slice_get xs i ≡ Some x → slice_get xs j ≡ Some y → g (f x) < g (f y)) → AreRising g low (map f xs)
rising_mapped f g low [] above each = tt
rising_mapped f g low (x ∷ xs) above each =
    (above 0 x refl, rising_mapped f g (g (f x) + 1) xs (λ i y is. (let less = each 0 (suc i) x y (omega arith) refl is in omega (arith, less))) (λ i j y z less is js. each (suc i) (suc j) y z (omega (arith, less)) is js))

pub all_by_place : {X : Type 0} (p : X → Bool) (xs : List X) → ((i : ℕ) (x : X) → slice_get xs i ≡ Some x → p x ≡ true) → list_all p xs ≡ true
all_by_place p [] each = refl
all_by_place p (x ∷ xs) each = ap₂ (λ a b. a && b) (each 0 x refl) (all_by_place p xs (λ i y is. each (suc i) y is))

module _ (c : Content) (sound : Sound c) where
  -- ---- Names

  pub part_bytes : (first count : ℕ) → are_bytes (part c.names first count)
  part_bytes first count = all_by_place (λ b. nat_lt b 256) (part c.names first count) (λ i b is. lt-ltb b 256 (let byte = (sound.names (first + i) b (part_get c.names first count i b is)).byte in byte))

  key_bytes : (i : ℕ) (k : KeyRow) → slice_get c.keys i ≡ Some k → list_all is_key_byte (key_name c k) ≡ true
  key_bytes i k at =
      all_by_place is_key_byte (key_name c k)
      (λ j b is.
      (let holds = (sound.keys i k at).first_name in
      let within = part_within c.names k.first_name k.name_length j b is in
      (sound.names (k.first_name + j) b (part_get c.names k.first_name k.name_length j b is)).of_key (omega (arith, holds)) (omega (arith, holds, within, sum_up_to (λ l. l.name_length) c.keys i k at))))

  -- ---- Types

  entry_fits : (i : ℕ) (t : TypeRow) → slice_get c.types i ≡ Some t → (j : ℕ) (e : EntryRow) → slice_get (part c.entries t.first_entry t.entries) j ≡ Some e → EntryHolds c t (t.first_entry + j) e
  entry_fits i t at j e is = sound.entries i t at (t.first_entry + j) e (omega arith) (let within = part_within c.entries t.first_entry t.entries j e is in omega (arith, within)) (part_get c.entries t.first_entry t.entries j e is)

  type_fits : (i : ℕ) (t : TypeRow) → slice_get c.types i ≡ Some t → TypeFits (type_seen c t)
  type_fits i t at =
      let holds : TypeHolds c i t = sound.types i t at in
      record {
        name_fits = (let n = type_name_length c sound i t at in let most = holds.name_length in omega (arith, n, most));
        bytes = part_bytes t.first_name t.name_length;
        mods = holds.mods;
        some_level = holds.some_level;
        levels = holds.levels;
        entries = each_row (EntryFits (type_seen c t)) (part c.entries t.first_entry t.entries) (λ j e is. (let h = entry_fits i t at j e is in record { mods = h.mods; preserve = h.preserve; within = h.within; preserve_within = h.preserve_within; some_level = h.some_level; level = h.level }));
        apart = subst (AreApart (λ (e : EntryRow). mask e.mods)) (map-same (part c.entries t.first_entry t.entries))
            (apart_mapped (λ (e : EntryRow). e) (λ (e : EntryRow). mask e.mods) (part c.entries t.first_entry t.entries)
            (λ j k d e less is js. (entry_fits i t at k e js).is_new (t.first_entry + j) d (omega arith) (omega (arith, less)) (part_get c.entries t.first_entry t.entries j d is)));
      }
    where
      map-same : (es : List EntryRow) → map (λ (e : EntryRow). e) es ≡ es
      map-same [] = refl
      map-same (e ∷ es) = ap (λ ds. e ∷ ds) (map-same es)

  pub types_fit : EachOf TypeFits (types_printed c)
  types_fit = each_mapped TypeFits (type_seen c) c.types type_fits

  pub types_apart : AreApart (λ (t : ResolvedType). t.name) (types_printed c)
  types_apart = apart_mapped (type_seen c) (λ (t : ResolvedType). t.name) c.types (λ i j t u less is js. (sound.types j u js).is_new i t less is)

  -- ---- Indicators

  pub indicators_fit : EachOf IndicatorFits (indicators_printed c)
  indicators_fit = each_mapped IndicatorFits (indicator_seen c) c.indicators (λ i d at. (let holds = sound.indicators i d at in record {
    name_fits = (let n = indicator_name_length c sound i d at in let most = holds.name_length in omega (arith, n, most));
    bytes = part_bytes d.first_name d.name_length;
    mods = holds.mods;
    mod_states = holds.mod_states;
    group_states = holds.group_states;
    groups = holds.groups;
  }))

  pub indicators_apart : AreApart (λ (d : ResolvedIndicator). d.name) (indicators_printed c)
  indicators_apart = apart_mapped (indicator_seen c) (λ (d : ResolvedIndicator). d.name) c.indicators (λ i j d e less is js. (sound.indicators j e js).is_new i d less is)

  -- where each row's place is below a number, there are no more
  few : {X : Type 0} (xs : List X) (most : ℕ) → ((i : ℕ) (x : X) → slice_get xs i ≡ Some x → i < most) → length xs ≤ most
  few xs most each = let all = by xs 0 (omega arith) (λ i x is. (let less = each i x is in omega (arith, less))) in omega (arith, all)
    where
      by : {X : Type 0} (xs : List X) (n : ℕ) → n ≤ most → ((i : ℕ) (x : X) → slice_get xs i ≡ Some x → n + i < most) → n + length xs ≤ most
      by [] n small each = omega (arith, small)
      by (x ∷ xs) n small each = (let rest = by xs (n + 1) (let here = each 0 x refl in omega (arith, here)) (λ i y is. (let less = each (suc i) y is in omega (arith, less))) in omega (arith, rest))

  pub indicators_few : length (indicators_printed c) ≤ 32
  indicators_few = let n = few c.indicators 32 (λ i d at. (sound.indicators i d at).place) in omega (arith, n, length-map c.indicators (indicator_seen c))

  -- ---- Names of groups

  group_names_end : (rows : List GroupNameRow) → ((i : ℕ) (g : GroupNameRow) → slice_get rows i ≡ Some g → i + 1 ≡ length rows → 0 < length (group_name c g)) → unwrap_or (slice_get (map (group_name c) rows) (length (map (group_name c) rows) - 1)) [] ≡ [] → map (group_name c) rows ≡ []
  group_names_end [] last ends = refl
  group_names_end (g ∷ gs) last ends = by (slice_get (g ∷ gs) (length gs)) refl
    where
      size : length (map (group_name c) (g ∷ gs)) - 1 ≡ length gs
      size = omega (arith, length-map (g ∷ gs) (group_name c))

      by : (o : Option GroupNameRow) → slice_get (g ∷ gs) (length gs) ≡ o → map (group_name c) (g ∷ gs) ≡ []
      by None none = absurd (past (g ∷ gs) (length gs) (omega arith) none)
        where
          past : {X : Type 0} (xs : List X) (i : ℕ) → i < length xs → slice_get xs i ≢ None
          past [] i within is = omega (arith, within)
          past (x ∷ xs) zero within is = cc
          past (x ∷ xs) (suc i) within is = past xs i (omega (arith, within)) is
      by (Some h) is =
          let some : 0 < length (group_name c h) = last (length gs) h is (omega arith) in
          let none : group_name c h ≡ [] = ap (λ o. unwrap_or o []) (sym (ap (λ n. slice_get (map (group_name c) (g ∷ gs)) n) size ∙ slice_get-map (group_name c) (g ∷ gs) (length gs) ∙ ap (option_map (group_name c)) is)) ∙ ends in
          absurd (let size : length (group_name c h) ≡ 0 = ap length none in omega (arith, some, size))

  pub names_fit : NamesFit (names_printed c)
  names_fit = record {
    few = (let n = few c.group_names 32 (λ i g at. (sound.group_names i g at).place) in omega (arith, n, length-map c.group_names (group_name c)));
    each = each_mapped NameFits (group_name c) c.group_names (λ i g at. record {
      name_fits = (let n = group_name_length c sound i g at in let most = (sound.group_names i g at).name_length in omega (arith, n, most));
      bytes = part_bytes g.first_name g.name_length;
    });
    ends = group_names_end c.group_names (λ i g at last. (let n = group_name_length c sound i g at in let some = (sound.group_names i g at).last last in omega (arith, n, some)));
  }

  -- ---- Keys

  cell_fits : (i : ℕ) (d : CellRow) → slice_get c.cells i ≡ Some d → CellFits (cell_seen c d)
  cell_fits i d at =
      let holds = sound.cells i d at in
      record {
        few = (let most = holds.keysyms in omega (arith, most, length-take d.keysyms (drop d.first_keysym c.keysyms)));
        keysyms = each_row IsKeysym (part c.keysyms d.first_keysym d.keysyms) (λ j s is. sound.keysyms (d.first_keysym + j) s (part_get c.keysyms d.first_keysym d.keysyms j s is));
        does = holds.action;
      }

  -- the type of a group, which there is
  pub record TypeOf (g : GroupRow) : Type 0 where
    pub row : TypeRow
    pub at : slice_get c.types g.key_type ≡ Some row

  pub type_of : (i : ℕ) (g : GroupRow) → slice_get c.groups i ≡ Some g → TypeOf g
  type_of i g at = by c.types g.key_type (sound.groups i g at).key_type refl
    where
      by : (ts : List TypeRow) (n : ℕ) → n < length ts → slice_get ts n ≡ slice_get c.types g.key_type → TypeOf g
      by [] n within same = absurd (omega (arith, within))
      by (t ∷ ts) zero within same = record { row = t; at = sym same }
      by (t ∷ ts) (suc n) within same = by ts n (omega (arith, within)) same

  group_fits : (i : ℕ) (g : GroupRow) → slice_get c.groups i ≡ Some g → GroupFits (group_printed c g)
  group_fits i g at =
      let t = type_of i g at in
      let holds : TypeHolds c g.key_type t.row = sound.types g.key_type t.row t.at in
      let named : option_map_or (type_name c) (slice_get c.types g.key_type) [] ≡ type_name c t.row = ap (λ o. option_map_or (type_name c) o []) t.at in
      let levels : levels_of c g ≡ t.row.levels = ap (λ o. option_map_or (λ (t : TypeRow). t.levels) o 0) t.at in
      let size : length (map (cell_seen c) (part c.cells g.first_cell (levels_of c g))) ≡ t.row.levels =
      length-map (part c.cells g.first_cell (levels_of c g)) (cell_seen c) ∙ length-part c.cells g.first_cell (levels_of c g) (let within = cells_within c sound i g t.row at t.at in omega (arith, within, levels)) ∙ levels in
      record {
        name_fits = (let n = ap length named in let m = type_name_length c sound g.key_type t.row t.at in let most = holds.name_length in omega (arith, n, m, most));
        bytes = subst are_bytes (sym named) (part_bytes t.row.first_name t.row.name_length);
        some_level = (let some = holds.some_level in omega (arith, size, some));
        levels = (let most = holds.levels in omega (arith, size, most));
        cells = each_mapped CellFits (cell_seen c) (part c.cells g.first_cell (levels_of c g)) (λ j d is. cell_fits (g.first_cell + j) d (part_get c.cells g.first_cell (levels_of c g) j d is));
      }

  pub key_fits : (i : ℕ) (k : KeyRow) → slice_get c.keys i ≡ Some k → KeyFits (key_printed c k)
  key_fits i k at =
      let holds : KeyHolds c i k = sound.keys i k at in
      record {
        code = holds.code;
        name_fits = (let n = key_name_length c sound i k at in let most = holds.name_length in omega (arith, n, most));
        bytes = key_bytes i k at;
        mapped = holds.modmap;
        range = holds.range;
        few = (let most = holds.groups in omega (arith, most, length-map (part c.groups k.first_group k.groups) (group_printed c), length-take k.groups (drop k.first_group c.groups)));
        groups = each_mapped GroupFits (group_printed c) (part c.groups k.first_group k.groups) (λ j g is. group_fits (k.first_group + j) g (part_get c.groups k.first_group k.groups j g is));
      }

  pub keys_fit : EachOf KeyFits (keys_printed c)
  keys_fit = each_mapped KeyFits (key_printed c) c.keys key_fits

  pub keys_apart : AreApart (λ (k : PrintedKey). k.name) (keys_printed c)
  keys_apart = apart_mapped (key_printed c) (λ (k : PrintedKey). k.name) c.keys (λ i j k l less is js. (sound.keys j l js).is_new i k less is)

  pub codes_rise : AreRising (λ (k : PrintedKey). k.code) 0 (keys_printed c)
  codes_rise = rising_mapped (key_printed c) (λ (k : PrintedKey). k.code) 0 c.keys (λ i k is. omega arith) (λ i j k l less is js. (sound.keys j l js).rises i k less is)
