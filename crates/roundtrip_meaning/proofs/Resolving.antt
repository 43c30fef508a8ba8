-- A printed text resolves to what was seen in the tables.
use Rattle.std.proofs.Common.{◌≡◌, ℕ, zero, suc, ◌+◌, ◌<◌, ◌≤◌, nat_lt, true, cond, List, [], ◌∷◌, ◌++◌, Option, Some, is_some, map, slice_get, refl, sym, ap, ap₂, ◌∙◌, subst, arith}
use Rattle.std.proofs.lemmas.Bool.{lt-ltb}
use Rattle.std.proofs.lemmas.Option.{slice_get-map}
use Rattle.std.proofs.lemmas.List.Concat.{flat_map_single}
use Rattle.std.specs.List.{flat_map}
use Rattle.std.specs.Option.{option_map}
use Rattle.kx_basics.specs.declared.limits.TheConstants.{CODES}
use Rattle.kx_builder.specs.Resolved.{ResolvedCell, ResolvedKey, ResolvedType}
use Rattle.kx_builder.specs.Seen.{key_seen, seen}
use Rattle.kx_codes.specs.Pairs.{Pair, name_in}
use Rattle.kx_keys.specs.Selecting.{RealSet}
use Rattle.kx_virtual_mods.specs.Counted.{with_names}
use Rattle.kx_keys.specs.Keys.{Keyed, key_if_named, keys_below, resolved_of, type_names_below, type_names_if, type_of, types_used}
use Rattle.kx_tables.specs.Content.{Content, key_name, part}
use Rattle.kx_tables.specs.Sound.{Sound}
use Rattle.kx_tables.specs.declared.rows.KeyRow.{KeyRow}
use Rattle.roundtrip_meaning.proofs.Order.{Rising, all_below, at_code, below}
use Rattle.roundtrip_meaning.specs.Given.{IsGiven}
use Rattle.roundtrip_meaning.specs.Resolving.{ReadAgain, pair_of}
use Rattle.roundtrip_meaning.proofs.ResolvingKeys.{group_declared, key_again, names_are}
use Rattle.roundtrip_meaning.proofs.ResolvingOrder.{by_code, types_in_order}
use Rattle.roundtrip_meaning.proofs.ResolvingTypes.{types_again}
use Rattle.roundtrip_text.specs.Source.{EachOf, PrintedGroup, PrintedKey, cell_at, group_printed, key_printed, keys_printed, types_printed}
use Rattle.roundtrip_text.proofs.Joined.{flat_map-map}
use Rattle.roundtrip_text.proofs.TablesHold.{each_mapped, each_row, key_fits, part_get, types_fit}
use Rattle.kx_keys.specs.Typing.{Typing}
use Rattle.roundtrip_text.proofs.TablesLists.{each_at}

-- ---- Lists of things by code

module _ {X B : Type 0} (code : X → ℕ) (g : X → List B) where
  pub rising_rows : (low : ℕ) (xs : List X) → ((i : ℕ) (x : X) → slice_get xs i ≡ Some x → low ≤ code x) → ((i j : ℕ) (x y : X) → i < j → slice_get xs i ≡ Some x → slice_get xs j ≡ Some y → code x < code y) → Rising code g low xs
  rising_rows low [] above each = tt
  rising_rows low (x ∷ xs) above each =
      (above 0 x refl, rising_rows (suc (code x)) xs (λ i y is. (let less = each 0 (suc i) x y (omega arith) refl is in omega (arith, less))) (λ i j y z less is js. each (suc i) (suc j) y z (omega (arith, less)) is js))

  all_under : (n : ℕ) (xs : List X) → EachOf (λ x. code x < n) xs → flat_map (λ x. cond (nat_lt (code x) n) (g x) []) xs ≡ flat_map g xs
  all_under n [] each = refl
  all_under n (x ∷ xs) each = ap₂ (λ t ys. cond t (g x) [] ++ ys) (lt-ltb (code x) n each.0) (all_under n xs each.1)

module _ (c : Content) (sound : Sound c) (real : ℕ → RealSet) (typing : Typing) (keyed : Keyed) (again : ReadAgain c real typing keyed) where
  abbrev name : KeyRow → List ℕ
  name k = key_name c k

  abbrev code : KeyRow → ℕ
  code k = k.code

  pairs_by_row : (ks : List KeyRow) → map pair_of (map (key_printed c) ks) ≡ map (λ k. let p : Pair = record { name = name k; code = code k } in p) ks
  pairs_by_row [] = refl
  pairs_by_row (k ∷ ks) = ap (λ ps. pair_of (key_printed c k) ∷ ps) (pairs_by_row ks)

  named : (n : ℕ) → keyed.name n ≡ name_in (map (λ k. let p : Pair = record { name = name k; code = code k } in p) c.keys) n
  named n = again.names_are n ∙ ap (λ ps. name_in ps n) (pairs_by_row c.keys)

  codes_within : EachOf (λ k. code k < CODES) c.keys
  codes_within = each_row (λ k. code k < CODES) c.keys (λ i k is. (let small = (sound.keys i k is).code in omega (arith, small)))

  rising : {B : Type 0} (g : KeyRow → List B) → Rising code g 0 c.keys
  rising g = rising_rows code g 0 c.keys (λ i k is. omega arith) (λ i j k l less is js. (sound.keys j l js).rises i k less is)

  printed_at : (i : ℕ) (k : KeyRow) → slice_get c.keys i ≡ Some k → slice_get (keys_printed c) i ≡ Some (key_printed c k)
  printed_at i k is = slice_get-map (key_printed c) c.keys i ∙ ap (option_map (key_printed c)) is

  given_at : (i : ℕ) (k : KeyRow) → slice_get c.keys i ≡ Some k → IsGiven (key_printed c k) (keyed.key k.code)
  given_at i k is = each_at (λ (k : PrintedKey). IsGiven k (keyed.key k.code)) (keys_printed c) again.given_are i (key_printed c k) (printed_at i k is)

  -- ---- Types

  abbrev names_in : KeyRow → List (List ℕ)
  names_in k = map (λ (p : PrintedGroup). p.type_name) (key_printed c k).groups

  names_below : (n : ℕ) → type_names_below typing keyed.name keyed.key n ≡ below code names_in (λ m. type_names_if typing (keyed.name m) (keyed.key m)) n
  unfolding type_names_below
  names_below zero = refl
  names_below (suc n) = ap (λ ns. ns ++ type_names_if typing (keyed.name n) (keyed.key n)) (names_below n)

  names_at : (n : ℕ) → type_names_if typing (keyed.name n) (keyed.key n) ≡ flat_map (at_code code names_in n) c.keys
  names_at n =
      ap (λ o. type_names_if typing o (keyed.key n)) (named n)
      ∙ by_code code name names_in (λ o. type_names_if typing o (keyed.key n)) n 0 c.keys refl
      (each_row (λ k. n ≡ code k → type_names_if typing (Some (name k)) (keyed.key n) ≡ names_in k) c.keys (λ i k is same. subst (λ m. type_names_if typing (Some (name k)) (keyed.key m) ≡ names_in k) (sym same) (here i k is)))
      (rising names_in)
    where
      here : (i : ℕ) (k : KeyRow) → slice_get c.keys i ≡ Some k → type_names_if typing (Some (name k)) (keyed.key (code k)) ≡ names_in k
      here i k is =
          names_are (key_printed c k) (key_fits c sound i k is) (keyed.key k.code) (given_at i k is) typing
          (each_mapped (λ (p : PrintedGroup). is_some (typing.declared p.type_name) ≡ true) (group_printed c) (part c.groups k.first_group k.groups)
          (λ j g at. group_declared c sound typing again.declared_are (k.first_group + j) g (part_get c.groups k.first_group k.groups j g at)))

  types_used_are : types_used typing keyed.name keyed.key ≡ map (λ (t : ResolvedType). t.name) (types_printed c)
  unfolding types_used
  types_used_are =
      ap (with_names [])
      (names_below CODES
      ∙ all_below code names_in (λ m. type_names_if typing (keyed.name m) (keyed.key m)) c.keys CODES (rising names_in) names_at
      ∙ all_under code names_in CODES c.keys codes_within
      ∙ sym (flat_map-map (λ (k : PrintedKey). map (λ (p : PrintedGroup). p.type_name) k.groups) (key_printed c) c.keys))
      ∙ types_in_order c sound

  types_are : map (type_of real typing) (types_used typing keyed.name keyed.key) ≡ types_printed c
  types_are = ap (map (type_of real typing)) types_used_are ∙ types_again real again.real_is typing (types_printed c) (types_fit c sound) again.declared_are

  -- ---- Keys

  abbrev used : List (List ℕ)
  used = map (λ (t : ResolvedType). t.name) (types_printed c)

  abbrev key_row : KeyRow → List ResolvedKey
  key_row k = key_seen c k ∷ []

  abbrev key_for : ℕ → Option (List ℕ) → List ResolvedKey
  key_for n o = key_if_named typing used (keyed.level_actions n) (keyed.key n) n o (keyed.modmap n)

  keys_pushed : (n : ℕ) → keys_below typing used keyed n ≡ below code key_row (λ m. key_for m (keyed.name m)) n
  unfolding keys_below
  keys_pushed zero = refl
  keys_pushed (suc n) = ap (λ ks. ks ++ key_for n (keyed.name n)) (keys_pushed n)

  key_at : (n : ℕ) → key_for n (keyed.name n) ≡ flat_map (at_code code key_row n) c.keys
  key_at n =
      ap (key_for n) (named n)
      ∙ by_code code name key_row (key_for n) n 0 c.keys refl
      (each_row (λ k. n ≡ code k → key_for n (Some (name k)) ≡ key_row k) c.keys (λ i k is same. subst (λ m. key_for m (Some (name k)) ≡ key_row k) (sym same) (here i k is)))
      (rising key_row)
    where
      here : (i : ℕ) (k : KeyRow) → slice_get c.keys i ≡ Some k → key_for (code k) (Some (name k)) ≡ key_row k
      here i k is =
          ap (λ (key : ResolvedKey). key ∷ [])
          (key_again c sound typing again.declared_are k (key_fits c sound i k is) (keyed.key k.code) (given_at i k is) (keyed.level_actions k.code)
          (each_at (λ (k : PrintedKey). (group level : ℕ) (d : ResolvedCell) → cell_at k group level ≡ Some d → keyed.level_actions k.code group level ≡ d.action) (keys_printed c) again.level_actions_are i (key_printed c k) (printed_at i k is))
          (keyed.modmap k.code) (each_at (λ (k : PrintedKey). keyed.modmap k.code ≡ k.modmap) (keys_printed c) again.mapped_are i (key_printed c k) (printed_at i k is)))

  keys_are : keys_below typing (types_used typing keyed.name keyed.key) keyed CODES ≡ map (key_seen c) c.keys
  keys_are =
      ap (λ us. keys_below typing us keyed CODES) types_used_are
      ∙ keys_pushed CODES
      ∙ all_below code key_row (λ m. key_for m (keyed.name m)) c.keys CODES (rising key_row) key_at
      ∙ all_under code key_row CODES c.keys codes_within
      ∙ flat_map_single (key_seen c) c.keys

  -- types and keys are those that are seen in the tables
  pub resolved_again : resolved_of real typing keyed ≡ seen c
  unfolding resolved_of
  resolved_again = λ j. record { types = types_are j; keys = keys_are j }
