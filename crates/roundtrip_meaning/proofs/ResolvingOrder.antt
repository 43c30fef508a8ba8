-- The types that printed keys use are those that were printed, in their order; the keys are those of the codes, in their order.
use Rattle.std.proofs.Common.{◌≡◌, ◌≢◌, ℕ, zero, suc, ◌+◌, ◌<◌, ◌≤◌, ◌==◌, max, Bool, true, false, cond, List, [], ◌∷◌, ◌++◌, Option, None, Some, length, map, slice_get, take, refl, sym, ap, ap₂, ◌∙◌, arith, append-nil}
use Rattle.std.proofs.lemmas.Bool.{eq-eqb, eqb-true, eqb-false, ne_eqb}
use Rattle.std.proofs.lemmas.List.{length-map}
use Rattle.std.proofs.lemmas.Option.{slice_get-map}
use Rattle.std.specs.List.{flat_map}
use Rattle.std.specs.Option.{option_map, option_map_or}
use Rattle.kx_builder.specs.Resolved.{ResolvedType}
use Rattle.kx_builder.specs.Seen.{type_seen}
use Rattle.kx_codes.specs.Pairs.{Pair, name_in}
use Rattle.kx_virtual_mods.specs.Counted.{with_names}
use Rattle.kx_tables.specs.Content.{Content, part, type_name, types_used}
use Rattle.kx_tables.specs.Sound.{Sound}
use Rattle.kx_tables.specs.declared.rows.GroupRow.{GroupRow}
use Rattle.kx_tables.specs.declared.rows.KeyRow.{KeyRow}
use Rattle.kx_tables.specs.declared.rows.TypeRow.{TypeRow}
use Rattle.roundtrip_meaning.proofs.Order.{FirstUse, Rising, at_code, first_names, first_used, used, AreApart as AreNamedApart}
use Rattle.roundtrip_text.specs.Source.{EachOf, PrintedGroup, PrintedKey, group_printed, key_printed, keys_printed, types_printed}
use Rattle.roundtrip_text.proofs.Joined.{flat_map-map, joined, parts_joined}
use Rattle.roundtrip_text.proofs.TablesLists.{pushed, pushed_are}

-- ---- Codes

module _ {X B : Type 0} (code : X → ℕ) (name : X → List ℕ) (g : X → List B) where
  abbrev pair : X → Pair
  pair x = record { name = name x; code = code x }

  none_at : (n low : ℕ) (xs : List X) → n < low → Rising code g low xs → flat_map (at_code code g n) xs ≡ []
  none_at n low [] below rising = refl
  none_at n low (x ∷ xs) below rising =
      ap₂ (λ t ys. cond t (g x) [] ++ ys) (ne_eqb (code x) n (λ e. (let at_least = rising.0 in omega (arith, at_least, below, e))))
      (none_at n (suc (code x)) xs (let at_least = rising.0 in omega (arith, at_least, below)) rising.1)

  -- what the name of a code gives is what the things of that code give
  pub by_code : (F : Option (List ℕ) → List B) (n low : ℕ) (xs : List X) → F None ≡ [] → EachOf (λ x. n ≡ code x → F (Some (name x)) ≡ g x) xs → Rising code g low xs → F (name_in (map pair xs) n) ≡ flat_map (at_code code g n) xs
  by_code F n low [] nothing each rising = nothing
  by_code F n low (x ∷ xs) nothing each rising = by (by_code F n (suc (code x)) xs nothing each.1 rising.1) (n == code x) refl
    where
      by : F (name_in (map pair xs) n) ≡ flat_map (at_code code g n) xs → (t : Bool) → (n == code x) ≡ t → F (cond t (Some (name x)) (name_in (map pair xs) n)) ≡ flat_map (at_code code g n) (x ∷ xs)
      by rest true e =
          let same : n ≡ code x = eqb-true n (code x) e in
          each.0 same
          ∙ sym (ap₂ (λ t ys. cond t (g x) [] ++ ys) (ap (λ m. code x == m) same ∙ eq-eqb (code x) (code x) refl) (none_at n (suc (code x)) xs (omega (arith, same)) rising.1) ∙ append-nil (g x))
      by rest false e = rest ∙ sym (ap (λ t. cond t (g x) [] ++ flat_map (at_code code g n) xs) (ne_eqb (code x) n (λ same. eqb-false n (code x) e (sym same))))

-- ---- The order of use

used_is : (n : ℕ) (gs : List GroupRow) (name : ℕ → List ℕ) → used name n (map (λ (g : GroupRow). g.key_type) gs) ≡ max n (types_used gs)
used_is n [] name = omega arith
used_is n (g ∷ gs) name = let rest = used_is (max n (suc g.key_type)) gs name in omega (arith, rest)

first_use : (n : ℕ) (gs : List GroupRow) (name : ℕ → List ℕ) → ((i : ℕ) (g : GroupRow) → slice_get gs i ≡ Some g → g.key_type ≤ max n (types_used (take i gs))) → FirstUse name n (map (λ (g : GroupRow). g.key_type) gs)
first_use n [] name each = tt
first_use n (g ∷ gs) name each =
    ((let e = each 0 g refl in omega (arith, e)), first_use (max n (suc g.key_type)) gs name (λ i h is. (let e = each (suc i) h is in omega (arith, e))))

most_used : (gs : List GroupRow) (most : ℕ) → ((i : ℕ) (g : GroupRow) → slice_get gs i ≡ Some g → g.key_type < most) → types_used gs ≤ most
most_used [] most each = omega arith
most_used (g ∷ gs) most each = let rest = most_used gs most (λ i h is. each (suc i) h is) in let here = each 0 g refl in omega (arith, rest, here)

module _ (c : Content) (sound : Sound c) where
  -- the name of the type of a place
  abbrev pub name_of : ℕ → List ℕ
  name_of i = option_map_or (type_name c) (slice_get c.types i) []

  names_apart : AreNamedApart name_of (length c.types)
  names_apart i j here there same = by (slice_get c.types i) (slice_get c.types j) refl refl
    where
      none_there : (k : ℕ) → k < length c.types → slice_get c.types k ≢ None
      none_there k within none = past c.types k within none
        where
          past : (ts : List TypeRow) (k : ℕ) → k < length ts → slice_get ts k ≢ None
          past [] k within is = omega (arith, within)
          past (t ∷ ts) zero within is = cc
          past (t ∷ ts) (suc k) within is = past ts k (omega (arith, within)) is

      by : (o p : Option TypeRow) → slice_get c.types i ≡ o → slice_get c.types j ≡ p → i ≡ j
      by None p a b = absurd (none_there i here a)
      by (Some t) None a b = absurd (none_there j there b)
      by (Some t) (Some u) a b =
          let names : type_name c t ≡ type_name c u = sym (ap (λ o. option_map_or (type_name c) o []) a) ∙ same ∙ ap (λ o. option_map_or (type_name c) o []) b in
          let before : i < j → ⊥ = λ less. (sound.types j u b).is_new i t less a names in
          let behind : j < i → ⊥ = λ less. (sound.types i t a).is_new j u less b (sym names) in
          omega (arith, before, behind)

  all_types_used : types_used c.groups ≡ length c.types
  all_types_used = (let most = most_used c.groups (length c.types) (λ i g is. (sound.groups i g is).key_type) in let least = least_used 0 c.types (omega arith) (λ i t is. (let less = (sound.types i t is).is_used in omega (arith, less))) in omega (arith, most, least))
    where
      least_used : (n : ℕ) (ts : List TypeRow) → n ≤ types_used c.groups → ((i : ℕ) (t : TypeRow) → slice_get ts i ≡ Some t → n + i < types_used c.groups) → n + length ts ≤ types_used c.groups
      least_used n [] small each = omega (arith, small)
      least_used n (t ∷ ts) small each = let rest = least_used (n + 1) ts (let here = each 0 t refl in omega (arith, here)) (λ i u is. (let less = each (suc i) u is in omega (arith, less))) in omega (arith, rest)

  names_pushed : (n : ℕ) → first_names name_of n ≡ pushed name_of n
  names_pushed zero = refl
  names_pushed (suc n) = ap (λ ns. ns ++ name_of n ∷ []) (names_pushed n)

  all_names : first_names name_of (length c.types) ≡ map (λ (t : ResolvedType). t.name) (types_printed c)
  all_names =
      names_pushed (length c.types)
      ∙ pushed_are name_of (map (type_name c) c.types) (length c.types) (sym (length-map c.types (type_name c)))
      (λ i name is. at i name (slice_get c.types i) refl (sym (slice_get-map (type_name c) c.types i) ∙ is))
      ∙ together c.types
    where
      at : (i : ℕ) (name : List ℕ) (o : Option TypeRow) → slice_get c.types i ≡ o → option_map (type_name c) (slice_get c.types i) ≡ Some name → name_of i ≡ name
      at i name None none is = let never : None ≡ Some name = ap (option_map (type_name c)) (sym none) ∙ is in cc
      at i name (Some t) there is = ap (λ o. option_map_or (type_name c) o []) there ∙ (let both : Some (type_name c t) ≡ Some name = ap (option_map (type_name c)) (sym there) ∙ is in cc)

      together : (ts : List TypeRow) → map (type_name c) ts ≡ map (λ (t : ResolvedType). t.name) (map (type_seen c) ts)
      together [] = refl
      together (t ∷ ts) = ap (λ ns. type_name c t ∷ ns) (together ts)

  groups_joined_again : flat_map (λ (k : PrintedKey). map (λ (p : PrintedGroup). p.type_name) k.groups) (keys_printed c) ≡ map name_of (map (λ (g : GroupRow). g.key_type) c.groups)
  groups_joined_again =
      flat_map-map (λ (k : PrintedKey). map (λ (p : PrintedGroup). p.type_name) k.groups) (key_printed c) c.keys
      ∙ each_key c.keys
      ∙ sym (mapped_parts (λ (k : KeyRow). part c.groups k.first_group k.groups) c.keys)
      ∙ ap (map (λ (g : GroupRow). name_of g.key_type)) (parts_joined (λ (k : KeyRow). k.first_group) (λ k. k.groups) c.groups c.keys 0
      (joined (λ (k : KeyRow). k.first_group) (λ k. k.groups) c.keys 0 (λ i k is. (let e = (sound.keys i k is).first_group in omega (arith, e))))
      (let n = sound.counts.groups in omega (arith, n)))
      ∙ apart c.groups
    where
      of_group : (gs : List GroupRow) → map (λ (p : PrintedGroup). p.type_name) (map (group_printed c) gs) ≡ map (λ (g : GroupRow). name_of g.key_type) gs
      of_group [] = refl
      of_group (g ∷ gs) = ap (λ ns. name_of g.key_type ∷ ns) (of_group gs)

      each_key : (ks : List KeyRow) → flat_map (λ k. map (λ (p : PrintedGroup). p.type_name) (key_printed c k).groups) ks ≡ flat_map (λ (k : KeyRow). map (λ (g : GroupRow). name_of g.key_type) (part c.groups k.first_group k.groups)) ks
      each_key [] = refl
      each_key (k ∷ ks) = ap₂ (λ a b. a ++ b) (of_group (part c.groups k.first_group k.groups)) (each_key ks)

      map_append : (xs ys : List GroupRow) → map (λ (g : GroupRow). name_of g.key_type) (xs ++ ys) ≡ map (λ (g : GroupRow). name_of g.key_type) xs ++ map (λ (g : GroupRow). name_of g.key_type) ys
      map_append [] ys = refl
      map_append (x ∷ xs) ys = ap (λ ns. name_of x.key_type ∷ ns) (map_append xs ys)

      mapped_parts : (f : KeyRow → List GroupRow) (ks : List KeyRow) → map (λ (g : GroupRow). name_of g.key_type) (flat_map f ks) ≡ flat_map (λ k. map (λ (g : GroupRow). name_of g.key_type) (f k)) ks
      mapped_parts f [] = refl
      mapped_parts f (k ∷ ks) = map_append (f k) (flat_map f ks) ∙ ap (λ ns. map (λ (g : GroupRow). name_of g.key_type) (f k) ++ ns) (mapped_parts f ks)

      apart : (gs : List GroupRow) → map (λ (g : GroupRow). name_of g.key_type) gs ≡ map name_of (map (λ (g : GroupRow). g.key_type) gs)
      apart [] = refl
      apart (g ∷ gs) = ap (λ ns. name_of g.key_type ∷ ns) (apart gs)

  -- the types in the order of first use are the types in the order of their rows
  pub types_in_order : with_names [] (flat_map (λ (k : PrintedKey). map (λ (p : PrintedGroup). p.type_name) k.groups) (keys_printed c)) ≡ map (λ (t : ResolvedType). t.name) (types_printed c)
  types_in_order =
      ap (with_names []) groups_joined_again
      ∙ first_used name_of (length c.types) 0 (map (λ (g : GroupRow). g.key_type) c.groups) names_apart
      (first_use 0 c.groups name_of (λ i g is. (let e = (sound.groups i g is).first_use in omega (arith, e))))
      (let n = used_is 0 c.groups name_of in omega (arith, n, all_types_used))
      ∙ ap (first_names name_of) all_used
      ∙ all_names
    where
      all_used : used name_of 0 (map (λ (g : GroupRow). g.key_type) c.groups) ≡ length c.types
      all_used = let n = used_is 0 c.groups name_of in omega (arith, n, all_types_used)
