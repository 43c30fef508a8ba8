-- Records show what modifier maps give.
use Rattle.std.proofs.Common.{◌≡◌, ℕ, ◌+◌, ◌<◌, ◌^◌, ◌==◌, ◌∷◌, [], ◌++◌, List, cond, map, drop, length, get_or, Option, Some, None, unwrap_or, refl, sym, ap, ◌∙◌, subst, arith}
use Rattle.std.specs.Map.{keys_of}
use Rattle.std.specs.Int.{bit_at}
use Rattle.std.specs.List.{drop-map, flat_map}
use Rattle.std.specs.Option.{option_map_or}
use Rattle.std.proofs.Math.Path.{fun_ext}
use Rattle.std.proofs.lemmas.Nat.Bits.{bit_at_above}
use Rattle.std.proofs.lemmas.List.{append_assoc}
use Rattle.indexmap.specs.IndexMap.{IndexMap, get, keys}
use Rattle.ks_core.specs.Table.{KeysymTable}
use Rattle.kx_codes.specs.Codes.{Codes}
use Rattle.kx_include.specs.Expansion.{Body}
use Rattle.kx_merge.proofs.Going.{drop_next, read_again}
use Rattle.kx_merge.specs.Bodies.{offers_of}
use Rattle.kx_merge.specs.Offers.{Offer}
use Rattle.kx_merge.specs.Plain.{plain_form}
use Rattle.kx_merge.specs.Records.{Shows, cell_in}
use Rattle.kx_merge.specs.declared.plain.Plain.{Plain}
use Rattle.kx_mods.specs.Mods.{mask}
use Rattle.kx_modmaps.specs.Entries.{same_target}
use Rattle.kx_modmaps.specs.Maps.{AreModifierMaps, assigned_cell, keysym_given, map_moves, map_offers_of, map_rules, present, shown_entry}
use Rattle.kx_modmaps.specs.Shown.{keysym_recorded}
use Rattle.kx_modmaps.specs.contracts.target.TargetPartialEq.TheImpl.{ghosts}
use Rattle.kx_modmaps.specs.declared.maps.KeysymEntry.{KeysymEntry}
use Rattle.kx_modmaps.specs.declared.record.Assigned.{Assigned}
use Rattle.kx_modmaps.specs.declared.record.Cell.{Cell}
use Rattle.kx_modmaps.specs.declared.record.Cell.TheVariants.{Present, Only}
use Rattle.kx_modmaps.specs.declared.target.Target.{Target}
use Rattle.kx_modmaps.specs.declared.target.Target.TheVariants.{Key, Keysym}
use Rattle.kx_modmaps.proofs.Same.{told_as_said}

nothing-present : (modifier : ℕ) → present 0 modifier ≡ None
nothing-present modifier =
    let none : bit_at 0 modifier ≡ 0 = bit_at_above 0 0 modifier (omega arith) (omega arith) in
    ap (λ b. cond (b == 1) (Some (2 ^ modifier)) None) none

key-cell : (o : Option (Plain Assigned)) (modifier : ℕ) → present (option_map_or (λ (a : Plain Assigned). mask a.values.present) o 0) modifier ≡ cell_in (plain_form assigned_cell) o (Present modifier)
key-cell None modifier = nothing-present modifier
key-cell (Some a) modifier = refl

module _ {S : Type 0} (records : IndexMap Target (Plain Assigned) S) (codes : Codes) (names : KeysymTable) (modifiers : List (List ℕ)) (body : Body) where
  abbrev offers : List (Offer Target Cell ℕ)
  offers = map_offers_of codes names modifiers body

  as-said : Shows {K = Target} {C = Cell} {V = ℕ} {R = Plain Assigned} (plain_form assigned_cell) ghosts.eq (keys records) (get ghosts.eq records) (offers_of ghosts.eq (map_rules codes names modifiers) map_moves body) → Shows {K = Target} {C = Cell} {V = ℕ} {R = Plain Assigned} (plain_form assigned_cell) same_target (keys records) (get same_target records) offers
  as-said shows = subst (λ eq. Shows {K = Target} {C = Cell} {V = ℕ} {R = Plain Assigned} (plain_form assigned_cell) eq (keys records) (get eq records) (offers_of eq (map_rules codes names modifiers) map_moves body)) told_as_said shows

  keysym-same : Shows {K = Target} {C = Cell} {V = ℕ} {R = Plain Assigned} (plain_form assigned_cell) same_target (keys records) (get same_target records) offers → (target : Target) → keysym_recorded records target ≡ keysym_given offers target
  keysym-same shows (Key code) = refl
  keysym-same shows (Keysym keysym) = ap (λ o. (keysym, unwrap_or o 0) ∷ []) (shows.cells_are (Keysym keysym) Only)

  pub maps_are : (entries : List KeysymEntry) → Shows {K = Target} {C = Cell} {V = ℕ} {R = Plain Assigned} (plain_form assigned_cell) ghosts.eq (keys records) (get ghosts.eq records) (offers_of ghosts.eq (map_rules codes names modifiers) map_moves body)
      → map shown_entry entries ≡ flat_map (keysym_recorded records) (keys records) → AreModifierMaps (record { by_target = records.entries; by_keysym = entries }) codes names modifiers body
  maps_are entries derived is =
      let shows = as-said derived in
      record {
        keys_are = λ code modifier. key-cell (get same_target records (Key code)) modifier ∙ shows.cells_are (Key code) (Present modifier);
        keysyms_are = is ∙ ap (λ f. flat_map f (keys records)) (fun_ext (keysym-same shows)) ∙ ap (flat_map (keysym_given offers)) shows.names_are;
      }

-- what the keys of entries give, one by one
pub given_more : {K V A : Type 0} (f : K → List A) (es items : List (K × V)) (i : ℕ) (d : K × V) (before after : List A) → items ≡ es → i < length items
    → flat_map f (keys_of es) ≡ before ++ flat_map f (drop i (keys_of es)) → after ≡ before ++ f (get_or items i d).0 → flat_map f (keys_of es) ≡ after ++ flat_map f (drop (i + 1) (keys_of es))
given_more {K} {V} f es items i d before after same within is added =
    is ∙ ap (λ ks. before ++ flat_map f ks) (subst (λ xs. drop i (keys_of xs) ≡ one.0 ∷ drop (i + 1) (keys_of xs)) same left)
    ∙ sym (append_assoc before (f one.0) (flat_map f (drop (i + 1) (keys_of es)))) ∙ ap (λ xs. xs ++ flat_map f (drop (i + 1) (keys_of es))) (sym added)
  where
    one : K × V
    one = get_or items i d

    left : drop i (keys_of items) ≡ one.0 ∷ drop (i + 1) (keys_of items)
    left = drop-map (λ x. x.0) i items ∙ ap (map (λ x. x.0)) (drop_next items i one within (read_again items i d within)) ∙ ap (λ ks. one.0 ∷ ks) (sym (drop-map (λ x. x.0) (i + 1) items))
