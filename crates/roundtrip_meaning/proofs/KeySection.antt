-- What the statements of a printed symbols section give: keys and modifier maps together.
use Rattle.std.proofs.Common.{◌≡◌, ℕ, ◌<◌, true, nat_eq, List, [], ◌++◌, Some, is_some}
use Rattle.std.specs.List.{list_all, flat_map}
use Rattle.ks_core.specs.Table.{KeysymTable}
use Rattle.ks_core.specs.Lines.{is_sound}
use Rattle.kx_codes.specs.Codes.{Codes, code_of}
use Rattle.kx_include.specs.Expansion.{Body, End, Begin}
use Rattle.kx_include.specs.declared.place.Place.{Place}
use Rattle.kx_virtual_mods.specs.Sets.{has}
use Rattle.kx_merge.specs.Bodies.{offers_of, faults_of, no_moves}
use Rattle.kx_merge.specs.Offers.{Offer, value_of, width_of}
use Rattle.kx_modmaps.specs.Entries.{same_target}
use Rattle.kx_modmaps.specs.Maps.{map_rules, map_offers_of, keysyms_given}
use Rattle.kx_modmaps.specs.declared.record.Cell.{Cell as MapCell}
use Rattle.kx_modmaps.specs.declared.record.Cell.TheVariants.{Present}
use Rattle.kx_modmaps.specs.declared.target.Target.{Target}
use Rattle.kx_modmaps.specs.declared.target.Target.TheVariants.{Key as KeyTarget}
use Rattle.kx_mods.specs.Mods.{mask}
use Rattle.kx_tree.specs.declared.tree.Stated.{Stated}
use Rattle.kx_symbols.specs.Keys.{key_rules, key_moves}
use Rattle.kx_symbols.specs.declared.cells.Cell.{Cell}
use Rattle.kx_symbols.specs.declared.cells.CellValue.{CellValue}
use Rattle.kx_keys.specs.Given.{given_by}
use Rattle.roundtrip_meaning.specs.Bodies.{own_body}
use Rattle.roundtrip_text.specs.Source.{EachOf, AreRising, PrintedKey, KeyFits}
use Rattle.roundtrip_text.specs.ModifierMaps.{MapLine, maps_of_key}
use Rattle.roundtrip_tree.specs.Keys.{IsKey}
use Rattle.roundtrip_tree.specs.Shows.{AreShown, IsStated, IsModifierMap}
use Rattle.roundtrip_tree.specs.Source.{IsNameStated}
use Rattle.roundtrip_tree.proofs.KeyForms.{keys_stated, maps_stated}
use Rattle.roundtrip_meaning.specs.Given.{IsGiven}
use Rattle.roundtrip_meaning.proofs.Keys.{keys_given as given_keys, keys_faultless as faultless_keys}
use Rattle.roundtrip_meaning.proofs.ModifierMaps.{maps_given as given_maps, maps_keysymless as keysymless_maps, maps_faultless as faultless_maps}

module _ (codes : Codes) (names : KeysymTable) (place : Place) (ks : List PrintedKey) (nis kis mis : List Stated)
    (table : list_all is_sound names.names ≡ true)
    (named : EachOf IsNameStated nis)
    (keys : AreShown (λ (k : PrintedKey) i. IsStated (IsKey k) i) ks kis)
    (maps : AreShown (λ (l : MapLine) i. IsStated (IsModifierMap l.modifier l.name) i) (flat_map maps_of_key ks) mis)
    (fit : EachOf KeyFits ks) (rising : AreRising (λ (k : PrintedKey). k.code) 0 ks)
    (coded : EachOf (λ (k : PrintedKey). code_of codes k.name ≡ Some k.code) ks) where
  abbrev pub symbols : Body
  symbols = Begin (own_body place (nis ++ (kis ++ mis)) End)

  abbrev pub key_os : List (Offer ℕ Cell CellValue)
  key_os = offers_of nat_eq (key_rules codes names []) key_moves symbols

  abbrev pub map_os : List (Offer Target MapCell ℕ)
  map_os = map_offers_of codes names [] symbols

  pub keys_given : EachOf (λ (k : PrintedKey). IsGiven k (given_by (value_of nat_eq key_os k.code) (width_of nat_eq key_os k.code))) ks
  keys_given = given_keys codes names [] place table ks nis kis mis named keys (maps_stated (flat_map maps_of_key ks) mis maps) fit rising coded

  pub keys_faultless : faults_of nat_eq (key_rules codes names []) key_moves symbols ≡ []
  keys_faultless = faultless_keys codes names [] place table ks nis kis mis named keys (maps_stated (flat_map maps_of_key ks) mis maps) fit rising coded

  -- which modifiers each key is mapped to
  pub maps_given : EachOf (λ (k : PrintedKey). (real : ℕ) → real < 8 → is_some (value_of same_target map_os (KeyTarget k.code) (Present real)) ≡ has (mask k.modmap) real) ks
  maps_given = given_maps codes names [] place ks nis kis mis named (keys_stated ks kis keys) maps coded fit rising

  -- no keysym is mapped
  pub maps_keysymless : keysyms_given map_os ≡ []
  maps_keysymless = keysymless_maps codes names [] place ks nis kis mis named (keys_stated ks kis keys) maps coded

  pub maps_faultless : faults_of same_target (map_rules codes names []) no_moves symbols ≡ []
  maps_faultless = faultless_maps codes names [] place ks nis kis mis named (keys_stated ks kis keys) maps fit
