-- What is read of modifier maps gives keys what their offers give them by precedence.
use Rattle.std.proofs.Common.{ℕ, ◌≡◌, ◌^◌, Bool, true, false, List, None, Some, is_some, refl, sym, ap, ◌∙◌, if◌then◌else◌}
use Rattle.ks_core.specs.Table.{KeysymTable}
use Rattle.kx_codes.specs.Codes.{Codes, name_of}
use Rattle.kx_include.specs.Expansion.{Body}
use Rattle.kx_resolve.specs.ReadMapping.{mapping_of}
use Rattle.kx_virtual_mods.specs.Sets.{has}
use Rattle.kx_modmaps.specs.Maps.{AreModifierMaps, Maps, key_mask, map_offers_of, present}
use Rattle.kx_source.specs.Meaning.{mapping_by}
use Rattle.kx_symbols.specs.Keys.{KeyContent, key_at}
use Rattle.kx_keys.specs.Typing.{Typing}
use Rattle.kx_keys.specs.Given.{given_in}

present_some : (m r : ℕ) → is_some (present m r) ≡ has m r
present_some m r = by (has m r)
  where
    by : (b : Bool) → is_some (if b then Some (2 ^ r) else None) ≡ b
    by true = refl
    by false = refl

module _ (c : Codes) (names : KeysymTable) (modifiers : List (List ℕ)) (body : Body) (typing : Typing) (keys : List (ℕ × KeyContent)) (maps : Maps) (are : AreModifierMaps maps c names modifiers body) where
  pub mapping_same : mapping_of c typing keys maps ≡ mapping_by (name_of c) (λ k. given_in (key_at keys k)) typing (map_offers_of c names modifiers body)
  mapping_same = λ i. record {
    name = name_of c;
    key = λ k. given_in (key_at keys k);
    typing = typing;
    key_maps = λ code real. (sym (present_some (key_mask maps code) real) ∙ ap is_some (are.keys_are code real)) i;
    keysym_maps = are.keysyms_are i;
  }
