-- The forms of printed keys and modifier maps, whatever they say.
use Rattle.std.proofs.Common.{List, [], ◌∷◌}
use Rattle.kx_tree.specs.declared.tree.Stated.{Stated}
use Rattle.roundtrip_text.specs.Source.{EachOf, PrintedKey}
use Rattle.roundtrip_text.specs.ModifierMaps.{MapLine}
use Rattle.roundtrip_tree.specs.Keys.{IsKey}
use Rattle.roundtrip_tree.specs.Shows.{AreShown, IsModifierMap, IsStated, none, more}
use Rattle.roundtrip_tree.specs.Source.{IsKeyStated, IsMapStated}

pub keys_stated : (ks : List PrintedKey) (ss : List Stated) → AreShown (λ (k : PrintedKey) s. IsStated (IsKey k) s) ks ss → EachOf IsKeyStated ss
keys_stated [] [] none = tt
keys_stated [] (s ∷ ss) are = elim are [ ]
keys_stated (k ∷ ks) [] are = elim are [ ]
keys_stated (k ∷ ks) (s ∷ ss) (more one are) =
    (record { mode_is = one.mode_is; shows = record { name = _; fields = one.shows.fields; is = one.shows.is } }, keys_stated ks ss are)

pub maps_stated : (ls : List MapLine) (ss : List Stated) → AreShown (λ (l : MapLine) s. IsStated (IsModifierMap l.modifier l.name) s) ls ss → EachOf IsMapStated ss
maps_stated [] [] none = tt
maps_stated [] (s ∷ ss) are = elim are [ ]
maps_stated (l ∷ ls) [] are = elim are [ ]
maps_stated (l ∷ ls) (s ∷ ss) (more one are) =
    (record { mode_is = one.mode_is; shows = record { modifier = _; entries = _; is = one.shows.is } }, maps_stated ls ss are)
