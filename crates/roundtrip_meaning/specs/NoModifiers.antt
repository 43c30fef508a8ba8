-- Bodies that declare no virtual modifiers.
use Rattle.std.specs.Prelude.{List, [], ◌≡◌}
use Rattle.kx_include.specs.Expansion.{Body, Begin, End}
use Rattle.kx_include.specs.declared.place.Place.{Place}
use Rattle.kx_virtual_mods.specs.Declarations.{declarations_in}
use Rattle.kx_tree.specs.declared.tree.Stated.{Stated}
use Rattle.roundtrip_meaning.specs.Bodies.{own_body}
use Rattle.roundtrip_text.specs.Source.{EachOf}

pub data NoneDeclared : Body → Type 0 where
  ends : NoneDeclared End
  own : (place : Place) (ss : List Stated) → EachOf (λ (s : Stated). declarations_in s.statement ≡ []) ss → NoneDeclared (Begin (own_body place ss End))
