-- What a tree shows of a printed text.
use Rattle.std.specs.Prelude.{ℕ, List, [], ◌∷◌, ◌++◌, ◌≡◌, None, map}
use Rattle.kx_builder.specs.IndicatorMaps.{ResolvedIndicator}
use Rattle.kx_builder.specs.Resolved.{ResolvedType}
use Rattle.kx_tree.specs.declared.tree.Item.{Item}
use Rattle.kx_tree.specs.declared.tree.Item.TheVariants.{Statement}
use Rattle.kx_tree.specs.declared.tree.Kind.{Kind}
use Rattle.kx_tree.specs.declared.tree.Kind.TheVariants.{Compat, Keycodes, Symbols, Types}
use Rattle.kx_tree.specs.declared.tree.Section.{Section}
use Rattle.kx_tree.specs.declared.tree.Stated.{Stated}
use Rattle.kx_tree.specs.declared.tree.Tree.{Tree}
use Rattle.roundtrip_text.specs.Source.{NamedGroup, PrintedKey, named_from}
use Rattle.roundtrip_text.specs.ModifierMaps.{MapLine}
use Rattle.roundtrip_text.specs.Sections.{map_lines_printed}
use Rattle.roundtrip_tree.specs.Indicators.{IsIndicator}
use Rattle.roundtrip_tree.specs.Keys.{IsKey}
use Rattle.roundtrip_tree.specs.Shows.{AreShown, IsKeycode, IsModifierMap, IsStated}
use Rattle.roundtrip_tree.specs.Source.{IsGroupName}
use Rattle.roundtrip_tree.specs.Types.{IsType}

-- a section without flags and without a name
abbrev pub plain : Kind → List Item → Section
plain kind items = record { flags = []; kind = kind; name = None; items = items }

-- statements alone
abbrev pub stating : Kind → List Stated → Section
stating kind stateds = plain kind (map Statement stateds)

-- there is no section of indicators without any
abbrev pub compat_sections : List Stated → List Section
compat_sections [] = []
compat_sections (s ∷ ss) = stating Compat (s ∷ ss) ∷ []

abbrev pub sections_of : List Stated → List Stated → List Stated → List Stated → List Section
sections_of keycodes types indicators symbols = stating Keycodes keycodes ∷ stating Types types ∷ (compat_sections indicators ++ stating Symbols symbols ∷ [])

-- keys, types, indicators and names of groups, each as its statement, in their sections
pub record ShowsSource (ks : List PrintedKey) (ts : List ResolvedType) (ds : List ResolvedIndicator) (gs : List (List ℕ)) (tree : Tree) : Type 0 where
  pub keycodes : List Stated
  pub types : List Stated
  pub indicators : List Stated
  pub names : List Stated
  pub keys : List Stated
  pub maps : List Stated
  pub keycodes_are : AreShown (λ (k : PrintedKey) s. IsStated (IsKeycode k.name k.code) s) ks keycodes
  pub types_are : AreShown (λ t s. IsStated (IsType t) s) ts types
  pub indicators_are : AreShown (λ d s. IsStated (IsIndicator d) s) ds indicators
  pub names_are : AreShown (λ (g : NamedGroup) s. IsStated (IsGroupName g.group g.name) s) (named_from 1 gs) names
  pub keys_are : AreShown (λ k s. IsStated (IsKey k) s) ks keys
  pub maps_are : AreShown (λ (l : MapLine) s. IsStated (IsModifierMap l.modifier l.name) s) (map_lines_printed ks) maps
  pub tree_is : tree ≡ record { sections = sections_of keycodes types indicators (names ++ (keys ++ maps)) }
