-- A tree that includes components and holds nothing else.
use Rattle.std.specs.Prelude.{ℕ, List, [], ◌∷◌, ◌≡◌}
use Rattle.kx_lex.specs.declared.token.Span.{Span}
use Rattle.kx_tree.specs.declared.tree.Item.{Item}
use Rattle.kx_tree.specs.declared.tree.Item.TheVariants.{Include}
use Rattle.kx_tree.specs.declared.tree.Kind.TheVariants.{Compat, Keycodes, Symbols, Types}
use Rattle.kx_tree.specs.declared.tree.Mode.TheVariants.{Override}
use Rattle.kx_tree.specs.declared.tree.Tree.{Tree}
use Rattle.kx_rules.specs.Rules.{Components}
use Rattle.roundtrip_tree.specs.Shows.{name_at}
use Rattle.roundtrip_tree.specs.Sources.{plain}

-- an include of a text, wherever it stands
pub record IsInclude (text : List ℕ) (item : Item) : Type 0 where
  pub place : Span
  pub whole : Span
  pub is : item ≡ Include Override (name_at text place) whole

-- four sections without flags and names, of which each has one item
pub record HasFourIncludes (c : Components) (tree : Tree) : Type 0 where
  pub keycodes : Item
  pub types : Item
  pub compat : Item
  pub symbols : Item
  pub are : tree ≡ record { sections = plain Keycodes (keycodes ∷ []) ∷ plain Types (types ∷ []) ∷ plain Compat (compat ∷ []) ∷ plain Symbols (symbols ∷ []) ∷ [] }
  pub includes_keycodes : IsInclude c.keycodes keycodes
  pub includes_types : IsInclude c.types types
  pub includes_compat : IsInclude c.compat compat
  pub includes_symbols : IsInclude c.symbols symbols
