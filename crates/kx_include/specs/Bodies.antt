-- The expanded bodies of a source.
use Rattle.std.specs.Prelude.{◌≡◌}
use Rattle.kx_tree.specs.declared.tree.Kind.{Kind}
use Rattle.kx_tree.specs.declared.tree.Kind.TheVariants.{Keycodes, Types, Compat, Symbols, Geometry}
use Rattle.kx_include.specs.Expansion.{body_of}
use Rattle.kx_include.specs.Library.{Library}
use Rattle.kx_include.specs.Shared.{expanded_body}
use Rattle.kx_include.specs.declared.expansion.Bodies.{Bodies}
use Rattle.kx_include.specs.declared.expansion.Expansion.{Expansion}

abbrev pub expansion_of : Kind → Bodies → Expansion
expansion_of Keycodes b = b.keycodes
expansion_of Types b = b.types
expansion_of Compat b = b.compat
expansion_of Symbols b = b.symbols
expansion_of Geometry b = b.geometry

-- the bodies of a source, a kind each
pub record AreBodies (library : Library) (b : Bodies) : Type 0 where
  pub keycodes : expanded_body b.keycodes ≡ body_of library Keycodes
  pub types : expanded_body b.types ≡ body_of library Types
  pub compat : expanded_body b.compat ≡ body_of library Compat
  pub symbols : expanded_body b.symbols ≡ body_of library Symbols
  pub geometry : expanded_body b.geometry ≡ body_of library Geometry
