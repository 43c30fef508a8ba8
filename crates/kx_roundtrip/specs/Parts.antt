-- What a library is read by: its virtual modifiers and its bodies.
use Rattle.std.specs.Prelude.{ℕ, List}
use Rattle.kx_include.specs.Expansion.{Body, body_of}
use Rattle.kx_include.specs.Library.{Library}
use Rattle.kx_tree.specs.declared.tree.Kind.TheVariants.{Compat, Keycodes, Symbols, Types}
use Rattle.kx_source.specs.Meaning.{modifiers_of}

pub record Parts : Type 0 where
  pub modifiers : List (List ℕ)
  pub keycodes : Body
  pub types : Body
  pub compat : Body
  pub symbols : Body

abbrev pub parts_of : Library → Parts
parts_of library = record { modifiers = modifiers_of library; keycodes = body_of library Keycodes; types = body_of library Types; compat = body_of library Compat; symbols = body_of library Symbols }
