use Rattle.std.proofs.Common.{subst, sym}
use Rattle.kx_include.specs.Sharing.{AreKnown}
use Rattle.kx_tree.specs.declared.tree.Kind.TheVariants.{Keycodes, Types, Compat, Symbols, Geometry}
use Rattle.kx_include.proofs.sources.Library.expand_section.Goals as goal

pub add_section-requires-clause-known : goal.add_section-requires-clause-known
add_section-requires-clause-known c = subst (λ k. AreKnown c.args.self.now k c.args.bodies.now.keycodes.maps.items) (sym c.in-Keycodes.is) (c.requires.known Keycodes)

pub add_section-requires-in-Types-clause-known : goal.add_section-requires-in-Types-clause-known
add_section-requires-in-Types-clause-known c = subst (λ k. AreKnown c.args.self.now k c.args.bodies.now.types.maps.items) (sym c.in-Types.is) (c.requires.known Types)

pub add_section-requires-in-Compat-clause-known : goal.add_section-requires-in-Compat-clause-known
add_section-requires-in-Compat-clause-known c = subst (λ k. AreKnown c.args.self.now k c.args.bodies.now.compat.maps.items) (sym c.in-Compat.is) (c.requires.known Compat)

pub add_section-requires-in-Symbols-clause-known : goal.add_section-requires-in-Symbols-clause-known
add_section-requires-in-Symbols-clause-known c = subst (λ k. AreKnown c.args.self.now k c.args.bodies.now.symbols.maps.items) (sym c.in-Symbols.is) (c.requires.known Symbols)

pub add_section-requires-in-Geometry-clause-known : goal.add_section-requires-in-Geometry-clause-known
add_section-requires-in-Geometry-clause-known c = subst (λ k. AreKnown c.args.self.now k c.args.bodies.now.geometry.maps.items) (sym c.in-Geometry.is) (c.requires.known Geometry)
