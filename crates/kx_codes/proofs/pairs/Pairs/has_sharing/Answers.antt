use Rattle.std.proofs.Common.{sym, subst}
use Rattle.kx_codes.specs.Indexed.{Stands}
use Rattle.kx_codes.proofs.NumberMaps.{shared_number, shared_numbers}
use Rattle.kx_codes.proofs.pairs.Pairs.has_sharing.Goals as goal

pub returns-then-contains_key : goal.returns-then-contains_key
returns-then-contains_key c = λ ps s. shared_number c.self.inside.codes.entries c.self.inside.names.entries c.args.name c.args.code c.contains_key.result ps c.contains_key.ensures c.if-contains_key.true (subst (λ m. Stands m ps) (sym c.self.view_is) s)

pub returns-else-contains_key : goal.returns-else-contains_key
returns-else-contains_key c = λ ps s. shared_numbers c.self.inside.codes.entries c.self.inside.names.entries c.args.name c.args.code c.contains_key.result c.contains_key-else-contains_key.result ps c.contains_key.ensures c.if-contains_key.false c.contains_key-else-contains_key.ensures (subst (λ m. Stands m ps) (sym c.self.view_is) s)
