use Rattle.std.proofs.Common.{sym, ap, ◌∙◌}
use Rattle.std.specs.List.{slice_get}
use Rattle.kx_codes.proofs.NumberMaps.{numbers_at}
use Rattle.kx_codes.proofs.Standing.{coded_at}
use Rattle.kx_codes.specs.Numbers.{with_numbers}
use Rattle.kx_codes.specs.Numbers.{number}
use Rattle.kx_codes.proofs.pairs.Pairs.at.Goals as goal

pub returns : goal.returns
returns c = sym (coded_at (with_numbers c.self.inside.names.entries) c.args.place c.in_ok-code.code.now (number c.in_ok-code.name.now) (numbers_at c.self.inside.names.entries c.args.place c.in_ok-code.code.now c.in_ok-code.name.now (sym c.in_ok-code.ensures.entry))) ∙ ap (λ m. slice_get m.by_code c.args.place) c.self.view_is
