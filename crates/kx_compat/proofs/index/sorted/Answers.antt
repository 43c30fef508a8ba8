use Rattle.std.proofs.Common.{ap, nat_eq, [], ◌∙◌}
use Rattle.std.specs.Map.{lookup}
use Rattle.std.specs.Option.{option_map_or}
use Rattle.kx_compat.proofs.index.sorted.Goals as goal

pub returns-clause-indexed : goal.returns-clause-indexed
returns-clause-indexed c any all indexed = record {
  named_are = λ keysym. ap (λ bucket. option_map_or (λ b. b) bucket []) (c.in_ok-of.ensures keysym ∙ ap (lookup (nat_eq keysym)) c.into_entries.ensures.value) ∙ indexed.named_are keysym;
  any_are = indexed.any_are;
}
