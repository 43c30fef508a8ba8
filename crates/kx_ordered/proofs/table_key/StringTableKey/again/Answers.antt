use Rattle.std.proofs.Common.{ap, ◌∙◌}
use Rattle.std.proofs.lemmas.Cmp.{nat_list_cmp_total, tied_itself}
use Rattle.std.specs.Cmp.Lexicographic.{slice_cmp}
use Rattle.std.specs.Ordering.{nat_cmp}
use Rattle.std.specs.String.{string_bytes}
use Rattle.kx_ordered.proofs.table_key.StringTableKey.again.Goals as goal

pub returns : goal.returns
returns c = ap (λ bytes. slice_cmp nat_cmp bytes (string_bytes c.args.self.now)) c.in_ok-clone.ensures.cases ∙ tied_itself nat_list_cmp_total (string_bytes c.args.self.now)
