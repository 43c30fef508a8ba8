use Rattle.std.proofs.Common.{sym, ◌∙◌}
use Rattle.std.proofs.lemmas.Map.Text.{is_eq-slice_cmp}
use Rattle.kx_ordered.proofs.KeyPlaces.{is_equal}
use Rattle.kx_ordered.proofs.name_key.cmp_bytes.Goals as goal
use Rattle.std.specs.Cmp.Lexicographic.{slice_cmp}
use Rattle.std.specs.Ordering.{nat_cmp}

pub returns-then-eq : goal.returns-then-eq
returns-then-eq c = sym (is_equal (slice_cmp nat_cmp c.args.bytes.now c.args.other.now) (is_eq-slice_cmp c.args.bytes.now c.args.other.now ∙ sym c.eq.ensures ∙ c.if-eq.true))
