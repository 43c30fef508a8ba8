use Rattle.std.proofs.Common.{ℕ, List, ap, map, sym, ◌∙◌}
use Rattle.kx_rules.proofs.Marking.{no_option_left}
use Rattle.kx_rules.proofs.marks.options_left.Goals as goal

pub returns-then-has_all : goal.returns-then-has_all
returns-then-has_all c =
    ap (map (λ o. o.items)) c.new.ensures.items
    ∙ sym (ap (map (λ (e : ℕ × List ℕ). e.1)) (no_option_left c.args.groups.now c.args.uses.now c.args.names.now.options (sym c.has_all.ensures ∙ c.if-has_all.true)))
