use Rattle.std.proofs.Common.{None, Some, ap, ◌∙◌}
use Rattle.ks_core.specs.Entry.{name_in}
use Rattle.ks_core.proofs.GivenLemmas.{name_in-found, name_in-absent, own_entry}
use Rattle.ks_core.proofs.given.Given.name_of.Goals as goal

pub returns-in-None-clause-first : goal.returns-in-None-clause-first
returns-in-None-clause-first c =
    name_in-absent c.self.inside.keysyms.entries c.args.keysym (c.in-None.ensures.value ∙ c.self.invariant c.args.keysym) ∙ ap (λ es. name_in es c.args.keysym) c.self.view_is

pub returns-in-None-pair_at-clause-first : goal.returns-in-None-pair_at-clause-first
returns-in-None-pair_at-clause-first c =
    name_in-found c.self.inside.keysyms.entries c.args.keysym c.in-Some.index.now None (c.in-Some.ensures.value ∙ c.self.invariant c.args.keysym) c.in-None-pair_at.ensures.pair
    ∙ ap (λ es. name_in es c.args.keysym) c.self.view_is

pub returns-in-Some-pair_at-clause-first : goal.returns-in-Some-pair_at-clause-first
returns-in-Some-pair_at-clause-first c =
    ap Some c.as_str.ensures.value
    ∙ name_in-found c.self.inside.keysyms.entries c.args.keysym c.in-Some.index.now _ (c.in-Some.ensures.value ∙ c.self.invariant c.args.keysym) c.in-Some-pair_at.ensures.pair
    ∙ ap (λ es. name_in es c.args.keysym) c.self.view_is

pub returns-in-Some-pair_at-clause-back : goal.returns-in-Some-pair_at-clause-back
returns-in-Some-pair_at-clause-back c =
    own_entry c.self.inside.keysyms.entries c.args.self.now c.args.keysym c.in-Some.index.now _ c.as_str.result.now c.self.view_is c.pair_at.ensures.unique
    (c.in-Some.ensures.value ∙ c.self.invariant c.args.keysym) c.in-Some-pair_at.ensures.pair c.as_str.ensures.value
