use Rattle.std.proofs.Common.{ap, filter, refl, subst, sym, ◌∙◌}
use Rattle.std.specs.Option.{option_map}
use Rattle.kx_mods.specs.Mods.{mask}
use Rattle.kx_compat.specs.Indexed.{is_for_any, is_named}
use Rattle.kx_compat.specs.Choosing.{IsFirstOrNone, matches}
use Rattle.kx_compat.proofs.Firsts.{least_is_first}
use Rattle.kx_compat.proofs.Parting.{chosen_any, chosen_named}
use Rattle.kx_compat.proofs.index.Interpretations.choose.Goals as goal

pub returns-in-Some-clause-value : goal.returns-in-Some-clause-value
returns-in-Some-clause-value c =
    let named = filter (is_named c.args.keysym) c.args.self.now in
    chosen_named c.args.first_level (mask c.args.modmap) c.args.keysym c.args.self.now named refl (option_map (λ i. i.now) c.choose_named.result) c.in-Some.interpretation.now (ap (option_map (λ i. i.now)) c.in-Some.is) c.choose_named.ensures

pub returns-in-None-clause-value : goal.returns-in-None-clause-value
returns-in-None-clause-value c =
    let named = filter (is_named c.args.keysym) c.args.self.now in
    let any = c.self.invariant.any_are ∙ ap (filter is_for_any) c.self.view_is in
    chosen_any c.args.first_level (mask c.args.modmap) c.args.keysym c.args.self.now named refl (option_map (λ i. i.now) c.choose_named.result) (option_map (λ i. i.now) c.choose.result) _ any (ap (option_map (λ i. i.now)) c.in-None.is) c.choose_named.ensures c.choose.ensures

pub returns-in-Some-clause-first : goal.returns-in-Some-clause-first
returns-in-Some-clause-first c =
    let test = matches c.args.first_level (mask c.args.modmap) c.args.keysym in
    subst (IsFirstOrNone test c.args.self.now) (sym (returns-in-Some-clause-value c)) (least_is_first test c.args.self.now)

pub returns-in-None-clause-first : goal.returns-in-None-clause-first
returns-in-None-clause-first c =
    let test = matches c.args.first_level (mask c.args.modmap) c.args.keysym in
    subst (IsFirstOrNone test c.args.self.now) (sym (returns-in-None-clause-value c)) (least_is_first test c.args.self.now)
