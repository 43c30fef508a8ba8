use Rattle.std.proofs.Common.{◌≡◌, ap, sym, subst, ◌∙◌, IfSome, None, Some, position}
use Rattle.std.specs.Map.{keys_of}
use Rattle.std.specs.Str.{bytes_eq}
use Rattle.std.specs.Option.{option_copied, option_map}
use Rattle.kx_types.proofs.NamesShown.{named_is, place_is}
use Rattle.kx_types.proofs.table.Types.named_near.Goals as goal

pub returns-in-None-clause-value : goal.returns-in-None-clause-value
returns-in-None-clause-value c = sym (named_is c.args.name.now c.args.self.now c.self.inside.by_name.entries None c.self.view_is (sym c.found_near.ensures.value ∙ ap (option_map (λ found. found.1.now)) c.in-None.is))

pub returns-in-None-as_ref-clause-value : goal.returns-in-None-as_ref-clause-value
returns-in-None-as_ref-clause-value c =
    ap option_copied (sym c.in-None-as_ref.is) ∙ c.as_ref.ensures.value
    ∙ sym (named_is c.args.name.now c.args.self.now c.self.inside.by_name.entries (Some c.in-Some.declared.now) c.self.view_is (sym c.found_near.ensures.value ∙ ap (option_map (λ found. found.1.now)) c.in-Some.is))

pub returns-in-Some-as_ref-clause-value : goal.returns-in-Some-as_ref-clause-value
returns-in-Some-as_ref-clause-value c =
    ap option_copied (sym c.in-Some-as_ref.is) ∙ c.as_ref.ensures.value
    ∙ sym (named_is c.args.name.now c.args.self.now c.self.inside.by_name.entries (Some c.in-Some.declared.now) c.self.view_is (sym c.found_near.ensures.value ∙ ap (option_map (λ found. found.1.now)) c.in-Some.is))

pub returns-in-Some-as_ref-clause-place : goal.returns-in-Some-as_ref-clause-place
returns-in-Some-as_ref-clause-place c = place_is c.args.name.now c.args.self.now c.self.inside.by_name.entries c.self.view_is ∙ subst (λ o. IfSome o (λ found. position (bytes_eq c.args.name.now) (keys_of c.self.inside.by_name.entries) ≡ Some found.0)) c.in-Some.is c.found_near.ensures.place
