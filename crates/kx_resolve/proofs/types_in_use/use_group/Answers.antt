use Rattle.std.proofs.Common.{◌++◌, ◌∷◌, [], ◌%◌, ◌^◌, ap, position, sym, ◌∙◌}
use Rattle.std.specs.Str.{bytes_eq}
use Rattle.kx_merge.specs.Offers.{with_name}
use Rattle.kx_resolve.proofs.TypesInUse.{one_used}
use Rattle.kx_keys.specs.Given.{given}
use Rattle.kx_keys.specs.GroupTypes.{group_type_name}
use Rattle.kx_keys.specs.Typing.{typing_of}
use Rattle.kx_resolve.proofs.types_in_use.use_group.Goals as goal

pub returns-clause-used : goal.returns-clause-used
returns-clause-used c = λ names before.
    let typing = typing_of c.args.typing in
    let used = c.args.used.now.names in
    let group_types = c.args.used.now.group_types.items in
    let place = c.in_ok-place.place in
    let named = c.group_type_near-group_type.ensures.name in
    one_used typing names used c.number.new.self group_types c.push.new.self.items (group_type_name typing (given c.args.key.now) c.args.group) place
    (c.in_ok-place.ensures.added ∙ ap (with_name bytes_eq used) named)
    (ap (λ name. position (bytes_eq name) c.number.new.self) (sym named) ∙ c.in_ok-place.ensures.number)
    (c.in_ok-push.ensures.items ∙ ap (λ t. group_types ++ t ∷ []) (c.of.ensures ∙ (λ i. record { place = place % 2 ^ 16; levels = c.group_type_near-group_type.ensures.levels i })))
    before
