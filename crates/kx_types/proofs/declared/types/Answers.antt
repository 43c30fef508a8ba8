use Rattle.std.proofs.Common.{ap, ◌∙◌, subst, sym, map, arith}
use Rattle.kx_virtual_mods.specs.Counted.{names_behind, statements_of}
use Rattle.kx_types.specs.Types.{type_names}
use Rattle.std.proofs.lemmas.List.{length-map}
use Rattle.kx_types.specs.Shown.{shown_entry}
use Rattle.kx_include.specs.Shared.{expanded_body}
use Rattle.kx_types.specs.Types.{TypesShow}
use Rattle.kx_types.proofs.NamesShown.{types_show}
use Rattle.kx_types.proofs.Few.{types_few}
use Rattle.kx_types.specs.declared.limits.TheConstants.{MOST_TYPES}
use Rattle.kx_types.proofs.declared.types.Goals as goal

pub returns-clause-shows : goal.returns-clause-shows
returns-clause-shows c =
    let names = c.args.modifiers.now.names in
    let body = expanded_body c.args.expansion.now in
    subst (λ ts. TypesShow ts names body) (sym c.of.ensures) (types_show c.in_ok-merged.merged.records names body c.in_ok-merged.ensures.shows)

pub of-requires : goal.of-requires
of-requires c =
    let names = c.args.modifiers.now.names in
    let body = expanded_body c.args.expansion.now in
    let few = types_few names body (map shown_entry c.in_ok-merged.merged.records.entries) c.in_ok-_counted._counted MOST_TYPES (types_show c.in_ok-merged.merged.records names body c.in_ok-merged.ensures.shows) (c.in_ok-_counted.ensures.names ∙ ap (λ ks. names_behind type_names ks (statements_of body)) c.new.ensures) c.in_ok-_counted.ensures.few in
    omega (arith, few, length-map c.in_ok-merged.merged.records.entries shown_entry)
