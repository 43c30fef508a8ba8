use Rattle.std.proofs.Common.{◌++◌, [], ap, append-nil, refl, sym, subst, ◌∙◌}
use Rattle.std.specs.Result.{OnOk}
use Rattle.kx_symbols.specs.Keys.{key_at}
use Rattle.kx_resolve.proofs.Named.{of_named, of_none}
use Rattle.kx_resolve.proofs.Steps.{none_names}
use Rattle.kx_keys.specs.Given.{given}
use Rattle.kx_keys.specs.GroupTypes.{group_count}
use Rattle.kx_keys.specs.Keys.{type_names, type_names_if}
use Rattle.kx_resolve.specs.NamedKeys.{name_in, typing_in}
use Rattle.kx_resolve.specs.TypesInUse.{AreUsed}
use Rattle.kx_resolve.specs.UsedTypes.{Adds}
use Rattle.kx_resolve.proofs.types_in_use.use_code.Goals as goal

pub returns-in-Some-clause-used : goal.returns-in-Some-clause-used
returns-in-Some-clause-used c =
    let keys = c.args.keys in
    let typing = typing_in keys in
    let key = given c.in-Some.key.now in
    let same = of_named (type_names_if typing) (name_in keys c.args.code) (key_at keys.keys.now c.args.code) c.in-Some.key.now (type_names typing key (group_count key)) c.in-Some.ensures (λ name. refl) in
    subst (λ more. OnOk c.use_key.result (Adds typing more c.args.used.now c.use_key.new.used)) (sym same) c.use_key.ensures.used

pub returns-in-None-clause-used : goal.returns-in-None-clause-used
returns-in-None-clause-used c = λ names before.
    let keys = c.args.keys in
    let typing = typing_in keys in
    let none = of_none (type_names_if typing) (name_in keys c.args.code) (key_at keys.keys.now c.args.code) [] c.in-None.ensures (λ key. refl) (λ name. none_names typing) in
    subst (λ ns. AreUsed typing ns c.args.used.now.names c.args.used.now.group_types.items) (sym (append-nil names) ∙ ap (λ ns. names ++ ns) (sym none)) before
