use Rattle.std.proofs.Common.{ℕ, ◌≡◌, ◌≤◌, ◌+◌, length, [], List, Option, ap, map, sym, subst, ◌∙◌, arith}
use Rattle.kx_codes.specs.Codes.{IsEnd}
use Rattle.kx_resolve.proofs.Gathering.{used_whole}
use Rattle.kx_resolve.proofs.TypesInUse.{none_used, places_whole}
use Rattle.kx_resolve.proofs.Typed.{used_few}
use Rattle.kx_resolve.proofs.Steps.{used_is, used_next, used_none}
use Rattle.kx_keys.specs.Given.{KeyGiven}
use Rattle.kx_keys.specs.Keys.{type_names_below, types_used}
use Rattle.kx_resolve.specs.TypesInUse.{AreUsed, TypeInUse, type_in_use}
use Rattle.ks_core.specs.Keysym.{FurtherLetters}
use Rattle.ks_core.specs.Table.{letters_of}
use Rattle.kx_types.specs.Types.{NamedTypes}
use Rattle.kx_resolve.specs.NamedKeys.{key_in, name_in, typing_in}
use Rattle.kx_keys.specs.Typing.{typing_by}
use Rattle.kx_resolve.proofs.types_in_use.types_used.Goals as goal

pub codes-init : goal.codes-init
codes-init c =
    let typing = typing_in c.args.keys in
    let name = name_in c.args.keys in
    let key = key_in c.args.keys in
    subst (λ ns. AreUsed typing ns c.new.result c.new-2.result.items) (sym (used_none typing name key))
    (subst (λ us. AreUsed typing [] us c.new-2.result.items) (sym c.new.ensures) (subst (AreUsed typing [] []) (sym c.new-2.ensures.items) (none_used typing)))

pub codes-preserved : goal.codes-preserved
codes-preserved c =
    let typing = typing_in c.args.keys in
    let name = name_in c.args.keys in
    let key = key_in c.args.keys in
    let code = c.codes.code in
    subst (λ ns. AreUsed typing ns c.use_code.new.used.names c.use_code.new.used.group_types.items) (sym (used_next typing name key code))
    (c.in_ok-use_code.ensures.used (type_names_below typing name key code) c.codes.invariant)

module _ (types : NamedTypes) (letters : FurtherLetters) (name : ℕ → Option (List ℕ)) (key : ℕ → KeyGiven) (used : List (List ℕ)) (group_types : List TypeInUse) (code end : ℕ) (past : end ≤ code) (upto : code ≤ end) (ends : IsEnd end name) (are : AreUsed (typing_by types letters) (type_names_below (typing_by types letters) name key code) used group_types) where
  whole : type_names_below (typing_by types letters) name key code ≡ type_names_below (typing_by types letters) name key 4096
  whole = let all : code ≡ end = omega (arith, past, upto) in ap (type_names_below (typing_by types letters) name key) all ∙ sym (used_whole (typing_by types letters) name key end ends)

  used_all : used ≡ types_used (typing_by types letters) name key
  used_all = (subst (λ ns. AreUsed (typing_by types letters) ns used group_types) whole are).used_are ∙ used_is (typing_by types letters) name key

  used_count : length used ≤ length types + 1
  used_count = let count : length used ≡ length (types_used (typing_by types letters) name key) = ap length used_all in omega (arith, count, used_few types letters name key)

  typed_all : length used ≤ 4097 → group_types ≡ map (type_in_use (typing_by types letters) used) (type_names_below (typing_by types letters) name key 4096)
  typed_all few = are.types_are ∙ places_whole (typing_by types letters) used (type_names_below (typing_by types letters) name key code) (omega (arith, few)) ∙ ap (map (type_in_use (typing_by types letters) used)) whole

pub returns-clause-used : goal.returns-clause-used
returns-clause-used c = used_all c.args.keys.typing.types.now (letters_of c.args.keys.typing.letters) (name_in c.args.keys) (key_in c.args.keys) c.codes.used.names c.codes.used.group_types.items c.codes.code c.end-code-end.result c.codes-test.false c.codes.auto.code-end c.end-code-end.ensures c.codes.invariant

pub prove-unreachable-requires : goal.prove-unreachable-requires
prove-unreachable-requires c =
    let few = used_count c.args.keys.typing.types.now (letters_of c.args.keys.typing.letters) (name_in c.args.keys) (key_in c.args.keys) c.codes.used.names c.codes.used.group_types.items c.codes.code c.end-code-end.result c.codes-test.false c.codes.auto.code-end c.end-code-end.ensures c.codes.invariant in
    omega (arith, few, c.if-prove.true, c.len.ensures.value, c.len-2.ensures.value)

pub returns-clause-few : goal.returns-clause-few
returns-clause-few c = omega (arith, c.if-prove.false, c.len.ensures.value, c.len-2.ensures.few)

pub returns-clause-group_types : goal.returns-clause-group_types
returns-clause-group_types c =
    typed_all c.args.keys.typing.types.now (letters_of c.args.keys.typing.letters) (name_in c.args.keys) (key_in c.args.keys) c.codes.used.names c.codes.used.group_types.items c.codes.code c.end-code-end.result c.codes-test.false c.codes.auto.code-end c.end-code-end.ensures c.codes.invariant
    (omega (arith, c.if-prove.false, c.len.ensures.value, c.len-2.ensures.few))
