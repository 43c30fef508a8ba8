use Rattle.std.proofs.Common.{◌++◌, Some, length, map, ap, sym, subst, ◌∙◌}
use Rattle.kx_builder.specs.Pushes.{with_key}
use Rattle.kx_mods.specs.declared.mods.Mods.{Mods}
use Rattle.kx_resolve.proofs.Names.{bounds_of, pushed_of}
use Rattle.kx_resolve.proofs.Steps.{none_names}
use Rattle.kx_resolve.proofs.TypesInUse.{groups_ahead, types_after, valid_ahead}
use Rattle.kx_resolve.specs.Bare.{bare_key}
use Rattle.kx_keys.specs.Bounds.{KeepsBounds}
use Rattle.kx_keys.specs.Given.{given, given_in}
use Rattle.kx_keys.specs.InterpretedKey.{given_to}
use Rattle.kx_keys.specs.Keys.{type_names_if}
use Rattle.kx_keys.specs.LevelActions.{level_actions_of}
use Rattle.kx_resolve.specs.Modmaps.{modmap_at}
use Rattle.kx_resolve.specs.NamedKeys.{if_named, name_in}
use Rattle.kx_resolve.specs.Read.{real_in, typing_read}
use Rattle.kx_resolve.specs.TypedKeys.{GroupsAreValid, key_typed}
use Rattle.kx_resolve.specs.TypesInUse.{type_in_use}
use Rattle.kx_symbols.specs.Keys.{key_at}
use Rattle.kx_tables.specs.Sound.{RangeHolds}
use Rattle.kx_resolve.proofs.keys.push_code.Goals as goal

pub returns-in_ok-push_key-in-None-key-clause-rest : goal.returns-in_ok-push_key-in-None-key-clause-rest
returns-in_ok-push_key-in-None-key-clause-rest c = λ used ns ahead.
    let typing = typing_read c.args.read in
    let key = key_at c.args.read.keys.named.keys.now c.args.code in
    let named = c.in-Some.ensures.value in
    let at = c.in-None-key.ensures ∙ ap (λ n. if_named n key) (sym named) in
    ahead ∙ (λ i. map (type_in_use typing used) (type_names_if typing (sym named i) (given_in (sym at i)) ++ ns)) ∙ ap (λ names. map (type_in_use typing used) (names ++ ns)) (none_names typing)

pub returns-in_ok-push_key-in-Some-key-clause-pushed : goal.returns-in_ok-push_key-in-Some-key-clause-pushed
returns-in_ok-push_key-in-Some-key-clause-pushed c = λ used ns ahead.
    let read = c.args.read in
    let code = c.args.code in
    let old = c.args.builder.now in
    let typing = typing_read read in
    let found = c.in-Some-key.key.now in
    let key = given found in
    let modmap = c.key_mods-modmap.result in
    let name = c.in-Some.name.now in
    let own = c.split.result.0.now in
    let named = c.in-Some.ensures.value in
    let at = c.in-Some-key.ensures ∙ ap (λ n. if_named n (key_at read.keys.named.keys.now code)) (sym named) in
    let level_actions = level_actions_of (real_in read) read.keys.interpretations.now modmap key in
    let types = ahead ∙ (λ i. map (type_in_use typing used) (type_names_if typing (sym named i) (given_in (sym at i)) ++ ns)) in
    let groups = groups_ahead typing key used level_actions c.args.group_types.now own ns c.group_count.result c.group_count.ensures.value types c.split.ensures.own in
    pushed_of typing used (real_in read) read.keys.interpretations.now old _ code (name_in read.keys.named code) (key_at read.keys.named.keys.now code) (Some found) name (modmap_at read.keys.modmaps.now code) modmap named at c.key_mods-modmap.ensures.value
    (c.in_ok-push_key-in-Some-key.ensures.pushed ∙ ap (λ k. with_key old (key_typed k code name own)) c.of-key.ensures ∙ (λ i. with_key old (record (bare_key code name modmap key.range) { groups = groups i })))

pub returns-in_ok-push_key-in-Some-key-clause-bounds : goal.returns-in_ok-push_key-in-Some-key-clause-bounds
returns-in_ok-push_key-in-Some-key-clause-bounds c = λ used ns ahead name is.
    let read = c.args.read in
    let code = c.args.code in
    let typing = typing_read read in
    let found = c.in-Some-key.key.now in
    let key = given found in
    let modmap = c.key_mods-modmap.result in
    let own = c.split.result.0.now in
    let named = c.in-Some.ensures.value in
    let at = c.in-Some-key.ensures ∙ ap (λ n. if_named n (key_at read.keys.named.keys.now code)) (sym named) in
    let level_actions = level_actions_of (real_in read) read.keys.interpretations.now modmap key in
    let types = ahead ∙ (λ i. map (type_in_use typing used) (type_names_if typing (sym named i) (given_in (sym at i)) ++ ns)) in
    let range = subst (λ k. RangeHolds (given_to k).range) c.of-key.ensures c.in_ok-push_key-in-Some-key.ensures.range in
    let valid = valid_ahead typing key used level_actions c.args.group_types.now own ns c.group_count.result c.group_count.ensures.value types c.split.ensures.own (subst (λ k. GroupsAreValid k own (length own)) c.of-key.ensures c.in_ok-push_key-in-Some-key.ensures.valid) in
    subst (λ (m : Mods). KeepsBounds typing name m (level_actions_of (real_in read) read.keys.interpretations.now m (given_in (key_at read.keys.named.keys.now code))) (given_in (key_at read.keys.named.keys.now code))) c.key_mods-modmap.ensures.value
    (bounds_of typing (real_in read) read.keys.interpretations.now modmap c.key_mods-modmap.ensures.fits (name_in read.keys.named code) (key_at read.keys.named.keys.now code) (Some found) c.in-Some.name.now named at c.in-Some.ensures.valid range valid name is)

pub returns-in_ok-push_key-in-Some-key-clause-rest : goal.returns-in_ok-push_key-in-Some-key-clause-rest
returns-in_ok-push_key-in-Some-key-clause-rest c = λ used ns ahead.
    let read = c.args.read in
    let typing = typing_read read in
    let key = given c.in-Some-key.key.now in
    let named = c.in-Some.ensures.value in
    let at = c.in-Some-key.ensures ∙ ap (λ n. if_named n (key_at read.keys.named.keys.now c.args.code)) (sym named) in
    let level_actions = level_actions_of (real_in read) read.keys.interpretations.now c.key_mods-modmap.result key in
    let types = ahead ∙ (λ i. map (type_in_use typing used) (type_names_if typing (sym named i) (given_in (sym at i)) ++ ns)) in
    types_after typing key used level_actions c.args.group_types.now c.split.result.1.now ns c.group_count.result c.group_count.ensures.value types c.split.ensures.rest
