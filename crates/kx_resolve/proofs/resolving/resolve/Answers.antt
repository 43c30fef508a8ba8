use Rattle.std.proofs.Common.{◌≤◌, All, length, sym, subst, ap, ◌∙◌}
use Rattle.std.proofs.lemmas.List.Elements.{All-weaker}
use Rattle.kx_builder.specs.IndicatorMaps.{with_indicator_maps}
use Rattle.kx_builder.specs.Placed.{content_of_resolved}
use Rattle.kx_builder.specs.Resolved.{Resolved}
use Rattle.kx_resolve.proofs.Ending.{built_agrees, built_valid, built_whole}
use Rattle.kx_resolve.proofs.Typed.{IsUsable, used_usable}
use Rattle.kx_resolve.proofs.Whole.{tree_whole}
use Rattle.kx_resolve.specs.NamedKeys.{key_in, name_in, used_in}
use Rattle.kx_resolve.specs.Read.{keyed_in, lit_in, real_in, typing_read}
use Rattle.kx_tables.specs.Keymap.{keymap_of}
use Rattle.kx_tables.specs.RawTables.{content_of}
use Rattle.kx_resolve.proofs.resolving.resolve.Goals as goal

pub with_types-requires-clause-few : goal.with_types-requires-clause-few
with_types-requires-clause-few c = c.in_ok-used.ensures.few

pub with_types-requires-clause-short : goal.with_types-requires-clause-short
with_types-requires-clause-short c =
    let typing = typing_read c.args.read in
    let named = c.args.read.keys.named in
    subst (All (λ name. length name ≤ 255)) (sym c.in_ok-used.ensures.used)
    (All-weaker (IsUsable typing) (λ name. length name ≤ 255) (λ name usable. usable.short) (used_in named) (used_usable typing (name_in named) (key_in named)))

pub push_keys-requires-clause-keyless : goal.push_keys-requires-clause-keyless
push_keys-requires-clause-keyless c = ap (λ (r : Resolved). r.keys) c.in_ok-builder.ensures.types

pub push_keys-requires-clause-group_types : goal.push_keys-requires-clause-group_types
push_keys-requires-clause-group_types c = c.in_ok-used.ensures.group_types

pub returns-clause-content : goal.returns-clause-content
returns-clause-content c =
    let read = c.args.read in
    let built = tree_whole (real_in read) (typing_read read) c.in_ok-used.used.names (keyed_in read) c.in_ok-used.ensures.used c.in_ok-builder.builder c.push_keys.new.builder c.in_ok-builder.ensures.types c.in_ok-push_keys.ensures.pushed in
    c.in_ok-made.ensures.content ∙ ap (λ r. with_indicator_maps (content_of_resolved r) (lit_in read) read.group_names.now) built

pub returns-clause-agrees : goal.returns-clause-agrees
returns-clause-agrees c =
    let read = c.args.read in
    let real = real_in read in
    let typing = typing_read read in
    let keyed = keyed_in read in
    let built = tree_whole real typing c.in_ok-used.used.names keyed c.in_ok-used.ensures.used c.in_ok-builder.builder c.push_keys.new.builder c.in_ok-builder.ensures.types c.in_ok-push_keys.ensures.pushed in
    built_agrees real typing keyed c.in_ok-used.used.names c.in_ok-used.ensures.used c.in_ok-used.ensures.few c.in_ok-builder.ensures.hold c.in_ok-push_keys.ensures.bounds c.push_keys.new.builder built (keymap_of (content_of c.in_ok-made.made.0)) (lit_in read) (c.in_ok-made.ensures.agrees (built_whole real typing keyed c.in_ok-used.used.names c.in_ok-used.ensures.used c.in_ok-used.ensures.few c.in_ok-builder.ensures.hold c.in_ok-push_keys.ensures.bounds c.push_keys.new.builder built))

pub returns-clause-sound : goal.returns-clause-sound
returns-clause-sound c =
    let read = c.args.read in
    let real = real_in read in
    let typing = typing_read read in
    let keyed = keyed_in read in
    let built = tree_whole real typing c.in_ok-used.used.names keyed c.in_ok-used.ensures.used c.in_ok-builder.builder c.push_keys.new.builder c.in_ok-builder.ensures.types c.in_ok-push_keys.ensures.pushed in
    c.in_ok-made.ensures.sound (built_valid real typing keyed c.in_ok-used.used.names c.in_ok-used.ensures.used c.in_ok-used.ensures.few c.in_ok-builder.ensures.hold c.in_ok-push_keys.ensures.bounds c.push_keys.new.builder built c.names_apart.ensures)
