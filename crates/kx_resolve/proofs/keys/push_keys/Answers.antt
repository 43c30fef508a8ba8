use Rattle.std.proofs.Common.{◌≡◌, ◌++◌, length, map, sym, subst, ap, ◌∙◌, arith}
use Rattle.kx_basics.specs.declared.limits.TheConstants.{CODES}
use Rattle.kx_builder.specs.Resolved.{Resolved}
use Rattle.kx_resolve.proofs.Gathering.{bounds_whole, keys_whole}
use Rattle.kx_resolve.proofs.TypesInUse.{next_ahead}
use Rattle.kx_resolve.proofs.Steps.{below_next, below_none, used_none}
use Rattle.kx_resolve.proofs.Whole.{below_few, bounds_next}
use Rattle.kx_resolve.specs.Bare.{with_keys}
use Rattle.kx_resolve.specs.NamedKeys.{key_in, name_in, names_used}
use Rattle.kx_resolve.specs.Read.{KeepBoundsBelow, keyed_in, keys_at, keys_read, typing_read}
use Rattle.kx_resolve.specs.TypesInUse.{type_in_use}
use Rattle.kx_resolve.proofs.keys.push_keys.Goals as goal

pub codes-init : goal.codes-init
codes-init c =
    let read = c.args.read in
    let named = read.keys.named in (
      (λ i. record c.args.builder.now { keys = (c.requires.keyless ∙ sym (below_none (typing_read read) c.args.used.now.names (keyed_in read))) i }),
      λ code less of_key is. absurd (omega (arith, less)),
      (
        names_used named CODES,
        c.as_slice-group_types.ensures.value ∙ c.requires.group_types,
        ap (λ ns. ns ++ names_used named CODES) (used_none (typing_read read) (name_in named) (key_in named)),
      ),
    )

pub codes-preserved : goal.codes-preserved
codes-preserved c =
    let read = c.args.read in
    let typing = typing_read read in
    let keyed = keyed_in read in
    let used = c.args.used.now.names in
    let n = c.codes.code in
    let next = next_ahead typing keyed.name keyed.key n (omega (arith, c.codes-test.true, c.end-code-end.ensures.within)) c.codes.invariant.2.0 c.codes.invariant.2.2 in
    let ahead = c.codes.invariant.2.1 ∙ ap (map (type_in_use typing used)) next.1 in (
      c.in_ok-group_types.ensures.pushed used next.0 ahead
          ∙ (λ i. with_keys (c.codes.invariant.0 i) (keys_at read n used))
          ∙ (λ i. record c.args.builder.now { keys = sym (below_next typing used keyed n) i }),
      bounds_next typing keyed n c.codes.invariant.1 (c.in_ok-group_types.ensures.bounds used next.0 ahead),
      (next.0, c.in_ok-group_types.ensures.rest used next.0 ahead, next.2),
    )

pub push_code-requires : goal.push_code-requires
push_code-requires c =
    let read = c.args.read in
    let used = c.args.used.now.names in
    let count : length c.codes.builder.keys ≡ length (keys_read read used c.codes.code) = ap (λ (r : Resolved). length r.keys) c.codes.invariant.0 in
    record { few = omega (arith, c.codes-test.true, c.end-code-end.ensures.within, count, below_few (typing_read read) used (keyed_in read) c.codes.code) }

pub returns-clause-pushed : goal.returns-clause-pushed
returns-clause-pushed c =
    let read = c.args.read in
    let used = c.args.used.now.names in
    let all : c.codes.code ≡ c.end-code-end.result = omega (arith, c.codes-test.false, c.codes.auto.code-end) in
    let whole = ap (keys_read read used) all ∙ sym (keys_whole (typing_read read) used (keyed_in read) c.end-code-end.result c.end-code-end.ensures) in
    c.codes.invariant.0 ∙ (λ i. record c.args.builder.now { keys = whole i })

pub returns-clause-bounds : goal.returns-clause-bounds
returns-clause-bounds c =
    let read = c.args.read in
    let all : c.codes.code ≡ c.end-code-end.result = omega (arith, c.codes-test.false, c.codes.auto.code-end) in
    bounds_whole (typing_read read) (keyed_in read) c.end-code-end.result c.end-code-end.ensures (subst (KeepBoundsBelow read) all c.codes.invariant.1)
