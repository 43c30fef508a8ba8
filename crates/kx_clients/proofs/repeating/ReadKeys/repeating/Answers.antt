use Rattle.std.proofs.Common.{◌≤◌, ◌+◌, ◌∷◌, [], ℕ, List, Option, ap, arith, false, get_or, length, length-append, ◌∙◌}
use Rattle.kx_basics.specs.declared.limits.TheConstants.{CODES}
use Rattle.kx_clients.specs.Read.{read_repeats}
use Rattle.kx_clients.specs.Records.{repeat_recorded, truth_recorded}
use Rattle.kx_clients.specs.Repeats.{key_repeats}
use Rattle.kx_keys.specs.Given.{given_in}
use Rattle.kx_resolve.specs.Modmaps.{modmap_at}
use Rattle.kx_symbols.specs.Keys.{key_at}
use Rattle.kx_clients.proofs.Lists.{truths_all, truths_more}
use Rattle.kx_clients.proofs.repeating.ReadKeys.repeating.Goals as goal

pub codes-preserved : goal.codes-preserved
codes-preserved c =
    let all = c.codes.all.items in
    let were = c.codes.invariant in
    let b = c.repeats.result in
    record {
      count = ap length c.in_ok-push.ensures.items ∙ length-append all (b ∷ []) ∙ ap (λ k. k + 1) were.count;
      are = λ k less. ap (λ xs. get_or xs k false) c.in_ok-push.ensures.items ∙ truths_more all (read_repeats c.args.self) c.codes.code b were.count were.are c.repeats.ensures k less;
    }

pub returns-clause-repeats : goal.returns-clause-repeats
returns-clause-repeats c =
    let r = c.args.self in
    let were = c.codes.invariant in
    truths_all c.codes.all.items (read_repeats r) c.codes.code CODES were.count were.are
    (λ k past below.
    let within : c.end-code-end.result ≤ k = omega (arith, past, c.codes-test.false) in
    ap (λ (name : Option (List ℕ)). key_repeats (truth_recorded r.interpreted.now.by_match) r.interpretations.now name (repeat_recorded r.said.now.by_code k) (modmap_at r.modmaps.now k) (given_in (key_at r.keys.now k))) (c.end-code-end.ensures.unnamed k within below))
