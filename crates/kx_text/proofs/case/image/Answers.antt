use Rattle.std.proofs.Common.{◌≤◌, rules, length, arith}
use Rattle.std.proofs.lemmas.Int.{ints}
use Rattle.std.proofs.lemmas.List.Sorted.{IsPartitionPoint-from_clause}
use Rattle.kx_text.proofs.Runs.{EndsAt, behind_all, between, ends_below, hit, kept_at, most, parted}
use Rattle.kx_text.proofs.case.image.Goals as goal

pub overflow_add-result : goal.overflow_add-result
overflow_add-result c =
    let runs = c.args.runs.now in
    let keysym = c.args.keysym in
    let place = c.partition_point-place.result in
    let point : EndsAt keysym runs place = IsPartitionPoint-from_clause (ends_below keysym) runs place c.partition_point-place.ensures.partitioned (parted runs keysym c.requires) (λ a r f q. search rules) in
    let is = c.in-Some.ensures.lookup.3.1 (0, 0, 0) in
    let kept = kept_at runs place c.in-Some.run'.now c.requires c.in-Some.ensures.lookup.3.0 is in
    let last = most runs keysym place c.in-Some.run'.now point c.in-Some.ensures.lookup.3.0 is in
    omega (arith, ints, kept.image, kept.last, last)

pub returns-then-run-keysym-clause-value : goal.returns-then-run-keysym-clause-value
returns-then-run-keysym-clause-value c =
    let runs = c.args.runs.now in
    let keysym = c.args.keysym in
    let place = c.partition_point-place.result in
    let point : EndsAt keysym runs place = IsPartitionPoint-from_clause (ends_below keysym) runs place c.partition_point-place.ensures.partitioned (parted runs keysym c.requires) (λ a r f q. search rules) in
    hit runs keysym place c.in-Some.run'.now c.requires point c.in-Some.ensures.lookup.3.0 (c.in-Some.ensures.lookup.3.1 (0, 0, 0)) c.if-run-keysym.true

pub returns-then-run-keysym-clause-within : goal.returns-then-run-keysym-clause-within
returns-then-run-keysym-clause-within c =
    let runs = c.args.runs.now in
    let keysym = c.args.keysym in
    let place = c.partition_point-place.result in
    let point : EndsAt keysym runs place = IsPartitionPoint-from_clause (ends_below keysym) runs place c.partition_point-place.ensures.partitioned (parted runs keysym c.requires) (λ a r f q. search rules) in
    let is = c.in-Some.ensures.lookup.3.1 (0, 0, 0) in
    let kept = kept_at runs place c.in-Some.run'.now c.requires c.in-Some.ensures.lookup.3.0 is in
    let last = most runs keysym place c.in-Some.run'.now point c.in-Some.ensures.lookup.3.0 is in
    omega (arith, kept.last, last)

pub returns-else-run-keysym-clause-value : goal.returns-else-run-keysym-clause-value
returns-else-run-keysym-clause-value c =
    let runs = c.args.runs.now in
    let keysym = c.args.keysym in
    let place = c.partition_point-place.result in
    let point : EndsAt keysym runs place = IsPartitionPoint-from_clause (ends_below keysym) runs place c.partition_point-place.ensures.partitioned (parted runs keysym c.requires) (λ a r f q. search rules) in
    between runs keysym place c.in-Some.run'.now c.requires point c.in-Some.ensures.lookup.3.0 (c.in-Some.ensures.lookup.3.1 (0, 0, 0)) c.if-run-keysym.false

pub returns-in-None-clause-value : goal.returns-in-None-clause-value
returns-in-None-clause-value c =
    let runs = c.args.runs.now in
    let keysym = c.args.keysym in
    let place = c.partition_point-place.result in
    let point : EndsAt keysym runs place = IsPartitionPoint-from_clause (ends_below keysym) runs place c.partition_point-place.ensures.partitioned (parted runs keysym c.requires) (λ a r f q. search rules) in
    let all : length runs ≤ place = omega (arith, c.in-None.ensures.lookup.3) in
    behind_all runs keysym place point all
