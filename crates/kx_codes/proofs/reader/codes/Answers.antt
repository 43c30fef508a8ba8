use Rattle.std.proofs.Common.{◌≡◌, ◌↔◌, Some, subst, sym}
use Rattle.kx_include.specs.Shared.{expanded_body}
use Rattle.kx_codes.specs.Codes.{name_of, paired}
use Rattle.kx_codes.specs.CodeFaults.{faults_of}
use Rattle.kx_codes.specs.Pairs.{pairs_of}
use Rattle.kx_codes.proofs.Behind.{memory_blamed}
use Rattle.kx_codes.proofs.Faultless.{refused}
use Rattle.kx_merge.proofs.Going.{reported_or_out}
use Rattle.kx_codes.proofs.Numbering.{once_none}
use Rattle.kx_codes.proofs.Targets.{codes_show}
use Rattle.kx_codes.proofs.reader.codes.Goals as goal

pub returns-in_err-pairs-clause-faults : goal.returns-in_err-pairs-clause-faults
returns-in_err-pairs-clause-faults c = reported_or_out c.from_residual-in_err-pairs.result (faults_of (expanded_body c.args.expansion.now)) c.in_err-pairs.field-0.0 c.from_residual-in_err-pairs.ensures.1 (memory_blamed (expanded_body c.args.expansion.now) c.in_err-pairs.field-0.0 c.in_err-pairs.ensures.err)

pub returns-in_err-merged-clause-faults : goal.returns-in_err-merged-clause-faults
returns-in_err-merged-clause-faults c =
    let once = once_none c.new-names.result c.new-names.ensures.none in
    refused c.from_residual-in_err-merged.result (expanded_body c.args.expansion.now) c.in_err-merged.field-0.0 c.from_residual-in_err-merged.ensures.1 (c.in_ok-gathered.ensures.gathered once).faultless c.in_err-merged.ensures.faults.1

pub returns-clause-shows : goal.returns-clause-shows
returns-clause-shows c =
    let once = once_none c.new-names.result c.new-names.ensures.none in
    let stands = c.in_ok-pairs.ensures.named (pairs_of (expanded_body c.args.expansion.now)) (c.in_ok-gathered.ensures.gathered once).pairs_are in
    codes_show c.of-2.result c.in_ok-pairs.pairs c.in_ok-merged.merged.records (expanded_body c.args.expansion.now) c.of-2.ensures stands c.in_ok-merged.ensures.shows

pub returns-clause-joined : goal.returns-clause-joined
returns-clause-joined c = λ code name.
    let agree = c.in_ok-pairs.ensures.agree name code in
    subst (λ v. (name_of v code ≡ Some name) ↔ (paired v name ≡ Some code)) (sym c.of-2.ensures) (agree.1, agree.0)

pub returns-clause-faults : goal.returns-clause-faults
returns-clause-faults c = ((c.in_ok-gathered.ensures.gathered (once_none c.new-names.result c.new-names.ensures.none)).faultless, tt)
