use Rattle.std.proofs.Common.{◌≡◌, ◌<◌, List, length, get_or, ◌∷◌, [], ◌+◌, drop, subst}
use Rattle.kx_lex.specs.declared.fault.Fault.{Fault}
use Rattle.kx_include.specs.Expansion.{Body, End}
use Rattle.kx_include.specs.Shared.{entries_body, shared_body}
use Rattle.kx_codes.specs.Gathering.{AreGathered, Blames}
use Rattle.kx_codes.specs.Numbers.{StandsIn}
use Rattle.kx_codes.proofs.Behind.{all_grow, err_passed, going_blames, going_on, split_entry}
use Rattle.kx_codes.proofs.Numbering.{grows_on}
use Rattle.kx_codes.proofs.walking.gather_section.Goals as goal

pub entries-preserved : goal.entries-preserved
entries-preserved c = (
  λ bodies are.
      let place = c.args.section.now.place in
      let es = c.args.section.now.entries.items in
      let x = c.entry-item.result in
      let grown = all_grow c.args.names.now c.entries.names (c.entries.invariant.1 are.once) c.args.done.now bodies are in
      going_on (StandsIn c.args.names.now c.args.gathered.now) (shared_body bodies c.args.section.now End) (entries_body bodies place (drop c.entries.entry-index es) End) (entries_body bodies place (x ∷ []) End) (entries_body bodies place (drop (c.entries.entry-index + 1) es) End)
      c.entries.names c.gather_entry.new.names c.entries.gathered c.gather_entry.new.gathered
      (split_entry bodies place es c.entries.entry-index x (subst (λ ys. c.entries.entry-index < length ys) c.as_slice-entry-items.ensures.value c.entries-test.true) (subst (λ ys. x ≡ get_or ys c.entries.entry-index x) c.as_slice-entry-items.ensures.value c.entry-item.is)) (c.entries.invariant.0 bodies are) (c.in_ok-gather_entry.ensures.took bodies grown),
  λ once. grows_on c.args.names.now c.entries.names c.gather_entry.new.names (c.entries.invariant.1 once) (c.gather_entry.ensures.grows (c.entries.invariant.1 once).once),
)

pub returns-in_err-gather_entry-clause-fault : goal.returns-in_err-gather_entry-clause-fault
returns-in_err-gather_entry-clause-fault c =
    let place = c.args.section.now.place in
    let es = c.args.section.now.entries.items in
    let x = c.entry-item.result in
    let e = c.in_err-gather_entry.field-0.0 in
    err_passed c.from_residual.result (λ (e : Fault). (bodies : List Body) → AreGathered c.args.names.now c.args.done.now bodies → Blames (shared_body bodies c.args.section.now End) e) e c.from_residual.ensures.1
    (λ bodies are. going_blames (StandsIn c.args.names.now c.args.gathered.now) (shared_body bodies c.args.section.now End) (entries_body bodies place (drop c.entries.entry-index es) End) (entries_body bodies place (x ∷ []) End) (entries_body bodies place (drop (c.entries.entry-index + 1) es) End) c.entries.names c.entries.gathered e
    (split_entry bodies place es c.entries.entry-index x (subst (λ ys. c.entries.entry-index < length ys) c.as_slice-entry-items.ensures.value c.entries-test.true) (subst (λ ys. x ≡ get_or ys c.entries.entry-index x) c.as_slice-entry-items.ensures.value c.entry-item.is)) (c.entries.invariant.0 bodies are)
    (c.in_err-gather_entry.ensures.fault bodies (all_grow c.args.names.now c.entries.names (c.entries.invariant.1 are.once) c.args.done.now bodies are)))
