use Rattle.std.proofs.Common.{◌-◌, ◌∙◌, None, ap, arith, length, set}
use Rattle.kx_run.specs.Presses.{keys_of, entry_index}
use Rattle.kx_run.proofs.Entries.{keys-disturbed, place-disturbed}
use Rattle.kx_run.proofs.presses.disturb_last.Goals as goal

pub returns-then-count-gt0-clause-keys : goal.returns-then-count-gt0-clause-keys
returns-then-count-gt0-clause-keys c =
    let es = c.args.entries.now in
    ap (λ x. keys_of (set es (length es - 1) x)) c.tell.ensures
    ∙ keys-disturbed es (length es - 1) None (omega (arith, c.if-count-gt0.true)) c.requires

pub returns-then-count-gt0-clause-places : goal.returns-then-count-gt0-clause-places
returns-then-count-gt0-clause-places c = λ code.
    let es = c.args.entries.now in
    ap (λ x. entry_index code (set es (length es - 1) x)) c.tell.ensures
    ∙ place-disturbed code es (length es - 1) None
