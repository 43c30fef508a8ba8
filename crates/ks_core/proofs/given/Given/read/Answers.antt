use Rattle.std.proofs.Common.{◌≡◌, true, false, Some, ◌⊎◌, inl, inr, ⊎_elim, sym, ◌∙◌, ap}
use Rattle.ks_core.specs.Lines.{fault_of_line, is_another, known_keysym}
use Rattle.ks_core.specs.declared.fault.NameFault.TheVariants.{Memory, Twice}
use Rattle.ks_core.proofs.LinesLemmas.{OnOk-map, IfErr-map, fault_of_line-own, fault_of_line-skipped, fault_of_line-entry, given_after-skipped, given_after-entry}
use Rattle.ks_core.proofs.given.Given.read.Goals as goal

pub returns-in-Some-clause-valid : goal.returns-in-Some-clause-valid
returns-in-Some-clause-valid c =
    let read = rw c.in-Some.is at c.in-Ok.ensures.read in
    OnOk-map c.read_entry.result _ _ (λ same. fault_of_line-entry c.args.self.now c.args.number c.args.line.now (c.in-Some.name.now, c.in-Some.keysym) false c.in-Ok.ensures.valid read.0 read.1 same) c.read_entry.ensures.valid

pub returns-in-Some-clause-given : goal.returns-in-Some-clause-given
returns-in-Some-clause-given c =
    let read = rw c.in-Some.is at c.in-Ok.ensures.read in
    OnOk-map c.read_entry.result _ _ (λ given. given ∙ sym (given_after-entry c.args.self.now c.args.line.now (c.in-Some.name.now, c.in-Some.keysym) read.0 read.1)) c.read_entry.ensures.given

pub returns-in-Some-clause-fault : goal.returns-in-Some-clause-fault
returns-in-Some-clause-fault c =
    let read = rw c.in-Some.is at c.in-Ok.ensures.read in
    let name = c.in-Some.name.now in
    let keysym = c.in-Some.keysym in
    IfErr-map c.read_entry.result
    (λ fault. (fault ≡ Memory) ⊎ ((is_another (known_keysym c.args.self.now name) keysym ≡ true) × (fault ≡ Twice c.args.number)))
    (λ fault. (fault ≡ Memory) ⊎ (fault_of_line c.args.self.now c.args.number c.args.line.now ≡ Some fault))
    (λ fault. ⊎_elim inl (λ twice. inr (fault_of_line-entry c.args.self.now c.args.number c.args.line.now (name, keysym) true c.in-Ok.ensures.valid read.0 read.1 twice.0 ∙ ap Some (sym twice.1))))
    c.read_entry.ensures.fault

pub returns-in-None-clause-valid : goal.returns-in-None-clause-valid
returns-in-None-clause-valid c = fault_of_line-skipped c.args.self.now c.args.number c.args.line.now c.in-Ok.ensures.valid (rw c.in-None.is at c.in-Ok.ensures.skipped)

pub returns-in-None-clause-given : goal.returns-in-None-clause-given
returns-in-None-clause-given c = sym (given_after-skipped c.args.self.now c.args.line.now (rw c.in-None.is at c.in-Ok.ensures.skipped))

pub returns-in-Err-clause-fault : goal.returns-in-Err-clause-fault
returns-in-Err-clause-fault c = inr (fault_of_line-own _ _ _ _ c.in-Err.ensures.fault)
