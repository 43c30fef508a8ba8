use Rattle.std.proofs.Common.{◌≡◌, ◌∙◌, inl, inr, subst, sym}
use Rattle.std.specs.Prelude.{IfSome}
use Rattle.kx_client_text.specs.ClientText.{IsClientText}
use Rattle.kx_sources.specs.Given.{Given}
use Rattle.kx_calls.specs.NamesInC.{names_in}
use Rattle.kx_calls.proofs.Refusing.{has_fault, is_given, is_lasting, not_copied, not_missing}
use Rattle.xkc_c.proofs.source_compiling.xkc_source_text.Goals.{in-Err, in-Ok-None, in-Ok-Some}
use Rattle.xkc_c.proofs.source_compiling.xkc_source_text.Goals as goal

pub returns-clause-fault : goal.returns-clause-fault
returns-clause-fault c given there refused =
    let same = is_given c.in-Some.ensures.taken there c.deref.ensures in
    elim c.match-text_under.branch [
      | in-Ok-Some w ↦ absurd (not_copied w.copy-status.ensures (sym w.status-is ∙ refused))
      | in-Ok-None w ↦ absurd (not_missing w.status-is refused)
      | in-Err w ↦ (w.in-Err.found, has_fault (names_in c.args.names.now.value) w.in-Err.found same (is_lasting (sym w.status-is ∙ refused) w.refusal-status.ensures) w.in-Err.ensures.fault)
    ]

pub returns-clause-text : goal.returns-clause-text
returns-clause-text c given there =
    let same = is_given c.in-Some.ensures.taken there c.deref.ensures in
    let names = names_in c.args.names.now.value in
    elim c.match-text_under.branch [
      | in-Ok-Some w ↦ inr (inr (inr (
        w.in-Ok-Some.text.items,
        (
          rw (w.out-is, w.size-is, w.status-is, sym w.as_slice.ensures.value) w.copy-status.ensures,
          subst (λ (given : Given). IsClientText given.text given.files names w.in-Ok-Some.text.items) same (subst (λ made. IfSome made (λ text. IsClientText c.deref.result.now.text c.deref.result.now.files names text.items)) w.in-Ok-Some.field-0-is w.in-Ok-Some.ensures.text),
        ),
      )))
      | in-Ok-None w ↦ inr (inr (inl w.status-is))
      | in-Err w ↦ elim w.refusal-status.ensures [
        | inl memory ↦ inl (w.status-is ∙ memory.0)
        | inr source ↦ inr (inl (w.status-is ∙ source.0))
      ]
    ]
