use Rattle.std.proofs.Common.{inl, inr, subst}
use Rattle.kx_source.specs.Source.{HasFault}
use Rattle.kx_client_text.proofs.text.compiles_to.Goals as goal

pub returns : goal.returns
returns c = record {
  same = λ is. cc;
  other = λ _. inl (record {
    fault = c.in-Err.fault;
    has = elim c.in-Err.ensures.fault [
      | inl memory ↦ absurd (c.is_memory.ensures.other c.if-is_memory.false memory)
      | inr has ↦ subst (λ files. HasFault c.args.text.now files c.args.names.now c.in-Err.fault) c.new-alone.ensures has
    ];
  });
  err = tt;
}
