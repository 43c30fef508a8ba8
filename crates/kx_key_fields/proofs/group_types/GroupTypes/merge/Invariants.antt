use Rattle.kx_key_fields.proofs.Moving.{TypesBehind}
use Rattle.kx_key_fields.proofs.group_types.GroupTypes.merge.Given as goal

abbrev pub invariant-types : goal.invariant-types
invariant-types l = TypesBehind l.mode l.initial.self l.fn.other l.self l.later.items l.place
