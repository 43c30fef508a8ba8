-- Targets are told apart as their definition says.
use Rattle.std.proofs.Common.{◌≡◌, List, Option, Some, refl, sym, ap, ◌∙◌}
use Rattle.indexmap.specs.IndexSet.{insert_key}
use Rattle.kx_modmaps.specs.Entries.{same_target, with_target}
use Rattle.kx_modmaps.specs.contracts.target.TargetPartialEq.TheImpl.{ghosts}
use Rattle.kx_modmaps.specs.declared.target.Target.{Target}

pub told_as_said : ghosts.eq ≡ same_target
told_as_said = refl

pub added : (targets new : List Target) (o : Option Target) (target : Target) → o ≡ Some target → new ≡ insert_key ghosts.eq targets target → new ≡ with_target targets o
added targets new o target is inserted = inserted ∙ ap (λ f. insert_key f targets target) told_as_said ∙ ap (with_target targets) (sym is)
