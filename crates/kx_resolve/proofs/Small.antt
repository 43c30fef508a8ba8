-- What is pushed is small, so that a push is refused only for lack of memory.
use Rattle.std.proofs.Common.{◌≡◌, ◌<◌, ◌≤◌, [], length}
use Rattle.std.specs.Bool.{⊤}
use Rattle.kx_builder.specs.Added.{CellFits, GroupFits, KeyFits, TypeFits}
use Rattle.kx_builder.proofs.Refusing.{only_memory}
use Rattle.kx_builder.specs.Faults.{IsCause}
use Rattle.kx_builder.specs.Placed.{content_of_resolved}
use Rattle.kx_builder.specs.Pushes.{last_groups}
use Rattle.kx_builder.specs.Resolved.{Resolved, ResolvedCell, ResolvedKey, ResolvedType}
use Rattle.kx_builder.specs.WithinLimits.{IsWithinLimits, TypeIsWithinLimits}
use Rattle.kx_builder.proofs.Room.{cell_fits, group_fits, key_fits, type_fits}
use Rattle.kx_builder.specs.declared.fault.BuildFault.{BuildFault}
use Rattle.kx_builder.specs.declared.fault.BuildFault.TheVariants as builds

pub type_refused : (r : Resolved) (t : ResolvedType) (e : BuildFault) → IsWithinLimits r → TypeIsWithinLimits t → r.keys ≡ [] → IsCause e (TypeFits (content_of_resolved r) t) (r.keys ≡ []) → e ≡ builds.Memory
type_refused r t e small type_small keyless cause = only_memory e (TypeFits (content_of_resolved r) t) (r.keys ≡ []) cause (type_fits r small t type_small) keyless

pub key_refused : (r : Resolved) (k : ResolvedKey) (e : BuildFault) → IsWithinLimits r → length k.name ≤ 255 → IsCause e (KeyFits (content_of_resolved r) k) ⊤ → e ≡ builds.Memory
key_refused r k e small short cause = only_memory e (KeyFits (content_of_resolved r) k) ⊤ cause (key_fits r small k short) tt

pub group_refused : (r : Resolved) (e : BuildFault) → IsWithinLimits r → length (last_groups r.keys) < 255 → 0 < length r.keys → IsCause e (GroupFits (content_of_resolved r)) (0 < length r.keys) → e ≡ builds.Memory
group_refused r e small few some cause = only_memory e (GroupFits (content_of_resolved r)) (0 < length r.keys) cause (group_fits r small few) some

pub cell_refused : (r : Resolved) (d : ResolvedCell) (e : BuildFault) → IsWithinLimits r → length d.syms ≤ 8 → 0 < length (last_groups r.keys) → IsCause e (CellFits (content_of_resolved r) d) (0 < length (last_groups r.keys)) → e ≡ builds.Memory
cell_refused r d e small few some cause = only_memory e (CellFits (content_of_resolved r) d) (0 < length (last_groups r.keys)) cause (cell_fits r small d few) some
