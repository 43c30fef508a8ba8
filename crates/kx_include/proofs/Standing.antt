-- What is known of a library that stands for a whole one is known of that one.
use Rattle.std.proofs.Common.{◌≡◌, ◌⊎◌, ◌≤◌, ◌∙◌, [], length, Result, Ok, Err, IfOk, IfErr, OnOk, inl, inr, subst}
use Rattle.kx_lex.specs.declared.fault.Fault.{Fault}
use Rattle.kx_lex.specs.declared.fault.Fault.TheVariants.{Memory}
use Rattle.kx_tree.specs.declared.tree.Kind.TheVariants.{Compat, Geometry, Keycodes, Symbols, Types}
use Rattle.kx_include.specs.Bodies.{AreBodies}
use Rattle.kx_include.specs.Held.{StandsFor}
use Rattle.kx_include.specs.IncludeFaults.{Findings, HasFaultFrom, HasIncludeFault, IsWhole}
use Rattle.kx_include.specs.Library.{Library}
use Rattle.kx_include.specs.Limits.{most_parts}
use Rattle.kx_include.specs.declared.expansion.Bodies.{Bodies}

is_whole : (held whole : Library) → StandsFor held whole → IsWhole held → IsWhole whole
is_whole held whole stands is = subst (λ (f : Findings). (f.faults ≡ []) × (length f.visits ≤ most_parts)) stands.found is

are_bodies : (held whole : Library) (b : Bodies) → StandsFor held whole → AreBodies held b → AreBodies whole b
are_bodies held whole b stands are = record {
  keycodes = are.keycodes ∙ stands.bodies Keycodes;
  types = are.types ∙ stands.bodies Types;
  compat = are.compat ∙ stands.bodies Compat;
  symbols = are.symbols ∙ stands.bodies Symbols;
  geometry = are.geometry ∙ stands.bodies Geometry;
}

has_fault : (held whole : Library) (e : Fault) → StandsFor held whole → (e ≡ Memory) ⊎ HasIncludeFault held e → (e ≡ Memory) ⊎ HasIncludeFault whole e
has_fault held whole e stands (inl memory) = inl memory
has_fault held whole e stands (inr has) = inr (subst (λ (f : Findings). HasFaultFrom 0 f e) stands.found has)

pub whole-standing : {A : Type 0} (held : Library) (r : Result A Fault) → OnOk r (IsWhole held) → OnOk r ((whole : Library) → StandsFor held whole → IsWhole whole)
whole-standing held (Ok x) is = λ whole stands. is_whole held whole stands is
whole-standing held (Err e) is = is

pub bodies-standing : (held : Library) (r : Result Bodies Fault) → IfOk r (λ b. AreBodies held b) → IfOk r (λ b. (whole : Library) → StandsFor held whole → AreBodies whole b)
bodies-standing held (Ok b) are = λ whole stands. are_bodies held whole b stands are
bodies-standing held (Err e) are = are

pub fault-standing : {A : Type 0} (held : Library) (r : Result A Fault) → IfErr r (λ e. (e ≡ Memory) ⊎ HasIncludeFault held e) → IfErr r (λ e. (whole : Library) → StandsFor held whole → (e ≡ Memory) ⊎ HasIncludeFault whole e)
fault-standing held (Ok x) has = has
fault-standing held (Err e) has = λ whole stands. has_fault held whole e stands has
