-- What is left out of a library is left out of the source that is read as it.
use Rattle.std.proofs.Common.{ℕ, ◌≡◌, ◌⊎◌, List, Result, Ok, Err, IfErr, IfOk, OnOk, inl, inr}
use Rattle.ks_core.specs.Table.{KeysymTable}
use Rattle.kx_include.specs.Held.{IsHeld, StandsFor}
use Rattle.kx_include.specs.IncludeFaults.{IsWhole}
use Rattle.kx_include.specs.Library.{Library}
use Rattle.kx_include.specs.Source.{Handed}
use Rattle.kx_lex.specs.declared.fault.Fault.{Fault}
use Rattle.kx_lex.specs.declared.fault.Fault.TheVariants.{Memory}
use Rattle.kx_source.specs.Source.{HasFault, HasFaultIn}
use Rattle.kx_clients.specs.LeavesOut.{AreLeftOut, LeavesOut}
use Rattle.kx_clients.specs.LeftOut.{LeftOut}

module _ {A E : Type 0} where
  pub on_ok : {P : Type 0} (r : Result A E) → P → OnOk r P
  on_ok (Ok x) p = p
  on_ok (Err e) p = tt

  pub if_ok_map : {P Q : A → Type 0} (r : Result A E) → ((x : A) → P x → Q x) → IfOk r P → IfOk r Q
  if_ok_map (Ok x) f p = f x p
  if_ok_map (Err e) f p = tt

  pub if_err_map : {P Q : E → Type 0} (r : Result A E) → ((e : E) → P e → Q e) → IfErr r P → IfErr r Q
  if_err_map (Ok x) f p = tt
  if_err_map (Err e) f p = f e p

pub left_of : (source : List ℕ) (files : Handed) (names : KeysymTable) (held : Library) (is : IsHeld source files held) (r : Result LeftOut Fault)
    → OnOk r ((whole : Library) → StandsFor held whole → IsWhole whole)
    → IfOk r (λ left. (whole : Library) → StandsFor held whole → AreLeftOut names whole left)
    → IfOk r (λ left. LeavesOut source files names left)
left_of source files names held is (Ok left) whole are = record { library = is.whole; read = is.read; whole = whole is.whole is.stands; are = are is.whole is.stands }
left_of source files names held is (Err e) whole are = tt

-- a fault of the library that a source is read as is one of the source
pub has_fault_of : {A : Type 0} (source : List ℕ) (files : Handed) (names : KeysymTable) (held : Library) (is : IsHeld source files held) (r : Result A Fault)
    → IfErr r (λ e. (whole : Library) → StandsFor held whole → (e ≡ Memory) ⊎ HasFaultIn names whole e)
    → IfErr r (λ e. (e ≡ Memory) ⊎ HasFault source files names e)
has_fault_of source files names held is (Ok x) has = tt
has_fault_of source files names held is (Err e) has =
    elim (has is.whole is.stands) [
      | inl memory ↦ inl memory
      | inr fault ↦ inr (inr (inr (record { library = is.whole; read = is.read; has = fault })))
    ]
