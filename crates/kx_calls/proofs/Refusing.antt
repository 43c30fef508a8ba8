-- That a source that is refused has the fault.
use Rattle.std.proofs.Common.{◌≡◌, ◌≢◌, ◌⊎◌, ℕ, Bool, true, false, List, Option, Some, arith, inl, inr, length, refl, subst}
use Rattle.std.proofs.lemmas.Bool.{ltb-true, ltb-false}
use Rattle.std.specs.Prelude.{nat_lt}
use Rattle.ks_core.specs.Table.{KeysymTable}
use Rattle.kx_lex.specs.declared.fault.Fault.{Fault}
use Rattle.kx_lex.specs.declared.fault.Fault.TheVariants.{Memory}
use Rattle.kx_source.specs.Source.{HasFault}
use Rattle.kx_sources.specs.Given.{Given}
use Rattle.kx_calls.specs.Out.{Copies}
use Rattle.kx_calls.specs.declared.status.TheConstants.{MEMORY, MISSING, OK, ROOM, SOURCE}

pub is_given : {source : Option Given} {held given now : Given} → source ≡ Some held → source ≡ Some given → now ≡ held → now ≡ given
is_given taken there is = cc

pub not_ok : {status : ℕ} → status ≡ OK → status ≡ SOURCE → ⊥
not_ok ok refused = omega (arith, ok, refused)

pub not_missing : {status : ℕ} → status ≡ MISSING → status ≡ SOURCE → ⊥
not_missing missing refused = omega (arith, missing, refused)

pub not_memory : {status : ℕ} → status ≡ MEMORY → status ≡ SOURCE → ⊥
not_memory memory refused = omega (arith, memory, refused)

not_room : {status : ℕ} → status ≡ ROOM → status ≡ SOURCE → ⊥
not_room room refused = omega (arith, room, refused)

-- what is copied, or finds no room, isn't refused
pub not_copied : {bytes before after : List ℕ} {size status : ℕ} → Copies bytes before after size status → status ≡ SOURCE → ⊥
not_copied {bytes} {before} copies refused = by (nat_lt (length before) (length bytes)) refl
  where
    by : (b : Bool) → nat_lt (length before) (length bytes) ≡ b → ⊥
    by true less = not_room (copies.refused (ltb-true _ _ less)).1 refused
    by false more = not_ok (copies.copied (ltb-false _ _ more)).1 refused

pub is_lasting : {status : ℕ} {found : Fault} → status ≡ SOURCE → ((status ≡ MEMORY) × (found ≡ Memory)) ⊎ ((status ≡ SOURCE) × (found ≢ Memory)) → found ≢ Memory
is_lasting refused (inl memory) = absurd (not_memory memory.0 refused)
is_lasting refused (inr lasting) = lasting.1

pub has_fault : (names : KeysymTable) {now given : Given} (found : Fault) → now ≡ given → found ≢ Memory → (found ≡ Memory) ⊎ HasFault now.text now.files names found → HasFault given.text given.files names found
has_fault names found same lasting (inl memory) = absurd (lasting memory)
has_fault names found same lasting (inr has) = subst (λ (given : Given). HasFault given.text given.files names found) same has
