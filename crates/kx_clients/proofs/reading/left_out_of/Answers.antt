use Rattle.std.proofs.Common.{◌≡◌, ◌⊎◌, ◌∷◌, Contains, inl, inr, subst}
use Rattle.ks_core.specs.Table.{KeysymTable}
use Rattle.kx_include.specs.Bodies.{AreBodies}
use Rattle.kx_include.specs.Held.{StandsFor}
use Rattle.kx_include.specs.IncludeFaults.{HasIncludeFault, IsWhole}
use Rattle.kx_include.specs.Library.{Library}
use Rattle.kx_lex.specs.declared.fault.Fault.{Fault}
use Rattle.kx_lex.specs.declared.fault.Fault.TheVariants.{Memory}
use Rattle.kx_source.specs.Source.{HasFaultIn}
use Rattle.kx_virtual_mods.specs.Declarations.{modifier_faults}
use Rattle.kx_clients.specs.LeavesOut.{AreLeftOut}
use Rattle.kx_clients.proofs.Ending.{if_err_map, if_ok_map, on_ok}
use Rattle.kx_clients.proofs.Faults.{passed}
use Rattle.kx_clients.proofs.Joining.{bodies_same}
use Rattle.kx_clients.proofs.Refusals.{modifiers_refused}
use Rattle.kx_clients.proofs.reading.left_out_of.Goals as goal

-- a fault of an include is one of the source
of_include : (names : KeysymTable) (library : Library) (e : Fault) → (e ≡ Memory) ⊎ HasIncludeFault library e → (e ≡ Memory) ⊎ HasFaultIn names library e
of_include names library e (inl memory) = inl memory
of_include names library e (inr has) = inr (inl has)

pub returns-in_err-bodies-clause-fault : goal.returns-in_err-bodies-clause-fault
returns-in_err-bodies-clause-fault c =
    let e = c.in_err-bodies.field-0.0 in
    passed c.from_residual.result (λ (e : Fault). (whole : Library) → StandsFor c.args.library.now whole → (e ≡ Memory) ⊎ HasFaultIn c.args.names.now whole e) e c.from_residual.ensures.1
    (λ whole stands. of_include c.args.names.now whole e (c.in_err-bodies.ensures.fault whole stands))

pub returns-in_err-modifiers-clause-fault : goal.returns-in_err-modifiers-clause-fault
returns-in_err-modifiers-clause-fault c =
    let e = c.in_err-modifiers.field-0.0 in
    passed c.from_residual-in_err-modifiers.result (λ (e : Fault). (whole : Library) → StandsFor c.args.library.now whole → (e ≡ Memory) ⊎ HasFaultIn c.args.names.now whole e) e c.from_residual-in_err-modifiers.ensures.1
    (λ whole stands. modifiers_refused c.args.names.now whole (c.in_ok-bodies.ensures.whole whole stands) e
    (subst (λ bodies. Contains (Memory ∷ modifier_faults bodies) e) (bodies_same whole c.in_ok-bodies.bodies (c.in_ok-bodies.ensures.bodies whole stands)) c.in_err-modifiers.ensures.faults.1))

pub returns-clause-whole : goal.returns-clause-whole
returns-clause-whole c = on_ok c.left_out_over.result c.in_ok-bodies.ensures.whole

pub returns-clause-are : goal.returns-clause-are
returns-clause-are c =
    if_ok_map c.left_out_over.result
    (λ left (known : (library : Library) → AreBodies library c.in_ok-bodies.bodies → AreLeftOut c.args.names.now library left) whole stands. known whole (c.in_ok-bodies.ensures.bodies whole stands))
    c.left_out_over.ensures.are

pub returns-clause-fault : goal.returns-clause-fault
returns-clause-fault c =
    if_err_map c.left_out_over.result
    (λ e (known : (library : Library) → IsWhole library → AreBodies library c.in_ok-bodies.bodies → (e ≡ Memory) ⊎ HasFaultIn c.args.names.now library e) whole stands. known whole (c.in_ok-bodies.ensures.whole whole stands) (c.in_ok-bodies.ensures.bodies whole stands))
    c.left_out_over.ensures.fault
