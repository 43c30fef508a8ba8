use Rattle.std.proofs.Common.{◌≡◌, ◌⊎◌, ◌∷◌, [], Contains, inl, inr, subst}
use Rattle.ks_core.specs.Table.{KeysymTable}
use Rattle.kx_include.specs.Bodies.{AreBodies}
use Rattle.kx_include.specs.Held.{StandsFor}
use Rattle.kx_include.specs.IncludeFaults.{HasIncludeFault, IsWhole}
use Rattle.kx_include.specs.Library.{Library}
use Rattle.kx_lex.specs.declared.fault.Fault.{Fault}
use Rattle.kx_lex.specs.declared.fault.Fault.TheVariants.{Memory}
use Rattle.kx_virtual_mods.specs.Declarations.{modifier_faults}
use Rattle.kx_source.proofs.Joining.{bodies_same}
use Rattle.kx_source.proofs.Refusals.{modifiers_refused, passed}
use Rattle.kx_source.proofs.Standing.{if_err_map, if_ok_map, on_ok, on_ok_map}
use Rattle.kx_source.specs.Meaning.{keymap_in}
use Rattle.kx_source.specs.Source.{HasFaultIn, HoldsAll, statement_faults}
use Rattle.kx_tables.specs.Keymap.{keymap_of}
use Rattle.kx_source.proofs.compiling.tables_of.Goals as goal

-- a fault of an include is one of the source
of_include : (names : KeysymTable) (library : Library) (e : Fault) → (e ≡ Memory) ⊎ HasIncludeFault library e → (e ≡ Memory) ⊎ HasFaultIn names library e
of_include names library e (inl memory) = inl memory
of_include names library e (inr has) = inr (inl has)

pub returns-in_err-bodies-clause-fault : goal.returns-in_err-bodies-clause-fault
returns-in_err-bodies-clause-fault g c =
    let e = c.in_err-bodies.field-0.0 in
    passed c.from_residual.result (λ (e : Fault). (whole : Library) → StandsFor c.args.library.now whole → (e ≡ Memory) ⊎ HasFaultIn c.args.names.now whole e) e c.from_residual.ensures.1
    (λ whole stands. of_include c.args.names.now whole e (c.in_err-bodies.ensures.fault whole stands))

pub returns-in_err-modifiers-clause-fault : goal.returns-in_err-modifiers-clause-fault
returns-in_err-modifiers-clause-fault g c =
    let e = c.in_err-modifiers.field-0.0 in
    passed c.from_residual-in_err-modifiers.result (λ (e : Fault). (whole : Library) → StandsFor c.args.library.now whole → (e ≡ Memory) ⊎ HasFaultIn c.args.names.now whole e) e c.from_residual-in_err-modifiers.ensures.1
    (λ whole stands. modifiers_refused c.args.names.now whole (c.in_ok-bodies.ensures.whole whole stands) e
    (subst (λ bodies. Contains (Memory ∷ modifier_faults bodies) e) (bodies_same whole c.in_ok-bodies.bodies (c.in_ok-bodies.ensures.bodies whole stands)) c.in_err-modifiers.ensures.faults.1))

pub returns-clause-whole : goal.returns-clause-whole
returns-clause-whole g c = on_ok c.tables_over-made.result c.in_ok-bodies.ensures.whole

pub returns-clause-faultless : goal.returns-clause-faultless
returns-clause-faultless g c =
    on_ok_map c.tables_over-made.result
    (λ (known : (library : Library) → AreBodies library c.in_ok-bodies.bodies → statement_faults c.args.names.now library ≡ []) whole stands. known whole (c.in_ok-bodies.ensures.bodies whole stands))
    c.tables_over-made.ensures.faultless

pub returns-clause-holds : goal.returns-clause-holds
returns-clause-holds g c =
    if_ok_map c.tables_over-made.result
    (λ made (known : (library : Library) → AreBodies library c.in_ok-bodies.bodies → HoldsAll c.args.names.now library made.0) whole stands. known whole (c.in_ok-bodies.ensures.bodies whole stands))
    c.tables_over-made.ensures.holds

pub returns-clause-keymap : goal.returns-clause-keymap
returns-clause-keymap g c =
    if_ok_map c.tables_over-made.result
    (λ made (known : (library : Library) → AreBodies library c.in_ok-bodies.bodies → keymap_of made.0 ≡ keymap_in c.args.names.now library) whole stands. known whole (c.in_ok-bodies.ensures.bodies whole stands))
    c.tables_over-made.ensures.keymap

pub returns-clause-fault : goal.returns-clause-fault
returns-clause-fault g c =
    if_err_map c.tables_over-made.result
    (λ e (known : (library : Library) → IsWhole library → AreBodies library c.in_ok-bodies.bodies → (e ≡ Memory) ⊎ HasFaultIn c.args.names.now library e) whole stands. known whole (c.in_ok-bodies.ensures.whole whole stands) (c.in_ok-bodies.ensures.bodies whole stands))
    c.tables_over-made.ensures.fault
