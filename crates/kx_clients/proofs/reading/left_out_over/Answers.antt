use Rattle.std.proofs.Common.{◌≡◌, ◌⊎◌, ◌∷◌, Contains, inl, subst, sym}
use Rattle.kx_codes.specs.CodeFaults.{faults_of as keycodes_faults}
use Rattle.kx_codes.specs.Codes.{CodesShow}
use Rattle.kx_include.specs.Bodies.{AreBodies}
use Rattle.kx_include.specs.IncludeFaults.{IsWhole}
use Rattle.kx_include.specs.Library.{Library}
use Rattle.kx_include.specs.Shared.{expanded_body}
use Rattle.kx_lex.specs.declared.fault.Fault.{Fault}
use Rattle.kx_lex.specs.declared.fault.Fault.TheVariants.{Memory}
use Rattle.kx_source.specs.Source.{HasFaultIn}
use Rattle.kx_types.specs.Types.{names_in, type_named, types_faults}
use Rattle.kx_virtual_mods.specs.Sets.{real_of}
use Rattle.std.specs.List.{flat_map}
use Rattle.kx_clients.specs.DeclaredTypes.{defined_type}
use Rattle.kx_clients.specs.VirtualModifiers.{mods_among}
use Rattle.kx_clients.specs.Aliases.{alias_faults}
use Rattle.kx_clients.specs.LeavesOut.{AreLeftOut}
use Rattle.kx_clients.specs.LeftOut.{LeftOut}
use Rattle.kx_clients.proofs.Aliased.{aliases_faultless}
use Rattle.kx_clients.proofs.Faults.{out_of_memory, passed}
use Rattle.kx_clients.proofs.Joining.{left_out_are, modifiers_same, told_faults_same}
use Rattle.kx_clients.proofs.Refusals.{keycodes_refused, told_refused, types_refused}
use Rattle.kx_clients.proofs.reading.left_out_over.Goals as goal

pub returns-in_err-codes-clause-fault : goal.returns-in_err-codes-clause-fault
returns-in_err-codes-clause-fault c =
    let e = c.in_err-codes.field-0.0 in
    passed c.from_residual.result (λ (e : Fault). (library : Library) → IsWhole library → AreBodies library c.args.bodies.now → (e ≡ Memory) ⊎ HasFaultIn c.args.names.now library e) e c.from_residual.ensures.1
    (λ library whole are. keycodes_refused c.args.names.now library whole e
    (subst (λ body. Contains (Memory ∷ keycodes_faults body) e) are.keycodes c.in_err-codes.ensures.faults.1))

pub returns-in_err-aliases-clause-fault : goal.returns-in_err-aliases-clause-fault
returns-in_err-aliases-clause-fault c =
    let e = c.in_err-aliases.field-0.0 in
    let body = expanded_body c.args.bodies.now.keycodes in
    passed c.from_residual-in_err-aliases.result (λ (e : Fault). (library : Library) → IsWhole library → AreBodies library c.args.bodies.now → (e ≡ Memory) ⊎ HasFaultIn c.args.names.now library e) e c.from_residual-in_err-aliases.ensures.1
    (λ library whole are. inl (out_of_memory (alias_faults body) e (aliases_faultless body c.in_ok-codes.ensures.faults.0) c.in_err-aliases.ensures.faults.1))

pub returns-in_err-indicators-clause-fault : goal.returns-in_err-indicators-clause-fault
returns-in_err-indicators-clause-fault c =
    passed c.from_residual-in_err-indicators.result (λ (e : Fault). (library : Library) → IsWhole library → AreBodies library c.args.bodies.now → (e ≡ Memory) ⊎ HasFaultIn c.args.names.now library e) c.in_err-indicators.field-0.0 c.from_residual-in_err-indicators.ensures.1
    (λ library whole are. inl c.in_err-indicators.ensures.err)

pub returns-in_err-types-clause-fault : goal.returns-in_err-types-clause-fault
returns-in_err-types-clause-fault c =
    let e = c.in_err-types.field-0.0 in
    passed c.from_residual-in_err-types.result (λ (e : Fault). (library : Library) → IsWhole library → AreBodies library c.args.bodies.now → (e ≡ Memory) ⊎ HasFaultIn c.args.names.now library e) e c.from_residual-in_err-types.ensures.1
    (λ library whole are.
    let same = modifiers_same library c.args.bodies.now are c.args.modifiers.now c.requires.names in
    types_refused c.args.names.now library whole e
    (subst (λ fs. Contains (Memory ∷ fs) e) (λ i. types_faults (same i) (are.types i)) c.in_err-types.ensures.faults.1))

pub returns-in_err-keys-clause-fault : goal.returns-in_err-keys-clause-fault
returns-in_err-keys-clause-fault c =
    let e = c.in_err-keys.field-0.0 in
    passed c.from_residual-in_err-keys.result (λ (e : Fault). (library : Library) → IsWhole library → AreBodies library c.args.bodies.now → (e ≡ Memory) ⊎ HasFaultIn c.args.names.now library e) e c.from_residual-in_err-keys.ensures.1
    (λ library whole are.
    let codes_show = subst (CodesShow c.in_ok-codes.codes) are.keycodes c.in_ok-codes.ensures.shows in
    told_refused c.args.names.now library whole e
    (subst (λ fs. Contains (Memory ∷ fs) e) (told_faults_same library c.args.bodies.now are c.args.modifiers.now c.requires.names c.in_ok-types.types c.in_ok-types.ensures.shows c.in_ok-codes.codes codes_show c.args.names.now) c.in_err-keys.ensures.err))

pub returns-clause-are : goal.returns-clause-are
returns-clause-are c library are =
    let codes_show = subst (CodesShow c.in_ok-codes.codes) are.keycodes c.in_ok-codes.ensures.shows in
    let keys = c.in_ok-keys.keys in
    let left : LeftOut = record { aliases = c.in_ok-aliases.aliases.items; indicators = c.in_ok-indicators.indicators.items; modifiers = keys.modifiers.items; types = c.in_ok-declared.declared.items; repeating = keys.repeating.items } in
    let types = c.in_ok-types.types in
    let rows = subst (λ modifiers. c.in_ok-declared.declared.items ≡ flat_map (defined_type (real_of (mods_among modifiers)) (type_named types)) (names_in types)) c.as_slice.ensures.value c.in_ok-declared.ensures in
    subst (AreLeftOut c.args.names.now library) (sym c.of.ensures)
    (left_out_are library c.args.bodies.now are c.args.modifiers.now c.requires.names c.in_ok-types.types c.in_ok-types.ensures.shows c.in_ok-codes.codes codes_show c.args.names.now left c.in_ok-aliases.ensures.aliases c.in_ok-indicators.ensures.names c.in_ok-keys.ensures.are rows)
