use Rattle.std.proofs.Common.{◌≡◌, ◌⊎◌, ◌∷◌, [], Contains, ap, ◌∙◌, subst, sym}
use Rattle.kx_codes.specs.CodeFaults.{faults_of as keycodes_faults}
use Rattle.kx_codes.specs.Codes.{CodesShow}
use Rattle.kx_include.specs.Bodies.{AreBodies}
use Rattle.kx_include.specs.IncludeFaults.{IsWhole}
use Rattle.kx_include.specs.Library.{Library}
use Rattle.kx_lex.specs.declared.fault.Fault.{Fault}
use Rattle.kx_lex.specs.declared.fault.Fault.TheVariants.{Memory}
use Rattle.kx_virtual_mods.specs.Declarations.{modifier_faults}
use Rattle.kx_source.proofs.Ending.{made_holds, made_keymap}
use Rattle.kx_source.proofs.Joining.{bodies_same, modifiers_same, parts_faults_same}
use Rattle.kx_source.proofs.Refusals.{all_faultless, keycodes_refused, parts_refused, passed, types_refused}
use Rattle.kx_source.specs.Source.{HasFaultIn, HoldsAll}
use Rattle.kx_tables.specs.Keymap.{keymap_of}
use Rattle.kx_tables.specs.RawTables.{content_of}
use Rattle.kx_types.specs.Types.{types_faults}
use Rattle.kx_source.proofs.compiling.tables_over.Goals as goal

pub returns-in_err-codes-clause-fault : goal.returns-in_err-codes-clause-fault
returns-in_err-codes-clause-fault g c =
    let e = c.in_err-codes.field-0.0 in
    passed c.from_residual.result (λ (e : Fault). (library : Library) → IsWhole library → AreBodies library c.args.expanded.bodies.now → (e ≡ Memory) ⊎ HasFaultIn c.args.expanded.names.now library e) e c.from_residual.ensures.1
    (λ library whole are. keycodes_refused c.args.expanded.names.now library whole e
    (subst (λ body. Contains (Memory ∷ keycodes_faults body) e) are.keycodes c.in_err-codes.ensures.faults.1))

pub returns-in_err-types-clause-fault : goal.returns-in_err-types-clause-fault
returns-in_err-types-clause-fault g c =
    let e = c.in_err-types.field-0.0 in
    passed c.from_residual-in_err-types.result (λ (e : Fault). (library : Library) → IsWhole library → AreBodies library c.args.expanded.bodies.now → (e ≡ Memory) ⊎ HasFaultIn c.args.expanded.names.now library e) e c.from_residual-in_err-types.ensures.1
    (λ library whole are.
    let same = modifiers_same library c.args.expanded.bodies.now are c.args.expanded.modifiers.now c.requires.names in
    types_refused c.args.expanded.names.now library whole e
    (subst (λ fs. Contains (Memory ∷ fs) e) (λ i. types_faults (same i) (are.types i)) c.in_err-types.ensures.faults.1))

pub returns-in_err-parts-clause-fault : goal.returns-in_err-parts-clause-fault
returns-in_err-parts-clause-fault g c =
    let names = c.args.expanded.names.now in
    let bodies = c.args.expanded.bodies.now in
    let m = c.args.expanded.modifiers.now in
    let shows = c.requires.names in
    let types = c.in_ok-types.types in
    let types_show = c.in_ok-types.ensures.shows in
    let e = c.in_err-parts.field-0.0 in
    passed c.from_residual-in_err-parts.result (λ (e : Fault). (library : Library) → IsWhole library → AreBodies library c.args.expanded.bodies.now → (e ≡ Memory) ⊎ HasFaultIn c.args.expanded.names.now library e) e c.from_residual-in_err-parts.ensures.1
    (λ library whole are.
    let codes_show = subst (CodesShow c.in_ok-codes.codes) are.keycodes c.in_ok-codes.ensures.shows in
    parts_refused names library whole e
    (subst (λ fs. Contains (Memory ∷ fs) e) (parts_faults_same library bodies are m shows types types_show c.in_ok-codes.codes codes_show names) c.in_err-parts.ensures.faults.1))

pub from_sound-requires : goal.from_sound-requires
from_sound-requires g c = c.in_ok-parts.ensures.sound

pub returns-clause-keymap : goal.returns-clause-keymap
returns-clause-keymap g c library are =
    let codes_show = subst (CodesShow c.in_ok-codes.codes) are.keycodes c.in_ok-codes.ensures.shows in
    ap keymap_of c.from_sound.ensures
    ∙ made_keymap library c.args.expanded.bodies.now are c.args.expanded.modifiers.now c.requires.names c.in_ok-types.types c.in_ok-types.ensures.shows c.in_ok-codes.codes codes_show c.args.expanded.names.now (content_of c.in_ok-parts.parts) c.in_ok-parts.ensures.made

pub returns-clause-holds : goal.returns-clause-holds
returns-clause-holds g c library are =
    let codes_show = subst (CodesShow c.in_ok-codes.codes) are.keycodes c.in_ok-codes.ensures.shows in
    subst (HoldsAll c.args.expanded.names.now library) (sym c.from_sound.ensures) (made_holds library c.args.expanded.bodies.now are c.args.expanded.modifiers.now c.requires.names c.in_ok-types.types c.in_ok-types.ensures.shows c.in_ok-codes.codes codes_show c.args.expanded.names.now (content_of c.in_ok-parts.parts) c.in_ok-parts.ensures.made)

pub returns-clause-faultless : goal.returns-clause-faultless
returns-clause-faultless g c library are =
    let names = c.args.expanded.names.now in
    let bodies = c.args.expanded.bodies.now in
    let m = c.args.expanded.modifiers.now in
    let shows = c.requires.names in
    let same = modifiers_same library bodies are m shows in
    let codes_show = subst (CodesShow c.in_ok-codes.codes) are.keycodes c.in_ok-codes.ensures.shows in
    let types = c.in_ok-types.types in
    let types_show = c.in_ok-types.ensures.shows in
    all_faultless names library
    (ap modifier_faults (sym (bodies_same library bodies are)) ∙ c.requires.faultless)
    (subst (λ body. keycodes_faults body ≡ []) are.keycodes c.in_ok-codes.ensures.faults.0)
    (sym (λ i. types_faults (same i) (are.types i)) ∙ c.in_ok-types.ensures.faults.0)
    (sym (parts_faults_same library bodies are m shows types types_show c.in_ok-codes.codes codes_show names) ∙ c.in_ok-parts.ensures.faults.0)
