use Rattle.std.proofs.Common.{ap, ◌∙◌}
use Rattle.kx_include.specs.Shared.{expanded_body}
use Rattle.kx_keys.specs.Mapping.{modmap_of}
use Rattle.kx_resolve.specs.ReadMapping.{mapping_of}
use Rattle.kx_keys.specs.Typing.{typing_by}
use Rattle.kx_clients.proofs.Mapped.{mapping_same}
use Rattle.kx_clients.proofs.sections.Sections.mapped.Goals as goal

pub returns-clause-mapped : goal.returns-clause-mapped
returns-clause-mapped c = λ code.
    let s = c.args.self in
    c.in_ok-modmaps.ensures.mapped code
    ∙ ap (λ t. modmap_of (mapping_of s.codes.now t c.in_ok-keys.keys c.in_ok-maps.maps) code) c.typing.ensures
    ∙ ap (λ m. modmap_of m code) (mapping_same s.codes.now s.names.now s.modifiers.now.names (expanded_body s.bodies.now.symbols) (typing_by s.types.now s.names.now.letters) c.in_ok-keys.keys c.in_ok-maps.maps c.in_ok-maps.ensures.maps)
