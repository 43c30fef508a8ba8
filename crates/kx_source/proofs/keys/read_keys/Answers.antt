use Rattle.std.proofs.Common.{ap, ◌∙◌}
use Rattle.kx_keys.specs.Mapping.{modmap_of}
use Rattle.kx_resolve.specs.ReadMapping.{mapping_of}
use Rattle.kx_keys.specs.Typing.{typing_by}
use Rattle.kx_source.proofs.Mapped.{mapping_same}
use Rattle.kx_source.specs.Sections.{modifiers_named, names_of, symbols_of}
use Rattle.kx_source.proofs.keys.read_keys.Goals as goal

pub returns-clause-mapped : goal.returns-clause-mapped
returns-clause-mapped c = λ code.
    let s = c.args.sections in
    c.in_ok-modmaps.ensures.mapped code
    ∙ ap (λ l. modmap_of (mapping_of s.codes.now (typing_by s.types.now l) c.in_ok-keys.keys c.in_ok-maps.maps) code) c.letters.ensures
    ∙ ap (λ m. modmap_of m code) (mapping_same s.codes.now (names_of s) (modifiers_named s) (symbols_of s) (typing_by s.types.now (names_of s).letters) c.in_ok-keys.keys c.in_ok-maps.maps c.in_ok-maps.ensures.maps)
