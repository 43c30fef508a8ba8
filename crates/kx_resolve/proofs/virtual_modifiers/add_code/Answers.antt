use Rattle.std.proofs.Common.{◌||◌, ap, false, refl, sym, ◌∙◌}
use Rattle.kx_symbols.specs.Keys.{key_at}
use Rattle.kx_keys.proofs.NameBits.{or_false}
use Rattle.kx_resolve.proofs.Named.{of_named, of_none}
use Rattle.kx_keys.proofs.VmodmapShown.{none_brings}
use Rattle.kx_resolve.specs.MappedKeys.{is_brought}
use Rattle.kx_resolve.specs.Modmaps.{modmap_at}
use Rattle.kx_resolve.specs.NamedKeys.{name_in, typing_in}
use Rattle.kx_resolve.specs.Read.{brings_at, brings_if, brings_of}
use Rattle.kx_resolve.proofs.virtual_modifiers.add_code.Goals as goal

pub returns-in_ok-add_key-in-Some-clause-added : goal.returns-in_ok-add_key-in-Some-clause-added
returns-in_ok-add_key-in-Some-clause-added c = λ number real.
    let keys = c.args.keys in
    let code = c.args.code in
    let key = c.in-Some.key.now in
    c.in_ok-add_key-in-Some.ensures.added number real
    ∙ ap (λ b. is_brought c.args.mapped_keys.now.items number real || b) (sym (of_named (brings_if keys code number real) (name_in keys.named code) (key_at keys.named.keys.now code) key (brings_of keys key code number real) c.in-Some.ensures (λ name. refl)))

pub returns-in-None-clause-added : goal.returns-in-None-clause-added
returns-in-None-clause-added c = λ number real.
    let keys = c.args.keys in
    let code = c.args.code in
    or_false (is_brought c.args.mapped_keys.now.items number real) (brings_at keys code number real)
    (of_none (brings_if keys code number real) (name_in keys.named code) (key_at keys.named.keys.now code) false c.in-None.ensures (λ key. refl) (λ name. none_brings keys.interpretations.now (modmap_at keys.modmaps.now code) (typing_in keys.named) number real))
