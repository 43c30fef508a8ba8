use Rattle.std.proofs.Common.{ap, ◌∙◌}
use Rattle.kx_resolve.specs.Modmaps.{modmap_at}
use Rattle.kx_resolve.specs.ReadVmodmap.{read_keymap_of}
use Rattle.kx_keys.specs.Vmodmap.{stands}
use Rattle.kx_virtual_mods.specs.Standing.{stands_for}
use Rattle.kx_clients.proofs.sections.Sections.virtual_modifiers.Goals as goal

pub returns-clause-stand : goal.returns-clause-stand
returns-clause-stand c =
    let s = c.args.self in
    let mapped = c.args.mapped.now in
    record {
      names_are = c.in_ok-virtual_modifiers.ensures.names;
      mods_are = λ number real few within.
          c.in_ok-virtual_modifiers.ensures.mods number real within
          ∙ ap (λ xs. stands_for xs number real) c.as_slice.ensures.value
          ∙ c.in_ok-stands.ensures.stands number real few
          ∙ (λ i. stands (read_keymap_of s.codes.now (c.typing.ensures i) mapped.keys (modmap_at mapped.modmaps) c.args.interpretations.now (c.declared_masks.ensures i)) number real);
    }
