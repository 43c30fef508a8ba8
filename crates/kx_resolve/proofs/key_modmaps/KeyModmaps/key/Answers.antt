use Rattle.std.proofs.Common.{◌<◌, ◌^◌, ◌∙◌, ap, bit_or, nat_eq, rules}
use Rattle.std.specs.Map.{lookup}
use Rattle.std.specs.Option.{option_map_or}
use Rattle.kx_modmaps.specs.Maps.{key_mask}
use Rattle.kx_mods.specs.Mods.{mask}
use Rattle.kx_resolve.proofs.Masks.{mods_joined}
use Rattle.kx_resolve.specs.Modmaps.{modmap_at}
use Rattle.kx_resolve.proofs.key_modmaps.KeyModmaps.key.Goals as goal

pub returns : goal.returns
returns c =
    let small : mask c.with.result < 2 ^ 8 = search rules in
    let are = c.with.ensures ∙ (λ i. bit_or (c.key.ensures i) (c.mods_at.ensures i)) in
    mods_joined c.with.result (key_mask c.self.inside.maps c.args.code) (option_map_or mask (lookup (nat_eq c.args.code) c.self.inside.by_keysym.entries) 0) small are ∙ ap (λ kept. modmap_at kept c.args.code) c.self.view_is
