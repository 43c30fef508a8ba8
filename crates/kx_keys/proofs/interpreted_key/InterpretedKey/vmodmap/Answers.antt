use Rattle.std.proofs.Common.{ℕ, ◌∙◌, Option, ap}
use Rattle.std.specs.Option.{option_map_or}
use Rattle.kx_keys.proofs.VmodmapShown.{is_in_vmodmap_is}
use Rattle.kx_keys.specs.Given.{given}
use Rattle.kx_keys.specs.InterpretedKey.{given_to, is_given_to}
use Rattle.kx_keys.specs.Typing.{typing_of}
use Rattle.kx_virtual_mods.specs.Sets.{has_virtual}
use Rattle.kx_keys.proofs.interpreted_key.InterpretedKey.vmodmap.Goals as goal

pub returns-in-Some : goal.returns-in-Some
returns-in-Some c = λ number.
    let key = c.args.self.now in
    let typing = typing_of c.args.typing in
    let said = c.in-Some.ensures ∙ ap (λ k. (given k).virtual_mods) c.record.ensures in
    ap (λ (o : Option ℕ). option_map_or (λ set. has_virtual set number) o (is_given_to key typing number)) said ∙ is_in_vmodmap_is key.interpretations key.modmap (given_to key) typing number

pub returns-in-None : goal.returns-in-None
returns-in-None c = λ number.
    let key = c.args.self.now in
    let typing = typing_of c.args.typing in
    let said = c.in-None.ensures ∙ ap (λ k. (given k).virtual_mods) c.record.ensures in
    c.given.ensures number ∙ ap (λ (o : Option ℕ). option_map_or (λ set. has_virtual set number) o (is_given_to key typing number)) said ∙ is_in_vmodmap_is key.interpretations key.modmap (given_to key) typing number
