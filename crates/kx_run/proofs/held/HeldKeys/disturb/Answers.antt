use Rattle.std.proofs.Common.{◌∙◌, sym, subst, ap}
use Rattle.kx_run.specs.Held.{AreSound, base_mods, base_group, count_of}
use Rattle.kx_run.proofs.HeldLists.{AreSound-disturbed, base_mods-disturbed, base_group-disturbed, count_of-disturbed}
use Rattle.kx_run.proofs.held.HeldKeys.disturb.Goals as goal

pub invariant_of-self : goal.invariant_of-self
invariant_of-self c =
    let keys = c.self.inside.keys in
    let all = c.disturb.ensures.value in
    record {
      sound = subst AreSound (sym all) (AreSound-disturbed keys c.self.invariant.sound);
      counts = λ bit within. c.self.invariant.counts bit within ∙ sym (count_of-disturbed bit keys) ∙ ap (count_of bit) (sym all);
      mods = c.self.invariant.mods ∙ sym (base_mods-disturbed keys) ∙ ap base_mods (sym all);
      group = c.self.invariant.group ∙ sym (base_group-disturbed keys) ∙ ap base_group (sym all);
    }
