use Rattle.std.proofs.Common.{◌≡◌, ℕ, ◌+◌, ◌<◌, ◌∙◌, sym, ap, subst, false, arith}
use Rattle.std.proofs.lemmas.Int.{ints}
use Rattle.std.specs.Int.{bit_at}
use Rattle.std.specs.Int.RustNames.{bit_or}
use Rattle.kx_mods.specs.Mods.{mask}
use Rattle.kx_run.specs.Held.{AreSound, base_group, base_group_after, base_mods, count_of, is_held, held_mods}
use Rattle.kx_run.proofs.HeldLists.{AreSound-push, base_mods-push, base_mods-push_none, base_group-push, count_of-push, count_of-push_none, count_of-le, kept_group, small_group}
use Rattle.kx_run.proofs.held.HeldKeys.hold.Goals as goal

pub counted-self-inside-requires : goal.counted-self-inside-requires
counted-self-inside-requires c = λ bit small.
    omega (arith, c.self.invariant.counts bit small, count_of-le bit c.self.inside.keys c.self.invariant.sound)

pub base_group_with-self-inside-requires-clause-low : goal.base_group_with-self-inside-requires-clause-low
base_group_with-self-inside-requires-clause-low c =
    let keys = c.self.inside.keys in
    rw (kept_group keys c.self.inside.group c.self.invariant.sound c.self.invariant.group) (omega (arith, ints, (small_group keys c.self.invariant.sound).low))

pub base_group_with-self-inside-requires-clause-high : goal.base_group_with-self-inside-requires-clause-high
base_group_with-self-inside-requires-clause-high c =
    let keys = c.self.inside.keys in
    rw (kept_group keys c.self.inside.group c.self.invariant.sound c.self.invariant.group) (omega (arith, ints, (small_group keys c.self.invariant.sound).high))

pub invariant_of-self-2 : goal.invariant_of-self-2
invariant_of-self-2 c =
    let keys = c.self.inside.keys in
    let view : keys ≡ c.args.self.now = c.self.view_is in
    let new : is_held c.args.key.code keys ≡ false = ap (is_held c.args.key.code) view ∙ c.requires.new_code in
    let within : held_mods c.args.key.action < 256 = subst (λ (n : ℕ). n < 256) c.mods_of-mods.ensures.value c.mods_of-mods.ensures.in_range in
    let items = c.push-2.ensures in
    let sound = subst AreSound (sym items) (AreSound-push keys c.args.key c.self.invariant.sound c.requires.code c.requires.size within new) in
    let old = kept_group keys c.self.inside.group c.self.invariant.sound c.self.invariant.group in
    record {
      sound = sound;
      counts = λ bit small.
          c.counted-self-inside.ensures bit small
          ∙ ap (λ n. n + bit_at (mask c.mods_of-mods.result) bit) (c.self.invariant.counts bit small)
          ∙ ap (λ m. count_of bit keys + bit_at m bit) c.mods_of-mods.ensures.value
          ∙ sym (count_of-push bit keys c.args.key)
          ∙ ap (count_of bit) (sym items);
      mods =
          c.with-self-inside.ensures
          ∙ ap (λ m. bit_or m (mask c.mods_of-mods.result)) c.self.invariant.mods
          ∙ ap (bit_or (base_mods keys)) c.mods_of-mods.ensures.value
          ∙ sym (base_mods-push keys c.args.key)
          ∙ ap base_mods (sym items);
      group = kept_group c.push-2.new.self _ sound
          (c.base_group_with-self-inside.ensures ∙ ap (base_group_after c.args.key.action) old ∙ sym (base_group-push keys c.args.key) ∙ ap base_group (sym items));
    }

pub invariant_of-self : goal.invariant_of-self
invariant_of-self c =
    let keys = c.self.inside.keys in
    let key = c.args.key in
    let plain = c.acts.ensures.0 c.if-not-acts.true in
    let none : held_mods key.action ≡ 0 = ap held_mods plain in
    let new : is_held key.code keys ≡ false = ap (is_held key.code) c.self.view_is ∙ c.requires.new_code in
    let within : held_mods key.action < 256 = omega (arith, none) in
    let items = c.push.ensures in
    record {
      sound = subst AreSound (sym items) (AreSound-push keys key c.self.invariant.sound c.requires.code c.requires.size within new);
      counts = λ bit small. c.self.invariant.counts bit small ∙ sym (count_of-push_none bit keys key none) ∙ ap (count_of bit) (sym items);
      mods = c.self.invariant.mods ∙ sym (base_mods-push_none keys key none) ∙ ap base_mods (sym items);
      group = c.self.invariant.group ∙ sym (base_group-push keys key ∙ ap (λ a. base_group_after a (base_group keys)) plain) ∙ ap base_group (sym items);
    }
