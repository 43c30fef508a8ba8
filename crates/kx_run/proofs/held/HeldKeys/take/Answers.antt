use Rattle.std.proofs.Common.{◌≡◌, ◌∙◌, ap, subst, sym}
use Rattle.std.specs.Prelude.{IfNone}
use Rattle.kx_run.specs.Held.{AreSound, base_group, base_mods, count_of, held_mods, is_group_held}
use Rattle.kx_run.proofs.HeldLists.{AreSound-remove, count_left, count_left_none, counted_one, group_left, kept_group, others_none, mods_left, place_in, stands_at}
use Rattle.kx_run.proofs.held.HeldKeys.take.Goals as goal

pub returns-in_err-key-clause-none : goal.returns-in_err-key-clause-none
returns-in_err-key-clause-none c =
    let same = c.take.ensures.rest ∙ others_none c.args.code c.self.inside.keys (sym c.in_err-key.ensures.found) in
    subst (λ o. IfNone o (c.take.new.self ≡ c.args.self.now)) (sym c.from_residual.ensures) (same ∙ c.self.view_is)

pub invariant_of-self : goal.invariant_of-self
invariant_of-self c =
    let same = c.take.ensures.rest ∙ others_none c.args.code c.self.inside.keys (sym c.in_err-key.ensures.found) in
    record {
      sound = subst AreSound (sym same) c.self.invariant.sound;
      counts = λ bit small. c.self.invariant.counts bit small ∙ ap (count_of bit) (sym same);
      mods = c.self.invariant.mods ∙ ap base_mods (sym same);
      group = c.self.invariant.group ∙ ap base_group (sym same);
    }

pub uncounted-self-inside-requires : goal.uncounted-self-inside-requires
uncounted-self-inside-requires c = λ bit small.
    let at = stands_at c.args.code c.self.inside.keys c.in_ok-key.key c.self.invariant.sound.distinct (sym c.in_ok-key.ensures.found) in
    counted_one bit c.self.inside.keys (place_in c.args.code c.self.inside.keys) c.in_ok-key.key _ _ at.within at.read c.mods_of.ensures.value (c.self.invariant.counts bit small)

pub mods_without-self-inside-requires-clause-sound : goal.mods_without-self-inside-requires-clause-sound
mods_without-self-inside-requires-clause-sound c =
    let keys = c.self.inside.keys in
    let at = stands_at c.args.code keys c.in_ok-key.key c.self.invariant.sound.distinct (sym c.in_ok-key.ensures.found) in
    subst AreSound (sym (c.take.ensures.rest ∙ at.left)) (AreSound-remove keys (place_in c.args.code keys) at.within c.self.invariant.sound)

pub group_without-self-inside-requires-clause-sound : goal.group_without-self-inside-requires-clause-sound
group_without-self-inside-requires-clause-sound c =
    let keys = c.self.inside.keys in
    let at = stands_at c.args.code keys c.in_ok-key.key c.self.invariant.sound.distinct (sym c.in_ok-key.ensures.found) in
    subst AreSound (sym (c.take.ensures.rest ∙ at.left)) (AreSound-remove keys (place_in c.args.code keys) at.within c.self.invariant.sound)

pub mods_without-self-inside-requires-clause-counts : goal.mods_without-self-inside-requires-clause-counts
mods_without-self-inside-requires-clause-counts c = λ bit small.
    let keys = c.self.inside.keys in
    let at = stands_at c.args.code keys c.in_ok-key.key c.self.invariant.sound.distinct (sym c.in_ok-key.ensures.found) in
    count_left bit keys (place_in c.args.code keys) c.in_ok-key.key _ _ _ at.within at.read c.mods_of.ensures.value (c.self.invariant.counts bit small) (c.uncounted-self-inside.ensures bit small)
    ∙ ap (count_of bit) (sym (c.take.ensures.rest ∙ at.left))

pub mods_without-self-inside-requires-clause-unchanged : goal.mods_without-self-inside-requires-clause-unchanged
mods_without-self-inside-requires-clause-unchanged c = λ none.
    let keys = c.self.inside.keys in
    let at = stands_at c.args.code keys c.in_ok-key.key c.self.invariant.sound.distinct (sym c.in_ok-key.ensures.found) in
    c.self.invariant.mods
    ∙ sym (mods_left keys (place_in c.args.code keys) c.in_ok-key.key at.within at.read none)
    ∙ ap base_mods (sym (c.take.ensures.rest ∙ at.left))

pub group_without-self-inside-requires-clause-unchanged : goal.group_without-self-inside-requires-clause-unchanged
group_without-self-inside-requires-clause-unchanged c = λ other.
    let keys = c.self.inside.keys in
    let at = stands_at c.args.code keys c.in_ok-key.key c.self.invariant.sound.distinct (sym c.in_ok-key.ensures.found) in
    kept_group keys c.self.inside.group c.self.invariant.sound c.self.invariant.group
    ∙ sym (group_left keys (place_in c.args.code keys) c.in_ok-key.key at.within at.read other)
    ∙ ap base_group (sym (c.take.ensures.rest ∙ at.left))

pub invariant_of-self-2 : goal.invariant_of-self-2
invariant_of-self-2 c =
    let keys = c.self.inside.keys in
    let at = stands_at c.args.code keys c.in_ok-key.key c.self.invariant.sound.distinct (sym c.in_ok-key.ensures.found) in
    let left = c.take.ensures.rest ∙ at.left in
    let sound = subst AreSound (sym left) (AreSound-remove keys (place_in c.args.code keys) at.within c.self.invariant.sound) in
    record {
      sound = sound;
      counts = λ bit small.
          count_left bit keys (place_in c.args.code keys) c.in_ok-key.key _ _ _ at.within at.read c.mods_of.ensures.value (c.self.invariant.counts bit small) (c.uncounted-self-inside.ensures bit small)
          ∙ ap (count_of bit) (sym left);
      mods = c.mods_without-self-inside.ensures;
      group = kept_group c.take.new.self _ sound c.group_without-self-inside.ensures;
    }

pub invariant_of-self-then-not-acts : goal.invariant_of-self-then-not-acts
invariant_of-self-then-not-acts c =
    let keys = c.self.inside.keys in
    let key = c.in_ok-key.key in
    let place = place_in c.args.code keys in
    let at = stands_at c.args.code keys key c.self.invariant.sound.distinct (sym c.in_ok-key.ensures.found) in
    let left = c.take.ensures.rest ∙ at.left in
    let plain = c.acts.ensures.0 c.if-not-acts.true in
    record {
      sound = subst AreSound (sym left) (AreSound-remove keys place at.within c.self.invariant.sound);
      counts = λ bit small. count_left_none bit keys place key _ at.within at.read (ap held_mods plain) (c.self.invariant.counts bit small) ∙ ap (count_of bit) (sym left);
      mods = c.self.invariant.mods ∙ sym (mods_left keys place key at.within at.read (ap held_mods plain)) ∙ ap base_mods (sym left);
      group = c.self.invariant.group ∙ sym (group_left keys place key at.within at.read (ap is_group_held plain)) ∙ ap base_group (sym left);
    }
