use Rattle.std.proofs.Common.{◌≡◌, ◌<◌, ◌∙◌, All, ap, length, map, subst, sym}
use Rattle.std.specs.Vec.{with_items}
use Rattle.std.proofs.lemmas.List.{with_items_is}
use Rattle.std.proofs.lemmas.List.Elements.{All-map}
use Rattle.kx_run.specs.Held.{AreAllDisturbed, AreDistinct, disturbed}
use Rattle.kx_run.specs.Presses.{AreEarlierDisturbed, keys_of, entry_index}
use Rattle.kx_run.proofs.HeldLists.{AreDistinct-disturbed, all_disturbed, length-disturbed}
use Rattle.kx_run.proofs.presses.Presses.disturb.Goals as goal

pub invariant_of-self : goal.invariant_of-self
invariant_of-self c =
    let es = c.self.inside.entries.items in
    let given = c.deref_mut.ensures.value in
    let long : length c.disturb_last.new.entries ≡ c.self.inside.entries.len = c.disturb_last.ensures.long ∙ ap length given ∙ sym c.self.inside.entries.ok.0 in
    let all : (with_items c.self.inside.entries c.disturb_last.new.entries).items ≡ c.disturb_last.new.entries = with_items_is c.self.inside.entries c.disturb_last.new.entries long in
    let keys : keys_of (with_items c.self.inside.entries c.disturb_last.new.entries).items ≡ map disturbed (keys_of es) =
    ap keys_of all ∙ c.disturb_last.ensures.keys ∙ ap (λ l. map disturbed (keys_of l)) given in
    record {
      distinct = subst AreDistinct (sym keys) (AreDistinct-disturbed (keys_of es) c.self.invariant.distinct);
      codes = subst (All (λ key. key.code < 4096)) (sym keys) (All-map (λ key. key.code < 4096) disturbed (keys_of es) c.self.invariant.codes);
      count = c.self.invariant.count ∙ sym (length-disturbed (keys_of es)) ∙ ap length (sym keys);
      long = c.self.invariant.long;
      places = λ code d within.
          c.self.invariant.places code d within
          ∙ ap (entry_index code) (sym given)
          ∙ sym (c.disturb_last.ensures.places code)
          ∙ ap (entry_index code) (sym all);
      earlier = subst AreEarlierDisturbed (sym all) c.disturb_last.ensures.earlier;
      room = c.self.invariant.room;
    }

pub returns-clause-all : goal.returns-clause-all
returns-clause-all c =
    let es = c.self.inside.entries.items in
    let given = c.deref_mut.ensures.value in
    let long : length c.disturb_last.new.entries ≡ c.self.inside.entries.len = c.disturb_last.ensures.long ∙ ap length given ∙ sym c.self.inside.entries.ok.0 in
    let all : (with_items c.self.inside.entries c.disturb_last.new.entries).items ≡ c.disturb_last.new.entries = with_items_is c.self.inside.entries c.disturb_last.new.entries long in
    let keys : keys_of (with_items c.self.inside.entries c.disturb_last.new.entries).items ≡ map disturbed (keys_of es) =
    ap keys_of all ∙ c.disturb_last.ensures.keys ∙ ap (λ l. map disturbed (keys_of l)) given in
    subst AreAllDisturbed (sym keys) (all_disturbed (keys_of es))
