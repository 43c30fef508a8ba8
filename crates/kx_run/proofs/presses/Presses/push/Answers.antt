use Rattle.std.proofs.Common.{◌≡◌, ℕ, ◌<◌, ◌∙◌, ◌∷◌, ◌++◌, [], All, List, Some, ap, arith, false, length, length-append, length-set, set, subst, sym}
use Rattle.std.specs.Vec.{with_items}
use Rattle.std.proofs.lemmas.List.{with_items_is}
use Rattle.std.proofs.lemmas.List.Elements.{All-push}
use Rattle.kx_run.specs.declared.held.HeldKey.{HeldKey}
use Rattle.kx_run.specs.Held.{AreAllDisturbed, AreDistinct, is_held}
use Rattle.kx_run.specs.Presses.{AreEarlierDisturbed, ArePlaced, keys_of}
use Rattle.kx_run.proofs.Entries.{ArePlaced-push, distinct-push, earlier-push, few-push, keys-push}
use Rattle.kx_run.proofs.HeldLists.{length-distinct}
use Rattle.kx_run.proofs.presses.Presses.push.Goals as goal

pub make_room-requires-clause-few : goal.make_room-requires-clause-few
make_room-requires-clause-few c =
    omega (arith, c.self.invariant.count, length-distinct (keys_of c.self.inside.entries.items) c.self.invariant.distinct c.self.invariant.codes)

-- one more key fits
few : (keys now : List HeldKey) (key : HeldKey) (count : ℕ) → keys ≡ now → AreDistinct keys → All (λ k. k.code < 4096) keys → key.code < 4096 → is_held key.code now ≡ false → count ≡ length keys → count < 4096
few keys now key count view distinct codes small new same =
    omega (arith, few-push keys key distinct codes small (ap (is_held key.code) view ∙ new))

pub push_reserved-requires : goal.push_reserved-requires
push_reserved-requires c =
    let less = few (keys_of c.self.inside.entries.items) c.args.self.now c.args.key c.self.inside.count c.self.view_is c.self.invariant.distinct c.self.invariant.codes c.requires.code c.requires.new_code c.self.invariant.count in
    omega (arith, less, c.make_room.ensures.room, c.make_room.ensures.capacity, c.self.invariant.room, c.make_room.new.entries.ok.0)

pub overflow_cast-place : goal.overflow_cast-place
overflow_cast-place c =
    let less = few (keys_of c.self.inside.entries.items) c.args.self.now c.args.key c.self.inside.count c.self.view_is c.self.invariant.distinct c.self.invariant.codes c.requires.code c.requires.new_code c.self.invariant.count in
    record { fits = omega (arith, less, c.make_room.ensures.room, c.make_room.new.entries.ok.0, c.len-place.ensures) }

pub overflow_add-self : goal.overflow_add-self
overflow_add-self c =
    let less = few (keys_of c.self.inside.entries.items) c.args.self.now c.args.key c.self.inside.count c.self.view_is c.self.invariant.distinct c.self.invariant.codes c.requires.code c.requires.new_code c.self.invariant.count in
    record { fits = omega (arith, less) }

pub returns : goal.returns
returns c =
    ap keys_of c.push_reserved.ensures.items
    ∙ keys-push c.make_room.new.entries.items c.args.key
    ∙ ap (λ keys. keys ++ c.args.key ∷ []) (c.make_room.ensures.keys ∙ c.self.view_is)

pub invariant_of-self : goal.invariant_of-self
invariant_of-self c =
    let old = keys_of c.self.inside.entries.items in
    let key = c.args.key in
    let es = c.make_room.new.entries.items in
    let keys : keys_of es ≡ old = c.make_room.ensures.keys in
    let new : is_held key.code old ≡ false = ap (is_held key.code) c.self.view_is ∙ c.requires.new_code in
    let items = c.push_reserved.ensures.items in
    let more : keys_of c.push_reserved.new.self.items ≡ old ++ key ∷ [] = ap keys_of items ∙ keys-push es key ∙ ap (λ ks. ks ++ key ∷ []) keys in
    let long : length c.make_room.new.places ≡ c.self.inside.places.len = c.make_room.ensures.long ∙ ap length c.deref_mut.ensures.value ∙ sym c.self.inside.places.ok.0 in
    let kept : (with_items c.self.inside.places c.make_room.new.places).items ≡ c.make_room.new.places = with_items_is c.self.inside.places c.make_room.new.places long in
    let place : c.len-place.result ≡ length es = omega (arith, c.len-place.ensures, c.make_room.new.entries.ok.0) in
    let placed = ArePlaced-push c.make_room.new.places es key c.make_room.ensures.placed (ap (is_held key.code) keys ∙ new) in
    record {
      distinct = subst AreDistinct (sym more) (distinct-push old key c.self.invariant.distinct new);
      codes = subst (All (λ k. k.code < 4096)) (sym more) (All-push (λ k. k.code < 4096) old key c.self.invariant.codes c.requires.code);
      count = omega (arith, c.self.invariant.count, ap length more, length-append old (key ∷ []));
      long = length-set (with_items c.self.inside.places c.make_room.new.places).items c.from.result (Some c.len-place.result) ∙ ap length kept ∙ long ∙ c.self.inside.places.ok.0 ∙ c.self.invariant.long;
      places =
          subst (ArePlaced (set (with_items c.self.inside.places c.make_room.new.places).items c.from.result (Some c.len-place.result))) (sym items)
          (subst (λ l. ArePlaced (set l c.from.result (Some c.len-place.result)) (es ++ Some key ∷ [])) (sym kept)
          (subst (λ n. ArePlaced (set c.make_room.new.places n (Some c.len-place.result)) (es ++ Some key ∷ [])) (sym c.from.ensures)
          (subst (λ n. ArePlaced (set c.make_room.new.places key.code (Some n)) (es ++ Some key ∷ [])) (sym place) placed)));
      earlier = subst AreEarlierDisturbed (sym items) (earlier-push es key (subst AreAllDisturbed (sym c.self.view_is ∙ sym keys) c.requires.others));
      room = omega (arith, c.push_reserved.ensures.capacity, c.make_room.ensures.capacity, c.self.invariant.room);
    }
