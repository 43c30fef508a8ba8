-- The laws of runs.
use Rattle.std.proofs.Common.{◌≡◌, ℕ, ◌<◌, ◌≤◌, ◌==◌, Bool, true, false, not, cond, ◌&&◌, ◌||◌, eqb, List, [], ◌∷◌, ◌++◌, map, Option, Some, None, refl, sym, ap, ◌∙◌, arith, inl, inr, ℤ, pos, negsuc, ◌⊎◌}
use Rattle.std.proofs.lemmas.Bool.{false≢true, eqb-true, eqb-false, eq-eqb, ne_eqb, or_cases, or_left, or_right}
use Rattle.kx_mods.specs.Mods.{mask}
use Rattle.kx_tables.specs.Keymap.{Keymap, Shown}
use Rattle.kx_tables.specs.declared.rows.Action.{Action}
use Rattle.kx_tables.specs.declared.rows.Action.TheVariants as actions
use Rattle.kx_run.specs.declared.direction.Direction.{Direction}
use Rattle.kx_run.specs.declared.direction.Direction.TheVariants.{Down, Up}
use Rattle.kx_run.specs.declared.direction.Event.{Event}
use Rattle.kx_run.specs.declared.held.HeldKey.{HeldKey}
use Rattle.kx_run.specs.Held.{base_mods, base_group, is_at, is_held, held_at, other_keys, disturbed}
use Rattle.kx_run.specs.World.{World, group_modulo, effective_mods, effective_group, latch_group, latch_number, press_effect, release_effect, held_key, pressed, let_go, moved, action_in, step}
use Rattle.kx_run.specs.Replies.{Answer, Glance, Status, unknown, answer, run, world_after, look_at, status_of, status_in, lit_mask, lit_in}
use Rattle.kx_run.specs.Laws.{is_down, down_after, ReleasesAll, IsLetGo, Agree}
use Rattle.kx_run.proofs.HeldLists.{is_held-disturbed}

-- ---- one more event

pub world_after-push : (keymap : Keymap) (world : World) (events : List Event) (event : Event) → world_after keymap world (events ++ event ∷ []) ≡ step keymap (world_after keymap world events) event.code event.direction
world_after-push keymap world [] event = refl
world_after-push keymap world (first ∷ events) event = world_after-push keymap (step keymap world first.code first.direction) events event

pub run-push : (keymap : Keymap) (world : World) (events : List Event) (event : Event) → run keymap world (events ++ event ∷ []) ≡ run keymap world events ++ answer keymap (world_after keymap world events) event.code event.direction ∷ []
run-push keymap world [] event = refl
run-push keymap world (first ∷ events) event =
    ap (λ answers. answer keymap world first.code first.direction ∷ answers) (run-push keymap (step keymap world first.code first.direction) events event)

-- ---- keymaps that agree

group_below : (groups : ℕ) (z : ℤ) → 1 ≤ groups → group_modulo groups z < groups
group_below groups (pos n) some = omega (arith, some)
group_below groups (negsuc n) some = omega (arith, some)

same_shown : (a b : Keymap) → Agree a b → (world : World) (code : ℕ) → a.known code ≡ true → a.shown code (effective_group a.groups world) (effective_mods world) ≡ b.shown code (effective_group b.groups world) (effective_mods world)
same_shown a b agree world code known =
    agree.shown code (effective_group a.groups world) (effective_mods world) known (group_below a.groups _ agree.some_group)
    ∙ ap (λ n. b.shown code (effective_group n world) (effective_mods world)) agree.groups

step_by : (a b : Keymap) → Agree a b → (world : World) (code : ℕ) (direction : Direction) (known : Bool) → a.known code ≡ known →
    cond known (moved a.groups world code direction (action_in a world code)) world ≡ cond known (moved b.groups world code direction (action_in b world code)) world
step_by a b agree world code direction false known = refl
step_by a b agree world code direction true known =
    ap (λ (s : Shown). moved a.groups world code direction s.action) (same_shown a b agree world code known)
    ∙ ap (λ n. moved n world code direction (action_in b world code)) agree.groups

pub step_same : (a b : Keymap) → Agree a b → (world : World) (code : ℕ) (direction : Direction) → step a world code direction ≡ step b world code direction
step_same a b agree world code direction =
    step_by a b agree world code direction (a.known code) refl
    ∙ ap (λ known. cond known (moved b.groups world code direction (action_in b world code)) world) (agree.known code)

-- what a known key gives
abbrev given : Keymap → World → ℕ → Glance
given keymap world code =
    record {
      known = true;
      syms = (keymap.shown code (effective_group keymap.groups world) (effective_mods world)).syms;
      consumed = (keymap.shown code (effective_group keymap.groups world) (effective_mods world)).consumed;
    }

given_by : (a b : Keymap) → Agree a b → (world : World) (code : ℕ) (known : Bool) → a.known code ≡ known → cond known (given a world code) unknown ≡ cond known (given b world code) unknown
given_by a b agree world code false known = refl
given_by a b agree world code true known =
    ap (λ (s : Shown). record { known = true; syms = s.syms; consumed = s.consumed }) (same_shown a b agree world code known)

look_same : (a b : Keymap) → Agree a b → (world : World) (code : ℕ) → look_at a (status_in a world) code ≡ look_at b (status_in b world) code
look_same a b agree world code =
    given_by a b agree world code (a.known code) refl
    ∙ ap (λ known. cond known (given b world code) unknown) (agree.known code)

state_same : (a b : Keymap) → Agree a b → (world : World) (code : ℕ) (direction : Direction) → status_in a (step a world code direction) ≡ status_in b (step b world code direction)
state_same a b agree world code direction =
    ap (λ n. status_of n (step a world code direction)) agree.groups
    ∙ ap (status_of b.groups) (step_same a b agree world code direction)

lit_same : (a b : Keymap) → Agree a b → (s t : Status) → s ≡ t → lit_in a s ≡ lit_in b t
lit_same a b agree s t same =
    ap (λ n. lit_mask n s a.indicator_maps) agree.groups
    ∙ ap (lit_mask b.groups s) agree.indicator_maps
    ∙ ap (λ u. lit_mask b.groups u b.indicator_maps) same

abbrev put_together : Glance → Status → ℕ → Answer
put_together look state lit = record { look = look; state = state; lit = lit }

answer_same : (a b : Keymap) → Agree a b → (world : World) (code : ℕ) (direction : Direction) → answer a world code direction ≡ answer b world code direction
answer_same a b agree world code direction =
    let after = status_in a (step a world code direction) in
    let same = state_same a b agree world code direction in
    ap (λ look. put_together look after (lit_in a after)) (look_same a b agree world code)
    ∙ ap (λ state. put_together (look_at b (status_in b world) code) state (lit_in a after)) same
    ∙ ap (put_together (look_at b (status_in b world) code) (status_in b (step b world code direction))) (lit_same a b agree after (status_in b (step b world code direction)) same)

pub run_same : (a b : Keymap) → Agree a b → (world : World) (events : List Event) → run a world events ≡ run b world events
run_same a b agree world [] = refl
run_same a b agree world (event ∷ events) =
    ap (λ first. first ∷ run a (step a world event.code event.direction) events) (answer_same a b agree world event.code event.direction)
    ∙ ap (λ after. answer b world event.code event.direction ∷ run a after events) (step_same a b agree world event.code event.direction)
    ∙ ap (λ rest. answer b world event.code event.direction ∷ rest) (run_same a b agree (step b world event.code event.direction) events)

-- ---- held keys that are let go

press_effect-held : (groups : ℕ) (action : Action) (world : World) → (press_effect groups action world).held ≡ world.held
press_effect-held groups actions.None world = refl
press_effect-held groups _ world = refl

-- a world that is changed or not, without its held keys
cond-held : (b : Bool) (changed world : World) → changed.held ≡ world.held → (cond b changed world).held ≡ world.held
cond-held true changed world same = same
cond-held false changed world same = refl

cond-held_not : (b : Bool) (changed world : World) → changed.held ≡ world.held → (cond b world changed).held ≡ world.held
cond-held_not true changed world same = refl
cond-held_not false changed world same = same

cond-held_two : (b d : Bool) (first second third : World) (held : List HeldKey) → first.held ≡ held → second.held ≡ held → third.held ≡ held → (cond b first (cond d second third)).held ≡ held
cond-held_two true d first second third held x y z = x
cond-held_two false true first second third held x y z = y
cond-held_two false false first second third held x y z = z

latch_group-held : (groups : ℕ) (c l : Bool) (number : ℤ) (world : World) → (latch_group groups c l number world).held ≡ world.held
latch_group-held groups c l number world = cond-held_two (c && not (world.locked_group == 0)) (l && not (world.latched_group == 0)) _ _ _ world.held refl refl refl

release_effect-held : (groups : ℕ) (action : Action) (recorded : ℕ) (d : Bool) (world : World) → (release_effect groups action recorded d world).held ≡ world.held
release_effect-held groups actions.None recorded d world = refl
release_effect-held groups (actions.SetMods m c) recorded d world = cond-held (c && not d) _ world refl
release_effect-held groups (actions.LatchMods m c l) recorded d world = cond-held_not d _ world refl
release_effect-held groups (actions.LockMods m l u) recorded d world = cond-held u _ world refl
release_effect-held groups (actions.SetGroup g c) recorded d world = cond-held (c && not d) _ world refl
release_effect-held groups (actions.LatchGroup g c l) recorded d world = cond-held_not d _ world (latch_group-held groups c l (latch_number g) world)
release_effect-held groups (actions.LockGroup g) recorded d world = refl

-- what is known of a key that is held, where it is down or not by the events so far
abbrev Tells : Keymap → World → ℕ → Bool → Type 0
Tells keymap world code down = is_held code world.held ≡ true → (keymap.known code ≡ true) × (down ≡ true)

-- a key's state by its last event
abbrev after_event : ℕ → ℕ → Direction → Bool → Bool
after_event code other direction before = cond (eqb other code) (is_down direction) before

is_held-push : (code : ℕ) (keys : List HeldKey) (key : HeldKey) → is_held code (keys ++ key ∷ []) ≡ true → (is_held code keys ≡ true) ⊎ (key.code ≡ code)
is_held-push code [] key h =
    elim (or_cases (is_at code key) false h) [ inl here ↦ inr (eqb-true key.code code here) | inr none ↦ absurd (cc) ]
is_held-push code (first ∷ keys) key h =
    elim (or_cases (is_at code first) (is_held code (keys ++ key ∷ [])) h) [
      | inl here ↦ inl (or_left (is_at code first) (is_held code keys) here)
      | inr later ↦ elim (is_held-push code keys key later) [ inl among ↦ inl (or_right (is_at code first) (is_held code keys) among) | inr last ↦ inr last ]
    ]

-- two codes of one key are equal
apart : (code other k : ℕ) → eqb k other ≡ false → eqb k code ≡ true → eqb other code ≡ false
apart code other k differs same =
    ne_eqb other code (λ equal. eqb-false k other differs (eqb-true k code same ∙ sym equal))

other_by : (code other : ℕ) (key : HeldKey) (keys : List HeldKey) (b : Bool) → is_at other key ≡ b → (is_held code (other_keys other keys) ≡ true → (is_held code keys ≡ true) × (eqb other code ≡ false)) → is_held code (cond (not b) (key ∷ other_keys other keys) (other_keys other keys)) ≡ true → (is_held code (key ∷ keys) ≡ true) × (eqb other code ≡ false)
other_by code other key keys true e among h =
    let rest = among h in (or_right (is_at code key) (is_held code keys) rest.0, rest.1)
other_by code other key keys false e among h =
    elim (or_cases (is_at code key) (is_held code (other_keys other keys)) h) [
      | inl here ↦ (or_left (is_at code key) (is_held code keys) here, apart code other key.code e here)
      | inr later ↦ let rest = among later in (or_right (is_at code key) (is_held code keys) rest.0, rest.1)
    ]

is_held-other_keys : (code other : ℕ) (keys : List HeldKey) → is_held code (other_keys other keys) ≡ true → (is_held code keys ≡ true) × (eqb other code ≡ false)
is_held-other_keys code other [] h = absurd (cc)
is_held-other_keys code other (key ∷ keys) h = other_by code other key keys (is_at other key) refl (is_held-other_keys code other keys) h

held_none_by : (code : ℕ) (key : HeldKey) (keys : List HeldKey) (b : Bool) → (held_at code keys ≡ None → is_held code keys ≡ false) → cond b (Some key) (held_at code keys) ≡ None → (b || is_held code keys) ≡ false
held_none_by code key keys true rest h = absurd (cc)
held_none_by code key keys false rest h = rest h

held_none : (code : ℕ) (keys : List HeldKey) → held_at code keys ≡ None → is_held code keys ≡ false
held_none code [] h = refl
held_none code (key ∷ keys) h = held_none_by code key keys (is_at code key) (held_none code keys) h

cond_true : (b d : Bool) → d ≡ true → cond b true d ≡ true
cond_true true d h = refl
cond_true false d h = h

unknown_tells : (keymap : Keymap) (world : World) (code other : ℕ) (direction : Direction) (down : Bool) → keymap.known other ≡ false → Tells keymap world code down → Tells keymap world code (after_event code other direction down)
unknown_tells keymap world code other direction down known tells = λ is_in.
    let told = tells is_in in
    let differs : eqb other code ≡ false = ne_eqb other code (λ same. false≢true (sym known ∙ ap keymap.known same ∙ told.0)) in
    (told.0, rw differs told.1)

down_tells : (keymap : Keymap) (world : World) (code other : ℕ) (down held : Bool) → keymap.known other ≡ true → Tells keymap world code down → Tells keymap (cond held world (pressed keymap.groups other (action_in keymap world other) world)) code (after_event code other Down down)
down_tells keymap world code other down true known tells = λ is_in.
    let told = tells is_in in (told.0, cond_true (eqb other code) down told.1)
down_tells keymap world code other down false known tells = λ is_in.
    let action = action_in keymap world other in
    let key = held_key other action world.locked in
    let holding : World = record world { held = map disturbed world.held ++ key ∷ [] } in
    let is_among : is_held code (map disturbed world.held ++ key ∷ []) ≡ true = ap (is_held code) (sym (press_effect-held keymap.groups action holding)) ∙ is_in in
    elim (is_held-push code (map disturbed world.held) key is_among) [
      | inl before ↦ let told = tells (sym (is_held-disturbed code world.held) ∙ before) in (told.0, cond_true (eqb other code) down told.1)
      | inr same ↦ (sym (ap keymap.known same) ∙ known, rw (eq-eqb other code same))
    ]

up_tells : (keymap : Keymap) (world : World) (code other : ℕ) (down : Bool) (found : Option HeldKey) → held_at other world.held ≡ found → Tells keymap world code down → Tells keymap (let_go keymap.groups other found world) code (after_event code other Up down)
up_tells keymap world code other down None found tells = λ is_in.
    let told = tells is_in in
    let differs : eqb other code ≡ false = ne_eqb other code (λ same. false≢true (sym (held_none code world.held (ap (λ n. held_at n world.held) (sym same) ∙ found)) ∙ is_in)) in
    (told.0, rw differs told.1)
up_tells keymap world code other down (Some key) found tells = λ is_in.
    let left : World = record world { held = other_keys other world.held } in
    let is_among : is_held code (other_keys other world.held) ≡ true = ap (is_held code) (sym (release_effect-held keymap.groups key.action (mask key.recorded) key.disturbed left)) ∙ is_in in
    let rest = is_held-other_keys code other world.held is_among in
    let told = tells rest.0 in
    (told.0, rw rest.1 told.1)

step_tells : (keymap : Keymap) (world : World) (code other : ℕ) (direction : Direction) (down known : Bool) → keymap.known other ≡ known → Tells keymap world code down → Tells keymap (cond known (moved keymap.groups world other direction (action_in keymap world other)) world) code (after_event code other direction down)
step_tells keymap world code other direction down false known tells = unknown_tells keymap world code other direction down known tells
step_tells keymap world code other Down down true known tells = down_tells keymap world code other down (is_held other world.held) known tells
step_tells keymap world code other Up down true known tells = up_tells keymap world code other down (held_at other world.held) refl tells

after_tells : (keymap : Keymap) (world : World) (code : ℕ) (down : Bool) (events : List Event) → Tells keymap world code down → Tells keymap (world_after keymap world events) code (down_after code down events)
after_tells keymap world code down [] tells = tells
after_tells keymap world code down (event ∷ events) tells =
    after_tells keymap (step keymap world event.code event.direction) code (after_event code event.code event.direction down) events
    (step_tells keymap world code event.code event.direction down (keymap.known event.code) refl tells)

none_held_is_empty : (keys : List HeldKey) → ((code : ℕ) → is_held code keys ≡ true → ⊥) → keys ≡ []
none_held_is_empty [] none = refl
none_held_is_empty (key ∷ keys) none = absurd (none key.code (rw (eq-eqb key.code key.code refl)))

pub let_go_after : (keymap : Keymap) (world : World) (events : List Event) → world.held ≡ [] → ReleasesAll events → IsLetGo (world_after keymap world events)
let_go_after keymap world events empty releases =
    let held = none_held_is_empty (world_after keymap world events).held
    (λ code is_in. let tells = after_tells keymap world code false events (λ before. absurd (false≢true (ap (is_held code) (sym empty) ∙ before))) is_in in false≢true (sym (releases code) ∙ tells.1)) in
    record { held = held; mods = ap base_mods held; group = ap base_group held }
