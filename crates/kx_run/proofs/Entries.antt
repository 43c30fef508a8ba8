-- What a press, a release and the dropping of empty entries do to the entries and the places of `Presses`.
use Rattle.std.proofs.Common.{◌≡◌, ◌≢◌, ℕ, zero, suc, ◌+◌, ◌<◌, ◌≤◌, ◌∙◌, Bool, true, false, cond, ◌||◌, eqb, List, [], ◌∷◌, ◌++◌, length, map, set, take, get_or, All, Some, None, is_some, refl, sym, ap, arith, inl, inr, length-set, length-append, Option}
use Rattle.std.specs.Option.{option_map, option_or}
use Rattle.std.specs.Prelude.{IfSome}
use Rattle.std.specs.List.{filter, list_any, position_from}
use Rattle.std.proofs.lemmas.Bool.{cases_Bool, eqb-true, eqb-false, ne_eqb, or_parts}
use Rattle.std.proofs.lemmas.Iterator.Adapters.{position_from-zero}
use Rattle.std.proofs.lemmas.List.{append-nil, get_or_append_left, get_or-set_same, get_or-set_other, take_more}
use Rattle.std.proofs.lemmas.List.Elements.{All-cons, All-head, All-tail, All-push, filter_map-append}
use Rattle.std.proofs.lemmas.List.Folds.{list_any_at, list_any_none}
use Rattle.std.proofs.lemmas.List.Quantifiers.{position-Some, all_pairs_push}
use Rattle.kx_run.specs.declared.held.HeldKey.{HeldKey}
use Rattle.kx_run.specs.Held.{action_size, base_group, is_at, is_held, held_at, other_keys, disturbed, AreAllDisturbed, AreDistinct, AreSound}
use Rattle.kx_run.specs.Presses.{AreEarlierDisturbed, ArePlaced, group_after_entry, is_entry_of, keys_of, entry_index}
use Rattle.kx_run.proofs.HeldLists.{IsSmall, apart, base_group-push, disturbed-twice, head_apart, is_held-let_go, length-distinct, length-sound, none_held, other_keys-apart, small_few, tail_apart}

-- ---- the first place that passes

some_by : (b : Bool) (n : ℕ) (rest : Option ℕ) (any : Bool) → is_some rest ≡ any → is_some (cond b (Some n) rest) ≡ (b || any)
some_by true n rest any e = refl
some_by false n rest any e = e

some_place : {X : Type 0} (t : X → Bool) (i : ℕ) (xs : List X) → is_some (position_from t i xs) ≡ list_any t xs
some_place t i [] = refl
some_place t i (x ∷ xs) = some_by (t x) i (position_from t (i + 1) xs) (list_any t xs) (some_place t (i + 1) xs)

-- an element that does not pass adds no place
place-push_other : {X : Type 0} (t : X → Bool) (i : ℕ) (xs : List X) (x : X) → t x ≡ false → position_from t i (xs ++ x ∷ []) ≡ position_from t i xs
place-push_other t i [] x other = rw other refl
place-push_other t i (y ∷ xs) x other = ap (cond (t y) (Some i)) (place-push_other t (i + 1) xs x other)

-- the only one that passes is at the end
place-push_here : {X : Type 0} (t : X → Bool) (i : ℕ) (xs : List X) (x : X) → list_any t xs ≡ false → t x ≡ true → position_from t i (xs ++ x ∷ []) ≡ Some (i + length xs)
place-push_here t i [] x none here = let e : i ≡ i + 0 = omega arith in rw here (ap (λ n. Some n) e)
place-push_here t i (y ∷ xs) x none here =
    let parts = or_parts (t y) (list_any t xs) none in
    rw parts.0 (place-push_here t (i + 1) xs x parts.1 here ∙ ap (λ n. Some n) (omega arith))

-- a write that passes as what it replaces
place-set : {X : Type 0} (t : X → Bool) (i : ℕ) (xs : List X) (k : ℕ) (y d : X) → t y ≡ t (get_or xs k d) → position_from t i (set xs k y) ≡ position_from t i xs
place-set t i [] k y d same = refl
place-set t i (x ∷ xs) zero y d same = ap (λ b. cond b (Some i) (position_from t (i + 1) xs)) same
place-set t i (x ∷ xs) (suc k) y d same = ap (cond (t x) (Some i)) (place-set t (i + 1) xs k y d same)

pub found_place : {X : Type 0} (t : X → Bool) (xs : List X) (place : ℕ) (d : X) → position_from t 0 xs ≡ Some place → (place < length xs) × (t (get_or xs place d) ≡ true)
found_place t xs place d found =
    let parts = position-Some t xs place d (position_from-zero t xs ∙ found) in
    (parts.0, parts.1)

-- ---- entries and their keys

any_entry : (code : ℕ) (es : List (Option HeldKey)) → list_any (is_entry_of code) es ≡ is_held code (keys_of es)
any_entry code [] = refl
any_entry code (None ∷ es) = any_entry code es
any_entry code (Some key ∷ es) = ap (λ b. is_at code key || b) (any_entry code es)

pub is_placed : (code : ℕ) (es : List (Option HeldKey)) → is_some (entry_index code es) ≡ is_held code (keys_of es)
is_placed code es = some_place (is_entry_of code) 0 es ∙ any_entry code es

no_place : (o : Option ℕ) → is_some o ≡ false → o ≡ None
no_place None h = refl
no_place (Some n) h = absurd (cc)

pub unplaced : (code : ℕ) (es : List (Option HeldKey)) → is_held code (keys_of es) ≡ false → entry_index code es ≡ None
unplaced code es h = no_place (entry_index code es) (is_placed code es ∙ h)

pub unheld : (code : ℕ) (es : List (Option HeldKey)) → entry_index code es ≡ None → is_held code (keys_of es) ≡ false
unheld code es h = sym (is_placed code es) ∙ ap is_some h

-- what is true of all keys is true of each entry's
pub all_entries : (P : HeldKey → Type 0) (es : List (Option HeldKey)) → All P (keys_of es) → All (λ e. IfSome e P) es
all_entries P [] all = λ k d within. absurd (omega arith)
all_entries P (None ∷ es) all = All-cons (λ e. IfSome e P) None es tt (all_entries P es all)
all_entries P (Some key ∷ es) all =
    All-cons (λ e. IfSome e P) (Some key) es (All-head P key (keys_of es) all) (all_entries P es (All-tail P key (keys_of es) all))

-- the key at a code's place is the code's
entry_held : (code : ℕ) (es : List (Option HeldKey)) (place : ℕ) (d : Option HeldKey) → place < length es → is_entry_of code (get_or es place d) ≡ true → is_held code (keys_of es) ≡ true
entry_held code es place d within here = sym (any_entry code es) ∙ list_any_at (is_entry_of code) es place d within here

-- a key before the place of a code is another one's
before : (code : ℕ) (key : HeldKey) (es : List (Option HeldKey)) (place : ℕ) (d : Option HeldKey) → AreDistinct (key ∷ keys_of es) → place < length es → is_entry_of code (get_or es place d) ≡ true → is_at code key ≡ false
before code key es place d distinct within here =
    ne_eqb key.code code (λ same.
    let none = list_any_none (is_at code) (keys_of es) (λ k e inside. ne_eqb _ code (λ at. head_apart key (keys_of es) distinct k e inside (at ∙ sym same))) in
    absurd (cc (sym none ∙ entry_held code es place d within here)))

pub entry_is : (code : ℕ) (es : List (Option HeldKey)) (place : ℕ) (d : Option HeldKey) → AreDistinct (keys_of es) → place < length es → is_entry_of code (get_or es place d) ≡ true → get_or es place d ≡ held_at code (keys_of es)
entry_is code [] place d distinct within here = absurd (omega arith)
entry_is code (None ∷ es) zero d distinct within here = absurd (cc)
entry_is code (Some key ∷ es) zero d distinct within here = rw here refl
entry_is code (None ∷ es) (suc place) d distinct within here = entry_is code es place d distinct (omega arith) here
entry_is code (Some key ∷ es) (suc place) d distinct within here =
    rw (before code key es place d distinct (omega arith) here) (entry_is code es place d (tail_apart key (keys_of es) distinct) (omega arith) here)

pub keys-emptied : (code : ℕ) (es : List (Option HeldKey)) (place : ℕ) (d : Option HeldKey) → AreDistinct (keys_of es) → place < length es → is_entry_of code (get_or es place d) ≡ true → keys_of (set es place None) ≡ other_keys code (keys_of es)
keys-emptied code [] place d distinct within here = absurd (omega arith)
keys-emptied code (None ∷ es) zero d distinct within here = absurd (cc)
keys-emptied code (Some key ∷ es) zero d distinct within here =
    rw here (sym (other_keys-apart code (keys_of es) (λ k e inside same. head_apart key (keys_of es) distinct k e inside (same ∙ sym (eqb-true key.code code here)))))
keys-emptied code (None ∷ es) (suc place) d distinct within here = keys-emptied code es place d distinct (omega arith) here
keys-emptied code (Some key ∷ es) (suc place) d distinct within here =
    rw (before code key es place d distinct (omega arith) here) (ap (λ ks. key ∷ ks) (keys-emptied code es place d (tail_apart key (keys_of es) distinct) (omega arith) here))

pub length-emptied : (code : ℕ) (es : List (Option HeldKey)) (place : ℕ) (d : Option HeldKey) → place < length es → is_entry_of code (get_or es place d) ≡ true → length (keys_of (set es place None)) + 1 ≡ length (keys_of es)
length-emptied code [] place d within here = absurd (omega arith)
length-emptied code (None ∷ es) zero d within here = absurd (cc)
length-emptied code (Some key ∷ es) zero d within here = omega arith
length-emptied code (None ∷ es) (suc place) d within here = length-emptied code es place d (omega arith) here
length-emptied code (Some key ∷ es) (suc place) d within here = omega (arith, length-emptied code es place d (omega arith) here)

pub keys-push : (es : List (Option HeldKey)) (key : HeldKey) → keys_of (es ++ Some key ∷ []) ≡ keys_of es ++ key ∷ []
keys-push es key = filter_map-append (λ e. e) es (Some key ∷ [])

-- all keys are disturbed, so all entries' keys are
pub earlier-push : (es : List (Option HeldKey)) (key : HeldKey) → AreAllDisturbed (keys_of es) → AreEarlierDisturbed (es ++ Some key ∷ [])
earlier-push es key all = λ i d within.
    let inside : i < length es = omega (arith, length-append es (Some key ∷ [])) in
    rw (get_or_append_left es (Some key ∷ []) d i inside) (all_entries (λ k. k.disturbed ≡ true) es all i d inside)

-- ---- one more key

pub distinct-push : (keys : List HeldKey) (key : HeldKey) → AreDistinct keys → is_held key.code keys ≡ false → AreDistinct (keys ++ key ∷ [])
distinct-push keys key distinct new =
    all_pairs_push (λ a b. a.code ≢ b.code) keys key distinct (λ k d within. none_held key.code keys new k d within)

pub few-push : (keys : List HeldKey) (key : HeldKey) → AreDistinct keys → All (λ k. k.code < 4096) keys → key.code < 4096 → is_held key.code keys ≡ false → length keys < 4096
few-push keys key distinct codes small new =
    let more = length-distinct (keys ++ key ∷ []) (distinct-push keys key distinct new) (All-push (λ k. k.code < 4096) keys key codes small) in
    omega (arith, length-append keys (key ∷ []))

-- ---- places

other_entry : (code c : ℕ) (e : Option HeldKey) → eqb code c ≡ false → is_entry_of code e ≡ true → is_entry_of c e ≡ false
other_entry code c None differs here = absurd (cc)
other_entry code c (Some key) differs here = apart code c key.code differs here

pub ArePlaced-push : (places : List (Option ℕ)) (es : List (Option HeldKey)) (key : HeldKey) → ArePlaced places es → is_held key.code (keys_of es) ≡ false → ArePlaced (set places key.code (Some (length es))) (es ++ Some key ∷ [])
ArePlaced-push places es key placed new = λ code d within.
    let inside : code < length places = omega (arith, length-set places key.code (Some (length es))) in
    elim (cases_Bool (eqb key.code code)) [
      | inl same ↦
          let at = eqb-true key.code code same in
          let end : 0 + length es ≡ length es = omega arith in
          ap (λ n. get_or (set places n (Some (length es))) code d) at
          ∙ get_or-set_same places code (Some (length es)) d inside
          ∙ sym (place-push_here (is_entry_of code) 0 es (Some key) (any_entry code es ∙ ap (λ n. is_held n (keys_of es)) (sym at) ∙ new) same ∙ ap (λ n. Some n) end)
      | inr other ↦
          get_or-set_other places key.code code (Some (length es)) d (λ e. eqb-false key.code code other (sym e))
          ∙ placed code d inside
          ∙ sym (place-push_other (is_entry_of code) 0 es (Some key) other)
    ]

pub ArePlaced-emptied : (places : List (Option ℕ)) (es : List (Option HeldKey)) (code place : ℕ) → ArePlaced places es → AreDistinct (keys_of es) → entry_index code es ≡ Some place → ArePlaced (set places code None) (set es place None)
ArePlaced-emptied places es code place placed distinct found = λ c d within.
    let inside : c < length places = omega (arith, length-set places code None) in
    let at = found_place (is_entry_of code) es place None found in
    elim (cases_Bool (eqb code c)) [
      | inl same ↦
          let here = eqb-true code c same in
          let gone : is_held c (keys_of (set es place None)) ≡ false =
          ap (is_held c) (keys-emptied code es place None distinct at.0 at.1) ∙ ap (λ n. is_held c (other_keys n (keys_of es))) here ∙ is_held-let_go c (keys_of es) in
          ap (λ n. get_or (set places n None) c d) here
          ∙ get_or-set_same places c None d inside
          ∙ sym (unplaced c (set es place None) gone)
      | inr other ↦
          get_or-set_other places code c None d (λ e. eqb-false code c other (sym e))
          ∙ placed c d inside
          ∙ sym (place-set (is_entry_of c) 0 es place None None (sym (other_entry code c (get_or es place None) other at.1)))
    ]

-- ---- disturbed keys

entry_of-disturbed : (code : ℕ) (e : Option HeldKey) → is_entry_of code (option_map disturbed e) ≡ is_entry_of code e
entry_of-disturbed code None = refl
entry_of-disturbed code (Some key) = refl

pub place-disturbed : (code : ℕ) (es : List (Option HeldKey)) (n : ℕ) (d : Option HeldKey) → entry_index code (set es n (option_map disturbed (get_or es n d))) ≡ entry_index code es
place-disturbed code es n d = place-set (is_entry_of code) 0 es n _ d (entry_of-disturbed code (get_or es n d))

-- where all but the last key are disturbed, to disturb all is to disturb the last
pub keys-disturbed : (es : List (Option HeldKey)) (n : ℕ) (d : Option HeldKey) → n + 1 ≡ length es → AreEarlierDisturbed es → keys_of (set es n (option_map disturbed (get_or es n d))) ≡ map disturbed (keys_of es)
keys-disturbed [] n d long earlier = absurd (omega arith)
keys-disturbed (None ∷ []) zero d long earlier = refl
keys-disturbed (Some key ∷ []) zero d long earlier = refl
keys-disturbed (e ∷ next ∷ es) zero d long earlier = absurd (omega arith)
keys-disturbed (None ∷ es) (suc n) d long earlier = keys-disturbed es n d (omega arith) (λ i e within. earlier (suc i) e (omega arith))
keys-disturbed (Some key ∷ es) (suc n) d long earlier =
    ap (λ ks. key ∷ ks) (keys-disturbed es n d (omega arith) (λ i e within. earlier (suc i) e (omega arith)))
    ∙ ap (λ k. k ∷ map disturbed (keys_of es)) (sym (disturbed-twice key (earlier 0 d (omega arith))))

pub earlier-emptied : (es : List (Option HeldKey)) (place : ℕ) → place < length es → AreEarlierDisturbed es → AreEarlierDisturbed (set es place None)
earlier-emptied es place within earlier = λ i d inside.
    let before_last : i + 1 < length es = omega (arith, length-set es place None) in
    elim (cases_Bool (eqb place i)) [
      | inl same ↦ rw (ap (λ n. get_or (set es n None) i d) (eqb-true place i same) ∙ get_or-set_same es i None d (omega arith)) tt
      | inr other ↦ rw (get_or-set_other es place i None d (λ e. eqb-false place i other (sym e))) (earlier i d before_last)
    ]

-- ---- empty entries that are dropped

pub keys-dropped : (es : List (Option HeldKey)) → keys_of (filter is_some es) ≡ keys_of es
keys-dropped [] = refl
keys-dropped (None ∷ es) = keys-dropped es
keys-dropped (Some key ∷ es) = ap (λ ks. key ∷ ks) (keys-dropped es)

pub length-dropped : (es : List (Option HeldKey)) → length (filter is_some es) ≡ length (keys_of es)
length-dropped [] = refl
length-dropped (None ∷ es) = length-dropped es
length-dropped (Some key ∷ es) = omega (arith, length-dropped es)

or_same : (a b : Option ℕ) → is_some a ≡ is_some b → option_or a b ≡ a
or_same None None same = refl
or_same None (Some n) same = absurd (cc)
or_same (Some m) b same = refl

-- each code with an entry was told its new place, and the others had none before
pub ArePlaced-dropped : (places new : List (Option ℕ)) (es kept : List (Option HeldKey)) → length new ≡ length places → ArePlaced places es → keys_of kept ≡ keys_of es → ((code : ℕ) (d : Option ℕ) → get_or new code d ≡ option_or (entry_index code kept) (get_or places code d)) → ArePlaced new kept
ArePlaced-dropped places new es kept long placed keys each = λ code d within.
    let inside : code < length places = omega arith in
    each code d
    ∙ ap (option_or (entry_index code kept)) (placed code d inside)
    ∙ or_same (entry_index code kept) (entry_index code es) (is_placed code kept ∙ ap (is_held code) keys ∙ sym (is_placed code es))

-- ---- the base group over entries

keys-take : (n : ℕ) (es : List (Option HeldKey)) (P : HeldKey → Type 0) → All P (keys_of es) → (All P (keys_of (take n es))) × (length (keys_of (take n es)) ≤ length (keys_of es))
keys-take zero es P all = ((λ k d within. absurd (omega arith)), omega arith)
keys-take (suc n) [] P all = ((λ k d within. absurd (omega arith)), omega arith)
keys-take (suc n) (None ∷ es) P all = keys-take n es P all
keys-take (suc n) (Some key ∷ es) P all =
    let rest = keys-take n es P (All-tail P key (keys_of es) all) in
    (All-cons P key (keys_of (take n es)) (All-head P key (keys_of es) all) rest.0, omega (arith, rest.1))

pub small_front : (n : ℕ) (es : List (Option HeldKey)) → AreSound (keys_of es) → IsSmall (base_group (keys_of (take n es)))
small_front n es sound =
    let parts = keys-take n es (λ key. action_size key.action ≤ 32) sound.sizes in
    small_few (keys_of (take n es)) (omega (arith, length-sound (keys_of es) sound, parts.1)) parts.0

one_entry : (e : Option HeldKey) (keys : List HeldKey) → base_group (keys ++ keys_of (e ∷ [])) ≡ group_after_entry e (base_group keys)
one_entry None keys = ap base_group (append-nil keys)
one_entry (Some key) keys = base_group-push keys key

pub group-more : (n : ℕ) (es : List (Option HeldKey)) (d : Option HeldKey) → n < length es → base_group (keys_of (take (n + 1) es)) ≡ group_after_entry (get_or es n d) (base_group (keys_of (take n es)))
group-more n es d within =
    ap (λ l. base_group (keys_of l)) (take_more es n d within)
    ∙ ap base_group (filter_map-append (λ e. e) (take n es) (get_or es n d ∷ []))
    ∙ one_entry (get_or es n d) (keys_of (take n es))

-- ---- what is read

pub read_place : (places : List (Option ℕ)) (es : List (Option HeldKey)) (code n : ℕ) (o : Option ℕ) → ArePlaced places es → code < length places → n ≡ code → o ≡ get_or places n o → o ≡ entry_index code es
read_place places es code n o placed inside same read = read ∙ ap (λ k. get_or places k o) same ∙ placed code o inside
