-- Later levels and lists are merged one by one.
use Rattle.std.proofs.Common.{◌≡◌, ℕ, ◌+◌, ◌-◌, ◌<◌, ◌≤◌, Bool, true, false, cond, max, nat_eq, nat_lt, List, [], ◌∷◌, ◌++◌, ◌&&◌, not, length, replicate, get_or, zero, suc, slice_set, Option, None, Some, refl, sym, ap, ◌∙◌, arith}
use Rattle.std.specs.Option.{option_and_then}
use Rattle.std.proofs.lemmas.List.{length-append, length-replicate, length-set}
use Rattle.std.proofs.lemmas.Option.{slice_get_past}
use Rattle.std.proofs.lemmas.Bool.{false≢true, eqb-true, eq-eqb, ltb-true, ltb-false, lt-ltb, le-ltb}
use Rattle.kx_tree.specs.declared.tree.Mode.{Mode}
use Rattle.kx_tree.specs.declared.tree.Mode.TheVariants.{Augment, Override, Replace}
use Rattle.kx_merge.specs.Offers.{is_replace, merged_value}
use Rattle.kx_key_lists.specs.Lists.{Lists, level_at, level_in, level_of, list_at, widened_to, width_in, width_of}
use Rattle.kx_key_lists.proofs.Replaced.{set-other, taken_at, set-here}

-- of later levels those before a place were merged, and the others are still there
pub record LevelsBehind {X : Type 0} (mode : Mode) (old other now left : List (Option X)) (place : ℕ) : Type 0 where
  pub sized : length left ≡ length other
  pub kept : (k : ℕ) → place ≤ k → level_at left k ≡ level_at other k
  pub long : length now ≡ max (length old) place
  pub levels : (k : ℕ) → level_at now k ≡ cond (nat_lt k place) (merged_value mode (level_at old k) (level_at other k)) (level_at old k)

-- where nothing is merged, what is there stays
pub nothing_taken : {X : Type 0} (mode : Mode) (o : Option X) → is_replace mode ≡ false → merged_value mode o None ≡ o
nothing_taken Augment None h = refl
nothing_taken Augment (Some x) h = refl
nothing_taken Override o h = refl
nothing_taken Replace o h = absurd (false≢true (sym h))

pub level_past : {X : Type 0} (xs : List (Option X)) (k : ℕ) → length xs ≤ k → level_at xs k ≡ None
level_past xs k past = ap (λ o. option_and_then (λ p. p) o) (slice_get_past xs k past)

module _ {X : Type 0} (mode : Mode) (old other : List (Option X)) where
  pub levels_go : (now left : List (Option X)) (place : ℕ) (level : Option X) (now2 left2 : List (Option X)) → is_replace mode ≡ false → LevelsBehind mode old other now left place → place < length other
      → level ≡ level_at left place → length left2 ≡ length left → ((k : ℕ) → place + 1 ≤ k → level_at left2 k ≡ level_at left k)
      → ((l : ℕ) → level_at now2 l ≡ cond (nat_eq l place) (merged_value mode (level_at now place) level) (level_at now l)) → length now2 ≡ max (length now) (place + 1) → LevelsBehind mode old other now2 left2 (place + 1)
  levels_go now left place level now2 left2 strong b within is sized kept taken_up long = record {
    sized = sized ∙ b.sized;
    kept = λ k from. kept k from ∙ b.kept k (omega (arith, from));
    long = let before = b.long in omega (arith, long, before);
    levels = λ k. taken_up k ∙ by k (nat_eq k place) refl;
  }
    where
      shows : ℕ → Bool → Option X
      shows k b = cond b (merged_value mode (level_at old k) (level_at other k)) (level_at old k)

      before : level_at now place ≡ level_at old place
      before = b.levels place ∙ ap (shows place) (le-ltb place place (omega arith))

      later : level ≡ level_at other place
      later = is ∙ b.kept place (omega arith)

      here : (k : ℕ) → k ≡ place → merged_value mode (level_at now place) level ≡ shows k (nat_lt k (place + 1))
      here k e = ap (λ o. merged_value mode o level) before ∙ ap (merged_value mode (level_at old place)) later ∙ ap (λ j. merged_value mode (level_at old j) (level_at other j)) (sym e) ∙ sym (ap (shows k) (lt-ltb k (place + 1) (omega (arith, e))))

      there : (k : ℕ) → nat_eq k place ≡ false → (c d : Bool) → nat_lt k place ≡ c → nat_lt k (place + 1) ≡ d → shows k c ≡ shows k d
      there k other true true f g = refl
      there k other false false f g = refl
      there k other true false f g = absurd (false≢true (sym g ∙ lt-ltb k (place + 1) (let low = ltb-true k place f in omega (arith, low))))
      there k other false true f g = absurd (false≢true (sym other ∙ eq-eqb k place (let high = ltb-false k place f in let low = ltb-true k (place + 1) g in omega (arith, high, low))))

      by : (k : ℕ) (same : Bool) → nat_eq k place ≡ same → cond same (merged_value mode (level_at now place) level) (level_at now k) ≡ shows k (nat_lt k (place + 1))
      by k true e = here k (eqb-true k place e)
      by k false e = b.levels k ∙ there k e (nat_lt k place) (nat_lt k (place + 1)) refl refl

  pub levels_end : (now left : List (Option X)) (place : ℕ) → is_replace mode ≡ false → LevelsBehind mode old other now left place → length other ≤ place → (k : ℕ) → level_at now k ≡ merged_value mode (level_at old k) (level_at other k)
  levels_end now left place strong b all k = b.levels k ∙ by (nat_lt k place) refl
    where
      by : (before : Bool) → nat_lt k place ≡ before → cond before (merged_value mode (level_at old k) (level_at other k)) (level_at old k) ≡ merged_value mode (level_at old k) (level_at other k)
      by true f = refl
      by false f = sym (ap (merged_value mode (level_at old k)) (level_past other k (let past = ltb-false k place f in omega (arith, past, all))) ∙ nothing_taken mode (level_at old k) strong)

-- later values are merged from a place on, one by one
module _ {V : Type 0} (take : V → V → V) (nothing : V) (old other : ℕ → V) (from : ℕ) where
  abbrev inside : ℕ → ℕ → Bool
  inside place g = not (nat_lt g from) && nat_lt (g - from) place

  abbrev pub Goes : (ℕ → V) → ℕ → Type 0
  Goes now place = (g : ℕ) → now g ≡ cond (inside place g) (take (old g) (other (g - from))) (old g)

  abbrev shows : ℕ → Bool → V
  shows g b = cond b (take (old g) (other (g - from))) (old g)

  never : (a b : Bool) → b ≡ false → (not a && b) ≡ false
  never true b h = refl
  never false b h = h

  pub goes_next : (now now2 : ℕ → V) (place : ℕ) (x : V) → Goes now place → x ≡ other place → ((g : ℕ) → now2 g ≡ cond (nat_eq g (from + place)) (take (now g) x) (now g)) → Goes now2 (place + 1)
  goes_next now now2 place x goes is taken_up g = taken_up g ∙ by (nat_eq g (from + place)) refl
    where
      here : g ≡ from + place → take (now g) x ≡ shows g (inside (place + 1) g)
      here e =
          let out : nat_lt (g - from) place ≡ false = le-ltb (g - from) place (omega (arith, e)) in
          let low : nat_lt g from ≡ false = le-ltb g from (omega (arith, e)) in
          let within : nat_lt (g - from) (place + 1) ≡ true = lt-ltb (g - from) (place + 1) (omega (arith, e)) in
          let at : g - from ≡ place = omega (arith, e) in
          ap (λ v. take v x) (goes g ∙ ap (shows g) (never (nat_lt g from) (nat_lt (g - from) place) out))
          ∙ ap (take (old g)) (is ∙ sym (ap other at))
          ∙ sym (ap (shows g) (ap (λ b. not b && nat_lt (g - from) (place + 1)) low ∙ within))

      same : nat_eq g (from + place) ≡ false → (a c d : Bool) → nat_lt g from ≡ a → nat_lt (g - from) place ≡ c → nat_lt (g - from) (place + 1) ≡ d → (not a && c) ≡ (not a && d)
      same away true c d e f h = refl
      same away false true true e f h = refl
      same away false false false e f h = refl
      same away false true false e f h = absurd (false≢true (sym h ∙ lt-ltb (g - from) (place + 1) (let low = ltb-true (g - from) place f in omega (arith, low))))
      same away false false true e f h = absurd (false≢true (sym away ∙ eq-eqb g (from + place) (let start = ltb-false g from e in let high = ltb-false (g - from) place f in let low = ltb-true (g - from) (place + 1) h in omega (arith, start, high, low))))

      by : (b : Bool) → nat_eq g (from + place) ≡ b → cond b (take (now g) x) (now g) ≡ shows g (inside (place + 1) g)
      by true e = here (eqb-true g (from + place) e)
      by false e = goes g ∙ ap (shows g) (same e (nat_lt g from) (nat_lt (g - from) place) (nat_lt (g - from) (place + 1)) refl refl refl)

  pub goes_end : (now : ℕ → V) (count : ℕ) → ((v : V) → take v nothing ≡ v) → ((k : ℕ) → count ≤ k → other k ≡ nothing) → Goes now count → (g : ℕ) → now g ≡ take (old g) (cond (nat_lt g from) nothing (other (g - from)))
  goes_end now count stays past goes g = goes g ∙ by (nat_lt g from) (nat_lt (g - from) count) refl
    where
      by : (a c : Bool) → nat_lt (g - from) count ≡ c → shows g (not a && c) ≡ take (old g) (cond a nothing (other (g - from)))
      by true c f = sym (stays (old g))
      by false true f = refl
      by false false f = sym (ap (take (old g)) (past (g - from) (ltb-false (g - from) count f)) ∙ stays (old g))

none-at : {X : Type 0} (n k : ℕ) → list_at {X = X} (replicate n None) k ≡ None
none-at zero k = refl
none-at (suc n) zero = refl
none-at (suc n) (suc k) = none-at n k

widened-at : {X : Type 0} (lists : Lists X) (n k : ℕ) → list_at (lists ++ replicate n None) k ≡ list_at lists k
widened-at [] n k = none-at n k
widened-at (o ∷ lists) n zero = refl
widened-at (o ∷ lists) n (suc k) = widened-at lists n k

widened-long : {X : Type 0} (lists : Lists X) (count : ℕ) → count ≤ length (widened_to count lists)
widened-long {X = X} lists count =
    let both : length (widened_to count lists) ≡ length lists + length (replicate (count - length lists) None) = length-append lists (replicate (count - length lists) None) in
    let more : length (replicate {A = Option (List (Option X))} (count - length lists) None) ≡ count - length lists = length-replicate (count - length lists) None in
    omega (arith, both, more)

pub was_at : {X : Type 0} (lists wide : Lists X) (group : ℕ) (x d : Option (List (Option X))) → wide ≡ widened_to (group + 1) lists → x ≡ get_or wide group d → x ≡ list_at lists group
was_at lists wide group x d is at =
    taken_at (widened_to (group + 1) lists) group x d (let room = widened-long lists (group + 1) in omega (arith, room)) (at ∙ ap (λ ws. get_or ws group d) is) ∙ widened-at lists (group + 1 - length lists) group

-- a group's list is put in its place
pub list_put : {X : Type 0} (lists : Lists X) (group : ℕ) (joined : Option (List (Option X))) (final : Lists X) → final ≡ slice_set (slice_set (widened_to (group + 1) lists) group None) group joined → (g : ℕ) → list_at final g ≡ cond (nat_eq g group) joined (list_at lists g)
list_put {X = X} lists group joined final is g = ap (λ ls. list_at ls g) is ∙ by (nat_eq g group) refl
  where
    wide : Lists X
    wide = widened_to (group + 1) lists

    long : group < length (slice_set wide group None)
    long = let room = widened-long lists (group + 1) in let same : length (slice_set wide group None) ≡ length wide = length-set wide group None in omega (arith, room, same)

    by : (b : Bool) → nat_eq g group ≡ b → list_at (slice_set (slice_set wide group None) group joined) g ≡ cond b joined (list_at lists g)
    by true e = ap (list_at (slice_set (slice_set wide group None) group joined)) (eqb-true g group e) ∙ ap (λ o. option_and_then (λ p. p) o) (set-here (slice_set wide group None) group joined long)
    by false e =
        let away : g ≡ group → ⊥ = λ same. false≢true (sym e ∙ eq-eqb g group same) in
        ap (λ o. option_and_then (λ p. p) o) (set-other (slice_set wide group None) group joined g away ∙ set-other wide group None g away) ∙ widened-at lists (group + 1 - length lists) g

pub put_levels : {X : Type 0} (mode : Mode) (lists : Lists X) (group : ℕ) (old later joined : Option (List (Option X))) (final : Lists X) → final ≡ slice_set (slice_set (widened_to (group + 1) lists) group None) group joined → old ≡ list_at lists group
    → ((l : ℕ) → level_of joined l ≡ merged_value mode (level_of old l) (level_of later l)) → (g l : ℕ) → level_in final g l ≡ cond (nat_eq g group) (merged_value mode (level_in lists g l) (level_of later l)) (level_in lists g l)
put_levels mode lists group old later joined final is was levels g l = ap (λ o. level_of o l) (list_put lists group joined final is g) ∙ by (nat_eq g group) refl
  where
    by : (b : Bool) → nat_eq g group ≡ b → level_of (cond b joined (list_at lists g)) l ≡ cond b (merged_value mode (level_in lists g l) (level_of later l)) (level_in lists g l)
    by true e = levels l ∙ ap (λ o. merged_value mode (level_of o l) (level_of later l)) (was ∙ ap (list_at lists) (sym (eqb-true g group e)))
    by false e = refl

pub put_widths : {X : Type 0} (lists : Lists X) (group : ℕ) (old later joined : Option (List (Option X))) (final : Lists X) → final ≡ slice_set (slice_set (widened_to (group + 1) lists) group None) group joined → old ≡ list_at lists group
    → width_of joined ≡ max (width_of old) (width_of later) → (g : ℕ) → width_in final g ≡ cond (nat_eq g group) (max (width_in lists g) (width_of later)) (width_in lists g)
put_widths lists group old later joined final is was long g = ap width_of (list_put lists group joined final is g) ∙ by (nat_eq g group) refl
  where
    by : (b : Bool) → nat_eq g group ≡ b → width_of (cond b joined (list_at lists g)) ≡ cond b (max (width_in lists g) (width_of later)) (width_in lists g)
    by true e = long ∙ ap (λ o. max (width_of o) (width_of later)) (was ∙ ap (list_at lists) (sym (eqb-true g group e)))
    by false e = refl

-- of later lists those before a place were merged, and the others are still there
pub record ListsBehind {X : Type 0} (mode : Mode) (from : ℕ) (old other now left : Lists X) (place : ℕ) : Type 0 where
  pub sized : length left ≡ length other
  pub kept : (k : ℕ) → place ≤ k → list_at left k ≡ list_at other k
  pub levels : (l : ℕ) → Goes (merged_value mode) None (λ g. level_in old g l) (λ g. level_in other g l) from (λ g. level_in now g l) place
  pub widths : Goes max 0 (width_in old) (width_in other) from (width_in now) place

module _ {X : Type 0} (mode : Mode) (from : ℕ) (old other : Lists X) where
  pub lists_go : (now left : Lists X) (place : ℕ) (list : Option (List (Option X))) (now2 left2 : Lists X) → ListsBehind mode from old other now left place → list ≡ list_at left place → length left2 ≡ length left → ((k : ℕ) → place + 1 ≤ k → list_at left2 k ≡ list_at left k)
      → ((g l : ℕ) → level_in now2 g l ≡ cond (nat_eq g (from + place)) (merged_value mode (level_in now g l) (level_of list l)) (level_in now g l))
      → ((g : ℕ) → width_in now2 g ≡ cond (nat_eq g (from + place)) (max (width_in now g) (width_of list)) (width_in now g)) → ListsBehind mode from old other now2 left2 (place + 1)
  lists_go now left place list now2 left2 b is sized kept levels widths =
      let there : list ≡ list_at other place = is ∙ b.kept place (omega arith) in record {
        sized = sized ∙ b.sized;
        kept = λ k low. kept k low ∙ b.kept k (omega (arith, low));
        levels = λ l. goes_next (merged_value mode) None (λ g. level_in old g l) (λ g. level_in other g l) from (λ g. level_in now g l) (λ g. level_in now2 g l) place (level_of list l) (b.levels l) (ap (λ o. level_of o l) there) (λ g. levels g l);
        widths = goes_next max 0 (width_in old) (width_in other) from (width_in now) (width_in now2) place (width_of list) b.widths (ap width_of there) widths;
      }

  list-past : (k : ℕ) → length other ≤ k → list_at other k ≡ None
  list-past k past = ap (λ o. option_and_then (λ p. p) o) (slice_get_past other k past)

  pub lists_levels : (now left : Lists X) (place : ℕ) → is_replace mode ≡ false → ListsBehind mode from old other now left place → length other ≤ place → (g l : ℕ) → level_in now g l ≡ merged_value mode (level_in old g l) (cond (nat_lt g from) None (level_in other (g - from) l))
  lists_levels now left place strong b all g l = goes_end (merged_value mode) None (λ j. level_in old j l) (λ j. level_in other j l) from (λ j. level_in now j l) place (λ v. nothing_taken mode v strong) (λ k past. ap (λ o. level_of o l) (list-past k (omega (arith, past, all)))) (b.levels l) g

  pub lists_widths : (now left : Lists X) (place : ℕ) → ListsBehind mode from old other now left place → length other ≤ place → (g : ℕ) → width_in now g ≡ max (width_in old g) (cond (nat_lt g from) 0 (width_in other (g - from)))
  lists_widths now left place b all g = goes_end max 0 (width_in old) (width_in other) from (width_in now) place (λ v. omega arith) (λ k past. ap width_of (list-past k (omega (arith, past, all)))) b.widths g
