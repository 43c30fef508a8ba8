-- The order of places, and that what is found is the first.
use Rattle.std.proofs.Common.{◌≡◌, Bool, true, false, List, [], ◌∷◌, ◌++◌, All, Option, None, Some, fold, append_assoc, append-nil, refl, sym, subst, arith, if◌then◌else◌}
use Rattle.std.proofs.lemmas.Bool.Decides.{nat_tests}
use Rattle.std.proofs.lemmas.List.Elements.{All-nil, All-push, All-weaker, Contains-append_left, Contains-push}
use Rattle.kx_resolve.specs.Finding.{IsFirst, IsFirstOrNone}
use Rattle.kx_keys.specs.Mapping.{earlier, first_of, is_before}
use Rattle.kx_keys.specs.declared.places.LevelPlace.{LevelPlace}

-- ---- The order is strict, and what isn't before one isn't before an earlier one

none_before_itself : (one : LevelPlace) → is_before one one ≡ false
none_before_itself one = grind (arith, nat_tests)

still_behind : (one first new : LevelPlace) → is_before one first ≡ false → is_before new first ≡ true → is_before one new ≡ false
still_behind one first new behind before = grind (arith, nat_tests, behind, before)

-- ---- One place more

module _ (done : List LevelPlace) (new : LevelPlace) where
  comes_first : All (λ place. is_before place new ≡ false) done → IsFirst (done ++ new ∷ []) new
  comes_first behind = record { among = Contains-push done new; least = All-push (λ place. is_before place new ≡ false) done new behind (none_before_itself new) }

  stays_first : (first : LevelPlace) → IsFirst done first → is_before new first ≡ false → IsFirst (done ++ new ∷ []) first
  stays_first first was behind = record { among = Contains-append_left done (new ∷ []) first was.among; least = All-push (λ place. is_before place first ≡ false) done new was.least behind }

  either : (first : LevelPlace) → IsFirst done first → (b : Bool) → is_before new first ≡ b → IsFirst (done ++ new ∷ []) (if b then new else first)
  either first was true before = comes_first (All-weaker (λ place. is_before place first ≡ false) (λ place. is_before place new ≡ false) (λ place behind. still_behind place first new behind before) done was.least)
  either first was false behind = stays_first first was behind

  step : (first : Option LevelPlace) → IsFirstOrNone done first → IsFirstOrNone (done ++ new ∷ []) (earlier first new)
  step None none = comes_first (subst (All (λ place. is_before place new ≡ false)) (sym none) (All-nil (λ place. is_before place new ≡ false)))
  step (Some first) was = either first was (is_before new first) refl

go : (rest done : List LevelPlace) (first : Option LevelPlace) → IsFirstOrNone done first → IsFirstOrNone (done ++ rest) (fold earlier first rest)
go [] done first was = subst (λ ps. IsFirstOrNone ps first) (sym (append-nil done)) was
go (new ∷ rest) done first was = subst (λ ps. IsFirstOrNone ps (fold earlier (earlier first new) rest)) (append_assoc done (new ∷ []) rest) (go rest (done ++ new ∷ []) (earlier first new) (step done new first was))

pub first_is_first : (places : List LevelPlace) → IsFirstOrNone places (first_of places)
first_is_first places = go places [] None refl
