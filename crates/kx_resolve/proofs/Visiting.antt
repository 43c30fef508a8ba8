-- What keysyms have visited of places.
use Rattle.std.proofs.Common.{ℕ, ◌+◌, ◌<◌, ◌≡◌, ◌++◌, ◌∷◌, ◌||◌, Bool, true, false, List, [], Option, None, Some, fold, get_or, length, nat_eq, take, refl, sym, ap, ◌∙◌, arith, if◌then◌else◌}
use Rattle.std.specs.Option.{option_map}
use Rattle.std.specs.Set.{is_member}
use Rattle.std.proofs.lemmas.Bool.Decides.{nat_tests}
use Rattle.std.proofs.lemmas.List.Folds.{list_any_more}
use Rattle.std.proofs.lemmas.List.Sums.{fold-append}
use Rattle.kx_resolve.specs.Finding.{Firsts, Visits}
use Rattle.kx_keys.specs.Mapping.{earlier, is_before}
use Rattle.kx_keys.specs.declared.places.LevelPlace.{LevelPlace}

nothing : (o : Option (Option LevelPlace)) → o ≡ option_map (λ first. first) o
nothing None = refl
nothing (Some first) = refl

both : (ps qs : List LevelPlace) (o : Option (Option LevelPlace)) → option_map (λ first. fold earlier first qs) (option_map (λ first. fold earlier first ps) o) ≡ option_map (λ first. fold earlier first (ps ++ qs)) o
both ps qs None = refl
both ps qs (Some first) = ap Some (sym (fold-append earlier first ps qs))

-- ---- Places one after another

module _ (old : Firsts) where
  pub visits_none : (places : ℕ → List LevelPlace) → ((k : ℕ) → places k ≡ []) → Visits places old old
  visits_none places none = record { firsts_are = λ k. nothing (old k) ∙ ap (λ ps. option_map (λ first. fold earlier first ps) (old k)) (sym (none k)) }

  pub visits_alike : (places others : ℕ → List LevelPlace) (new : Firsts) → Visits places old new → ((k : ℕ) → places k ≡ others k) → Visits others old new
  visits_alike places others new visited alike = record { firsts_are = λ k. visited.firsts_are k ∙ ap (λ ps. option_map (λ first. fold earlier first ps) (old k)) (alike k) }

  pub visits_both : (places others : ℕ → List LevelPlace) (now new : Firsts) → Visits places old now → Visits others now new → Visits (λ k. places k ++ others k) old new
  visits_both places others now new before visited = record {
    firsts_are = λ k. visited.firsts_are k ∙ ap (option_map (λ first. fold earlier first (others k))) (before.firsts_are k) ∙ both (places k) (others k) (old k);
  }

-- ---- One place with several keysyms

abbrev place_if : Bool → LevelPlace → List LevelPlace
place_if b place = if b then place ∷ [] else []

kept : (b : Bool) (place : LevelPlace) → (if b then place else place) ≡ place
kept true place = refl
kept false place = refl

earlier_of : (b : Bool) (place first : LevelPlace) → is_before place first ≡ b → earlier (Some (if b then place else first)) place ≡ Some (if b then place else first)
earlier_of true place first h = ap Some (kept (is_before place place) place)
earlier_of false place first h = ap (λ b. Some (if b then place else first)) h

-- a place that is visited again changes nothing
again : (first : Option LevelPlace) (place : LevelPlace) → earlier (earlier first place) place ≡ earlier first place
again None place = ap Some (kept (is_before place place) place)
again (Some first) place = earlier_of (is_before place first) place first refl

twice : (a b : Bool) (place : LevelPlace) (first : Option LevelPlace) → fold earlier (fold earlier first (place_if a place)) (place_if b place) ≡ fold earlier first (place_if (a || b) place)
twice true true place first = again first place
twice true false place first = refl
twice false true place first = refl
twice false false place first = refl

twice_any : (a b : Bool) (place : LevelPlace) (o : Option (Option LevelPlace)) → option_map (λ first. fold earlier first (place_if b place)) (option_map (λ first. fold earlier first (place_if a place)) o) ≡ option_map (λ first. fold earlier first (place_if (a || b) place)) o
twice_any a b place None = refl
twice_any a b place (Some first) = ap Some (twice a b place first)

same_number : (m n : ℕ) → nat_eq m n ≡ nat_eq n m
same_number m n = grind (arith, nat_tests)

pub visits_next : (old now new : Firsts) (keysyms : List ℕ) (i : ℕ) (place : LevelPlace) → i < length keysyms
    → Visits (λ k. if is_member nat_eq (take i keysyms) k then place ∷ [] else []) old now
    → Visits (λ k. if nat_eq (get_or keysyms i 0) k then place ∷ [] else []) now new
    → Visits (λ k. if is_member nat_eq (take (i + 1) keysyms) k then place ∷ [] else []) old new
visits_next old now new keysyms i place within before visited = record {
  firsts_are = λ k.
      visited.firsts_are k
      ∙ ap (option_map (λ first. fold earlier first (place_if (nat_eq (get_or keysyms i 0) k) place))) (before.firsts_are k)
      ∙ twice_any (is_member nat_eq (take i keysyms) k) (nat_eq (get_or keysyms i 0) k) place (old k)
      ∙ ap (λ b. option_map (λ first. fold earlier first (place_if (is_member nat_eq (take i keysyms) k || b) place)) (old k)) (same_number (get_or keysyms i 0) k)
      ∙ ap (λ b. option_map (λ first. fold earlier first (place_if b place)) (old k)) (sym (list_any_more (nat_eq k) keysyms i 0 within));
}
