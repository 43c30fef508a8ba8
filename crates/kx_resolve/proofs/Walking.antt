-- What keysyms have visited on the way over the levels of groups, the groups of keys and the keys of codes.
use Rattle.std.proofs.Common.{ℕ, ◌+◌, ◌≡◌, ◌++◌, ◌∷◌, Bool, true, false, List, [], None, Some, fold, nat_eq, refl, sym, subst, ap, ◌∙◌, if◌then◌else◌}
use Rattle.std.specs.Option.{IfSome, option_map}
use Rattle.std.specs.Set.{is_member}
use Rattle.kx_keys.specs.Given.{KeyGiven}
use Rattle.kx_keys.specs.GroupTypes.{content_group, group_levels, level_keysyms}
use Rattle.kx_resolve.proofs.Visiting.{visits_alike, visits_both}
use Rattle.kx_resolve.proofs.PlaceOrder.{first_is_first}
use Rattle.kx_resolve.proofs.PlaceSteps.{below_next, first_is, groups_next, levels_next}
use Rattle.kx_resolve.specs.Finding.{Firsts, IsFirstOrNone, Visits}
use Rattle.kx_keys.specs.Mapping.{Mapping, earlier, first_place, group_places, key_places, level_places, place_at, places_below}
use Rattle.kx_keys.specs.Typing.{Typing}
use Rattle.kx_keys.specs.declared.places.LevelPlace.{LevelPlace}

module _ (old now new : Firsts) where
  module _ (key : KeyGiven) (code group : ℕ) where
    abbrev level_place : ℕ → LevelPlace
    level_place level = record { group = group; level = level; code = code }

    pub visits_level : (level : ℕ) (keysyms : List ℕ) → keysyms ≡ level_keysyms key (content_group key group) level
        → Visits (λ k. level_places k key code group level) old now
        → Visits (λ k. if is_member nat_eq keysyms k then record { group = group; level = level; code = code } ∷ [] else []) now new
        → Visits (λ k. level_places k key code group (level + 1)) old new
    visits_level level keysyms are before visited =
        let here : Visits (λ k. place_at k key code group level) now new = visits_alike now (λ k. if is_member nat_eq keysyms k then level_place level ∷ [] else []) (λ k. place_at k key code group level) new visited (λ k. ap (λ ks. if is_member nat_eq ks k then level_place level ∷ [] else []) are) in
        visits_alike old (λ k. level_places k key code group level ++ place_at k key code group level) (λ k. level_places k key code group (level + 1)) new
        (visits_both old (λ k. level_places k key code group level) (λ k. place_at k key code group level) now new before here)
        (λ k. sym (levels_next k key code group level))

    pub visits_group : (typing : Typing) (levels : ℕ) → levels ≡ group_levels typing key group
        → Visits (λ k. group_places k typing key code group) old now
        → Visits (λ k. level_places k key code group levels) now new
        → Visits (λ k. group_places k typing key code (group + 1)) old new
    visits_group typing levels are before visited =
        let here : Visits (λ k. level_places k key code group (group_levels typing key group)) now new = subst (λ n. Visits (λ k. level_places k key code group n) now new) are visited in
        visits_alike old (λ k. group_places k typing key code group ++ level_places k key code group (group_levels typing key group)) (λ k. group_places k typing key code (group + 1)) new
        (visits_both old (λ k. group_places k typing key code group) (λ k. level_places k key code group (group_levels typing key group)) now new before here)
        (λ k. sym (groups_next k key code typing group))

  pub visits_code : (m : Mapping) (code : ℕ)
      → Visits (λ k. places_below k m code) old now
      → Visits (λ k. key_places k m.typing code (m.name code) (m.key code)) now new
      → Visits (λ k. places_below k m (code + 1)) old new
  visits_code m code before visited =
      visits_alike old (λ k. places_below k m code ++ key_places k m.typing code (m.name code) (m.key code)) (λ k. places_below k m (code + 1)) new
      (visits_both old (λ k. places_below k m code) (λ k. key_places k m.typing code (m.name code) (m.key code)) now new before visited)
      (λ k. sym (below_next k m code))

-- ---- All keys

module _ (m : Mapping) where
  found : (keysym : ℕ) (named : Bool) → option_map (λ first. fold earlier first (places_below keysym m 4096)) (if named then Some None else None) ≡ (if named then Some (first_place keysym m) else None)
  found keysym true = ap Some (first_is keysym m)
  found keysym false = refl

  pub all_found : (named : ℕ → Bool) (old new : Firsts) → ((k : ℕ) → old k ≡ (if named k then Some None else None)) → Visits (λ k. places_below k m 4096) old new → (k : ℕ) → new k ≡ (if named k then Some (first_place k m) else None)
  all_found named old new are visited k = visited.firsts_are k ∙ ap (option_map (λ first. fold earlier first (places_below k m 4096))) (are k) ∙ found k (named k)

  first_at : (keysym : ℕ) (named : Bool) → IfSome (if named then Some (first_place keysym m) else None) (IsFirstOrNone (places_below keysym m 4096))
  first_at keysym true = subst (IsFirstOrNone (places_below keysym m 4096)) (first_is keysym m) (first_is_first (places_below keysym m 4096))
  first_at keysym false = tt

  pub all_first : (named : ℕ → Bool) (new : Firsts) → ((k : ℕ) → new k ≡ (if named k then Some (first_place k m) else None)) → (k : ℕ) → IfSome (new k) (IsFirstOrNone (places_below k m 4096))
  all_first named new are k = subst (λ o. IfSome o (IsFirstOrNone (places_below k m 4096))) (sym (are k)) (first_at k (named k))
