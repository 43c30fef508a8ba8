-- Records of offers, one after another.
use Rattle.std.proofs.Common.{◌≡◌, ℕ, ◌+◌, ◌<◌, List, [], ◌∷◌, ◌++◌, length, get_or, map, take, ap, refl, sym, subst, ◌∙◌}
use Rattle.std.proofs.lemmas.List.{map-append, take_more}
use Rattle.kx_tree.specs.declared.tree.Mode.{Mode}
use Rattle.kx_merge.specs.Offers.{Offer}
use Rattle.kx_merge.specs.Plain.{plain_form}
use Rattle.kx_merge.specs.Records.{IsOffered, none, more}
use Rattle.kx_merge.specs.declared.plain.Plain.{Plain}
use Rattle.kx_modmaps.specs.Maps.{AreAssigned, assigned_cell, given, map_offer}
use Rattle.kx_modmaps.specs.declared.record.Assigned.{Assigned}
use Rattle.kx_modmaps.specs.declared.record.Cell.{Cell}
use Rattle.kx_modmaps.specs.declared.target.Target.{Target}

push-offered : (mode : Mode) (records : List (Target × Plain Assigned)) (os : List (Offer Target Cell ℕ)) (mods : ℕ) (target : Target) (a : Plain Assigned) → AreAssigned mode records os → IsOffered {K = Target} {C = Cell} {V = ℕ} {R = Plain Assigned} mode (plain_form assigned_cell) target a (map_offer mode mods target)
    → AreAssigned mode (records ++ (target, a) ∷ []) (os ++ map_offer mode mods target ∷ [])
push-offered mode [] [] mods target a are is = more is none
push-offered mode [] (o ∷ os) mods target a are is = elim are [ ]
push-offered mode (r ∷ records) [] mods target a are is = elim are [ ]
push-offered mode (r ∷ records) (o ∷ os) mods target a (more first rest) is = more first (push-offered mode records os mods target a rest is)

pub added : (mode : Mode) (records new : List (Target × Plain Assigned)) (os : List (Offer Target Cell ℕ)) (mods : ℕ) (target : Target) (a : Plain Assigned) → AreAssigned mode records os → new ≡ records ++ (target, a) ∷ [] → ((c : Cell) → assigned_cell a.values c ≡ given target mods c)
    → AreAssigned mode new (os ++ map_offer mode mods target ∷ [])
added mode records new os mods target a are pushed same =
    let one : IsOffered {K = Target} {C = Cell} {V = ℕ} {R = Plain Assigned} mode (plain_form assigned_cell) target a (map_offer mode mods target) = record { mode_is = refl; name_is = refl; value_is = λ c. sym (same c); width_is = λ g. refl } in
    subst (λ xs. AreAssigned mode xs (os ++ map_offer mode mods target ∷ [])) (sym pushed) (push-offered mode records os mods target a are one)

pub next_offered : (d : Target) (mode : Mode) (new : List (Target × Plain Assigned)) (mods : ℕ) (targets : List Target) (i : ℕ) → i < length targets
    → AreAssigned mode new (map (map_offer mode mods) (take i targets) ++ map_offer mode mods (get_or targets i d) ∷ []) → AreAssigned mode new (map (map_offer mode mods) (take (i + 1) targets))
next_offered d mode new mods targets i within are =
    subst (AreAssigned mode new) (sym (ap (map (map_offer mode mods)) (take_more targets i d within) ∙ map-append (map_offer mode mods) (take i targets) (get_or targets i d ∷ []))) are
