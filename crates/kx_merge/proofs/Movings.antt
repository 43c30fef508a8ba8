-- Records that are offered in order, and how they are moved.
use Rattle.std.proofs.Common.{◌≡◌, ℕ, Bool, List, [], ◌∷◌, ◌++◌, map, suc, Option, None, Some, refl, sym, ap, ◌∙◌}
use Rattle.std.proofs.lemmas.Map.Entries.{hash_map_get_place}
use Rattle.std.specs.Cmp.{IsEquivalence}
use Rattle.std.specs.HashMap.{HashMap, IsUnique}
use Rattle.std.specs.List.{flat_map, slice_get}
use Rattle.std.specs.Map.{keys_of}
use Rattle.std.specs.Option.{option_and_then, option_map_or}
use Rattle.std.proofs.lemmas.List.{append_assoc}
use Rattle.indexmap.specs.IndexMap.{get, keys}
use Rattle.kx_tree.specs.declared.tree.Mode.{Mode}
use Rattle.kx_merge.specs.Bodies.{Moves, moved, moved_to, gather}
use Rattle.kx_merge.specs.Moved.{moved_one, moved_key, IsOfferedMoved}
use Rattle.kx_merge.specs.Offers.{Offer, value_of, width_of}
use Rattle.kx_merge.specs.Records.{Form, IsOffered, IsGood, AreOffered, none, more, Shows, cell_in, width_in}

module _ {K C V R : Type 0} (mode : Mode) (form : Form R C V) where
  -- the last of records that are offered
  pub last_offered : (xs : List (K × R)) (x : K × R) (os : List (Offer K C V)) → AreOffered mode form (xs ++ x ∷ []) os → (front : List (Offer K C V)) × (o : Offer K C V) × (os ≡ front ++ o ∷ []) × AreOffered mode form xs front × IsOffered mode form x.0 x.1 o
  last_offered [] x [] are = elim are [ ]
  last_offered [] x (o ∷ []) (more one rest) = ([], o, refl, none, one)
  last_offered [] x (o ∷ p ∷ os) (more one rest) = elim rest [ ]
  last_offered (y ∷ xs) x [] are = elim are [ ]
  last_offered (y ∷ xs) x (o ∷ os) (more one rest) = let r = last_offered xs x os rest in (o ∷ r.0, r.1, ap (λ ps. o ∷ ps) r.2, more one r.3, r.4)

  pub none_offered : (os : List (Offer K C V)) → AreOffered {K = K} mode form [] os → os ≡ []
  none_offered [] are = refl
  none_offered (o ∷ os) are = elim are [ ]

module _ {K C V R : Type 0} (form : Form R C V) (eq : K → K → Bool) (os : List (Offer K C V)) where
  pub data AllGood : List (K × R) → Type 0 where
    no_more : AllGood []
    and_more : {key : K} {r : R} {es : List (K × R)} → IsGood form eq os key r → AllGood es → AllGood ((key, r) ∷ es)

  pub last_good : (xs : List (K × R)) (x : K × R) → AllGood (xs ++ x ∷ []) → AllGood xs × IsGood form eq os x.0 x.1
  last_good [] x (and_more one rest) = (no_more, one)
  last_good (y ∷ xs) x (and_more one rest) = let r = last_good xs x rest in (and_more one r.0, r.1)

  each_good : (es : List (K × R)) → ((i : ℕ) (k : K) (r : R) → slice_get es i ≡ Some (k, r) → IsGood form eq os k r) → AllGood es
  each_good [] h = no_more
  each_good (e ∷ es) h = and_more (h 0 e.0 e.1 refl) (each_good es (λ i k r at. h (suc i) k r at))

  pub shown_good : {S : Type 0} → IsEquivalence eq → (m : HashMap K R S) → IsUnique eq m → Shows form eq (keys m) (get eq m) os → AllGood m.entries
  shown_good laws m unique shows = each_good m.entries (λ i k r at.
      let found = hash_map_get_place laws m i k r unique at in
      record {
        cells_are = λ c. sym (ap (λ f. cell_in form f c) found) ∙ shows.cells_are k c;
        widths_are = λ g. sym (ap (λ f. width_in form f g) found) ∙ shows.widths_are k g;
      })

module _ {K C V R : Type 0} (form : Form R C V) (eq : K → K → Bool) (os : List (Offer K C V)) (mode : Mode) where
  pub map-more : (xs : List (K × R)) (x : K × R) → map (gather eq mode os) (keys_of (xs ++ x ∷ [])) ≡ map (gather eq mode os) (keys_of xs) ++ gather eq mode os x.0 ∷ []
  map-more [] x = refl
  map-more (y ∷ xs) x = ap (λ ps. gather eq mode os y.0 ∷ ps) (map-more xs x)

  pub good_offer : (key : K) (r : R) → IsGood form eq os key r → IsOffered mode form key r (gather eq mode os key)
  good_offer key r good = record { mode_is = refl; name_is = refl; value_is = λ c. sym (good.cells_are c); width_is = λ g. sym (good.widths_are g) }

  -- records that are all good are offered as what is gathered of them
  pub all_offered : (es : List (K × R)) → AllGood form eq os es → AreOffered mode form es (map (gather eq mode os) (keys_of es))
  all_offered [] no_more = none
  all_offered (e ∷ es) (and_more one rest) = more (good_offer e.0 e.1 one) (all_offered es rest)

module _ {K C V : Type 0} (moves : Moves K C) where
  flat-append : (n : ℕ) (ps qs : List (Offer K C V)) → flat_map (λ p. moved_one moves n p (moves.key n p.name)) (ps ++ qs) ≡ flat_map (λ p. moved_one moves n p (moves.key n p.name)) ps ++ flat_map (λ p. moved_one moves n p (moves.key n p.name)) qs
  flat-append n [] qs = refl
  flat-append n (p ∷ ps) qs =
      ap (λ rest. moved_one moves n p (moves.key n p.name) ++ rest) (flat-append n ps qs)
      ∙ sym (append_assoc (moved_one moves n p (moves.key n p.name)) (flat_map (λ q. moved_one moves n q (moves.key n q.name)) ps) (flat_map (λ q. moved_one moves n q (moves.key n q.name)) qs))

  pub moved-append : (group : Option ℕ) (ps qs : List (Offer K C V)) → moved moves group (ps ++ qs) ≡ moved moves group ps ++ moved moves group qs
  moved-append None ps qs = refl
  moved-append (Some n) ps qs = flat-append n ps qs

  pub moved-none : (group : Option ℕ) → moved {V = V} moves group [] ≡ []
  moved-none None = refl
  moved-none (Some n) = refl

-- what a record of a map offers where the map is moved
module _ {K C V R : Type 0} (form : Form R C V) (eq : K → K → Bool) (moves : Moves K C) (os : List (Offer K C V)) (mode : Mode) (key : K) (r : R) (good : IsGood form eq os key r) where
  through-cells : (c : Option C) → option_and_then (value_of eq os key) c ≡ option_and_then (form.cell r) c
  through-cells None = refl
  through-cells (Some c) = sym (good.cells_are c)

  through-widths : (g : Option ℕ) → option_map_or (width_of eq os key) g 0 ≡ option_map_or (form.width r) g 0
  through-widths None = refl
  through-widths (Some g) = sym (good.widths_are g)

  pub offered_moved : (group : Option ℕ) (to : K) → moved_key moves group key ≡ Some to → (o : Offer K C V) × (moved moves group (gather eq mode os key ∷ []) ≡ o ∷ []) × IsOfferedMoved form moves mode group to r o
  offered_moved None to goes = (gather eq mode os key, refl, record { mode_is = refl; name_is = cc; value_is = λ c. sym (good.cells_are c); width_is = λ g. sym (good.widths_are g) })
  offered_moved (Some n) to goes = (
    moved_to moves n (gather eq mode os key) to,
    ap (λ t. moved_one moves n (gather eq mode os key) t ++ []) goes,
    record { mode_is = refl; name_is = refl; value_is = λ c. through-cells (moves.cell n c); width_is = λ g. through-widths (moves.group n g) },
  )

  pub nothing_offered : (group : Option ℕ) → moved_key moves group key ≡ None → moved moves group (gather eq mode os key ∷ []) ≡ []
  nothing_offered None goes = cc
  nothing_offered (Some n) goes = ap (λ t. moved_one moves n (gather eq mode os key) t ++ []) goes
