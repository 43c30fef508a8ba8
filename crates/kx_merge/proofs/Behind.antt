-- Going over a body: what is after is in the records, and has no fault.
use Rattle.std.proofs.Common.{◌≡◌, ℕ, ◌+◌, ◌<◌, ◌≤◌, zero, suc, Bool, true, List, [], ◌∷◌, ◌++◌, length, drop, get_or, eqb-true, Option, None, Contains, Result, Ok, Err, IfErr, OnOk, refl, sym, ap, ◌∙◌, subst, arith}
use Rattle.std.proofs.lemmas.List.{append-nil, append_assoc, drop_all}
use Rattle.std.proofs.lemmas.List.Elements.{Contains-append_left}
use Rattle.std.specs.Prelude.{◌==◌}
use Rattle.std.specs.HashMap.{HashMap}
use Rattle.std.specs.Map.{keys_of, lookup}
use Rattle.std.specs.Result.{IsErrAnd}
use Rattle.indexmap.specs.IndexMap.{get, keys}
use Rattle.kx_lex.specs.declared.fault.Fault.{Fault}
use Rattle.kx_lex.specs.declared.fault.Fault.TheVariants.{Memory}
use Rattle.kx_include.specs.Expansion.{Body, End}
use Rattle.kx_include.specs.Shared.{bodies_behind, body_at, links_body, entries_body, shared_body, shared_sections}
use Rattle.kx_include.specs.declared.expansion.Entry.{Entry}
use Rattle.kx_include.specs.declared.expansion.Entry.TheVariants.{Own, Include}
use Rattle.kx_include.specs.declared.expansion.Link.{Link}
use Rattle.kx_include.specs.declared.expansion.Map.{Map}
use Rattle.kx_include.specs.declared.place.Place.{Place}
use Rattle.kx_tree.specs.declared.tree.Mode.TheVariants.{Augment}
use Rattle.kx_merge.specs.Bodies.{Rules, Moves, moved, gathered, offers, faults, offers_of, faults_of}
use Rattle.kx_merge.specs.Gatherings.{Adds, IsGathered, AreGathered, none, more, entry_offers, entry_faults, entry_next}
use Rattle.kx_merge.specs.Offers.{Offer}
use Rattle.kx_merge.specs.Records.{Form, Shows, cell_in, width_in}
use Rattle.kx_merge.specs.declared.gathering.Merged.{Merged}
use Rattle.kx_merge.proofs.Going.{drop_next}

module _ {K C V D R : Type 0} (form : Form R C V) (eq : K → K → Bool) (rules : Rules K C V D) (moves : Moves K C) where
  -- from records and a body, some of the body is after in the records of now
  pub record Left (names : List K) (at : K → Option R) (d : D) (whole : Body) (now_names : List K) (now_at : K → Option R) (now_d : D) (left : Body) : Type 0 where
    pub behind : List (Offer K C V)
    pub shown : (os : List (Offer K C V)) → Shows form eq names at os → Shows form eq now_names now_at (os ++ behind)
    pub offered : offers eq rules moves d whole ≡ behind ++ offers eq rules moves now_d left
    pub blamed : faults eq rules moves d whole ≡ faults eq rules moves now_d left

  pub left_all : (names : List K) (at : K → Option R) (d : D) (whole : Body) → Left names at d whole names at d whole
  left_all names at d whole = record { behind = []; shown = λ os shows. subst (Shows form eq names at) (sym (append-nil os)) shows; offered = refl; blamed = refl }

module _ {K C V D R : Type 0} {form : Form R C V} {eq : K → K → Bool} {rules : Rules K C V D} {moves : Moves K C} {names : List K} {at : K → Option R} {d : D} {whole : Body} where
  unfoldable pub left_step : {n1 n2 : List K} {a1 a2 : K → Option R} {d1 : D} {b1 : Body} {X : Type 0} {added : List (Offer K C V)} {fs : List Fault} {x : X} (d2 : D) (b2 : Body)
      → Left form eq rules moves names at d whole n1 a1 d1 b1 → offers eq rules moves d1 b1 ≡ added ++ offers eq rules moves d2 b2 → faults eq rules moves d1 b1 ≡ fs ++ faults eq rules moves d2 b2
      → Adds form eq n1 a1 (Ok x) n2 a2 added fs → Left form eq rules moves names at d whole n2 a2 d2 b2
  left_step {n2 = n2} {a2 = a2} {added = added} {fs = fs} d2 b2 l os_are fs_are adds = record {
    behind = l.behind ++ added;
    shown = λ os before. subst (Shows form eq n2 a2) (append_assoc os l.behind added) (adds.shows (os ++ l.behind) (l.shown os before));
    offered = l.offered ∙ ap (λ rest. l.behind ++ rest) os_are ∙ sym (append_assoc l.behind added (offers eq rules moves d2 b2));
    blamed = l.blamed ∙ fs_are ∙ ap (λ gs. gs ++ faults eq rules moves d2 b2) adds.faultless;
  }

  pub left_shown : {n1 : List K} {a1 : K → Option R} {d1 : D} → Left form eq rules moves names at d whole n1 a1 d1 End → (os : List (Offer K C V)) → Shows form eq names at os → Shows form eq n1 a1 (os ++ offers eq rules moves d whole)
  left_shown {n1 = n1} {a1 = a1} l os before = subst (λ added. Shows form eq n1 a1 (os ++ added)) (sym (l.offered ∙ append-nil l.behind)) (l.shown os before)

  pub left_fault : {n1 n2 : List K} {a1 a2 : K → Option R} {d1 : D} {b1 : Body} {X : Type 0} {added : List (Offer K C V)} {fs : List Fault} {e : Fault} (rest : List Fault) → Left form eq rules moves names at d whole n1 a1 d1 b1 → faults eq rules moves d1 b1 ≡ fs ++ rest
      → Adds form eq {X = X} n1 a1 (Err e) n2 a2 added fs → Contains (Memory ∷ faults eq rules moves d whole) e
  left_fault {fs = fs} {e = e} rest l fs_are adds = subst (λ gs. Contains (Memory ∷ gs) e) (sym (l.blamed ∙ fs_are)) (Contains-append_left (Memory ∷ fs) rest e adds.fault)

module _ {K C V D : Type 0} (eq : K → K → Bool) (rules : Rules K C V D) (moves : Moves K C) (bodies : List Body) where
  pub entry-first : (place : Place) (d : D) (e : Entry) (es : List Entry) (rest : Body) → offers eq rules moves d (entries_body bodies place (e ∷ es) rest) ≡ entry_offers eq rules moves bodies place d e ++ offers eq rules moves (entry_next rules d e) (entries_body bodies place es rest)
  entry-first place d (Own stated) es rest = refl
  entry-first place d (Include mode links) es rest = refl

  entry-blamed : (place : Place) (d : D) (e : Entry) (es : List Entry) (rest : Body) → faults eq rules moves d (entries_body bodies place (e ∷ es) rest) ≡ entry_faults eq rules moves bodies place d e ++ faults eq rules moves (entry_next rules d e) (entries_body bodies place es rest)
  entry-blamed place d (Own stated) es rest = refl
  entry-blamed place d (Include mode links) es rest = refl

  -- at an index of a loop
  pub entry_at : (place : Place) (d : D) (xs : List Entry) (i : ℕ) (x : Entry) → i < length xs → x ≡ get_or xs i x → offers eq rules moves d (entries_body bodies place (drop i xs) End) ≡ entry_offers eq rules moves bodies place d x ++ offers eq rules moves (entry_next rules d x) (entries_body bodies place (drop (i + 1) xs) End)
  entry_at place d xs i x within is = ap (λ ys. offers eq rules moves d (entries_body bodies place ys End)) (drop_next xs i x within is) ∙ entry-first place d x (drop (i + 1) xs) End

  pub entry_blamed_at : (place : Place) (d : D) (xs : List Entry) (i : ℕ) (x : Entry) → i < length xs → x ≡ get_or xs i x → faults eq rules moves d (entries_body bodies place (drop i xs) End) ≡ entry_faults eq rules moves bodies place d x ++ faults eq rules moves (entry_next rules d x) (entries_body bodies place (drop (i + 1) xs) End)
  entry_blamed_at place d xs i x within is = ap (λ ys. faults eq rules moves d (entries_body bodies place ys End)) (drop_next xs i x within is) ∙ entry-blamed place d x (drop (i + 1) xs) End

  pub link_at : (xs : List Link) (i : ℕ) (x : Link) → i < length xs → x ≡ get_or xs i x → offers eq rules moves rules.start (links_body bodies (drop i xs)) ≡ moved moves x.group (gathered eq x.mode (offers_of eq rules moves (body_at bodies x.map))) ++ offers eq rules moves rules.start (links_body bodies (drop (i + 1) xs))
  link_at xs i x within is = ap (λ ys. offers eq rules moves rules.start (links_body bodies ys)) (drop_next xs i x within is)

  pub link_blamed_at : (xs : List Link) (i : ℕ) (x : Link) → i < length xs → x ≡ get_or xs i x → faults eq rules moves rules.start (links_body bodies (drop i xs)) ≡ faults_of eq rules moves (body_at bodies x.map) ++ faults eq rules moves rules.start (links_body bodies (drop (i + 1) xs))
  link_blamed_at xs i x within is = ap (λ ys. faults eq rules moves rules.start (links_body bodies ys)) (drop_next xs i x within is)

  -- a map's items, and what stands after them
  ended : D → List Entry → D
  ended d [] = d
  ended d (x ∷ xs) = ended (entry_next rules d x) xs

  entries-append : (place : Place) (d : D) (xs : List Entry) (rest : Body) → offers eq rules moves d (entries_body bodies place xs rest) ≡ offers eq rules moves d (entries_body bodies place xs End) ++ offers eq rules moves (ended d xs) rest
  unfolding ended
  entries-append place d [] rest = refl
  entries-append place d (x ∷ xs) rest =
      entry-first place d x xs rest ∙ ap (λ os. entry_offers eq rules moves bodies place d x ++ os) (entries-append place (entry_next rules d x) xs rest)
      ∙ sym (append_assoc (entry_offers eq rules moves bodies place d x) (offers eq rules moves (entry_next rules d x) (entries_body bodies place xs End)) (offers eq rules moves (ended (entry_next rules d x) xs) rest))
      ∙ ap (λ os. os ++ offers eq rules moves (ended (entry_next rules d x) xs) rest) (sym (entry-first place d x xs End))

  entries-blamed : (place : Place) (d : D) (xs : List Entry) (rest : Body) → faults eq rules moves d (entries_body bodies place xs rest) ≡ faults eq rules moves d (entries_body bodies place xs End) ++ faults eq rules moves (ended d xs) rest
  unfolding ended
  entries-blamed place d [] rest = refl
  entries-blamed place d (x ∷ xs) rest =
      entry-blamed place d x xs rest ∙ ap (λ os. entry_faults eq rules moves bodies place d x ++ os) (entries-blamed place (entry_next rules d x) xs rest)
      ∙ sym (append_assoc (entry_faults eq rules moves bodies place d x) (faults eq rules moves (entry_next rules d x) (entries_body bodies place xs End)) (faults eq rules moves (ended (entry_next rules d x) xs) rest))
      ∙ ap (λ os. os ++ faults eq rules moves (ended (entry_next rules d x) xs) rest) (sym (entry-blamed place d x xs End))

  -- where sections stand, the defaults before them don't count
  restart : (d : D) (ss : List Map) → offers eq rules moves d (shared_sections bodies ss) ≡ offers eq rules moves rules.start (shared_sections bodies ss)
  restart d [] = refl
  restart d (s ∷ ss) = refl

  restart-blamed : (d : D) (ss : List Map) → faults eq rules moves d (shared_sections bodies ss) ≡ faults eq rules moves rules.start (shared_sections bodies ss)
  restart-blamed d [] = refl
  restart-blamed d (s ∷ ss) = refl

  -- a section, and those after it
  pub section_at : (xs : List Map) (i : ℕ) (x : Map) → i < length xs → x ≡ get_or xs i x → offers eq rules moves rules.start (shared_sections bodies (drop i xs)) ≡ offers_of eq rules moves (shared_body bodies x End) ++ offers eq rules moves rules.start (shared_sections bodies (drop (i + 1) xs))
  section_at xs i x within is =
      ap (λ ys. offers eq rules moves rules.start (shared_sections bodies ys)) (drop_next xs i x within is)
      ∙ entries-append x.place rules.start x.entries.items (shared_sections bodies (drop (i + 1) xs))
      ∙ ap (λ os. offers_of eq rules moves (shared_body bodies x End) ++ os) (restart (ended rules.start x.entries.items) (drop (i + 1) xs))

  pub section_blamed_at : (xs : List Map) (i : ℕ) (x : Map) → i < length xs → x ≡ get_or xs i x → faults eq rules moves rules.start (shared_sections bodies (drop i xs)) ≡ faults_of eq rules moves (shared_body bodies x End) ++ faults eq rules moves rules.start (shared_sections bodies (drop (i + 1) xs))
  section_blamed_at xs i x within is =
      ap (λ ys. faults eq rules moves rules.start (shared_sections bodies ys)) (drop_next xs i x within is)
      ∙ entries-blamed x.place rules.start x.entries.items (shared_sections bodies (drop (i + 1) xs))
      ∙ ap (λ os. faults_of eq rules moves (shared_body bodies x End) ++ os) (restart-blamed (ended rules.start x.entries.items) (drop (i + 1) xs))

-- where no section is left
pub left_over : {K C V D R : Type 0} {form : Form R C V} {eq : K → K → Bool} {rules : Rules K C V D} {moves : Moves K C} {names now_names : List K} {at now_at : K → Option R} {d now_d : D} {whole : Body} (bodies : List Body) (i : ℕ) (xs : List Map) → length xs ≤ i
    → Left form eq rules moves names at d whole now_names now_at now_d (shared_sections bodies (drop i xs)) → Left form eq rules moves names at d whole now_names now_at now_d End
left_over {form = form} {eq = eq} {rules = rules} {moves = moves} {names = names} {now_names = now_names} {at = at} {now_at = now_at} {d = d} {now_d = now_d} {whole = whole} bodies i xs over l =
    subst (λ ys. Left form eq rules moves names at d whole now_names now_at now_d (shared_sections bodies ys)) (drop_all i xs over) l

-- maps that are done
module _ {K C V D R : Type 0} (form : Form R C V) (eq : K → K → Bool) (rules : Rules K C V D) (moves : Moves K C) where
  pub gathered_at : (rs : List (Result (Merged K R) Fault)) (bs : List Body) (n : ℕ) (r : Result (Merged K R) Fault) → AreGathered form eq rules moves rs bs → n < length rs → r ≡ get_or rs n r → IsGathered form eq rules moves r (body_at bs n)
  gathered_at [] bs n r are within at = absurd (omega (arith, within))
  gathered_at (x ∷ rs) [] n r are within at = elim are [ ]
  gathered_at (x ∷ rs) (b ∷ bs) zero r (more one rest) within at = subst (λ y. IsGathered form eq rules moves y b) (sym at) one
  gathered_at (x ∷ rs) (b ∷ bs) (suc n) r (more one rest) within at = gathered_at rs bs n r rest (omega (arith, within)) at

  pub gathered_past : (rs : List (Result (Merged K R) Fault)) (bs : List Body) (n : ℕ) → AreGathered form eq rules moves rs bs → length rs ≤ n → body_at bs n ≡ End
  gathered_past [] [] n are over = refl
  gathered_past [] (b ∷ bs) n are over = elim are [ ]
  gathered_past (x ∷ rs) [] n are over = elim are [ ]
  gathered_past (x ∷ rs) (b ∷ bs) zero (more one rest) over = absurd (omega (arith, over))
  gathered_past (x ∷ rs) (b ∷ bs) (suc n) (more one rest) over = gathered_past rs bs n rest (omega (arith, over))

  pub gathered_more : (rs : List (Result (Merged K R) Fault)) (bs : List Body) (r : Result (Merged K R) Fault) (b : Body) → AreGathered form eq rules moves rs bs → IsGathered form eq rules moves r b → AreGathered form eq rules moves (rs ++ r ∷ []) (bs ++ b ∷ [])
  gathered_more [] [] r b are one = more one none
  gathered_more [] (c ∷ bs) r b are one = elim are [ ]
  gathered_more (x ∷ rs) [] r b are one = elim are [ ]
  gathered_more (x ∷ rs) (c ∷ bs) r b (more first rest) one = more first (gathered_more rs bs r b rest one)

-- records into which nothing is merged, a fault, and what is left where only memory may be wanting
module _ {K C V R X : Type 0} {form : Form R C V} {eq : K → K → Bool} {n1 : List K} {a1 : K → Option R} {added : List (Offer K C V)} {blamed : List Fault} where
  pub adds_nothing : {x : X} → added ≡ [] → blamed ≡ [] → Adds form eq n1 a1 (Ok x) n1 a1 added blamed
  adds_nothing nothing faultless = record { shows = λ os shows. subst (Shows form eq n1 a1) (sym (append-nil os) ∙ ap (λ os2. os ++ os2) (sym nothing)) shows; faultless = faultless; fault = tt }

module _ {K C V R X : Type 0} {form : Form R C V} {eq : K → K → Bool} {n1 n2 : List K} {a1 a2 : K → Option R} {added : List (Offer K C V)} {blamed : List Fault} where
  pub adds_fault : {e : Fault} → Contains (Memory ∷ blamed) e → Adds form eq {X = X} n1 a1 (Err e) n2 a2 added blamed
  adds_fault has = record { shows = λ os shows. tt; faultless = tt; fault = has }

  pub adds_all : (r : Result X Fault) → ((os : List (Offer K C V)) → Shows form eq n1 a1 os → OnOk r (Shows form eq n2 a2 (os ++ added))) → IfErr r (λ e. e ≡ Memory) → blamed ≡ [] → Adds form eq n1 a1 r n2 a2 added blamed
  adds_all (Ok x) shows memory clean = record { shows = shows; faultless = clean; fault = tt }
  adds_all (Err e) shows memory clean = record { shows = shows; faultless = tt; fault = (0, omega arith, sym memory) }

  pub adds_passed : {e : Fault} (r : Result X Fault) → IsErrAnd r (λ y. y ≡ e) → Contains (Memory ∷ blamed) e → Adds form eq n1 a1 r n2 a2 added blamed
  adds_passed (Ok x) is has = absurd is
  adds_passed (Err y) is has = record { shows = λ os shows. tt; faultless = tt; fault = subst (Contains (Memory ∷ blamed)) (sym is) has }

pub adds_same : {K C V R X : Type 0} {form : Form R C V} {eq : K → K → Bool} {n1 n2 : List K} {a1 a2 : K → Option R} {r : Result X Fault} {added same_added : List (Offer K C V)} {blamed same_blamed : List Fault} → added ≡ same_added → blamed ≡ same_blamed → Adds form eq n1 a1 r n2 a2 added blamed → Adds form eq n1 a1 r n2 a2 same_added same_blamed
adds_same {form = form} {eq = eq} {n1 = n1} {n2 = n2} {a1 = a1} {a2 = a2} {r = r} {same_added = same_added} {blamed = blamed} e f adds = subst (λ fs. Adds form eq n1 a1 r n2 a2 same_added fs) f (subst (λ os. Adds form eq n1 a1 r n2 a2 os blamed) e adds)

-- a list of one element
pub only : {X : Type 0} (xs : List X) (d : X) → 1 ≤ length xs → length xs < 2 → xs ≡ get_or xs 0 d ∷ []
only [] d some few = absurd (omega (arith, some))
only (x ∷ []) d some few = refl
only (x ∷ y ∷ xs) d some few = absurd (omega (arith, few))

pub empty : {X : Type 0} (xs : List X) → true ≡ (length xs == 0) → xs ≡ []
empty [] e = refl
empty (x ∷ xs) e = let none = eqb-true (suc (length xs)) 0 (sym e) in absurd (omega (arith, none))

-- lists that are alike at each place
abbrev pub no_link : Link
no_link = record { mode = Augment; group = None; map = 0 }

pub alike : {X : Type 0} (xs ys : List X) (d : X) → length xs ≡ length ys → ((k : ℕ) → k < length xs → get_or xs k d ≡ get_or ys k d) → xs ≡ ys
alike [] [] d long each = refl
alike [] (y ∷ ys) d long each = absurd (omega (arith, long))
alike (x ∷ xs) [] d long each = absurd (omega (arith, long))
alike (x ∷ xs) (y ∷ ys) d long each =
    let head : x ≡ y = each 0 (omega arith) in
    let tail : xs ≡ ys = alike xs ys d (omega (arith, long)) (λ k within. each (suc k) (omega (arith, within))) in
    λ i. head i ∷ tail i

-- the next of the maps
pub behind_at : (bodies : List Body) (xs : List Map) (i : ℕ) (x : Map) → i < length xs → x ≡ get_or xs i x → bodies_behind bodies (drop i xs) ≡ bodies_behind (bodies ++ shared_body bodies x End ∷ []) (drop (i + 1) xs)
behind_at bodies xs i x within is = ap (bodies_behind bodies) (drop_next xs i x within is)

-- records of which there are none
pub shows_none : {K C V R S : Type 0} (form : Form R C V) (eq : K → K → Bool) (m : HashMap K R S) (os : List (Offer K C V)) → m.entries ≡ [] → os ≡ [] → Shows form eq (keys m) (get eq m) os
shows_none form eq m os empty nothing = subst (Shows form eq (keys m) (get eq m)) (sym nothing) (record {
  names_are = ap keys_of empty;
  cells_are = λ k c. ap (λ es. cell_in form (lookup (eq k) es) c) empty;
  widths_are = λ k g. ap (λ es. width_in form (lookup (eq k) es) g) empty;
})
