-- Going over the entries of a map, where an include may be passed over that stands before and after, too.
use Rattle.std.proofs.Common.{◌≡◌, ℕ, ◌+◌, ◌<◌, ◌≤◌, zero, suc, Bool, true, false, cond, List, [], ◌∷◌, ◌++◌, length, drop, get_or, Option, Some, is_some, Contains, Ok, Err, refl, sym, ap, ◌∙◌, subst, arith}
use Rattle.std.proofs.lemmas.Bool.{false≢true}
use Rattle.std.proofs.lemmas.List.{append-nil, append_assoc, drop_all}
use Rattle.std.proofs.lemmas.List.Elements.{Contains-append_left}
use Rattle.std.proofs.lemmas.Option.{same_Some}
use Rattle.std.specs.Cmp.{IsEquivalence}
use Rattle.std.specs.List.{list_any}
use Rattle.kx_lex.specs.declared.fault.Fault.{Fault}
use Rattle.kx_lex.specs.declared.fault.Fault.TheVariants.{Memory}
use Rattle.kx_include.specs.Expansion.{Body, End}
use Rattle.kx_include.specs.Shared.{entries_body, links_body}
use Rattle.kx_include.specs.declared.expansion.Entry.{Entry}
use Rattle.kx_include.specs.declared.expansion.Entry.TheVariants.{Own, Include}
use Rattle.kx_include.specs.declared.expansion.Link.{Link}
use Rattle.kx_include.specs.declared.place.Place.{Place}
use Rattle.kx_tree.specs.declared.tree.Mode.{Mode}
use Rattle.kx_tree.specs.declared.tree.Mode.TheVariants.{Augment, Override, Replace}
use Rattle.kx_merge.specs.Bodies.{Rules, Moves, gathered, offers, faults, offers_of}
use Rattle.kx_merge.specs.Gatherings.{AddsBehind, StandsBetween, StoodAt, included_at, included_by, entry_offers, entry_faults, entry_next}
use Rattle.kx_merge.specs.Joins.{included_faults, included_offers}
use Rattle.kx_merge.specs.Renewals.{AreGentleTo, TakesBack, TakesUp, keys_since}
use Rattle.kx_merge.specs.Offers.{Offer, is_replace, is_strong, names_behind, names_of, value_of, width_of}
use Rattle.kx_merge.specs.Records.{Form, Shows}
use Rattle.kx_merge.proofs.Behind.{entry-first, entry_at, entry_blamed_at}
use Rattle.kx_merge.proofs.Covering.{Covers, covers_more, covers_none, covers_self, covers_shown, gentle_gathered, gentle_to, weak_gathered}
use Rattle.kx_merge.proofs.Marks.{Marked, at-last, length-both, marked_next, marked_none, since_more, since_same}
use Rattle.kx_merge.proofs.Precedence.{names_behind-append}
use Rattle.kx_merge.proofs.Repeated.{names_passed, values_passed, widths_passed}

-- ---- Places of entries

included-here : (xs : List Entry) (i : ℕ) (e : Entry) → i < length xs → e ≡ get_or xs i e → included_at xs i ≡ Some (included_by e)
included-here [] i e within is = absurd (omega (arith, within))
included-here (x ∷ xs) zero e within is = ap (λ y. Some (included_by y)) (sym is)
included-here (x ∷ xs) (suc i) e within is = included-here xs i e (omega (arith, within)) is

included-behind : (j : ℕ) (xs : List Entry) (n : ℕ) → j ≤ n → (m : ℕ) × (included_at xs n ≡ included_at (drop j xs) m)
included-behind zero xs n le = (n, refl)
included-behind (suc j) [] n le = (n, refl)
included-behind (suc j) (x ∷ xs) zero le = absurd (omega (arith, le))
included-behind (suc j) (x ∷ xs) (suc n) le = included-behind j xs n (omega (arith, le))

-- ---- What includes offer

module _ {K C V D : Type 0} (eq : K → K → Bool) (rules : Rules K C V D) (moves : Moves K C) (bodies : List Body) (place : Place) where
  ends-with : (base : List (Offer K C V)) (d : D) (e : Entry) → (front : List (Offer K C V)) × (base ++ entry_offers eq rules moves bodies place d e ≡ front ++ included_offers eq rules moves bodies (included_by e))
  ends-with base d (Own stated) = (base ++ rules.offers d place stated.now, sym (append-nil (base ++ rules.offers d place stated.now)))
  ends-with base d (Include mode links) = (base, refl)

  clean-by : (d : D) (e : Entry) → entry_faults eq rules moves bodies place d e ≡ [] → included_faults eq rules moves bodies (included_by e) ≡ []
  clean-by d (Own stated) clean = refl
  clean-by d (Include mode links) clean = clean

  -- offers have these among them
  pub record Has (os xs : List (Offer K C V)) : Type 0 where
    pub before : List (Offer K C V)
    pub after : List (Offer K C V)
    pub is : os ≡ before ++ (xs ++ after)

  has-first : (d : D) (e : Entry) (rest : List (Offer K C V)) → Has (entry_offers eq rules moves bodies place d e ++ rest) (included_offers eq rules moves bodies (included_by e))
  has-first d (Own stated) rest = record { before = rules.offers d place stated.now; after = rest; is = refl }
  has-first d (Include mode links) rest = record { before = []; after = rest; is = refl }

  has-later : (d : D) (xs : List Entry) (n : ℕ) (x : Mode × List Link) → included_at xs n ≡ Some x → Has (offers eq rules moves d (entries_body bodies place xs End)) (included_offers eq rules moves bodies x)
  has-later d [] n x at = absurd (false≢true (ap is_some at))
  has-later d (e ∷ es) zero x at =
      subst (λ os. Has os (included_offers eq rules moves bodies x)) (sym (entry-first eq rules moves bodies place d e es End))
      (subst (λ y. Has (entry_offers eq rules moves bodies place d e ++ offers eq rules moves (entry_next rules d e) (entries_body bodies place es End)) (included_offers eq rules moves bodies y)) (same_Some (included_by e) x at)
      (has-first d e (offers eq rules moves (entry_next rules d e) (entries_body bodies place es End))))
  has-later d (e ∷ es) (suc n) x at =
      let first = entry_offers eq rules moves bodies place d e in
      let h = has-later (entry_next rules d e) es n x at in
      record {
        before = first ++ h.before;
        after = h.after;
        is = entry-first eq rules moves bodies place d e es End ∙ ap (λ os. first ++ os) h.is ∙ sym (append_assoc first h.before (included_offers eq rules moves bodies x ++ h.after));
      }

  -- an include whose offers are among some, and that has no fault
  pub record Past (all : List (Offer K C V)) (x : Mode × List Link) : Type 0 where
    pub has : Has all (included_offers eq rules moves bodies x)
    pub clean : included_faults eq rules moves bodies x ≡ []

  past-more : (all added : List (Offer K C V)) (x : Mode × List Link) → Past all x → Past (all ++ added) x
  past-more all added x p =
      let xs = included_offers eq rules moves bodies x in
      record {
        has = record { before = p.has.before; after = p.has.after ++ added; is = ap (λ os. os ++ added) p.has.is ∙ append_assoc p.has.before (xs ++ p.has.after) added ∙ ap (λ os. p.has.before ++ os) (append_assoc xs p.has.after added) };
        clean = p.clean;
      }

  past-last : (all : List (Offer K C V)) (d : D) (e : Entry) → entry_faults eq rules moves bodies place d e ≡ [] → Past (all ++ entry_offers eq rules moves bodies place d e) (included_by e)
  past-last all d e clean =
      let xs = included_offers eq rules moves bodies (included_by e) in
      let h = ends-with all d e in
      record { has = record { before = h.0; after = []; is = h.1 ∙ ap (λ os. h.0 ++ os) (sym (append-nil xs)) }; clean = clean-by d e clean }

-- ---- Going over entries

module _ {K C V D R : Type 0} (form : Form R C V) (eq : K → K → Bool) (rules : Rules K C V D) (moves : Moves K C) (bodies : List Body) (place : Place) (xs : List Entry) where
  abbrev pub whole : List (Offer K C V)
  whole = offers eq rules moves rules.start (entries_body bodies place xs End)

  abbrev pub ahead : D → ℕ → List (Offer K C V)
  ahead d i = offers eq rules moves d (entries_body bodies place (drop i xs) End)

  -- the entries before a place offer `all`, of which `kept` was merged; that ends with what the last include offers
  pub record Going (names : List K) (at : K → Option R) (last : Mode × List Link) (i : ℕ) (d : D) (now_names : List K) (now_at : K → Option R) : Type 0 where
    pub kept : List (Offer K C V)
    pub all : List (Offer K C V)
    pub shown : (os : List (Offer K C V)) → Shows form eq names at os → Shows form eq now_names now_at (os ++ kept)
    pub offered : whole ≡ all ++ ahead d i
    pub blamed : faults eq rules moves rules.start (entries_body bodies place xs End) ≡ faults eq rules moves d (entries_body bodies place (drop i xs) End)
    pub names_same : (os : List (Offer K C V)) → names_of eq (os ++ kept) ≡ names_of eq (os ++ all)
    pub values_same : (os : List (Offer K C V)) (k : K) (c : C) → value_of eq (os ++ (kept ++ ahead d i)) k c ≡ value_of eq (os ++ whole) k c
    pub widths_same : (os : List (Offer K C V)) (k : K) (g : ℕ) → width_of eq (os ++ (kept ++ ahead d i)) k g ≡ width_of eq (os ++ whole) k g
    pub front : List (Offer K C V)
    pub ends : kept ≡ front ++ included_offers eq rules moves bodies last
    pub clean : included_faults eq rules moves bodies last ≡ []
    pub past : (n : ℕ) (x : Mode × List Link) → n < i → included_at xs n ≡ Some x → Past eq rules moves bodies place all x

  pub going_first : (names : List K) (at : K → Option R) → Going names at (Augment, []) 0 rules.start names at
  going_first names at = record {
    kept = [];
    all = [];
    shown = λ os shows. subst (Shows form eq names at) (sym (append-nil os)) shows;
    offered = refl;
    blamed = refl;
    names_same = λ os. refl;
    values_same = λ os k c. refl;
    widths_same = λ os k g. refl;
    front = [];
    ends = refl;
    clean = refl;
    past = λ n x within here. absurd (omega (arith, within));
  }

  past-next : (all : List (Offer K C V)) (i : ℕ) (d : D) (e : Entry) → i < length xs → e ≡ get_or xs i e → entry_faults eq rules moves bodies place d e ≡ [] → ((n : ℕ) (x : Mode × List Link) → n < i → included_at xs n ≡ Some x → Past eq rules moves bodies place all x)
      → (n : ℕ) (x : Mode × List Link) → n < i + 1 → included_at xs n ≡ Some x → Past eq rules moves bodies place (all ++ entry_offers eq rules moves bodies place d e) x
  past-next all i d e within is clean past n x less here =
      let added = entry_offers eq rules moves bodies place d e in
      at-last n i less (λ before. past-more eq rules moves bodies place all added x (past n x before here))
      (λ now. subst (Past eq rules moves bodies place (all ++ added)) (same_Some (included_by e) x (sym (included-here xs i e within is) ∙ ap (included_at xs) (sym now) ∙ here)) (past-last eq rules moves bodies place all d e clean))

  module _ {names : List K} {at : K → Option R} {last : Mode × List Link} {i : ℕ} {d : D} {n1 : List K} {a1 : K → Option R} where
    -- an entry is merged
    pub going_on : {X : Type 0} {x : X} {n2 : List K} {a2 : K → Option R} (e : Entry) → Going names at last i d n1 a1 → i < length xs → e ≡ get_or xs i e
        → AddsBehind form eq (included_offers eq rules moves bodies last) n1 a1 (Ok x) n2 a2 (entry_offers eq rules moves bodies place d e) (entry_faults eq rules moves bodies place d e)
        → Going names at (included_by e) (i + 1) (entry_next rules d e) n2 a2
    going_on {n2 = n2} {a2 = a2} e l within is adds = record {
      kept = l.kept ++ added;
      all = l.all ++ added;
      shown = shown;
      offered = l.offered ∙ ap (λ os. l.all ++ os) os_are ∙ sym (append_assoc l.all added next);
      blamed = l.blamed ∙ entry_blamed_at eq rules moves bodies place d xs i e within is ∙ ap (λ fs. fs ++ faults eq rules moves (entry_next rules d e) (entries_body bodies place (drop (i + 1) xs) End)) adds.faultless;
      names_same = λ os. ap (names_of eq) (sym (append_assoc os l.kept added)) ∙ names_behind-append eq [] (os ++ l.kept) added ∙ ap (λ ks. names_behind eq ks added) (l.names_same os) ∙ sym (names_behind-append eq [] (os ++ l.all) added) ∙ ap (names_of eq) (append_assoc os l.all added);
      values_same = λ os k c. ap (λ ys. value_of eq (os ++ ys) k c) more ∙ l.values_same os k c;
      widths_same = λ os k g. ap (λ ys. width_of eq (os ++ ys) k g) more ∙ l.widths_same os k g;
      front = (ends-with eq rules moves bodies place l.kept d e).0;
      ends = (ends-with eq rules moves bodies place l.kept d e).1;
      clean = clean-by eq rules moves bodies place d e adds.faultless;
      past = past-next l.all i d e within is adds.faultless l.past;
    }
      where
        added : List (Offer K C V)
        added = entry_offers eq rules moves bodies place d e

        next : List (Offer K C V)
        next = ahead (entry_next rules d e) (i + 1)

        os_are : ahead d i ≡ added ++ next
        os_are = entry_at eq rules moves bodies place d xs i e within is

        more : (l.kept ++ added) ++ next ≡ l.kept ++ ahead d i
        more = append_assoc l.kept added next ∙ ap (λ os. l.kept ++ os) (sym os_are)

        kept-is : (os : List (Offer K C V)) → os ++ l.kept ≡ (os ++ l.front) ++ included_offers eq rules moves bodies last
        kept-is os = ap (λ b. os ++ b) l.ends ∙ sym (append_assoc os l.front (included_offers eq rules moves bodies last))

        shown : (os : List (Offer K C V)) → Shows form eq names at os → Shows form eq n2 a2 (os ++ (l.kept ++ added))
        shown os before = subst (Shows form eq n2 a2) (ap (λ b. b ++ added) (sym (kept-is os)) ∙ append_assoc os l.kept added) (adds.shows (os ++ l.front) (subst (Shows form eq n1 a1) (kept-is os) (l.shown os before)))

    -- an include is passed over that stands before and after, too
    pub going_past : (laws : IsEquivalence eq) (same : (j k : K) → eq j k ≡ true → j ≡ k) (e : Entry) → Going names at last i d n1 a1 → i < length xs → e ≡ get_or xs i e → StandsBetween xs i (included_by e) → Going names at last (i + 1) d n1 a1
    going_past laws same (Own stated) l within is stands = absurd (false≢true stands.strong)
    going_past laws same (Include mode links) l within is stands = record {
      kept = l.kept;
      all = l.all ++ added;
      shown = l.shown;
      offered = l.offered ∙ ap (λ os. l.all ++ os) os_are ∙ sym (append_assoc l.all added next);
      blamed = l.blamed ∙ entry_blamed_at eq rules moves bodies place d xs i (Include mode links) within is ∙ ap (λ fs. fs ++ faults eq rules moves d (entries_body bodies place (drop (i + 1) xs) End)) earlier.clean;
      names_same = λ os. l.names_same os ∙ ap (λ ys. names_of eq (os ++ ys)) earlier.has.is ∙ sym (names_passed eq laws os earlier.has.before added earlier.has.after) ∙ ap (λ ys. names_of eq (os ++ (ys ++ added))) (sym earlier.has.is);
      values_same = λ os k c.
          ap (λ ys. value_of eq ys k c) (less os) ∙ sym (values_passed eq laws same mode stands.strong (offers_of eq rules moves (links_body bodies links.items)) k c (os ++ l.kept) later.before later.after)
          ∙ ap (λ ys. value_of eq ys k c) (more os) ∙ l.values_same os k c;
      widths_same = λ os k g.
          ap (λ ys. width_of eq ys k g) (less os) ∙ sym (widths_passed eq laws same mode stands.strong (offers_of eq rules moves (links_body bodies links.items)) k g (os ++ l.kept) later.before later.after)
          ∙ ap (λ ys. width_of eq ys k g) (more os) ∙ l.widths_same os k g;
      front = l.front;
      ends = l.ends;
      clean = l.clean;
      past = past-next l.all i d (Include mode links) within is earlier.clean l.past;
    }
      where
        added : List (Offer K C V)
        added = included_offers eq rules moves bodies (mode, links.items)

        next : List (Offer K C V)
        next = ahead d (i + 1)

        os_are : ahead d i ≡ added ++ next
        os_are = entry_at eq rules moves bodies place d xs i (Include mode links) within is

        earlier : Past eq rules moves bodies place l.all (mode, links.items)
        earlier = l.past stands.first (mode, links.items) stands.before stands.first_is

        found : (m : ℕ) × (included_at xs stands.last ≡ included_at (drop (i + 1) xs) m)
        found = included-behind (i + 1) xs stands.last (omega (arith, stands.behind))

        later : Has eq rules moves bodies place next added
        later = has-later eq rules moves bodies place d (drop (i + 1) xs) found.0 (mode, links.items) (sym found.1 ∙ stands.last_is)

        less : (os : List (Offer K C V)) → os ++ (l.kept ++ next) ≡ (os ++ l.kept) ++ (later.before ++ (added ++ later.after))
        less os = sym (append_assoc os l.kept next) ∙ ap (λ ys. (os ++ l.kept) ++ ys) later.is

        more : (os : List (Offer K C V)) → (os ++ l.kept) ++ (added ++ (later.before ++ (added ++ later.after))) ≡ os ++ (l.kept ++ ahead d i)
        more os = ap (λ ys. (os ++ l.kept) ++ (added ++ ys)) (sym later.is) ∙ append_assoc os l.kept (added ++ next) ∙ ap (λ ys. os ++ (l.kept ++ ys)) (sym os_are)

    -- where no entry is left
    pub going_shown : Going names at last i d n1 a1 → length xs ≤ i → (os : List (Offer K C V)) → Shows form eq names at os → Shows form eq n1 a1 (os ++ whole)
    going_shown l over os before = record {
      names_are = (l.shown os before).names_are ∙ l.names_same os ∙ ap (λ ys. names_of eq (os ++ ys)) (sym (l.offered ∙ ap (λ ys. l.all ++ ys) none_left ∙ append-nil l.all));
      cells_are = λ k c. (l.shown os before).cells_are k c ∙ ap (λ ys. value_of eq (os ++ ys) k c) all-kept ∙ l.values_same os k c;
      widths_are = λ k g. (l.shown os before).widths_are k g ∙ ap (λ ys. width_of eq (os ++ ys) k g) all-kept ∙ l.widths_same os k g;
    }
      where
        none_left : ahead d i ≡ []
        none_left = ap (λ ys. offers eq rules moves d (entries_body bodies place ys End)) (drop_all i xs over)

        all-kept : l.kept ≡ l.kept ++ ahead d i
        all-kept = sym (ap (λ ys. l.kept ++ ys) none_left ∙ append-nil l.kept)

    pub going_clean : Going names at last i d n1 a1 → length xs ≤ i → faults eq rules moves rules.start (entries_body bodies place xs End) ≡ []
    going_clean l over = l.blamed ∙ ap (λ ys. faults eq rules moves d (entries_body bodies place ys End)) (drop_all i xs over)

    pub going_fault : {X : Type 0} {n2 : List K} {a2 : K → Option R} {f : Fault} (e : Entry) → Going names at last i d n1 a1 → i < length xs → e ≡ get_or xs i e
        → AddsBehind form eq {X = X} (included_offers eq rules moves bodies last) n1 a1 (Err f) n2 a2 (entry_offers eq rules moves bodies place d e) (entry_faults eq rules moves bodies place d e)
        → Contains (Memory ∷ faults eq rules moves rules.start (entries_body bodies place xs End)) f
    going_fault {f = f} e l within is adds =
        subst (λ fs. Contains (Memory ∷ fs) f) (sym (l.blamed ∙ entry_blamed_at eq rules moves bodies place d xs i e within is))
        (Contains-append_left (Memory ∷ entry_faults eq rules moves bodies place d e) (faults eq rules moves (entry_next rules d e) (entries_body bodies place (drop (i + 1) xs) End)) f adds.fault)

-- ---- Where what was merged covers includes under augment

module _ {K C V D R : Type 0} (form : Form R C V) (eq : K → K → Bool) (laws : IsEquivalence eq) (rules : Rules K C V D) (moves : Moves K C) (bodies : List Body) (place : Place) (xs : List Entry) where
  abbrev pub Reaches : List K → (K → Option R) → Mode × List Link → ℕ → D → List K → (K → Option R) → Type 0
  Reaches = Going form eq rules moves bodies place xs

  abbrev pub offers_by : Mode × List Link → List (Offer K C V)
  offers_by = included_offers eq rules moves bodies

  -- the same, and each include under augment from another place on gives nothing more, but to records that were given anew after it
  pub record Covering (names : List K) (at : K → Option R) (last : Mode × List Link) (since : ℕ) (marks : List ℕ) (noted : List K) (i : ℕ) (d : D) (now_names : List K) (now_at : K → Option R) : Type 0 where
    pub going : Reaches names at last i d now_names now_at
    pub marked : Marked marks (length noted) i
    pub covers : (n : ℕ) (x : Mode × List Link) → since ≤ n → n < i → included_at xs n ≡ Some x → is_strong x.0 ≡ false → Covers eq laws (keys_since marks noted n) going.kept (offers_by x)

  pub covering_first : (names : List K) (at : K → Option R) → Covering names at (Augment, []) 0 [] [] 0 rules.start names at
  covering_first names at = record { going = going_first form eq rules moves bodies place xs names at; marked = marked_none 0; covers = λ n x from before is weak. absurd (omega (arith, before)) }

  -- what an entry that was merged covers
  covered-entry : (keys : List K) (kept : List (Offer K C V)) (d : D) (e : Entry) → is_strong (included_by e).0 ≡ false → Covers eq laws keys (kept ++ entry_offers eq rules moves bodies place d e) (offers_by (included_by e))
  covered-entry keys kept d (Own stated) weak = covers_none eq laws keys (kept ++ rules.offers d place stated.now)
  covered-entry keys kept d (Include mode links) weak = covers_self eq laws keys kept (offers_by (mode, links.items)) (weak_gathered eq mode (offers_of eq rules moves (links_body bodies links.items)) weak)

  module _ (kept : List (Offer K C V)) (since : ℕ) (marks : List ℕ) (noted keys : List K) (i : ℕ) (d : D) (e : Entry) (within : i < length xs) (is : e ≡ get_or xs i e) (marked : Marked marks (length noted) i)
      (covers : (n : ℕ) (x : Mode × List Link) → since ≤ n → n < i → included_at xs n ≡ Some x → is_strong x.0 ≡ false → Covers eq laws (keys_since marks noted n) kept (offers_by x)) where
    covered-next : (b : Bool) → is_replace (included_by e).0 ≡ b → (is_replace (included_by e).0 ≡ false → (k : K) → list_any (eq k) keys ≡ false → AreGentleTo eq k (entry_offers eq rules moves bodies place d e))
        → (n : ℕ) (x : Mode × List Link) → cond b (i + 1) since ≤ n → n < i + 1 → included_at xs n ≡ Some x → is_strong x.0 ≡ false → Covers eq laws (keys_since (marks ++ length (noted ++ keys) ∷ []) (noted ++ keys) n) (kept ++ entry_offers eq rules moves bodies place d e) (offers_by x)
    covered-next true replaces gentle n x from before at weak = absurd (omega (arith, from, before))
    covered-next false gently gentle n x from before at weak =
        let added = entry_offers eq rules moves bodies place d e in
        let since_now = keys_since (marks ++ length (noted ++ keys) ∷ []) (noted ++ keys) n in
        at-last n i before
        (λ earlier.
        subst (λ js. Covers eq laws js (kept ++ added) (offers_by x)) (sym (since_more (length (noted ++ keys)) n noted keys refl earlier marked))
        (covers_more eq laws (keys_since marks noted n) keys kept added (offers_by x) (gentle gently) (covers n x from earlier at weak)))
        (λ here.
        let same : included_by e ≡ x = same_Some (included_by e) x (sym (included-here xs i e within is) ∙ ap (included_at xs) (sym here) ∙ at) in
        subst (λ y. Covers eq laws since_now (kept ++ added) (offers_by y)) same (covered-entry since_now kept d e (ap (λ y. is_strong y.0) same ∙ weak)))

  passed : {names : List K} {at : K → Option R} {last : Mode × List Link} {i : ℕ} {d : D} {n1 : List K} {a1 : K → Option R} (same : (j k : K) → eq j k ≡ true → j ≡ k) (e : Entry) (l : Reaches names at last i d n1 a1) → i < length xs → e ≡ get_or xs i e → StandsBetween xs i (included_by e) → (r : Reaches names at last (i + 1) d n1 a1) × (r.kept ≡ l.kept)
  unfolding going_past
  passed same (Own stated) l within is stands = absurd (false≢true stands.strong)
  passed same (Include mode links) l within is stands = (going_past form eq rules moves bodies place xs laws same (Include mode links) l within is stands, refl)

  augment-is : (m : Mode) → is_strong m ≡ false → Augment ≡ m
  augment-is Augment weak = refl
  augment-is Override weak = absurd (false≢true (sym weak))
  augment-is Replace weak = absurd (false≢true (sym weak))

  module _ {names : List K} {at : K → Option R} {last : Mode × List Link} {since : ℕ} {marks : List ℕ} {noted : List K} {i : ℕ} {d : D} {n1 : List K} {a1 : K → Option R} where
    -- an entry is merged
    pub covering_on : {X : Type 0} {x : X} {n2 : List K} {a2 : K → Option R} {new_noted : List K} (e : Entry) → Covering names at last since marks noted i d n1 a1 → i < length xs → e ≡ get_or xs i e
        → TakesBack eq (is_replace (included_by e).0) noted new_noted (entry_offers eq rules moves bodies place d e)
        → AddsBehind form eq (offers_by last) n1 a1 (Ok x) n2 a2 (entry_offers eq rules moves bodies place d e) (entry_faults eq rules moves bodies place d e)
        → Covering names at (included_by e) (cond (is_replace (included_by e).0) (i + 1) since) (marks ++ length new_noted ∷ []) new_noted (i + 1) (entry_next rules d e) n2 a2
    unfolding going_on
    covering_on {n2 = n2} {a2 = a2} e l within is back adds =
        subst (λ ks. Covering names at (included_by e) (cond (is_replace (included_by e).0) (i + 1) since) (marks ++ length ks ∷ []) ks (i + 1) (entry_next rules d e) n2 a2) (sym back.noted)
        (record {
          going = going_on form eq rules moves bodies place xs e l.going within is adds;
          marked = marked_next (length (noted ++ back.keys)) (length-both noted back.keys) l.marked;
          covers = covered-next l.going.kept since marks noted back.keys i d e within is l.marked l.covers (is_replace (included_by e).0) refl back.gentle;
        })

    -- an include is passed over that stands before and after, too
    pub covering_past : (same : (j k : K) → eq j k ≡ true → j ≡ k) (e : Entry) → Covering names at last since marks noted i d n1 a1 → i < length xs → e ≡ get_or xs i e → StandsBetween xs i (included_by e)
        → Covering names at last (cond (is_replace (included_by e).0) (i + 1) since) (marks ++ length noted ∷ []) noted (i + 1) d n1 a1
    covering_past same e l within is stands = record {
      going = past.0;
      marked = marked_next (length noted) (omega arith) l.marked;
      covers = subst (λ ks. (n : ℕ) (x : Mode × List Link) → cond (is_replace (included_by e).0) (i + 1) since ≤ n → n < i + 1 → included_at xs n ≡ Some x → is_strong x.0 ≡ false → Covers eq laws (keys_since (marks ++ length noted ∷ []) noted n) ks (offers_by x)) (sym past.1) (by (is_replace (included_by e).0));
    }
      where
        past : (r : Reaches names at last (i + 1) d n1 a1) × (r.kept ≡ l.going.kept)
        past = passed same e l.going within is stands

        by : (b : Bool) (n : ℕ) (x : Mode × List Link) → cond b (i + 1) since ≤ n → n < i + 1 → included_at xs n ≡ Some x → is_strong x.0 ≡ false → Covers eq laws (keys_since (marks ++ length noted ∷ []) noted n) l.going.kept (offers_by x)
        by true n x from before at weak = absurd (omega (arith, from, before))
        by false n x from before at weak =
            at-last n i before
            (λ earlier. subst (λ js. Covers eq laws js l.going.kept (offers_by x)) (sym (since_same (length noted) n noted earlier l.marked)) (l.covers n x from earlier at weak))
            (λ here. absurd (false≢true (sym weak ∙ ap (λ y. is_strong y.0) (same_Some x (included_by e) (sym at ∙ ap (included_at xs) here ∙ included-here xs i e within is)) ∙ stands.strong)))

    -- of an include under augment that stands before, too, only the records are gone over that were given anew after it
    pub covering_again : {n2 : List K} {a2 : K → Option R} (before : ℕ) (e : Entry) → Covering names at last since marks noted i d n1 a1 → i < length xs → e ≡ get_or xs i e → StoodAt xs since i before (included_by e)
        → TakesUp form eq (keys_since marks noted before) n1 a1 n2 a2 (gathered eq Augment (offers_of eq rules moves (links_body bodies (included_by e).1)))
        → Covering names at (included_by e) (cond (is_replace (included_by e).0) (i + 1) since) (marks ++ length noted ∷ []) noted (i + 1) d n2 a2
    covering_again before (Own stated) l within is stood takes = absurd (omega (arith, stood.some))
    covering_again {n2 = n2} {a2 = a2} before (Include mode links) l within is stood takes = record {
      going = record {
        kept = k.kept ++ added;
        all = k.all ++ added;
        shown = λ os first. covers_shown eq laws form (keys_since marks noted before) n2 a2 os k.kept added up.picked (weak_gathered eq mode (offers_of eq rules moves (links_body bodies links.items)) stood.weak) found up.picks (up.shows (os ++ k.kept) (k.shown os first));
        offered = k.offered ∙ ap (λ os. k.all ++ os) os_are ∙ sym (append_assoc k.all added next);
        blamed = k.blamed ∙ entry_blamed_at eq rules moves bodies place d xs i (Include mode links) within is ∙ ap (λ fs. fs ++ faults eq rules moves d (entries_body bodies place (drop (i + 1) xs) End)) earlier.clean;
        names_same = λ os. ap (names_of eq) (sym (append_assoc os k.kept added)) ∙ names_behind-append eq [] (os ++ k.kept) added ∙ ap (λ ks. names_behind eq ks added) (k.names_same os) ∙ sym (names_behind-append eq [] (os ++ k.all) added) ∙ ap (names_of eq) (append_assoc os k.all added);
        values_same = λ os j c. ap (λ ys. value_of eq (os ++ ys) j c) rest ∙ k.values_same os j c;
        widths_same = λ os j g. ap (λ ys. width_of eq (os ++ ys) j g) rest ∙ k.widths_same os j g;
        front = k.kept;
        ends = refl;
        clean = earlier.clean;
        past = past-next form eq rules moves bodies place xs k.all i d (Include mode links) within is earlier.clean k.past;
      };
      marked = marked_next (length noted) (omega arith) l.marked;
      covers = subst (λ ks. (n : ℕ) (x : Mode × List Link) → cond (is_replace mode) (i + 1) since ≤ n → n < i + 1 → included_at xs n ≡ Some x → is_strong x.0 ≡ false → Covers eq laws (keys_since (marks ++ length ks ∷ []) ks n) (k.kept ++ added) (offers_by x)) (append-nil noted)
          (covered-next k.kept since marks noted [] i d (Include mode links) within is l.marked l.covers (is_replace mode) refl (λ gentle j away. gentle_to eq j added (gentle_gathered eq mode (offers_of eq rules moves (links_body bodies links.items)) gentle)));
    }
      where
        k : Reaches names at last i d n1 a1
        k = l.going

        added : List (Offer K C V)
        added = offers_by (mode, links.items)

        up : TakesUp form eq (keys_since marks noted before) n1 a1 n2 a2 added
        up = subst (λ m. TakesUp form eq (keys_since marks noted before) n1 a1 n2 a2 (gathered eq m (offers_of eq rules moves (links_body bodies links.items)))) (augment-is mode stood.weak) takes

        next : List (Offer K C V)
        next = offers eq rules moves d (entries_body bodies place (drop (i + 1) xs) End)

        os_are : offers eq rules moves d (entries_body bodies place (drop i xs) End) ≡ added ++ next
        os_are = entry_at eq rules moves bodies place d xs i (Include mode links) within is

        rest : (k.kept ++ added) ++ next ≡ k.kept ++ offers eq rules moves d (entries_body bodies place (drop i xs) End)
        rest = append_assoc k.kept added next ∙ ap (λ os. k.kept ++ os) (sym os_are)

        found : Covers eq laws (keys_since marks noted before) k.kept added
        found = l.covers before (mode, links.items) stood.from stood.before stood.is stood.weak

        earlier : Past eq rules moves bodies place k.all (mode, links.items)
        earlier = k.past before (mode, links.items) stood.before stood.is
