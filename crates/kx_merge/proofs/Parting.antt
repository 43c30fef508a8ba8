-- Going over the parts of an include's text, where one under augment may be passed over that stands before, too.
use Rattle.std.proofs.Common.{◌≡◌, ℕ, ◌+◌, ◌<◌, ◌≤◌, zero, suc, Bool, true, false, cond, List, [], ◌∷◌, ◌++◌, length, drop, get_or, slice_get, Option, Some, Ok, refl, sym, ap, ◌∙◌, subst, arith}
use Rattle.std.proofs.lemmas.Option.{same_Some}
use Rattle.std.specs.Cmp.{IsEquivalence}
use Rattle.std.proofs.lemmas.List.{append-nil, append_assoc}
use Rattle.kx_lex.specs.declared.fault.Fault.{Fault}
use Rattle.kx_include.specs.Expansion.{Body}
use Rattle.kx_include.specs.Shared.{body_at, links_body}
use Rattle.kx_include.specs.declared.expansion.Link.{Link}
use Rattle.kx_merge.specs.Bodies.{Rules, Moves, moved, gathered, offers, faults, offers_of, faults_of}
use Rattle.kx_merge.specs.Gatherings.{Adds, PartStandsSince}
use Rattle.kx_merge.specs.Renewals.{AreGentle, AreWeak}
use Rattle.kx_merge.specs.Offers.{Offer, is_replace, is_strong}
use Rattle.kx_merge.specs.Records.{Form, Shows}
use Rattle.kx_merge.proofs.Behind.{Left, left_all, left_step, link_at, link_blamed_at}
use Rattle.kx_merge.proofs.Covering.{Covers, covers_more, covers_self, covers_shown, gentle_gathered, gentle_moved, gentle_to, picks_none, weak_gathered, weak_moved}
use Rattle.kx_merge.proofs.Marks.{at-last}

got : {X : Type 0} (xs : List X) (i : ℕ) (x : X) → i < length xs → x ≡ get_or xs i x → slice_get xs i ≡ Some x
got [] i x within is = absurd (omega (arith, within))
got (y ∷ xs) zero x within is = ap Some (sym is)
got (y ∷ xs) (suc i) x within is = got xs i x (omega (arith, within)) is

module _ {K C V D R : Type 0} (form : Form R C V) (eq : K → K → Bool) (laws : IsEquivalence eq) (rules : Rules K C V D) (moves : Moves K C) (bodies : List Body) (xs : List Link) where
  abbrev pub link_offers : Link → List (Offer K C V)
  link_offers x = moved moves x.group (gathered eq x.mode (offers_of eq rules moves (body_at bodies x.map)))

  abbrev pub link_faults : Link → List Fault
  link_faults x = faults_of eq rules moves (body_at bodies x.map)

  -- the parts before a place are in the records, and cover each of those under augment from another place on
  pub record Parted (names : List K) (at : K → Option R) (since i : ℕ) (now_names : List K) (now_at : K → Option R) : Type 0 where
    pub left : Left form eq rules moves names at rules.start (links_body bodies xs) now_names now_at rules.start (links_body bodies (drop i xs))
    pub covers : (n : ℕ) (x : Link) → since ≤ n → n < i → slice_get xs n ≡ Some x → is_strong x.mode ≡ false → Covers eq laws [] left.behind (link_offers x) × (link_faults x ≡ [])

  pub parted_first : (names : List K) (at : K → Option R) → Parted names at 0 0 names at
  parted_first names at = record { left = left_all form eq rules moves names at rules.start (links_body bodies xs); covers = λ n x from before is weak. absurd (omega (arith, before)) }

  weak-part : (x : Link) → is_strong x.mode ≡ false → AreWeak (link_offers x)
  weak-part x weak = weak_moved moves x.group (gathered eq x.mode (offers_of eq rules moves (body_at bodies x.map))) (weak_gathered eq x.mode (offers_of eq rules moves (body_at bodies x.map)) weak)

  gentle-part : (x : Link) → is_replace x.mode ≡ false → AreGentle (link_offers x)
  gentle-part x gentle = gentle_moved moves x.group (gathered eq x.mode (offers_of eq rules moves (body_at bodies x.map))) (gentle_gathered eq x.mode (offers_of eq rules moves (body_at bodies x.map)) gentle)

  -- what one part more covers
  covered-next : (kept : List (Offer K C V)) (since i : ℕ) (x : Link) → i < length xs → x ≡ get_or xs i x → link_faults x ≡ []
      → ((n : ℕ) (y : Link) → since ≤ n → n < i → slice_get xs n ≡ Some y → is_strong y.mode ≡ false → Covers eq laws [] kept (link_offers y) × (link_faults y ≡ []))
      → (b : Bool) → is_replace x.mode ≡ b
      → (n : ℕ) (y : Link) → cond b (i + 1) since ≤ n → n < i + 1 → slice_get xs n ≡ Some y → is_strong y.mode ≡ false → Covers eq laws [] (kept ++ link_offers x) (link_offers y) × (link_faults y ≡ [])
  covered-next kept since i x within is clean covers true replaces n y from before at weak = absurd (omega (arith, from, before))
  covered-next kept since i x within is clean covers false gentle n y from before at weak =
      at-last n i before
      (λ earlier. let c = covers n y from earlier at weak in (covers_more eq laws [] [] kept (link_offers x) (link_offers y) (λ k away. gentle_to eq k (link_offers x) (gentle-part x gentle)) c.0, c.1))
      (λ here.
      let same : x ≡ y = same_Some x y (sym (got xs i x within is) ∙ ap (slice_get xs) (sym here) ∙ at) in
      subst (λ z. Covers eq laws [] (kept ++ link_offers x) (link_offers z) × (link_faults z ≡ [])) same (covers_self eq laws [] kept (link_offers x) (weak-part x (ap (λ z. is_strong z.mode) same ∙ weak)), clean))

  module _ {names : List K} {at : K → Option R} {since i : ℕ} {n1 : List K} {a1 : K → Option R} where
    -- a part is merged
    pub parted_on : {X : Type 0} {u : X} {n2 : List K} {a2 : K → Option R} (x : Link) → Parted names at since i n1 a1 → i < length xs → x ≡ get_or xs i x → Adds form eq n1 a1 (Ok u) n2 a2 (link_offers x) (link_faults x) → Parted names at (cond (is_replace x.mode) (i + 1) since) (i + 1) n2 a2
    unfolding left_step
    parted_on x p within is adds = record {
      left = left_step rules.start (links_body bodies (drop (i + 1) xs)) p.left (link_at eq rules moves bodies xs i x within is) (link_blamed_at eq rules moves bodies xs i x within is) adds;
      covers = covered-next p.left.behind since i x within is adds.faultless p.covers (is_replace x.mode) refl;
    }

    -- a part under augment is passed over
    pub parted_past : (x : Link) → Parted names at since i n1 a1 → i < length xs → x ≡ get_or xs i x → PartStandsSince xs since i x → Parted names at (cond (is_replace x.mode) (i + 1) since) (i + 1) n1 a1
    parted_past x p within is stands = record {
      left = record {
        behind = p.left.behind ++ link_offers x;
        shown = λ os before. covers_shown eq laws form [] n1 a1 os p.left.behind (link_offers x) [] (weak-part x stands.weak) found.0 (picks_none eq laws (link_offers x)) (subst (Shows form eq n1 a1) (sym (append-nil (os ++ p.left.behind))) (p.left.shown os before));
        offered = p.left.offered ∙ ap (λ rest. p.left.behind ++ rest) (link_at eq rules moves bodies xs i x within is) ∙ sym (append_assoc p.left.behind (link_offers x) (offers eq rules moves rules.start (links_body bodies (drop (i + 1) xs))));
        blamed = p.left.blamed ∙ link_blamed_at eq rules moves bodies xs i x within is ∙ ap (λ fs. fs ++ faults eq rules moves rules.start (links_body bodies (drop (i + 1) xs))) found.1;
      };
      covers = covered-next p.left.behind since i x within is found.1 p.covers (is_replace x.mode) refl;
    }
      where
        found : Covers eq laws [] p.left.behind (link_offers x) × (link_faults x ≡ [])
        found = p.covers stands.at x stands.from stands.before stands.is stands.weak
