-- Pairs of numbers and the pairs of names that they stand for.
use Rattle.std.proofs.Common.{◌≡◌, ℕ, zero, suc, Bool, true, false, cond, not, ◌||◌, ◌&&◌, ◌==◌, List, [], ◌∷◌, ◌++◌, Option, None, Some, get_or, is_some, refl, sym, ap, ◌∙◌, subst, nat_eq}
use Rattle.std.proofs.lemmas.Bool.{false≢true}
use Rattle.std.proofs.lemmas.List.Quantifiers.{position-Some}
use Rattle.std.proofs.lemmas.Option.{slice_get-get_or, same_Some}
use Rattle.std.proofs.lemmas.Slice.Eq.{bytes_eq-Decides}
use Rattle.std.specs.Cmp.{unsigned_Decides}
use Rattle.std.specs.List.{list_any, position, slice_get}
use Rattle.std.specs.Map.{keys_of}
use Rattle.std.specs.Option.{option_and_then, option_map}
use Rattle.std.specs.Str.{bytes_eq}
use Rattle.kx_tree.specs.declared.tree.Mode.{Mode}
use Rattle.kx_tree.specs.declared.tree.Mode.TheVariants.{Augment, Override, Replace}
use Rattle.kx_ordered.proofs.KeyPlaces.{place_is}
use Rattle.kx_ordered.specs.KeyPlaces.{place_in}
use Rattle.kx_codes.proofs.Matching.{bool_same, option_same}
use Rattle.kx_codes.proofs.NumberMaps.{single}
use Rattle.kx_codes.specs.Indexed.{Indexed, Stands, both, distinct}
use Rattle.kx_codes.specs.Numbers.{AreNumbered, FindsCodes, Grows, IsNumbered, IsOnce, StandsIn, number}
use Rattle.kx_codes.specs.Pairs.{Pair, shares, without, taken, all_taken, code_in, name_in}

module _ (names : List (List ℕ)) (once : IsOnce names) where
  same-name : (q p r s : Pair) → IsNumbered names q p → IsNumbered names r s → bytes_eq q.name r.name ≡ bytes_eq p.name s.name
  same-name q p r s a b = bool_same (bytes_eq q.name r.name) (bytes_eq p.name s.name)
      (λ h. (bytes_eq-Decides p.name s.name).1 (same_Some p.name s.name (sym a.name_is ∙ ap (slice_get names) (numbers h) ∙ b.name_is)))
      (λ h. (bytes_eq-Decides q.name r.name).1 (a.number_is ∙ ap number (once a.place b.place p.name a.name_is (b.name_is ∙ ap Some (sym ((bytes_eq-Decides p.name s.name).0 h)))) ∙ sym b.number_is))
    where
      numbers : bytes_eq q.name r.name ≡ true → a.place ≡ b.place
      numbers h = (unsigned_Decides a.place b.place).0 (sym (single a.place b.place) ∙ (bytes_eq-Decides (number a.place) (number b.place)).1 (sym a.number_is ∙ (bytes_eq-Decides q.name r.name).0 h ∙ b.number_is))

  pub same_shares : (q p r s : Pair) → IsNumbered names q p → IsNumbered names r s → shares q r ≡ shares p s
  same_shares q p r s a b = (λ i. same-name q p r s a b i || (a.code_is i == b.code_is i))

  pub same_any : (q p : Pair) → IsNumbered names q p → (qs ps : List Pair) → AreNumbered names qs ps → list_any (shares q) qs ≡ list_any (shares p) ps
  same_any q p a [] [] are = refl
  same_any q p a [] (s ∷ ps) are = absurd are
  same_any q p a (r ∷ qs) [] are = absurd are
  same_any q p a (r ∷ qs) (s ∷ ps) are = λ i. same_shares q p r s a are.0 i || same_any q p a qs ps are.1 i

  pub same_distinct : (qs ps : List Pair) → AreNumbered names qs ps → distinct qs ≡ distinct ps
  same_distinct [] [] are = refl
  same_distinct [] (s ∷ ps) are = absurd are
  same_distinct (r ∷ qs) [] are = absurd are
  same_distinct (r ∷ qs) (s ∷ ps) are = λ i. not (same_any r s are.0 qs ps are.1 i) && same_distinct qs ps are.1 i

  numbered-without : (q p : Pair) → IsNumbered names q p → (qs ps : List Pair) → AreNumbered names qs ps → AreNumbered names (without q qs) (without p ps)
  numbered-without q p a [] [] are = tt
  numbered-without q p a [] (s ∷ ps) are = absurd are
  numbered-without q p a (r ∷ qs) [] are = absurd are
  numbered-without q p a (r ∷ qs) (s ∷ ps) are = by (shares q r) (shares p s) (same_shares q p r s a are.0) (numbered-without q p a qs ps are.1)
    where
      by : (b c : Bool) → b ≡ c → AreNumbered names (without q qs) (without p ps) → AreNumbered names (cond (not b) (r ∷ without q qs) (without q qs)) (cond (not c) (s ∷ without p ps) (without p ps))
      by true true e rest = rest
      by true false e rest = absurd (false≢true (sym e))
      by false true e rest = absurd (false≢true e)
      by false false e rest = (are.0, rest)

  pub numbered_push : (q p : Pair) → IsNumbered names q p → (qs ps : List Pair) → AreNumbered names qs ps → AreNumbered names (qs ++ q ∷ []) (ps ++ p ∷ [])
  numbered_push q p a [] [] are = (a, tt)
  numbered_push q p a [] (s ∷ ps) are = absurd are
  numbered_push q p a (r ∷ qs) [] are = absurd are
  numbered_push q p a (r ∷ qs) (s ∷ ps) are = (are.0, numbered_push q p a qs ps are.1)

  pub numbered_taken : (mode : Mode) (q p : Pair) → IsNumbered names q p → (qs ps : List Pair) → AreNumbered names qs ps → AreNumbered names (taken mode qs q) (taken mode ps p)
  numbered_taken Augment q p a qs ps are = by (list_any (shares q) qs) (list_any (shares p) ps) (same_any q p a qs ps are)
    where
      by : (b c : Bool) → b ≡ c → AreNumbered names (cond b qs (qs ++ q ∷ [])) (cond c ps (ps ++ p ∷ []))
      by true true e = are
      by true false e = absurd (false≢true (sym e))
      by false true e = absurd (false≢true e)
      by false false e = numbered_push q p a qs ps are
  numbered_taken Override q p a qs ps are = numbered_push q p a (without q qs) (without p ps) (numbered-without q p a qs ps are)
  numbered_taken Replace q p a qs ps are = numbered_push q p a (without q qs) (without p ps) (numbered-without q p a qs ps are)

  pub numbered_all : (mode : Mode) (rs ss qs ps : List Pair) → AreNumbered names rs ss → AreNumbered names qs ps → AreNumbered names (all_taken mode rs qs) (all_taken mode ss ps)
  numbered_all mode rs ss [] [] old are = old
  numbered_all mode rs ss [] (p ∷ ps) old are = absurd are
  numbered_all mode rs ss (q ∷ qs) [] old are = absurd are
  numbered_all mode rs ss (q ∷ qs) (p ∷ ps) old are = numbered_all mode (taken mode rs q) (taken mode ss p) qs ps (numbered_taken mode q p are.0 rs ss old) are.1

  -- taking others by their numbers
  pub took_others : (old new given : Indexed) (mode : Mode) → ((rs qs : List Pair) → Stands old rs → Stands given qs → Stands new (all_taken mode rs qs)) → (ss ps : List Pair) → StandsIn names old ss → StandsIn names given ps → StandsIn names new (all_taken mode ss ps)
  took_others old new given mode takes ss ps a b = record {
    numbered = all_taken mode a.numbered b.numbered;
    stands = takes a.numbered b.numbered a.stands b.stands;
    are = numbered_all mode a.numbered ss b.numbered ps a.are b.are;
  }

-- numbers stay where names grow
numbers-grow : (old new : List (List ℕ)) → Grows old new → (q p : Pair) → IsNumbered old q p → IsNumbered new q p
numbers-grow old new g q p a = record { place = a.place; number_is = a.number_is; name_is = g.kept a.place p.name a.name_is; code_is = a.code_is }

numbered-grow : (old new : List (List ℕ)) → Grows old new → (qs ps : List Pair) → AreNumbered old qs ps → AreNumbered new qs ps
numbered-grow old new g [] [] are = tt
numbered-grow old new g [] (p ∷ ps) are = absurd are
numbered-grow old new g (q ∷ qs) [] are = absurd are
numbered-grow old new g (q ∷ qs) (p ∷ ps) are = (numbers-grow old new g q p are.0, numbered-grow old new g qs ps are.1)

pub stands_grow : (old new : List (List ℕ)) → Grows old new → (x : Indexed) (ps : List Pair) → StandsIn old x ps → StandsIn new x ps
stands_grow old new g x ps s = record { numbered = s.numbered; stands = s.stands; are = numbered-grow old new g s.numbered ps s.are }

pub grows_none : (names : List (List ℕ)) → IsOnce names → Grows names names
grows_none names once = record { once = once; kept = λ n name h. h }

pub grows_on : (a b c : List (List ℕ)) → Grows a b → Grows b c → Grows a c
grows_on a b c g h = record { once = h.once; kept = λ n name is. h.kept n name (g.kept n name is) }

-- one pair more, whose name has a number now
pub took_one : (old new : List (List ℕ)) → Grows old new → (mode : Mode) (n code : ℕ) (name : List ℕ) → slice_get new n ≡ Some name → (x y : Indexed) → ((rs : List Pair) → Stands x rs → Stands y (taken mode rs (record { name = number n; code = code })))
    → (ps : List Pair) → StandsIn old x ps → StandsIn new y (taken mode ps (record { name = name; code = code }))
took_one old new g mode n code name is x y takes ps s = record {
  numbered = taken mode s.numbered (record { name = number n; code = code });
  stands = takes s.numbered s.stands;
  are = numbered_taken new g.once mode (record { name = number n; code = code }) (record { name = name; code = code }) (record { place = n; number_is = refl; name_is = is; code_is = refl }) s.numbered ps (numbered-grow old new g s.numbered ps s.are);
}

pub once_none : (names : List (List ℕ)) → names ≡ [] → IsOnce names
once_none names is = subst IsOnce (sym is) (λ n m name h k. absurd (false≢true (ap is_some h)))

pub none_stand : (names : List (List ℕ)) (x : Indexed) → Stands x [] → StandsIn names x []
none_stand names x s = record { numbered = []; stands = s; are = tt }

same-list : (xs : List ℕ) → bytes_eq xs xs ≡ true
same-list xs = (bytes_eq-Decides xs xs).1 refl

-- a name's code is that of its number, and a code's name that of its number
module _ (names : List (List ℕ)) where
  pub code_forth : (qs ps : List Pair) → AreNumbered names qs ps → (name : List ℕ) (c : ℕ) → code_in ps name ≡ Some c → (n : ℕ) × (slice_get names n ≡ Some name) × (code_in qs (number n) ≡ Some c)
  code_forth [] [] are name c h = absurd (false≢true (ap is_some h))
  code_forth [] (p ∷ ps) are name c h = absurd are
  code_forth (q ∷ qs) [] are name c h = absurd are
  code_forth (q ∷ qs) (p ∷ ps) are name c h = by (bytes_eq name p.name) (bytes_eq-Decides name p.name).0 (bytes_eq-Decides name p.name).1 (code_forth qs ps are.1 name c) h
    where
      other : (n : ℕ) → slice_get names n ≡ Some name → (name ≡ p.name → ⊥) → (b : Bool) → (b ≡ true → number n ≡ q.name) → b ≡ false
      other n is never false same = refl
      other n is never true same = absurd (never (same_Some name p.name (sym is ∙ ap (slice_get names) ((unsigned_Decides n are.0.place).0 (sym (single n are.0.place) ∙ (bytes_eq-Decides (number n) (number are.0.place)).1 (same refl ∙ are.0.number_is))) ∙ are.0.name_is)))

      by : (b : Bool) → (b ≡ true → name ≡ p.name) → (name ≡ p.name → b ≡ true) → (code_in ps name ≡ Some c → (n : ℕ) × (slice_get names n ≡ Some name) × (code_in qs (number n) ≡ Some c)) → cond b (Some p.code) (code_in ps name) ≡ Some c → (n : ℕ) × (slice_get names n ≡ Some name) × (code_in (q ∷ qs) (number n) ≡ Some c)
      by true same back rest e = (are.0.place, are.0.name_is ∙ ap Some (sym (same refl)), ap (λ b. cond b (Some q.code) (code_in qs (number are.0.place))) (ap (bytes_eq (number are.0.place)) are.0.number_is ∙ same-list (number are.0.place)) ∙ ap Some are.0.code_is ∙ e)
      by false same back rest e =
          let found = rest e in
          (found.0, found.1, ap (λ b. cond b (Some q.code) (code_in qs (number found.0))) (other found.0 found.1 (λ is. false≢true (back is)) (bytes_eq (number found.0) q.name) (bytes_eq-Decides (number found.0) q.name).0) ∙ found.2)

  code-shape : (qs ps : List Pair) → AreNumbered names qs ps → (m : List ℕ) (c : ℕ) → code_in qs m ≡ Some c → (n : ℕ) × (name : List ℕ) × (m ≡ number n) × (slice_get names n ≡ Some name)
  code-shape [] ps are m c h = absurd (false≢true (ap is_some h))
  code-shape (q ∷ qs) [] are m c h = absurd are
  code-shape (q ∷ qs) (p ∷ ps) are m c h = by (bytes_eq m q.name) (bytes_eq-Decides m q.name).0 (code-shape qs ps are.1 m c) h
    where
      by : (b : Bool) → (b ≡ true → m ≡ q.name) → (code_in qs m ≡ Some c → (n : ℕ) × (name : List ℕ) × (m ≡ number n) × (slice_get names n ≡ Some name)) → cond b (Some q.code) (code_in qs m) ≡ Some c → (n : ℕ) × (name : List ℕ) × (m ≡ number n) × (slice_get names n ≡ Some name)
      by true same rest e = (are.0.place, p.name, same refl ∙ are.0.number_is, are.0.name_is)
      by false same rest e = rest e

  name-forth : (qs ps : List Pair) → AreNumbered names qs ps → (code : ℕ) (name : List ℕ) → name_in ps code ≡ Some name → (n : ℕ) × (slice_get names n ≡ Some name) × (name_in qs code ≡ Some (number n))
  name-forth [] [] are code name h = absurd (false≢true (ap is_some h))
  name-forth [] (p ∷ ps) are code name h = absurd are
  name-forth (q ∷ qs) [] are code name h = absurd are
  name-forth (q ∷ qs) (p ∷ ps) are code name h = by (nat_eq code p.code) (nat_eq code q.code) (ap (nat_eq code) (sym are.0.code_is)) (name-forth qs ps are.1 code name) h
    where
      by : (b d : Bool) → b ≡ d → (name_in ps code ≡ Some name → (n : ℕ) × (slice_get names n ≡ Some name) × (name_in qs code ≡ Some (number n))) → cond b (Some p.name) (name_in ps code) ≡ Some name → (n : ℕ) × (slice_get names n ≡ Some name) × (cond d (Some q.name) (name_in qs code) ≡ Some (number n))
      by true true e rest is = (are.0.place, are.0.name_is ∙ is, ap Some are.0.number_is)
      by true false e rest is = absurd (false≢true (sym e))
      by false true e rest is = absurd (false≢true e)
      by false false e rest is = rest is

  pub name_back : (qs ps : List Pair) → AreNumbered names qs ps → (code : ℕ) (m : List ℕ) → name_in qs code ≡ Some m → (n : ℕ) × (name : List ℕ) × (m ≡ number n) × (slice_get names n ≡ Some name) × (name_in ps code ≡ Some name)
  name_back [] ps are code m h = absurd (false≢true (ap is_some h))
  name_back (q ∷ qs) [] are code m h = absurd are
  name_back (q ∷ qs) (p ∷ ps) are code m h = by (nat_eq code p.code) (nat_eq code q.code) (ap (nat_eq code) (sym are.0.code_is)) (name_back qs ps are.1 code m) h
    where
      by : (b d : Bool) → b ≡ d → (name_in qs code ≡ Some m → (n : ℕ) × (name : List ℕ) × (m ≡ number n) × (slice_get names n ≡ Some name) × (name_in ps code ≡ Some name)) → cond d (Some q.name) (name_in qs code) ≡ Some m
          → (n : ℕ) × (name : List ℕ) × (m ≡ number n) × (slice_get names n ≡ Some name) × (cond b (Some p.name) (name_in ps code) ≡ Some name)
      by true true e rest is = (are.0.place, p.name, same_Some m q.name (sym is) ∙ are.0.number_is, are.0.name_is, refl)
      by true false e rest is = absurd (false≢true (sym e))
      by false true e rest is = absurd (false≢true e)
      by false false e rest is = rest is

module _ (names : List (List ℕ)) (once : IsOnce names) where
  pub code_back : (qs ps : List Pair) → AreNumbered names qs ps → (n : ℕ) (name : List ℕ) (c : ℕ) → slice_get names n ≡ Some name → code_in qs (number n) ≡ Some c → code_in ps name ≡ Some c
  code_back [] ps are n name c is h = absurd (false≢true (ap is_some h))
  code_back (q ∷ qs) [] are n name c is h = absurd are
  code_back (q ∷ qs) (p ∷ ps) are n name c is h = by (bytes_eq (number n) q.name) (bytes_eq name p.name) (same-name names once (record { name = number n; code = 0 }) (record { name = name; code = 0 }) q p (record { place = n; number_is = refl; name_is = is; code_is = refl }) are.0) (code_back qs ps are.1 n name c is) h
    where
      by : (b d : Bool) → b ≡ d → (code_in qs (number n) ≡ Some c → code_in ps name ≡ Some c) → cond b (Some q.code) (code_in qs (number n)) ≡ Some c → cond d (Some p.code) (code_in ps name) ≡ Some c
      by true true e rest k = ap Some (sym are.0.code_is) ∙ k
      by true false e rest k = absurd (false≢true (sym e))
      by false true e rest k = absurd (false≢true e)
      by false false e rest k = rest k

  same-number : (n m : ℕ) (name : List ℕ) → slice_get names n ≡ Some name → slice_get names m ≡ Some name → number n ≡ number m
  same-number n m name a b = ap number (once n m name a b)

  -- two lists of numbers that look alike, and what they stand for
  module _ (ms ns : List Pair) (us ws : List Pair) (ma : AreNumbered names ms us) (nb : AreNumbered names ns ws) where
    names-alike : ((m : List ℕ) → code_in ms m ≡ code_in ns m) → (name : List ℕ) (c : ℕ) → code_in us name ≡ Some c → code_in ws name ≡ Some c
    names-alike alike name c h = let found = code_forth names ms us ma name c h in code_back ns ws nb found.0 name c found.1 (sym (alike (number found.0)) ∙ found.2)

    codes-alike : ((code : ℕ) → name_in ms code ≡ name_in ns code) → (code : ℕ) (name : List ℕ) → name_in us code ≡ Some name → name_in ws code ≡ Some name
    codes-alike alike code name h =
        let found = name-forth names ms us ma code name h in
        let back = name_back names ns ws nb code (number found.0) (sym (alike code) ∙ found.2) in
        back.4 ∙ ap Some (same_Some back.1 name (sym back.3 ∙ ap (slice_get names) ((unsigned_Decides back.0 found.0).0 (sym (single back.0 found.0) ∙ (bytes_eq-Decides (number back.0) (number found.0)).1 (sym back.2))) ∙ found.1))

    numbers-alike : ((name : List ℕ) → code_in us name ≡ code_in ws name) → (m : List ℕ) (c : ℕ) → code_in ms m ≡ Some c → code_in ns m ≡ Some c
    numbers-alike alike m c h =
        let shape = code-shape names ms us ma m c h in
        let there = code_back ms us ma shape.0 shape.1 c shape.3 (ap (code_in ms) (sym shape.2) ∙ h) in
        let found = code_forth names ns ws nb shape.1 c (sym (alike shape.1) ∙ there) in
        ap (code_in ns) (shape.2 ∙ same-number shape.0 found.0 shape.1 shape.3 found.1) ∙ found.2

    places-alike : ((code : ℕ) → name_in us code ≡ name_in ws code) → (code : ℕ) (m : List ℕ) → name_in ms code ≡ Some m → name_in ns code ≡ Some m
    places-alike alike code m h =
        let back = name_back names ms us ma code m h in
        let found = name-forth names ns ws nb code back.1 (sym (alike code) ∙ back.4) in
        found.2 ∙ ap Some (same-number found.0 back.0 back.1 found.1 back.3 ∙ sym back.2)

  -- numbers for pairs whose names have some
  numbers-for : (ps : List Pair) → ((name : List ℕ) (c : ℕ) → code_in ps name ≡ Some c → (n : ℕ) × (slice_get names n ≡ Some name)) → (qs : List Pair) × AreNumbered names qs ps
  numbers-for [] some = ([], tt)
  numbers-for (p ∷ ps) some =
      let head = some p.name p.code (ap (λ b. cond b (Some p.code) (code_in ps p.name)) (same-list p.name)) in
      let rest = numbers-for ps (λ name c h. tail head name c h) in
      (record { name = number head.0; code = p.code } ∷ rest.0, (record { place = head.0; number_is = refl; name_is = head.1; code_is = refl }, rest.1))
    where
      tail : (n : ℕ) × (slice_get names n ≡ Some p.name) → (name : List ℕ) (c : ℕ) → code_in ps name ≡ Some c → (n : ℕ) × (slice_get names n ≡ Some name)
      tail head name c h = by (bytes_eq name p.name) (bytes_eq-Decides name p.name).0 refl
        where
          by : (b : Bool) → (b ≡ true → name ≡ p.name) → bytes_eq name p.name ≡ b → (n : ℕ) × (slice_get names n ≡ Some name)
          by true same e = (head.0, head.1 ∙ ap Some (sym (same refl)))
          by false same e = some name c (ap (λ b. cond b (Some p.code) (code_in ps name)) e ∙ h)

  -- other pairs that look alike stand there too
  pub stands_alike : (x : Indexed) (ps rs : List Pair) → StandsIn names x ps → distinct rs ≡ true → ((name : List ℕ) → code_in ps name ≡ code_in rs name) → ((code : ℕ) → name_in ps code ≡ name_in rs code) → StandsIn names x rs
  stands_alike x ps rs s d codes places =
      let found = numbers-for rs (λ name c h. let f = code_forth names s.numbered ps s.are name c (codes name ∙ h) in (f.0, f.1)) in
      record {
        numbered = found.0;
        stands = record {
          distinct_are = same_distinct names once found.0 rs found.1 ∙ d;
          codes_are = λ m. s.stands.codes_are m ∙ option_same (code_in s.numbered m) (code_in found.0 m)
              (λ c h. numbers-alike s.numbered found.0 ps rs s.are found.1 codes m c h)
              (λ c h. numbers-alike found.0 s.numbered rs ps found.1 s.are (λ name. sym (codes name)) m c h);
          names_are = λ code. s.stands.names_are code ∙ option_same (name_in s.numbered code) (name_in found.0 code)
              (λ m h. places-alike s.numbered found.0 ps rs s.are found.1 places code m h)
              (λ m h. places-alike found.0 s.numbered rs ps found.1 s.are (λ k. sym (places k)) code m h);
        };
        are = found.1;
      }

  -- what stands for pairs of numbers by their names
  pub named_stands : (x y : Indexed) (vs ns ps : List Pair) → StandsIn names x ps → Stands x vs → AreNumbered names vs ns → Stands y ns → Stands y ps
  named_stands x y vs ns ps s v are stands = record {
    distinct_are = sym (same_distinct names once s.numbered ps s.are) ∙ s.stands.distinct_are;
    codes_are = λ name. stands.codes_are name ∙ option_same (code_in ns name) (code_in ps name)
        (λ c h. names-alike vs s.numbered ns ps are s.are (λ m. sym (v.codes_are m) ∙ s.stands.codes_are m) name c h)
        (λ c h. names-alike s.numbered vs ps ns s.are are (λ m. sym (s.stands.codes_are m) ∙ v.codes_are m) name c h);
    names_are = λ code. stands.names_are code ∙ option_same (name_in ns code) (name_in ps code)
        (λ m h. codes-alike vs s.numbered ns ps are s.are (λ k. sym (v.names_are k) ∙ s.stands.names_are k) code m h)
        (λ m h. codes-alike s.numbered vs ps ns s.are are (λ k. sym (s.stands.names_are k) ∙ v.names_are k) code m h);
  }

-- a name's place among names
pub placed : (names : List (List ℕ)) (name : List ℕ) (n : ℕ) → position (bytes_eq name) names ≡ Some n → slice_get names n ≡ Some name
placed names name n is =
    let at = position-Some (bytes_eq name) names n [] is in
    slice_get-get_or names n [] at.0 ∙ ap Some (sym ((bytes_eq-Decides name (get_or names n [])).0 at.1))

abbrev units : List (List ℕ) → List (List ℕ × Unit {0})
units [] = []
units (k ∷ ks) = (k, tt) ∷ units ks

keys-units : (ks : List (List ℕ)) → keys_of (units ks) ≡ ks
keys-units [] = refl
keys-units (k ∷ ks) = ap (λ rest. k ∷ rest) (keys-units ks)

unplaced : (ks : List (List ℕ)) (name : List ℕ) (n : ℕ) → place_in (bytes_eq name) (units ks) ≡ None → slice_get ks n ≡ Some name → ⊥
unplaced [] name n none is = false≢true (ap is_some is)
unplaced (k ∷ ks) name n none is = by (bytes_eq name k) (place_in (bytes_eq name) (units ks)) n (bytes_eq-Decides name k).1 (unplaced ks name) none is
  where
    by : (b : Bool) (o : Option ℕ) (n : ℕ) → (name ≡ k → b ≡ true) → ((m : ℕ) → o ≡ None → slice_get ks m ≡ Some name → ⊥) → cond b (Some 0) (option_map suc o) ≡ None → slice_get (k ∷ ks) n ≡ Some name → ⊥
    by true o n same rest none is = false≢true (sym (ap is_some none))
    by false (Some m) n same rest none is = false≢true (sym (ap is_some none))
    by false None zero same rest none is = false≢true (same (same_Some name k (sym is)))
    by false None (suc m) same rest none is = rest m refl is

unplaced_name : (names : List (List ℕ)) (name : List ℕ) (n : ℕ) → position (bytes_eq name) names ≡ None → slice_get names n ≡ Some name → ⊥
unplaced_name names name n none =
    unplaced names name n (sym (place_is (bytes_eq name) (units names)) ∙ ap (position (bytes_eq name)) (keys-units names) ∙ none)

-- a code that is found by the number of a name is that of the name in what the numbers stand for
pub codes_found : (names : List (List ℕ)) → IsOnce names → (x : Indexed) (ps : List Pair) (by_code : List Pair) → StandsIn names x ps → Stands (both by_code) ps → FindsCodes names x.by_name by_code
codes_found names once x ps by_code s stands name = by (position (bytes_eq name) names) refl ∙ sym (stands.codes_are name)
  where
    by : (o : Option ℕ) → position (bytes_eq name) names ≡ o → option_and_then (λ n. code_in x.by_name (number n)) o ≡ code_in ps name
    by None is = option_same None (code_in ps name) (λ c h. absurd (false≢true (ap is_some h))) (λ c h. let found = code_forth names s.numbered ps s.are name c h in absurd (unplaced_name names name found.0 is found.1))
    by (Some n) is =
        let at = placed names name n is in
        s.stands.codes_are (number n) ∙ option_same (code_in s.numbered (number n)) (code_in ps name)
        (λ c h. code_back names once s.numbered ps s.are n name c at h)
        (λ c h. let found = code_forth names s.numbered ps s.are name c h in ap (λ m. code_in s.numbered (number m)) (once n found.0 name at found.1) ∙ found.2)
