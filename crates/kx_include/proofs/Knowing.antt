-- Maps that grow, and what stays known of them.
use Rattle.std.proofs.Common.{◌≡◌, ◌⊎◌, ℕ, ◌+◌, zero, suc, Bool, true, false, ◌&&◌, eqb, List, [], ◌∷◌, ◌++◌, length, Some, refl, sym, ap, ◌∙◌, subst, arith, inl, inr}
use Rattle.std.proofs.lemmas.Bool.{eqb-true}
use Rattle.std.proofs.lemmas.List.{length-append, append_assoc, append-nil}
use Rattle.std.specs.List.{slice_get}
use Rattle.kx_tree.specs.declared.tree.Kind.{Kind}
use Rattle.kx_include.specs.Expansion.{Body, End}
use Rattle.kx_include.specs.IncludeFaults.{Findings, in_map}
use Rattle.kx_include.specs.Library.{Library}
use Rattle.kx_include.specs.Shared.{bodies_behind, body_at, shared_body}
use Rattle.kx_include.specs.Sharing.{AreKnown, Expands, Grows, IsKnownMap, IsMapOf, IsMeant, IsNumberOf, Known, bodies_of}
use Rattle.kx_include.specs.declared.expanding.Reach.{Reach}
use Rattle.kx_include.specs.declared.expansion.Map.{Map}
use Rattle.kx_include.specs.declared.place.Place.{Place}

bodies_behind-append : (bs : List Body) (xs ys : List Map) → bodies_behind bs (xs ++ ys) ≡ bodies_behind (bodies_behind bs xs) ys
bodies_behind-append bs [] ys = refl
bodies_behind-append bs (x ∷ xs) ys = bodies_behind-append (bs ++ shared_body bs x End ∷ []) xs ys

length-behind : (bs : List Body) (ms : List Map) → length (bodies_behind bs ms) ≡ length bs + length ms
length-behind bs [] = omega arith
length-behind bs (m ∷ ms) =
    let rest = length-behind (bs ++ shared_body bs m End ∷ []) ms in
    let one = length-append bs (shared_body bs m End ∷ []) in
    omega arith

pub grows_none : (ms : List Map) → Grows ms ms
grows_none ms = ([], sym (append-nil (bodies_of ms)))

pub grows_on : (a b c : List Map) → Grows a b → Grows b c → Grows a c
grows_on a b c g h = (g.0 ++ h.0, h.1 ∙ ap (λ bs. bs ++ h.0) g.1 ∙ append_assoc (bodies_of a) g.0 h.0)

pub grows_push : (ms : List Map) (m : Map) → Grows ms (ms ++ m ∷ [])
grows_push ms m = (shared_body (bodies_of ms) m End ∷ [], bodies_behind-append [] ms (m ∷ []))

-- what holds whatever stands after maps holds after more of them
pub regrow : (P : List Body → Type 0) (old new : List Map) → Grows old new → ((more : List Body) → P (bodies_of old ++ more)) → (more : List Body) → P (bodies_of new ++ more)
regrow P old new g holds more = subst P (sym (ap (λ bs. bs ++ more) g.1 ∙ append_assoc (bodies_of old) g.0 more)) (holds (g.0 ++ more))

pub known_on : (old new : List Map) (depth seen count : ℕ) (found : ℕ → Findings) (is : ℕ → List Body → Type 0) → Grows old new → Known (bodies_of old) depth seen count found is → Known (bodies_of new) depth seen count found is
known_on old new depth seen count found is g known d h =
    let at = known d h in
    record { faultless = at.faultless; counted = at.counted; means = regrow (is d) old new g at.means }

-- from another count on
pub known_from : (ms : List Map) (depth seen start parts : ℕ) (count : ℕ) (found : ℕ → Findings) (is : ℕ → List Body → Type 0) → start + count ≡ seen + parts → Known (bodies_of ms) depth seen count found is → Known (bodies_of ms) depth start parts found is
known_from ms depth seen start parts count found is same known d h =
    let at = known d h in
    record { faultless = at.faultless; counted = (let counted = at.counted in omega arith); means = at.means }

pub meant_as : (bs : List Body) (seen count : ℕ) (found other : Findings) (is as_told : List Body → Type 0) → found ≡ other → ((b : List Body) → is b → as_told b) → IsMeant bs seen count found is → IsMeant bs seen count other as_told
meant_as bs seen count found other is as_told same means at = record {
  faultless = subst (λ a. a.faults ≡ []) same at.faultless;
  counted = at.counted ∙ ap (λ a. seen + length a.visits) same;
  means = λ more. means (bs ++ more) (at.means more);
}

pushed : {X : Type 0} (xs : List X) (x : X) (n : ℕ) (y : X) → slice_get (xs ++ x ∷ []) n ≡ Some y → (slice_get xs n ≡ Some y) ⊎ ((n ≡ length xs) × (y ≡ x))
pushed [] x zero y h = inr (refl, cc)
pushed [] x (suc n) y h = cc
pushed (z ∷ xs) x zero y h = inl h
pushed (z ∷ xs) x (suc n) y h = elim (pushed xs x n y h) [
  | inl found ↦ inl found
  | inr last ↦ inr (ap suc last.0, last.1)
]

body-behind : (bs : List Body) (b : Body) (more : List Body) → body_at ((bs ++ b ∷ []) ++ more) (length bs) ≡ b
body-behind [] b more = refl
body-behind (c ∷ bs) b more = body-behind bs b more

pub push_known : (library : Library) (kind : Kind) (ms : List Map) (m : Map) → AreKnown library kind ms → Known (bodies_of ms) m.depth 0 m.parts (λ d. in_map d library kind m.place) (IsMapOf library kind m.place m) → AreKnown library kind (ms ++ m ∷ [])
push_known library kind ms m are known n other found = by (pushed ms m n other found)
  where
    last : Known (bodies_of (ms ++ m ∷ [])) m.depth 0 m.parts (λ d. in_map d library kind m.place) (IsNumberOf library kind m.place (length ms))
    last d h =
        let at = known d h in
        let count : length (bodies_of ms) ≡ length ms = (let all = length-behind [] ms in omega arith) in
        record {
          faultless = at.faultless;
          counted = at.counted;
          means = λ more.
              ap (λ bs. body_at (bs ++ more) (length ms)) (bodies_behind-append [] ms (m ∷ []))
              ∙ ap (body_at ((bodies_of ms ++ shared_body (bodies_of ms) m End ∷ []) ++ more)) (sym count)
              ∙ body-behind (bodies_of ms) (shared_body (bodies_of ms) m End) more
              ∙ ap (λ bs. shared_body bs m End) (sym (append-nil (bodies_of ms)))
              ∙ at.means [] End;
        }

    by : (slice_get ms n ≡ Some other) ⊎ ((n ≡ length ms) × (other ≡ m)) → Known (bodies_of (ms ++ m ∷ [])) other.depth 0 other.parts (λ d. in_map d library kind other.place) (IsNumberOf library kind other.place n)
    by (inl before) = known_on ms (ms ++ m ∷ []) other.depth 0 other.parts (λ d. in_map d library kind other.place) (IsNumberOf library kind other.place n) (grows_push ms m) (are n other before)
    by (inr here) =
        subst (λ k. Known (bodies_of (ms ++ m ∷ [])) other.depth 0 other.parts (λ d. in_map d library kind other.place) (IsNumberOf library kind other.place k)) (sym here.0)
        (subst (λ (o : Map). Known (bodies_of (ms ++ m ∷ [])) o.depth 0 o.parts (λ d. in_map d library kind o.place) (IsNumberOf library kind o.place (length ms))) (sym here.1) last)

both-true : (a b : Bool) → (a && b) ≡ true → (a ≡ true) × (b ≡ true)
both-true true true h = (refl, refl)
both-true true false h = cc
both-true false b h = cc

pub same_place : (a b : Place) → (eqb a.file b.file && eqb a.section b.section) ≡ true → a ≡ b
same_place a b h =
    let same = both-true (eqb a.file b.file) (eqb a.section b.section) h in
    let file = eqb-true a.file b.file same.0 in
    let section = eqb-true a.section b.section same.1 in
    let in_file : ℕ → Place = λ n. record { file = n; section = a.section } in
    let at_section : ℕ → Place = λ n. record { file = b.file; section = n } in
    ap in_file file ∙ ap at_section section

-- a map that is expanded is the last of the maps
pub number_pushed : (library : Library) (kind : Kind) (place : Place) (most seen : ℕ) (old now new : List Map) (m : Map) (n depth count : ℕ) → new ≡ now ++ m ∷ [] → n ≡ length now → m.place ≡ place → depth ≡ m.depth → count ≡ seen + m.parts
    → Expands library kind most seen old now (λ d. in_map d library kind place) (IsMapOf library kind place m) m.depth (seen + m.parts)
    → Expands library kind most seen old new (λ d. in_map d library kind place) (IsNumberOf library kind place n) depth count
number_pushed library kind place most seen old now new m n depth count is_new last there is_depth is_count e =
    let from_none = known_from now m.depth seen 0 m.parts (seen + m.parts) (λ d. in_map d library kind m.place) (IsMapOf library kind m.place m) (omega arith) (subst (λ p. Known (bodies_of now) m.depth seen (seen + m.parts) (λ d. in_map d library kind p) (IsMapOf library kind p m)) (sym there) e.meant) in
    let are = push_known library kind now m e.known from_none in
    let numbered : Known (bodies_of (now ++ m ∷ [])) m.depth 0 m.parts (λ d. in_map d library kind m.place) (IsNumberOf library kind m.place (length now)) = are (length now) m (last_of now m) in
    let counted = known_from (now ++ m ∷ []) m.depth 0 seen (seen + m.parts) m.parts (λ d. in_map d library kind m.place) (IsNumberOf library kind m.place (length now)) (omega arith) numbered in
    let placed : Known (bodies_of (now ++ m ∷ [])) m.depth seen (seen + m.parts) (λ d. in_map d library kind place) (IsNumberOf library kind place (length now)) = subst (λ p. Known (bodies_of (now ++ m ∷ [])) m.depth seen (seen + m.parts) (λ d. in_map d library kind p) (IsNumberOf library kind p (length now))) there counted in
    let made : Expands library kind most seen old (now ++ m ∷ []) (λ d. in_map d library kind place) (IsNumberOf library kind place (length now)) m.depth (seen + m.parts) = record { grown = grows_on old now (now ++ m ∷ []) e.grown (grows_push now m); known = are; meant = placed; within = e.within; few = e.few } in
    subst (λ ms. Expands library kind most seen old ms (λ d. in_map d library kind place) (IsNumberOf library kind place n) depth count) (sym is_new)
    (subst (λ k. Expands library kind most seen old (now ++ m ∷ []) (λ d. in_map d library kind place) (IsNumberOf library kind place k) depth count) (sym last)
    (subst (λ h. Expands library kind most seen old (now ++ m ∷ []) (λ d. in_map d library kind place) (IsNumberOf library kind place (length now)) h count) (sym is_depth)
    (subst (λ c. Expands library kind most seen old (now ++ m ∷ []) (λ d. in_map d library kind place) (IsNumberOf library kind place (length now)) m.depth c) (sym is_count) made)))
  where
    last_of : (ms : List Map) (o : Map) → slice_get (ms ++ o ∷ []) (length ms) ≡ Some o
    last_of [] o = refl
    last_of (x ∷ ms) o = last_of ms o

-- a map that is known already
pub number_known : (library : Library) (kind : Kind) (place : Place) (most seen n : ℕ) (reach : Reach) (ms : List Map) → AreKnown library kind ms → IsKnownMap ms place most seen n reach
    → Expands library kind most seen ms ms (λ d. in_map d library kind place) (IsNumberOf library kind place n) reach.depth reach.count
number_known library kind place most seen n reach ms are is =
    let m = is.map in
    let known = known_from ms m.depth 0 seen (seen + m.parts) m.parts (λ d. in_map d library kind m.place) (IsNumberOf library kind m.place n) (omega arith) (are n m is.found) in
    let placed : Known (bodies_of ms) m.depth seen (seen + m.parts) (λ d. in_map d library kind place) (IsNumberOf library kind place n) = subst (λ p. Known (bodies_of ms) m.depth seen (seen + m.parts) (λ d. in_map d library kind p) (IsNumberOf library kind p n)) is.there known in
    let deep : Known (bodies_of ms) reach.depth seen (seen + m.parts) (λ d. in_map d library kind place) (IsNumberOf library kind place n) = subst (λ h. Known (bodies_of ms) h seen (seen + m.parts) (λ d. in_map d library kind place) (IsNumberOf library kind place n)) (sym is.depth) placed in
    record {
      grown = grows_none ms;
      known = are;
      meant = subst (λ c. Known (bodies_of ms) reach.depth seen c (λ d. in_map d library kind place) (IsNumberOf library kind place n)) (sym is.count) deep;
      within = is.within;
      few = is.few;
    }
