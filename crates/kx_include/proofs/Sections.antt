-- The source's sections, each of which is added to the body of its kind.
use Rattle.std.proofs.Common.{◌≡◌, ◌⊎◌, ℕ, ◌+◌, ◌≤◌, Bool, true, false, cond, zero, suc, List, [], ◌∷◌, ◌++◌, Some, drop, length, length-drop, refl, sym, ap, ◌∙◌, subst, arith, inl, inr}
use Rattle.std.proofs.lemmas.List.{append_assoc, append-nil}
use Rattle.std.specs.List.{slice_get}
use Rattle.kx_lex.specs.declared.fault.Fault.{Fault}
use Rattle.kx_tree.specs.declared.tree.Kind.{Kind}
use Rattle.kx_tree.specs.declared.tree.Kind.TheVariants.{Keycodes, Types, Compat, Symbols, Geometry}
use Rattle.kx_tree.specs.declared.tree.Section.{Section}
use Rattle.kx_include.specs.Bodies.{AreBodies, expansion_of}
use Rattle.kx_include.specs.Expansion.{Body, body_of, map_body, sections_body}
use Rattle.kx_include.specs.IncludeFaults.{findings, in_map, in_sections, HasFaultFrom, IsWhole}
use Rattle.kx_include.specs.Library.{Library, is_of, sections_in}
use Rattle.kx_include.specs.Limits.{most_depth, most_parts}
use Rattle.kx_include.specs.Shared.{expanded_body, shared_sections}
use Rattle.kx_include.specs.Sharing.{AddsSection, AreKnown, Blames, bodies_of}
use Rattle.kx_include.specs.declared.expansion.Bodies.{Bodies}
use Rattle.kx_include.specs.declared.expansion.Expansion.{Expansion}
use Rattle.kx_include.specs.declared.expansion.Map.{Map}
use Rattle.kx_include.specs.declared.place.Place.{Place}
use Rattle.kx_include.proofs.Knowing.{regrow}
use Rattle.kx_include.proofs.Progress.{Left, left_all, left-step, left-none, fault-left, fault-first}

pub is_of-own : (s : Section) → is_of s.kind s ≡ true
is_of-own s = by s.kind s refl
  where
    by : (kind : Kind) (o : Section) → o.kind ≡ kind → is_of kind o ≡ true
    by Keycodes o is = ap (λ k. is_of Keycodes (record o { kind = k })) is
    by Types o is = ap (λ k. is_of Types (record o { kind = k })) is
    by Compat o is = ap (λ k. is_of Compat (record o { kind = k })) is
    by Symbols o is = ap (λ k. is_of Symbols (record o { kind = k })) is
    by Geometry o is = ap (λ k. is_of Geometry (record o { kind = k })) is

pub kind-is_of : (kind : Kind) (s : Section) → is_of kind s ≡ true → kind ≡ s.kind
kind-is_of kind s h = by kind s.kind (ap (λ k. is_of kind (record s { kind = k })) refl ∙ h)
  where
    by : (a b : Kind) → is_of a (record s { kind = b }) ≡ true → a ≡ b
    by Keycodes Keycodes e = refl
    by Types Types e = refl
    by Compat Compat e = refl
    by Symbols Symbols e = refl
    by Geometry Geometry e = refl
    by a b e = cc

-- sections before a number are in a body, and these are left
pub record IsGrown (library : Library) (kind : Kind) (n : ℕ) (left : List Section) (x : Expansion) : Type 0 where
  pub known : AreKnown library kind x.maps.items
  pub joins : (more : List Body) (rest : List Map) → shared_sections (bodies_of x.maps.items ++ more) rest ≡ sections_body (map_body (suc most_depth) library kind) kind n left → shared_sections (bodies_of x.maps.items ++ more) (x.sections.items ++ rest) ≡ body_of library kind

pub record AreGrown (library : Library) (n : ℕ) (left : List Section) (seen : ℕ) (b : Bodies) : Type 0 where
  pub grown : (kind : Kind) → IsGrown library kind n left (expansion_of kind b)
  pub going : Left 0 (findings library) seen (in_sections (λ kind place. in_map most_depth library kind place) n left)
  pub few : seen ≤ most_parts
  pub counted : n + length left ≡ length (sections_in library 0)

grown_none : (library : Library) (kind : Kind) (x : Expansion) → x.maps.items ≡ [] → x.sections.items ≡ [] → IsGrown library kind 0 (sections_in library 0) x
grown_none library kind x no_maps no_sections = record {
  known = subst (AreKnown library kind) (sym no_maps) (λ n m found. cc);
  joins = λ more rest is. ap (λ (ms : List Map). shared_sections (bodies_of x.maps.items ++ more) (ms ++ rest)) no_sections ∙ is;
}

pub are_grown_none : (library : Library) (b : Bodies) (left : List Section) → ((kind : Kind) → (expansion_of kind b).maps.items ≡ []) → ((kind : Kind) → (expansion_of kind b).sections.items ≡ []) → left ≡ sections_in library 0 → AreGrown library 0 left 0 b
are_grown_none library b left no_maps no_sections all = subst (λ ss. AreGrown library 0 ss 0 b) (sym all) (record {
  grown = λ kind. grown_none library kind (expansion_of kind b) (no_maps kind) (no_sections kind);
  going = left_all 0 (findings library);
  few = omega arith;
  counted = omega arith;
})

grown_other : (library : Library) (kind : Kind) (n : ℕ) (s : Section) (rest : List Section) (x : Expansion) → is_of kind s ≡ false → IsGrown library kind n (s ∷ rest) x → IsGrown library kind (n + 1) rest x
grown_other library kind n s rest x not g = record {
  known = g.known;
  joins = λ more ms is. g.joins more ms (is ∙ sym (ap (λ b. cond b (map_body (suc most_depth) library kind (record { file = 0; section = n }) (sections_body (map_body (suc most_depth) library kind) kind (n + 1) rest)) (sections_body (map_body (suc most_depth) library kind) kind (n + 1) rest)) not));
}

grown_on : (library : Library) (kind : Kind) (n seen count : ℕ) (s : Section) (rest : List Section) (old new : Expansion) → is_of kind s ≡ true → AddsSection library kind (record { file = 0; section = n }) seen old new count → IsGrown library kind n (s ∷ rest) old → IsGrown library kind (n + 1) rest new
grown_on library kind n seen count s rest old new is_kind added g = record {
  known = added.expands.known;
  joins = λ more ms is.
      let place : Place = record { file = 0; section = n } in
      let bodies = bodies_of new.maps.items ++ more in
      let behind = sections_body (map_body (suc most_depth) library kind) kind (n + 1) rest in
      let meant = added.expands.meant most_depth added.expands.within in
      let first : shared_sections bodies (added.map ∷ ms) ≡ sections_body (map_body (suc most_depth) library kind) kind n (s ∷ rest) =
      meant.means more (shared_sections bodies ms) ∙ ap (map_body (suc most_depth) library kind place) is ∙ sym (ap (λ b. cond b (map_body (suc most_depth) library kind place behind) behind) is_kind) in
      ap (λ all. shared_sections bodies (all ++ ms)) added.sections
      ∙ ap (shared_sections bodies) (append_assoc old.sections.items (added.map ∷ []) ms)
      ∙ regrow (λ bs. shared_sections bs (added.map ∷ ms) ≡ sections_body (map_body (suc most_depth) library kind) kind n (s ∷ rest) → shared_sections bs (old.sections.items ++ (added.map ∷ ms)) ≡ body_of library kind) old.maps.items new.maps.items added.expands.grown (λ others. g.joins others (added.map ∷ ms)) more first;
}

pub are_grown_on : (library : Library) (n seen count : ℕ) (s : Section) (left rest : List Section) (old new : Bodies) → left ≡ s ∷ rest → AddsSection library s.kind (record { file = 0; section = n }) seen (expansion_of s.kind old) (expansion_of s.kind new) count
    → ((other : Kind) → (other ≡ s.kind) ⊎ (expansion_of other new ≡ expansion_of other old)) → AreGrown library n left seen old → AreGrown library (n + 1) rest count new
are_grown_on library n seen count s left rest old new is added others are = record {
  grown = λ kind. by kind (is_of kind s) refl;
  going = left-step 0 (findings library) seen count (in_map most_depth library s.kind (record { file = 0; section = n })) (in_sections (λ kind place. in_map most_depth library kind place) (n + 1) rest) (subst (λ ss. Left 0 (findings library) seen (in_sections (λ kind place. in_map most_depth library kind place) n ss)) is are.going) (added.expands.meant most_depth added.expands.within).faultless (added.expands.meant most_depth added.expands.within).counted;
  few = added.expands.few;
  counted = (let before = are.counted in let one = ap length is in omega arith);
}
  where
    by : (kind : Kind) (b : Bool) → is_of kind s ≡ b → IsGrown library kind (n + 1) rest (expansion_of kind new)
    by kind true same =
        subst (λ k. IsGrown library k (n + 1) rest (expansion_of k new)) (sym (kind-is_of kind s same))
        (grown_on library s.kind n seen count s rest (expansion_of s.kind old) (expansion_of s.kind new) (is_of-own s) added (subst (λ ss. IsGrown library s.kind n ss (expansion_of s.kind old)) is (are.grown s.kind)))
    by kind false other = elim (others kind) [
      | inl is_kind ↦ (let is_true : is_of kind s ≡ true = subst (λ k. is_of k s ≡ true) (sym is_kind) (is_of-own s) in cc)
      | inr unchanged ↦ subst (IsGrown library kind (n + 1) rest) (sym unchanged) (grown_other library kind n s rest (expansion_of kind old) other (subst (λ ss. IsGrown library kind n ss (expansion_of kind old)) is (are.grown kind)))
    ]

pub section_blamed : (library : Library) (n seen : ℕ) (s : Section) (left rest : List Section) (old : Bodies) (e : Fault) → left ≡ s ∷ rest → AreGrown library n left seen old → Blames seen (in_map most_depth library s.kind (record { file = 0; section = n })) e → Blames 0 (findings library) e
section_blamed library n seen s left rest old e is are (inl memory) = inl memory
section_blamed library n seen s left rest old e is are (inr has) =
    inr (fault-left 0 (findings library) seen (in_sections (λ kind place. in_map most_depth library kind place) n left) e are.going are.few
    (subst (λ ss. HasFaultFrom seen (in_sections (λ kind place. in_map most_depth library kind place) n ss) e) (sym is) (fault-first seen (in_map most_depth library s.kind (record { file = 0; section = n })) (in_sections (λ kind place. in_map most_depth library kind place) (n + 1) rest) e has)))

pub all_whole : (library : Library) (n seen : ℕ) (left : List Section) (b : Bodies) → length left ≡ 0 → AreGrown library n left seen b → IsWhole library
all_whole library n seen (s ∷ left) b none are = absurd (omega (arith, none))
all_whole library n seen [] b none are =
    let ends = left-none 0 (findings library) seen are.going in
    (ends.0, (let count = ends.1 in let few = are.few in omega arith))

pub all_bodies : (library : Library) (n seen : ℕ) (left : List Section) (b : Bodies) → length left ≡ 0 → AreGrown library n left seen b → AreBodies library b
all_bodies library n seen (s ∷ left) b none are = absurd (omega (arith, none))
all_bodies library n seen [] b none are = record { keycodes = body Keycodes; types = body Types; compat = body Compat; symbols = body Symbols; geometry = body Geometry }
  where
    body : (kind : Kind) → expanded_body (expansion_of kind b) ≡ body_of library kind
    body kind =
        let x = expansion_of kind b in
        ap (λ bs. shared_sections bs x.sections.items) (sym (append-nil (bodies_of x.maps.items)))
        ∙ ap (shared_sections (bodies_of x.maps.items ++ [])) (sym (append-nil x.sections.items))
        ∙ (are.grown kind).joins [] [] refl

-- the section of a number, and those after it
drop-at : {X : Type 0} (xs : List X) (n : ℕ) (x : X) → slice_get xs n ≡ Some x → drop n xs ≡ x ∷ drop (suc n) xs
drop-at [] n x e = cc
drop-at (y ∷ ys) zero x e = let same : y ≡ x = cc in ap (λ (z : _). z ∷ ys) same
drop-at (y ∷ ys) (suc n) x e = drop-at ys n x e

pub drop-found : {X : Type 0} (xs : List X) (n : ℕ) (x : X) → slice_get xs n ≡ Some x → drop n xs ≡ x ∷ drop (n + 1) xs
drop-found xs n x e = let next : suc n ≡ n + 1 = omega arith in drop-at xs n x e ∙ ap (λ (k : ℕ). x ∷ drop k xs) next

-- none is left after the last
pub none-left : {X : Type 0} (xs : List X) (n : ℕ) → length xs ≤ n → length (drop n xs) ≡ 0
none-left xs n h = let count = length-drop n xs in omega arith
