-- Going over a body: what is after and what is left of it.
use Rattle.std.proofs.Common.{IfErr, OnOk, ◌≡◌, true, Some, ℕ, ◌+◌, ◌<◌, ◌≤◌, zero, suc, List, [], ◌∷◌, ◌++◌, length, drop, get_or, Contains, Option, None, Result, Ok, Err, refl, sym, ap, ◌∙◌, subst, arith}
use Rattle.std.proofs.lemmas.List.{append-nil, append_assoc}
use Rattle.std.proofs.lemmas.List.Elements.{Contains-append_left}
use Rattle.std.specs.List.{slice_get}
use Rattle.std.specs.Result.{IsErrAnd}
use Rattle.kx_lex.specs.declared.fault.Fault.{Fault}
use Rattle.kx_lex.specs.declared.fault.Fault.TheVariants.{Memory}
use Rattle.kx_tree.specs.declared.tree.Mode.{Mode}
use Rattle.kx_include.specs.Expansion.{Body, End, Own, Inc}
use Rattle.kx_include.specs.Shared.{body_at, bodies_behind, entries_body, links_body, shared_body, shared_sections}
use Rattle.kx_include.specs.declared.expansion.Entry.{Entry}
use Rattle.kx_include.specs.declared.expansion.Entry.TheVariants as entry
use Rattle.kx_include.specs.declared.expansion.Link.{Link}
use Rattle.kx_include.specs.declared.expansion.Map.{Map}
use Rattle.kx_include.specs.declared.place.Place.{Place}
use Rattle.kx_codes.proofs.Distinct.{all_distinct, from_distinct}
use Rattle.kx_codes.proofs.Numbering.{none_stand, same_distinct, stands_alike, stands_grow, took_others}
use Rattle.kx_codes.specs.Numbers.{Grows, IsOnce, StandsIn}
use Rattle.kx_codes.proofs.Standing.{once_stands}
use Rattle.kx_codes.specs.CodeFaults.{faults_of, said_faults}
use Rattle.kx_codes.specs.Gathering.{AreGathered, Blames, IsFound, IsGathered, Leaves, Took}
use Rattle.kx_codes.specs.Indexed.{Indexed, Stands, distinct}
use Rattle.kx_codes.specs.Pairs.{Pair, all_taken, pairs_from, pairs_of}
use Rattle.kx_merge.proofs.Going.{drop_next}

-- from pairs and a body, some of the body is after in what is gathered now, by the numbers of names, without a fault
pub record Going (Old : List Pair → Type 0) (names : List (List ℕ)) (now : Indexed) (whole left : Body) : Type 0 where
  pub pairs_go : (ps : List Pair) → Old ps → (qs : List Pair) × StandsIn names now qs × (pairs_from qs left ≡ pairs_from ps whole)
  pub faults_go : faults_of whole ≡ faults_of left

-- a body is one and then another
pub record Splits (left one rest : Body) : Type 0 where
  pub pairs_split : (ps : List Pair) → pairs_from ps left ≡ pairs_from (pairs_from ps one) rest
  pub faults_split : faults_of left ≡ faults_of one ++ faults_of rest

module _ (Old : List Pair → Type 0) where
  pub going_on : (whole left one rest : Body) (before after : List (List ℕ)) (now new : Indexed) → Splits left one rest → Going Old before now whole left → Took before after now new one → Going Old after new whole rest
  going_on whole left one rest before after now new split g t = record {
    pairs_go = λ ps old. (pairs_from (g.pairs_go ps old).0 one, t.pairs_are (g.pairs_go ps old).0 (g.pairs_go ps old).1, sym (split.pairs_split (g.pairs_go ps old).0) ∙ (g.pairs_go ps old).2);
    faults_go = g.faults_go ∙ split.faults_split ∙ ap (λ fs. fs ++ faults_of rest) t.faultless;
  }

  pub going_blames : (whole left one rest : Body) (names : List (List ℕ)) (now : Indexed) (e : Fault) → Splits left one rest → Going Old names now whole left → Blames one e → Blames whole e
  going_blames whole left one rest names now e split g has = subst (λ fs. Contains (Memory ∷ fs) e) (sym (g.faults_go ∙ split.faults_split)) (Contains-append_left (Memory ∷ faults_of one) (faults_of rest) e has)

pub leaves_all : (names : List (List ℕ)) (now : Indexed) (whole : Body) → Going (λ ps. ps ≡ []) names now whole End → Leaves names whole now
leaves_all names now whole g = record {
  pairs_are = subst (StandsIn names now) (g.pairs_go [] refl).2 (g.pairs_go [] refl).1;
  faultless = g.faults_go;
}

pub going_new : (names : List (List ℕ)) (g : Indexed) (whole left : Body) → Stands g [] → ((ps : List Pair) → pairs_from ps left ≡ pairs_from ps whole) → faults_of whole ≡ faults_of left → Going (λ ps. ps ≡ []) names g whole left
going_new names g whole left s p f = record {
  pairs_go = λ ps is. ([], none_stand names g s, p [] ∙ ap (λ qs. pairs_from qs whole) (sym is));
  faults_go = f;
}

module _ (bodies : List Body) where
  split-entry : (place : Place) (x : Entry) (xs : List Entry) → Splits (entries_body bodies place (x ∷ xs) End) (entries_body bodies place (x ∷ []) End) (entries_body bodies place xs End)
  split-entry place (entry.Own stated) xs = record { pairs_split = λ ps. refl; faults_split = ap (λ fs. fs ++ faults_of (entries_body bodies place xs End)) (sym (append-nil _)) }
  split-entry place (entry.Include mode links) xs = record { pairs_split = λ ps. refl; faults_split = ap (λ fs. fs ++ faults_of (entries_body bodies place xs End)) (sym (append-nil _)) }

  pub split_entry : (place : Place) (es : List Entry) (i : ℕ) (x : Entry) → i < length es → x ≡ get_or es i x → Splits (entries_body bodies place (drop i es) End) (entries_body bodies place (x ∷ []) End) (entries_body bodies place (drop (i + 1) es) End)
  split_entry place es i x within is = subst (λ xs. Splits (entries_body bodies place xs End) (entries_body bodies place (x ∷ []) End) (entries_body bodies place (drop (i + 1) es) End)) (sym (drop_next es i x within is)) (split-entry place x (drop (i + 1) es))

  pub split_link : (ls : List Link) (i : ℕ) (l : Link) → i < length ls → l ≡ get_or ls i l → Splits (links_body bodies (drop i ls)) (links_body bodies (l ∷ [])) (links_body bodies (drop (i + 1) ls))
  split_link ls i l within is = subst (λ xs. Splits (links_body bodies xs) (links_body bodies (l ∷ [])) (links_body bodies (drop (i + 1) ls))) (sym (drop_next ls i l within is))
      (record { pairs_split = λ ps. refl; faults_split = ap (λ fs. fs ++ faults_of (links_body bodies (drop (i + 1) ls))) (sym (append-nil (faults_of (body_at bodies l.map)))) })

  pairs-behind : (place : Place) (xs : List Entry) (rest : Body) (ps : List Pair) → pairs_from ps (entries_body bodies place xs rest) ≡ pairs_from (pairs_from ps (entries_body bodies place xs End)) rest
  pairs-behind place [] rest ps = refl
  pairs-behind place (entry.Own stated ∷ xs) rest ps = pairs-behind place xs rest (pairs_from ps (Own place stated.now End))
  pairs-behind place (entry.Include mode links ∷ xs) rest ps = pairs-behind place xs rest (pairs_from ps (Inc mode None (links_body bodies links.items) End))

  faults-behind : (place : Place) (xs : List Entry) (rest : Body) → faults_of (entries_body bodies place xs rest) ≡ faults_of (entries_body bodies place xs End) ++ faults_of rest
  faults-behind place [] rest = refl
  faults-behind place (entry.Own stated ∷ xs) rest =
      (let said = said_faults place.file stated.now.statement stated.now.first stated.now.span in
      ap (λ gs. said ++ gs) (faults-behind place xs rest) ∙ sym (append_assoc said (faults_of (entries_body bodies place xs End)) (faults_of rest)))
  faults-behind place (entry.Include mode links ∷ xs) rest = ap (λ gs. faults_of (links_body bodies links.items) ++ gs) (faults-behind place xs rest) ∙ sym (append_assoc (faults_of (links_body bodies links.items)) (faults_of (entries_body bodies place xs End)) (faults_of rest))

  pub split_section : (ms : List Map) (i : ℕ) (m : Map) → i < length ms → m ≡ get_or ms i m → Splits (shared_sections bodies (drop i ms)) (shared_body bodies m End) (shared_sections bodies (drop (i + 1) ms))
  split_section ms i m within is = subst (λ xs. Splits (shared_sections bodies xs) (shared_body bodies m End) (shared_sections bodies (drop (i + 1) ms))) (sym (drop_next ms i m within is)) (record {
    pairs_split = pairs-behind m.place m.entries.items (shared_sections bodies (drop (i + 1) ms));
    faults_split = faults-behind m.place m.entries.items (shared_sections bodies (drop (i + 1) ms));
  })

-- an include of what was gathered of a body
pub took_included : (names : List (List ℕ)) → IsOnce names → (old new g : Indexed) (mode : Mode) (group : Option ℕ) (body : Body) → Leaves names body g → ((ps qs : List Pair) → Stands old ps → Stands g qs → Stands new (all_taken mode ps qs)) → Took names names old new (Inc mode group body End)
took_included names once old new g mode group body is pairs = record {
  pairs_are = λ ps s. took_others names once old new g mode pairs ps (pairs_of body) s is.pairs_are;
  faultless = ap (λ fs. fs ++ []) is.faultless;
}

pub blamed_included : (mode : Mode) (group : Option ℕ) (body : Body) (e : Fault) → Blames body e → Blames (Inc mode group body End) e
blamed_included mode group body e has = Contains-append_left (Memory ∷ faults_of body) [] e has

-- lack of memory, and faults that `?` passes on
pub memory_blamed : (body : Body) (e : Fault) → e ≡ Memory → Blames body e
memory_blamed body e is = (0, omega arith, sym is)

pub err_gathered : (names : List (List ℕ)) (r : Result Indexed Fault) (body : Body) (e : Fault) → IsErrAnd r (λ y. y ≡ e) → Blames body e → IsGathered names body r
err_gathered names (Ok g) body e is has = absurd is
err_gathered names (Err y) body e is has = subst (Blames body) (sym is) has

-- one more map is gathered
module _ (names : List (List ℕ)) where
  pushed-at : (done : List (Result Indexed Fault)) (bodies : List Body) (r : Result Indexed Fault) (b : Body) → length done ≡ length bodies → ((n : ℕ) → IsFound names (body_at bodies n) (slice_get done n)) → IsGathered names b r
      → (n : ℕ) → IsFound names (body_at (bodies ++ b ∷ []) n) (slice_get (done ++ r ∷ []) n)
  pushed-at [] [] r b same each is zero = is
  pushed-at [] [] r b same each is (suc n) = refl
  pushed-at [] (c ∷ bodies) r b same each is n = absurd (omega (arith, same))
  pushed-at (d ∷ done) [] r b same each is n = absurd (omega (arith, same))
  pushed-at (d ∷ done) (c ∷ bodies) r b same each is zero = each zero
  pushed-at (d ∷ done) (c ∷ bodies) r b same each is (suc n) = pushed-at done bodies r b (omega (arith, same)) (λ k. each (suc k)) is n

length-pushed : {X : Type 0} (xs : List X) (x : X) → length (xs ++ x ∷ []) ≡ length xs + 1
length-pushed [] x = refl
length-pushed (y ∷ ys) x = omega (arith, length-pushed ys x)

-- what is gathered stays so where names grow
module _ (old new : List (List ℕ)) (g : Grows old new) where
  gathered-grow : (body : Body) (r : Result Indexed Fault) → IsGathered old body r → IsGathered new body r
  gathered-grow body (Ok x) is = record { pairs_are = stands_grow old new g x (pairs_of body) is.pairs_are; faultless = is.faultless }
  gathered-grow body (Err e) is = is

  found-grow : (body : Body) (o : Option (Result Indexed Fault)) → IsFound old body o → IsFound new body o
  found-grow body None is = is
  found-grow body (Some r) is = gathered-grow body r is

  pub all_grow : (done : List (Result Indexed Fault)) (bodies : List Body) → AreGathered old done bodies → AreGathered new done bodies
  all_grow done bodies are = record { once = g.once; count_is = are.count_is; each_is = λ n. found-grow (body_at bodies n) (slice_get done n) (are.each_is n) }

pub one_gathered : (old new : List (List ℕ)) → Grows old new → (done : List (Result Indexed Fault)) (bodies : List Body) (r : Result Indexed Fault) (b : Body) → AreGathered old done bodies → IsGathered new b r → AreGathered new (done ++ r ∷ []) (bodies ++ b ∷ [])
one_gathered old new g done bodies r b before is =
    let are = all_grow old new g done bodies before in
    record {
      once = g.once;
      count_is = length-pushed done r ∙ ap (λ n. n + 1) are.count_is ∙ sym (length-pushed bodies b);
      each_is = pushed-at new done bodies r b are.count_is are.each_is is;
    }

pub behind_next : (bodies : List Body) (ms : List Map) (i : ℕ) (m : Map) (all : List Body) → i < length ms → m ≡ get_or ms i m → bodies_behind bodies (drop i ms) ≡ all → bodies_behind (bodies ++ shared_body bodies m End ∷ []) (drop (i + 1) ms) ≡ all
behind_next bodies ms i m all within is before = sym (ap (bodies_behind bodies) (drop_next ms i m within is)) ∙ before

-- a single part of an include, taken under the include's mode
pub took_once : (names : List (List ℕ)) → IsOnce names → (old new : Indexed) (mode inner : Mode) (group : Option ℕ) (body : Body) → Took names names old new (Inc mode group body End) → Took names names old new (Inc mode None (Inc inner group body End) End)
took_once names once old new mode inner group body t = record {
  pairs_are = λ ps s.
      let left : List Pair = all_taken mode ps (pairs_of body) in
      let before : distinct ps ≡ true = sym (same_distinct names once s.numbered ps s.are) ∙ s.stands.distinct_are in
      let own : Stands (record { by_name = left; by_code = left }) left = record { distinct_are = all_distinct mode ps (pairs_of body) before; codes_are = λ name. refl; names_are = λ code. refl } in
      let again = once_stands mode inner (record { by_name = left; by_code = left }) ps (pairs_of body) before (from_distinct [] body refl) own in
      stands_alike names once new left (all_taken mode ps (all_taken inner [] (pairs_of body))) (t.pairs_are ps s) again.distinct_are again.codes_are again.names_are;
  faultless = ap (λ fs. fs ++ []) t.faultless;
}

pub blamed_once : (mode inner : Mode) (group : Option ℕ) (body : Body) (e : Fault) → Blames (Inc mode group body End) e → Blames (Inc mode None (Inc inner group body End) End) e
blamed_once mode inner group body e has = Contains-append_left (Memory ∷ faults_of (Inc mode group body End)) [] e has

pub single : (ls : List Link) (d : Link) → 1 ≤ length ls → length ls < 2 → ls ≡ get_or ls 0 d ∷ []
single [] d h k = absurd (omega (arith, h))
single (l ∷ []) d h k = refl
single (l ∷ m ∷ ls) d h k = absurd (omega (arith, k))

pub err_passed : {X : Type 0} (r : Result X Fault) (P : Fault → Type 0) (e : Fault) → IsErrAnd r (λ y. y ≡ e) → P e → IfErr r P
err_passed (Ok x) P e is p = tt
err_passed (Err y) P e is p = subst P (sym is) p

-- what a call's answer gives, where it is one
pub on_ok : {X F : Type 0} (r : Result X F) {A B : Type 0} → (A → B) → OnOk r A → OnOk r B
on_ok (Ok x) f a = f a
on_ok (Err e) f a = tt

pub if_err : {X F : Type 0} (r : Result X F) {P Q : F → Type 0} → ((e : F) → P e → Q e) → IfErr r P → IfErr r Q
if_err (Ok x) f a = tt
if_err (Err e) f a = f e a

-- the element at a place
pub item_at : {X : Type 0} (xs : List X) (i : ℕ) (x : X) → i < length xs → x ≡ get_or xs i x → slice_get xs i ≡ Some x
item_at [] i x lt is = absurd (omega (arith, lt))
item_at (y ∷ ys) zero x lt is = ap Some (sym is)
item_at (y ∷ ys) (suc i) x lt is = item_at ys i x (omega (arith, lt)) is
