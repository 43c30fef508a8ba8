-- No two pairs that a keycodes body leaves share a name or a code.
use Rattle.std.proofs.Common.{◌≡◌, ℕ, Bool, true, false, cond, ◌||◌, ◌&&◌, not, ◌==◌, List, [], ◌∷◌, ◌++◌, Some, is_some, unwrap_or, refl, sym, ap, ◌∙◌, filter}
use Rattle.std.specs.Cmp.{unsigned_Decides}
use Rattle.std.specs.List.{list_any}
use Rattle.std.specs.Str.{bytes_eq}
use Rattle.std.proofs.lemmas.Bool.{false≢true, or_from, or_right}
use Rattle.std.proofs.lemmas.List.Folds.{list_any-append}
use Rattle.std.proofs.lemmas.Slice.Eq.{bytes_eq-Decides}
use Rattle.kx_tree.specs.declared.tree.Mode.{Mode}
use Rattle.kx_tree.specs.declared.tree.Mode.TheVariants.{Augment, Override, Replace}
use Rattle.kx_tree.specs.declared.tree.Statement.{Statement as Said}
use Rattle.kx_tree.specs.declared.tree.Statement.TheVariants as said
use Rattle.kx_include.specs.Expansion.{Body, End, Begin, Own, Inc}
use Rattle.kx_codes.specs.Indexed.{distinct}
use Rattle.kx_codes.specs.Pairs.{Pair, shares, without, taken, all_taken, said_pairs, pairs_from, code_in, name_in}
use Rattle.kx_merge.proofs.OnePart.{or-first, or-last}

either-way : (a b c d : Bool) → (c ≡ true → a ≡ true) → (d ≡ true → b ≡ true) → (a || b) ≡ false → (c || d) ≡ false
either-way true b c d f g h = absurd (false≢true (sym h))
either-way false true c d f g h = absurd (false≢true (sym h))
either-way false false true d f g h = absurd (false≢true (f refl))
either-way false false false true f g h = absurd (false≢true (g refl))
either-way false false false false f g h = refl

pub shares_sym : (p q : Pair) → shares p q ≡ false → shares q p ≡ false
shares_sym p q = either-way (bytes_eq p.name q.name) (p.code == q.code) (bytes_eq q.name p.name) (q.code == p.code)
    (λ h. (bytes_eq-Decides p.name q.name).1 (sym ((bytes_eq-Decides q.name p.name).0 h)))
    (λ h. (unsigned_Decides p.code q.code).1 (sym ((unsigned_Decides q.code p.code).0 h)))

pub no_first : (a b : Bool) → (not a && b) ≡ true → a ≡ false
no_first true b h = absurd (false≢true h)
no_first false b h = refl

pub no_second : (a b : Bool) → (not a && b) ≡ true → b ≡ true
no_second true b h = absurd (false≢true h)
no_second false b h = h

pub both_of : (a b : Bool) → a ≡ false → b ≡ true → (not a && b) ≡ true
both_of true b h k = absurd (false≢true (sym h))
both_of false b h k = k

pub pushed : (ps : List Pair) (p : Pair) → distinct ps ≡ true → list_any (shares p) ps ≡ false → distinct (ps ++ p ∷ []) ≡ true
pushed [] p h k = refl
pushed (q ∷ qs) p h k =
    both_of (list_any (shares q) (qs ++ p ∷ [])) (distinct (qs ++ p ∷ []))
    (list_any-append (shares q) qs (p ∷ []) ∙ or_from (list_any (shares q) qs) (shares q p || false) (no_first (list_any (shares q) qs) (distinct qs) h) (or_from (shares q p) false (shares_sym p q (or-first (shares p q) (list_any (shares p) qs) k)) refl))
    (pushed qs p (no_second (list_any (shares q) qs) (distinct qs) h) (or-last (shares p q) (list_any (shares p) qs) k))

module _ (keep : Pair → Bool) where
  any-kept : (test : Pair → Bool) (ps : List Pair) → list_any test ps ≡ false → list_any test (filter keep ps) ≡ false
  any-kept test [] h = refl
  any-kept test (q ∷ qs) h = by (keep q) (or-first (test q) (list_any test qs) h) (any-kept test qs (or-last (test q) (list_any test qs) h))
    where
      by : (b : Bool) → test q ≡ false → list_any test (filter keep qs) ≡ false → list_any test (cond b (q ∷ filter keep qs) (filter keep qs)) ≡ false
      by true one rest = or_from (test q) (list_any test (filter keep qs)) one rest
      by false one rest = rest

  pub kept_distinct : (ps : List Pair) → distinct ps ≡ true → distinct (filter keep ps) ≡ true
  kept_distinct [] h = refl
  kept_distinct (q ∷ qs) h = by (keep q) (any-kept (shares q) qs (no_first (list_any (shares q) qs) (distinct qs) h)) (kept_distinct qs (no_second (list_any (shares q) qs) (distinct qs) h))
    where
      by : (b : Bool) → list_any (shares q) (filter keep qs) ≡ false → distinct (filter keep qs) ≡ true → distinct (cond b (q ∷ filter keep qs) (filter keep qs)) ≡ true
      by true one rest = both_of (list_any (shares q) (filter keep qs)) (distinct (filter keep qs)) one rest
      by false one rest = rest

pub none_left : (p : Pair) (ps : List Pair) → list_any (shares p) (without p ps) ≡ false
none_left p [] = refl
none_left p (q ∷ qs) = by (shares p q) refl (none_left p qs)
  where
    by : (b : Bool) → shares p q ≡ b → list_any (shares p) (without p qs) ≡ false → list_any (shares p) (cond (not b) (q ∷ without p qs) (without p qs)) ≡ false
    by true e rest = rest
    by false e rest = or_from (shares p q) (list_any (shares p) (without p qs)) e rest

pub taken_distinct : (mode : Mode) (ps : List Pair) (p : Pair) → distinct ps ≡ true → distinct (taken mode ps p) ≡ true
taken_distinct Augment ps p h = by (list_any (shares p) ps) refl
  where
    by : (b : Bool) → list_any (shares p) ps ≡ b → distinct (cond b ps (ps ++ p ∷ [])) ≡ true
    by true e = h
    by false e = pushed ps p h e
taken_distinct Override ps p h = pushed (without p ps) p (kept_distinct (λ q. not (shares p q)) ps h) (none_left p ps)
taken_distinct Replace ps p h = pushed (without p ps) p (kept_distinct (λ q. not (shares p q)) ps h) (none_left p ps)

pub all_distinct : (mode : Mode) (ps qs : List Pair) → distinct ps ≡ true → distinct (all_taken mode ps qs) ≡ true
all_distinct mode ps [] h = h
all_distinct mode ps (q ∷ qs) h = all_distinct mode (taken mode ps q) qs (taken_distinct mode ps q h)

said-distinct : (mode : Mode) (s : Said) (ps : List Pair) → distinct ps ≡ true → distinct (said_pairs mode s ps) ≡ true
said-distinct mode (said.Keycode name code) ps h = taken_distinct mode ps (record { name = name.bytes; code = code.value }) h
said-distinct mode _ ps h = h

pub from_distinct : (ps : List Pair) (body : Body) → distinct ps ≡ true → distinct (pairs_from ps body) ≡ true
from_distinct ps End h = h
from_distinct ps (Begin rest) h = from_distinct ps rest h
from_distinct ps (Own place stated rest) h = from_distinct (said_pairs stated.mode stated.statement ps) rest (said-distinct stated.mode stated.statement ps h)
from_distinct ps (Inc mode group body rest) h = from_distinct (all_taken mode ps (pairs_from [] body)) rest (all_distinct mode ps (pairs_from [] body) h)

or-left : (a b r : Bool) → a ≡ true → ((a || b) || r) ≡ true
or-left true b r h = refl
or-left false b r h = absurd (false≢true h)

or-middle : (a b r : Bool) → b ≡ true → ((a || b) || r) ≡ true
or-middle true b r h = refl
or-middle false true r h = refl
or-middle false false r h = absurd (false≢true h)

-- a pair shares its name with the one that gives the name a code
code-any : (name : List ℕ) (c : ℕ) (p : Pair) (ps : List Pair) → p.name ≡ name → code_in ps name ≡ Some c → list_any (shares p) ps ≡ true
code-any name c p [] is h = absurd (false≢true (ap is_some h))
code-any name c p (q ∷ qs) is h = by (bytes_eq name q.name) refl (code-any name c p qs is) h
  where
    by : (b : Bool) → bytes_eq name q.name ≡ b → (code_in qs name ≡ Some c → list_any (shares p) qs ≡ true) → cond b (Some q.code) (code_in qs name) ≡ Some c → (shares p q || list_any (shares p) qs) ≡ true
    by true e rest h = or-left (bytes_eq p.name q.name) (p.code == q.code) (list_any (shares p) qs) (ap (λ n. bytes_eq n q.name) is ∙ e)
    by false e rest h = or_right (shares p q) (list_any (shares p) qs) (rest h)

name-any : (code : ℕ) (n : List ℕ) (p : Pair) (ps : List Pair) → p.code ≡ code → name_in ps code ≡ Some n → list_any (shares p) ps ≡ true
name-any code n p [] is h = absurd (false≢true (ap is_some h))
name-any code n p (q ∷ qs) is h = by (code == q.code) refl (name-any code n p qs is) h
  where
    by : (b : Bool) → (code == q.code) ≡ b → (name_in qs code ≡ Some n → list_any (shares p) qs ≡ true) → cond b (Some q.name) (name_in qs code) ≡ Some n → (shares p q || list_any (shares p) qs) ≡ true
    by true e rest h = or-middle (bytes_eq p.name q.name) (p.code == q.code) (list_any (shares p) qs) (ap (λ c. c == q.code) is ∙ e)
    by false e rest h = or_right (shares p q) (list_any (shares p) qs) (rest h)

pub code_of_name : (ps : List Pair) (code : ℕ) (name : List ℕ) → distinct ps ≡ true → name_in ps code ≡ Some name → code_in ps name ≡ Some code
code_of_name [] code name d h = absurd (false≢true (ap is_some h))
code_of_name (p ∷ ps) code name d h = by (code == p.code) (unsigned_Decides code p.code).0 (code_of_name ps code name (no_second (list_any (shares p) ps) (distinct ps) d)) h
  where
    other : (b : Bool) → (b ≡ true → name ≡ p.name) → code_in ps name ≡ Some code → cond b (Some p.code) (code_in ps name) ≡ Some code
    other true same g = absurd (false≢true (sym (no_first (list_any (shares p) ps) (distinct ps) d) ∙ code-any name code p ps (sym (same refl)) g))
    other false same g = g

    by : (b : Bool) → (b ≡ true → code ≡ p.code) → (name_in ps code ≡ Some name → code_in ps name ≡ Some code) → cond b (Some p.name) (name_in ps code) ≡ Some name → cond (bytes_eq name p.name) (Some p.code) (code_in ps name) ≡ Some code
    by true same rest h = ap (λ b. cond b (Some p.code) (code_in ps name)) ((bytes_eq-Decides name p.name).1 (sym (ap (λ o. unwrap_or o name) h))) ∙ ap Some (sym (same refl))
    by false same rest h = other (bytes_eq name p.name) (bytes_eq-Decides name p.name).0 (rest h)

pub name_of_code : (ps : List Pair) (code : ℕ) (name : List ℕ) → distinct ps ≡ true → code_in ps name ≡ Some code → name_in ps code ≡ Some name
name_of_code [] code name d h = absurd (false≢true (ap is_some h))
name_of_code (p ∷ ps) code name d h = by (bytes_eq name p.name) (bytes_eq-Decides name p.name).0 (name_of_code ps code name (no_second (list_any (shares p) ps) (distinct ps) d)) h
  where
    other : (b : Bool) → (b ≡ true → code ≡ p.code) → name_in ps code ≡ Some name → cond b (Some p.name) (name_in ps code) ≡ Some name
    other true same g = absurd (false≢true (sym (no_first (list_any (shares p) ps) (distinct ps) d) ∙ name-any code name p ps (sym (same refl)) g))
    other false same g = g

    by : (b : Bool) → (b ≡ true → name ≡ p.name) → (code_in ps name ≡ Some code → name_in ps code ≡ Some name) → cond b (Some p.code) (code_in ps name) ≡ Some code → cond (code == p.code) (Some p.name) (name_in ps code) ≡ Some name
    by true same rest h = ap (λ b. cond b (Some p.name) (name_in ps code)) ((unsigned_Decides code p.code).1 (sym (ap (λ o. unwrap_or o code) h))) ∙ ap Some (sym (same refl))
    by false same rest h = other (code == p.code) (unsigned_Decides code p.code).0 (rest h)
