-- What is left where a pair takes the place of those that share its name or its code.
use Rattle.std.proofs.Common.{◌≡◌, IfSome, ℕ, Bool, true, false, cond, List, Option, None, Some, refl, sym, ap, ◌∙◌, nat_eq}
use Rattle.std.proofs.lemmas.Slice.Eq.{bytes_eq-Decides}
use Rattle.std.specs.Cmp.{unsigned_Decides}
use Rattle.std.specs.Str.{bytes_eq}
use Rattle.kx_tree.specs.declared.tree.Mode.TheVariants.{Override}
use Rattle.kx_codes.proofs.Distinct.{code_of_name, name_of_code, taken_distinct}
use Rattle.kx_codes.proofs.Matching.{gone_none, gone_some, look_without_other, unless}
use Rattle.kx_codes.proofs.Standing.{apart, apart-back, over-codes, over-names, over-step, same_pair}
use Rattle.kx_codes.specs.Indexed.{Indexed, Stands}
use Rattle.kx_codes.specs.Pairs.{Pair, code_in, name_in}
use Rattle.kx_codes.proofs.Entries.{flip}

-- what is left at a key where another's entry, if there is one, is dropped
abbrev pub dropped : {K V : Type 0} → (K → K → Bool) → Option K → K → Option V → Option V
dropped eq None k o = o
dropped eq (Some j) k o = cond (eq j k) None o

swap : {V : Type 0} (a b : Bool) (v o : Option V) → (a ≡ true → b ≡ true → ⊥) → cond a None (cond b v o) ≡ cond b v (cond a None o)
swap true true v o never = absurd (never refl refl)
swap true false v o never = refl
swap false b v o never = refl

pub dropped_names : (x y : Indexed) (o : Option ℕ) → IfSome o (λ d. (c : ℕ) → name_in y.by_code c ≡ cond (nat_eq d c) None (name_in x.by_code c)) → (o ≡ None → y ≡ x) → (c : ℕ) → name_in y.by_code c ≡ dropped nat_eq o c (name_in x.by_code c)
dropped_names x y None h same c = ap (λ m. name_in m.by_code c) (same refl)
dropped_names x y (Some d) h same c = h c

pub dropped_codes : (x y : Indexed) (o : Option (List ℕ)) → IfSome o (λ m. (n : List ℕ) → code_in y.by_name n ≡ cond (bytes_eq m n) None (code_in x.by_name n)) → (o ≡ None → y ≡ x) → (n : List ℕ) → code_in y.by_name n ≡ dropped bytes_eq o n (code_in x.by_name n)
dropped_codes x y None h same n = ap (λ m. code_in m.by_name n) (same refl)
dropped_codes x y (Some m) h same n = h n

pub name_stays : (o : Option ℕ) (code : ℕ) (name : Option (List ℕ)) → (o ≡ Some code → ⊥) → dropped nat_eq o code name ≡ name
name_stays None code name new = refl
name_stays (Some d) code name new = by (nat_eq d code) (unsigned_Decides d code).0
  where
    by : (b : Bool) → (b ≡ true → d ≡ code) → cond b None name ≡ name
    by true same = absurd (new (ap Some (same refl)))
    by false same = refl

module _ (ps : List Pair) (x : Indexed) (s : Stands x ps) where
  -- no name but a code's own has the code
  codes-left : (code : ℕ) (other : Option (List ℕ)) → name_in ps code ≡ other → (n : List ℕ) → dropped bytes_eq other n (code_in ps n) ≡ unless (nat_eq code) (code_in ps n)
  codes-left code None is n =
      gone_none (λ p. p.code) (λ p. p.name) nat_eq bytes_eq unsigned_Decides bytes_eq-Decides ps (apart ps s.distinct_are) (λ a b h. code_of_name ps a b s.distinct_are h) (λ a b h. name_of_code ps a b s.distinct_are h) code n is
      ∙ look_without_other (λ p. p.name) (λ p. p.code) bytes_eq nat_eq bytes_eq-Decides unsigned_Decides ps code n (apart ps s.distinct_are)
  codes-left code (Some m) is n =
      gone_some (λ p. p.code) (λ p. p.name) nat_eq bytes_eq unsigned_Decides bytes_eq-Decides ps (apart ps s.distinct_are) (λ a b h. code_of_name ps a b s.distinct_are h) (λ a b h. name_of_code ps a b s.distinct_are h) code m n is
      ∙ look_without_other (λ p. p.name) (λ p. p.code) bytes_eq nat_eq bytes_eq-Decides unsigned_Decides ps code n (apart ps s.distinct_are)

  names-left : (name : List ℕ) (before : Option ℕ) → code_in ps name ≡ before → (c : ℕ) → dropped nat_eq before c (name_in ps c) ≡ unless (bytes_eq name) (name_in ps c)
  names-left name None is c =
      gone_none (λ p. p.name) (λ p. p.code) bytes_eq nat_eq bytes_eq-Decides unsigned_Decides ps (apart-back ps s.distinct_are) (λ a b h. name_of_code ps b a s.distinct_are h) (λ a b h. code_of_name ps b a s.distinct_are h) name c is
      ∙ look_without_other (λ p. p.code) (λ p. p.name) nat_eq bytes_eq unsigned_Decides bytes_eq-Decides ps name c (apart-back ps s.distinct_are)
  names-left name (Some d) is c =
      gone_some (λ p. p.name) (λ p. p.code) bytes_eq nat_eq bytes_eq-Decides unsigned_Decides ps (apart-back ps s.distinct_are) (λ a b h. name_of_code ps b a s.distinct_are h) (λ a b h. code_of_name ps b a s.distinct_are h) name d c is
      ∙ look_without_other (λ p. p.code) (λ p. p.name) nat_eq bytes_eq unsigned_Decides bytes_eq-Decides ps name c (apart-back ps s.distinct_are)

  pub takes_place : (y : Indexed) (p : Pair) (before : Option ℕ) (other : Option (List ℕ)) → code_in x.by_name p.name ≡ before → (before ≡ Some p.code → ⊥) → name_in x.by_code p.code ≡ other
      → ((n : List ℕ) → code_in y.by_name n ≡ dropped bytes_eq other n (cond (bytes_eq p.name n) (Some p.code) (code_in x.by_name n)))
      → ((c : ℕ) → name_in y.by_code c ≡ cond (nat_eq p.code c) (Some p.name) (dropped nat_eq before c (name_in x.by_code c)))
      → Stands y (over-step ps p)
  takes_place y p before other had new was codes names = record {
    distinct_are = taken_distinct Override ps p s.distinct_are;
    codes_are = λ n. codes n ∙ moved other was n ∙ ap (λ b. cond b (Some p.code) (dropped bytes_eq other n (code_in x.by_name n))) (flip bytes_eq bytes_eq-Decides p.name n)
        ∙ ap (λ o. cond (bytes_eq n p.name) (Some p.code) (dropped bytes_eq other n o)) (s.codes_are n)
        ∙ ap (cond (bytes_eq n p.name) (Some p.code)) (codes-left p.code other (sym (s.names_are p.code) ∙ was) n)
        ∙ sym (over-codes ps p n s.distinct_are);
    names_are = λ c. names c ∙ ap (λ b. cond b (Some p.name) (dropped nat_eq before c (name_in x.by_code c))) (flip nat_eq unsigned_Decides p.code c)
        ∙ ap (λ o. cond (nat_eq c p.code) (Some p.name) (dropped nat_eq before c o)) (s.names_are c)
        ∙ ap (cond (nat_eq c p.code) (Some p.name)) (names-left p.name before (sym (s.codes_are p.name) ∙ had) c)
        ∙ sym (over-names ps p c s.distinct_are);
  }
    where
      moved : (o : Option (List ℕ)) → name_in x.by_code p.code ≡ o → (n : List ℕ) → dropped bytes_eq o n (cond (bytes_eq p.name n) (Some p.code) (code_in x.by_name n)) ≡ cond (bytes_eq p.name n) (Some p.code) (dropped bytes_eq o n (code_in x.by_name n))
      moved None is n = refl
      moved (Some m) is n = swap (bytes_eq m n) (bytes_eq p.name n) (Some p.code) (code_in x.by_name n)
          (λ a b. new (sym had ∙ s.codes_are p.name ∙ code_of_name ps p.code p.name s.distinct_are (sym (s.names_are p.code) ∙ is ∙ ap Some ((bytes_eq-Decides m n).0 a ∙ sym ((bytes_eq-Decides p.name n).0 b)))))

  -- a pair that is there already
  pub same_place : (y : Indexed) (p : Pair) → code_in x.by_name p.name ≡ Some p.code → ((n : List ℕ) → code_in y.by_name n ≡ cond (bytes_eq p.name n) (Some p.code) (code_in x.by_name n)) → y.by_code ≡ x.by_code → Stands y (over-step ps p)
  same_place y p there codes names = same_pair Override y ps p (codes p.name ∙ stays p.name ∙ there) (record {
    distinct_are = s.distinct_are;
    codes_are = λ n. codes n ∙ stays n ∙ s.codes_are n;
    names_are = λ c. ap (λ l. name_in l c) names ∙ s.names_are c;
  })
    where
      stays : (n : List ℕ) → cond (bytes_eq p.name n) (Some p.code) (code_in x.by_name n) ≡ code_in x.by_name n
      stays n = by (bytes_eq p.name n) (bytes_eq-Decides p.name n).0
        where
          by : (b : Bool) → (b ≡ true → p.name ≡ n) → cond b (Some p.code) (code_in x.by_name n) ≡ code_in x.by_name n
          by true same = sym there ∙ ap (code_in x.by_name) (same refl)
          by false same = refl
