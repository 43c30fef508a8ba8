-- The laws of a production, which join what it spells, what it reads and where reading stops. Each way to build a
-- production keeps them.
use Rattle.std.proofs.Common.{cond, ℕ, zero, suc, ◌+◌, ◌≤◌, ◌<◌, min, Bool, true, false, List, [], ◌∷◌, length, ◌≡◌, ◌⊎◌, Option, Some, Result, Err, refl, inl, inr, arith, sym, subst, ap, ◌∙◌}
use Rattle.kx_lex.specs.declared.token.Token.{Token}
use Rattle.kx_lex.specs.declared.fault.Fault.{Fault}
use Rattle.kx_lex.specs.Parsing.{done, then_read, many_read, settle_read}
use Rattle.kx_lex.specs.Spelling.{many_front}
use Rattle.kx_lex.specs.Stops.{syntax_at, syntax_end, StopsAt, IsBehind, StopsWithin}
use Rattle.kx_lex.specs.Production as productions
use Rattle.kx_lex.specs.Production.{Production, give, either, optional, many, one, one_as, known, at_end, noted, fronted, settle, spanned}
use Rattle.kx_lex.proofs.Laws.{done-same, same-done, same-uses, then-first, then-failed, prepend-done, prepend-failed, settle-takes, settle-again, settle-fails, noted-done, noted-failed}
use Rattle.kx_lex.proofs.Nearby.{IsNear, Nearby, NotesNear, at_end-near, either-near, front_span-near, many-near, noted-near, nothing-near, one-near, span_between-near, then-near}
use Rattle.kx_lex.proofs.Reasons.{behind_self, behind_more, behind_token, stops_behind, stops_here, ok_or-stops}

-- what is read is spelled
abbrev pub Takes : {A : Type 0} → Production A → Type 0
Takes {A} p = (ts : List Token) (x : A) (rest : List Token) → p.read ts ≡ done x rest → p.spells ts x rest

-- what is spelled is read
abbrev pub Again : {A : Type 0} → Production A → Type 0
Again {A} p = (ts : List Token) (x : A) (rest : List Token) → p.spells ts x rest → p.read ts ≡ done x rest

-- a fault that is read is blamed
abbrev pub Fails : {A : Type 0} → Production A → Type 0
Fails p = (ts : List Token) (e : Fault) → p.read ts ≡ Err e → p.blames ts e

-- a fault that is blamed is read
abbrev pub Blamed : {A : Type 0} → Production A → Type 0
Blamed p = (ts : List Token) (e : Fault) → p.blames ts e → p.read ts ≡ Err e

-- each spelling takes so many tokens at least
abbrev pub Uses : {A : Type 0} → ℕ → Production A → Type 0
Uses {A} least p = (ts : List Token) (x : A) (rest : List Token) → p.spells ts x rest → length rest + least ≤ length ts

-- what is left is the end of the tokens
abbrev pub Behind : {A : Type 0} → Production A → Type 0
Behind {A} p = (ts : List Token) (x : A) (rest : List Token) → p.spells ts x rest → IsBehind ts rest

-- reading stops at a token or at the end, and a number at which it does is too big
abbrev pub Stops : {A : Type 0} → List ℕ → Production A → Type 0
Stops text p = (ts : List Token) (e : Fault) → p.blames ts e → StopsWithin text ts e

pub record Lawful (text : List ℕ) {A : Type 0} (p : Production A) : Type 0 where
  pub least : ℕ
  pub takes : Takes p
  pub again : Again p
  pub fails : Fails p
  pub blamed : Blamed p
  pub uses : Uses least p
  pub behind : Behind p
  pub stops : Stops text p
  pub near : Nearby p

-- the test lets in each front that the production spells: no tree is lost by it
abbrev pub Admits : {A : Type 0} → (List Token → Bool) → Production A → Type 0
Admits {A} test p = (ts : List Token) (x : A) (rest : List Token) → p.spells ts x rest → test ts ≡ true

pub give-fails : {A : Type 0} (x : A) → Fails (give x)
give-fails x ts e h = cc

abbrev pub give-lawful : {text : List ℕ} {A : Type 0} (x : A) → Lawful text (give x)
give-lawful x = record {
  least = 0;
  takes = λ ts y rest e. done-same e;
  again = λ ts y rest s. same-done s.0 s.1;
  fails = give-fails x;
  blamed = λ ts e h. absurd h;
  uses = λ ts y rest s. same-uses s.1;
  behind = λ ts y rest s. behind_self s.1;
  stops = λ ts e h. absurd h;
  near = λ before rest other y h s. (s.0, nothing-near before rest other s.1);
}

-- one part, and then another that its value tells
module _ {text : List ℕ} {A B : Type 0} {p : Production A} {f : A → Production B} (lp : Lawful text p) (lf : (x : A) → Lawful text (f x)) where
  pub then-takes : Takes (productions.◌>>=◌ p f)
  then-takes ts y rest e =
      let first = then-first (p.read ts) (λ x. (f x).read) y rest e in
      (first.0, first.1, lp.takes ts first.0 first.1 first.2, (lf first.0).takes first.1 y rest first.3)

  pub then-again : Again (productions.◌>>=◌ p f)
  then-again ts y rest s = rw (lp.again ts s.0 s.1 s.2) ((lf s.0).again s.1 y rest s.3)

  pub then-fails : Fails (productions.◌>>=◌ p f)
  then-fails ts e w = go (then-failed (p.read ts) (λ x. (f x).read) e w)
    where
      go : (p.read ts ≡ Err e) ⊎ ((x : A) × (mid : List Token) × (p.read ts ≡ done x mid) × ((f x).read mid ≡ Err e)) → (productions.◌>>=◌ p f).blames ts e
      go (inl here) = inl (lp.fails ts e here)
      go (inr after) = inr (after.0, after.1, lp.takes ts after.0 after.1 after.2, (lf after.0).fails after.1 e after.3)

  pub then-blamed : Blamed (productions.◌>>=◌ p f)
  then-blamed ts e (inl h) = rw (lp.blamed ts e h) refl
  then-blamed ts e (inr h) = rw (lp.again ts h.0 h.1 h.2) ((lf h.0).blamed h.1 e h.3)

  pub then-uses : Uses lp.least (productions.◌>>=◌ p f)
  then-uses ts y rest s = let front = lp.uses ts s.0 s.1 s.2 in let back = (lf s.0).uses s.1 y rest s.3 in omega arith

  pub then-behind : Behind (productions.◌>>=◌ p f)
  then-behind ts y rest s = behind_more (lp.behind ts s.0 s.1 s.2) ((lf s.0).behind s.1 y rest s.3)

  pub then-stops : Stops text (productions.◌>>=◌ p f)
  then-stops ts e (inl h) = lp.stops ts e h
  then-stops ts e (inr h) = stops_behind (lp.behind ts h.0 h.1 h.2) ((lf h.0).stops h.1 e h.3)

infixl 10 ◌>>=◌
abbrev pub ◌>>=◌ : {text : List ℕ} {A B : Type 0} {p : Production A} {f : A → Production B} → Lawful text p → ((x : A) → Lawful text (f x)) → Lawful text (productions.◌>>=◌ p f)
◌>>=◌ {text} {A} {B} {p} {f} lp lf = record {
  least = lp.least;
  takes = then-takes lp lf;
  again = then-again lp lf;
  fails = then-fails lp lf;
  blamed = then-blamed lp lf;
  uses = then-uses lp lf;
  behind = then-behind lp lf;
  stops = then-stops lp lf;
  near = then-near p f lp.behind lp.near (λ x. (lf x).behind) (λ x. (lf x).near);
}

-- one part or the other, as a test tells
module _ {text : List ℕ} {A : Type 0} (test : List Token → Bool) {p q : Production A} (lp : Lawful text p) (lq : Lawful text q) where
  pub either-takes : Takes (either test p q)
  either-takes ts x rest e = go (test ts) refl e
    where
      go : (b : Bool) → test ts ≡ b → cond b (p.read ts) (q.read ts) ≡ done x rest → (either test p q).spells ts x rest
      go true h w = inl (h, lp.takes ts x rest w)
      go false h w = inr (h, lq.takes ts x rest w)

  pub either-again : Again (either test p q)
  either-again ts x rest (inl s) = rw s.0 (lp.again ts x rest s.1)
  either-again ts x rest (inr s) = rw s.0 (lq.again ts x rest s.1)

  pub either-fails : Fails (either test p q)
  either-fails ts e w = go (test ts) refl w
    where
      go : (b : Bool) → test ts ≡ b → cond b (p.read ts) (q.read ts) ≡ Err e → (either test p q).blames ts e
      go true h v = inl (h, lp.fails ts e v)
      go false h v = inr (h, lq.fails ts e v)

  pub either-blamed : Blamed (either test p q)
  either-blamed ts e (inl h) = rw h.0 (lp.blamed ts e h.1)
  either-blamed ts e (inr h) = rw h.0 (lq.blamed ts e h.1)

  pub either-uses : Uses (min lp.least lq.least) (either test p q)
  either-uses ts x rest (inl s) = let h = lp.uses ts x rest s.1 in omega arith
  either-uses ts x rest (inr s) = let h = lq.uses ts x rest s.1 in omega arith

  pub either-behind : Behind (either test p q)
  either-behind ts x rest (inl s) = lp.behind ts x rest s.1
  either-behind ts x rest (inr s) = lq.behind ts x rest s.1

  pub either-stops : Stops text (either test p q)
  either-stops ts e (inl h) = lp.stops ts e h.1
  either-stops ts e (inr h) = lq.stops ts e h.1

-- the test lets in all that the one spells
abbrev pub either-lawful : {text : List ℕ} {A : Type 0} {test : List Token → Bool} {p q : Production A} → IsNear test → Lawful text p → Admits test p → Lawful text q → Lawful text (either test p q)
either-lawful {text} {A} {test} {p} {q} near lp admits lq = record {
  least = min lp.least lq.least;
  takes = either-takes test lp lq;
  again = either-again test lp lq;
  fails = either-fails test lp lq;
  blamed = either-blamed test lp lq;
  uses = either-uses test lp lq;
  behind = either-behind test lp lq;
  stops = either-stops test lp lq;
  near = either-near test p q near lp.near lq.near;
}

abbrev pub optional-lawful : {text : List ℕ} {A : Type 0} {test : List Token → Bool} {p : Production A} → IsNear test → Lawful text p → Admits test p → Lawful text (optional test p)
optional-lawful near lp admits = either-lawful near (do
  x ← lp
  give-lawful (Some x)) (λ ts _ _ s. admits ts s.0 s.1 s.2) (give-lawful _)

-- values one after another, each of which takes a token at least
module _ {text : List ℕ} {A : Type 0} (test : List Token → Bool) {p : Production A} (lp : Lawful text p) (some : 1 ≤ lp.least) where
  shrinks : (ts : List Token) (x : A) (rest : List Token) → p.spells ts x rest → length rest < length ts
  shrinks ts x rest s = let h = lp.uses ts x rest s in omega arith

  -- one round, over what holds of the rounds after it
  takes-round : (n : ℕ) → ((ts : List Token) (xs : List A) (rest : List Token) → length ts < n → many_read test p.read n ts ≡ done xs rest → (many test p).spells ts xs rest) → (b : Bool) (ts : List Token) (xs : List A) (rest : List Token) → length ts < suc n → test ts ≡ b → cond b (then_read (p.read ts) (λ x mid. then_read (many_read test p.read n mid) (λ xs. done (x ∷ xs)))) (done [] ts) ≡ done xs rest → (many test p).spells ts xs rest
  takes-round n ih true ts xs rest enough h e =
      let first = then-first (p.read ts) _ xs rest e in
      let more = prepend-done first.0 (many_read test p.read n first.1) xs rest first.3 in
      let here = lp.takes ts first.0 first.1 first.2 in
      let shorter = shrinks ts first.0 first.1 here in
      let after = ih first.1 more.0 rest (omega arith) more.1 in
      subst (λ (ys : List A). (many test p).spells ts ys rest) more.2 ((h, first.1, here, after.0), after.1)
  takes-round n ih false ts xs rest enough h e =
      let same = done-same e in
      subst (λ (ys : List A). (many test p).spells ts ys rest) same.0 (subst (λ (r : List Token). (many test p).spells ts [] r) same.1 (refl, h))

  takes-rounds : (n : ℕ) (ts : List Token) (xs : List A) (rest : List Token) → length ts < n → many_read test p.read n ts ≡ done xs rest → (many test p).spells ts xs rest
  takes-rounds zero ts xs rest enough e = absurd (omega arith)
  takes-rounds (suc n) ts xs rest enough e = takes-round n (takes-rounds n) (test ts) ts xs rest enough refl e

  pub many-takes : Takes (many test p)
  many-takes ts xs rest e = takes-rounds (suc (length ts)) ts xs rest (omega arith) e

  again-rounds : (n : ℕ) (ts : List Token) (xs : List A) (rest : List Token) → length ts < n → many_front test p.spells xs ts rest → test rest ≡ false → many_read test p.read n ts ≡ done xs rest
  again-rounds zero ts xs rest enough front stop = absurd (omega arith)
  again-rounds (suc n) ts [] rest enough front stop = subst (λ (r : List Token). cond (test ts) (then_read (p.read ts) (λ x mid. then_read (many_read test p.read n mid) (λ xs. done (x ∷ xs)))) (done [] ts) ≡ done [] r) front (rw (let here : test ts ≡ false = subst (λ (r : List Token). test r ≡ false) (sym front) stop in here) refl)
  again-rounds (suc n) ts (x ∷ xs) rest enough front stop =
      let shorter = shrinks ts x front.1 front.2 in
      let after = again-rounds n front.1 xs rest (omega arith) front.3 stop in
      rw (front.0, lp.again ts x front.1 front.2, after) refl

  pub many-again : Again (many test p)
  many-again ts xs rest s = again-rounds (suc (length ts)) ts xs rest (omega arith) s.0 s.1

  fails-round : (n : ℕ) → ((ts : List Token) (e : Fault) → length ts < n → many_read test p.read n ts ≡ Err e → (many test p).blames ts e) → (b : Bool) (ts : List Token) (e : Fault) → length ts < suc n → test ts ≡ b → cond b (then_read (p.read ts) (λ x mid. then_read (many_read test p.read n mid) (λ xs. done (x ∷ xs)))) (done [] ts) ≡ Err e → (many test p).blames ts e
  fails-round n ih true ts e enough h w = go (then-failed (p.read ts) _ e w)
    where
      go : (p.read ts ≡ Err e) ⊎ ((x : A) × (mid : List Token) × (p.read ts ≡ done x mid) × (then_read (many_read test p.read n mid) (λ xs. done (x ∷ xs)) ≡ Err e)) → (many test p).blames ts e
      go (inl here) = ([], ts, refl, h, lp.fails ts e here)
      go (inr later) =
          let here = lp.takes ts later.0 later.1 later.2 in
          let shorter = shrinks ts later.0 later.1 here in
          let after = ih later.1 e (omega arith) (prepend-failed later.0 (many_read test p.read n later.1) e later.3) in
          (later.0 ∷ after.0, after.1, (h, later.1, here, after.2), after.3, after.4)
  fails-round n ih false ts e enough h w = cc

  fails-rounds : (n : ℕ) (ts : List Token) (e : Fault) → length ts < n → many_read test p.read n ts ≡ Err e → (many test p).blames ts e
  fails-rounds zero ts e enough w = absurd (omega arith)
  fails-rounds (suc n) ts e enough w = fails-round n (fails-rounds n) (test ts) ts e enough refl w

  pub many-fails : Fails (many test p)
  many-fails ts e w = fails-rounds (suc (length ts)) ts e (omega arith) w

  blamed-rounds : (n : ℕ) (ts : List Token) (e : Fault) → length ts < n → (xs : List A) (mid : List Token) → many_front test p.spells xs ts mid → test mid ≡ true → p.blames mid e → many_read test p.read n ts ≡ Err e
  blamed-rounds zero ts e enough xs mid front h w = absurd (omega arith)
  blamed-rounds (suc n) ts e enough [] mid front h w = rw (subst (λ (r : List Token). test r ≡ true) (sym front) h, lp.blamed ts e (subst (λ (r : List Token). p.blames r e) (sym front) w)) refl
  blamed-rounds (suc n) ts e enough (x ∷ xs) mid front h w =
      let shorter = shrinks ts x front.1 front.2 in
      let after = blamed-rounds n front.1 e (omega arith) xs mid front.3 h w in
      rw (front.0, lp.again ts x front.1 front.2, after) refl

  pub many-blamed : Blamed (many test p)
  many-blamed ts e h = blamed-rounds (suc (length ts)) ts e (omega arith) h.0 h.1 h.2 h.3 h.4

  front-uses : (xs : List A) (ts rest : List Token) → many_front test p.spells xs ts rest → length rest + 0 ≤ length ts
  front-uses [] ts rest front = same-uses front
  front-uses (x ∷ xs) ts rest front =
      let shorter = shrinks ts x front.1 front.2 in
      let after = front-uses xs front.1 rest front.3 in
      omega arith

  pub many-uses : Uses 0 (many test p)
  many-uses ts xs rest s = front-uses xs ts rest s.0

  pub front-behind : (xs : List A) (ts rest : List Token) → many_front test p.spells xs ts rest → IsBehind ts rest
  front-behind [] ts rest front = behind_self front
  front-behind (x ∷ xs) ts rest front = behind_more (lp.behind ts x front.1 front.2) (front-behind xs front.1 rest front.3)

  pub many-behind : Behind (many test p)
  many-behind ts xs rest s = front-behind xs ts rest s.0

  pub many-stops : Stops text (many test p)
  many-stops ts e h = stops_behind (front-behind h.0 ts h.1 h.2) (lp.stops h.1 e h.4)

abbrev pub many-lawful : {text : List ℕ} {A : Type 0} {test : List Token → Bool} {p : Production A} → IsNear test → (lp : Lawful text p) → Admits test p → 1 ≤ lp.least → Lawful text (many test p)
many-lawful {text} {A} {test} {p} near lp admits some = record {
  least = 0;
  takes = many-takes test lp some;
  again = many-again test lp some;
  fails = many-fails test lp some;
  blamed = many-blamed test lp some;
  uses = many-uses test lp some;
  behind = many-behind test lp some;
  stops = many-stops test lp some;
  near = many-near test p near lp.behind lp.near (front-behind test lp some);
}

-- one token that passes a test
module _ (text : List ℕ) (test : Token → Bool) where
  pub one-takes : Takes (one text test)
  one-takes [] t rest e = cc
  one-takes (u ∷ ts) t rest e = go (test u) refl e
    where
      go : (b : Bool) → test u ≡ b → cond b (done u ts) (Err (syntax_at u)) ≡ done t rest → (one text test).spells (u ∷ ts) t rest
      go true h w = let same = done-same w in ((let x : u ≡ t = same.0 in let y : ts ≡ rest = same.1 in cc), subst (λ (v : Token). test v ≡ true) same.0 h)
      go false h w = cc

  pub one-again : Again (one text test)
  one-again ts t rest s = rw (s.0, s.1) refl

  pub one-fails : Fails (one text test)
  one-fails [] e w = inl (refl, (let h : syntax_end text ≡ e = cc in sym h))
  one-fails (u ∷ ts) e w = go (test u) refl w
    where
      go : (b : Bool) → test u ≡ b → cond b (done u ts) (Err (syntax_at u)) ≡ Err e → (one text test).blames (u ∷ ts) e
      go true h v = cc
      go false h v = inr (u, ts, refl, h, (let k : syntax_at u ≡ e = cc in sym k))

  pub one-blamed : Blamed (one text test)
  one-blamed ts e (inl h) = rw (h.0, h.1) refl
  one-blamed ts e (inr h) = rw (h.2, h.3, h.4) refl

  pub one-uses : Uses 1 (one text test)
  one-uses ts t rest s = let same : length ts ≡ length (t ∷ rest) = ap (λ (r : List Token). length r) s.0 in omega arith

  pub one-stops : Stops text (one text test)
  one-stops ts e (inl h) = record { rest = []; behind = behind_self h.0; why = h.1 }
  one-stops ts e (inr h) = stops_here h.2 (inl h.4)

abbrev pub one-lawful : (text : List ℕ) (test : Token → Bool) → Lawful text (one text test)
one-lawful text test = record {
  least = 1;
  takes = one-takes text test;
  again = one-again text test;
  fails = one-fails text test;
  blamed = one-blamed text test;
  uses = one-uses text test;
  behind = λ ts t rest s. behind_token s.0;
  stops = one-stops text test;
  near = one-near text test;
}

-- one token that passes a test, and what it stands for
module _ {A : Type 0} (text : List ℕ) (test : Token → Bool) (outcome : Token → Result A Fault) where
  pub one_as-takes : Takes (one_as text test outcome)
  one_as-takes ts x rest e =
      let first = then-first ((one text test).read ts) (λ t. settle_read (outcome t)) x rest e in
      (first.0, first.1, one-takes text test ts first.0 first.1 first.2, settle-takes (outcome first.0) first.1 x rest first.3)

  pub one_as-again : Again (one_as text test outcome)
  one_as-again ts x rest s = rw (one-again text test ts s.0 s.1 s.2) (settle-again (outcome s.0) s.1 x rest s.3)

  pub one_as-fails : Fails (one_as text test outcome)
  one_as-fails ts e w = go (then-failed ((one text test).read ts) (λ t. settle_read (outcome t)) e w)
    where
      go : ((one text test).read ts ≡ Err e) ⊎ ((t : Token) × (mid : List Token) × ((one text test).read ts ≡ done t mid) × (settle_read (outcome t) mid ≡ Err e)) → (one_as text test outcome).blames ts e
      go (inl here) = inl (one-fails text test ts e here)
      go (inr after) = inr (after.0, after.1, one-takes text test ts after.0 after.1 after.2, settle-fails (outcome after.0) after.1 e after.3)

  pub one_as-blamed : Blamed (one_as text test outcome)
  one_as-blamed ts e (inl h) = rw (one-blamed text test ts e h) refl
  one_as-blamed ts e (inr h) = rw (one-again text test ts h.0 h.1 h.2, h.3) refl

  pub one_as-uses : Uses 1 (one_as text test outcome)
  one_as-uses ts x rest s =
      let front = one-uses text test ts s.0 s.1 s.2 in
      let back = same-uses s.3.1 in
      omega arith

  pub one_as-stops : ((t : Token) (e : Fault) → test t ≡ true → outcome t ≡ Err e → StopsAt text t e) → Stops text (one_as text test outcome)
  one_as-stops why ts e (inl h) = one-stops text test ts e h
  one_as-stops why ts e (inr h) = stops_here h.2.0 (why h.0 e h.2.1 h.3)

-- where each fault that a token gives stands at that token
abbrev pub one_as-lawful : {A : Type 0} (text : List ℕ) (test : Token → Bool) (outcome : Token → Result A Fault) → ((t : Token) (e : Fault) → test t ≡ true → outcome t ≡ Err e → StopsAt text t e) → Lawful text (one_as text test outcome)
one_as-lawful text test outcome why = record {
  least = 1;
  takes = one_as-takes text test outcome;
  again = one_as-again text test outcome;
  fails = one_as-fails text test outcome;
  blamed = one_as-blamed text test outcome;
  uses = one_as-uses text test outcome;
  behind = λ ts x rest s. behind_more (behind_token s.2.0) (behind_self s.3.1);
  stops = one_as-stops text test outcome why;
  near = then-near (one text test) (λ t. settle (outcome t)) (λ ts t rest s. behind_token s.0) (one-near text test) (λ t ts x rest s. behind_self s.1) (λ t before rest other x h s. (s.0, nothing-near before rest other s.1));
}

abbrev pub known-lawful : {A : Type 0} (text : List ℕ) (table : Token → Option A) → Lawful text (known text table)
known-lawful text table = one_as-lawful text _ _ (λ t e _ w. ok_or-stops text t (table t) e w)

-- no token is left
pub end-takes : Takes at_end
end-takes [] x rest e = (refl, sym (done-same e).1)
end-takes (t ∷ ts) x rest e = cc

pub end-again : Again at_end
end-again ts x rest s = rw (s.0, s.1) refl

pub end-fails : Fails at_end
end-fails [] e w = cc
end-fails (t ∷ ts) e w = (t, ts, refl, (let k : syntax_at t ≡ e = cc in sym k))

pub end-blamed : Blamed at_end
end-blamed ts e h = rw (h.2, h.3) refl

abbrev pub at_end-lawful : (text : List ℕ) → Lawful text at_end
at_end-lawful text = record {
  least = 0;
  takes = end-takes;
  again = end-again;
  fails = end-fails;
  blamed = end-blamed;
  uses = λ ts x rest s. same-uses (s.0 ∙ sym s.1);
  behind = λ ts x rest s. behind_self (s.0 ∙ sym s.1);
  stops = λ ts e h. stops_here h.2 (inl h.3);
  near = at_end-near;
}

-- with what is noted
abbrev pub noted-lawful : {text : List ℕ} {A B : Type 0} {p : Production A} (note : List Token → List Token → B) → NotesNear note → Lawful text p → Lawful text (noted note p)
noted-lawful {text} {A} {B} {p} note notes lp = record {
  least = lp.least;
  takes = λ ts y rest e. let both = noted-done note ts (p.read ts) y rest e in (lp.takes ts y.0 rest both.0, both.1);
  again = λ ts y rest s. rw (lp.again ts y.0 rest s.0, s.1) refl;
  fails = λ ts e w. lp.fails ts e (noted-failed note ts (p.read ts) e w);
  blamed = λ ts e w. rw (lp.blamed ts e w) refl;
  uses = λ ts y rest s. lp.uses ts y.0 rest s.0;
  behind = λ ts y rest s. lp.behind ts y.0 rest s.0;
  stops = lp.stops;
  near = noted-near p note notes lp.near;
}

abbrev pub fronted-lawful : {text : List ℕ} {A : Type 0} {p : Production A} → Lawful text p → Lawful text (fronted p)
fronted-lawful lp = noted-lawful _ front_span-near lp

abbrev pub spanned-lawful : {text : List ℕ} {A : Type 0} {p : Production A} → Lawful text p → Lawful text (spanned p)
spanned-lawful lp = noted-lawful _ span_between-near lp

-- where more is known of how many tokens each spelling takes
abbrev pub at_least : {text : List ℕ} {A : Type 0} {p : Production A} (n : ℕ) → Lawful text p → Uses n p → Lawful text p
at_least n lp more = record {
  least = n;
  takes = lp.takes;
  again = lp.again;
  fails = lp.fails;
  blamed = lp.blamed;
  uses = more;
  behind = lp.behind;
  stops = lp.stops;
  near = lp.near;
}
