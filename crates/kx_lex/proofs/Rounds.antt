-- A loop that reads value after value: what was read, before what the rest reads, is what the whole reads.
use Rattle.std.proofs.Common.{◌≡◌, ℕ, zero, suc, ◌<◌, Bool, true, false, List, [], ◌∷◌, ◌++◌, length, Ok, Err, refl, ap, ◌∙◌, arith, append-nil, append_assoc, ◌⊎◌, inl, inr}
use Rattle.kx_lex.specs.declared.token.Token.{Token}
use Rattle.kx_lex.specs.declared.fault.Fault.{Fault}
use Rattle.kx_lex.specs.declared.fault.Fault.TheVariants.{Memory}
use Rattle.kx_lex.specs.Parsing.{Read, done, then_read, many_read}
use Rattle.kx_lex.specs.Lists.{put_before}

pub put_before-nil : {A : Type 0} (w : Read (List A)) → put_before [] w ≡ w
put_before-nil (Ok p) = refl
put_before-nil (Err e) = refl

pub put_before-prepend : {A : Type 0} (xs : List A) (x : A) (w : Read (List A)) → put_before xs (then_read w (λ ys. done (x ∷ ys))) ≡ put_before (xs ++ x ∷ []) w
put_before-prepend xs x (Ok p) = rw append_assoc refl
put_before-prepend xs x (Err e) = refl

pub put_before-first : {A : Type 0} (x : A) (w : Read (List A)) → put_before (x ∷ []) w ≡ then_read w (λ xs rest. done (x ∷ xs) rest)
put_before-first x (Ok p) = refl
put_before-first x (Err e) = refl

pub ruleset read_lists = (put_before-nil, put_before-first)

-- items and what the rest reads, in more rounds than it has tokens, are the items at the start and what all tokens read
pub record SoFar {A : Type 0} (test : List Token → Bool) (read : List Token → Read A) (start : List A) (all rest : List Token) (items : List A) : Type 0 where
  pub rounds : ℕ
  pub enough : length rest < suc rounds
  pub is : put_before start (many_read test read (suc (length all)) all) ≡ put_before items (many_read test read (suc rounds) rest)

module _ {A : Type 0} (test : List Token → Bool) (read : List Token → Read A) (start : List A) (all : List Token) where
  pub SoFar-none : SoFar test read start all all start
  SoFar-none = record { rounds = length all; enough = omega arith; is = refl }

  round : (n : ℕ) (ts : List Token) (x : A) (mid : List Token) → test ts ≡ true → read ts ≡ done x mid → many_read test read (suc n) ts ≡ then_read (many_read test read n mid) (λ xs. done (x ∷ xs))
  round n ts x mid t r = rw (t, r) refl

  more : (n : ℕ) (ts : List Token) (items : List A) (x : A) (mid : List Token) → length ts < suc n → put_before start (many_read test read (suc (length all)) all) ≡ put_before items (many_read test read (suc n) ts) → test ts ≡ true → read ts ≡ done x mid → length mid < length ts → SoFar test read start all mid (items ++ x ∷ [])
  more zero ts items x mid enough is t r less = absurd (omega arith)
  more (suc n) ts items x mid enough is t r less = record {
    rounds = n;
    enough = omega arith;
    is = is ∙ (ap (λ (w : Read (List A)). put_before items w) (round (suc n) ts x mid t r) ∙ put_before-prepend items x (many_read test read (suc n) mid));
  }

  pub SoFar-more : (ts : List Token) (items : List A) (x : A) (mid : List Token) → SoFar test read start all ts items → test ts ≡ true → read ts ≡ done x mid → length mid < length ts → SoFar test read start all mid (items ++ x ∷ [])
  SoFar-more ts items x mid so t r less = more so.rounds ts items x mid so.enough so.is t r less

  pub SoFar-last : (ts : List Token) (items : List A) → SoFar test read start all ts items → test ts ≡ false → put_before start (many_read test read (suc (length all)) all) ≡ done items ts
  SoFar-last ts items so t = so.is ∙ (ap (λ (w : Read (List A)). put_before items w) last ∙ ap (λ (xs : List A). done xs ts) (append-nil items))
    where
      last : many_read test read (suc so.rounds) ts ≡ done [] ts
      last = rw t refl

  -- a failed value fails the whole, or memory did
  pub SoFar-blamed : (ts : List Token) (items : List A) (e : Fault) → SoFar test read start all ts items → test ts ≡ true → (e ≡ Memory) ⊎ (read ts ≡ Err e) → (e ≡ Memory) ⊎ (put_before start (many_read test read (suc (length all)) all) ≡ Err e)
  SoFar-blamed ts items e so t (inl m) = inl m
  SoFar-blamed ts items e so t (inr r) = inr (so.is ∙ ap (λ (w : Read (List A)). put_before items w) failed)
    where
      failed : many_read test read (suc so.rounds) ts ≡ Err e
      failed = rw (t, r) refl
