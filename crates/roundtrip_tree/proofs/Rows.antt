-- What rows of values are spelled as.
use Rattle.std.proofs.Common.{◌≡◌, ℕ, Bool, true, false, ◌||◌, ◌==◌, List, [], ◌∷◌, ◌++◌, None, Some, refl, inl, inr}
use Rattle.std.specs.List.{flat_map}
use Rattle.kx_lex.specs.Kinds.{front, is_mark}
use Rattle.kx_lex.specs.Production.{Production, many, optional}
use Rattle.kx_lex.specs.Spelling.{many_front}
use Rattle.kx_lex.specs.Tokens.{mark, comma}
use Rattle.kx_lex.specs.declared.token.Span.{Span}
use Rattle.kx_lex.specs.declared.token.Token.{Token}
use Rattle.kx_lex.specs.declared.token.TokenKind.TheVariants.{Mark}
use Rattle.kx_tree.specs.Forms.{after, sequence}
use Rattle.roundtrip_text.specs.Slices.{Slice, slice, Begins, none, more}
use Rattle.roundtrip_tree.specs.Shows.{IsSpelled, ReadsAs, AreShown}
use Rattle.roundtrip_tree.specs.Shows.{none as shows_none, more as shows_more}
use Rattle.roundtrip_tree.proofs.Spellings.{after_spelled, mark_spelled}
use Rattle.roundtrip_tree.proofs.Tokens.{token}

pub optional_none : {A : Type 0} (p : Production A) (test : List Token → Bool) (ts : List Token) → test ts ≡ false → IsSpelled (optional test p) ts None ts
optional_none p test ts h = record { spelled = inr (h, (refl, refl)) }

pub optional_some : {A : Type 0} {p : Production A} (test : List Token → Bool) {ts : List Token} {x : A} {rest : List Token} → test ts ≡ true → IsSpelled p ts x rest → IsSpelled (optional test p) ts (Some x) rest
optional_some test {x = x} {rest = rest} h s = record { spelled = inl (h, (x, rest, s.spelled, (refl, refl))) }

-- where the first of some tokens' kinds and bytes end
pub record Parted (text : List ℕ) (a b : List Slice) (ts rest : List Token) : Type 0 where
  pub mid : List Token
  pub first : Begins text a ts mid
  pub second : Begins text b mid rest

pub parted : {text : List ℕ} (a b : List Slice) {ts rest : List Token} → Begins text (a ++ b) ts rest → Parted text a b ts rest
parted [] b begins = record { mid = _; first = none; second = begins }
parted (s ∷ a) b (more span at begins) = let p = parted a b begins in record { mid = p.mid; first = more span at p.first; second = p.second }

module _ {A X : Type 0} (p : Production A) (test : List Token → Bool) (Is : X → A → Type 0) where
  pub record Rows (xs : List X) (ts rest : List Token) : Type 0 where
    pub values : List A
    pub spelled : many_front test p.spells values ts rest
    pub are : AreShown Is xs values

module _ {A X : Type 0} (text : List ℕ) (p : Production A) (test : List Token → Bool) (slices : X → List Slice) (Is : X → A → Type 0) where
  -- each stands where the test holds, and is read whatever stands after it
  abbrev pub ReadsEach : Type 0
  ReadsEach = (x : X) (ts rest : List Token) → Begins text (slices x) ts rest → (test ts ≡ true) × ReadsAs p (Is x) ts rest

  rows : ReadsEach → (xs : List X) (ts rest : List Token) → Begins text (flat_map slices xs) ts rest → Rows p test Is xs ts rest
  rows each [] ts rest none = record { values = []; spelled = refl; are = shows_none }
  rows each (x ∷ xs) ts rest begins =
      let parts = parted (slices x) (flat_map slices xs) begins in
      let one = each x ts parts.mid parts.first in
      let others = rows each xs parts.mid rest parts.second in
      record { values = one.1.value ∷ others.values; spelled = (one.0, parts.mid, one.1.spelled.spelled, others.spelled); are = shows_more one.1.is others.are }

  pub many_reads : ReadsEach → (xs : List X) (ts rest : List Token) → Begins text (flat_map slices xs) ts rest → test rest ≡ false → ReadsAs (many test p) (AreShown Is xs) ts rest
  many_reads each xs ts rest begins stops = let r = rows each xs ts rest begins in record { value = r.values; spelled = record { spelled = (r.spelled, stops) }; is = r.are }

-- ---- After commas

-- a mark that ends a value: , ; ] } )
abbrev pub is_stop : ℕ → Bool
is_stop b = (b == 44) || ((b == 59) || ((b == 93) || ((b == 125) || (b == 41))))

pub data Stops : List Token → Type 0 where
  stop : {b : ℕ} {span : Span} {rest : List Token} → is_stop b ≡ true → Stops (token (Mark b) span ∷ rest)

module _ {X : Type 0} (slices : X → List Slice) where
  abbrev pub with_comma : X → List Slice
  with_comma x = slice (Mark 44) (44 ∷ []) ∷ slices x

  abbrev pub list_slices : List X → List Slice
  list_slices [] = []
  list_slices (x ∷ xs) = slices x ++ flat_map with_comma xs

  -- after one of them a comma stands, or what ends all
  others_stop : {text : List ℕ} (xs : List X) {ts rest : List Token} → Begins text (flat_map with_comma xs) ts rest → Stops rest → Stops ts
  others_stop [] none h = h
  others_stop (x ∷ xs) begins h = first_stops begins
    where
      first_stops : {text : List ℕ} {ss : List Slice} {ts rest : List Token} → Begins text (slice (Mark 44) (44 ∷ []) ∷ ss) ts rest → Stops ts
      first_stops (more span at begins) = stop refl

module _ {A X : Type 0} (text : List ℕ) (p : Production A) (slices : X → List Slice) (Is : X → A → Type 0) where
  -- each is read where what stands after it ends a value
  abbrev pub ReadsEnded : Type 0
  ReadsEnded = (x : X) (ts rest : List Token) → Begins text (slices x) ts rest → Stops rest → ReadsAs p (Is x) ts rest

  abbrev OtherRows : List X → List Token → List Token → Type 0
  OtherRows = Rows (after (mark text comma) p) (front (is_mark comma)) Is

  one_more : ReadsEnded → (x : X) (xs : List X) {ss : List Slice} {ts rest : List Token} → Begins text (slice (Mark 44) (44 ∷ []) ∷ (slices x ++ ss)) ts rest → ((mid : List Token) → Begins text ss mid rest → Stops mid × OtherRows xs mid rest) → OtherRows (x ∷ xs) ts rest
  one_more each x xs {ss} (more span at begins) next =
      let parts = parted (slices x) ss begins in
      let rest_of = next parts.mid parts.second in
      let one = each x _ parts.mid parts.first rest_of.0 in
      let s = after_spelled (mark_spelled text comma (token (Mark 44) span) _ refl) one.spelled in
      record { values = one.value ∷ rest_of.1.values; spelled = (refl, parts.mid, s.spelled, rest_of.1.spelled); are = shows_more one.is rest_of.1.are }

  others : ReadsEnded → (xs : List X) (ts rest : List Token) → Begins text (flat_map (with_comma slices) xs) ts rest → Stops rest → OtherRows xs ts rest
  others each [] ts rest none h = record { values = []; spelled = refl; are = shows_none }
  others each (x ∷ xs) ts rest begins h = one_more each x xs begins (λ mid b. (others_stop slices xs b h, others each xs mid rest b h))

  pub sequence_reads : ReadsEnded → (x : X) (xs : List X) (ts rest : List Token) → Begins text (list_slices slices (x ∷ xs)) ts rest → Stops rest → front (is_mark comma) rest ≡ false → ReadsAs (sequence text p) (AreShown Is (x ∷ xs)) ts rest
  sequence_reads each x xs ts rest begins h last =
      let parts = parted (slices x) (flat_map (with_comma slices) xs) begins in
      let one = each x ts parts.mid parts.first (others_stop slices xs parts.second h) in
      let rest_of = others each xs parts.mid rest parts.second h in
      record {
        value = one.value ∷ rest_of.values;
        spelled = record { spelled = (one.value, parts.mid, one.spelled.spelled, (rest_of.values, rest, (rest_of.spelled, last), (refl, refl))) };
        is = shows_more one.is rest_of.are;
      }
