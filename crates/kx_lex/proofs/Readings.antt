-- A text that has a token reading stops nowhere, and it has one reading at most.
use Rattle.std.proofs.Common.{◌≡◌, ℕ, suc, ◌+◌, ◌≤◌, Bool, true, false, ◌⊎◌, inl, inr, List, [], ◌∷◌, ◌++◌, length, drop, subst, sym, ap, refl, append_assoc, append-nil, arith, length-drop, slice_index}
use Rattle.std.specs.List.{prefix_len}
use Rattle.kx_lex.specs.Bytes.{is_blank}
use Rattle.kx_lex.specs.Pieces.{piece}
use Rattle.kx_lex.specs.Reading.{Reads, ended, skipped, taken, Stops, bad_byte, open_string, open_key_name, past_gap, past_token, token_of, mark_len, IsReading, StopsWith}
use Rattle.kx_lex.specs.declared.scan.Piece.TheVariants as begins
use Rattle.kx_lex.specs.declared.token.Token.{Token}
use Rattle.kx_lex.specs.declared.token.TokenKind.{TokenKind}
use Rattle.kx_lex.specs.declared.fault.Fault.{Fault}

-- what follows a gap is the same for both
stops_after : (offset n m : ℕ) (bs : List ℕ) (f : Fault) → n ≡ m → Stops (offset + m) (drop m bs) f → Stops (offset + n) (drop n bs) f
stops_after offset n m bs f e s = subst (λ (k : ℕ). Stops (offset + k) (drop k bs) f) (sym e) s

pub reads-never-stops : {offset : ℕ} {bs : List ℕ} {ts : List Token} {f : Fault} → Reads offset bs ts → Stops offset bs f → ⊥
reads-never-stops (ended e) (bad_byte s) = cc
reads-never-stops (ended e) (open_string n s) = cc
reads-never-stops (ended e) (open_key_name n s) = cc
reads-never-stops (ended e) (past_gap n s r) = cc
reads-never-stops (ended e) (past_token k n s r) = cc
reads-never-stops (skipped n e r) (bad_byte s) = cc
reads-never-stops (skipped n e r) (open_string m s) = cc
reads-never-stops (skipped n e r) (open_key_name m s) = cc
reads-never-stops (skipped n e r) (past_gap m s t) = reads-never-stops r (stops_after _ n m _ _ (cc) t)
reads-never-stops (skipped n e r) (past_token k m s t) = cc
reads-never-stops (taken k n e r) (bad_byte s) = cc
reads-never-stops (taken k n e r) (open_string m s) = cc
reads-never-stops (taken k n e r) (open_key_name m s) = cc
reads-never-stops (taken k n e r) (past_gap m s t) = cc
reads-never-stops (taken k n e r) (past_token j m s t) = reads-never-stops r (stops_after _ n m _ _ (cc) t)

-- where the text was read to, the tokens so far before what the rest reads are what the whole reads
pub record SoFar (text rest : List ℕ) (offset : ℕ) (tokens : List Token) : Type 0 where
  pub all : offset + length rest ≡ length text
  pub reads : (ts : List Token) → Reads offset rest ts → Reads (mark_len text) (drop (mark_len text) text) (tokens ++ ts)
  pub stops : (f : Fault) → Stops offset rest f → Stops (mark_len text) (drop (mark_len text) text) f

pub SoFar-skipped : {text rest : List ℕ} {offset : ℕ} {tokens : List Token} → SoFar text rest offset tokens → (n : ℕ) → n ≤ length rest → piece rest ≡ begins.Gap n → SoFar text (drop n rest) (offset + n) tokens
SoFar-skipped {text} {rest} {offset} {tokens} so n within e = record {
  all = let before : offset + length rest ≡ length text = so.all in omega (arith, length-drop n rest);
  reads = λ ts r. so.reads ts (skipped n e r);
  stops = λ f s. so.stops f (past_gap n e s);
}

-- after a gap goes on what is read of it, or where it stops
pub reads-gap : {offset n : ℕ} {bs : List ℕ} {ts : List Token} → piece bs ≡ begins.Gap n → Reads offset bs ts → Reads (offset + n) (drop n bs) ts
reads-gap g (ended e) = cc
reads-gap {offset} {n} {bs} {ts} g (skipped m e r) = let same : m ≡ n = cc in subst (λ (k : ℕ). Reads (offset + k) (drop k bs) ts) same r
reads-gap g (taken kind m e r) = cc

stops-gap : {offset n : ℕ} {bs : List ℕ} {f : Fault} → piece bs ≡ begins.Gap n → Stops offset bs f → Stops (offset + n) (drop n bs) f
stops-gap g (bad_byte s) = cc
stops-gap g (open_string m s) = cc
stops-gap g (open_key_name m s) = cc
stops-gap {offset} {n} {bs} {f} g (past_gap m s t) = let same : m ≡ n = cc in subst (λ (k : ℕ). Stops (offset + k) (drop k bs) f) same t
stops-gap g (past_token k m s t) = cc

drop-next : (n b : ℕ) (bs : List ℕ) → drop (1 + n) (b ∷ bs) ≡ drop n bs
drop-next n b bs = let same : 1 + n ≡ suc n = omega arith in ap (λ (k : ℕ). drop k (b ∷ bs)) same

-- the blanks at the front are a gap, where there are any
pub blanks-gap : (bs : List ℕ) → (prefix_len is_blank bs ≡ 0) ⊎ (piece bs ≡ begins.Gap (prefix_len is_blank bs))
unfolding piece
blanks-gap [] = inl refl
blanks-gap (b ∷ bs) = go (is_blank b) refl
  where
    go : (blank : Bool) → is_blank b ≡ blank → (prefix_len is_blank (b ∷ bs) ≡ 0) ⊎ (piece (b ∷ bs) ≡ begins.Gap (prefix_len is_blank (b ∷ bs)))
    go true h = inr (rw h refl)
    go false h = inl (rw h refl)

-- of which the first is a blank
blank-piece : (b : ℕ) (bs : List ℕ) → is_blank b ≡ true → piece (b ∷ bs) ≡ begins.Gap (1 + prefix_len is_blank bs)
unfolding piece
blank-piece b bs blank = rw blank refl

module _ (offset b : ℕ) (bs : List ℕ) (blank : is_blank b ≡ true) where
  reads-blank : (ts : List Token) → Reads (offset + 1) bs ts → Reads offset (b ∷ bs) ts
  reads-blank ts r = skipped _ (blank-piece b bs blank) (go (blanks-gap bs))
    where
      go : (prefix_len is_blank bs ≡ 0) ⊎ (piece bs ≡ begins.Gap (prefix_len is_blank bs)) → Reads (offset + (1 + prefix_len is_blank bs)) (drop (1 + prefix_len is_blank bs) (b ∷ bs)) ts
      go (inl none) = rw none r
      go (inr gap) = rw (drop-next (prefix_len is_blank bs) b bs) (subst (λ (k : ℕ). Reads k (drop (prefix_len is_blank bs) bs) ts) (omega arith) (reads-gap gap r))

  stops-blank : (f : Fault) → Stops (offset + 1) bs f → Stops offset (b ∷ bs) f
  stops-blank f s = past_gap _ (blank-piece b bs blank) (go (blanks-gap bs))
    where
      go : (prefix_len is_blank bs ≡ 0) ⊎ (piece bs ≡ begins.Gap (prefix_len is_blank bs)) → Stops (offset + (1 + prefix_len is_blank bs)) (drop (1 + prefix_len is_blank bs) (b ∷ bs)) f
      go (inl none) = rw none s
      go (inr gap) = rw (drop-next (prefix_len is_blank bs) b bs) (subst (λ (k : ℕ). Stops k (drop (prefix_len is_blank bs) bs) f) (omega arith) (stops-gap gap s))

pub space-some : (bs : List ℕ) → slice_index bs 0 ≡ 32 → 1 ≤ length bs
space-some [] e = cc
space-some (b ∷ bs) e = omega arith

pub SoFar-space : {text : List ℕ} (rest : List ℕ) {offset : ℕ} {tokens : List Token} → SoFar text rest offset tokens → slice_index rest 0 ≡ 32 → SoFar text (drop 1 rest) (offset + 1) tokens
SoFar-space [] so e = cc
SoFar-space {text} (b ∷ bs) {offset} {tokens} so e = record {
  all = let before : offset + length (b ∷ bs) ≡ length text = so.all in omega (arith, before);
  reads = λ ts r. so.reads ts (reads-blank offset b bs blank ts r);
  stops = λ f s. so.stops f (stops-blank offset b bs blank f s);
}
  where
    blank : is_blank b ≡ true
    blank = rw e refl

pub SoFar-taken : {text rest : List ℕ} {offset : ℕ} {tokens : List Token} → SoFar text rest offset tokens → (kind : TokenKind) (n : ℕ) → n ≤ length rest → piece rest ≡ begins.Lexeme kind n → SoFar text (drop n rest) (offset + n) (tokens ++ token_of kind offset n ∷ [])
SoFar-taken {text} {rest} {offset} {tokens} so kind n within e = record {
  all = let before : offset + length rest ≡ length text = so.all in omega (arith, length-drop n rest);
  reads = λ ts r. rw append_assoc (so.reads (token_of kind offset n ∷ ts) (taken kind n e r));
  stops = λ f s. so.stops f (past_token kind n e s);
}

pub SoFar-ended : {text rest : List ℕ} {offset : ℕ} {tokens : List Token} → SoFar text rest offset tokens → piece rest ≡ begins.End → IsReading text tokens
SoFar-ended {text} {rest} {offset} {tokens} so e = record { reads = rw append-nil at (so.reads [] (ended e)) }

pub SoFar-stopped : {text rest : List ℕ} {offset : ℕ} {tokens : List Token} → SoFar text rest offset tokens → (f : Fault) → Stops offset rest f → StopsWith text f
SoFar-stopped so f s = record { stops = so.stops f s }

pub stopped-has_no_reading : {text : List ℕ} {tokens : List Token} {f : Fault} → StopsWith text f → IsReading text tokens → ⊥
stopped-has_no_reading s r = reads-never-stops r.reads s.stops

-- what follows a piece is the same for both
reads_after : (offset n m : ℕ) (bs : List ℕ) (ts : List Token) → n ≡ m → Reads (offset + m) (drop m bs) ts → Reads (offset + n) (drop n bs) ts
reads_after offset n m bs ts e r = subst (λ (k : ℕ). Reads (offset + k) (drop k bs) ts) (sym e) r

same_token : (j k : TokenKind) (offset n m : ℕ) (ts us : List Token) → j ≡ k → n ≡ m → ts ≡ us → token_of j offset n ∷ ts ≡ token_of k offset m ∷ us
same_token j k offset n m ts us p q r = rw (p, q, r) refl

reads-one : {offset : ℕ} {bs : List ℕ} {ts us : List Token} → Reads offset bs ts → Reads offset bs us → ts ≡ us
reads-one (ended e) (ended f) = refl
reads-one (ended e) (skipped n f r) = cc
reads-one (ended e) (taken k n f r) = cc
reads-one (skipped n e r) (ended f) = cc
reads-one (skipped n e r) (skipped m f s) = reads-one r (reads_after _ n m _ _ (cc) s)
reads-one (skipped n e r) (taken k m f s) = cc
reads-one (taken k n e r) (ended f) = cc
reads-one (taken k n e r) (skipped m f s) = cc
reads-one (taken k n e r) (taken j m f s) = same_token k j _ n m _ _ (cc) (cc) (reads-one r (reads_after _ n m _ _ (cc) s))

pub IsReading-one : (text : List ℕ) (ts us : List Token) → IsReading text ts → IsReading text us → ts ≡ us
IsReading-one text ts us a b = reads-one a.reads b.reads
