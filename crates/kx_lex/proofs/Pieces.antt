-- What a text begins, by its first byte alone.
use Rattle.std.proofs.Common.{◌≡◌, ◌≢◌, ℕ, ◌+◌, ◌<◌, Bool, true, false, cond, ◌==◌, nat_le, ◌&&◌, ◌||◌, ◌⊎◌, List, [], ◌∷◌, length, slice_index, refl, sym, subst, arith, ap, ◌∙◌, map, if◌then◌else◌, inl, inr, get_or}
use Rattle.std.proofs.lemmas.Bool.{eqb-true}
use Rattle.std.proofs.lemmas.List.FromFn.{get_or-map-range_with_len}
use Rattle.std.specs.Char.{is_ascii_digit}
use Rattle.std.specs.List.{prefix_len, range_with_len}
use Rattle.kx_lex.specs.Bytes.{is_word_start, is_word_byte, is_mark, is_blank, is_not_line_feed}
use Rattle.kx_lex.specs.Pieces.{piece, extent, string_piece, number_piece, key_name_piece, word_piece}
use Rattle.kx_lex.specs.Starts.{start_of}
use Rattle.kx_lex.specs.declared.scan.Piece.{Piece}
use Rattle.kx_lex.specs.declared.scan.Piece.TheVariants.{End, Gap, Lexeme, BadByte}
use Rattle.kx_lex.specs.declared.start.Start.{Start}
use Rattle.kx_lex.specs.declared.start.Start.TheVariants as starts
use Rattle.kx_lex.specs.declared.token.TokenKind.TheVariants.{Mark}

abbrev pub piece_of : Start → ℕ → List ℕ → Piece
piece_of starts.Word b bs = word_piece (prefix_len is_word_byte (b ∷ bs)) (b ∷ bs)
piece_of starts.Digit b bs = number_piece (b ∷ bs)
piece_of starts.Blank b bs = Gap (prefix_len is_blank (b ∷ bs))
piece_of starts.Hash b bs = Gap (prefix_len is_not_line_feed (b ∷ bs))
piece_of starts.Slash b bs = if slice_index bs 0 == 47 then Gap (prefix_len is_not_line_feed (b ∷ bs)) else Lexeme (Mark b) 1
piece_of starts.Quote b bs = string_piece (extent false bs)
piece_of starts.Angle b bs = key_name_piece bs
piece_of starts.Mark b bs = Lexeme (Mark b) 1
piece_of starts.Nothing b bs = BadByte

at_slash : (bs : List ℕ) → piece (47 ∷ bs) ≡ piece_of (start_of 47) 47 bs
unfolding piece start_of
at_slash bs = refl

-- but where it is a slash
elsewhere : (b : ℕ) (bs : List ℕ) → (b == 47) ≡ false → piece (b ∷ bs) ≡ piece_of (start_of b) b bs
unfolding piece start_of
elsewhere b bs other = by (is_blank b) (b == 35) (b == 47) (is_word_start b) (is_ascii_digit b) (b == 34) (b == 60) (is_mark b) other
  where
    by : (blank hash slash word digit quote angle mark : Bool) → slash ≡ false
        → cond blank (Gap (prefix_len is_blank (b ∷ bs))) (cond (hash || (slash && (slice_index bs 0 == 47))) (Gap (prefix_len is_not_line_feed (b ∷ bs))) (cond word (word_piece (prefix_len is_word_byte (b ∷ bs)) (b ∷ bs)) (cond digit (number_piece (b ∷ bs)) (cond quote (string_piece (extent false bs)) (cond angle (key_name_piece bs) (cond mark (Lexeme (Mark b) 1) BadByte))))))
        ≡ piece_of (cond blank starts.Blank (cond hash starts.Hash (cond slash starts.Slash (cond word starts.Word (cond digit starts.Digit (cond quote starts.Quote (cond angle starts.Angle (cond mark starts.Mark starts.Nothing)))))))) b bs
    by true hash slash word digit quote angle mark never = refl
    by false true slash word digit quote angle mark never = refl
    by false false true word digit quote angle mark never = cc
    by false false false true digit quote angle mark never = refl
    by false false false false true quote angle mark never = refl
    by false false false false false true angle mark never = refl
    by false false false false false false true mark never = refl
    by false false false false false false false true never = refl
    by false false false false false false false false never = refl

by_slash : (b : ℕ) (bs : List ℕ) (slash : Bool) → (b == 47) ≡ slash → piece (b ∷ bs) ≡ piece_of (start_of b) b bs
by_slash b bs true is = let same : 47 ≡ b = sym (eqb-true b 47 is) in subst (λ (k : ℕ). piece (k ∷ bs) ≡ piece_of (start_of k) k bs) same (at_slash bs)
by_slash b bs false other = elsewhere b bs other

pub piece-start : (b : ℕ) (bs : List ℕ) → piece (b ∷ bs) ≡ piece_of (start_of b) b bs
piece-start b bs = by_slash b bs (b == 47) refl

pub piece-end : (bs : List ℕ) → length bs ≡ 0 → piece bs ≡ End
unfolding piece
piece-end [] e = refl
piece-end (b ∷ bs) e = absurd (omega arith)

-- what the byte is
abbrev pub is_start : Start → ℕ → Bool
is_start starts.Word b = is_word_start b
is_start starts.Digit b = is_ascii_digit b
is_start starts.Blank b = is_blank b
is_start starts.Hash b = b == 35
is_start starts.Slash b = b == 47
is_start _ b = true

start_of-is : (b : ℕ) → is_start (start_of b) b ≡ true
unfolding start_of
start_of-is b = by (is_blank b) refl (b == 35) refl (b == 47) refl (is_word_start b) refl (is_ascii_digit b) refl (b == 34) (b == 60) (is_mark b)
  where
    by : (blank : Bool) → is_blank b ≡ blank → (hash : Bool) → (b == 35) ≡ hash → (slash : Bool) → (b == 47) ≡ slash → (word : Bool) → is_word_start b ≡ word → (digit : Bool) → is_ascii_digit b ≡ digit → (quote angle mark : Bool)
        → is_start (cond blank starts.Blank (cond hash starts.Hash (cond slash starts.Slash (cond word starts.Word (cond digit starts.Digit (cond quote starts.Quote (cond angle starts.Angle (cond mark starts.Mark starts.Nothing)))))))) b ≡ true
    by true e hash f slash g word h digit i quote angle mark = e
    by false e true f slash g word h digit i quote angle mark = f
    by false e false f true g word h digit i quote angle mark = g
    by false e false f false g true h digit i quote angle mark = h
    by false e false f false g false h true i quote angle mark = i
    by false e false f false g false h false i true angle mark = refl
    by false e false f false g false h false i false true mark = refl
    by false e false f false g false h false i false false true = refl
    by false e false f false g false h false i false false false = refl

as_start : (s : Start) (b : ℕ) → start_of b ≡ s → is_start s b ≡ true
as_start s b e = subst (λ (t : Start). is_start t b ≡ true) e (start_of-is b)

pub digit-start : (b : ℕ) → start_of b ≡ starts.Digit → is_ascii_digit b ≡ true
digit-start b e = as_start starts.Digit b e

-- a prefix goes on after its first byte
one_more : (p : ℕ → Bool) (b : ℕ) (bs : List ℕ) → p b ≡ true → prefix_len p (b ∷ bs) ≡ 1 + prefix_len p bs
one_more p b bs e = rw e refl

word_starts : (b : ℕ) → is_word_start b ≡ true → is_word_byte b ≡ true
word_starts b e = by (is_ascii_digit b) (nat_le 65 b && nat_le b 90) (nat_le 97 b && nat_le b 122) (b == 95) e
  where
    by : (digit capital small bar : Bool) → ((capital || small) || bar) ≡ true → (((digit || capital) || small) || bar) ≡ true
    by true capital small bar e = refl
    by false capital small bar e = e

pub word-more : (b : ℕ) (bs : List ℕ) → start_of b ≡ starts.Word → prefix_len is_word_byte (b ∷ bs) ≡ 1 + prefix_len is_word_byte bs
word-more b bs e = one_more is_word_byte b bs (word_starts b (as_start starts.Word b e))

pub digit-more : (b : ℕ) (bs : List ℕ) → start_of b ≡ starts.Digit → prefix_len is_ascii_digit (b ∷ bs) ≡ 1 + prefix_len is_ascii_digit bs
digit-more b bs e = one_more is_ascii_digit b bs (digit-start b e)

pub blank-more : (b : ℕ) (bs : List ℕ) → start_of b ≡ starts.Blank → prefix_len is_blank (b ∷ bs) ≡ 1 + prefix_len is_blank bs
blank-more b bs e = one_more is_blank b bs (as_start starts.Blank b e)

pub hash-more : (b : ℕ) (bs : List ℕ) → start_of b ≡ starts.Hash → prefix_len is_not_line_feed (b ∷ bs) ≡ 1 + prefix_len is_not_line_feed bs
hash-more b bs e = let same : b ≡ 35 = eqb-true b 35 (as_start starts.Hash b e) in one_more is_not_line_feed b bs (rw same refl)

pub slash-more : (b : ℕ) (bs : List ℕ) → start_of b ≡ starts.Slash → prefix_len is_not_line_feed (b ∷ bs) ≡ 1 + prefix_len is_not_line_feed bs
slash-more b bs e = let same : b ≡ 47 = eqb-true b 47 (as_start starts.Slash b e) in one_more is_not_line_feed b bs (rw same refl)

not_blank : (b : ℕ) → start_of b ≢ starts.Blank → (blank : Bool) → is_blank b ≡ blank → is_blank b ≡ false
unfolding start_of
not_blank b other true e = absurd (other (rw e refl))
not_blank b other false e = e

pub blank-in : (b : ℕ) → start_of b ≡ starts.Blank → is_blank b ≡ true
blank-in b e = as_start starts.Blank b e

pub blank-out : (b : ℕ) → start_of b ≢ starts.Blank → is_blank b ≡ false
blank-out b other = not_blank b other (is_blank b) refl

pub ruleset blanks = (blank-in, blank-out)

pub ruleset pieces = (piece-start, piece-end, digit-start, word-more, blank-more, hash-more, slash-more)

-- a word goes on with what begins a word or a number
abbrev is_in_word : Start → Bool
is_in_word starts.Word = true
is_in_word starts.Digit = true
is_in_word _ = false

in_word : (b : ℕ) → b < 256 → is_in_word (start_of b) ≡ is_word_byte b
unfolding start_of
in_word b small =
    sym (get_or-map-range_with_len (λ k. is_in_word (start_of k)) 0 256 b b false small (omega arith))
    ∙ ap (λ ts. get_or ts b false) same
    ∙ get_or-map-range_with_len is_word_byte 0 256 b b false small (omega arith)
  where
    same : map (λ k. is_in_word (start_of k)) (range_with_len 0 256) ≡ map is_word_byte (range_with_len 0 256)
    same = refl

not_in_word : (s : Start) → s ≢ starts.Word → s ≢ starts.Digit → is_in_word s ≡ false
not_in_word starts.Word w d = absurd (w refl)
not_in_word starts.Digit w d = absurd (d refl)
not_in_word starts.Blank w d = refl
not_in_word starts.Hash w d = refl
not_in_word starts.Slash w d = refl
not_in_word starts.Quote w d = refl
not_in_word starts.Angle w d = refl
not_in_word starts.Mark w d = refl
not_in_word starts.Nothing w d = refl

pub word-in : (b : ℕ) (s : Start) → b < 256 → s ≡ start_of b → (s ≡ starts.Word) ⊎ (s ≡ starts.Digit) → true ≡ is_word_byte b
word-in b s small e (inl is) = sym (ap is_in_word is) ∙ ap is_in_word e ∙ in_word b small
word-in b s small e (inr is) = sym (ap is_in_word is) ∙ ap is_in_word e ∙ in_word b small

pub word-out : (b : ℕ) (s : Start) → b < 256 → s ≡ start_of b → s ≢ starts.Word → s ≢ starts.Digit → false ≡ is_word_byte b
word-out b s small e w d = sym (not_in_word s w d) ∙ ap is_in_word e ∙ in_word b small
