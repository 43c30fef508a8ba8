-- The text of several keysyms, a keysym at a time.
use Rattle.std.proofs.Common.{◌≡◌, ℕ, ◌≤◌, ◌<◌, ◌+◌, ◌*◌, suc, List, [], ◌++◌, Option, None, Some, add-one, append_assoc, drop, drop-cons, get_or, length, length-append, refl, sym, ap, ◌∙◌, arith}
use Rattle.std.proofs.lemmas.List.{append-nil, drop_all}
use Rattle.std.specs.Char.{encode_utf8}
use Rattle.kx_text.specs.Characters.{character_of}
use Rattle.kx_text.specs.Typing.{in_front, joined, or_nothing}
use Rattle.kx_text.proofs.Encoding.{encode-most}

-- a text in front of what may be one
abbrev pub onto : List ℕ → Option (List ℕ) → Option (List ℕ)
onto text None = None
onto text (Some rest) = Some (text ++ rest)

onto_nothing : (rest : Option (List ℕ)) → rest ≡ onto [] rest
onto_nothing None = refl
onto_nothing (Some rest) = refl

onto_one : (text : List ℕ) (character : ℕ) (rest : Option (List ℕ)) → onto text (in_front (Some character) rest) ≡ onto (text ++ encode_utf8 character) rest
onto_one text character None = refl
onto_one text character (Some rest) = ap Some (sym (append_assoc text (encode_utf8 character) rest))

-- so far the text is that of the keysyms up to a place, with so many bytes at most
pub record SoFar (keysyms text : List ℕ) (place : ℕ) : Type 0 where
  pub few : length text ≤ 4 * place
  pub rest : joined keysyms ≡ onto text (joined (drop place keysyms))

pub at_start : (keysyms text : List ℕ) → text ≡ [] → SoFar keysyms text 0
at_start keysyms text is =
    record {
      few = let none = ap length is in omega (arith, none);
      rest = onto_nothing (joined keysyms) ∙ ap (λ t. onto t (joined keysyms)) (sym is);
    }

front : (keysyms : List ℕ) (place : ℕ) → place < length keysyms → joined (drop place keysyms) ≡ in_front (character_of (get_or keysyms place 0)) (joined (drop (suc place) keysyms))
unfolding joined
front keysyms place within = ap joined (drop-cons keysyms place 0 within)

pub one_more : (keysyms text new : List ℕ) (place character : ℕ) → SoFar keysyms text place → place < length keysyms → character_of (get_or keysyms place 0) ≡ Some character → new ≡ text ++ encode_utf8 character → SoFar keysyms new (place + 1)
one_more keysyms text new place character so_far within is new_is =
    let most = encode-most character in
    let grown : length new ≡ length text + length (encode_utf8 character) = ap length new_is ∙ length-append text (encode_utf8 character) in
    record {
      few = omega (arith, so_far.few, grown, most);
      rest =
          so_far.rest ∙ ap (onto text) (front keysyms place within)
          ∙ ap (λ o. onto text (in_front o (joined (drop (suc place) keysyms)))) is
          ∙ onto_one text character (joined (drop (suc place) keysyms))
          ∙ ap (λ t. onto t (joined (drop (suc place) keysyms))) (sym new_is)
          ∙ ap (λ n. onto new (joined (drop n keysyms))) (sym (add-one place));
    }

pub none_at : (keysyms text : List ℕ) (place : ℕ) → SoFar keysyms text place → place < length keysyms → character_of (get_or keysyms place 0) ≡ None → or_nothing (joined keysyms) ≡ []
none_at keysyms text place so_far within is =
    ap or_nothing (so_far.rest ∙ ap (onto text) (front keysyms place within) ∙ ap (λ o. onto text (in_front o (joined (drop (suc place) keysyms)))) is)

pub at_end : (keysyms text : List ℕ) (place : ℕ) → SoFar keysyms text place → length keysyms ≤ place → or_nothing (joined keysyms) ≡ text
unfolding joined
at_end keysyms text place so_far all =
    ap or_nothing (so_far.rest ∙ ap (λ ks. onto text (joined ks)) (drop_all place keysyms all)) ∙ append-nil text
