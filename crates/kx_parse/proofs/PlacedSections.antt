-- What is read of the tokens of a place is the section that stands there.
use Rattle.std.proofs.Common.{ℕ, zero, suc, true, List, [], ◌∷◌, ◌++◌, length, drop, take, ◌≡◌, Some, Err, slice_get, sym, ◌∙◌, ap, subst, refl, arith}
use Rattle.kx_lex.specs.declared.fault.Fault.{Fault}
use Rattle.kx_lex.specs.Kinds.{front}
use Rattle.kx_lex.specs.Parsing.{done}
use Rattle.kx_lex.specs.PlacedTokens.{front_until}
use Rattle.kx_lex.specs.Production.{span_between, spanned}
use Rattle.kx_lex.specs.Reading.{IsReading, Reads, mark_len}
use Rattle.kx_lex.specs.Spelling.{many_front}
use Rattle.kx_lex.specs.declared.token.Span.{Span}
use Rattle.kx_lex.specs.declared.token.Token.{Token}
use Rattle.kx_lex.proofs.Laws.{done-same}
use Rattle.kx_lex.proofs.PlacedTokens.{IsFrom, SameFront-two, from-behind, from-token, last_stop, spanned-stop, until-last}
use Rattle.kx_parse.specs.Outline.{HasNoSectionAt, IsSectionAt, placed_sections}
use Rattle.kx_tree.specs.Sections.{section}
use Rattle.kx_tree.specs.declared.tree.Section.{Section}
use Rattle.kx_parse.proofs.LawfulSections.{section-lawful, section-uses}

-- the tokens of a place, however the text goes on there
abbrev pub AreTokensOf : List ℕ → Span → List Token → Type 0
AreTokensOf text place tokens = (us : List Token) → Reads place.start (drop place.start text) us → tokens ≡ front_until place.stop us

module _ (text : List ℕ) (place : Span) (tokens : List Token) (are : AreTokensOf text place tokens) where
  -- the tokens are read as a section
  abbrev Read : Section → Type 0
  Read x = (others : List Token) × ((section text).read tokens ≡ done x others)

  -- of tokens that spell a section at the place
  here-read : (t : Token) (before rest : List Token) (x : Section) → IsFrom text (t ∷ (before ++ rest)) → (section text).spells (t ∷ (before ++ rest)) x rest → span_between (t ∷ (before ++ rest)) rest ≡ place → Read x
  here-read t before rest x from spelled at =
      let start : t.span.start ≡ place.start = ap (λ (p : Span). p.start) at in
      let stop : last_stop t before ≡ place.stop = sym (spanned-stop t before rest) ∙ ap (λ (p : Span). p.stop) at in
      let reads = from-token text from.0 (drop from.0 text) t (before ++ rest) refl from.1 in
      let placed = subst (λ (n : ℕ). Reads n (drop n text) (t ∷ (before ++ rest))) start reads in
      let until = subst (λ (n : ℕ). front_until n (t ∷ (before ++ rest)) ≡ t ∷ (before ++ take 2 rest)) stop (until-last t before rest reads) in
      let same : tokens ≡ t ∷ (before ++ take 2 rest) = are (t ∷ (before ++ rest)) placed ∙ until in
      let near = (section-lawful text).near (t ∷ before) rest (take 2 rest) x (SameFront-two rest) spelled in
      let again = (section-lawful text).again (t ∷ (before ++ take 2 rest)) x (take 2 rest) near in
      (take 2 rest, ap (λ (ts : List Token). (section text).read ts) same ∙ again)

  at-read : (us rest : List Token) (x : Section) → IsFrom text us → (section text).spells us x rest → span_between us rest ≡ place → Read x
  at-read us rest x from spelled at = let behind = (section-lawful text).behind us x rest spelled in go behind.before behind.tokens
    where
      go : (before : List Token) → us ≡ before ++ rest → Read x
      go [] e = let uses = section-uses text us x rest spelled in let same = ap (λ (ts : List Token). length ts) e in absurd (omega arith)
      go (t ∷ before) e =
          let from_here = subst (λ (ts : List Token). IsFrom text ts) e from in
          let spelled_here = subst (λ (ts : List Token). (section text).spells ts x rest) e spelled in
          let at_here = subst (λ (ts : List Token). span_between ts rest ≡ place) e at in
          here-read t before rest x from_here spelled_here at_here

  among : (sections : List (Section × Span)) (us rest : List Token) (n : ℕ) (x : Section) → IsFrom text us → many_front (front (λ _. true)) (spanned (section text)).spells sections us rest → slice_get sections n ≡ Some (x, place) → Read x
  among [] us rest n x from spelled e = cc
  among (y ∷ ys) us rest zero x from spelled e =
      let same : y ≡ (x, place) = cc in
      let here = subst (λ (z : Section × Span). (spanned (section text)).spells us z spelled.1) same spelled.2 in
      at-read us spelled.1 x from here.0 here.1
  among (y ∷ ys) us rest (suc n) x from spelled e =
      let behind = (section-lawful text).behind us y.0 spelled.1 spelled.2.0 in
      let on = from-behind text behind.before spelled.1 (subst (λ (ts : List Token). IsFrom text ts) behind.tokens from) in
      among ys spelled.1 rest n x on spelled.3 e

  stands : (ts : List Token) (sections : List (Section × Span)) → IsReading text ts → (placed_sections text).spells ts sections [] → (n : ℕ) (x : Section) → slice_get sections n ≡ Some (x, place) → Read x
  stands ts sections reading spelled n x e = among sections ts [] n x (mark_len text, reading.reads) spelled.0 e

  pub found-is : (s : Section) (others : List Token) → (section text).read tokens ≡ done s others → IsSectionAt text place s
  found-is s others read ts sections reading spelled n x e = (done-same (sym (stands ts sections reading spelled n x e).1 ∙ read)).0

  pub none-is : (e : Fault) → (section text).read tokens ≡ Err e → HasNoSectionAt text place
  none-is e read ts sections reading spelled n x found = done-no-fault (sym (stands ts sections reading spelled n x found).1 ∙ read)
    where
      done-no-fault : {y : Section} {others : List Token} → done y others ≡ Err e → ⊥
      done-no-fault h = cc
