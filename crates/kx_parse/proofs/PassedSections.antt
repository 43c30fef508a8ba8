-- The outline of sections and of a file.
use Rattle.std.proofs.Common.{◌≡◌, ◌∙◌, ℕ, suc, ◌+◌, ◌-◌, ◌≤◌, Bool, true, false, cond, if◌then◌else◌, ◌&&◌, ◌==◌, List, [], ◌∷◌, ◌++◌, length, drop, map, Option, Some, None, Result, Ok, Err, refl, sym, ap, subst, arith, inl, inr, append_assoc, append-nil, length-append, length-drop}
use Rattle.std.proofs.lemmas.Bool.{eqb-true}
use Rattle.std.proofs.lemmas.List.{drop_at}
use Rattle.std.specs.Prelude.{IfOk, IfSome, filter, is_some}
use Rattle.kx_lex.specs.Kinds.{before_mark, front, is_keyword, is_mark, is_word}
use Rattle.kx_lex.specs.Parsing.{done}
use Rattle.kx_lex.specs.Passing.{Ends, ReadsEnd, Passes, PassesAs, PassesTo, PassesWord, IsAtToken, IsNoWord, Skips, front_byte, token}
use Rattle.kx_lex.specs.Production.{front_span, span_between, spanned}
use Rattle.kx_lex.specs.Pieces.{piece}
use Rattle.kx_lex.specs.Reading.{IsReading, Reads, ended, mark_len, span_of, token_of}
use Rattle.kx_lex.specs.Spelling.{many_front}
use Rattle.kx_lex.specs.Stops.{IsBehind}
use Rattle.kx_lex.specs.Tokens.{close_brace, keyword, mark, open_brace, semicolon, text_name}
use Rattle.kx_lex.specs.declared.keyword.Keyword.{Keyword}
use Rattle.kx_lex.specs.declared.keyword.Keyword.TheVariants as keywords
use Rattle.kx_lex.specs.declared.name.Name.{Name}
use Rattle.kx_lex.specs.declared.scan.Piece.TheVariants.{End, Lexeme}
use Rattle.kx_lex.specs.declared.token.Span.{Span}
use Rattle.kx_lex.specs.declared.token.Token.{Token}
use Rattle.kx_lex.specs.declared.token.TokenKind.TheVariants.{Mark, Word}
use Rattle.kx_lex.proofs.PassedOver.{Ends-drop, Ends-more, Lexes-more, Lexes-self, Skips-self, no_mark, no_text, no_word, nothing-read, single-piece, start-here, token-begins, true-false}
use Rattle.kx_lex.proofs.Reasons.{behind_more}
use Rattle.kx_lex.proofs.TokenLaws.{mark-front, text_name-front}
use Rattle.kx_tree.specs.Forms.{ended as ended_by}
use Rattle.kx_tree.specs.Geometry.{geometry, geometry_read}
use Rattle.kx_parse.specs.Outline.{EndSections, IsKindWord, IsNoFlag, IsOutline, IsSourceOutline, PassesDeep, held_by, is_include, items_ended, outline_from, outline_of, placed_sections, placed_source, sections_before, source_end, source_front}
use Rattle.kx_tree.specs.Sections.{Spells, SpellsFile, flag, flag_of, flagged, file, flags, geometry_body, geometry_section, held_items, held_sections, kind, kind_of, optional_text, plain_section, section, source}
use Rattle.kx_parse.specs.declared.outline.Outline.{Outline}
use Rattle.kx_tree.specs.declared.tree.Flag.{Flag}
use Rattle.kx_tree.specs.declared.tree.Item.{Item}
use Rattle.kx_tree.specs.declared.tree.Kind.{Kind}
use Rattle.kx_tree.specs.declared.tree.Kind.TheVariants.{Keycodes, Types, Compat, Symbols, Geometry}
use Rattle.kx_tree.specs.declared.tree.Section.{Section}
use Rattle.kx_parse.proofs.LawfulGeometry.{geometry-takes}
use Rattle.kx_parse.proofs.LawfulSections.{flag-none, flagged-lawful, flags-lawful, section-before, section-some, section-uses}
use Rattle.kx_tree.proofs.PassedForms.{closing}
use Rattle.kx_parse.proofs.PassedOutline.{as-known}
use Rattle.kx_tree.proofs.PassedValues.{other_mark}

-- a token of geometry, by what it is
deep-token : (text : List ℕ) (depth : ℕ) (t : Token) (ms : List Token) → is_mark 123 t ≡ false → is_mark 125 t ≡ false → geometry_read text depth (t ∷ ms) ≡ geometry_read text depth ms
deep-token text depth t ms o c = rw (o, c) refl

deep-opens : (text : List ℕ) (depth : ℕ) (t : Token) (ms : List Token) → is_mark 123 t ≡ true → geometry_read text depth (t ∷ ms) ≡ geometry_read text (suc depth) ms
deep-opens text depth t ms o = rw o refl

deep-closes : (text : List ℕ) (depth : ℕ) (t : Token) (ms : List Token) → is_mark 123 t ≡ false → is_mark 125 t ≡ true → geometry_read text (suc depth) (t ∷ ms) ≡ geometry_read text depth ms
deep-closes text depth t ms o c = rw (o, c) refl

deep-stops : (text : List ℕ) (t : Token) (ms : List Token) → is_mark 123 t ≡ false → is_mark 125 t ≡ true → geometry_read text 0 (t ∷ ms) ≡ done tt (t ∷ ms)
deep-stops text t ms o c = rw (o, c) refl

read-of : (text : List ℕ) (d e : ℕ) (us vs ms ts : List Token) → us ≡ vs → geometry_read text d vs ≡ geometry_read text e ms → geometry_read text e ms ≡ done tt ts → geometry_read text d us ≡ done tt ts
read-of text d e us vs ms ts same step all = ap (geometry_read text d) same ∙ step ∙ all

pub deeper-open : {depth : ℕ} {bs mid end : List ℕ} → Passes (λ text. mark text open_brace) bs mid → PassesDeep (suc depth) mid end → PassesDeep depth bs end
unfolding mark
deeper-open {depth} a b = record {
  lexes = Lexes-more a.lexes b.lexes;
  read = λ text us ends r.
      let s = a.spelled text us ends r in
      let t = b.read text s.1 (Ends-more ends a.lexes.ends) s.3 in
      (t.0, read-of text depth (suc depth) us (s.0 ∷ s.1) s.1 t.0 s.2.0 (deep-opens text depth s.0 s.1 s.2.1) t.1, t.2);
}

closes-only : (t : Token) → is_mark 125 t ≡ true → is_mark 123 t ≡ false
closes-only t h = other_mark (t ∷ []) 125 123 refl h

pub deeper-close : {depth : ℕ} {bs mid end : List ℕ} → Passes (λ text. mark text close_brace) bs mid → PassesDeep depth mid end → PassesDeep (suc depth) bs end
unfolding mark
deeper-close {depth} a b = record {
  lexes = Lexes-more a.lexes b.lexes;
  read = λ text us ends r.
      let s = a.spelled text us ends r in
      let t = b.read text s.1 (Ends-more ends a.lexes.ends) s.3 in
      (t.0, read-of text (suc depth) depth us (s.0 ∷ s.1) s.1 t.0 s.2.0 (deep-closes text depth s.0 s.1 (closes-only s.0 s.2.1) s.2.1) t.1, t.2);
}

front-of : (test : Token → Bool) (us : List Token) (t : Token) (ms : List Token) → us ≡ t ∷ ms → front test us ≡ false → test t ≡ false
front-of test us t ms same h = rw same at h

pub deeper-token : {depth : ℕ} {bs mid end : List ℕ} → IsAtToken bs → front_byte 123 bs ≡ false → front_byte 125 bs ≡ false → Passes token bs mid → PassesDeep depth mid end → PassesDeep depth bs end
deeper-token {depth} {bs} at o c a b = record {
  lexes = Lexes-more a.lexes b.lexes;
  read = λ text us ends r.
      let s = a.spelled text us ends r in
      let t = b.read text s.1 (Ends-more ends a.lexes.ends) s.3 in (
        t.0,
        read-of text depth depth us (s.0 ∷ s.1) s.1 t.0 s.2.0
            (deep-token text depth s.0 s.1 (front-of (is_mark 123) us s.0 s.1 s.2.0 (no_mark text bs us 123 at o r)) (front-of (is_mark 125) us s.0 s.1 s.2.0 (no_mark text bs us 125 at c r))) t.1,
        t.2,
      );
}

pub deep-end : {bs rest : List ℕ} → Passes (λ text. mark text close_brace) bs rest → PassesDeep 0 bs bs
unfolding mark
deep-end {bs} a = record {
  lexes = Lexes-self bs;
  read = λ text us ends r.
      let s = a.spelled text us ends r in
      (us, subst (λ (vs : List Token). geometry_read text 0 vs ≡ done tt vs) (sym s.2.0) (deep-stops text s.0 s.1 (closes-only s.0 s.2.1) s.2.1), r);
}

pub geometry-ended : {bs mid rest : List ℕ} → PassesDeep 0 bs mid → Passes (λ text. mark text close_brace) mid rest → Passes (λ text. ended_by text close_brace (geometry text)) bs rest
unfolding geometry
geometry-ended a b = record {
  lexes = Lexes-more a.lexes b.lexes;
  spelled = λ text us ends r.
      let s = a.read text us ends r in
      let t = b.spelled text s.0 (Ends-more ends a.lexes.ends) s.2 in
      (tt, t.1, (tt, s.0, geometry-takes text us tt s.0 s.1, (t.0, t.1, t.2, (refl, refl))), t.3);
}

-- a flag
pub flag-word : {word : Option Keyword} {bs rest : List ℕ} (f : Flag) → PassesWord word bs rest → ((offset n : ℕ) → flag_of (token_of (Word word) offset n) ≡ Some f) → PassesTo flag f bs rest
unfolding flag
flag-word {word} {bs} f a is text ends = record {
  lexes = a.lexes;
  spelled = λ us r.
      let t = a.begins text us ends r in
      let known = is (length text - length bs) t.0 in
      (f, t.1, (_, t.1, (t.2, rw known refl), (rw known refl, refl)), t.3, refl);
}

pub flag-kind : (t u : Token) → t.kind ≡ u.kind → flag_of t ≡ flag_of u
unfolding flag_of is_keyword
flag-kind t u e = rw e refl

no_word-flag : (us : List Token) → front is_word us ≡ false → front (λ t. is_some (flag_of t)) us ≡ false
no_word-flag [] h = refl
no_word-flag (t ∷ ts) h = rw (flag-none t h) refl

pub flag-nowhere : (bs : List ℕ) → IsAtToken bs → IsNoWord bs → IsNoFlag bs
flag-nowhere bs at none text ts ends r = no_word-flag ts (no_word text bs ts at none r)

pub flag-other : {word : Option Keyword} {bs rest : List ℕ} → PassesWord word bs rest → ((offset n : ℕ) → flag_of (token_of (Word word) offset n) ≡ None) → IsNoFlag bs
flag-other {word} {bs} a none text ts ends r =
    let t = a.begins text ts ends r in
    let never = none (length text - length bs) t.0 in
    rw (t.2, never) refl

-- a section's name
pub optional_text-some : (text : List ℕ) (n : Name) {bs rest : List ℕ} → PassesAs text (text_name text) (λ x. x ≡ n) bs rest → PassesAs text (optional_text text) (λ o. o ≡ Some n) bs rest
unfolding optional_text
optional_text-some text n a = record {
  lexes = a.lexes;
  spelled = λ us r.
      let s = a.spelled us r in
      (Some s.0, s.1, inl (text_name-front text us s.0 s.1 s.2, (s.0, s.1, s.2, (refl, refl))), s.3, rw s.4 refl);
}

pub optional_text-none : (text bs : List ℕ) → IsAtToken bs → front_byte 34 bs ≡ false → PassesAs text (optional_text text) (λ o. o ≡ None) bs bs
unfolding optional_text
optional_text-none text bs at h = record {
  lexes = Lexes-self bs;
  spelled = λ us r. (None, us, inr (no_text text bs us at h r, (refl, refl)), r, refl);
}

-- what a section holds
held-plain : (text : List ℕ) {Is : List Item → Type 0} {bs mid rest : List ℕ} → Ends text bs → Passes (λ t. mark t open_brace) bs mid → PassesAs text (items_ended text) Is mid rest → PassesAs text (held_items text) Is bs rest
unfolding held_items
held-plain text ends a b = record {
  lexes = Lexes-more a.lexes b.lexes;
  spelled = λ us r.
      let s = a.spelled text us ends r in
      let t = b.spelled s.1 s.3 in
      (t.0, t.1, (s.0, s.1, s.2, t.2), t.3, t.4);
}

pub held-other : (text : List ℕ) (k : Kind) {Is : List Item → Type 0} {bs mid rest : List ℕ} → (k ≡ Geometry → ⊥) → Ends text bs → Passes (λ t. mark t open_brace) bs mid → PassesAs text (items_ended text) Is mid rest → PassesAs text (held_by text k) Is bs rest
held-other text Keycodes other ends a b = held-plain text ends a b
held-other text Types other ends a b = held-plain text ends a b
held-other text Compat other ends a b = held-plain text ends a b
held-other text Symbols other ends a b = held-plain text ends a b
held-other text Geometry other ends a b = absurd (other refl)

pub held-geometry : (text : List ℕ) {bs mid rest : List ℕ} → Ends text bs → Passes (λ t. mark t open_brace) bs mid → Passes (λ t. ended_by t close_brace (geometry t)) mid rest → PassesAs text (held_by text Geometry) (λ is. [] ≡ filter is_include is) bs rest
unfolding geometry_body
held-geometry text ends a b = record {
  lexes = Lexes-more a.lexes b.lexes;
  spelled = λ us r.
      let s = a.spelled text us ends r in
      let t = b.spelled text s.1 (Ends-more ends a.lexes.ends) s.3 in
      ([], t.1, (t.0, t.1, (s.0, s.1, s.2, t.2), (refl, refl)), t.3, refl);
}

kind-spelled : (text : List ℕ) (us : List Token) (t : Token) (ms : List Token) (k : Kind) → us ≡ t ∷ ms → kind_of t ≡ Some k → (kind text).spells us k ms
unfolding kind
kind-spelled text us t ms k same j = (t, ms, (same, rw j refl), (rw j refl, refl))

front-is : (test : Token → Bool) (us : List Token) (t : Token) (ms : List Token) (b : Bool) → us ≡ t ∷ ms → test t ≡ b → front test us ≡ b
front-is test us t ms b same h = rw same h

flagged-plain : (text : List ℕ) (fs : List Flag) (k : Kind) {word : Option Keyword} (name : Option Name) (found : List Item) {bs m1 m2 rest : List ℕ} → Ends text bs → PassesWord word bs m1
    → ((offset n : ℕ) → (is_keyword keywords.XkbGeometry (token_of (Word word) offset n) ≡ false) × (kind_of (token_of (Word word) offset n) ≡ Some k))
    → PassesAs text (optional_text text) (λ o. o ≡ name) m1 m2 → PassesAs text (held_items text) (λ is. found ≡ filter is_include is) m2 rest
    → PassesAs text (flagged text fs) (λ s. record { flags = fs; kind = k; name = name; items = found } ≡ outline_of s) bs rest
unfolding flagged plain_section
flagged-plain text fs k {word} name found {bs} ends a is b c = record {
  lexes = Lexes-more a.lexes (Lexes-more b.lexes c.lexes);
  spelled = λ us r.
      let t = a.begins text us ends r in
      let n = b.spelled t.1 t.3 in
      let h = c.spelled n.1 n.3 in
      let tok = token_of (Word word) (length text - length bs) t.0 in
      let known = is (length text - length bs) t.0 in (
        record { flags = fs; kind = k; name = n.0; items = h.0 },
        h.1,
        inr (front-is (is_keyword keywords.XkbGeometry) us tok t.1 false t.2 known.0, (k, t.1, kind-spelled text us tok t.1 k t.2 known.1, (n.0, n.1, n.2, (h.0, h.1, h.2, (refl, refl))))),
        h.3,
        rw (n.4, h.4) refl,
      );
}

flagged-geometry : (text : List ℕ) (fs : List Flag) {word : Option Keyword} (name : Option Name) (found : List Item) {bs m1 m2 rest : List ℕ} → Ends text bs → PassesWord word bs m1
    → ((offset n : ℕ) → is_keyword keywords.XkbGeometry (token_of (Word word) offset n) ≡ true)
    → PassesAs text (optional_text text) (λ o. o ≡ name) m1 m2 → PassesAs text (held_by text Geometry) (λ is. found ≡ filter is_include is) m2 rest
    → PassesAs text (flagged text fs) (λ s. record { flags = fs; kind = Geometry; name = name; items = found } ≡ outline_of s) bs rest
unfolding flagged geometry_section keyword
flagged-geometry text fs {word} name found {bs} ends a is b c = record {
  lexes = Lexes-more a.lexes (Lexes-more b.lexes c.lexes);
  spelled = λ us r.
      let t = a.begins text us ends r in
      let n = b.spelled t.1 t.3 in
      let h = c.spelled n.1 n.3 in
      let tok = token_of (Word word) (length text - length bs) t.0 in
      let known = is (length text - length bs) t.0 in (
        record { flags = fs; kind = Geometry; name = n.0; items = [] },
        h.1,
        inl (front-is (is_keyword keywords.XkbGeometry) us tok t.1 true t.2 known, (tok, t.1, (t.2, known), (n.0, n.1, n.2, (h.2.0, h.2.1, h.2.2, (refl, h.2.3.1))))),
        h.3,
        rw (n.4, h.4, sym h.2.3.0) refl,
      );
}

pub flagged-kind : (text : List ℕ) (fs : List Flag) (k : Kind) {word : Option Keyword} (name : Option Name) (found : List Item) {bs m1 m2 rest : List ℕ} → Ends text bs → PassesWord word bs m1 → IsKindWord k word
    → PassesAs text (optional_text text) (λ o. o ≡ name) m1 m2 → PassesAs text (held_by text k) (λ is. found ≡ filter is_include is) m2 rest
    → PassesAs text (flagged text fs) (λ s. record { flags = fs; kind = k; name = name; items = found } ≡ outline_of s) bs rest
flagged-kind text fs Keycodes name found ends a is b c = flagged-plain text fs Keycodes name found ends a is b c
flagged-kind text fs Types name found ends a is b c = flagged-plain text fs Types name found ends a is b c
flagged-kind text fs Compat name found ends a is b c = flagged-plain text fs Compat name found ends a is b c
flagged-kind text fs Symbols name found ends a is b c = flagged-plain text fs Symbols name found ends a is b c
flagged-kind text fs Geometry name found ends a is b c = flagged-geometry text fs name found ends a is b c

-- where the ; stands that ends a section
head-span : (a b : Token) (xs ys : List Token) → a ∷ xs ≡ b ∷ ys → a.span ≡ b.span
head-span a b xs ys same = let heads : a ≡ b = cc in ap (λ (t : Token). t.span) heads

mark-here : (text : List ℕ) (bs : List ℕ) (us : List Token) (t : Token) (ts : List Token) → Ends text bs → IsAtToken bs → ReadsEnd text bs us → us ≡ t ∷ ts → is_mark 59 t ≡ true → t.span ≡ span_of (length text - length bs) 1
mark-here text [] us t ts ends at r same is = absurd (true-false (sym is ∙ front-of (is_mark 59) us t ts same (no_mark text [] us 59 at refl r)))
mark-here text (b ∷ left) us t ts ends at r same is = by (b == 59) refl
  where
    by : (here : Bool) → (b == 59) ≡ here → t.span ≡ span_of (length text - length (b ∷ left)) 1
    by false h = absurd (true-false (sym is ∙ front-of (is_mark 59) us t ts same (no_mark text (b ∷ left) us 59 at h r)))
    by true h =
        let e = subst (λ (m : ℕ). piece (m ∷ left) ≡ Lexeme (Mark m) 1) (sym (eqb-true b 59 h)) (single-piece 59 left refl) in
        let s = token-begins e (omega arith) (Skips-self (drop 1 (b ∷ left))) text us ends r in
        head-span t (token_of (Mark b) (length text - length (b ∷ left)) 1) ts s.0 (sym same ∙ s.1)

-- the tokens after the last of those before the rest
last-drop : (us before ks ts : List Token) (t : Token) → us ≡ before ++ ks → ks ≡ t ∷ ts → drop (length us - length ts - 1) us ≡ t ∷ ts
last-drop us before ks ts t whole here =
    let all : us ≡ before ++ t ∷ ts = rw (whole, here) refl in
    let count : length before ≡ length us - length ts - 1 = rw all (omega (arith, length-append before (t ∷ ts))) in
    subst (λ (vs : List Token). drop (length us - length ts - 1) vs ≡ t ∷ ts) (sym all) (drop_at before (t ∷ ts) (length us - length ts - 1) count)

section-span : (us ts ks : List Token) (t : Token) (start stop : ℕ) (b : IsBehind us ks) → ks ≡ t ∷ ts → (front_span us).start ≡ start → t.span.stop ≡ stop → record { start = start; stop = stop } ≡ span_between us ts
section-span us ts ks t start stop b here from to = rw (last-drop us b.before ks ts t b.tokens here, from, to) refl

some-tokens : (us ts : List Token) → length ts + 1 ≤ length us → us ≡ [] → ⊥
some-tokens us ts uses none = let nothing : length us ≡ 0 = rw none refl in omega arith

pub section-placed : (text : List ℕ) (fs : List Flag) (outline : Section) (span : Span) {bs m1 m2 rest : List ℕ} → Ends text bs → IsAtToken bs → PassesTo flags fs bs m1
    → PassesAs text (flagged text fs) (λ s. outline ≡ outline_of s) m1 m2 → IsAtToken m2 → Passes (λ t. mark t semicolon) m2 rest
    → span ≡ record { start = length text - length bs; stop = (length text - length m2) + 1 }
    → PassesAs text (spanned (section text)) (λ s. ◌≡◌ {A = Section × Span} (outline, span) (outline_of s.0, s.1)) bs rest
unfolding section mark
section-placed text fs outline span {bs} {m1} {m2} ends at a b next c place =
    let f = a text ends in
    let behind = Ends-more (Ends-more ends f.lexes.ends) b.lexes.ends in
    record {
      lexes = Lexes-more f.lexes (Lexes-more b.lexes c.lexes);
      spelled = λ us r.
          let s = f.spelled us r in
          let g = b.spelled s.1 s.3 in
          let e = c.spelled text g.1 behind g.3 in
          let body = subst (λ (k : List Flag). (flagged text k).spells s.1 g.0 g.1) (sym s.4) g.2 in
          let spells : (section text).spells us g.0 e.1 = (s.0, s.1, s.2, (g.0, g.1, body, (e.0, e.1, e.2, (refl, refl)))) in
          let within = behind_more ((flags-lawful text).behind us s.0 s.1 s.2) ((flagged-lawful text s.0).behind s.1 g.0 g.1 body) in
          let mark-span = mark-here text m2 g.1 e.0 e.1 behind next g.3 e.2.0 e.2.1 in
          let stop : e.0.span.stop ≡ (length text - length m2) + 1 = ap (λ (x : Span). x.stop) mark-span in
          let first = start-here text bs us at (some-tokens us e.1 (section-uses text us g.0 e.1 spells)) r in
          ((g.0, span_between us e.1), e.1, (spells, refl), e.3, rw (g.4, place, section-span us e.1 g.1 e.0 _ _ within e.2.0 first stop) refl);
    }

-- the sections so far, and those that follow
pub record Follows (sections before : List Section) (places spans : List Span) (xs : List (Section × Span)) : Type 0 where
  pub outlined : sections ≡ before ++ map (λ s. outline_of s.0) xs
  pub placed : places ≡ spans ++ map (λ s. s.1) xs

pub sections-none : (text : List ℕ) (sections : List Section) (places : List Span) (bs : List ℕ) → Ends text bs → EndSections bs → PassesAs text (sections_before text) (Follows sections sections places places) bs bs
sections-none text sections places bs ends over = record {
  lexes = Lexes-self bs;
  spelled = λ us r. ([], us, (refl, over text us ends r), r, record { outlined = sym (append-nil sections); placed = sym (append-nil places) });
}

follows-more : (sections before : List Section) (places spans : List Span) (o : Section) (span : Span) (x : Section × Span) (xs : List (Section × Span)) → ◌≡◌ {A = Section × Span} (o, span) (outline_of x.0, x.1)
    → Follows sections (before ++ o ∷ []) places (spans ++ span ∷ []) xs → Follows sections before places spans (x ∷ xs)
follows-more sections before places spans o span x xs same f =
    let first : o ≡ outline_of x.0 = ap (λ (p : Section × Span). p.0) same in
    let second : span ≡ x.1 = ap (λ (p : Section × Span). p.1) same in
    record {
      outlined = subst (λ (k : Section). sections ≡ before ++ k ∷ map (λ s. outline_of s.0) xs) first (rw append_assoc at f.outlined);
      placed = subst (λ (k : Span). places ≡ spans ++ k ∷ map (λ s. s.1) xs) second (rw append_assoc at f.placed);
    }

section_some : (text : List ℕ) (us : List Token) (x : Section × Span) (ts : List Token) → (spanned (section text)).spells us x ts → before_mark close_brace us ≡ true
section_some text us x ts s = section-before text us x.0 ts s.0

pub sections-more : (text : List ℕ) (sections before : List Section) (places spans : List Span) (o : Section) (span : Span) {bs mid end : List ℕ}
    → PassesAs text (spanned (section text)) (λ s. ◌≡◌ {A = Section × Span} (o, span) (outline_of s.0, s.1)) bs mid
    → PassesAs text (sections_before text) (Follows sections (before ++ o ∷ []) places (spans ++ span ∷ [])) mid end
    → PassesAs text (sections_before text) (Follows sections before places spans) bs end
sections-more text sections before places spans o span a b = record {
  lexes = Lexes-more a.lexes b.lexes;
  spelled = λ us r.
      let s = a.spelled us r in
      let t = b.spelled s.1 s.3 in
      (s.0 ∷ t.0, t.1, ((section_some text us s.0 s.1 s.2, s.1, s.2, t.2.0), t.2.1), t.3, follows-more sections before places spans o span s.0 t.0 s.4 t.4);
}

-- they are the outline of all that were passed
pub sections-all : (text : List ℕ) (sections : List Section) (places : List Span) {bs rest : List ℕ} → PassesAs text (sections_before text) (Follows sections [] places []) bs rest
    → PassesAs text (sections_before text) (λ ss. record { sections = sections; places = places } ≡ outline_from ss) bs rest
sections-all text sections places a = as-known text (λ ss f. rw (f.outlined, f.placed) refl) a

-- sections with where they stand are sections
unplaced : (text : List ℕ) (test : List Token → Bool) (xs : List (Section × Span)) (us ts : List Token) → many_front test (spanned (section text)).spells xs us ts → many_front test (section text).spells (map (λ s. s.0) xs) us ts
unplaced text test [] us ts s = s
unplaced text test (x ∷ xs) us ts s = (s.0, s.1, s.2.0, unplaced text test xs s.1 ts s.3)

pub file-placed : (text : List ℕ) (us : List Token) (xs : List (Section × Span)) → (placed_sections text).spells us xs [] → SpellsFile text us (record { sections = map (λ s. s.0) xs })
unfolding file
file-placed text us xs s = record { spelled = (map (λ x. x.0) xs, [], (unplaced text (front (λ _. true)) xs us [] s.0, refl), (tt, [], (refl, refl), (refl, refl))) }

-- those up to the end are all that a file has
to-end : (text : List ℕ) (xs : List (Section × Span)) (us : List Token) → many_front (before_mark close_brace) (spanned (section text)).spells xs us [] → many_front (front (λ _. true)) (spanned (section text)).spells xs us []
to-end text [] us s = s
to-end text (x ∷ xs) us s = (section-some text us x.0 s.1 s.2.0, s.1, s.2, to-end text xs s.1 s.3)

end-piece : piece [] ≡ End
unfolding piece
end-piece = refl

-- what a text is read as from its first token on, it is read as
whole-reading : (text start : List ℕ) (us : List Token) → mark_len text ≤ length text → Skips (drop (mark_len text) text) start → ReadsEnd text start us → IsReading text us
whole-reading text start us short skips r =
    let whole = skips.reads text us (Ends-drop (mark_len text) text) r in
    record { reads = subst (λ (k : ℕ). Reads k (drop (mark_len text) text) us) (omega (arith, length-drop (mark_len text) text)) whole }

-- a text that is passed over to its end has an outline
pub outlined-file : (text start : List ℕ) (outline : Outline) → mark_len text ≤ length text → Skips (drop (mark_len text) text) start
    → PassesAs text (sections_before text) (λ xs. outline ≡ outline_from xs) start [] → IsOutline text outline
outlined-file text start outline short skips a =
    let on = Ends-more (Ends-drop (mark_len text) text) skips.ends in
    let us = a.lexes.read text [] on (ended end-piece) in
    let s = a.spelled us.0 us.1 in
    let last = subst (λ (ts : List Token). (sections_before text).spells us.0 s.0 ts) (nothing-read s.3) s.2 in
    let placed : (placed_sections text).spells us.0 s.0 [] = (to-end text s.0 us.0 last.0, refl) in
    record {
      tokens = us.0;
      sections = s.0;
      reading = whole-reading text start us.0 short skips us.1;
      tree = file-placed text us.0 s.0 placed;
      placed = placed;
      outlined = ap (λ (o : Outline). o.sections) s.4;
      places = ap (λ (o : Outline). o.places) s.4;
    }

-- no text is shorter than its byte order mark
mark_or_none : (is : Bool) (n : ℕ) → 3 ≤ n → (if is then 3 else 0) ≤ n
mark_or_none true n long = long
mark_or_none false n long = omega arith

mark_none : (one two : Bool) (n : ℕ) → (if one && (two && false) then 3 else 0) ≤ n
mark_none true true n = omega arith
mark_none true false n = omega arith
mark_none false two n = omega arith

pub mark-fits : (text : List ℕ) → mark_len text ≤ length text
mark-fits [] = omega arith
mark-fits (a ∷ []) = mark_none (a == 239) false 1
mark-fits (a ∷ b ∷ []) = mark_none (a == 239) (b == 187) 2
mark-fits (a ∷ b ∷ c ∷ others) = mark_or_none ((a == 239) && ((b == 187) && (c == 191))) (length (a ∷ b ∷ c ∷ others)) (omega arith)

-- ---- A keymap's source

is-keymap : (offset n : ℕ) → is_keyword keywords.XkbKeymap (token_of (Word (Some keywords.XkbKeymap)) offset n) ≡ true
unfolding is_keyword
is-keymap offset n = refl

-- what stands before its sections
pub front-passes : (text : List ℕ) (fs : List Flag) {bs m1 m2 m3 rest : List ℕ} (name : Option Name) → Ends text bs → PassesTo flags fs bs m1 → PassesWord (Some keywords.XkbKeymap) m1 m2
    → PassesAs text (optional_text text) (λ n. n ≡ name) m2 m3 → Passes (λ t. mark t open_brace) m3 rest → PassesAs text (source_front text) (λ _. Unit {0}) bs rest
unfolding keyword
front-passes text fs {m1 = m1} name ends a b c d =
    let f = a text ends in
    let word = Ends-more ends f.lexes.ends in
    let behind = Ends-more (Ends-more word b.lexes.ends) c.lexes.ends in
    record {
      lexes = Lexes-more f.lexes (Lexes-more b.lexes (Lexes-more c.lexes d.lexes));
      spelled = λ us r.
          let s = f.spelled us r in
          let t = b.begins text s.1 word s.3 in
          let n = c.spelled t.1 t.3 in
          let o = d.spelled text n.1 behind n.3 in
          let tok = token_of (Word (Some keywords.XkbKeymap)) (length text - length m1) t.0 in
          (tt, o.1, (s.0, s.1, s.2, (tok, t.1, (t.2, is-keymap (length text - length m1) t.0), (n.0, n.1, n.2, (o.0, o.1, o.2, (refl, refl))))), o.3, tt);
    }

-- and what after them
pub end-passes : (text : List ℕ) {bs mid : List ℕ} → Ends text bs → Passes (λ t. mark t close_brace) bs mid → Passes (λ t. mark t semicolon) mid [] → PassesAs text (source_end text) (λ _. Unit {0}) bs []
end-passes text ends a b = record {
  lexes = Lexes-more a.lexes b.lexes;
  spelled = λ us r.
      let s = a.spelled text us ends r in
      let t = b.spelled text s.1 (Ends-more ends a.lexes.ends) s.3 in
      (tt, t.1, (s.0, s.1, s.2, (t.0, t.1, t.2, (nothing-read t.3, nothing-read t.3))), t.3, tt);
}

pub ends-closed : {bs rest : List ℕ} → Passes (λ t. mark t close_brace) bs rest → EndSections bs
ends-closed a text us ends r = let s = a.spelled text us ends r in closing close_brace us (mark-front text close_brace us s.0 s.1 s.2)

pub no-bytes : (bs : List ℕ) → length bs ≡ 0 → bs ≡ []
no-bytes [] e = refl
no-bytes (b ∷ bs) e = absurd (cc)

pub ends-nothing : (bs : List ℕ) → bs ≡ [] → EndSections bs
ends-nothing bs none text us ends r = rw (nothing-read (subst (λ (cs : List ℕ). ReadsEnd text cs us) none r)) refl

source-tree : (text : List ℕ) (us : List Token) (xs : List (Section × Span)) → (placed_source text).spells us xs [] → Spells text us (record { sections = map (λ s. s.0) xs })
unfolding source held_sections
source-tree text us xs s =
    let f = s.2 in
    let k = f.3 in
    let n = k.3 in
    let o = n.3 in
    let ss = s.3.0 in
    let e = s.3.3.2 in
    let g = e.3 in
    let trees = map (λ (x : Section × Span). x.0) ss in
    let within = unplaced text (before_mark close_brace) ss s.1 s.3.1 s.3.2.0 in
    let at_open = subst (λ (ts : List Token). many_front (before_mark close_brace) (section text).spells trees ts s.3.1) (sym o.3.1) within in
    let held : (held_sections text).spells n.1 trees e.1 = (o.0, o.1, o.2, (trees, s.3.1, (at_open, s.3.2.1), (e.0, e.1, e.2, (refl, refl)))) in
    let all : Spells text us (record { sections = trees }) = record { spelled = (f.0, f.1, f.2, (k.0, k.1, k.2, (n.0, n.1, n.2, (trees, e.1, held, (g.0, g.1, g.2, (tt, [], (g.3.0, refl), (refl, refl))))))) } in
    subst (λ (ys : List (Section × Span)). Spells text us (record { sections = map (λ x. x.0) ys })) s.3.3.3.0 all

-- a text that is passed over as a source has an outline
pub outlined-source : (text start : List ℕ) (outline : Outline) {mid last : List ℕ} → mark_len text ≤ length text → Skips (drop (mark_len text) text) start
    → PassesAs text (source_front text) (λ _. Unit {0}) start mid → PassesAs text (sections_before text) (λ xs. outline ≡ outline_from xs) mid last → PassesAs text (source_end text) (λ _. Unit {0}) last [] → IsSourceOutline text outline
outlined-source text start outline short skips a b c =
    let on = Ends-more (Ends-drop (mark_len text) text) skips.ends in
    let us = (Lexes-more a.lexes (Lexes-more b.lexes c.lexes)).read text [] on (ended end-piece) in
    let first = a.spelled us.0 us.1 in
    let s = b.spelled first.1 first.3 in
    let end = c.spelled s.1 s.3 in
    let over : (source_end text).spells s.1 end.0 [] = subst (λ (ts : List Token). (source_end text).spells s.1 end.0 ts) (nothing-read end.3) end.2 in
    let placed : (placed_source text).spells us.0 s.0 [] = (first.0, first.1, first.2, (s.0, s.1, s.2, (end.0, [], over, (refl, refl)))) in
    record {
      tokens = us.0;
      sections = s.0;
      reading = whole-reading text start us.0 short skips us.1;
      tree = source-tree text us.0 s.0 placed;
      placed = placed;
      outlined = s.4;
    }

-- the kind of section that a word begins
keyword-kind : (wanted : Keyword) (t u : Token) → t.kind ≡ u.kind → is_keyword wanted t ≡ is_keyword wanted u
unfolding is_keyword
keyword-kind wanted t u e = rw e refl

kind-kind : (t u : Token) → t.kind ≡ u.kind → kind_of t ≡ kind_of u
unfolding kind_of is_keyword
kind-kind t u e = rw e refl

pub kind-geometry : (word : Option Keyword) (token : Token) → token.kind ≡ Word word → is_keyword keywords.XkbGeometry token ≡ true → IsKindWord Geometry word
kind-geometry word token e is offset n = keyword-kind keywords.XkbGeometry (token_of (Word word) offset n) token (sym e) ∙ is

kind-plain : (word : Option Keyword) (token : Token) (k : Kind) → token.kind ≡ Word word → is_keyword keywords.XkbGeometry token ≡ false → kind_of token ≡ Some k
    → (offset n : ℕ) → (is_keyword keywords.XkbGeometry (token_of (Word word) offset n) ≡ false) × (kind_of (token_of (Word word) offset n) ≡ Some k)
kind-plain word token k e never is offset n =
    (keyword-kind keywords.XkbGeometry (token_of (Word word) offset n) token (sym e) ∙ never, kind-kind (token_of (Word word) offset n) token (sym e) ∙ is)

no_geometry : (t : Token) → kind_of t ≡ Some Geometry → ⊥
unfolding kind_of
no_geometry t h = by (is_keyword keywords.XkbKeycodes t) (is_keyword keywords.XkbTypes t) (is_keyword keywords.XkbSymbols t) (is_keyword keywords.XkbCompatibility t) (is_keyword keywords.XkbCompat t) (is_keyword keywords.XkbCompatMap t) (is_keyword keywords.XkbCompatibilityMap t) h
  where
    by : (a b c d e f g : Bool) → cond a (Some Keycodes) (cond b (Some Types) (cond c (Some Symbols) (cond d (Some Compat) (cond e (Some Compat) (cond f (Some Compat) (cond g (Some Compat) None)))))) ≡ Some Geometry → ⊥
    by true b c d e f g h = cc
    by false true c d e f g h = cc
    by false false true d e f g h = cc
    by false false false true e f g h = cc
    by false false false false true f g h = cc
    by false false false false false true g h = cc
    by false false false false false false true h = cc
    by false false false false false false false h = cc

pub kind-known : (found : Option Kind) (word : Option Keyword) (token : Token) → token.kind ≡ Word word → found ≡ kind_of token → is_keyword keywords.XkbGeometry token ≡ false → IfSome found (λ k. IsKindWord k word)
kind-known None word token e known never = tt
kind-known (Some Keycodes) word token e known never = kind-plain word token Keycodes e never (sym known)
kind-known (Some Types) word token e known never = kind-plain word token Types e never (sym known)
kind-known (Some Compat) word token e known never = kind-plain word token Compat e never (sym known)
kind-known (Some Symbols) word token e known never = kind-plain word token Symbols e never (sym known)
kind-known (Some Geometry) word token e known never = absurd (no_geometry token (sym known))

-- one brace more is open, and one less
pub deeper-in : {depth : ℕ} {bs mid end : List ℕ} → Passes (λ text. mark text open_brace) bs mid → PassesDeep (depth + 1) mid end → PassesDeep depth bs end
deeper-in {depth} {bs} {mid} {end} a b =
    let same : depth + 1 ≡ suc depth = omega arith in
    deeper-open a (subst (λ (d : ℕ). PassesDeep d mid end) same b)

pub deeper-out : {depth : ℕ} {bs mid end : List ℕ} → (depth ≡ 0 → ⊥) → Passes (λ text. mark text close_brace) bs mid → PassesDeep (depth - 1) mid end → PassesDeep depth bs end
deeper-out {depth} {bs} {mid} {end} some a b =
    let same : suc (depth - 1) ≡ depth = omega arith in
    subst (λ (d : ℕ). PassesDeep d bs end) same (deeper-close a b)

pub deep-whole : (depth : ℕ) (front : Bool) {bs rest : List ℕ} → true ≡ ((depth == 0) && front) → Passes (λ text. mark text close_brace) bs rest → PassesDeep depth bs bs
deep-whole depth front {bs} h a = by (depth == 0) refl h
  where
    by : (zero_deep : Bool) → (depth == 0) ≡ zero_deep → true ≡ (zero_deep && front) → PassesDeep depth bs bs
    by true e w = subst (λ (d : ℕ). PassesDeep d bs bs) (sym (eqb-true depth 0 e)) (deep-end a)
    by false e w = cc

pub ok-map : {X E : Type 0} {P Q : X → Type 0} (r : Result X E) → ((x : X) → P x → Q x) → IfOk r P → IfOk r Q
ok-map (Ok x) f h = f x h
ok-map (Err e) f h = h

pub some-map : {X : Type 0} {P Q : X → Type 0} (o : Option X) → ((x : X) → P x → Q x) → IfSome o P → IfSome o Q
some-map (Some x) f h = f x h
some-map None f h = h

pub held-geometry-at : (text : List ℕ) (k : Kind) {Is : List Item → Type 0} {bs rest : List ℕ} → k ≡ Geometry → PassesAs text (held_by text Geometry) Is bs rest → PassesAs text (held_by text k) Is bs rest
held-geometry-at text k {Is} {bs} {rest} e a = subst (λ (m : Kind). PassesAs text (held_by text m) Is bs rest) (sym e) a
