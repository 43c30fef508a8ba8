-- The outline of what is passed over by its bytes.
use Rattle.std.proofs.Common.{◌≡◌, ◌∙◌, ℕ, ◌-◌, Bool, true, false, ◌&&◌, ◌||◌, List, [], ◌∷◌, ◌++◌, length, Option, Some, None, refl, sym, ap, subst, arith, inl, inr, append_assoc, append-nil}
use Rattle.std.specs.Prelude.{IfNone, filter, is_none, is_some}
use Rattle.kx_lex.specs.Kinds.{front, is_key_name, is_keyword, is_mark, is_text, is_word, is_word_kind}
use Rattle.kx_lex.specs.Passing.{Ends, ReadsEnd, Passes, PassesAs, PassesTo, PassesWord, IsAtToken, IsNoWord, front_byte}
use Rattle.kx_lex.specs.Production.{Production, front_span, span_between}
use Rattle.kx_lex.specs.Reading.{token_of}
use Rattle.kx_lex.specs.Tokens.{bang, close_brace, mark, text_name}
use Rattle.kx_lex.specs.contracts.token.TokenKindPartialEq.TheImpl.{ghosts}
use Rattle.kx_lex.specs.declared.keyword.Keyword.{Keyword}
use Rattle.kx_lex.specs.declared.name.Name.{Name}
use Rattle.kx_lex.specs.declared.token.Span.{Span}
use Rattle.kx_lex.specs.declared.token.Token.{Token}
use Rattle.kx_lex.specs.declared.token.TokenKind.{TokenKind}
use Rattle.kx_lex.specs.declared.token.TokenKind.TheVariants.{Decimal, KeyName, Mark, Number, Text, Word}
use Rattle.kx_lex.proofs.PassedOver.{Ends-more, Lexes-more, Lexes-self, no_key_name, no_mark, no_text, no_word}
use Rattle.kx_lex.proofs.TokenLaws.{mark-front}
use Rattle.kx_tree.specs.Forms.{after}
use Rattle.kx_parse.specs.Outline.{BeginsNoInclude, BeginsNoModed, IsJoinWord, IsModeWord, IsNoFlag, include_at, is_include, items_ended}
use Rattle.kx_tree.specs.Passing.{terminated}
use Rattle.kx_tree.specs.Sections.{begins_include, begins_moded, flag, flags, include, item, join, join_of, modal, mode, mode_of, moded, own}
use Rattle.kx_tree.specs.Statements.{statement}
use Rattle.kx_tree.specs.declared.tree.Flag.{Flag}
use Rattle.kx_tree.specs.declared.tree.Item.{Item}
use Rattle.kx_tree.specs.declared.tree.Item.TheVariants as items
use Rattle.kx_tree.specs.declared.tree.Mode.{Mode}
use Rattle.kx_tree.specs.declared.tree.Mode.TheVariants.{Override}
use Rattle.kx_tree.specs.declared.tree.Statement.{Statement}
use Rattle.kx_parse.proofs.LawfulSections.{flag-front, include-begins, item-before, join-none, modal-begins, mode-none}
use Rattle.kx_tree.proofs.LawfulStatements.{starts, statement-starts}
use Rattle.kx_tree.proofs.PassedForms.{closing, not_both}

-- flags
pub flags-none : (bs : List ℕ) → IsNoFlag bs → PassesTo flags [] bs bs
unfolding flags
flags-none bs never text ends = record {
  lexes = Lexes-self bs;
  spelled = λ us r. ([], us, (refl, never text us ends r), r, refl);
}

pub flags-more : (f : Flag) (fs : List Flag) {bs mid rest : List ℕ} → PassesTo flag f bs mid → PassesTo flags fs mid rest → PassesTo flags (f ∷ fs) bs rest
unfolding flags
flags-more f fs a b text ends =
    let one = a text ends in
    let more = b text (Ends-more ends one.lexes.ends) in
    record {
      lexes = Lexes-more one.lexes more.lexes;
      spelled = λ us r.
          let s = one.spelled us r in
          let t = more.spelled s.1 s.3 in
          (s.0 ∷ t.0, t.1, ((flag-front text us s.0 s.1 s.2, s.1, s.2, t.2.0), t.2.1), t.3, rw (s.4, t.4) refl);
    }

-- items
pub items-none : (text : List ℕ) {bs rest : List ℕ} → Ends text bs → Passes (λ t. mark t close_brace) bs rest → PassesAs text (items_ended text) (λ is. [] ≡ filter is_include is) bs rest
items-none text {bs} {rest} ends a = record {
  lexes = a.lexes;
  spelled = λ us r.
      let s = a.spelled text us ends r in
      ([], s.1, ([], us, (refl, closing close_brace us (mark-front text close_brace us s.0 s.1 s.2)), (s.0, s.1, s.2, (refl, refl))), s.3, refl);
}

filter-one : (i : Item) (is : List Item) → filter is_include (i ∷ is) ≡ filter is_include (i ∷ []) ++ filter is_include is
filter-one (items.Include mode text span) is = refl
filter-one (items.Statement stated) is = refl

pub items-more : (text : List ℕ) (before after found : List Item) {bs mid rest : List ℕ}
    → PassesAs text (item text) (λ i. after ≡ before ++ filter is_include (i ∷ [])) bs mid
    → PassesAs text (items_ended text) (λ is. found ≡ after ++ filter is_include is) mid rest
    → PassesAs text (items_ended text) (λ is. found ≡ before ++ filter is_include is) bs rest
items-more text before after found a b = record {
  lexes = Lexes-more a.lexes b.lexes;
  spelled = λ us r.
      let s = a.spelled us r in
      let t = b.spelled s.1 s.3 in (
        s.0 ∷ t.2.0,
        t.1,
        (s.0 ∷ t.2.0, t.2.1, ((item-before text us s.0 s.1 s.2, s.1, s.2, t.2.2.0), t.2.2.1), (t.2.3.0, t.2.3.1, t.2.3.2, (refl, t.2.3.3.1))),
        t.3,
        counted s.0 t.2.0 t.0 t.2.3.3.0 s.4 t.4,
      );
}
  where
    counted : (i : Item) (is all : List Item) → is ≡ all → after ≡ before ++ filter is_include (i ∷ []) → found ≡ after ++ filter is_include all → found ≡ before ++ filter is_include (i ∷ is)
    counted i is all same one more = more ∙ rw (one, append_assoc, filter-one i is, same) refl

-- a statement that isn't in a mode
moded-spelled : (text : List ℕ) (m : Mode) (us : List Token) (x : Statement) (ts : List Token) → (terminated statement text).spells us x ts → (y : Mode × Statement × Span) × (moded text m).spells us y ts
unfolding moded
moded-spelled text m us x ts s = ((m, s.0, front_span us), ((s.0, front_span us), s.1, (s.2, refl), (s.3.0, s.3.1, s.3.2, (refl, s.3.3.1))))

own-spelled : (text : List ℕ) (us : List Token) (x : Statement) (ts : List Token) → begins_moded us ≡ false → (terminated statement text).spells us x ts → (y : Item) × (own text).spells us y ts × (is_include y ≡ false)
unfolding own
own-spelled text us x ts never s =
    let m = moded-spelled text Override us x ts s in
    (items.Statement (record { mode = m.0.0; statement = m.0.1; first = m.0.2; span = span_between us ts }), ((m.0, span_between us ts), ts, (inr (never, m.1), refl), (refl, refl)), refl)

moded-own : (text : List ℕ) (us ms : List Token) (m : Mode) (x : Statement) (ts : List Token) → (mode text).spells us m ms → (terminated statement text).spells ms x ts → (y : Item) × (own text).spells us y ts × (is_include y ≡ false)
unfolding own modal
moded-own text us ms m x ts a s =
    let n = moded-spelled text m ms x ts s in
    let all : (modal text).spells us n.0 ts = (m, ms, a, n.1) in
    (items.Statement (record { mode = n.0.0; statement = n.0.1; first = n.0.2; span = span_between us ts }), ((n.0, span_between us ts), ts, (inl (modal-begins text us n.0 ts all, all), refl), (refl, refl)), refl)

no_include : (before after : List Item) (i : Item) → is_include i ≡ false → after ≡ before → after ≡ before ++ filter is_include (i ∷ [])
no_include before after i never same = same ∙ rw (never, append-nil) refl

-- an item that is a statement adds nothing
pub item-statement : (text : List ℕ) (before after : List Item) {bs rest : List ℕ} → Ends text bs → after ≡ before
    → ((us : List Token) → ReadsEnd text bs us → (begins_include us ≡ false) × (begins_moded us ≡ false))
    → Passes (terminated statement) bs rest → PassesAs text (item text) (λ i. after ≡ before ++ filter is_include (i ∷ [])) bs rest
unfolding item
item-statement text before after ends same plain a = record {
  lexes = a.lexes;
  spelled = λ us r.
      let s = a.spelled text us ends r in
      let never = plain us r in
      let o = own-spelled text us s.0 s.1 never.1 s.2 in
      (o.0, s.1, inr (never.0, o.1), s.3, no_include before after o.0 o.2 same);
}

-- an include
two-span : (a b : Token) (ts : List Token) → span_between (a ∷ b ∷ ts) ts ≡ record { start = a.span.start; stop = b.span.stop }
two-span a b ts = let same : length (a ∷ b ∷ ts) - length ts - 1 ≡ 1 = omega arith in rw same refl

join-spelled : (text : List ℕ) (t : Token) (ms : List Token) (m : Mode) → join_of t ≡ Some m → (join text).spells (t ∷ ms) m ms
unfolding join
join-spelled text t ms m j = (t, ms, (refl, rw j refl), (rw j refl, refl))

include-spelled : (text : List ℕ) (t : Token) (ms : List Token) (m : Mode) (n : Name) (ts : List Token) → join_of t ≡ Some m → (text_name text).spells ms n ts → (include text).spells (t ∷ ms) (include_at m t.span.start n) ts
unfolding include text_name
include-spelled text t ms m n ts j s =
    let here : t ∷ ms ≡ t ∷ s.0 ∷ ts = rw (s.2.0, s.3.1) refl in
    let span : span_between (t ∷ ms) ts ≡ record { start = t.span.start; stop = s.0.span.stop } = subst (λ (vs : List Token). span_between vs ts ≡ record { start = t.span.start; stop = s.0.span.stop }) (sym here) (two-span t s.0 ts) in
    let stop : s.0.span ≡ n.span = ap (λ (x : Name). x.span) s.3.0 in
    (((m, n), span_between (t ∷ ms) ts), ts, ((m, ms, join-spelled text t ms m j, (n, ts, s, (refl, refl))), refl), (rw (span, stop) refl, refl))

include-counted : (before after : List Item) (include other : Item) → is_include include ≡ true → include ≡ other → after ≡ before ++ other ∷ [] → after ≡ before ++ filter is_include (include ∷ [])
include-counted before after include other is same added = rw is (rw same added)

pub item-include : (text : List ℕ) (before after : List Item) {word : Option Keyword} (added_include : Item) (m : Mode) {bs mid rest : List ℕ} → Ends text bs → PassesWord word bs mid → IsJoinWord m word
    → PassesAs text (text_name text) (λ n. added_include ≡ include_at m (length text - length bs) n) mid rest
    → after ≡ before ++ added_include ∷ [] → PassesAs text (item text) (λ i. after ≡ before ++ filter is_include (i ∷ [])) bs rest
unfolding item
item-include text before after {word} added_include m {bs} ends a j b added = record {
  lexes = Lexes-more a.lexes b.lexes;
  spelled = λ us r.
      let t = a.begins text us ends r in
      let s = b.spelled t.1 t.3 in
      let tok = token_of (Word word) (length text - length bs) t.0 in
      let i = include-spelled text tok t.1 m s.0 s.1 (j (length text - length bs) t.0) s.2 in
      let all = subst (λ (vs : List Token). (include text).spells vs (include_at m (length text - length bs) s.0) s.1) (sym t.2) i in (
        include_at m (length text - length bs) s.0,
        s.1,
        inl (include-begins text us _ s.1 all, all),
        s.3,
        include-counted before after _ added_include refl (sym s.4) added,
      );
}

-- a statement in a mode
starts-no_text : (us : List Token) → starts us ≡ true → front is_text us ≡ false
starts-no_text [] h = refl
starts-no_text (t ∷ ts) h = by t.kind h
  where
    by : (k : TokenKind) → ((is_word_kind k || ghosts.eq k KeyName) || ghosts.eq k (Mark 33)) ≡ true → ghosts.eq k Text ≡ false
    by (Word w) e = refl
    by Number e = refl
    by Decimal e = refl
    by KeyName e = refl
    by Text e = cc
    by (Mark b) e = refl

mode-spelled : (text : List ℕ) (t : Token) (ms : List Token) (m : Mode) → mode_of t ≡ Some m → (mode text).spells (t ∷ ms) m ms
unfolding mode
mode-spelled text t ms m j = (t, ms, (refl, rw j refl), (rw j refl, refl))

pub item-moded : (text : List ℕ) (before after : List Item) {word : Option Keyword} {bs mid rest : List ℕ} → Ends text bs → after ≡ before → PassesWord word bs mid → IsModeWord word
    → Passes (terminated statement) mid rest → PassesAs text (item text) (λ i. after ≡ before ++ filter is_include (i ∷ [])) bs rest
unfolding item
item-moded text before after {word} {bs} ends same a m b = record {
  lexes = Lexes-more a.lexes b.lexes;
  spelled = λ us r.
      let t = a.begins text us ends r in
      let s = b.spelled text t.1 (Ends-more ends a.lexes.ends) t.3 in
      let tok = token_of (Word word) (length text - length bs) t.0 in
      let mode = subst (λ (vs : List Token). (mode text).spells vs m.0 t.1) (sym t.2) (mode-spelled text tok t.1 m.0 (m.1 (length text - length bs) t.0)) in
      let o = moded-own text us t.1 m.0 s.0 s.1 mode s.2 in
      let never = not_both (is_some (join_of tok)) (front is_text t.1) (starts-no_text t.1 (statement-starts text t.1 s.2.0 s.2.1 s.2.2)) in
      (o.0, s.1, inr (rw t.2 never, o.1), s.3, no_include before after o.0 o.2 same);
}

-- the first word of a statement that begins neither an include nor a statement in a mode
pub item-word : (text : List ℕ) (before after : List Item) {word : Option Keyword} {bs mid rest : List ℕ} → Ends text bs → after ≡ before → PassesWord word bs mid → BeginsNoInclude word mid → BeginsNoModed word mid
    → Passes (terminated statement) bs rest → PassesAs text (item text) (λ i. after ≡ before ++ filter is_include (i ∷ [])) bs rest
item-word text before after {word} {bs} ends same a i m b = item-statement text before after ends same
    (λ us r.
    let t = a.begins text us ends r in
    (rw t.2 (i text (length text - length bs) t.0 t.1 t.3), rw t.2 (m text (length text - length bs) t.0 t.1 t.3)))
    b

-- where no word stands
no_word-none : {A : Type 0} (table : Token → Option A) → ((t : Token) → is_word t ≡ false → table t ≡ None) → (us : List Token) → front is_word us ≡ false → front (λ t. is_some (table t)) us ≡ false
no_word-none table none [] h = refl
no_word-none table none (t ∷ ts) h = rw (none t h) refl

pub item-other : (text : List ℕ) (before after : List Item) {bs rest : List ℕ} → Ends text bs → after ≡ before → IsAtToken bs → IsNoWord bs
    → Passes (terminated statement) bs rest → PassesAs text (item text) (λ i. after ≡ before ++ filter is_include (i ∷ [])) bs rest
item-other text before after {bs} ends same at other b = item-statement text before after ends same
    (λ us r.
    let w = no_word text bs us at other r in
    (rw (no_word-none join_of join-none us w) refl, rw (no_word-none mode_of mode-none us w) refl))
    b

-- the same of any word by its kind
pub mode-kind : (t u : Token) → t.kind ≡ u.kind → mode_of t ≡ mode_of u
unfolding mode_of is_keyword
mode-kind t u e = rw e refl

pub join-kind : (t u : Token) → t.kind ≡ u.kind → join_of t ≡ join_of u
unfolding join_of mode_of is_keyword
join-kind t u e = rw e refl

-- what is known of a value, said otherwise
pub as-known : (text : List ℕ) {A : Type 0} {p : Production A} {Is Or : A → Type 0} {bs rest : List ℕ} → ((x : A) → Is x → Or x) → PassesAs text p Is bs rest → PassesAs text p Or bs rest
as-known text f a = record {
  lexes = a.lexes;
  spelled = λ us r. let s = a.spelled us r in (s.0, s.1, s.2, s.3, f s.0 s.4);
}

pub mode-some : (found : Option Mode) → is_none found ≡ false → (m : Mode) × (found ≡ Some m)
mode-some None h = cc
mode-some (Some m) h = (m, refl)

include-never : (t : Token) (ts : List Token) → join_of t ≡ None → begins_include (t ∷ ts) ≡ false
include-never t ts e = rw e refl

moded-never : (t : Token) (ts : List Token) → mode_of t ≡ None → begins_moded (t ∷ ts) ≡ false
moded-never t ts e = rw e refl

-- a word that joins nothing, and one before which no text stands
pub include-unjoined : (word : Option Keyword) (bs : List ℕ) (token : Token) → token.kind ≡ Word word → join_of token ≡ None → BeginsNoInclude word bs
include-unjoined word bs token e none text offset n ts r = include-never (token_of (Word word) offset n) ts (join-kind (token_of (Word word) offset n) token (sym e) ∙ none)

pub include-untold : (word : Option Keyword) (bs : List ℕ) → IsAtToken bs → front_byte 34 bs ≡ false → BeginsNoInclude word bs
include-untold word bs at h text offset n ts r = not_both (is_some (join_of (token_of (Word word) offset n))) (front is_text ts) (no_text text bs ts at h r)

pub moded-unjoined : (word : Option Keyword) (bs : List ℕ) (token : Token) → token.kind ≡ Word word → mode_of token ≡ None → BeginsNoModed word bs
moded-unjoined word bs token e none text offset n ts r = moded-never (token_of (Word word) offset n) ts (mode-kind (token_of (Word word) offset n) token (sym e) ∙ none)

three : (m a b c : Bool) → a ≡ false → b ≡ false → c ≡ false → (m && ((a || b) || c)) ≡ false
three true a b c ha hb hc = rw (ha, hb, hc) refl
three false a b c ha hb hc = refl

pub moded-untold : (word : Option Keyword) (bs : List ℕ) → IsAtToken bs → IsNoWord bs → front_byte 60 bs ≡ false → front_byte 33 bs ≡ false → BeginsNoModed word bs
moded-untold word bs at none angle bang_byte text offset n ts r =
    three (is_some (mode_of (token_of (Word word) offset n))) (front is_word ts) (front is_key_name ts) (front (is_mark bang) ts)
    (no_word text bs ts at none r) (no_key_name text bs ts at angle r) (no_mark text bs ts 33 at bang_byte r)

pub mode-word : (word : Option Keyword) (token : Token) → token.kind ≡ Word word → is_none (mode_of token) ≡ false → IsModeWord word
mode-word word token e some =
    let m = mode-some (mode_of token) some in
    (m.0, λ offset n. mode-kind (token_of (Word word) offset n) token (sym e) ∙ m.1)

pub none-of : {A : Type 0} (found : Option A) → is_none found ≡ true → found ≡ None
none-of None h = refl
none-of (Some x) h = cc

pub if-none : {X : Type 0} {A : Type 0} (o : Option X) → A → IfNone o A
if-none None a = a
if-none (Some x) a = tt
