-- Fields and statements that are passed over by their bytes.
use Rattle.std.proofs.Common.{◌≡◌, ◌∙◌, ℕ, ◌-◌, Bool, true, false, ◌||◌, List, [], ◌∷◌, length, drop, Option, Some, refl, sym, subst, inl, inr}
use Rattle.kx_lex.specs.Kinds.{front, second, is_key_name, is_keyword, is_mark, is_number, is_text, is_word}
use Rattle.kx_lex.specs.Passing.{Passes, PassesWord, IsAtToken, IsNoWord, front_byte}
use Rattle.kx_lex.specs.Production.{Production, optional, span_between}
use Rattle.kx_lex.specs.Reading.{token_of}
use Rattle.kx_lex.specs.Tokens.{bang, close_brace, equals, key_name, keyword, mark, number, open_brace, open_bracket, plus, point, semicolon, text_name, word}
use Rattle.kx_lex.specs.contracts.token.TokenKindPartialEq.TheImpl.{ghosts}
use Rattle.kx_lex.specs.declared.keyword.Keyword.{Keyword}
use Rattle.kx_lex.specs.declared.keyword.Keyword.TheVariants as keywords
use Rattle.kx_lex.specs.declared.name.Name.{Name}
use Rattle.kx_lex.specs.declared.token.Span.{Span}
use Rattle.kx_lex.specs.declared.token.Token.{Token}
use Rattle.kx_lex.specs.declared.token.TokenKind.{TokenKind}
use Rattle.kx_lex.specs.declared.token.TokenKind.TheVariants.{Mark, Word}
use Rattle.kx_lex.proofs.Others.{other-keyword}
use Rattle.kx_lex.proofs.PassedOver.{Ends-more, Lexes-more, Lexes-self, any_keyword, no_mark, no_word}
use Rattle.kx_lex.proofs.TokenLaws.{key_name-front, mark-front, number-front, text_name-front, word-behind, word-front}
use Rattle.kx_tree.specs.Forms.{ended, listed, sequence}
use Rattle.kx_tree.specs.Passing.{GoesOn, alias_behind, block_fields, call_behind, field_behind, group_behind, indicator_name_behind, interpretation_behind, key_behind, modifier_map_behind, named_block, operations, place_behind, terminated, virtual_modifiers_behind}
use Rattle.kx_tree.specs.Statements.{alias, bare_field, begins, block, block_field, declaration, declared_mask, entry, field, field_statement, group, indicator, indicator_name, interpretation, key, key_field, key_type, keycode, keycodes_statement, mapped_entries, modifier_map, optional_modifiers, predicate, setting, statement, symbols_statement, types_statement, virtual_indicator, virtual_modifiers, wanted_modifiers}
use Rattle.kx_tree.specs.Values.{expression, index, list, member, place, symbol, value}
use Rattle.kx_tree.specs.declared.tree.Declaration.{Declaration}
use Rattle.kx_tree.specs.declared.tree.Field.{Field}
use Rattle.kx_tree.specs.declared.tree.FieldPlace.{FieldPlace}
use Rattle.kx_tree.specs.declared.tree.Index.{Index}
use Rattle.kx_tree.specs.declared.tree.Setting.{Setting}
use Rattle.kx_tree.specs.declared.tree.Setting.TheVariants as settings
use Rattle.kx_tree.specs.declared.tree.Statement.{Statement}
use Rattle.kx_tree.specs.declared.tree.Statement.TheVariants as statements
use Rattle.kx_tree.specs.declared.tree.Symbol.{Symbol}
use Rattle.kx_tree.proofs.LawfulStatements.{alias-begins, block_field-before, group-begins, indicator-begins, indicator_name-begins, interpretation-begins, key-begins, key_type-begins, keycode-front, modifier_map-begins, virtual_indicator-begins, virtual_modifiers-begins}
use Rattle.kx_tree.proofs.LawfulValues.{call-begins, list-front, place-front}
use Rattle.kx_tree.proofs.PassedForms.{after-passes, assigned-passes, both-passes, ended-passes, headed-passes, made-passes, made2-passes, made3-passes, more-ended, none-ended, not_both, placed-passes, two}
use Rattle.kx_tree.proofs.PassedValues.{call-passes, expression-passes, mark-no_word, mark_kind-no_key_name, mark_kind-no_number, mark_kind-no_text, mark_kind-no_word, number-no_key_name, other_mark, place-passes, place-spelled, term-word, text-no_number, word-no_call, word-no_key_name, word-no_mark, word_none-no_keyword}

pub setting-to : {bs mid rest : List ℕ} → Passes (λ text. mark text equals) bs mid → Passes value mid rest → Passes setting bs rest
unfolding setting
setting-to a b = record {
  lexes = Lexes-more a.lexes b.lexes;
  spelled = λ text us ends r.
      let s = two a b text us ends r in
      (settings.To s.3, s.4, inl (mark-front text equals us s.0 s.1 s.2, (s.0, s.1, s.2, (s.3, s.4, s.5, (refl, refl)))), s.6);
}

pub setting-on : (bs : List ℕ) → IsAtToken bs → front_byte 61 bs ≡ false → Passes setting bs bs
unfolding setting
setting-on bs at h = record {
  lexes = Lexes-self bs;
  spelled = λ text us ends r. (settings.On, us, inr (no_mark text bs us 61 at h r, (refl, refl)), r);
}

field-bare : {bs rest : List ℕ} → Passes bare_field bs rest → Passes field bs rest
unfolding field
field-bare a = placed-passes _ a

bare-off : {bs m1 m2 rest : List ℕ} → Passes (λ text. mark text bang) bs m1 → Passes word m1 m2 → Passes place_behind m2 rest → Passes bare_field bs rest
bare-off o w p = record {
  lexes = Lexes-more o.lexes (Lexes-more w.lexes p.lexes);
  spelled = λ text us ends r.
      let s = two o (place-passes w p) text us ends r in
      ((s.3, settings.Off), s.4, inl (mark-front text bang us s.0 s.1 s.2, (s.0, s.1, s.2, (s.3, s.4, s.5, (refl, refl)))), s.6);
}

pub field-off : {bs m1 m2 rest : List ℕ} → Passes (λ text. mark text bang) bs m1 → Passes word m1 m2 → Passes place_behind m2 rest → Passes field bs rest
field-off o w p = field-bare (bare-off o w p)

pub field-spelled : (text : List ℕ) (us : List Token) (w : Name) (ms : List Token) → (word text).spells us w ms → (x : (Option Name × Option Index) × Setting) (ts : List Token) → (field_behind text).spells ms x ts → (f : Field) × (field text).spells us f ts
unfolding field
field-spelled text us w ms a x ts s =
    let p = place-spelled text us w ms a s.0 s.1 s.2 in
    (_, (((p.0, s.3.0), span_between us ts), ts, (inr (word-no_mark us bang (word-front text us w ms a), (p.0, s.1, p.1, (s.3.0, s.3.1, s.3.2, (refl, s.3.3.1)))), refl), (refl, refl)))

pub field-on : {bs mid rest : List ℕ} → Passes word bs mid → Passes field_behind mid rest → Passes field bs rest
field-on a b = record {
  lexes = Lexes-more a.lexes b.lexes;
  spelled = λ text us ends r.
      let s = two a b text us ends r in
      let f = field-spelled text us s.0 s.1 s.2 s.3 s.4 s.5 in
      (f.0, s.4, f.1, s.6);
}

pub block_field-passes : {bs mid rest : List ℕ} → Passes field bs mid → Passes (λ text. mark text semicolon) mid rest → Passes block_field bs rest
unfolding block_field
block_field-passes a b = ended-passes semicolon a b

pub block_fields-none : {bs rest : List ℕ} → Passes (λ text. mark text close_brace) bs rest → Passes block_fields bs rest
block_fields-none a = none-ended block_field close_brace a

pub block_fields-more : {bs m1 m2 rest : List ℕ} → Passes field bs m1 → Passes (λ text. mark text semicolon) m1 m2 → Passes block_fields m2 rest → Passes block_fields bs rest
block_fields-more a b c = more-ended close_brace block_field-before (block_field-passes a b) c

pub block-passes : {bs mid rest : List ℕ} → Passes (λ text. mark text open_brace) bs mid → Passes block_fields mid rest → Passes block bs rest
unfolding block
block-passes o b = after-passes o b

pub key_field-list : {bs rest : List ℕ} → Passes list bs rest → Passes key_field bs rest
unfolding key_field
key_field-list a = record {
  lexes = a.lexes;
  spelled = λ text us ends r. let s = a.spelled text us ends r in (_, s.1, inl (list-front text us s.0 s.1 s.2, (s.0, s.1, s.2, (refl, refl))), s.3);
}

bang-no_bracket : (us : List Token) → front (is_mark bang) us ≡ true → front (is_mark open_bracket) us ≡ false
bang-no_bracket us h = other_mark us bang open_bracket refl h

-- a field begins with no bracket
field-no_bracket : (text : List ℕ) (us : List Token) (x : Field) (ts : List Token) → (field text).spells us x ts → front (is_mark open_bracket) us ≡ false
unfolding field
field-no_bracket text us x ts s = by s.2.0
  where
    by : (bare_field text).spells us s.0.0 s.1 → front (is_mark open_bracket) us ≡ false
    by (inl o) = bang-no_bracket us (mark-front text bang us o.1.0 o.1.1 o.1.2)
    by (inr o) = word-no_mark us open_bracket (place-front text us o.1.0 o.1.1 o.1.2)

pub key_field-field : {bs rest : List ℕ} → Passes field bs rest → Passes key_field bs rest
unfolding key_field
key_field-field a = record {
  lexes = a.lexes;
  spelled = λ text us ends r. let s = a.spelled text us ends r in (_, s.1, inr (field-no_bracket text us s.0 s.1 s.2, (s.0, s.1, s.2, (refl, refl))), s.3);
}

pub declared_mask-some : {bs mid rest : List ℕ} → Passes (λ text. mark text equals) bs mid → Passes expression mid rest → Passes declared_mask bs rest
declared_mask-some a b = record {
  lexes = Lexes-more a.lexes b.lexes;
  spelled = λ text us ends r.
      let s = two a b text us ends r in
      (Some s.3, s.4, inl (mark-front text equals us s.0 s.1 s.2, (s.3, s.4, (s.0, s.1, s.2, s.5), (refl, refl))), s.6);
}

pub declaration-passes : {bs mid rest : List ℕ} → Passes word bs mid → Passes declared_mask mid rest → Passes declaration bs rest
unfolding declaration
declaration-passes a b = made2-passes _ a b

pub predicate-call : {bs mid rest : List ℕ} → Passes word bs mid → Passes call_behind mid rest → Passes predicate bs rest
unfolding predicate
predicate-call a b = record {
  lexes = Lexes-more a.lexes b.lexes;
  spelled = λ text us ends r.
      let s = (call-passes a b).spelled text us ends r in
      (_, s.1, inl (call-begins text us s.0 s.1 s.2, (s.0, s.1, s.2, (refl, refl))), s.3);
}

pub predicate-expression : {bs rest : List ℕ} → IsAtToken bs → IsNoWord bs → Passes expression bs rest → Passes predicate bs rest
unfolding predicate
predicate-expression {bs} at never a = record {
  lexes = a.lexes;
  spelled = λ text us ends r.
      let s = a.spelled text us ends r in
      (_, s.1, inr (rw (no_word text bs us at never r) refl, (s.0, s.1, s.2, (refl, refl))), s.3);
}

pub predicate-operations : {bs mid rest : List ℕ} → Passes word bs mid → IsAtToken mid → front_byte 40 mid ≡ false → Passes operations mid rest → Passes predicate bs rest
unfolding predicate
predicate-operations a at h b = record {
  lexes = Lexes-more a.lexes b.lexes;
  spelled = λ text us ends r.
      let s = (expression-passes (term-word a) b).spelled text us ends r in
      (_, s.1, inr (word-no_call a at h text us ends r, (s.0, s.1, s.2, (refl, refl))), s.3);
}

pub wanted-passes : {bs mid rest : List ℕ} → Passes (λ text. mark text plus) bs mid → Passes predicate mid rest → Passes optional_modifiers bs rest
unfolding wanted_modifiers
wanted-passes a b = record {
  lexes = Lexes-more a.lexes b.lexes;
  spelled = λ text us ends r.
      let s = two a b text us ends r in
      (Some s.3, s.4, inl (mark-front text plus us s.0 s.1 s.2, (s.3, s.4, (s.0, s.1, s.2, s.5), (refl, refl))), s.6);
}

pub entry-key_name : {bs rest : List ℕ} → Passes key_name bs rest → Passes entry bs rest
unfolding entry
entry-key_name a = record {
  lexes = a.lexes;
  spelled = λ text us ends r. let s = a.spelled text us ends r in (_, s.1, inl (key_name-front text us s.0 s.1 s.2, (s.0, s.1, s.2, (refl, refl))), s.3);
}

-- a symbol is no key's name
symbol-no_key_name : (text : List ℕ) (us : List Token) (x : Symbol) (ts : List Token) → (symbol text).spells us x ts → front is_key_name us ≡ false
unfolding symbol
symbol-no_key_name text us x ts (inl s) = number-no_key_name us (number-front text us s.1.0 s.1.1 s.1.2)
symbol-no_key_name text us x ts (inr s) = word-no_key_name us (word-front text us s.1.0 s.1.1 s.1.2)

pub entry-symbol : {bs rest : List ℕ} → Passes symbol bs rest → Passes entry bs rest
unfolding entry
entry-symbol a = record {
  lexes = a.lexes;
  spelled = λ text us ends r. let s = a.spelled text us ends r in (_, s.1, inr (symbol-no_key_name text us s.0 s.1 s.2, (s.0, s.1, s.2, (refl, refl))), s.3);
}

pub terminated-passes : {A : Type 0} {p : List ℕ → Production A} {bs mid rest : List ℕ} → Passes p bs mid → Passes (λ text. mark text semicolon) mid rest → Passes (terminated p) bs rest
terminated-passes a b = ended-passes semicolon a b

pub keycode-passes : {bs m1 m2 m3 rest : List ℕ} → Passes key_name bs m1 → Passes (λ text. mark text equals) m1 m2 → Passes number m2 m3 → Passes (λ text. mark text semicolon) m3 rest → Passes (terminated keycode) bs rest
unfolding keycode
keycode-passes a e b end = ended-passes semicolon (assigned-passes statements.Keycode a e b) end

pub alias-passes : {bs m1 m2 m3 rest : List ℕ} → Passes key_name bs m1 → Passes (λ text. mark text equals) m1 m2 → Passes key_name m2 m3 → Passes (λ text. mark text semicolon) m3 rest → Passes (terminated alias_behind) bs rest
alias-passes a e b end = ended-passes semicolon (assigned-passes statements.Alias a e b) end

pub indicator_name-passes : {bs m1 m2 m3 rest : List ℕ} → Passes number bs m1 → Passes (λ text. mark text equals) m1 m2 → Passes text_name m2 m3 → Passes (λ text. mark text semicolon) m3 rest → Passes (terminated indicator_name_behind) bs rest
indicator_name-passes a e b end = ended-passes semicolon (assigned-passes statements.IndicatorName a e b) end

pub group-passes : {bs m1 m2 m3 rest : List ℕ} → Passes number bs m1 → Passes (λ text. mark text equals) m1 m2 → Passes expression m2 m3 → Passes (λ text. mark text semicolon) m3 rest → Passes (terminated group_behind) bs rest
group-passes a e b end = ended-passes semicolon (assigned-passes statements.Group a e b) end

pub named_block-passes : {bs m1 m2 rest : List ℕ} → Passes text_name bs m1 → Passes block m1 m2 → Passes (λ text. mark text semicolon) m2 rest → Passes (terminated named_block) bs rest
named_block-passes a b end = ended-passes semicolon (both-passes a b) end

pub interpretation-passes : {bs m1 m2 m3 rest : List ℕ} → Passes symbol bs m1 → Passes optional_modifiers m1 m2 → Passes block m2 m3 → Passes (λ text. mark text semicolon) m3 rest → Passes (terminated interpretation_behind) bs rest
interpretation-passes a b c end = ended-passes semicolon (made3-passes statements.Interpretation a b c) end

pub key-passes : {bs m1 m2 m3 rest : List ℕ} → Passes key_name bs m1 → Passes (λ text. mark text open_brace) m1 m2 → Passes (λ text. ended text close_brace (listed text close_brace (key_field text))) m2 m3 → Passes (λ text. mark text semicolon) m3 rest → Passes (terminated key_behind) bs rest
key-passes a o b end = ended-passes semicolon (headed-passes (λ text. listed text close_brace (key_field text)) open_brace close_brace statements.Key a o b) end

pub modifier_map-passes : {bs m1 m2 m3 m4 rest : List ℕ} → Passes word bs m1 → Passes (λ text. mark text open_brace) m1 m2 → Passes mapped_entries m2 m3 → Passes (λ text. mark text close_brace) m3 m4 → Passes (λ text. mark text semicolon) m4 rest → Passes (terminated modifier_map_behind) bs rest
modifier_map-passes a o b c end = ended-passes semicolon (headed-passes mapped_entries open_brace close_brace statements.ModifierMap a o (ended-passes close_brace b c)) end

-- a mark stands first
abbrev FirstMark : List Token → Type 0
FirstMark ts = (byte : ℕ) × (front (is_mark byte) ts ≡ true)

mark-no_keyword : (keyword : Keyword) (ts : List Token) (byte : ℕ) → front (is_mark byte) ts ≡ true → front (is_keyword keyword) ts ≡ false
mark-no_keyword keyword ts byte h = word_none-no_keyword keyword ts (mark-no_word ts byte h)

-- what may follow the first word of a field that is a statement is a mark
setting-first : (text : List ℕ) (ms : List Token) (x : Setting) (m : List Token) (t : Token) (rest : List Token) → (setting text).spells ms x m → (mark text semicolon).spells m t rest → FirstMark ms
unfolding setting
setting-first text ms x m t rest (inl s) end = (equals, s.0)
setting-first text ms x m t rest (inr s) end = (semicolon, rw s.1.1 (mark-front text semicolon m t rest end))

optional-first : {A : Type 0} (p : Production A) (byte : ℕ) (ms : List Token) (x : Option A) (m : List Token) → (optional (front (is_mark byte)) p).spells ms x m → FirstMark m → FirstMark ms
optional-first p byte ms x m (inl s) first = (byte, s.0)
optional-first p byte ms x m (inr s) first = (first.0, rw s.1.1 first.1)

place-first : (text : List ℕ) (us : List Token) (x : FieldPlace) (m : List Token) → (place text).spells us x m → FirstMark m → (front is_word us ≡ true) × FirstMark (drop 1 us)
unfolding place
place-first text us x m s first =
    let here : FirstMark s.3.3.1 = (first.0, rw s.3.3.3.1 first.1) in
    let behind_member : FirstMark s.3.1 = optional-first (index text) open_bracket s.3.1 s.3.3.0 s.3.3.1 s.3.3.2 here in
    let behind_word : FirstMark s.1 = optional-first (member text) point s.1 s.3.0 s.3.1 s.3.2 behind_member in
    (word-front text us s.0 s.1 s.2, (behind_word.0, rw (word-behind text us s.0 s.1 s.2) behind_word.1))

-- so no keyword begins what it begins elsewhere
first-no : (test : Token → Bool) → ((k : TokenKind) (span : Span) (byte : ℕ) → ghosts.eq k (Mark byte) ≡ true → test (record { kind = k; span = span }) ≡ false) → (ts : List Token) → FirstMark ts → front test ts ≡ false
first-no test never [] first = refl
first-no test never (t ∷ ts) first = never t.kind t.span first.0 first.1

-- nothing begins but a field
pub record BeginsNone (us : List Token) : Type 0 where
  pub key_name : front is_key_name us ≡ false
  pub alias : begins keywords.Alias is_key_name us ≡ false
  pub virtual : begins keywords.Virtual (is_keyword keywords.Indicator) us ≡ false
  pub indicator_name : begins keywords.Indicator is_number us ≡ false
  pub virtual_modifiers : begins keywords.VirtualModifiers is_word us ≡ false
  pub type : begins keywords.Type is_text us ≡ false
  pub interpret : begins keywords.Interpret (λ t. is_word t || is_number t) us ≡ false
  pub indicator : begins keywords.Indicator is_text us ≡ false
  pub group : begins keywords.Group is_number us ≡ false
  pub key : begins keywords.Key is_key_name us ≡ false
  pub modifier_map : begins keywords.ModifierMap is_word us ≡ false

none-statement : (text : List ℕ) (us : List Token) (x : Field) (ts : List Token) → BeginsNone us → (field text).spells us x ts → (statement text).spells us (statements.Field x) ts
unfolding statement keycodes_statement types_statement symbols_statement field_statement
none-statement text us x ts n s = inr (n.key_name, inr (n.alias, inr (n.virtual, inr (n.indicator_name, inr (n.virtual_modifiers, inr (n.type, inr (n.interpret, inr (n.indicator, inr (n.group, inr (n.key, inr (n.modifier_map, (x, ts, s, (refl, refl)))))))))))))

-- a mark first, or a word and a mark
mark-none : (us : List Token) → FirstMark us → BeginsNone us
mark-none us first = record {
  key_name = first-no is_key_name (λ k span byte h. mark_kind-no_key_name k byte h) us first;
  alias = never keywords.Alias is_key_name;
  virtual = never keywords.Virtual (is_keyword keywords.Indicator);
  indicator_name = never keywords.Indicator is_number;
  virtual_modifiers = never keywords.VirtualModifiers is_word;
  type = never keywords.Type is_text;
  interpret = never keywords.Interpret (λ t. is_word t || is_number t);
  indicator = never keywords.Indicator is_text;
  group = never keywords.Group is_number;
  key = never keywords.Key is_key_name;
  modifier_map = never keywords.ModifierMap is_word;
}
  where
    never : (keyword : Keyword) (test : Token → Bool) → begins keyword test us ≡ false
    never keyword test = rw (mark-no_keyword keyword us first.0 first.1) refl

word-none : (us : List Token) → front is_word us ≡ true → FirstMark (drop 1 us) → BeginsNone us
unfolding is_keyword
word-none us is first = record {
  key_name = word-no_key_name us is;
  alias = never keywords.Alias is_key_name (λ k span byte h. mark_kind-no_key_name k byte h);
  virtual = never keywords.Virtual (is_keyword keywords.Indicator) (λ k span byte h. other-keyword keywords.Indicator k (mark_kind-no_word k byte h));
  indicator_name = never keywords.Indicator is_number (λ k span byte h. mark_kind-no_number k byte h);
  virtual_modifiers = never keywords.VirtualModifiers is_word (λ k span byte h. mark_kind-no_word k byte h);
  type = never keywords.Type is_text (λ k span byte h. mark_kind-no_text k byte h);
  interpret = never keywords.Interpret (λ t. is_word t || is_number t) (λ k span byte h. rw (mark_kind-no_word k byte h, mark_kind-no_number k byte h) refl);
  indicator = never keywords.Indicator is_text (λ k span byte h. mark_kind-no_text k byte h);
  group = never keywords.Group is_number (λ k span byte h. mark_kind-no_number k byte h);
  key = never keywords.Key is_key_name (λ k span byte h. mark_kind-no_key_name k byte h);
  modifier_map = never keywords.ModifierMap is_word (λ k span byte h. mark_kind-no_word k byte h);
}
  where
    never : (keyword : Keyword) (test : Token → Bool) → ((k : TokenKind) (span : Span) (byte : ℕ) → ghosts.eq k (Mark byte) ≡ true → test (record { kind = k; span = span }) ≡ false) → begins keyword test us ≡ false
    never keyword test other = not_both (front (is_keyword keyword) us) (second test us) (first-no test other (drop 1 us) first)

field-none : (text : List ℕ) (us : List Token) (x : Field) (m : List Token) (t : Token) (rest : List Token) → (field text).spells us x m → (mark text semicolon).spells m t rest → BeginsNone us
unfolding field
field-none text us x m t rest s end = by s.2.0
  where
    by : (bare_field text).spells us s.0.0 s.1 → BeginsNone us
    by (inl o) = mark-none us (bang, mark-front text bang us o.1.0 o.1.1 o.1.2)
    by (inr o) =
        let first = setting-first text o.1.1 o.1.3.0 m t rest (rw (o.1.3.3.1 ∙ s.3.1) at o.1.3.2) end in
        let place = place-first text us o.1.0 o.1.1 o.1.2 first in
        word-none us place.0 place.1

-- a field with its ; is a statement
field-statement : (text : List ℕ) (us : List Token) (x : Field) (m : List Token) (t : Token) (rest : List Token) → (field text).spells us x m → (mark text semicolon).spells m t rest → (statement text).spells us (statements.Field x) m
field-statement text us x m t rest s end = none-statement text us x m (field-none text us x m t rest s end) s

pub field-passes : {bs rest : List ℕ} → Passes (terminated field_statement) bs rest → Passes (terminated statement) bs rest
unfolding field_statement
field-passes a = record {
  lexes = a.lexes;
  spelled = λ text us ends r.
      let s = a.spelled text us ends r in
      let f = subst (λ (m : List Token). (field text).spells us s.2.2.0 m) s.2.2.3.1 s.2.2.2 in
      (statements.Field s.2.2.0, s.1, (statements.Field s.2.2.0, s.2.1, field-statement text us s.2.2.0 s.2.1 s.2.3.0 s.2.3.1 f s.2.3.2, (s.2.3.0, s.2.3.1, s.2.3.2, (refl, s.2.3.3.1))), s.3);
}

pub keycode-statement : {bs rest : List ℕ} → Passes (terminated keycode) bs rest → Passes (terminated statement) bs rest
unfolding statement keycodes_statement
keycode-statement a = record {
  lexes = a.lexes;
  spelled = λ text us ends r.
      let s = a.spelled text us ends r in
      (s.2.0, s.1, (s.2.0, s.2.1, inl (keycode-front text us s.2.0 s.2.1 s.2.2, s.2.2), (s.2.3.0, s.2.3.1, s.2.3.2, (refl, s.2.3.3.1))), s.3);
}

-- what goes on after a word, as it is spelled
goes-on : {A : Type 0} (q : List ℕ → Production A) {bs rest : List ℕ} (keyword : Option Keyword)
    → ((text : List ℕ) (offset n : ℕ) (ms : List Token) (x : A) (m : List Token) → (q text).spells ms x m → (y : Statement) × (statement text).spells (token_of (Word keyword) offset n ∷ ms) y m)
    → Passes (terminated q) bs rest → GoesOn keyword bs rest
goes-on q keyword build b start a = record {
  lexes = Lexes-more a.lexes b.lexes;
  spelled = λ text us ends r.
      let t = a.begins text us ends r in
      let s = b.spelled text t.1 (Ends-more ends a.lexes.ends) t.3 in
      let y = build text (length text - length start) t.0 t.1 s.2.0 s.2.1 s.2.2 in
      (y.0, s.1, subst (λ (vs : List Token). (terminated statement text).spells vs y.0 s.1) (sym t.2) (y.0, s.2.1, y.1, (s.2.3.0, s.2.3.1, s.2.3.2, (refl, s.2.3.3.1))), s.3);
}

pub field-goes : {bs rest : List ℕ} (keyword : Option Keyword) → Passes (terminated field_behind) bs rest → GoesOn keyword bs rest
field-goes keyword b start a = record {
  lexes = Lexes-more a.lexes b.lexes;
  spelled = λ text us ends r.
      let w = (any_keyword a).spelled text us ends r in
      let s = b.spelled text w.1 (Ends-more ends a.lexes.ends) w.3 in
      let f = field-spelled text us w.0 w.1 w.2 s.2.0 s.2.1 s.2.2 in
      (statements.Field f.0, s.1, (statements.Field f.0, s.2.1, field-statement text us f.0 s.2.1 s.2.3.0 s.2.3.1 f.1 s.2.3.2, (s.2.3.0, s.2.3.1, s.2.3.2, (refl, s.2.3.3.1))), s.3);
}

alias-spelled : (text : List ℕ) (offset n : ℕ) (ms : List Token) (x : Statement) (ts : List Token) → (alias_behind text).spells ms x ts → (y : Statement) × (statement text).spells (token_of (Word (Some keywords.Alias)) offset n ∷ ms) y ts
unfolding statement keycodes_statement types_statement symbols_statement alias keyword is_keyword
alias-spelled text offset n ms x ts s =
    let all : (alias text).spells (token_of (Word (Some keywords.Alias)) offset n ∷ ms) (x) ts = (token_of (Word (Some keywords.Alias)) offset n, ms, (refl, refl), s) in
    (x, inr (refl, inl (alias-begins text (token_of (Word (Some keywords.Alias)) offset n ∷ ms) (x) ts all, all)))

pub alias-goes : {bs rest : List ℕ} → Passes (terminated alias_behind) bs rest → GoesOn (Some keywords.Alias) bs rest
alias-goes a = goes-on alias_behind (Some keywords.Alias) alias-spelled a

virtual-spelled : (text : List ℕ) (offset n : ℕ) (ms : List Token) (x : Statement) (ts : List Token) → (indicator_name text).spells ms x ts → (y : Statement) × (statement text).spells (token_of (Word (Some keywords.Virtual)) offset n ∷ ms) y ts
unfolding statement keycodes_statement types_statement symbols_statement virtual_indicator keyword is_keyword
virtual-spelled text offset n ms x ts s =
    let all : (virtual_indicator text).spells (token_of (Word (Some keywords.Virtual)) offset n ∷ ms) (x) ts = (token_of (Word (Some keywords.Virtual)) offset n, ms, (refl, refl), s) in
    (x, inr (refl, inr (refl, inl (virtual_indicator-begins text (token_of (Word (Some keywords.Virtual)) offset n ∷ ms) (x) ts all, all))))

pub virtual-goes : {bs rest : List ℕ} → Passes (terminated indicator_name) bs rest → GoesOn (Some keywords.Virtual) bs rest
virtual-goes a = goes-on indicator_name (Some keywords.Virtual) virtual-spelled a

indicator_name-spelled : (text : List ℕ) (offset n : ℕ) (ms : List Token) (x : Statement) (ts : List Token) → (indicator_name_behind text).spells ms x ts → (y : Statement) × (statement text).spells (token_of (Word (Some keywords.Indicator)) offset n ∷ ms) y ts
unfolding statement keycodes_statement types_statement symbols_statement indicator_name keyword is_keyword
indicator_name-spelled text offset n ms x ts s =
    let all : (indicator_name text).spells (token_of (Word (Some keywords.Indicator)) offset n ∷ ms) (x) ts = (token_of (Word (Some keywords.Indicator)) offset n, ms, (refl, refl), s) in
    (x, inr (refl, inr (refl, inr (refl, inl (indicator_name-begins text (token_of (Word (Some keywords.Indicator)) offset n ∷ ms) (x) ts all, all)))))

pub indicator_name-goes : {bs rest : List ℕ} → Passes (terminated indicator_name_behind) bs rest → GoesOn (Some keywords.Indicator) bs rest
indicator_name-goes a = goes-on indicator_name_behind (Some keywords.Indicator) indicator_name-spelled a

virtual_modifiers-spelled : (text : List ℕ) (offset n : ℕ) (ms : List Token) (x : List Declaration) (ts : List Token) → (virtual_modifiers_behind text).spells ms x ts → (y : Statement) × (statement text).spells (token_of (Word (Some keywords.VirtualModifiers)) offset n ∷ ms) y ts
unfolding statement keycodes_statement types_statement symbols_statement virtual_modifiers keyword is_keyword
virtual_modifiers-spelled text offset n ms x ts s =
    let all : (virtual_modifiers text).spells (token_of (Word (Some keywords.VirtualModifiers)) offset n ∷ ms) (statements.VirtualModifiers x) ts = (token_of (Word (Some keywords.VirtualModifiers)) offset n, ms, (refl, refl), (x, ts, s, (refl, refl))) in
    (statements.VirtualModifiers x, inr (refl, inr (refl, inr (refl, inr (refl, inl (virtual_modifiers-begins text (token_of (Word (Some keywords.VirtualModifiers)) offset n ∷ ms) (statements.VirtualModifiers x) ts all, all))))))

pub virtual_modifiers-goes : {bs rest : List ℕ} → Passes (terminated virtual_modifiers_behind) bs rest → GoesOn (Some keywords.VirtualModifiers) bs rest
virtual_modifiers-goes a = goes-on virtual_modifiers_behind (Some keywords.VirtualModifiers) virtual_modifiers-spelled a

key_type-spelled : (text : List ℕ) (offset n : ℕ) (ms : List Token) (x : Name × List Field) (ts : List Token) → (named_block text).spells ms x ts → (y : Statement) × (statement text).spells (token_of (Word (Some keywords.Type)) offset n ∷ ms) y ts
unfolding statement keycodes_statement types_statement symbols_statement key_type keyword is_keyword
key_type-spelled text offset n ms x ts s =
    let all : (key_type text).spells (token_of (Word (Some keywords.Type)) offset n ∷ ms) (statements.KeyType s.0 s.3.0) ts = (token_of (Word (Some keywords.Type)) offset n, ms, (refl, refl), (s.0, s.1, s.2, (s.3.0, s.3.1, s.3.2, (refl, s.3.3.1)))) in
    (statements.KeyType s.0 s.3.0, inr (refl, inr (refl, inr (refl, inr (refl, inr (refl, inl (key_type-begins text (token_of (Word (Some keywords.Type)) offset n ∷ ms) (statements.KeyType s.0 s.3.0) ts all, all)))))))

pub key_type-goes : {bs rest : List ℕ} → Passes (terminated named_block) bs rest → GoesOn (Some keywords.Type) bs rest
key_type-goes a = goes-on named_block (Some keywords.Type) key_type-spelled a

interpretation-spelled : (text : List ℕ) (offset n : ℕ) (ms : List Token) (x : Statement) (ts : List Token) → (interpretation_behind text).spells ms x ts → (y : Statement) × (statement text).spells (token_of (Word (Some keywords.Interpret)) offset n ∷ ms) y ts
unfolding statement keycodes_statement types_statement symbols_statement interpretation keyword is_keyword
interpretation-spelled text offset n ms x ts s =
    let all : (interpretation text).spells (token_of (Word (Some keywords.Interpret)) offset n ∷ ms) (x) ts = (token_of (Word (Some keywords.Interpret)) offset n, ms, (refl, refl), s) in
    (x, inr (refl, inr (refl, inr (refl, inr (refl, inr (refl, inr (refl, inl (interpretation-begins text (token_of (Word (Some keywords.Interpret)) offset n ∷ ms) (x) ts all, all))))))))

pub interpretation-goes : {bs rest : List ℕ} → Passes (terminated interpretation_behind) bs rest → GoesOn (Some keywords.Interpret) bs rest
interpretation-goes a = goes-on interpretation_behind (Some keywords.Interpret) interpretation-spelled a

indicator-spelled : (text : List ℕ) (offset n : ℕ) (ms : List Token) (x : Name × List Field) (ts : List Token) → (named_block text).spells ms x ts → (y : Statement) × (statement text).spells (token_of (Word (Some keywords.Indicator)) offset n ∷ ms) y ts
unfolding statement keycodes_statement types_statement symbols_statement indicator keyword is_keyword
indicator-spelled text offset n ms x ts s =
    let all : (indicator text).spells (token_of (Word (Some keywords.Indicator)) offset n ∷ ms) (statements.Indicator s.0 s.3.0) ts = (token_of (Word (Some keywords.Indicator)) offset n, ms, (refl, refl), (s.0, s.1, s.2, (s.3.0, s.3.1, s.3.2, (refl, s.3.3.1)))) in
    (statements.Indicator s.0 s.3.0, inr (refl, inr (refl, inr (refl, inr (text-no_number ms (text_name-front text ms s.0 s.1 s.2), inr (refl, inr (refl, inr (refl, inl (indicator-begins text (token_of (Word (Some keywords.Indicator)) offset n ∷ ms) (statements.Indicator s.0 s.3.0) ts all, all)))))))))

pub indicator-goes : {bs rest : List ℕ} → Passes (terminated named_block) bs rest → GoesOn (Some keywords.Indicator) bs rest
indicator-goes a = goes-on named_block (Some keywords.Indicator) indicator-spelled a

group-spelled : (text : List ℕ) (offset n : ℕ) (ms : List Token) (x : Statement) (ts : List Token) → (group_behind text).spells ms x ts → (y : Statement) × (statement text).spells (token_of (Word (Some keywords.Group)) offset n ∷ ms) y ts
unfolding statement keycodes_statement types_statement symbols_statement group keyword is_keyword
group-spelled text offset n ms x ts s =
    let all : (group text).spells (token_of (Word (Some keywords.Group)) offset n ∷ ms) (x) ts = (token_of (Word (Some keywords.Group)) offset n, ms, (refl, refl), s) in
    (x, inr (refl, inr (refl, inr (refl, inr (refl, inr (refl, inr (refl, inr (refl, inr (refl, inl (group-begins text (token_of (Word (Some keywords.Group)) offset n ∷ ms) (x) ts all, all))))))))))

pub group-goes : {bs rest : List ℕ} → Passes (terminated group_behind) bs rest → GoesOn (Some keywords.Group) bs rest
group-goes a = goes-on group_behind (Some keywords.Group) group-spelled a

key-spelled : (text : List ℕ) (offset n : ℕ) (ms : List Token) (x : Statement) (ts : List Token) → (key_behind text).spells ms x ts → (y : Statement) × (statement text).spells (token_of (Word (Some keywords.Key)) offset n ∷ ms) y ts
unfolding statement keycodes_statement types_statement symbols_statement key keyword is_keyword
key-spelled text offset n ms x ts s =
    let all : (key text).spells (token_of (Word (Some keywords.Key)) offset n ∷ ms) (x) ts = (token_of (Word (Some keywords.Key)) offset n, ms, (refl, refl), s) in
    (x, inr (refl, inr (refl, inr (refl, inr (refl, inr (refl, inr (refl, inr (refl, inr (refl, inr (refl, inl (key-begins text (token_of (Word (Some keywords.Key)) offset n ∷ ms) (x) ts all, all)))))))))))

pub key-goes : {bs rest : List ℕ} → Passes (terminated key_behind) bs rest → GoesOn (Some keywords.Key) bs rest
key-goes a = goes-on key_behind (Some keywords.Key) key-spelled a

modifier_map-spelled : (text : List ℕ) (offset n : ℕ) (ms : List Token) (x : Statement) (ts : List Token) → (modifier_map_behind text).spells ms x ts → (y : Statement) × (statement text).spells (token_of (Word (Some keywords.ModifierMap)) offset n ∷ ms) y ts
unfolding statement keycodes_statement types_statement symbols_statement modifier_map keyword is_keyword
modifier_map-spelled text offset n ms x ts s =
    let all : (modifier_map text).spells (token_of (Word (Some keywords.ModifierMap)) offset n ∷ ms) (x) ts = (token_of (Word (Some keywords.ModifierMap)) offset n, ms, (refl, refl), s) in
    (x, inr (refl, inr (refl, inr (refl, inr (refl, inr (refl, inr (refl, inr (refl, inr (refl, inr (refl, inr (refl, inl (modifier_map-begins text (token_of (Word (Some keywords.ModifierMap)) offset n ∷ ms) (x) ts all, all))))))))))))

pub modifier_map-goes : {bs rest : List ℕ} → Passes (terminated modifier_map_behind) bs rest → GoesOn (Some keywords.ModifierMap) bs rest
modifier_map-goes a = goes-on modifier_map_behind (Some keywords.ModifierMap) modifier_map-spelled a

pub field_statement-passes : {bs mid rest : List ℕ} → Passes field bs mid → Passes (λ text. mark text semicolon) mid rest → Passes (terminated field_statement) bs rest
unfolding field_statement
field_statement-passes a b = ended-passes semicolon (made-passes statements.Field a) b

-- what stands after indicator with its word
pub indicator_name-word : {bs mid rest : List ℕ} → PassesWord (Some keywords.Indicator) bs mid → Passes (terminated indicator_name_behind) mid rest → Passes (terminated indicator_name) bs rest
unfolding indicator_name keyword is_keyword
indicator_name-word {bs} {mid} {rest} a b = record {
  lexes = Lexes-more a.lexes b.lexes;
  spelled = λ text us ends r.
      let t = a.begins text us ends r in
      let s = b.spelled text t.1 (Ends-more ends a.lexes.ends) t.3 in
      (s.2.0, s.1, (s.2.0, s.2.1, (token_of (Word (Some keywords.Indicator)) (length text - length bs) t.0, t.1, (t.2, refl), s.2.2), (s.2.3.0, s.2.3.1, s.2.3.2, (refl, s.2.3.3.1))), s.3);
}

-- a keyword that is known to be another
pub goes-as : {word other : Option Keyword} {bs rest : List ℕ} → word ≡ other → GoesOn other bs rest → GoesOn word bs rest
goes-as {word} {other} {bs} {rest} e goes = subst (λ (w : Option Keyword). GoesOn w bs rest) (sym e) goes

pub word-as : {word other : Option Keyword} {bs rest : List ℕ} → word ≡ other → PassesWord word bs rest → PassesWord other bs rest
word-as {word} {other} {bs} {rest} e a = subst (λ (w : Option Keyword). PassesWord w bs rest) e a

pub entries-mapped : {bs rest : List ℕ} → Passes (λ text. sequence text (entry text)) bs rest → Passes mapped_entries bs rest
unfolding mapped_entries
entries-mapped a = a
