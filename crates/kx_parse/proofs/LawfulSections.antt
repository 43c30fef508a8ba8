-- The laws of sections, of a source and of a file.
use Rattle.std.proofs.Common.{ℕ, ◌+◌, ◌≤◌, Bool, true, false, List, [], ◌∷◌, length, drop, ◌≡◌, Option, None, arith, inl, inr, refl}
use Rattle.std.specs.Prelude.{is_some}
use Rattle.kx_lex.specs.declared.keyword.Keyword.{Keyword}
use Rattle.kx_lex.specs.declared.keyword.Keyword.TheVariants as keywords
use Rattle.kx_lex.specs.declared.token.Token.{Token}
use Rattle.kx_lex.specs.declared.token.Span.{Span}
use Rattle.kx_lex.specs.Spelling.{many_front}
use Rattle.kx_lex.specs.Production.{either}
use Rattle.kx_lex.specs.Kinds.{is_word, is_keyword, front, before_mark}
use Rattle.kx_lex.specs.Tokens.{open_brace, close_brace, semicolon}
use Rattle.kx_lex.proofs.Laws.{same-uses}
use Rattle.kx_lex.proofs.Lawful.{Lawful, Admits, ◌>>=◌, give-lawful, either-lawful, optional-lawful, many-lawful, known-lawful, spanned-lawful, fronted-lawful, at_end-lawful, at_least}
use Rattle.kx_lex.proofs.Others.{other-keyword, word-before, keyword-word}
use Rattle.kx_lex.proofs.TokenLaws.{mark-lawful, keyword-lawful, keyword-front, text_name-lawful, text_name-front}
use Rattle.kx_tree.specs.Sections.{mode_of, join_of, begins_include, begins_moded, join, mode, include, moded, modal, own, item, kind_of, flag_of, kind, flag, flags, optional_text, held_items, plain_section, geometry_body, geometry_section, flagged, section, held_sections, source, file}
use Rattle.kx_tree.specs.declared.tree.Statement.{Statement}
use Rattle.kx_tree.specs.declared.tree.Mode.{Mode}
use Rattle.kx_tree.specs.declared.tree.Mode.TheVariants.{Override}
use Rattle.kx_tree.specs.declared.tree.Flag.{Flag}
use Rattle.kx_tree.specs.declared.tree.Section.{Section}
use Rattle.kx_parse.proofs.LawfulGeometry.{geometry-lawful}
use Rattle.kx_tree.proofs.LawfulStatements.{starts, starts-before, statement-lawful, statement-least, statement-starts}

not_word : (keyword : Keyword) (t : Token) → is_word t ≡ false → is_keyword keyword t ≡ false
unfolding is_keyword
not_word keyword t h = other-keyword keyword t.kind h

-- a word that joins is a word, and so are the others below
pub mode-none : (t : Token) → is_word t ≡ false → mode_of t ≡ None
unfolding mode_of
mode-none t h = rw (not_word keywords.Augment t h, not_word keywords.Override t h, not_word keywords.Replace t h, not_word keywords.Alternate t h) refl

pub join-none : (t : Token) → is_word t ≡ false → join_of t ≡ None
unfolding join_of
join-none t h = rw (not_word keywords.Include t h) (mode-none t h)

-- what is known of no token but words is known of words
only-words : {A : Type 0} (table : Token → Option A) → ((t : Token) → is_word t ≡ false → table t ≡ None) → (ts : List Token) → front (λ t. is_some (table t)) ts ≡ true → front is_word ts ≡ true
only-words table none [] h = cc
only-words table none (t ∷ ts) h = go (is_word t) refl
  where
    go : (b : Bool) → is_word t ≡ b → is_word t ≡ true
    go true w = w
    go false w = let unknown = none t w in let is : is_some (table t) ≡ false = rw unknown refl in cc

unfoldable pub join-lawful : (text : List ℕ) → Lawful text (join text)
unfolding join
join-lawful text = known-lawful text join_of

pub join-front : (text : List ℕ) → Admits (front (λ t. is_some (join_of t))) (join text)
unfolding join
join-front text ts x rest s = rw s.2.0 s.2.1

pub join-behind : (text : List ℕ) (ts : List Token) (x : Mode) (rest : List Token) → (join text).spells ts x rest → drop 1 ts ≡ rest
unfolding join
join-behind text ts x rest s = rw s.2.0 s.3.1

unfoldable pub mode-lawful : (text : List ℕ) → Lawful text (mode text)
unfolding mode
mode-lawful text = known-lawful text mode_of

pub mode-front : (text : List ℕ) → Admits (front (λ t. is_some (mode_of t))) (mode text)
unfolding mode
mode-front text ts x rest s = rw s.2.0 s.2.1

pub mode-behind : (text : List ℕ) (ts : List Token) (x : Mode) (rest : List Token) → (mode text).spells ts x rest → drop 1 ts ≡ rest
unfolding mode
mode-behind text ts x rest s = rw s.2.0 s.3.1

unfoldable pub include-lawful : (text : List ℕ) → Lawful text (include text)
unfolding include
include-lawful text = do
  _ ← spanned-lawful (do
    _ ← join-lawful text
    _ ← text_name-lawful text
    give-lawful _)
  give-lawful _

pub include-begins : (text : List ℕ) → Admits begins_include (include text)
unfolding include
include-begins text ts x rest s =
    let i = s.2.0 in
    rw (join-front text ts i.0 i.1 i.2, join-behind text ts i.0 i.1 i.2, text_name-front text i.1 i.3.0 i.3.1 i.3.2) refl

unfoldable pub moded-lawful : (text : List ℕ) (m : Mode) → Lawful text (moded text m)
unfolding moded
moded-lawful text m = do
  _ ← fronted-lawful (statement-lawful text)
  _ ← mark-lawful text semicolon
  give-lawful _

pub moded-starts : (text : List ℕ) (m : Mode) → Admits (starts) (moded text m)
unfolding moded
moded-starts text m ts x rest s = statement-starts text ts s.0.0 s.1 s.2.0

unfoldable pub modal-lawful : (text : List ℕ) → Lawful text (modal text)
unfolding modal
modal-lawful text = do
  m ← mode-lawful text
  moded-lawful text m

pub modal-begins : (text : List ℕ) → Admits begins_moded (modal text)
unfolding modal
modal-begins text ts x rest s = rw (mode-front text ts s.0 s.1 s.2, mode-behind text ts s.0 s.1 s.2, moded-starts text s.0 s.1 x rest s.3) refl

unfoldable pub own-lawful : (text : List ℕ) → Lawful text (own text)
unfolding own
own-lawful text = do
  _ ← spanned-lawful (either-lawful (λ _ _ _ _. refl) (modal-lawful text) (modal-begins text) (moded-lawful text Override))
  give-lawful _

unfoldable pub item-lawful : (text : List ℕ) → Lawful text (item text)
unfolding item
item-lawful text = either-lawful (λ _ _ _ _. refl) (include-lawful text) (include-begins text) (own-lawful text)

pub item-before : (text : List ℕ) → Admits (before_mark close_brace) (item text)
unfolding item include own modal
item-before text ts x rest (inl s) = word-before close_brace ts (only-words join_of join-none ts (join-front text ts s.1.2.0.0 s.1.2.0.1 s.1.2.0.2))
item-before text ts x rest (inr s) = go s.1.0.0 s.1.2.0
  where
    go : (o : Mode × Statement × Span) → (either begins_moded (modal text) (moded text Override)).spells ts o s.1.1 → before_mark close_brace ts ≡ true
    go o (inl w) = word-before close_brace ts (only-words mode_of mode-none ts (mode-front text ts w.1.0 w.1.1 w.1.2))
    go o (inr w) = starts-before ts (moded-starts text Override ts o s.1.1 w.1)

pub item-least : (text : List ℕ) → 1 ≤ (item-lawful text).least
unfolding item-lawful include-lawful own-lawful modal-lawful moded-lawful join-lawful mode-lawful
item-least text = omega (arith, statement-least text)

unfoldable pub kind-lawful : (text : List ℕ) → Lawful text (kind text)
unfolding kind
kind-lawful text = known-lawful text kind_of

pub kind-front : (text : List ℕ) → Admits (front (λ t. is_some (kind_of t))) (kind text)
unfolding kind
kind-front text ts x rest s = rw s.2.0 s.2.1

unfoldable pub flag-lawful : (text : List ℕ) → Lawful text (flag text)
unfolding flag
flag-lawful text = known-lawful text flag_of

pub flag-front : (text : List ℕ) → Admits (front (λ t. is_some (flag_of t))) (flag text)
unfolding flag
flag-front text ts x rest s = rw s.2.0 s.2.1

pub flag-least : (text : List ℕ) → 1 ≤ (flag-lawful text).least
unfolding flag-lawful
flag-least text = omega arith

unfoldable pub flags-lawful : (text : List ℕ) → Lawful text (flags text)
unfolding flags
flags-lawful text = many-lawful (λ _ _ _ _. refl) (flag-lawful text) (flag-front text) (flag-least text)

unfoldable pub optional_text-lawful : (text : List ℕ) → Lawful text (optional_text text)
unfolding optional_text
optional_text-lawful text = optional-lawful (λ _ _ _ _. refl) (text_name-lawful text) (text_name-front text)

unfoldable pub held_items-lawful : (text : List ℕ) → Lawful text (held_items text)
unfolding held_items
held_items-lawful text = do
  _ ← mark-lawful text open_brace
  _ ← many-lawful (λ _ _ _ _. refl) (item-lawful text) (item-before text) (item-least text)
  _ ← mark-lawful text close_brace
  give-lawful _

unfoldable pub plain_section-lawful : (text : List ℕ) (fs : List Flag) → Lawful text (plain_section text fs)
unfolding plain_section
plain_section-lawful text fs = do
  _ ← kind-lawful text
  _ ← optional_text-lawful text
  _ ← held_items-lawful text
  give-lawful _

unfoldable pub geometry_body-lawful : (text : List ℕ) → Lawful text (geometry_body text)
unfolding geometry_body
geometry_body-lawful text = do
  _ ← mark-lawful text open_brace
  _ ← geometry-lawful text
  _ ← mark-lawful text close_brace
  give-lawful _

unfoldable pub geometry_section-lawful : (text : List ℕ) (fs : List Flag) → Lawful text (geometry_section text fs)
unfolding geometry_section
geometry_section-lawful text fs = do
  _ ← keyword-lawful text keywords.XkbGeometry
  _ ← optional_text-lawful text
  _ ← geometry_body-lawful text
  give-lawful _

pub geometry_section-front : (text : List ℕ) (fs : List Flag) → Admits (front (is_keyword keywords.XkbGeometry)) (geometry_section text fs)
unfolding geometry_section
geometry_section-front text fs ts x rest s = keyword-front text keywords.XkbGeometry ts s.0 s.1 s.2

unfoldable pub flagged-lawful : (text : List ℕ) (fs : List Flag) → Lawful text (flagged text fs)
unfolding flagged
flagged-lawful text fs = either-lawful (λ _ _ _ _. refl) (geometry_section-lawful text fs) (geometry_section-front text fs) (plain_section-lawful text fs)

flagged-least : (text : List ℕ) (fs : List Flag) → 1 ≤ (flagged-lawful text fs).least
unfolding flagged-lawful geometry_section-lawful plain_section-lawful keyword-lawful kind-lawful
flagged-least text fs = omega arith

-- a section's flags take no token where there are none, but its kind takes one
pub section-uses : (text : List ℕ) (ts : List Token) (x : Section) (rest : List Token) → (section text).spells ts x rest → length rest + 1 ≤ length ts
unfolding section
section-uses text ts x rest s =
    let before = (flags-lawful text).uses ts s.0 s.1 s.2 in
    let here = (flagged-lawful text s.0).uses s.1 s.3.0 s.3.1 s.3.2 in
    let some = flagged-least text s.0 in
    let mark_uses = (mark-lawful text semicolon).uses s.3.1 s.3.3.0 s.3.3.1 s.3.3.2 in
    let end_uses = same-uses s.3.3.3.1 in
    omega arith

section_parts-lawful : (text : List ℕ) → Lawful text (section text)
unfolding section
section_parts-lawful text = do
  fs ← flags-lawful text
  _ ← flagged-lawful text fs
  _ ← mark-lawful text semicolon
  give-lawful _

pub section-lawful : (text : List ℕ) → Lawful text (section text)
section-lawful text = at_least 1 (section_parts-lawful text) (section-uses text)

pub section-least : (text : List ℕ) → 1 ≤ (section-lawful text).least
unfolding section-lawful
section-least text = omega arith

pub kind-none : (t : Token) → is_word t ≡ false → kind_of t ≡ None
unfolding kind_of
kind-none t h = rw (not_word keywords.XkbKeycodes t h, not_word keywords.XkbTypes t h, not_word keywords.XkbSymbols t h, not_word keywords.XkbCompatibility t h, not_word keywords.XkbCompat t h, not_word keywords.XkbCompatMap t h, not_word keywords.XkbCompatibilityMap t h) refl

pub flag-none : (t : Token) → is_word t ≡ false → flag_of t ≡ None
unfolding flag_of
flag-none t h = rw (not_word keywords.Default t h, not_word keywords.Partial t h, not_word keywords.Hidden t h, not_word keywords.AlphanumericKeys t h, not_word keywords.ModifierKeys t h, not_word keywords.KeypadKeys t h, not_word keywords.FunctionKeys t h, not_word keywords.AlternateGroup t h) refl

flagged-word : (text : List ℕ) (fs : List Flag) → Admits (front is_word) (flagged text fs)
unfolding flagged plain_section
flagged-word text fs ts x rest (inl s) = keyword-word keywords.XkbGeometry ts (geometry_section-front text fs ts x rest s.1)
flagged-word text fs ts x rest (inr s) = only-words kind_of kind-none ts (kind-front text ts s.1.0 s.1.1 s.1.2)

-- a section's first token is a word
section-word : (text : List ℕ) → Admits (front is_word) (section text)
unfolding section flags
section-word text ts x rest s = go s.0 s.2.0 (flagged-word text s.0 s.1 s.3.0 s.3.1 s.3.2)
  where
    go : (fs : List Flag) → many_front (front (λ t. is_some (flag_of t))) (flag text).spells fs ts s.1 → front is_word s.1 ≡ true → front is_word ts ≡ true
    go [] same h = rw same h
    go (f ∷ fs) more h = only-words flag_of flag-none ts more.0

pub section-before : (text : List ℕ) → Admits (before_mark close_brace) (section text)
section-before text ts x rest s = word-before close_brace ts (section-word text ts x rest s)

pub section-some : (text : List ℕ) → Admits (front (λ _. true)) (section text)
section-some text ts x rest s = go ts (section-word text ts x rest s)
  where
    go : (ts : List Token) → front is_word ts ≡ true → front (λ _. true) ts ≡ true
    go [] h = cc
    go (t ∷ ts) h = refl

unfoldable pub held_sections-lawful : (text : List ℕ) → Lawful text (held_sections text)
unfolding held_sections
held_sections-lawful text = do
  _ ← mark-lawful text open_brace
  _ ← many-lawful (λ _ _ _ _. refl) (section-lawful text) (section-before text) (section-least text)
  _ ← mark-lawful text close_brace
  give-lawful _

pub source-lawful : (text : List ℕ) → Lawful text (source text)
unfolding source
source-lawful text = do
  _ ← flags-lawful text
  _ ← keyword-lawful text keywords.XkbKeymap
  _ ← optional_text-lawful text
  _ ← held_sections-lawful text
  _ ← mark-lawful text semicolon
  _ ← at_end-lawful text
  give-lawful _

pub file-lawful : (text : List ℕ) → Lawful text (file text)
unfolding file
file-lawful text = do
  _ ← many-lawful (λ _ _ _ _. refl) (section-lawful text) (section-some text) (section-least text)
  _ ← at_end-lawful text
  give-lawful _
