-- The laws of the refusals of a source and of a file.
use Rattle.std.proofs.Common.{ℕ, Bool, List, [], ◌∷◌, ◌≡◌, ◌⊎◌, Option, Some, None, Err, inl, inr, refl, sym, ◌∙◌}
use Rattle.std.specs.Option.{ok_or}
use Rattle.kx_lex.specs.declared.keyword.Keyword.{Keyword}
use Rattle.kx_lex.specs.declared.keyword.Keyword.TheVariants as keywords
use Rattle.kx_lex.specs.declared.token.Token.{Token}
use Rattle.kx_lex.specs.declared.fault.At.{At}
use Rattle.kx_lex.specs.declared.fault.Fault.{Fault}
use Rattle.kx_lex.specs.declared.fault.Fault.TheVariants.{Memory, Syntax, NumberTooBig}
use Rattle.kx_lex.specs.Spelling.{many_front}
use Rattle.kx_lex.specs.Parsing.{done}
use Rattle.kx_lex.specs.Stops.{syntax_at, StopsWithin}
use Rattle.kx_lex.specs.Production.{Production, at_end, many, one}
use Rattle.kx_lex.specs.Tokens.{mark, keyword, text_name, open_brace, close_brace, semicolon}
use Rattle.kx_tree.specs.Geometry.{geometry}
use Rattle.kx_tree.specs.Sections.{flags, flag, optional_text, geometry_body, geometry_section, flagged, section, held_sections, source, file, StopsWith, FileStopsWith, Spells, SpellsFile}
use Rattle.kx_parse.specs.Refusals.{stand, InPlainSection, InSourceSection, source_head}
use Rattle.kx_tree.specs.declared.tree.Flag.{Flag}
use Rattle.kx_tree.specs.declared.tree.Section.{Section}
use Rattle.kx_tree.specs.declared.tree.Tree.{Tree}
use Rattle.kx_parse.proofs.LawfulSections.{plain_section-lawful, source-lawful, file-lawful}
use Rattle.kx_parse.proofs.Trees.{Spells-read, SpellsFile-read}

abbrev IsSyntax : Fault → Type 0
IsSyntax e = (at : At) × (e ≡ Syntax at)

-- no number is blamed where a production blames by F6 alone
abbrev Blames-syntax : {A : Type 0} → Production A → Type 0
Blames-syntax p = (ts : List Token) (e : Fault) → p.blames ts e → IsSyntax e

one-syntax : (text : List ℕ) (test : Token → Bool) (ts : List Token) (e : Fault) → (one text test).blames ts e → IsSyntax e
one-syntax text test ts e (inl h) = (_, h.1)
one-syntax text test ts e (inr h) = (_, h.4)

mark-syntax : (text : List ℕ) (byte : ℕ) → Blames-syntax (mark text byte)
unfolding mark
mark-syntax text byte ts e h = one-syntax text _ ts e h

keyword-syntax : (text : List ℕ) (wanted : Keyword) → Blames-syntax (keyword text wanted)
unfolding keyword
keyword-syntax text wanted ts e h = one-syntax text _ ts e h

text_name-syntax : (text : List ℕ) → Blames-syntax (text_name text)
unfolding text_name
text_name-syntax text ts e (inl h) = one-syntax text _ ts e h
text_name-syntax text ts e (inr h) = absurd h.3

optional_text-syntax : (text : List ℕ) → Blames-syntax (optional_text text)
unfolding optional_text
optional_text-syntax text ts e (inl (_, inl h)) = text_name-syntax text ts e h
optional_text-syntax text ts e (inl (_, inr h)) = absurd h.3
optional_text-syntax text ts e (inr h) = absurd h.1

ok_or-syntax : {A : Type 0} (entry : Option A) (f e : Fault) → IsSyntax f → ok_or entry f ≡ Err e → IsSyntax e
ok_or-syntax (Some x) f e s w = cc
ok_or-syntax None f e s w = (s.0, (let same : f ≡ e = cc in sym same ∙ s.1))

flags-syntax : (text : List ℕ) → Blames-syntax (flags text)
unfolding flags flag
flags-syntax text ts e h = go h.4
  where
    go : (flag text).blames h.1 e → IsSyntax e
    go (inl h) = one-syntax text _ _ e h
    go (inr h) = ok_or-syntax _ (syntax_at h.0) e (_, refl) h.3

end-syntax : Blames-syntax at_end
end-syntax ts e h = (_, h.3)

geometry_body-syntax : (text : List ℕ) → Blames-syntax (geometry_body text)
unfolding geometry_body geometry
geometry_body-syntax text ts e (inl h) = mark-syntax text open_brace ts e h
geometry_body-syntax text ts e (inr (_, _, _, inl h)) = (_, h.0)
geometry_body-syntax text ts e (inr (_, _, _, inr (_, m, _, inl h))) = mark-syntax text close_brace m e h
geometry_body-syntax text ts e (inr (_, _, _, inr (_, _, _, inr h))) = absurd h.3

geometry_section-syntax : (text : List ℕ) (fs : List Flag) → Blames-syntax (geometry_section text fs)
unfolding geometry_section
geometry_section-syntax text fs ts e (inl h) = keyword-syntax text keywords.XkbGeometry ts e h
geometry_section-syntax text fs ts e (inr (_, m, _, inl h)) = optional_text-syntax text m e h
geometry_section-syntax text fs ts e (inr (_, _, _, inr (_, m, _, inl h))) = geometry_body-syntax text m e h
geometry_section-syntax text fs ts e (inr (_, _, _, inr (_, _, _, inr h))) = absurd h.3

no_number : {A : Type 0} {at : At} → IsSyntax (NumberTooBig at) → A
no_number s = cc

from_front : (text : List ℕ) (test : List Token → Bool) (xs : List Section) (ts rest : List Token) → many_front test (section text).spells xs ts rest → stand text xs ts rest
from_front text test [] ts rest h = h
from_front text test (x ∷ xs) ts rest h = (h.1, h.2, from_front text test xs h.1 rest h.3)

-- in sections one after another
sections-number : (text : List ℕ) (test : List Token → Bool) (at : At) (ts : List Token) → (many test (section text)).blames ts (NumberTooBig at) → InPlainSection text ts (NumberTooBig at)
unfolding section flagged
sections-number text test at ts h = go h.4
  where
    go : (section text).blames h.1 (NumberTooBig at) → InPlainSection text ts (NumberTooBig at)
    go (inl w) = no_number (flags-syntax text h.1 _ w)
    go (inr (fs, kind, flagged, inl (inl (_, w)))) = no_number (geometry_section-syntax text fs kind _ w)
    go (inr (fs, kind, flagged, inl (inr (plain, w)))) = record {
      sections = h.0;
      here = h.1;
      whole = from_front text test h.0 ts h.1 h.2;
      section_flags = fs;
      kind = kind;
      flagged = flagged;
      plain = plain;
      stops = (plain_section-lawful text fs).stops kind (NumberTooBig at) w;
    }
    go (inr (_, _, _, inr (_, m, _, inl w))) = no_number (mark-syntax text semicolon m _ w)
    go (inr (_, _, _, inr (_, _, _, inr w))) = absurd w.3

pub source-number : (text : List ℕ) (tokens : List Token) (at : At) → StopsWith text tokens (NumberTooBig at) → InSourceSection text tokens (NumberTooBig at)
unfolding source held_sections source_head
source-number text ts at h = go h.stopped
  where
    go : (source text).blames ts (NumberTooBig at) → InSourceSection text ts (NumberTooBig at)
    go (inl w) = no_number (flags-syntax text ts _ w)
    go (inr (_, m, _, inl w)) = no_number (keyword-syntax text keywords.XkbKeymap m _ w)
    go (inr (_, _, _, inr (_, m, _, inl w))) = no_number (optional_text-syntax text m _ w)
    go (inr (_, _, _, inr (_, _, _, inr (_, m, _, inl (inl w))))) = no_number (mark-syntax text open_brace m _ w)
    go (inr (fs, m1, s1, inr (k, m2, s2, inr (n, m3, s3, inl (inr (o, m4, s4, inl w)))))) = record {
      body = m4;
      head = (fs, m1, s1, (k, m2, s2, (n, m3, s3, (o, m4, s4, (refl, refl)))));
      within = sections-number text _ at m4 w;
    }
    go (inr (_, _, _, inr (_, _, _, inr (_, _, _, inl (inr (_, _, _, inr (_, m, _, inl w))))))) = no_number (mark-syntax text close_brace m _ w)
    go (inr (_, _, _, inr (_, _, _, inr (_, _, _, inl (inr (_, _, _, inr (_, _, _, inr w))))))) = absurd w.3
    go (inr (_, _, _, inr (_, _, _, inr (_, _, _, inr (_, m, _, inl w))))) = no_number (mark-syntax text semicolon m _ w)
    go (inr (_, _, _, inr (_, _, _, inr (_, _, _, inr (_, _, _, inr (_, m, _, inl w)))))) = no_number (end-syntax m _ w)
    go (inr (_, _, _, inr (_, _, _, inr (_, _, _, inr (_, _, _, inr (_, _, _, inr w)))))) = absurd w.3

pub file-number : (text : List ℕ) (tokens : List Token) (at : At) → FileStopsWith text tokens (NumberTooBig at) → InPlainSection text tokens (NumberTooBig at)
unfolding file
file-number text ts at h = go h.stopped
  where
    go : (file text).blames ts (NumberTooBig at) → InPlainSection text ts (NumberTooBig at)
    go (inl w) = sections-number text _ at ts w
    go (inr (_, m, _, inl w)) = no_number (end-syntax m _ w)
    go (inr (_, _, _, inr w)) = absurd w.3

-- somewhere in the tokens, or at their end
pub source-stops : (text : List ℕ) (tokens : List Token) (e : Fault) → StopsWith text tokens e → StopsWithin text tokens e
source-stops text ts e h = (source-lawful text).stops ts e h.stopped

pub file-stops : (text : List ℕ) (tokens : List Token) (e : Fault) → FileStopsWith text tokens e → StopsWithin text tokens e
file-stops text ts e h = (file-lawful text).stops ts e h.stopped

-- Reading stops with one fault at most, and where it does no tree is spelled.
pub source-one_stop : (text : List ℕ) (tokens : List Token) (e f : Fault) → StopsWith text tokens e → StopsWith text tokens f → e ≡ f
source-one_stop text ts e f a b =
    let one : (source text).read ts ≡ Err e = (source-lawful text).blamed ts e a.stopped in
    let other : (source text).read ts ≡ Err f = (source-lawful text).blamed ts f b.stopped in
    cc

pub file-one_stop : (text : List ℕ) (tokens : List Token) (e f : Fault) → FileStopsWith text tokens e → FileStopsWith text tokens f → e ≡ f
file-one_stop text ts e f a b =
    let one : (file text).read ts ≡ Err e = (file-lawful text).blamed ts e a.stopped in
    let other : (file text).read ts ≡ Err f = (file-lawful text).blamed ts f b.stopped in
    cc

pub source-spells_none : (text : List ℕ) (tokens : List Token) (e : Fault) (tree : Tree) → StopsWith text tokens e → Spells text tokens tree → ⊥
source-spells_none text ts e tree a s =
    let stopped : (source text).read ts ≡ Err e = (source-lawful text).blamed ts e a.stopped in
    let read : (source text).read ts ≡ done tree [] = Spells-read text ts tree s in
    cc

pub file-spells_none : (text : List ℕ) (tokens : List Token) (e : Fault) (tree : Tree) → FileStopsWith text tokens e → SpellsFile text tokens tree → ⊥
file-spells_none text ts e tree a s =
    let stopped : (file text).read ts ≡ Err e = (file-lawful text).blamed ts e a.stopped in
    let read : (file text).read ts ≡ done tree [] = SpellsFile-read text ts tree s in
    cc

-- What a failed reading says: memory failed, or reading stops there; where a tree is spelled, memory failed.
pub source-stopped : (text : List ℕ) (tokens : List Token) (e : Fault) → (e ≡ Memory) ⊎ ((source text).read tokens ≡ Err e) → (e ≡ Memory) ⊎ StopsWith text tokens e
source-stopped text ts e (inl m) = inl m
source-stopped text ts e (inr r) = inr (record { stopped = (source-lawful text).fails ts e r })

pub file-stopped : (text : List ℕ) (tokens : List Token) (e : Fault) → (e ≡ Memory) ⊎ ((file text).read tokens ≡ Err e) → (e ≡ Memory) ⊎ FileStopsWith text tokens e
file-stopped text ts e (inl m) = inl m
file-stopped text ts e (inr r) = inr (record { stopped = (file-lawful text).fails ts e r })

pub source-complete : (text : List ℕ) (tokens : List Token) (e : Fault) → (e ≡ Memory) ⊎ ((source text).read tokens ≡ Err e) → (tree : Tree) → Spells text tokens tree → e ≡ Memory
source-complete text ts e (inl m) tree s = m
source-complete text ts e (inr r) tree s = absurd (source-spells_none text ts e tree (record { stopped = (source-lawful text).fails ts e r }) s)

pub file-complete : (text : List ℕ) (tokens : List Token) (e : Fault) → (e ≡ Memory) ⊎ ((file text).read tokens ≡ Err e) → (tree : Tree) → SpellsFile text tokens tree → e ≡ Memory
file-complete text ts e (inl m) tree s = m
file-complete text ts e (inr r) tree s = absurd (file-spells_none text ts e tree (record { stopped = (file-lawful text).fails ts e r }) s)
