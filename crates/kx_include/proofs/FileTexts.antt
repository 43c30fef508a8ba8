-- What is kept with a file's text, and what is found in a text that is kept.
use Rattle.std.proofs.Common.{◌≡◌, ◌≤◌, ℕ, zero, suc, Bool, [], ◌∷◌, List, Option, None, Some, Ok, get_or, length, map, ap, ◌∙◌, sym, subst, refl, arith}
use Rattle.std.specs.List.{list_any, position, slice_get}
use Rattle.std.specs.Option.{IfNone, IfSome, option_or}
use Rattle.std.specs.Prelude.{◌&&◌, unwrap_or}
use Rattle.kx_lex.specs.declared.scan.TheConstants.{MOST_TEXT_BYTES}
use Rattle.kx_parse.specs.Outline.{IsOutline, built_from}
use Rattle.kx_parse.specs.Outlined.{outlined}
use Rattle.kx_parse.specs.declared.outline.Outline.{Outline}
use Rattle.kx_tree.specs.declared.tree.Kind.{Kind}
use Rattle.kx_tree.specs.declared.tree.Section.{Section}
use Rattle.kx_parse.proofs.OutlinedTexts.{outline-outlined, outlined-outline}
use Rattle.kx_include.specs.FileText.{FileText, IsFileText, outline_sections}
use Rattle.kx_include.specs.Held.{IsSketch, held_sections}
use Rattle.kx_include.specs.Kept.{built_over}
use Rattle.kx_include.specs.Library.{Text, is_default_flag, is_of, map_of}
use Rattle.kx_include.specs.MapIndex.{IsIndex, MapIndex, found, number_in}
use Rattle.kx_include.specs.Texts.{IsShort, IsText}
use Rattle.kx_include.proofs.Sketching.{built-found, built-none, built-sections}

pub file_text-of : (bytes : List ℕ) (outline : Option Outline) (maps : MapIndex) → IfSome outline (λ o. IsOutline bytes o) → IfSome outline (λ _. length bytes ≤ MOST_TEXT_BYTES) → IsIndex maps (outline_sections outline) → IsFileText bytes outline maps
file_text-of bytes None maps is short indexed = record { short = λ o e. cc; outlined = λ o e. cc; indexed = indexed }
file_text-of bytes (Some outline) maps is short indexed = record {
  short = λ o e. short;
  outlined = λ o e. outline-outlined bytes outline is ∙ e;
  indexed = indexed;
}

-- the index finds what the sections have
pub index-found : (index : MapIndex) (sections : List Section) → IsIndex index sections → (kind : Kind) (name : Option (List ℕ)) → found index kind name ≡ map_of sections kind name
index-found index sections is kind (Some name) = is.named kind name
index-found index sections is kind None =
    ap (λ (o : Option ℕ). option_or o (number_in kind index.first)) (is.flagged kind) ∙ ap (λ (o : Option ℕ). option_or (position (λ s. is_of kind s && list_any is_default_flag s.flags) sections) o) (is.first kind)

-- where nothing is built, the sections are those of the outline
pub unbuilt : (os : List Section) (built : List (Option Section)) → built ≡ [] → built_over os built ≡ os
unbuilt os built none = ap (λ (bs : List (Option Section)). built_over os bs) none ∙ built-none os

pub unbuilt-found : (os : List Section) (built : List (Option Section)) → built ≡ [] → (kind : Kind) (name : Option (List ℕ)) → map_of os kind name ≡ map_of (built_over os built) kind name
unbuilt-found os built none kind name = ap (λ (ss : List Section). map_of ss kind name) (sym (unbuilt os built none))

-- ---- Sections that were built of a file's outline

module _ (file : FileText) (given : List ℕ) (outline : Outline) (built : List (Option Section)) (wanted : List Bool) (same : given ≡ file.bytes) (kept : Some outline ≡ file.outline) (is : outlined file.bytes ≡ Some outline) (made : (o : IsOutline given outline) → built ≡ built_from wanted (map (λ s. s.0) o.sections)) where
  abbrev Makes : List ℕ → Outline → Type 0
  Makes bytes other = (o : IsOutline bytes other) → built ≡ built_from wanted (map (λ s. s.0) o.sections)

  makes : Makes file.bytes outline
  makes = subst (λ (bytes : List ℕ). Makes bytes outline) same made

  pub built-maps : (kind : Kind) (name : Option (List ℕ)) → map_of (outline_sections file.outline) kind name ≡ map_of (built_over (outline_sections file.outline) built) kind name
  built-maps kind name =
      let own = outlined-outline file.bytes outline is in
      subst (λ (o : Option Outline). map_of (outline_sections o) kind name ≡ map_of (built_over (outline_sections o) built) kind name) kept (built-found own built wanted (makes own) kind name)

  pub built-text : (other : Outline) → file.outline ≡ Some other → (o : IsOutline file.bytes other) → ◌≡◌ {A = Text} (Ok (record { sections = built_over (outline_sections file.outline) built })) (Ok (record { sections = held_sections wanted (map (λ s. s.0) o.sections) }))
  built-text other e o =
      let there : outline ≡ other = (let all = kept ∙ e in cc) in
      let makes_other : Makes file.bytes other = subst (λ (u : Outline). Makes file.bytes u) there makes in
      let held : built_over (outline_sections file.outline) built ≡ held_sections wanted (map (λ s. s.0) o.sections) = ap (λ (u : Option Outline). built_over (outline_sections u) built) e ∙ built-sections o built wanted (makes_other o) in
      ap (λ (ss : List Section). Ok (record { sections = ss })) held

-- an outline that is kept is one that sections are built of
pub built-some : {X : Type 0} (o : Option X) (bytes given : List ℕ) (outline : Outline) → o ≡ None → given ≡ bytes → IsShort bytes → outlined bytes ≡ Some outline → IfNone o (length given ≤ MOST_TEXT_BYTES → IsOutline given outline → ⊥) → ⊥
built-some (Some x) bytes given outline e same short is never = cc
built-some None bytes given outline e same short is never = subst (λ (b : List ℕ). length b ≤ MOST_TEXT_BYTES → IsOutline b outline → ⊥) same never short (outlined-outline bytes outline is)

-- what is built in the place of a section, and else its outline
pub built-at : (os : List Section) (built : List (Option Section)) (n : ℕ) (o : Section) → slice_get os n ≡ Some o → slice_get (built_over os built) n ≡ Some (unwrap_or (get_or built n None) o)
built-at [] built n o e = cc
built-at (p ∷ os) [] zero o e = e
built-at (p ∷ os) [] (suc n) o e = built-at os [] n o e
built-at (p ∷ os) (b ∷ built) zero o e = let same : p ≡ o = cc in ap (λ (s : Section). Some (unwrap_or b s)) same
built-at (p ∷ os) (b ∷ built) (suc n) o e = built-at os built n o e

pub none-built : (os : List Section) (built : List (Option Section)) (n : ℕ) → length os ≤ n → slice_get (built_over os built) n ≡ None
none-built [] built n h = refl
none-built (p ∷ os) built zero h = absurd (omega arith)
none-built (p ∷ os) [] (suc n) h = none-built os [] n (omega arith)
none-built (p ∷ os) (b ∷ built) (suc n) h = none-built os built n (omega arith)

pub length-built : (os : List Section) (built : List (Option Section)) → length (built_over os built) ≡ length os
length-built [] built = refl
length-built (o ∷ os) [] = ap suc (length-built os [])
length-built (o ∷ os) (b ∷ built) = ap suc (length-built os built)

-- ---- A file's text by its outline

pub sketched-file : (number : ℕ) (file : FileText) (outline : Outline) (text : Text) → Some outline ≡ file.outline → outlined file.bytes ≡ Some outline → IsShort file.bytes → text ≡ Ok (record { sections = outline_sections file.outline })
    → (whole : Text) × IsText number file.bytes whole × IsSketch text (Some file) whole
sketched-file number file outline text kept is short shown =
    let own = outlined-outline file.bytes outline is in
    let text_is : text ≡ Ok (record { sections = outline.sections }) = shown ∙ ap (λ (o : Option Outline). Ok (record { sections = outline_sections o })) (sym kept) in
    (Ok (record { sections = map (λ s. s.0) own.sections }), (short, (own.tokens, own.reading, own.tree)), (outline, sym kept, text_is, (own, refl)))
