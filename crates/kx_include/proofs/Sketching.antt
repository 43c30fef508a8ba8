-- Outlined texts, one after another.
use Rattle.std.proofs.Common.{◌≡◌, ℕ, [], ◌∷◌, ◌++◌, Bool, true, false, List, Option, None, Some, Ok, map, refl, sym, subst, ap, ◌∙◌}
use Rattle.std.specs.Prelude.{if◌then◌else◌, unwrap_or}
use Rattle.kx_lex.specs.declared.token.Span.{Span}
use Rattle.kx_parse.specs.Outline.{IsOutline, built_from, outline_of}
use Rattle.kx_parse.specs.declared.outline.Outline.{Outline}
use Rattle.kx_tree.specs.declared.tree.Kind.{Kind}
use Rattle.kx_tree.specs.declared.tree.Section.{Section}
use Rattle.kx_tree.specs.declared.tree.Tree.{Tree}
use Rattle.kx_include.specs.FileText.{FileText}
use Rattle.kx_include.specs.Held.{AreSketches, Holds, IsSketch, all, held_section, held_sections, sketch_more, sketch_none, some}
use Rattle.kx_include.specs.Kept.{built_over}
use Rattle.kx_include.specs.Library.{Text, map_of}
use Rattle.kx_include.proofs.Outlining.{held-map_of, outlined-map_of}

pub sketch_one : (tree : Tree) (texts : List Text) (files : List (Option FileText)) → texts ≡ Ok tree ∷ [] → files ≡ None ∷ [] → AreSketches texts files (Ok tree ∷ [])
sketch_one tree texts files e f =
    subst (λ (ts : List Text). AreSketches ts files (Ok tree ∷ [])) (sym e)
    (subst (λ (fs : List (Option FileText)). AreSketches (Ok tree ∷ []) fs (Ok tree ∷ [])) (sym f) (sketch_more refl sketch_none))

-- with one more
sketched-more : {texts : List Text} {files : List (Option FileText)} {wholes : List Text} (t : Text) (f : Option FileText) (w : Text) → AreSketches texts files wholes → IsSketch t f w → AreSketches (texts ++ t ∷ []) (files ++ f ∷ []) (wholes ++ w ∷ [])
sketched-more t f w sketch_none is = sketch_more is sketch_none
sketched-more t f w (sketch_more one rest) is = sketch_more one (sketched-more t f w rest is)

pub sketched-on : {texts new_texts : List Text} {files new_files : List (Option FileText)} {wholes : List Text} (t : Text) (f : Option FileText) (w : Text) → new_texts ≡ texts ++ t ∷ [] → new_files ≡ files ++ f ∷ [] → AreSketches texts files wholes → IsSketch t f w → AreSketches new_texts new_files (wholes ++ w ∷ [])
sketched-on {texts = texts} {new_files = new_files} {wholes = wholes} t f w e g are is =
    subst (λ (ts : List Text). AreSketches ts new_files (wholes ++ w ∷ [])) (sym e)
    (subst (λ (fs : List (Option FileText)). AreSketches (texts ++ t ∷ []) fs (wholes ++ w ∷ [])) (sym g) (sketched-more t f w are is))

-- ---- Sections that are built over an outline

pub built-none : (os : List Section) → built_over os [] ≡ os
built-none [] = refl
built-none (o ∷ os) = ap (λ (ss : List Section). o ∷ ss) (built-none os)

built-one : (w : Bool) (s : Section) → unwrap_or (if w then Some s else None) (outline_of s) ≡ held_section w s
built-one true s = refl
built-one false s = refl

built-held : (ws : List Bool) (ss : List Section) → built_over (map outline_of ss) (built_from ws ss) ≡ held_sections ws ss
built-held ws [] = refl
built-held [] (s ∷ ss) = ap (λ (hs : List Section). outline_of s ∷ hs) (built-held [] ss)
built-held (w ∷ ws) (s ∷ ss) = ap (λ (h : Section). h ∷ built_over (map outline_of ss) (built_from ws ss)) (built-one w s) ∙ ap (λ (hs : List Section). held_section w s ∷ hs) (built-held ws ss)

outlined_trees : (ss : List (Section × Span)) → map (λ s. outline_of s.0) ss ≡ map outline_of (map (λ s. s.0) ss)
outlined_trees [] = refl
outlined_trees (s ∷ ss) = ap (λ (hs : List Section). outline_of s.0 ∷ hs) (outlined_trees ss)

outline-trees : {bytes : List ℕ} {outline : Outline} (is : IsOutline bytes outline) → outline.sections ≡ map outline_of (map (λ s. s.0) is.sections)
outline-trees is = is.outlined ∙ outlined_trees is.sections

pub built-sections : {bytes : List ℕ} {outline : Outline} (is : IsOutline bytes outline) (built : List (Option Section)) (wanted : List Bool) → built ≡ built_from wanted (map (λ s. s.0) is.sections) → built_over outline.sections built ≡ held_sections wanted (map (λ s. s.0) is.sections)
built-sections is built wanted e =
    let trees = map (λ (s : Section × Span). s.0) is.sections in
    ap (λ (os : List Section). built_over os built) (outline-trees is) ∙ ap (λ (bs : List (Option Section)). built_over (map outline_of trees) bs) e ∙ built-held wanted trees

-- the maps that are found in the outline are those of the sections that were built
pub built-found : {bytes : List ℕ} {outline : Outline} (is : IsOutline bytes outline) (built : List (Option Section)) (wanted : List Bool) → built ≡ built_from wanted (map (λ s. s.0) is.sections) → (kind : Kind) (name : Option (List ℕ)) → map_of outline.sections kind name ≡ map_of (built_over outline.sections built) kind name
built-found is built wanted e kind name =
    let trees = map (λ (s : Section × Span). s.0) is.sections in
    ap (λ (os : List Section). map_of os kind name) (outline-trees is) ∙ outlined-map_of trees kind name ∙ sym (held-map_of wanted trees kind name) ∙ sym (ap (λ (hs : List Section). map_of hs kind name) (built-sections is built wanted e))

-- ---- What is held of a sketch

pub whole-holds : (text whole : Text) (file : Option FileText) (wanted : List Bool) → file ≡ None → IsSketch text file whole → Holds wanted text text whole
whole-holds text whole file wanted e sketch =
    let is : whole ≡ text = subst (λ (f : Option FileText). IsSketch text f whole) e sketch in
    subst (λ (w : Text). Holds wanted text text w) (sym is) all

pub outline-holds : (text held whole : Text) (sought : Option FileText) (file : FileText) (wanted : List Bool) → sought ≡ Some file → IsSketch text sought whole
    → ((outline : Outline) → file.outline ≡ Some outline → (is : IsOutline file.bytes outline) → held ≡ Ok (record { sections = held_sections wanted (map (λ s. s.0) is.sections) })) → Holds wanted text held whole
outline-holds text held whole sought file wanted e sketch built = go (subst (λ (f : Option FileText). IsSketch text f whole) e sketch)
  where
    go : IsSketch text (Some file) whole → Holds wanted text held whole
    go (outline, made, text_is, (is, whole_is)) =
        let trees = map (λ (s : Section × Span). s.0) is.sections in
        let shown : text ≡ Ok (record { sections = map outline_of trees }) = text_is ∙ ap (λ (os : List Section). Ok (record { sections = os })) (outline-trees is) in
        subst (λ (t : Text). Holds wanted t held whole) (sym shown)
        (subst (λ (h : Text). Holds wanted (Ok (record { sections = map outline_of trees })) h whole) (sym (built outline made is))
        (subst (λ (w : Text). Holds wanted (Ok (record { sections = map outline_of trees })) (Ok (record { sections = held_sections wanted trees })) w) (sym whole_is) some))
