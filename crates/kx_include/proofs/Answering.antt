-- Texts with the statements that are wanted, made one after another of outlined ones.
use Rattle.std.proofs.Common.{◌≡◌, ◌∙◌, ◌+◌, ℕ, suc, List, [], ◌∷◌, ◌++◌, Option, None, get_or, length, refl, sym, subst, ap, arith}
use Rattle.kx_include.specs.FileText.{FileText}
use Rattle.kx_include.specs.Held.{AreHeld, AreSketches, Flags, Holds, IsSketch, flags_of, held_more, held_none, sketch_more, sketch_none}
use Rattle.kx_include.specs.Library.{Text}

-- whatever file an outlined text is made of, this one holds what is wanted of it
abbrev pub Answers : Flags → (ℕ → Option FileText) → ℕ → Text → Text → Type 0
Answers flags file n text held = (whole : Text) → IsSketch text (file n) whole → Holds (flags_of flags n) text held whole

-- the same of texts one after another, counted on
pub data AreAnswers (flags : Flags) (file : ℕ → Option FileText) : ℕ → List Text → List Text → Type 0 where
  answer_none : {n : ℕ} → AreAnswers flags file n [] []
  answer_more : {n : ℕ} {text held : Text} {texts helds : List Text} → Answers flags file n text held → AreAnswers flags file (n + 1) texts helds → AreAnswers flags file n (text ∷ texts) (held ∷ helds)

pub answered-more : (flags : Flags) (file : ℕ → Option FileText) (n : ℕ) {texts helds : List Text} (text held : Text) → AreAnswers flags file n texts helds → Answers flags file (n + length texts) text held → AreAnswers flags file n (texts ++ text ∷ []) (helds ++ held ∷ [])
answered-more flags file n text held answer_none is = let here : n + 0 ≡ n = omega arith in answer_more (subst (λ (k : ℕ). Answers flags file k text held) here is) answer_none
answered-more flags file n text held (answer_more {texts = texts} one rest) is =
    let next : n + suc (length texts) ≡ n + 1 + length texts = omega arith in
    answer_more one (answered-more flags file (n + 1) text held rest (subst (λ (k : ℕ). Answers flags file k text held) next is))

-- where these are the files of outlined texts, from a number on
pub answers-held : (flags : Flags) (file : ℕ → Option FileText) (n : ℕ) {texts helds wholes : List Text} {files : List (Option FileText)} → AreSketches texts files wholes → AreAnswers flags file n texts helds
    → ((k : ℕ) → file (n + k) ≡ get_or files k None) → AreHeld flags n texts helds wholes
answers-held flags file n sketch_none answer_none are = held_none
answers-held flags file n (sketch_more {text = text} {whole = whole} {file = first} {files = files} sketch sketches) (answer_more answer rest) are =
    let here : n + 0 ≡ n = omega arith in
    let same : file n ≡ first = ap file (sym here) ∙ are 0 in
    let next : (k : ℕ) → n + 1 + k ≡ n + suc k = λ k. omega arith in
    held_more (answer whole (subst (λ (f : Option FileText). IsSketch text f whole) (sym same) sketch)) (answers-held flags file (n + 1) sketches rest (λ k. ap file (next k) ∙ are (suc k)))

pub answered-length : {flags : Flags} {file : ℕ → Option FileText} {n : ℕ} {texts helds : List Text} → AreAnswers flags file n texts helds → length helds ≡ length texts
answered-length answer_none = refl
answered-length (answer_more one rest) = ap suc (answered-length rest)

pub no-length : {X : Type 0} (xs : List X) → length xs ≡ 0 → xs ≡ []
no-length [] e = refl
no-length (x ∷ xs) e = absurd (omega arith)
