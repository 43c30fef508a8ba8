-- Texts of files, read one after another.
use Rattle.std.proofs.Common.{◌≡◌, ℕ, ◌+◌, ◌<◌, zero, suc, List, [], ◌∷◌, ◌++◌, length, take, Some, Ok, refl, ap, subst, arith}
use Rattle.std.specs.List.{slice_get}
use Rattle.kx_tree.specs.declared.tree.Tree.{Tree}
use Rattle.kx_include.specs.Library.{Text}
use Rattle.kx_include.specs.Texts.{IsText, AreTexts, none, more}

one_more : (n i : ℕ) (files : List (List ℕ × List ℕ)) (texts : List Text) (text : Text) → AreTexts n (take i files) texts → i < length files → ((file : List ℕ × List ℕ) → slice_get files i ≡ Some file → IsText (n + i) file.1 text) → AreTexts n (take (suc i) files) (texts ++ text ∷ [])
one_more n i [] texts text are within is = absurd (omega (arith, within))
one_more n zero (f ∷ fs) [] text are within is = more (let same : n + 0 ≡ n = omega arith in subst (λ m. IsText m f.1 text) same (is f refl)) none
one_more n zero (f ∷ fs) (t ∷ ts) text are within is = elim are [ ]
one_more n (suc i) (f ∷ fs) [] text are within is = elim are [ ]
one_more n (suc i) (f ∷ fs) (t ∷ ts) text (more one rest) within is =
    let same : n + suc i ≡ n + 1 + i = omega arith in
    more one (one_more (n + 1) i fs ts text rest (omega (arith, within)) (λ file found. subst (λ m. IsText m file.1 text) same (is file found)))

-- the source's tree, and the texts of the files before a place
abbrev pub AreRead : ℕ → Tree → List (List ℕ × List ℕ) → List Text → Type 0
AreRead i tree files items = (rest : List Text) × (items ≡ Ok tree ∷ rest) × AreTexts 1 (take i files) rest

pub read_more : (i : ℕ) (tree : Tree) (files : List (List ℕ × List ℕ)) (items : List Text) (text : Text) → AreRead i tree files items → i < length files → ((file : List ℕ × List ℕ) → slice_get files i ≡ Some file → IsText (i + 1) file.1 text) → AreRead (i + 1) tree files (items ++ text ∷ [])
read_more i tree files items text r within is =
    let same : i + 1 ≡ 1 + i = omega arith in
    let next : suc i ≡ i + 1 = omega arith in
    (r.0 ++ text ∷ [], ap (λ ts. ts ++ text ∷ []) r.1, subst (λ m. AreTexts 1 (take m files) (r.0 ++ text ∷ [])) next (one_more 1 i files r.0 text r.2 within (λ file found. subst (λ m. IsText m file.1 text) same (is file found))))
