-- What rows of values are spelled as, where each value keeps a condition.
use Rattle.std.proofs.Common.{◌≡◌, ℕ, true, false, List, [], ◌∷◌, ◌++◌, refl, sym, ap, subst}
use Rattle.std.specs.List.{flat_map}
use Rattle.kx_lex.specs.Kinds.{front, is_mark, before_mark}
use Rattle.kx_lex.specs.Production.{Production}
use Rattle.kx_lex.specs.Tokens.{comma}
use Rattle.kx_lex.specs.declared.token.Token.{Token}
use Rattle.kx_tree.specs.Forms.{listed}
use Rattle.roundtrip_text.specs.Slices.{Slice, Begins, none as no_slices}
use Rattle.roundtrip_text.specs.Source.{EachOf}
use Rattle.roundtrip_text.specs.KeyPhrases.{behind_comma, listed_slices}
use Rattle.roundtrip_tree.specs.Shows.{ReadsAs, AreShown, none, more}
use Rattle.roundtrip_tree.proofs.Rows.{Stops, list_slices, with_comma}
use Rattle.roundtrip_tree.proofs.Spellings.{second_spelled}
use Rattle.roundtrip_tree.proofs.Values.{listed_reads}

-- ---- Values with their conditions

module _ {X : Type 0} (P : X → Type 0) where
  abbrev pub Kept : Type 0
  Kept = (x : X) × P x

  abbrev pub kept : (xs : List X) → EachOf P xs → List Kept
  kept [] all = []
  kept (x ∷ xs) all = (x, all.0) ∷ kept xs all.1

  module _ (slices : X → List Slice) where
    kept_others : (xs : List X) (all : EachOf P xs) → flat_map (with_comma (λ (k : Kept). slices k.0)) (kept xs all) ≡ flat_map (behind_comma slices) xs
    kept_others [] all = refl
    kept_others (x ∷ xs) all = ap (λ ss. behind_comma slices x ++ ss) (kept_others xs all.1)

    pub kept_slices : (xs : List X) (all : EachOf P xs) → list_slices (λ (k : Kept). slices k.0) (kept xs all) ≡ listed_slices slices xs
    kept_slices [] all = refl
    kept_slices (x ∷ xs) all = ap (λ ss. slices x ++ ss) (kept_others xs all.1)

  pub kept_shown : {A : Type 0} (Is : X → A → Type 0) (xs : List X) (all : EachOf P xs) (as_ : List A) → AreShown (λ (k : Kept) a. Is k.0 a) (kept xs all) as_ → AreShown Is xs as_
  kept_shown Is [] all [] none = none
  kept_shown Is [] all (a ∷ bs) are = elim are [ ]
  kept_shown Is (x ∷ xs) all [] are = elim are [ ]
  kept_shown Is (x ∷ xs) all (a ∷ bs) (more one are) = more one (kept_shown Is xs all.1 bs are)

-- none, or one and more, up to the mark that closes
pub each_listed : {A X : Type 0} (text : List ℕ) (close : ℕ) (p : Production A) (slices : X → List Slice) (Is : X → A → Type 0) (P : X → Type 0)
    → ((x : X) → P x → (ts rest : List Token) → Begins text (slices x) ts rest → Stops rest → ReadsAs p (Is x) ts rest)
    → ((x : X) (ts rest : List Token) → Begins text (slices x) ts rest → before_mark close ts ≡ true)
    → (xs : List X) → EachOf P xs → (ts rest : List Token) → Begins text (listed_slices slices xs) ts rest → Stops rest → front (is_mark comma) rest ≡ false → before_mark close rest ≡ false → ReadsAs (listed text close p) (AreShown Is xs) ts rest
each_listed text close p slices Is P each starts [] all ts rest no_slices ends last closes = record { value = []; spelled = second_spelled _ closes (record { spelled = (refl, refl) }); is = none }
each_listed {X = X} text close p slices Is P each starts (x ∷ xs) all ts rest begins ends last closes =
    let r = listed_reads text close p (λ (k : Kept P). slices k.0) (λ (k : Kept P) a. Is k.0 a) (λ k ts rest b h. each k.0 k.1 ts rest b h) (λ k ts rest b. starts k.0 ts rest b) (x, all.0) (kept P xs all.1) ts rest
    (subst (λ ss. Begins text ss ts rest) (sym (kept_slices P slices (x ∷ xs) all)) begins) ends last in
    record { value = r.value; spelled = r.spelled; is = kept_shown P Is (x ∷ xs) all r.value r.is }
