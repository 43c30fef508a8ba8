-- A source is written part by part.
use Rattle.std.proofs.Common.{◌≡◌, ℕ, List, [], ◌∷◌, ◌++◌, codes, ap, ◌∙◌}
use Rattle.kx_rules.specs.Sources.{section_line, source_of}

abbrev then : List ℕ → List ℕ → List ℕ
then more out = out ++ more

module _ {keycodes types compat symbols : List ℕ} {a b c d : List ℕ} (is_a : a ≡ keycodes) (is_b : b ≡ types) (is_c : c ≡ compat) (is_d : d ≡ symbols) where
  line : (word text shown : List ℕ) (out before : List ℕ) → shown ≡ text → out ≡ before ++ section_line word shown → out ≡ before ++ section_line word text
  line word text shown out before is e = e ∙ ap (λ t. before ++ section_line word t) is

  pub written_parts : {none o₁ o₂ o₃ o₄ o₅ o₆ : List ℕ} → none ≡ [] → o₁ ≡ none ++ (codes "xkb_keymap {" ++ 10 ∷ []) → o₂ ≡ o₁ ++ section_line (codes "xkb_keycodes") a → o₃ ≡ o₂ ++ section_line (codes "xkb_types") b → o₄ ≡ o₃ ++ section_line (codes "xkb_compat") c → o₅ ≡ o₄ ++ section_line (codes "xkb_symbols") d → o₆ ≡ o₅ ++ (codes "};" ++ 10 ∷ []) → o₆ ≡ source_of (record { keycodes = keycodes; types = types; compat = compat; symbols = symbols })
  unfolding source_of
  written_parts {o₁ = o₁} {o₂ = o₂} {o₃ = o₃} {o₄ = o₄} {o₅ = o₅} {o₆ = o₆} e₀ e₁ e₂ e₃ e₄ e₅ e₆ =
      e₆
      ∙ ap (then (codes "};" ++ 10 ∷ [])) (line (codes "xkb_symbols") symbols d o₅ o₄ is_d e₅
      ∙ ap (then (section_line (codes "xkb_symbols") symbols)) (line (codes "xkb_compat") compat c o₄ o₃ is_c e₄
      ∙ ap (then (section_line (codes "xkb_compat") compat)) (line (codes "xkb_types") types b o₃ o₂ is_b e₃
      ∙ ap (then (section_line (codes "xkb_types") types)) (line (codes "xkb_keycodes") keycodes a o₂ o₁ is_a e₂
      ∙ ap (then (section_line (codes "xkb_keycodes") keycodes)) (e₁
      ∙ ap (then (codes "xkb_keymap {" ++ 10 ∷ [])) e₀)))))
