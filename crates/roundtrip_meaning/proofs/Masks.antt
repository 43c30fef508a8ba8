-- Printed masks name the sets that they were printed of.
use Rattle.std.proofs.Common.{◌≡◌, ℕ, ◌<◌, ◌^◌, Bool, true, false, ◌&&◌, ◌==◌, List, [], ◌∷◌, ◌++◌, map, fold, get_or, is_some, unwrap_or, refl, sym, ap, ap₂, ◌∙◌, arith, eqb-true, cond}
use Rattle.std.proofs.lemmas.Bool.{and_parts}
use Rattle.std.proofs.lemmas.List.FromFn.{get_or-map-range_with_len}
use Rattle.std.specs.List.{list_all, flat_map, range_with_len}
use Rattle.kx_include.specs.IncludeFaults.{at}
use Rattle.kx_lex.specs.declared.fault.Fault.{Fault}
use Rattle.kx_lex.specs.declared.fault.Fault.TheVariants.{UnknownModifier}
use Rattle.kx_lex.specs.declared.token.Span.{Span}
use Rattle.kx_virtual_mods.specs.Masks.{joined, mask_set, mask_faults, term_faults, word_faults, word_set}
use Rattle.kx_virtual_mods.specs.Sets.{union}
use Rattle.kx_mods.specs.Mods.{mask, mod_names}
use Rattle.kx_mods.specs.declared.mods.Mods.{Mods}
use Rattle.kx_tree.specs.declared.tree.Expression.{Expression}
use Rattle.kx_tree.specs.declared.tree.Operation.{Operation}
use Rattle.kx_tree.specs.declared.tree.Term.{Term}
use Rattle.kx_tree.specs.declared.tree.Term.TheVariants as terms
use Rattle.kx_merge.specs.Terms.{terms_faults}
use Rattle.roundtrip_text.specs.Spelled.{set_words}
use Rattle.roundtrip_tree.specs.Shows.{AreShown, name_at, none, more}
use Rattle.roundtrip_tree.specs.ShowsLines.{Words, IsWritten, IsPlusWord}
use Rattle.roundtrip_tree.specs.Types.{mods_written}

-- ---- Words joined by +

abbrev pub set_of : (List ℕ → ℕ) → List (List ℕ) → ℕ
set_of value [] = 0
set_of value (w ∷ ws) = fold (λ set w. union set (value w)) (value w) ws

module _ (value : Term → ℕ) (word_value : List ℕ → ℕ) (is : (w : List ℕ) (span : Span) → value (terms.Word (name_at w span)) ≡ word_value w) where
  abbrev operated : ℕ → Operation → ℕ
  operated set o = joined o.sign set (value o.term)

  added : (set : ℕ) (ws : List (List ℕ)) (os : List Operation) → AreShown IsPlusWord ws os → fold operated set os ≡ fold (λ set w. union set (word_value w)) set ws
  added set [] [] none = refl
  added set [] (o ∷ os) are = elim are [ ]
  added set (w ∷ ws) [] are = elim are [ ]
  added set (w ∷ ws) (o ∷ os) (more one are) =
      ap₂ (λ s t. fold operated (joined s set (value t)) os) one.0 one.1.1 ∙ ap (λ n. fold operated (union set n) os) (is w one.1.0) ∙ added (union set (word_value w)) ws os are

  pub words_set : (ws : List (List ℕ)) (e : Expression) → IsWritten (Words ws) e → fold operated (value e.first) e.rest ≡ set_of word_value ws
  words_set [] e shown = absurd shown
  words_set (w ∷ ws) e shown =
      ap (λ t. fold operated (value t) e.rest) shown.first.1 ∙ ap (λ n. fold operated n e.rest) (is w shown.first.0) ∙ added (word_value w) ws e.rest shown.rest

module _ (faults : Term → List Fault) (known : List ℕ → Bool) (none_of : (w : List ℕ) (span : Span) → known w ≡ true → faults (terms.Word (name_at w span)) ≡ []) where
  others_faultless : (ws : List (List ℕ)) (os : List Operation) → list_all known ws ≡ true → AreShown IsPlusWord ws os → flat_map (λ (o : Operation). faults o.term) os ≡ []
  others_faultless [] [] all none = refl
  others_faultless [] (o ∷ os) all are = elim are [ ]
  others_faultless (w ∷ ws) [] all are = elim are [ ]
  others_faultless (w ∷ ws) (o ∷ os) all (more one are) =
      let both = and_parts (known w) (list_all known ws) all in
      ap₂ (λ a b. a ++ b) (ap faults one.1.1 ∙ none_of w one.1.0 both.0) (others_faultless ws os both.1 are)

  pub words_faultless : (ws : List (List ℕ)) (e : Expression) → list_all known ws ≡ true → IsWritten (Words ws) e → terms_faults faults e ≡ []
  words_faultless [] e all shown = absurd shown
  words_faultless (w ∷ ws) e all shown =
      let both = and_parts (known w) (list_all known ws) all in
      ap₂ (λ a b. a ++ b) (ap faults shown.first.1 ∙ none_of w shown.first.0 both.0) (others_faultless ws e.rest both.1 shown.rest)

-- ---- Real modifiers

abbrev mod_set : List ℕ → ℕ
mod_set w = unwrap_or (word_set [] w) 0

abbrev is_mod : List ℕ → Bool
is_mod w = is_some (word_set [] w)

abbrev is_right : ℕ → Bool
is_right m = (set_of mod_set (set_words mod_names m) == m) && list_all is_mod (set_words mod_names m)

all_right : map is_right (range_with_len 0 256) ≡ map (λ m. true) (range_with_len 0 256)
unfolding mod_names
all_right = refl

right : (m : ℕ) → m < 2 ^ 8 → (set_of mod_set (set_words mod_names m) ≡ m) × (list_all is_mod (set_words mod_names m) ≡ true)
right m small =
    let is : is_right m ≡ true = sym (get_or-map-range_with_len is_right 0 256 m m false (omega (arith, small)) (omega arith)) ∙ ap (λ ts. get_or ts m false) all_right ∙ get_or-map-range_with_len (λ m. true) 0 256 m m false (omega (arith, small)) (omega arith) in
    let both = and_parts (set_of mod_set (set_words mod_names m) == m) (list_all is_mod (set_words mod_names m)) is in
    (eqb-true (set_of mod_set (set_words mod_names m)) m both.0, both.1)

pub mods_set : (mods : Mods) (e : Expression) → mask mods < 2 ^ 8 → IsWritten (mods_written mods) e → mask_set [] e ≡ mask mods
mods_set mods e small shown = words_set _ mod_set (λ w span. refl) (set_words mod_names (mask mods)) e shown ∙ (right (mask mods) small).0

pub mods_faultless : (file : ℕ) (mods : Mods) (e : Expression) → mask mods < 2 ^ 8 → IsWritten (mods_written mods) e → mask_faults file [] e ≡ []
mods_faultless file mods e small shown =
    words_faultless (term_faults file (word_faults file [])) is_mod (λ w span known. ap (λ t. cond t [] (UnknownModifier (at file span) ∷ [])) known) (set_words mod_names (mask mods)) e (right (mask mods) small).1 shown
