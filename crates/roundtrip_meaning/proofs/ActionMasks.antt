-- The modifiers of printed actions, as masks are read.
use Rattle.std.proofs.Common.{◌≡◌, ℕ, ◌<◌, ◌==◌, ◌&&◌, Bool, true, false, not, cond, List, [], ◌∷◌, ◌++◌, map, fold, get_or, codes, Option, None, Some, is_some, refl, sym, ap, ap₂, ◌∙◌, arith, eqb-true}
use Rattle.std.proofs.lemmas.Bool.{and_parts, not-true}
use Rattle.std.proofs.lemmas.List.FromFn.{get_or-map-range_with_len}
use Rattle.std.specs.Int.RustNames.{bit_or}
use Rattle.std.specs.List.{list_all, flat_map, range_with_len}
use Rattle.std.specs.Option.{option_or, option_map, option_map_or, unwrap_or}
use Rattle.std.specs.Str.{str_eq_ignore_ascii_case}
use Rattle.kx_actions.specs.Values.{is_modmap, mods_of}
use Rattle.kx_actions.specs.declared.action.ActionMods.{ActionMods}
use Rattle.kx_actions.specs.declared.action.ActionMods.TheVariants.{Named, OfKey}
use Rattle.kx_include.specs.IncludeFaults.{at}
use Rattle.kx_lex.specs.declared.fault.Fault.{Fault}
use Rattle.kx_lex.specs.declared.fault.Fault.TheVariants.{UnknownModifier}
use Rattle.kx_lex.specs.declared.name.Name.{Name}
use Rattle.kx_virtual_mods.specs.Masks.{real_mask, word_set, virtual_number, term_set, joined, operated, mask_set, term_faults, word_faults, mask_faults}
use Rattle.kx_virtual_mods.specs.Sets.{virtual_set}
use Rattle.kx_tree.specs.declared.tree.Expression.{Expression}
use Rattle.kx_tree.specs.declared.tree.Operation.{Operation}
use Rattle.kx_tree.specs.declared.tree.Term.{Term}
use Rattle.kx_mods.specs.Mods.{mod_names}
use Rattle.kx_merge.specs.Words.{single, term_word}
use Rattle.roundtrip_text.specs.Spelled.{set_words}
use Rattle.roundtrip_tree.specs.Keys.{IsWordTermOf, IsAddedWord, AreWordsOf}
use Rattle.roundtrip_tree.specs.Shows.{AreShown, none, more}

-- a word for real modifiers, which is no other word of actions
abbrev is_real_word : List ℕ → Bool
is_real_word w = is_some (real_mask w) && not (str_eq_ignore_ascii_case w (codes "modMapMods"))

abbrev word_bits : List ℕ → ℕ
word_bits w = unwrap_or (real_mask w) 0

-- the union of words
abbrev words_set : List (List ℕ) → ℕ
words_set [] = 0
words_set (w ∷ ws) = fold (λ set word. bit_or set (word_bits word)) (word_bits w) ws

abbrev is_said : ℕ → Bool
is_said m = list_all is_real_word (set_words mod_names m) && (words_set (set_words mod_names m) == m)

all_said : map is_said (range_with_len 0 256) ≡ map (λ m. true) (range_with_len 0 256)
unfolding mod_names
all_said = refl

said : (m : ℕ) → m < 256 → is_said m ≡ true
said m small = sym (get_or-map-range_with_len is_said 0 256 m m false small (omega arith)) ∙ ap (λ ts. get_or ts m false) all_said ∙ get_or-map-range_with_len (λ m. true) 0 256 m m false small (omega arith)

module _ (names : List (List ℕ)) where
  real_set : (w : List ℕ) → is_some (real_mask w) ≡ true → word_set names w ≡ Some (word_bits w)
  real_set w h = by (real_mask w) h
    where
      by : (o : Option ℕ) → is_some o ≡ true → option_or o (option_map virtual_set (virtual_number names w)) ≡ Some (unwrap_or o 0)
      by None h = cc
      by (Some m) h = refl

  term_is : (w : List ℕ) (t : Term) → is_some (real_mask w) ≡ true → IsWordTermOf w t → term_set names t ≡ word_bits w
  term_is w t h is = ap (term_set names) is.1 ∙ ap (λ o. unwrap_or o 0) (real_set w h)

  term_faultless : (file : ℕ) (w : List ℕ) (t : Term) → is_some (real_mask w) ≡ true → IsWordTermOf w t → term_faults file (word_faults file names) t ≡ []
  term_faultless file w t h is = ap (term_faults file (word_faults file names)) is.1 ∙ ap (λ (o : Option ℕ). let fs : List Fault = cond (is_some o) [] (UnknownModifier (at file is.0) ∷ []) in fs) (real_set w h)

  real_of : (w : List ℕ) → is_real_word w ≡ true → is_some (real_mask w) ≡ true
  real_of w h = (and_parts (is_some (real_mask w)) (not (str_eq_ignore_ascii_case w (codes "modMapMods"))) h).0

  union_is : (ws : List (List ℕ)) (os : List Operation) (set : ℕ) → list_all is_real_word ws ≡ true → AreShown IsAddedWord ws os → fold (operated names) set os ≡ fold (λ set word. bit_or set (word_bits word)) set ws
  union_is [] [] set h none = refl
  union_is [] (o ∷ os) set h are = elim are [ ]
  union_is (w ∷ ws) [] set h are = elim are [ ]
  union_is (w ∷ ws) (o ∷ os) set h (more one are) =
      let both = and_parts (is_real_word w) (list_all is_real_word ws) h in
      ap (λ s. fold (operated names) s os) (ap₂ (λ sign n. joined sign set n) one.0 (term_is w o.term (real_of w both.0) one.1)) ∙ union_is ws os (bit_or set (word_bits w)) both.1 are

  others_faultless : (file : ℕ) (ws : List (List ℕ)) (os : List Operation) → list_all is_real_word ws ≡ true → AreShown IsAddedWord ws os → flat_map (λ (o : Operation). term_faults file (word_faults file names) o.term) os ≡ []
  others_faultless file [] [] h none = refl
  others_faultless file [] (o ∷ os) h are = elim are [ ]
  others_faultless file (w ∷ ws) [] h are = elim are [ ]
  others_faultless file (w ∷ ws) (o ∷ os) h (more one are) =
      let both = and_parts (is_real_word w) (list_all is_real_word ws) h in
      ap₂ (λ (a : List Fault) b. a ++ b) (term_faultless file w o.term (real_of w both.0) one.1) (others_faultless file ws os both.1 are)

  -- of words for real modifiers
  words_are : (w : List ℕ) (ws : List (List ℕ)) (e : Expression) → list_all is_real_word (w ∷ ws) ≡ true → AreWordsOf (w ∷ ws) e → mask_set names e ≡ words_set (w ∷ ws)
  words_are w ws e h is =
      let both = and_parts (is_real_word w) (list_all is_real_word ws) h in
      ap (λ s. fold (operated names) s e.rest) (term_is w e.first (real_of w both.0) is.0) ∙ union_is ws e.rest (word_bits w) both.1 is.1

  words_faultless : (file : ℕ) (w : List ℕ) (ws : List (List ℕ)) (e : Expression) → list_all is_real_word (w ∷ ws) ≡ true → AreWordsOf (w ∷ ws) e → mask_faults file names e ≡ []
  words_faultless file w ws e h is =
      let both = and_parts (is_real_word w) (list_all is_real_word ws) h in
      ap₂ (λ (a : List Fault) b. a ++ b) (term_faultless file w e.first (real_of w both.0) is.0) (others_faultless file ws e.rest both.1 is.1)

  no_modmap : (w : List ℕ) (ws : List (List ℕ)) (e : Expression) → is_real_word w ≡ true → AreWordsOf (w ∷ ws) e → is_modmap e ≡ false
  no_modmap w [] e h is = by e.rest is.1
    where
      other : str_eq_ignore_ascii_case w (codes "modMapMods") ≡ false
      other = not-true (str_eq_ignore_ascii_case w (codes "modMapMods")) (and_parts (is_some (real_mask w)) (not (str_eq_ignore_ascii_case w (codes "modMapMods"))) h).1

      by : (os : List Operation) → AreShown IsAddedWord [] os → option_map_or (λ (w : Name). str_eq_ignore_ascii_case w.bytes (codes "modMapMods")) (single os (term_word e.first)) false ≡ false
      by [] none = ap (λ t. option_map_or (λ (w : Name). str_eq_ignore_ascii_case w.bytes (codes "modMapMods")) (term_word t) false) is.0.1 ∙ other
      by (o ∷ os) are = elim are [ ]
  no_modmap w (v ∷ vs) e h is = by e.rest is.1
    where
      by : (os : List Operation) → AreShown IsAddedWord (v ∷ vs) os → option_map_or (λ (w : Name). str_eq_ignore_ascii_case w.bytes (codes "modMapMods")) (single os (term_word e.first)) false ≡ false
      by [] are = elim are [ ]
      by (o ∷ os) are = refl

  -- what the words of a mask are read as
  pub record IsMask (m : ℕ) (e : Expression) : Type 0 where
    pub no_modmap_is : is_modmap e ≡ false
    pub set_is : mask_set names e ≡ m
    pub faultless : (file : ℕ) → mask_faults file names e ≡ []

  pub mask_back : (m : ℕ) → m < 256 → (e : Expression) → AreWordsOf (set_words mod_names m) e → IsMask m e
  mask_back m small e is = let both = and_parts (list_all is_real_word (set_words mod_names m)) (words_set (set_words mod_names m) == m) (said m small) in by (set_words mod_names m) both.0 (eqb-true (words_set (set_words mod_names m)) m both.1) is
    where
      by : (ws : List (List ℕ)) → list_all is_real_word ws ≡ true → words_set ws ≡ m → AreWordsOf ws e → IsMask m e
      by [] all set is = absurd is
      by (w ∷ ws) all set is = record {
        no_modmap_is = no_modmap w ws e (and_parts (is_real_word w) (list_all is_real_word ws) all).0 is;
        set_is = words_are w ws e all is ∙ set;
        faultless = λ file. words_faultless file w ws e all is;
      }

  pub mods_back : (m : ℕ) → m < 256 → (e : Expression) → AreWordsOf (set_words mod_names m) e → mods_of names e ≡ Named m
  mods_back m small e is =
      let k = mask_back m small e is in
      ap (λ t. let o : ActionMods = cond t OfKey (Named (mask_set names e)) in o) k.no_modmap_is ∙ ap (λ n. let o : ActionMods = Named n in o) k.set_is
