-- What printed sections of things that keep their rules are spelled as.
use Rattle.std.proofs.Common.{◌≡◌, ℕ, true, List, [], ◌∷◌, ◌++◌, Some, refl, sym, ap, subst}
use Rattle.std.specs.List.{flat_map}
use Rattle.kx_lex.specs.Kinds.{before_mark, is_keyword}
use Rattle.kx_lex.specs.Tokens.{close_brace}
use Rattle.kx_lex.specs.declared.keyword.Keyword.{Keyword}
use Rattle.kx_lex.specs.declared.keyword.Keyword.TheVariants as keywords
use Rattle.kx_lex.specs.declared.token.Token.{Token}
use Rattle.kx_lex.specs.declared.token.TokenKind.TheVariants.{Mark, Word}
use Rattle.kx_tree.specs.Sections.{item, section, kind_of, flag_of}
use Rattle.kx_tree.specs.declared.tree.Item.{Item}
use Rattle.kx_tree.specs.declared.tree.Kind.{Kind}
use Rattle.kx_tree.specs.declared.tree.Kind.TheVariants as kinds
use Rattle.roundtrip_text.specs.Slices.{Slice, slice, Begins}
use Rattle.roundtrip_text.specs.Source.{EachOf}
use Rattle.roundtrip_tree.specs.Shows.{AreShown, ReadsAs, none as shows_none, more as shows_more}
use Rattle.roundtrip_tree.proofs.Sections.{Begun, IsSection, section_reads}

pub types_begun : Begun keywords.XkbTypes kinds.Types
unfolding kind_of flag_of is_keyword
types_begun = record { kind_is = λ span. refl; no_flag = λ span. refl; no_geometry = λ span. refl }

pub compat_begun : Begun keywords.XkbCompat kinds.Compat
unfolding kind_of flag_of is_keyword
compat_begun = record { kind_is = λ span. refl; no_flag = λ span. refl; no_geometry = λ span. refl }

-- a thing that keeps its rules
pub record Sure {X : Type 0} (P : X → Type 0) : Type 0 where
  pub value : X
  pub sure : P value

module _ {X : Type 0} (P : X → Type 0) where
  abbrev all_sure : (xs : List X) → EachOf P xs → List (Sure P)
  all_sure [] each = []
  all_sure (x ∷ xs) each = record { value = x; sure = each.0 } ∷ all_sure xs each.1

  sure_slices : (slices : X → List Slice) (xs : List X) (each : EachOf P xs) → flat_map (λ (s : Sure P). slices s.value) (all_sure xs each) ≡ flat_map slices xs
  sure_slices slices [] each = refl
  sure_slices slices (x ∷ xs) each = ap (λ ss. slices x ++ ss) (sure_slices slices xs each.1)

  sure_shown : {A : Type 0} (Is : X → A → Type 0) (xs : List X) (each : EachOf P xs) (as_ : List A) → AreShown (λ (s : Sure P). Is s.value) (all_sure xs each) as_ → AreShown Is xs as_
  sure_shown Is [] each [] shows_none = shows_none
  sure_shown Is [] each (a ∷ bs) are = elim are [ ]
  sure_shown Is (x ∷ xs) each [] are = elim are [ ]
  sure_shown Is (x ∷ xs) each (a ∷ bs) (shows_more one are) = shows_more one (sure_shown Is xs each.1 bs are)

  module _ (text : List ℕ) (keyword : Keyword) (k : Kind) (begun : Begun keyword k) (slices : X → List Slice) (Is : X → Item → Type 0)
      (each : (x : X) → P x → (ts rest : List Token) → Begins text (slices x) ts rest → (before_mark close_brace ts ≡ true) × ReadsAs (item text) (Is x) ts rest) where
    sure_reads : (bytes : List ℕ) (xs : List X) (sure : EachOf P xs) (ts rest : List Token)
        → Begins text (slice (Word (Some keyword)) bytes ∷ slice (Mark 123) (123 ∷ []) ∷ (flat_map (λ (s : Sure P). slices s.value) (all_sure xs sure) ++ slice (Mark 125) (125 ∷ []) ∷ slice (Mark 59) (59 ∷ []) ∷ [])) ts rest
        → ReadsAs (section text) (IsSection k (λ (s : Sure P). Is s.value) (all_sure xs sure)) ts rest
    sure_reads bytes xs sure ts rest begins = section_reads text keyword k begun (λ (s : Sure P). slices s.value) (λ (s : Sure P). Is s.value) (λ s ts rest b. each s.value s.sure ts rest b) bytes (all_sure xs sure) ts rest begins

    pub each_section_reads : (bytes : List ℕ) (xs : List X) → EachOf P xs → (ts rest : List Token)
        → Begins text (slice (Word (Some keyword)) bytes ∷ slice (Mark 123) (123 ∷ []) ∷ (flat_map slices xs ++ slice (Mark 125) (125 ∷ []) ∷ slice (Mark 59) (59 ∷ []) ∷ [])) ts rest
        → ReadsAs (section text) (IsSection k Is xs) ts rest
    each_section_reads bytes xs sure ts rest begins =
        let r = sure_reads bytes xs sure ts rest
        (subst (λ ss. Begins text (slice (Word (Some keyword)) bytes ∷ slice (Mark 123) (123 ∷ []) ∷ (ss ++ slice (Mark 125) (125 ∷ []) ∷ slice (Mark 59) (59 ∷ []) ∷ [])) ts rest) (sym (sure_slices slices xs sure)) begins) in
        record { value = r.value; spelled = r.spelled; is = record { items = r.is.items; is = r.is.is; are = sure_shown Is xs sure r.is.items r.is.are } }
