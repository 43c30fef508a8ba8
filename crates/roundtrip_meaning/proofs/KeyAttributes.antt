-- What a printed key says besides its lists: the types of its groups, and what becomes of other groups.
use Rattle.std.proofs.Common.{◌≡◌, ℕ, zero, suc, ◌+◌, ◌<◌, ◌≤◌, ◌==◌, cond, List, [], ◌∷◌, ◌++◌, length, map, slice_get, codes, Option, None, Some, refl, ap, ap₂, ◌∙◌, arith}
use Rattle.std.proofs.lemmas.Bool.{ne_eqb, eq-eqb}
use Rattle.std.proofs.lemmas.List.{take_all}
use Rattle.std.specs.Option.{option_or}
use Rattle.kx_basics.specs.declared.limits.TheConstants.{MOST_NAME_BYTES}
use Rattle.kx_tree.specs.declared.tree.KeyField.{KeyField}
use Rattle.kx_tree.specs.declared.tree.Setting.TheVariants.{To}
use Rattle.kx_tree.specs.declared.tree.Term.TheVariants as terms
use Rattle.kx_tree.specs.declared.tree.Value.TheVariants as values
use Rattle.kx_key_fields.specs.KeyFields.{cell_given, effective}
use Rattle.kx_key_fields.specs.Attributes.{kept_name, no_settings}
use Rattle.kx_key_fields.specs.declared.cells.AttributeCell.TheVariants as cells
use Rattle.kx_key_fields.specs.declared.cells.AttributeValue.{AttributeValue}
use Rattle.kx_key_fields.specs.declared.cells.AttributeValue.TheVariants as said
use Rattle.kx_tables.specs.Sound.{RangeHolds}
use Rattle.kx_tables.specs.declared.rows.Range.{Range}
use Rattle.kx_tables.specs.declared.rows.Range.TheVariants.{Wrap, Clamp, Redirect}
use Rattle.kx_merge.specs.Last.{last_given}
use Rattle.roundtrip_text.specs.Source.{EachOf, PrintedGroup, PrintedKey, GroupFits, KeyFits}
use Rattle.roundtrip_text.specs.KeyPhrases.{group_phrases, field_phrases}
use Rattle.roundtrip_text.specs.Keys.{group_phrase, range_phrases, key_phrase}
use Rattle.roundtrip_tree.specs.Keys.{IsFieldOf, IsIndexedField, IsTextOf, indexed_place, plain_place}
use Rattle.roundtrip_tree.specs.Shows.{AreShown, name_at, none, more}
use Rattle.roundtrip_meaning.proofs.KeyShown.{field_of, indexed_is, bare_is, numbered_is, group_is}

kept_whole : (name : List ℕ) → length name ≤ MOST_NAME_BYTES → kept_name name ≡ name
kept_whole name few = take_all 256 name (omega (arith, few))

module _ (modifiers : List (List ℕ)) where
  -- ---- One field

  module _ (n : ℕ) (name : List ℕ) (f : KeyField) (small : n < 32) (few : length name ≤ MOST_NAME_BYTES) (is : IsIndexedField (codes "type") (n + 1) (IsTextOf name) f) where
    type_shown : f ≡ field_of (indexed_place (codes "type") (n + 1) is.word_span is.number_span is.expression_span is.index_span) (To (values.Expression (record { first = terms.Text (name_at name is.value_is.0); rest = []; span = is.value_is.1 }))) is.field.span
    type_shown = indexed_is is ∙ ap (λ v. field_of (indexed_place (codes "type") (n + 1) is.word_span is.number_span is.expression_span is.index_span) (To v) is.field.span) is.value_is.2

    type_gives : (m : ℕ) → cell_given modifiers (cells.GroupType m) f ≡ cond (m == n) (Some (said.Type name)) None
    type_gives m = ap (cell_given modifiers (cells.GroupType m)) type_shown ∙ rw (group_is n is.number_span is.expression_span small, kept_whole name few) refl

    type_no_range : cell_given modifiers cells.Range f ≡ None
    type_no_range = ap (cell_given modifiers cells.Range) type_shown ∙ rw (group_is n is.number_span is.expression_span small) refl

  -- ---- The types of groups

  ranges_no_type : (m : ℕ) (before : Option AttributeValue) (range : Range) (fs : List KeyField) → RangeHolds range → AreShown IsFieldOf (range_phrases range) fs → last_given (cell_given modifiers (cells.GroupType m)) before fs ≡ before
  ranges_no_type m before Wrap fs h none = refl
  ranges_no_type m before Clamp fs h (more is none) = ap (λ f. option_or (cell_given modifiers (cells.GroupType m) f) before) (bare_is is)
  ranges_no_type m before (Redirect group) fs h (more is none) =
      ap (λ f. option_or (cell_given modifiers (cells.GroupType m) f) before) (numbered_is is ∙ ap (λ e. field_of (plain_place (codes "groupsRedirect") is.word_span) (To (values.Expression e)) is.field.span) is.value_is.2)
      ∙ rw (group_is group is.value_is.0 is.value_is.1 (omega (arith, h))) refl

  -- what the first three of some fields leave to the rest
  others_give : (gives : KeyField → Option AttributeValue) (before : Option AttributeValue) (t y z : KeyField) (rest : List KeyField) → gives y ≡ None → gives z ≡ None → last_given gives before (t ∷ y ∷ z ∷ rest) ≡ last_given gives (option_or (gives t) before) rest
  others_give gives before t y z rest ey ez = ap₂ (λ b c. last_given gives (option_or c (option_or b (option_or (gives t) before))) rest) ey ez

  no_type_before : (m n : ℕ) (before : Option AttributeValue) (gs : List PrintedGroup) (range : Range) (fs : List KeyField) → m < n → n + length gs ≤ 32 → EachOf GroupFits gs → RangeHolds range
      → AreShown IsFieldOf (group_phrases (n + 1) (map group_phrase gs) ++ range_phrases range) fs → last_given (cell_given modifiers (cells.GroupType m)) before fs ≡ before
  no_type_before m n before [] range fs less few fit h are = ranges_no_type m before range fs h are
  no_type_before m n before (g ∷ gs) range fs less few fit h (more {a = t} it (more {a = y} iy (more {a = z} {bs = rest} iz are))) =
      others_give (cell_given modifiers (cells.GroupType m)) before t y z rest (ap (cell_given modifiers (cells.GroupType m)) (indexed_is iy)) (ap (cell_given modifiers (cells.GroupType m)) (indexed_is iz))
      ∙ ap (λ (o : Option AttributeValue). last_given (cell_given modifiers (cells.GroupType m)) (option_or o before) rest)
      (type_gives n g.type_name _ (omega (arith, few)) fit.0.name_fits it m ∙ ap (λ t. let o : Option AttributeValue = cond t (Some (said.Type g.type_name)) None in o) (ne_eqb m n (λ e. omega (arith, less, e))))
      ∙ no_type_before m (n + 1) before gs range rest (omega (arith, less)) (omega (arith, few)) fit.1 h are

  types_from : (n i : ℕ) (before : Option AttributeValue) (gs : List PrintedGroup) (range : Range) (fs : List KeyField) (p : PrintedGroup) → slice_get gs i ≡ Some p → n + length gs ≤ 32 → EachOf GroupFits gs → RangeHolds range
      → AreShown IsFieldOf (group_phrases (n + 1) (map group_phrase gs) ++ range_phrases range) fs → last_given (cell_given modifiers (cells.GroupType (n + i))) before fs ≡ Some (said.Type p.type_name)
  types_from n i before [] range fs p found few fit h are = cc
  types_from n zero before (g ∷ gs) range fs p found few fit h (more {a = t} it (more {a = y} iy (more {a = z} {bs = rest} iz are))) =
      let here : n + 0 ≡ n = omega arith in
      let same : g ≡ p = cc in
      ap (λ m. last_given (cell_given modifiers (cells.GroupType m)) before fs) here
      ∙ others_give (cell_given modifiers (cells.GroupType n)) before t y z rest (ap (cell_given modifiers (cells.GroupType n)) (indexed_is iy)) (ap (cell_given modifiers (cells.GroupType n)) (indexed_is iz))
      ∙ no_type_before n (n + 1) (option_or (cell_given modifiers (cells.GroupType n) t) before) gs range rest (omega arith) (omega (arith, few)) fit.1 h are
      ∙ ap (λ (o : Option AttributeValue). option_or o before)
      (type_gives n g.type_name _ (omega (arith, few)) fit.0.name_fits it n ∙ ap (λ t. let o : Option AttributeValue = cond t (Some (said.Type g.type_name)) None in o) (eq-eqb n n refl))
      ∙ ap (λ (q : PrintedGroup). Some (said.Type q.type_name)) same
  types_from n (suc i) before (g ∷ gs) range fs p found few fit h (more {a = t} it (more {a = y} iy (more {a = z} {bs = rest} iz are))) =
      let step : n + suc i ≡ n + 1 + i = omega arith in
      ap (λ m. last_given (cell_given modifiers (cells.GroupType m)) before fs) step
      ∙ others_give (cell_given modifiers (cells.GroupType (n + 1 + i))) before t y z rest (ap (cell_given modifiers (cells.GroupType (n + 1 + i))) (indexed_is iy)) (ap (cell_given modifiers (cells.GroupType (n + 1 + i))) (indexed_is iz))
      ∙ types_from (n + 1) i (option_or (cell_given modifiers (cells.GroupType (n + 1 + i)) t) before) gs range rest p found (omega (arith, few)) fit.1 h are

  -- ---- What becomes of other groups

  abbrev pub range_said : Range → Option AttributeValue
  range_said Wrap = None
  range_said Clamp = Some (said.Range Clamp)
  range_said (Redirect group) = Some (said.Range (Redirect group))

  ranges_are : (range : Range) (fs : List KeyField) → RangeHolds range → AreShown IsFieldOf (range_phrases range) fs → last_given (cell_given modifiers cells.Range) None fs ≡ range_said range
  ranges_are Wrap fs h none = refl
  ranges_are Clamp fs h (more is none) = ap (λ f. option_or (cell_given modifiers cells.Range f) None) (bare_is is)
  ranges_are (Redirect group) fs h (more is none) =
      ap (λ f. option_or (cell_given modifiers cells.Range f) None) (numbered_is is ∙ ap (λ e. field_of (plain_place (codes "groupsRedirect") is.word_span) (To (values.Expression e)) is.field.span) is.value_is.2)
      ∙ rw (group_is group is.value_is.0 is.value_is.1 (omega (arith, h))) refl

  range_from : (n : ℕ) (gs : List PrintedGroup) (range : Range) (fs : List KeyField) → n + length gs ≤ 32 → EachOf GroupFits gs → RangeHolds range
      → AreShown IsFieldOf (group_phrases (n + 1) (map group_phrase gs) ++ range_phrases range) fs → last_given (cell_given modifiers cells.Range) None fs ≡ range_said range
  range_from n [] range fs few fit h are = ranges_are range fs h are
  range_from n (g ∷ gs) range fs few fit h (more {a = t} it (more {a = y} iy (more {a = z} {bs = rest} iz are))) =
      others_give (cell_given modifiers cells.Range) None t y z rest (ap (cell_given modifiers cells.Range) (indexed_is iy)) (ap (cell_given modifiers cells.Range) (indexed_is iz))
      ∙ ap (λ (o : Option AttributeValue). last_given (cell_given modifiers cells.Range) (option_or o None) rest) (type_no_range n g.type_name _ (omega (arith, few)) fit.0.name_fits it)
      ∙ range_from (n + 1) gs range rest (omega (arith, few)) fit.1 h are

  -- ---- A key

  module _ (k : PrintedKey) (fits : KeyFits k) (fs : List KeyField) (are : AreShown IsFieldOf (field_phrases (key_phrase k)) fs) where
    few : 0 + length k.groups ≤ 32
    few = let most = fits.few in omega (arith, most)

    pub type_is : (group : ℕ) (p : PrintedGroup) → slice_get k.groups group ≡ Some p → effective modifiers no_settings fs (cells.GroupType group) ≡ Some (said.Type p.type_name)
    type_is group p found =
        ap (λ m. last_given (cell_given modifiers (cells.GroupType m)) None fs) (let same : group ≡ 0 + group = omega arith in same)
        ∙ types_from 0 group None k.groups k.range fs p found few fits.groups fits.range are

    pub range_is : effective modifiers no_settings fs cells.Range ≡ range_said k.range
    range_is = range_from 0 k.groups k.range fs few fits.groups fits.range are
