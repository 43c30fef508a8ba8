-- What a key statement gives is what it offers.
use Rattle.std.proofs.Common.{◌≡◌, ℕ, ◌-◌, cond, false, max, nat_lt, List, [], ◌∷◌, None, refl, sym, ap, ◌∙◌, arith}
use Rattle.std.specs.Option.{option_map}
use Rattle.std.proofs.lemmas.Bool.{le-ltb}
use Rattle.kx_key_lists.specs.Lists.{Lists, level_in, width_in}
use Rattle.kx_key_lists.specs.Records.{value_in, width_in_key as list_width}
use Rattle.kx_key_fields.specs.KeyFields.{effective}
use Rattle.kx_key_fields.specs.Attributes.{Settings, attribute_in}
use Rattle.kx_key_fields.specs.declared.cells.AttributeCell.{AttributeCell}
use Rattle.kx_tree.specs.declared.tree.KeyField.{KeyField}
use Rattle.kx_symbols.specs.Known.{Known}
use Rattle.kx_symbols.specs.Lists.{StatementLists, lists_of}
use Rattle.kx_tree.specs.declared.tree.Mode.{Mode}
use Rattle.kx_merge.specs.Records.{IsOffered}
use Rattle.kx_symbols.specs.Keys.{KeyContent, cell_in, content_of, given_cell, given_width, key_form, key_offer, width_in_key}
use Rattle.kx_symbols.specs.declared.cells.Cell.{Cell}
use Rattle.kx_symbols.specs.declared.cells.Cell.TheVariants as cells
use Rattle.kx_symbols.specs.declared.cells.CellValue.TheVariants as values
use Rattle.kx_symbols.specs.declared.cells.CellValue.{CellValue}

module _ {X : Type 0} (lists : Lists X) where
  -- the first of these lists is that of the first group
  value_first : (g l : ℕ) → level_in lists g l ≡ value_in (record { from = 0; lists = lists }) g l
  value_first g l =
      let low : nat_lt g 0 ≡ false = le-ltb g 0 (omega arith) in
      let same : g - 0 ≡ g = omega arith in
      sym (ap (λ b. cond b None (level_in lists (g - 0) l)) low ∙ ap (λ j. level_in lists j l) same)

  width_first : (g : ℕ) → width_in lists g ≡ list_width (record { from = 0; lists = lists }) g
  width_first g =
      let low : nat_lt g 0 ≡ false = le-ltb g 0 (omega arith) in
      let same : g - 0 ≡ g = omega arith in
      sym (ap (λ b. cond b 0 (width_in lists (g - 0))) low ∙ ap (width_in lists) same)

module _ (known : Known) (fs : List KeyField) (s : StatementLists) (settings : Settings) (is : s ≡ lists_of known fs) (said : (cell : AttributeCell) → attribute_in settings cell ≡ effective known.modifiers known.defaults.keys fs cell) where
  cells_given : (c : Cell) → given_cell known fs c ≡ cell_in (content_of s settings) c
  cells_given (cells.Keysyms g l) = ap (λ (lists : StatementLists). option_map values.Keysyms (level_in (lists.symbols) g l)) (sym is) ∙ ap (option_map values.Keysyms) (value_first s.symbols g l)
  cells_given (cells.Action g l) = ap (λ (lists : StatementLists). option_map values.Action (level_in (lists.actions) g l)) (sym is) ∙ ap (option_map values.Action) (value_first s.actions g l)
  cells_given (cells.Setting cell) = ap (option_map values.Setting) (sym (said cell))

  widths_given : (g : ℕ) → given_width known fs g ≡ width_in_key (content_of s settings) g
  widths_given g = ap (λ (lists : StatementLists). max (width_in (lists.symbols) g) (width_in (lists.actions) g)) (sym is) ∙ ap (λ n. max n (width_in s.actions g)) (width_first s.symbols g) ∙ ap (max (list_width (record { from = 0; lists = s.symbols }) g)) (width_first s.actions g)

  pub statement_offered : (mode : Mode) (code : ℕ) → IsOffered {K = ℕ} {C = Cell} {V = CellValue} {R = KeyContent} mode key_form code (content_of s settings) (key_offer known fs mode code)
  statement_offered mode code = record { mode_is = refl; name_is = refl; value_is = cells_given; width_is = widths_given }
