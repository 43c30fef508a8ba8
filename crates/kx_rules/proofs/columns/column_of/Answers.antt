use Rattle.std.proofs.Common.{◌≡◌, ◌-◌, true, false, length, take, drop, codes, refl, sym, ap, ◌∙◌, arith, length-drop}
use Rattle.std.specs.Str.{bytes_eq}
use Rattle.std.proofs.lemmas.List.{take_all}
use Rattle.kx_rules.specs.Mappings.{column_of, indexed_column}
use Rattle.kx_rule_lines.specs.Pieces.{begins}
use Rattle.kx_rules.specs.declared.columns.Field.TheVariants.{Layout, Variant}
use Rattle.kx_rules.proofs.columns.column_of.Goals as goal

pub returns-then-eq : goal.returns-then-eq
unfolding column_of
returns-then-eq c =
    let model : bytes_eq c.args.word.now (codes "model") ≡ true = ap (bytes_eq c.args.word.now) (sym c.as_slice.ensures) ∙ sym c.eq.ensures ∙ c.if-eq.true in
    rw model refl

pub returns-then-eq-2 : goal.returns-then-eq-2
unfolding column_of
returns-then-eq-2 c =
    let word = c.args.word.now in
    let model : bytes_eq word (codes "model") ≡ false = ap (bytes_eq word) (sym c.as_slice.ensures) ∙ sym c.eq.ensures ∙ c.if-eq.false in
    let option : bytes_eq word (codes "option") ≡ true = ap (bytes_eq word) (sym c.as_slice-else-eq.ensures) ∙ sym c.eq-else-eq.ensures ∙ c.if-eq-2.true in
    rw (model, option) refl

pub returns-then-starts_with : goal.returns-then-starts_with
unfolding column_of
returns-then-starts_with c =
    let word = c.args.word.now in
    let model : bytes_eq word (codes "model") ≡ false = ap (bytes_eq word) (sym c.as_slice.ensures) ∙ sym c.eq.ensures ∙ c.if-eq.false in
    let option : bytes_eq word (codes "option") ≡ false = ap (bytes_eq word) (sym c.as_slice-else-eq.ensures) ∙ sym c.eq-else-eq.ensures ∙ c.if-eq-2.false in
    let layout : begins (codes "layout") word ≡ true = sym c.starts_with.ensures.value ∙ c.if-starts_with.true in
    let index : take (length word - 6) (drop 6 word) ≡ drop 6 word = take_all (length word - 6) (drop 6 word) (omega (arith, length-drop 6 word)) in
    rw (model, option, layout) (c.indexed_column.ensures ∙ ap (indexed_column Layout) index)

pub returns-then-starts_with-2 : goal.returns-then-starts_with-2
unfolding column_of
returns-then-starts_with-2 c =
    let word = c.args.word.now in
    let model : bytes_eq word (codes "model") ≡ false = ap (bytes_eq word) (sym c.as_slice.ensures) ∙ sym c.eq.ensures ∙ c.if-eq.false in
    let option : bytes_eq word (codes "option") ≡ false = ap (bytes_eq word) (sym c.as_slice-else-eq.ensures) ∙ sym c.eq-else-eq.ensures ∙ c.if-eq-2.false in
    let layout : begins (codes "layout") word ≡ false = sym c.starts_with.ensures.value ∙ c.if-starts_with.false in
    let variant : begins (codes "variant") word ≡ true = sym c.starts_with-else-starts_with.ensures.value ∙ c.if-starts_with-2.true in
    let index : take (length word - 7) (drop 7 word) ≡ drop 7 word = take_all (length word - 7) (drop 7 word) (omega (arith, length-drop 7 word)) in
    rw (model, option, layout, variant) (c.indexed_column-then-starts_with-2.ensures ∙ ap (indexed_column Variant) index)

pub returns-else-starts_with-2 : goal.returns-else-starts_with-2
unfolding column_of
returns-else-starts_with-2 c =
    let word = c.args.word.now in
    let model : bytes_eq word (codes "model") ≡ false = ap (bytes_eq word) (sym c.as_slice.ensures) ∙ sym c.eq.ensures ∙ c.if-eq.false in
    let option : bytes_eq word (codes "option") ≡ false = ap (bytes_eq word) (sym c.as_slice-else-eq.ensures) ∙ sym c.eq-else-eq.ensures ∙ c.if-eq-2.false in
    let layout : begins (codes "layout") word ≡ false = sym c.starts_with.ensures.value ∙ c.if-starts_with.false in
    let variant : begins (codes "variant") word ≡ false = sym c.starts_with-else-starts_with.ensures.value ∙ c.if-starts_with-2.false in
    rw (model, option, layout, variant) refl
