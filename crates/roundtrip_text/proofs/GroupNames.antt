-- How printed names of groups are read.
use Rattle.std.proofs.Common.{ℕ, ◌+◌, ◌<◌, ◌≤◌, ◌^◌, ◌==◌, Bool, true, false, cond, List, [], ◌∷◌, length, map, codes, refl, sym, arith, subst, append-nil}
use Rattle.std.proofs.lemmas.Grind.{flat_map-append}
use Rattle.std.specs.Fmt.{decimal}
use Rattle.std.specs.List.{flat_map}
use Rattle.kx_print.specs.Phrases.{numbered, setting_at, quoted}
use Rattle.kx_print.specs.Printed.{name_line, group_name_line}
use Rattle.kx_tables.specs.Content.{Content, group_name}
use Rattle.kx_tables.specs.declared.rows.GroupNameRow.{GroupNameRow}
use Rattle.roundtrip_text.specs.Slices.{Lexes}
use Rattle.roundtrip_text.proofs.Lexing.{nothing_lexes, then_lexes, weaker, decimal_lexes}
use Rattle.roundtrip_text.proofs.Phrases.{printed_name_lexes}
use Rattle.roundtrip_text.specs.Source.{EachOf, NamedGroup, NameFits, named_from, are_bytes}
use Rattle.roundtrip_text.specs.Spelled.{number, text}
use Rattle.roundtrip_text.specs.GroupNames.{name_statement_slices}
use Rattle.roundtrip_text.proofs.Lines.{setting_at_lexes}

abbrev named : ℕ → List ℕ → List NamedGroup
named n name = cond (length name == 0) [] (record { group = n; name = name } ∷ [])

name_lexes : (n : ℕ) (name : List ℕ) → n < 2 ^ 64 → are_bytes name → Lexes (name_line n name) (flat_map name_statement_slices (named n name))
unfolding name_line
name_lexes n name small bytes = by (length name == 0)
  where
    by : (t : Bool) → Lexes (cond t [] (setting_at (codes "name") (decimal n) (quoted name))) (flat_map name_statement_slices (cond t [] (record { group = n; name = name } ∷ [])))
    by true = nothing_lexes
    by false = subst (λ ss. Lexes (setting_at (codes "name") (decimal n) (quoted name)) ss) (sym (append-nil (name_statement_slices (record { group = n; name = name })))) (setting_at_lexes (codes "name") (decimal n) (quoted name) (number n ∷ []) (text name ∷ []) refl (decimal_lexes n small) (weaker (printed_name_lexes name bytes)))

pub name_lines_lex : (c : Content) (n : ℕ) (rows : List GroupNameRow) → EachOf NameFits (map (group_name c) rows) → n + length rows ≤ 33 → Lexes (numbered (group_name_line c) n rows) (flat_map name_statement_slices (named_from n (map (group_name c) rows)))
name_lines_lex c n [] each few = nothing_lexes
name_lines_lex c n (r ∷ rows) each few =
    subst (λ ss. Lexes (numbered (group_name_line c) n (r ∷ rows)) ss) (sym (flat_map-append name_statement_slices (named n (group_name c r)) (named_from (n + 1) (map (group_name c) rows))))
    (then_lexes (name_lexes n (group_name c r) (omega (arith, few)) each.0.bytes) (name_lines_lex c (n + 1) rows each.1 (omega (arith, few))))
