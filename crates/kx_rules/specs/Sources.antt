-- The source of a keymap that is made of components.
use Rattle.std.specs.Prelude.{ℕ, Bool, not, ◌==◌, ◌&&◌, nat_le, List, [], ◌∷◌, ◌++◌, codes}
use Rattle.std.specs.List.{list_all}
use Rattle.kx_rules.specs.Rules.{Components}

-- what stands for itself in a string: no control byte, no quote, no backslash
abbrev pub is_plain : ℕ → Bool
is_plain b = (nat_le 32 b && not (b == 34)) && (not (b == 92) && not (b == 127))

unfoldable pub are_writable : Components → Bool
are_writable c = (list_all is_plain c.keycodes && list_all is_plain c.types) && (list_all is_plain c.compat && list_all is_plain c.symbols)

-- a section that includes a text between quotes, and its line end
abbrev pub section_line : List ℕ → List ℕ → List ℕ
section_line word text = word ++ (codes " { include " ++ 34 ∷ []) ++ text ++ (34 ∷ codes " };" ++ 10 ∷ [])

unfoldable pub source_of : Components → List ℕ
source_of c =
    (((((codes "xkb_keymap {" ++ 10 ∷ [])
    ++ section_line (codes "xkb_keycodes") c.keycodes)
    ++ section_line (codes "xkb_types") c.types)
    ++ section_line (codes "xkb_compat") c.compat)
    ++ section_line (codes "xkb_symbols") c.symbols)
    ++ (codes "};" ++ 10 ∷ [])
