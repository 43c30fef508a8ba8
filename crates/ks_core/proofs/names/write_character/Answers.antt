use Rattle.std.proofs.Common.{true, ◌++◌, ◌∷◌, [], length, sym, ap, ◌∙◌, arith}
use Rattle.ks_core.specs.Names.{hex_digits}
use Rattle.ks_core.proofs.NumberLemmas.{digits_most, digits_least, four_digits-three, four_digits-more}
use Rattle.ks_core.proofs.names.write_character.Goals as goal

pub push_hex-requires : goal.push_hex-requires
push_hex-requires c =
    let most = digits_most 6 c.args.character (omega arith) in
    let len = ap length (c.push_str.ensures.bytes ∙ ap (λ l. l ++ 85 ∷ 48 ∷ []) c.requires.empty) in
    omega (arith, len)

pub push_hex-requires-else-character-lt4096 : goal.push_hex-requires-else-character-lt4096
push_hex-requires-else-character-lt4096 c =
    let most = digits_most 6 c.args.character (omega arith) in
    let len = ap length (c.push_str-else-character-lt4096.ensures.bytes ∙ ap (λ l. l ++ 85 ∷ []) c.requires.empty) in
    omega (arith, len)

pub returns-then-character-lt4096 : goal.returns-then-character-lt4096
returns-then-character-lt4096 c =
    let most = digits_most 3 c.args.character (omega arith) in
    let least = digits_least 2 c.args.character (omega arith) in
    c.push_hex.ensures ∙ ap (λ l. l ++ hex_digits true c.args.character) (c.push_str.ensures.bytes ∙ ap (λ l. l ++ 85 ∷ 48 ∷ []) c.requires.empty)
    ∙ ap (λ l. 85 ∷ l) (sym (four_digits-three c.args.character (omega (arith, most, least))))

pub returns-else-character-lt4096 : goal.returns-else-character-lt4096
returns-else-character-lt4096 c =
    let least = digits_least 3 c.args.character (omega arith) in
    c.push_hex-else-character-lt4096.ensures
    ∙ ap (λ l. l ++ hex_digits true c.args.character) (c.push_str-else-character-lt4096.ensures.bytes ∙ ap (λ l. l ++ 85 ∷ []) c.requires.empty)
    ∙ ap (λ l. 85 ∷ l) (sym (four_digits-more c.args.character (omega (arith, least))))
