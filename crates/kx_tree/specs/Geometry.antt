-- Geometry: any tokens, with their braces in pairs, up to the brace that closes the section.
use Rattle.std.specs.Prelude.{cond, ℕ, zero, suc, true, false, List, [], ◌∷◌, ◌≡◌, Err}
use Rattle.kx_lex.specs.declared.token.Token.{Token}
use Rattle.kx_lex.specs.Parsing.{Read, done}
use Rattle.kx_lex.specs.Kinds.{is_mark}
use Rattle.kx_lex.specs.Stops.{syntax_end}
use Rattle.kx_lex.specs.Production.{Production}
use Rattle.kx_lex.specs.Tokens.{open_brace, close_brace}

-- tokens whose braces stand in pairs, and the rest
pub data Balanced (text : List ℕ) : List Token → List Token → Type 0 where
  nothing : {ts : List Token} → Balanced text ts ts
  other : {t : Token} {ts rest : List Token} → is_mark open_brace t ≡ false → is_mark close_brace t ≡ false → Balanced text ts rest → Balanced text (t ∷ ts) rest
  nested : {o c : Token} {ts mid rest : List Token} → is_mark open_brace o ≡ true → is_mark open_brace c ≡ false → is_mark close_brace c ≡ true → Balanced text ts (c ∷ mid) → Balanced text mid rest → Balanced text (o ∷ ts) rest

-- the brace that closes stands next
abbrev pub IsClosing : List ℕ → List Token → Type 0
IsClosing text rest = (c : Token) × (more : List Token) × (rest ≡ c ∷ more) × (is_mark open_brace c ≡ false) × (is_mark close_brace c ≡ true)

-- a closing brace, with so many open before it
abbrev pub closing_read : ℕ → Token → List Token → (ℕ → Read (Unit {0})) → Read (Unit {0})
closing_read zero t ts more = done tt (t ∷ ts)
closing_read (suc d) t ts more = more d

-- up to the brace that closes so many open ones and one more
abbrev pub geometry_read : List ℕ → ℕ → List Token → Read (Unit {0})
geometry_read text depth [] = Err (syntax_end text)
geometry_read text depth (t ∷ ts) =
    cond (is_mark open_brace t) (geometry_read text (suc depth) ts)
    (cond (is_mark close_brace t) (closing_read depth t ts (λ d. geometry_read text d ts))
    (geometry_read text depth ts))

unfoldable pub geometry : List ℕ → Production (Unit {0})
geometry text = record {
  spells = λ ts x rest. Balanced text ts rest × IsClosing text rest;
  read = geometry_read text 0;
  -- nothing closes it
  blames = λ ts e. (e ≡ syntax_end text) × ((rest : List Token) → Balanced text ts rest → IsClosing text rest → ⊥);
}
