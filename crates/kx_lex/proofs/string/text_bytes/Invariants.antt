use Rattle.std.proofs.Common.{◌≡◌, ◌++◌, drop}
use Rattle.kx_lex.specs.Strings.{text_value}
use Rattle.kx_lex.specs.declared.string.EscapeState.TheVariants.{Plain}
use Rattle.kx_lex.proofs.string.text_bytes.Given as goal

-- what is written, before what the rest stands for, is what the whole stands for
abbrev pub invariant-loop-byte : goal.invariant-loop-byte
invariant-loop-byte l = text_value Plain l.text ≡ l.out.items ++ text_value l.state (drop l.byte-index l.text)
