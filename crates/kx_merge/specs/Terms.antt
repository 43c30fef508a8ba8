-- Terms of an expression, and faults that each of them has.
use Rattle.std.specs.Prelude.{ℕ, ◌++◌, List, [], ◌∷◌}
use Rattle.std.specs.List.{flat_map}
use Rattle.kx_lex.specs.declared.fault.Fault.{Fault}
use Rattle.kx_lex.specs.declared.fault.Fault.TheVariants.{BadValue}
use Rattle.kx_lex.specs.declared.token.Span.{Span}
use Rattle.kx_include.specs.IncludeFaults.{at}
use Rattle.kx_tree.specs.declared.tree.Expression.{Expression}
use Rattle.kx_tree.specs.declared.tree.Term.{Term}
use Rattle.kx_tree.specs.declared.tree.Term.TheVariants.{Number, Signed, Word, Text, KeyName}

abbrev pub term_span : Term → Span
term_span (Number number) = number.span
term_span (Signed signed) = signed.span
term_span (Word word) = word.span
term_span (Text text) = text.span
term_span (KeyName name) = name.span

-- of a term of a kind that has no meaning there
abbrev pub bad_term : ℕ → Term → List Fault
bad_term file term = BadValue (at file (term_span term)) ∷ []

-- of each term
abbrev pub terms_faults : (Term → List Fault) → Expression → List Fault
terms_faults faults e = faults e.first ++ flat_map (λ o. faults o.term) e.rest
