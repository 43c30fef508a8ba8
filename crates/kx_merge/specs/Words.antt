-- Values that are one word, and what words mean.
use Rattle.std.specs.Prelude.{ℕ, Bool, true, false, List, [], ◌∷◌, Option, Some, None, codes}
use Rattle.std.specs.Option.{option_and_then}
use Rattle.std.specs.Str.{str_eq_ignore_ascii_case}
use Rattle.std.specs.Map.{lookup}
use Rattle.kx_lex.specs.declared.name.Name.{Name}
use Rattle.kx_tree.specs.declared.tree.Expression.{Expression}
use Rattle.kx_tree.specs.declared.tree.Operation.{Operation}
use Rattle.kx_tree.specs.declared.tree.Term.{Term}
use Rattle.kx_tree.specs.declared.tree.Term.TheVariants.{Text, Word}

-- what an expression of one term has; an expression with an operation has nothing
abbrev pub single : {X : Type 0} → List Operation → Option X → Option X
single [] x = x
single (o ∷ os) x = None

abbrev pub term_word : Term → Option Name
term_word (Word word) = Some word
term_word _ = None

-- the word of an expression that is one word
abbrev pub lone_word : Expression → Option Name
lone_word e = single e.rest (term_word e.first)

abbrev pub term_text : Term → Option (List ℕ)
term_text (Text text) = Some text.bytes
term_text _ = None

-- the text of an expression that is one text
abbrev pub lone_text : Expression → Option (List ℕ)
lone_text e = single e.rest (term_text e.first)

-- what a word means among words with their meanings, which are read without regard to case
abbrev pub among : {X : Type 0} → List (List ℕ × X) → List ℕ → Option X
among words word = lookup (str_eq_ignore_ascii_case word) words

-- what an expression of one word means among words
abbrev pub meaning_among : {X : Type 0} → List (List ℕ × X) → Expression → Option X
meaning_among words e = option_and_then (λ w. among words w.bytes) (lone_word e)

abbrev pub truth_words : List (List ℕ × Bool)
truth_words = (codes "true", true) ∷ (codes "yes", true) ∷ (codes "on", true) ∷ (codes "false", false) ∷ (codes "no", false) ∷ (codes "off", false) ∷ []
