-- Forms of productions that the grammar has in many places.
use Rattle.std.specs.Prelude.{ℕ, List, [], ◌∷◌}
use Rattle.kx_lex.specs.Production.{Production, ◌>>=◌, give, many, either, spanned}
use Rattle.kx_lex.specs.Kinds.{front, is_mark, before_mark}
use Rattle.kx_lex.specs.Tokens.{comma, equals, mark}
use Rattle.kx_lex.specs.declared.token.Span.{Span}

-- one, and what is made of it
abbrev pub made : {A B : Type 0} → (A → B) → Production A → Production B
made f p = p >>= (λ x. give (f x))

-- the same with where it stands
abbrev pub placed : {A B : Type 0} → (A → Span → B) → Production A → Production B
placed f p = spanned p >>= (λ x. give (f x.0 x.1))

-- two, one after the other
abbrev pub both : {A B : Type 0} → Production A → Production B → Production (A × B)
both p q = p >>= (λ x. q >>= (λ y. give (x, y)))

-- what is made of two, and of three
abbrev pub made2 : {A B C : Type 0} → (A → B → C) → Production A → Production B → Production C
made2 f p q = p >>= (λ x. made (f x) q)

abbrev pub made3 : {A B C D : Type 0} → (A → B → C → D) → Production A → Production B → Production C → Production D
made3 f p q r = p >>= (λ x. made2 (f x) q r)

-- what stands after a part that says nothing more
abbrev pub after : {A B : Type 0} → Production A → Production B → Production B
after p q = p >>= (λ _. q)

-- what a mark ends
abbrev pub ended : {A : Type 0} → List ℕ → ℕ → Production A → Production A
ended text right p = p >>= (λ x. after (mark text right) (give x))

-- what stands between two marks
abbrev pub between : {A : Type 0} → List ℕ → ℕ → ℕ → Production A → Production A
between text left right p = after (mark text left) (ended text right p)

-- one, an equals sign and another
abbrev pub assigned : {A B C : Type 0} → List ℕ → (A → B → C) → Production A → Production B → Production C
assigned text f p q = p >>= (λ x. after (mark text equals) (made (f x) q))

-- one, and another between two marks
abbrev pub headed : {A B C : Type 0} → List ℕ → ℕ → ℕ → (A → B → C) → Production A → Production B → Production C
headed text left right f p q = p >>= (λ x. after (mark text left) (q >>= (λ y. after (mark text right) (give (f x y)))))

-- one, and more after commas
abbrev pub sequence : {A : Type 0} → List ℕ → Production A → Production (List A)
sequence text p = p >>= (λ x. made (λ xs. x ∷ xs) (many (front (is_mark comma)) (after (mark text comma) p)))

-- none before the closing mark, or one and more after commas
abbrev pub listed : {A : Type 0} → List ℕ → ℕ → Production A → Production (List A)
listed text close p = either (before_mark close) (sequence text p) (give [])
