-- What is made of the key of a code, by whether the code has a name and a statement names the key.
use Rattle.std.proofs.Common.{◌≡◌, ℕ, List, Option, None, Some, ◌∙◌, sym}
use Rattle.std.proofs.lemmas.Option.{none-some}
use Rattle.kx_keys.specs.Given.{KeyGiven, given, given_in}
use Rattle.kx_resolve.specs.NamedKeys.{if_named}
use Rattle.kx_symbols.specs.Keys.{KeyContent}

module _ {X : Type 0} (made : Option (List ℕ) → KeyGiven → X) (name : Option (List ℕ)) (key : Option KeyContent) where
  pub of_named : (found : KeyContent) (x : X) → Some found ≡ if_named name key → ((of_key : List ℕ) → made (Some of_key) (given found) ≡ x) → made name (given_in key) ≡ x
  of_named found x is here = by name is
    where
      by : (o : Option (List ℕ)) → Some found ≡ if_named o key → made o (given_in key) ≡ x
      by None is = absurd (none-some found (sym is))
      by (Some of_key) is = (λ i. made (Some of_key) (given_in (sym is i))) ∙ here of_key

  pub of_none : (x : X) → None ≡ if_named name key → ((k : KeyGiven) → made None k ≡ x) → ((of_key : List ℕ) → made (Some of_key) (given_in None) ≡ x) → made name (given_in key) ≡ x
  of_none x is unnamed absent = by name is
    where
      by : (o : Option (List ℕ)) → None ≡ if_named o key → made o (given_in key) ≡ x
      by None is = unnamed (given_in key)
      by (Some of_key) is = (λ i. made (Some of_key) (given_in (sym is i))) ∙ absent of_key
