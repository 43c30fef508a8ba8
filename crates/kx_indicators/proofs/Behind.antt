-- Defaults after statements are what the last gives.
use Rattle.std.proofs.Common.{◌≡◌, ℕ, List, [], ◌∷◌, fold, refl, sym, ◌∙◌}
use Rattle.kx_tree.specs.declared.tree.Statement.{Statement}
use Rattle.kx_indicators.specs.Blocks.{DefaultsAreLast, default_in, given_value, next_default}
use Rattle.kx_indicators.specs.Given.{IndicatorMapValues}
use Rattle.kx_indicators.specs.Giving.{last_values, no_values}
use Rattle.kx_indicators.proofs.Lasting.{last_next}

module _ (names : List (List ℕ)) where
  go : (ss : List Statement) (d : IndicatorMapValues) → fold (next_default names) d ss ≡ last_values (λ s. given_value names (default_in s)) d ss
  go [] d = refl
  go (s ∷ ss) d = go ss (next_default names d s) ∙ sym (last_next (λ s. given_value names (default_in s)) d s ss)

  pub defaults_are_last : DefaultsAreLast names
  defaults_are_last ss = go ss no_values
