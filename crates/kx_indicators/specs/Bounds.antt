-- What holds of indicators.
use Rattle.std.specs.Prelude.{ℕ, ◌≡◌, ◌≤◌, All, List, length}
use Rattle.std.specs.List.{IsDistinct}
use Rattle.std.specs.Str.{bytes_eq}
use Rattle.kx_basics.specs.declared.limits.TheConstants.{MOST_NAME_BYTES}
use Rattle.kx_indicators.specs.Meaning.{Indicators}
use Rattle.kx_indicators.specs.declared.limits.TheConstants.{MOST_INDICATORS}

-- there are few, none is too long, and no two are the same
pub record NamesAreValid (names : List (List ℕ)) : Type 0 where
  pub few : length names ≤ MOST_INDICATORS
  pub short : All (λ name. length name ≤ MOST_NAME_BYTES) names
  pub apart : IsDistinct bytes_eq names

-- for each name there is what lights its indicator
pub record AreValid (is : Indicators) : Type 0 where
  pub names : NamesAreValid is.names
  pub as_many : length is.indicator_maps ≡ length is.names
