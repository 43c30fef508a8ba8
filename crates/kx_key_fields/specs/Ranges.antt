-- The ranges that a key may have.
use Rattle.std.specs.Prelude.{nat_lt, Bool, true}
use Rattle.kx_basics.specs.declared.limits.TheConstants.{MOST_GROUPS}
use Rattle.kx_tables.specs.declared.rows.Range.{Range}
use Rattle.kx_tables.specs.declared.rows.Range.TheVariants.{Wrap, Clamp, Redirect}

-- groups are redirected to a group that a key may have
abbrev pub is_range : Range → Bool
is_range Wrap = true
is_range Clamp = true
is_range (Redirect group) = nat_lt group MOST_GROUPS
