-- The group that an index or a value names.
use Rattle.std.specs.Prelude.{ℕ, ◌-◌, Option}
use Rattle.std.specs.Option.{option_map}
use Rattle.kx_tree.specs.declared.tree.Expression.{Expression}
use Rattle.kx_merge.specs.Numbers.{number_at}
use Rattle.kx_merge.specs.declared.numbers.Counted.TheVariants.{Group}

-- counted from 0
abbrev pub group_at : Expression → Option ℕ
group_at e = option_map (λ n. n - 1) (number_at Group e)
