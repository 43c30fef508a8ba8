-- Which of a key's groups stands for an effective group (XKB protocol, "Effective Group"): groups are counted from 0.
use Rattle.std.specs.Prelude.{ℕ, ℤ, pos, negsuc, ◌-◌, nat_lt, cond, unsigned_abs}
use Rattle.std.specs.Int.{int_rem_euclid}
use Rattle.kx_tables.specs.declared.rows.Range.{Range}
use Rattle.kx_tables.specs.declared.rows.Range.TheVariants.{Wrap, Clamp, Redirect}

-- the nearest of the groups 0 to groups - 1
abbrev pub nearest : ℤ → ℕ → ℕ
nearest (pos e) groups = groups - 1
nearest (negsuc e) groups = 0

-- what the key's range makes of a group that it doesn't have
abbrev pub outside : ℤ → ℕ → Range → ℕ
outside e groups Wrap = unsigned_abs (int_rem_euclid e (pos groups))
outside e groups Clamp = nearest e groups
outside e groups (Redirect r) = cond (nat_lt r groups) r 0

-- the group of a key with this many groups, at least one
abbrev pub in_range : ℤ → ℕ → Range → ℕ
in_range (pos e) groups range = cond (nat_lt e groups) e (outside (pos e) groups range)
in_range (negsuc e) groups range = outside (negsuc e) groups range
