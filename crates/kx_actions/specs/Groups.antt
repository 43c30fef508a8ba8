-- The group that an action names: with a sign, so many groups on; without one, a group counted from 1.
use Rattle.std.specs.Prelude.{ℕ, pos, negsuc, neg_ℤ, ◌-◌, ◌&&◌, nat_le, nat_lt, Bool, Option, None, Some, if◌then◌else◌}
use Rattle.std.specs.Option.{option_map, option_map_or}
use Rattle.kx_basics.specs.declared.limits.TheConstants.{MOST_GROUPS}
use Rattle.kx_tree.specs.declared.tree.Expression.{Expression}
use Rattle.kx_tree.specs.declared.tree.Sign.{Sign}
use Rattle.kx_tree.specs.declared.tree.Sign.TheVariants.{Plus, Minus}
use Rattle.kx_tree.specs.declared.tree.Term.{Term}
use Rattle.kx_tree.specs.declared.tree.Term.TheVariants.{Number, Signed, Word}
use Rattle.kx_tables.specs.declared.rows.GroupChange.{GroupChange}
use Rattle.kx_tables.specs.declared.rows.GroupChange.TheVariants.{Absolute, Relative}
use Rattle.kx_merge.specs.Numbers.{word_number}
use Rattle.kx_merge.specs.Words.{single}
use Rattle.kx_merge.specs.declared.numbers.Counted.TheVariants.{Group}

-- a group as it is written: its sign, where it has one, and its number
abbrev pub Written : Type 0
Written = Option Sign × ℕ

abbrev pub term_written : Term → Option Written
term_written (Signed signed) = Some (Some signed.sign, signed.number.value)
term_written (Number number) = Some (None, number.value)
term_written (Word word) = option_map (λ n. (None, n)) (word_number Group word.bytes)
term_written _ = None

abbrev pub written : Expression → Option Written
written e = single e.rest (term_written e.first)

-- a change by so many groups up or down
abbrev pub signed_change : Sign → ℕ → GroupChange
signed_change Plus n = Relative (pos n)
signed_change Minus n = Relative (neg_ℤ (pos n))

abbrev pub change_of : Written → Option GroupChange
change_of w = option_map_or (λ sign. if nat_le w.1 MOST_GROUPS then Some (signed_change sign w.1) else None) w.0 (if nat_lt 0 w.1 && nat_le w.1 MOST_GROUPS then Some (Absolute (w.1 - 1)) else None)

-- whether a change is in its range
abbrev pub is_change : GroupChange → Bool
is_change (Absolute group) = nat_le group (MOST_GROUPS - 1)
is_change (Relative (pos n)) = nat_le n MOST_GROUPS
is_change (Relative (negsuc n)) = nat_le n (MOST_GROUPS - 1)

-- ---- Under names, for clauses and proofs

abbrev pub absolute : ℕ → Option GroupChange
absolute n = if nat_lt 0 n && nat_le n MOST_GROUPS then Some (Absolute (n - 1)) else None

abbrev pub relative : Sign → ℕ → Option GroupChange
relative sign n = if nat_le n MOST_GROUPS then Some (signed_change sign n) else None
