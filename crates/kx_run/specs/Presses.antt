-- The entries that presses leave, of which those of released keys are empty.
use Rattle.std.specs.Prelude.{◌≡◌, ℕ, ℤ, ◌+◌, ◌<◌, Bool, true, false, List, length, get_or, Option, Some, None, IfSome}
use Rattle.std.specs.List.{filter_map, position_from}
use Rattle.kx_run.specs.declared.held.HeldKey.{HeldKey}
use Rattle.kx_run.specs.Held.{base_group_after, is_at}

-- the keys of some entries
abbrev pub keys_of : List (Option HeldKey) → List HeldKey
keys_of entries = filter_map (λ entry. entry) entries

-- whether an entry is the one of a code
abbrev pub is_entry_of : ℕ → Option HeldKey → Bool
is_entry_of code None = false
is_entry_of code (Some key) = is_at code key

-- the place of a code's entry
abbrev pub entry_index : ℕ → List (Option HeldKey) → Option ℕ
entry_index code entries = position_from (is_entry_of code) 0 entries

-- by code the places of entries
abbrev pub ArePlaced : List (Option ℕ) → List (Option HeldKey) → Type 0
ArePlaced places entries = (code : ℕ) (d : Option ℕ) → code < length places → get_or places code d ≡ entry_index code entries

-- each press disturbs all keys that are held before it, so only the last entry's key can be undisturbed
abbrev pub AreEarlierDisturbed : List (Option HeldKey) → Type 0
AreEarlierDisturbed entries = (i : ℕ) (d : Option HeldKey) → i + 1 < length entries → IfSome (get_or entries i d) (λ key. key.disturbed ≡ true)

-- the base group after one more entry
abbrev pub group_after_entry : Option HeldKey → ℤ → ℤ
group_after_entry None old = old
group_after_entry (Some key) old = base_group_after key.action old
