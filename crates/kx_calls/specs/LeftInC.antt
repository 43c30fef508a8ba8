-- What an image leaves out, as C reads it.
use Rattle.std.specs.Prelude.{◌≡◌, ℕ, List, Bool, false, MatchOption, Option, length, min, slice_get, ◌<◌, if◌then◌else◌, nat_le}
use Rattle.std.specs.Option.{option_map}
use Rattle.kx_clients.specs.LeftOut.{LeftOut, repeats}
use Rattle.kx_mods.specs.Mods.{mask}
use Rattle.kx_calls.specs.Out.{Copies}
use Rattle.kx_calls.specs.declared.left.XkcLeftCounts.{XkcLeftCounts}
use Rattle.kx_calls.specs.declared.status.TheConstants.{MISSING}

-- 32 bits have no greater count
abbrev count_in_c : ℕ → ℕ
count_in_c count = min count 4294967295

abbrev pub left_counts_in_c : LeftOut → XkcLeftCounts
left_counts_in_c left = record {
  aliases = count_in_c (length left.aliases);
  modifiers = count_in_c (length left.modifiers);
  indicators = count_in_c (length left.indicators);
}

-- no key has a code above 65,535
abbrev pub repeats_in_c : LeftOut → ℕ → Bool
repeats_in_c left code = if nat_le code 65535 then repeats left code else false

abbrev pub alias_name : LeftOut → ℕ → Option (List ℕ)
alias_name left index = option_map (λ alias. alias.name) (slice_get left.aliases index)

abbrev pub alias_key : LeftOut → ℕ → Option (List ℕ)
alias_key left index = option_map (λ alias. alias.key) (slice_get left.aliases index)

abbrev pub modifier_name : LeftOut → ℕ → Option (List ℕ)
modifier_name left index = option_map (λ modifier. modifier.name) (slice_get left.modifiers index)

abbrev pub modifier_mods : LeftOut → ℕ → Option ℕ
modifier_mods left index = option_map (λ modifier. mask modifier.mods) (slice_get left.modifiers index)

-- what is found is copied, and else nothing is
abbrev pub CopiesFound : Option (List ℕ) → List ℕ → List ℕ → ℕ → ℕ → ℕ → Type 0
CopiesFound found before after size_before size status =
    MatchOption found ((status ≡ MISSING) × ((after ≡ before) × (size ≡ size_before))) (λ bytes. Copies bytes before after size status)
