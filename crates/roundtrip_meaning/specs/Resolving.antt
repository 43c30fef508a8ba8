-- What is read of a printed text, key by key and type by type.
use Rattle.std.specs.Prelude.{ℕ, ◌≡◌, ◌<◌, ◌^◌, Some, map}
use Rattle.kx_builder.specs.Resolved.{ResolvedCell, ResolvedType}
use Rattle.kx_codes.specs.Pairs.{Pair, name_in}
use Rattle.kx_keys.specs.Selecting.{RealSet}
use Rattle.kx_virtual_mods.specs.Sets.{has}
use Rattle.kx_keys.specs.Keys.{Keyed}
use Rattle.kx_tables.specs.Content.{Content}
use Rattle.roundtrip_meaning.specs.Given.{IsGiven}
use Rattle.roundtrip_text.specs.Source.{EachOf, PrintedKey, cell_at, keys_printed, types_printed}
use Rattle.kx_keys.specs.Typing.{Typing}
use Rattle.roundtrip_meaning.specs.Types.{definition_seen}

abbrev pub pair_of : PrintedKey → Pair
pair_of k = record { name = k.name; code = k.code }

-- `real` is what a set of modifiers stands for, `typing` tells the types of groups
pub record ReadAgain (c : Content) (real : ℕ → RealSet) (typing : Typing) (keyed : Keyed) : Type 0 where
  -- sets of real modifiers stand for themselves
  pub real_is : (set r : ℕ) → set < 2 ^ 8 → r < 8 → real set r ≡ has set r
  pub declared_are : EachOf (λ (t : ResolvedType). typing.declared t.name ≡ Some (definition_seen t)) (types_printed c)
  pub names_are : (code : ℕ) → keyed.name code ≡ name_in (map pair_of (keys_printed c)) code
  pub given_are : EachOf (λ (k : PrintedKey). IsGiven k (keyed.key k.code)) (keys_printed c)
  pub mapped_are : EachOf (λ (k : PrintedKey). keyed.modmap k.code ≡ k.modmap) (keys_printed c)
  pub level_actions_are : EachOf (λ (k : PrintedKey). (group level : ℕ) (d : ResolvedCell) → cell_at k group level ≡ Some d → keyed.level_actions k.code group level ≡ d.action) (keys_printed c)
