-- What is read of a keymap, under names for clauses and proofs.
use Rattle.std.specs.Prelude.{ℕ, ◌≡◌, ◌&&◌, Bool, List, [], ◌++◌, Option, Some, is_some, map}
use Rattle.kx_builder.specs.IndicatorMaps.{ResolvedIndicator}
use Rattle.kx_builder.specs.Resolved.{Resolved, ResolvedKey, ResolvedType}
use Rattle.kx_mods.specs.Mods.{mask}
use Rattle.kx_mods.specs.declared.mods.Mods.{Mods}
use Rattle.kx_keys.specs.Bounds.{BoundsBelow, KeepsBounds, TypeHolds}
use Rattle.kx_keys.specs.Given.{KeyGiven, given}
use Rattle.kx_keys.specs.Keys.{Keyed, key_if_named, keyed_of, keys_below, resolved_of, type_of}
use Rattle.kx_resolve.specs.Lit.{indicators_of}
use Rattle.kx_resolve.specs.Modmaps.{modmap_at}
use Rattle.kx_resolve.specs.NamedKeys.{names_at, typing_in}
use Rattle.kx_resolve.specs.ReadVmodmap.{read_keymap_of}
use Rattle.kx_keys.specs.Selecting.{RealSet}
use Rattle.kx_resolve.specs.Shown.{keymap_meant}
use Rattle.kx_keys.specs.Standing.{real_by}
use Rattle.kx_resolve.specs.TypesInUse.{TypeInUse, type_in_use}
use Rattle.kx_keys.specs.Typing.{Typing}
use Rattle.kx_keys.specs.Vmodmap.{ReadKeymap, brings, is_in_vmodmap}
use Rattle.kx_symbols.specs.Keys.{KeyContent}
use Rattle.kx_tables.specs.Keymap.{Keymap}
use Rattle.kx_virtual_mods.specs.Sets.{has}
use Rattle.kx_resolve.specs.declared.read.InterpretedKeys.{InterpretedKeys}
use Rattle.kx_resolve.specs.declared.read.Read.{Read}

module _ (keys : InterpretedKeys) where
  -- with declared masks of virtual modifiers
  abbrev pub keymap_read : List Mods → ReadKeymap
  keymap_read declared = read_keymap_of keys.named.codes.now (typing_in keys.named) keys.named.keys.now (modmap_at keys.modmaps.now) keys.interpretations.now declared

  -- by what sets of modifiers stand for
  abbrev pub keyed_by : (ℕ → RealSet) → Keyed
  keyed_by real = keyed_of real keys.named.codes.now keys.named.keys.now (modmap_at keys.modmaps.now) keys.interpretations.now

  -- what a key brings at a code, and what the key of a code brings
  abbrev pub brings_of : KeyContent → ℕ → ℕ → ℕ → Bool
  brings_of key code number real = is_in_vmodmap keys.interpretations.now (modmap_at keys.modmaps.now code) (given key) (typing_in keys.named) number && has (mask (modmap_at keys.modmaps.now code)) real

  abbrev pub brings_if : ℕ → ℕ → ℕ → Option (List ℕ) → KeyGiven → Bool
  brings_if code number real name key = is_some name && (is_in_vmodmap keys.interpretations.now (modmap_at keys.modmaps.now code) key (typing_in keys.named) number && has (mask (modmap_at keys.modmaps.now code)) real)

  abbrev pub brings_at : ℕ → ℕ → ℕ → Bool
  brings_at code number real = brings (keymap_read []) number real code

module _ (read : Read) where
  abbrev pub real_in : ℕ → RealSet
  real_in = real_by read.stands.now

  abbrev pub typing_read : Typing
  typing_read = typing_in read.keys.named

  abbrev pub keyed_in : Keyed
  keyed_in = keyed_by read.keys real_in

  abbrev pub resolved_in : Resolved
  resolved_in = resolved_of real_in typing_read keyed_in

  abbrev pub meant_in : Keymap
  meant_in = keymap_meant real_in typing_read keyed_in

  abbrev pub lit_in : List ResolvedIndicator
  lit_in = indicators_of real_in read.indicators.now

  -- ---- The type of a name

  abbrev pub type_in : List ℕ → ResolvedType
  type_in = type_of real_in typing_read

  abbrev pub TypeHoldsIn : List ℕ → Type 0
  TypeHoldsIn = TypeHolds real_in typing_read

  -- ---- The keys of codes, where `used` are the types by their places

  module _ (code : ℕ) where
    -- the types of the code's groups stand ahead of those of other names
    abbrev pub AreAhead : List TypeInUse → List (List ℕ) → List (List ℕ) → Type 0
    AreAhead group_types used names = group_types ≡ map (type_in_use typing_read used) (names_at read.keys.named code ++ names)

    abbrev pub keys_at : List (List ℕ) → List ResolvedKey
    keys_at used = key_if_named typing_read used (keyed_in.level_actions code) (keyed_in.key code) code (keyed_in.name code) (keyed_in.modmap code)

    abbrev pub KeepsBoundsAt : Type 0
    KeepsBoundsAt = (name : List ℕ) → keyed_in.name code ≡ Some name → KeepsBounds typing_read name (keyed_in.modmap code) (keyed_in.level_actions code) (keyed_in.key code)

  -- of the codes below a number
  abbrev pub keys_read : List (List ℕ) → ℕ → List ResolvedKey
  keys_read used = keys_below typing_read used keyed_in

  abbrev pub KeepBoundsBelow : ℕ → Type 0
  KeepBoundsBelow = BoundsBelow typing_read keyed_in
