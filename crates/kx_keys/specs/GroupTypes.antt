-- The groups of a key, and the key type of each (X Keyboard Extension, core keyboard mapping; libxkbcommon's automatic
-- types).
use Rattle.std.specs.Prelude.{ℕ, zero, suc, ◌+◌, ◌==◌, nat_le, nat_lt, Bool, true, not, ◌&&◌, ◌||◌, List, [], Option, None, Some, codes, is_some, length, unwrap_or, if◌then◌else◌, slice_index}
use Rattle.std.specs.Option.{option_or}
use Rattle.std.specs.Str.{bytes_eq}
use Rattle.ks_core.specs.Keysym.{FurtherLetters, is_keypad, is_lower, is_upper}
use Rattle.kx_basics.specs.declared.limits.TheConstants.{MOST_GROUPS, MOST_NAME_BYTES}
use Rattle.kx_virtual_mods.specs.Sets.{any_below}
use Rattle.kx_keys.specs.Given.{KeyGiven}
use Rattle.kx_keys.specs.Typing.{Typing}
use Rattle.kx_types.specs.KeyTypes.{Definition}

-- ---- Groups

abbrev pub has_level : KeyGiven → ℕ → Bool
has_level key group = nat_lt 0 (key.width group)

-- of so many groups those up to the last that has a level
unfoldable pub groups_within : KeyGiven → ℕ → ℕ
groups_within key zero = 0
groups_within key (suc n) = if has_level key n then suc n else groups_within key n

-- after the most that a key may have there are none
unfoldable pub group_count : KeyGiven → ℕ
group_count key = groups_within key MOST_GROUPS

-- a group without levels takes the type and the content of the first
abbrev pub content_group : KeyGiven → ℕ → ℕ
content_group key group = if has_level key group then group else 0

-- the keysyms of a level of a group, both counted from 0; none where none are given
abbrev pub level_keysyms : KeyGiven → ℕ → ℕ → List ℕ
level_keysyms key group level = unwrap_or (key.keysyms group level) []

-- whether a level of a group has an action, however far after the levels of the group's type
unfoldable pub has_action : KeyGiven → Bool
has_action key = any_below (group_count key) (λ group. any_below (key.width group) (λ level. is_some (key.action group level)))

abbrev pub one_level_name : List ℕ
one_level_name = codes "ONE_LEVEL"

-- one of the first two levels is of the keypad
abbrev pub has_keypad : (ℕ → ℕ) → Bool
has_keypad first = is_keypad (first 0) || is_keypad (first 1)

-- `letters` are the further ones of the table of names, `first` is the first keysym of a level
module _ (letters : FurtherLetters) (first : ℕ → ℕ) where
  -- a letter in lower case and after it one in upper case
  abbrev pub has_letters : ℕ → Bool
  has_letters level = is_lower letters (first level) && is_upper letters (first (level + 1))

  abbrev pub two_levels : List ℕ
  two_levels = if has_letters 0 then codes "ALPHABETIC" else (if has_keypad first then codes "KEYPAD" else codes "TWO_LEVEL")

  abbrev pub four_levels : List ℕ
  four_levels =
      if has_letters 0 then (if has_letters 2 then codes "FOUR_LEVEL_ALPHABETIC" else codes "FOUR_LEVEL_SEMIALPHABETIC")
      else (if has_keypad first then codes "FOUR_LEVEL_KEYPAD" else codes "FOUR_LEVEL")

  -- the automatic type of so many levels; there is none for more than four
  abbrev pub automatic : ℕ → Option (List ℕ)
  automatic width =
      if nat_le width 1 then Some one_level_name
      else (if width == 2 then Some two_levels
      else (if nat_le width 4 then Some four_levels else None))

-- the type that is written for the group, else that for the key, else the automatic one
abbrev pub wanted_type : FurtherLetters → KeyGiven → ℕ → Option (List ℕ)
wanted_type letters key group = option_or (key.group_type group) (option_or key.key_type (automatic letters (λ level. slice_index (level_keysyms key group level) 0) (key.width group)))

-- `typing` are the declared types and the letters
module _ (typing : Typing) where
  -- a longer text names no type
  abbrev pub is_type : List ℕ → Bool
  is_type name = nat_le (length name) MOST_NAME_BYTES && is_some (typing.declared name)

  -- ONE_LEVEL in place of a type that isn't declared, and where none is wanted
  abbrev pub type_name : Option (List ℕ) → List ℕ
  type_name None = one_level_name
  type_name (Some name) = if is_type name then name else one_level_name

  -- ONE_LEVEL is built in where it isn't declared
  abbrev pub type_definition : List ℕ → Definition
  type_definition name = unwrap_or (typing.declared name) (record { modifiers = 0; levels = 1; entries = [] })

  abbrev pub group_type_name : KeyGiven → ℕ → List ℕ
  group_type_name key group = type_name (wanted_type typing.letters key (content_group key group))

  -- how many levels a group has: what is after them is lost
  abbrev pub group_levels : KeyGiven → ℕ → ℕ
  group_levels key group = (type_definition (group_type_name key group)).levels

  -- ONE_LEVEL is taken in place of another type; where it is wanted itself, it isn't
  abbrev pub is_fallback : Option (List ℕ) → Bool
  is_fallback None = true
  is_fallback (Some name) = not (is_type name) && not (bytes_eq name one_level_name)

  abbrev pub falls_back : KeyGiven → ℕ → Bool
  falls_back key group = is_fallback (wanted_type typing.letters key group)

-- ---- Under names, for clauses and proofs

abbrev pub first_keysym : KeyGiven → ℕ → ℕ → ℕ
first_keysym key group level = slice_index (level_keysyms key group level) 0
