-- What a key types in a state.
use Rattle.std.specs.Prelude.{ℕ, zero, suc, ◌+◌, Bool, false, ◌&&◌, nat_le, nat_lt, List, [], ◌∷◌, Option, None, Some, pos, if◌then◌else◌}
use Rattle.std.specs.Option.{option_or}
use Rattle.kx_mods.specs.Mods.{mask_without}
use Rattle.kx_run.specs.Replies.{Glance, Status, look_at, status_mods}
use Rattle.kx_tables.specs.Keymap.{Keymap}
use Rattle.kx_text.specs.Typing.{has, one_keysym, text_of}

-- C's 0 is none
abbrev pub or_zero : Option ℕ → ℕ
or_zero None = 0
or_zero (Some number) = number

-- the modifiers that are active, without those that a key's keysyms consume
abbrev pub unconsumed : Status → Glance → ℕ
unconsumed status look = mask_without (status_mods status) look.consumed

abbrev pub keysym_in : Keymap → Status → ℕ → ℕ
keysym_in keymap status code = let look = look_at keymap status code in or_zero (one_keysym (unconsumed status look) look.syms)

-- one keysym of ASCII, or one beyond
abbrev pub lone_ascii : List ℕ → Option ℕ
lone_ascii [] = None
lone_ascii (keysym ∷ []) = if nat_le keysym 127 then Some keysym else None
lone_ascii (first ∷ second ∷ keysyms) = None

abbrev pub lone_beyond_ascii : List ℕ → Bool
lone_beyond_ascii [] = false
lone_beyond_ascii (keysym ∷ []) = nat_lt 127 keysym
lone_beyond_ascii (first ∷ second ∷ keysyms) = false

-- a state with another group
abbrev pub in_group : ℕ → Status → Status
in_group group status = record status { base_group = pos 0; latched_group = 0; locked_group = group }

-- the keysym of ASCII that a key gives by itself in a group, and in the first of so many groups
abbrev pub ascii_in : Keymap → Status → ℕ → ℕ → Option ℕ
ascii_in keymap status code group = lone_ascii (look_at keymap (in_group group status) code).syms

unfoldable pub ascii_from : Keymap → Status → ℕ → ℕ → ℕ → Option ℕ
ascii_from keymap status code group zero = None
ascii_from keymap status code group (suc count) =
    option_or (ascii_in keymap status code group) (ascii_from keymap status code (group + 1) count)

abbrev pub or_these : Option ℕ → List ℕ → List ℕ
or_these None keysyms = keysyms
or_these (Some keysym) keysyms = keysym ∷ []

-- the keysyms that are typed: with Control, of one beyond ASCII, the first of ASCII that the key gives by itself in a group
abbrev pub keysyms_typed : Keymap → Status → ℕ → List ℕ → ℕ → List ℕ
keysyms_typed keymap status code keysyms mods =
    if has mods 4 && lone_beyond_ascii keysyms then or_these (ascii_from keymap status code 0 keymap.groups) keysyms else keysyms

abbrev pub text_in : Keymap → Status → ℕ → List ℕ
text_in keymap status code =
    let look = look_at keymap status code in
    let mods = unconsumed status look in
    text_of mods (keysyms_typed keymap status code look.syms mods)
