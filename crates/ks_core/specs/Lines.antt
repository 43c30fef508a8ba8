-- What lines of names give, and their faults.
use Rattle.std.specs.Prelude.{◌≡◌, ℕ, ◌+◌, ◌<◌, Bool, false, ◌&&◌, ◌||◌, not, ◌==◌, List, [], ◌∷◌, ◌++◌, Option, None, Some, fold, drop, take, length, nat_le, position, unwrap_or, is_some, slice_index_or, if◌then◌else◌}
use Rattle.std.specs.List.{slice_split}
use Rattle.std.specs.Option.{option_or}
use Rattle.std.specs.Str.Parse.{digits_value}
use Rattle.ks_core.specs.BuiltIn.{built_in}
use Rattle.ks_core.specs.Entry.{Entry, keysym_in}
use Rattle.ks_core.specs.Name.{is_word, is_u_form, is_hex_form, is_decimal}
use Rattle.kx_basics.specs.Keysyms.{is_keysym}
use Rattle.ks_core.specs.declared.fault.NameFault.{NameFault}
use Rattle.ks_core.specs.declared.fault.NameFault.TheVariants.{LineShape, Twice, Value}

-- the lines of a text are apart by a line feed each
abbrev pub lines_of : List ℕ → List (List ℕ)
lines_of text = slice_split (λ c. c == 10) text

-- the lines of what is left of a text, where something is
abbrev pub lines_left : Option (List ℕ) → List (List ℕ)
lines_left None = []
lines_left (Some text) = lines_of text

-- an empty line, or one that begins with `#`
abbrev pub is_skipped : List ℕ → Bool
is_skipped line = (length line == 0) || (slice_index_or line 0 0 == 35)

-- a space, a tab, a vertical tab, a form feed or a carriage return
abbrev pub is_blank : ℕ → Bool
is_blank c = (c == 32) || (c == 9) || (c == 11) || (c == 12) || (c == 13)

-- where the first byte that passes the test stands, or the length
abbrev pub first_or_end : (ℕ → Bool) → List ℕ → ℕ
first_or_end test bytes = unwrap_or (position test bytes) (length bytes)

-- the bytes before the first blank
unfoldable pub name_part : List ℕ → List ℕ
name_part line = take (first_or_end is_blank line) line

-- the bytes after the blanks that follow the name
unfoldable pub value_part : List ℕ → List ℕ
value_part line =
    let rest = drop (first_or_end is_blank line) line in
    drop (first_or_end (λ c. not (is_blank c)) rest) rest

-- an identifier of 1 to 63 bytes, and not of the U form
unfoldable pub is_given_name : List ℕ → Bool
is_given_name name = is_word name && nat_le (length name) 63 && not (is_u_form name)

-- a number in decimal or of the 0x form
abbrev pub is_number : List ℕ → Bool
is_number text = is_decimal text || is_hex_form text

unfoldable pub number_in : List ℕ → ℕ
number_in text = if is_hex_form text then digits_value 16 (drop 2 text) else digits_value 10 text

-- a name, blanks and a number
abbrev pub has_shape : List ℕ → Bool
has_shape line = is_given_name (name_part line) && is_number (value_part line)

-- the name and the keysym of a line of that shape
unfoldable pub entry_of : List ℕ → Entry
entry_of line = (name_part line, number_in (value_part line))

-- the keysym that a name has, built in or given
unfoldable pub known_keysym : List Entry → List ℕ → Option ℕ
known_keysym given name = option_or (keysym_in built_in name) (keysym_in given name)

-- a name has a keysym, and another one
abbrev pub is_another : Option ℕ → ℕ → Bool
is_another None keysym = false
is_another (Some known) keysym = not (known == keysym)

-- the fault of a line by itself: it has not the shape, or its keysym cannot be named
unfoldable pub own_fault : ℕ → List ℕ → Option NameFault
own_fault number line =
    if is_skipped line then None
    else if not (has_shape line) then Some (LineShape number)
    else if not (is_keysym (entry_of line).1) then Some (Value number)
    else None

-- the fault of a line after others, which gave those names: its own, else that its name has another keysym
unfoldable pub fault_of_line : List Entry → ℕ → List ℕ → Option NameFault
fault_of_line given number line =
    option_or (own_fault number line)
    (if not (is_skipped line) && is_another (known_keysym given (entry_of line).0) (entry_of line).1 then Some (Twice number) else None)

-- the names that are given, with an entry whose name is new
unfoldable pub with_entry : List Entry → Entry → List Entry
with_entry given entry = if is_some (known_keysym given entry.0) then given else given ++ entry ∷ []

-- the names that are given, once a line without a fault adds its own
unfoldable pub given_after : List Entry → List ℕ → List Entry
given_after given line = if is_skipped line then given else with_entry given (entry_of line)

-- the names that lines without a fault give, in order
unfoldable pub given_by : List (List ℕ) → List Entry
given_by lines = fold given_after [] lines

-- the fault of the line at an index, which is one less than its number
unfoldable pub fault_at : List (List ℕ) → ℕ → Option NameFault
fault_at lines index = fault_of_line (given_by (take index lines)) (index + 1) (slice_index_or lines index [])

-- no line has a fault
pub record AreFaultless (lines : List (List ℕ)) : Type 0 where
  pub none : (index : ℕ) → index < length lines → fault_at lines index ≡ None

-- the first line with a fault has this one
pub record IsFirstFault (lines : List (List ℕ)) (fault : NameFault) : Type 0 where
  pub index : ℕ
  pub within : index < length lines
  pub is : fault_at lines index ≡ Some fault
  pub before : (earlier : ℕ) → earlier < index → fault_at lines earlier ≡ None

-- what each entry that lines gave is: a name that a line may give, of a keysym that it may name, and not built in
unfoldable pub is_sound : Entry → Bool
is_sound entry = is_given_name entry.0 && is_keysym entry.1 && not (is_some (keysym_in built_in entry.0))
