-- What a printed key statement says, phrase by phrase, and its tokens.
use Rattle.std.specs.Prelude.{ℕ, ◌+◌, Bool, List, [], ◌∷◌, ◌++◌, codes, decimal, if◌then◌else◌}
use Rattle.std.specs.List.{flat_map}
use Rattle.ks_core.specs.PrintedName.{printed_name}
use Rattle.kx_lex.specs.Keywords.{keyword_of}
use Rattle.kx_lex.specs.declared.token.TokenKind.TheVariants.{Word, Number, KeyName, Text, Mark}
use Rattle.roundtrip_text.specs.Slices.{Slice, slice}

abbrev pub a_word : List ℕ → Slice
a_word w = slice (Word (keyword_of w)) w

abbrev pub a_mark : ℕ → Slice
a_mark b = slice (Mark b) (b ∷ [])

abbrev pub a_number : ℕ → Slice
a_number n = slice Number (decimal n)

abbrev pub a_text : List ℕ → Slice
a_text name = slice Text (34 ∷ printed_name name ++ 34 ∷ [])

abbrev pub a_key_name : List ℕ → Slice
a_key_name name = slice KeyName (60 ∷ name ++ 62 ∷ [])

-- things apart by commas
module _ {X : Type 0} (slices : X → List Slice) where
  abbrev pub behind_comma : X → List Slice
  behind_comma x = a_mark 44 ∷ slices x

  abbrev pub listed_slices : List X → List Slice
  listed_slices [] = []
  listed_slices (x ∷ xs) = slices x ++ flat_map behind_comma xs

-- ---- Keysyms

-- a keysym as a word or as a number
pub data KeysymPhrase : Type 0 where
  Worded : List ℕ → KeysymPhrase
  Numbered : List ℕ → KeysymPhrase

abbrev pub keysym_slice : KeysymPhrase → Slice
keysym_slice (Worded bytes) = a_word bytes
keysym_slice (Numbered bytes) = slice Number bytes

abbrev pub keysym_slices : KeysymPhrase → List Slice
keysym_slices s = keysym_slice s ∷ []

-- the keysyms of a level: none, one, or several in braces
abbrev pub level_slices : List KeysymPhrase → List Slice
level_slices [] = a_word (codes "NoSymbol") ∷ []
level_slices (s ∷ []) = keysym_slice s ∷ []
level_slices (s ∷ t ∷ ss) = a_mark 123 ∷ (listed_slices keysym_slices (s ∷ t ∷ ss) ++ a_mark 125 ∷ [])

-- ---- Actions

-- an argument of a call: a word; or a word set to words joined by +, to a number, or to one with a sign
pub data ArgumentPhrase : Type 0 where
  Flag : List ℕ → ArgumentPhrase
  Words : List ℕ → List (List ℕ) → ArgumentPhrase
  Natural : List ℕ → ℕ → ArgumentPhrase
  Signed : List ℕ → Bool → ℕ → ArgumentPhrase

abbrev pub words_slices : List (List ℕ) → List Slice
words_slices [] = []
words_slices (w ∷ ws) = a_word w ∷ flat_map (λ o. a_mark 43 ∷ a_word o ∷ []) ws

abbrev pub sign_byte : Bool → ℕ
sign_byte rises = if rises then 43 else 45

abbrev pub argument_slices : ArgumentPhrase → List Slice
argument_slices (Flag word) = a_word word ∷ []
argument_slices (Words word words) = a_word word ∷ a_mark 61 ∷ words_slices words
argument_slices (Natural word n) = a_word word ∷ a_mark 61 ∷ a_number n ∷ []
argument_slices (Signed word rises n) = a_word word ∷ a_mark 61 ∷ a_mark (sign_byte rises) ∷ a_number n ∷ []

pub record CallPhrase : Type 0 where
  pub word : List ℕ
  pub arguments : List ArgumentPhrase

abbrev pub call_slices : CallPhrase → List Slice
call_slices c = a_word c.word ∷ a_mark 40 ∷ (listed_slices argument_slices c.arguments ++ a_mark 41 ∷ [])

-- ---- Fields and keys

-- the type, the keysyms or the actions of a group, which is counted from 1; or what becomes of other groups
pub data FieldPhrase : Type 0 where
  TypeOf : ℕ → List ℕ → FieldPhrase
  SymbolsOf : ℕ → List (List KeysymPhrase) → FieldPhrase
  ActionsOf : ℕ → List CallPhrase → FieldPhrase
  Clamped : FieldPhrase
  RedirectedTo : ℕ → FieldPhrase

abbrev pub at_slices : List ℕ → ℕ → List Slice → List Slice
at_slices word n value = a_word word ∷ a_mark 91 ∷ a_number n ∷ a_mark 93 ∷ a_mark 61 ∷ value

abbrev pub bracket_slices : {X : Type 0} → (X → List Slice) → List X → List Slice
bracket_slices slices xs = a_mark 91 ∷ (listed_slices slices xs ++ a_mark 93 ∷ [])

abbrev pub field_slices : FieldPhrase → List Slice
field_slices (TypeOf n name) = at_slices (codes "type") n (a_text name ∷ [])
field_slices (SymbolsOf n levels) = at_slices (codes "symbols") n (bracket_slices level_slices levels)
field_slices (ActionsOf n calls) = at_slices (codes "actions") n (bracket_slices call_slices calls)
field_slices Clamped = a_word (codes "groupsClamp") ∷ []
field_slices (RedirectedTo n) = a_word (codes "groupsRedirect") ∷ a_mark 61 ∷ a_number n ∷ []

pub record GroupPhrase : Type 0 where
  pub key_type : List ℕ
  pub symbols : List (List KeysymPhrase)
  pub actions : List CallPhrase

pub record KeyPhrase : Type 0 where
  pub name : List ℕ
  pub groups : List GroupPhrase
  -- what becomes of other groups, where a field says it
  pub ranges : List FieldPhrase

-- the fields of groups, of which the first has a number
abbrev pub group_phrases : ℕ → List GroupPhrase → List FieldPhrase
group_phrases n [] = []
group_phrases n (g ∷ gs) = TypeOf n g.key_type ∷ SymbolsOf n g.symbols ∷ ActionsOf n g.actions ∷ group_phrases (n + 1) gs

abbrev pub field_phrases : KeyPhrase → List FieldPhrase
field_phrases k = group_phrases 1 k.groups ++ k.ranges

abbrev pub key_slices : KeyPhrase → List Slice
key_slices k = a_word (codes "key") ∷ a_key_name k.name ∷ a_mark 123 ∷ (listed_slices field_slices (field_phrases k) ++ a_mark 125 ∷ a_mark 59 ∷ [])
