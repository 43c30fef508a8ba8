-- What the statements of a symbols body say of each key's repeating: the field `repeat`, and its default `key.repeat`.
use Rattle.std.specs.Prelude.{ℕ, Bool, List, [], ◌∷◌, Option, None, is_some, nat_eq, if◌then◌else◌, codes}
use Rattle.std.specs.List.{list_any}
use Rattle.std.specs.Option.{option_and_then, option_map_or, option_or}
use Rattle.std.specs.Str.{str_eq_ignore_ascii_case}
use Rattle.kx_codes.specs.Codes.{Codes, code_of}
use Rattle.kx_include.specs.Expansion.{Body}
use Rattle.kx_key_fields.specs.Words.{is_key_word}
use Rattle.kx_lex.specs.declared.name.Name.{Name}
use Rattle.kx_merge.specs.Bodies.{Rules, no_moves, offers_of}
use Rattle.kx_merge.specs.Faults.{expression_in}
use Rattle.kx_merge.specs.Last.{last_given}
use Rattle.kx_merge.specs.Offers.{Offer, offers_to, value_of}
use Rattle.kx_merge.specs.Words.{meaning_among}
use Rattle.kx_tree.specs.declared.tree.Field.{Field}
use Rattle.kx_tree.specs.declared.tree.KeyField.{KeyField}
use Rattle.kx_tree.specs.declared.tree.KeyField.TheVariants as fields
use Rattle.kx_tree.specs.declared.tree.Mode.{Mode}
use Rattle.kx_tree.specs.declared.tree.Setting.{Setting}
use Rattle.kx_tree.specs.declared.tree.Statement.{Statement}
use Rattle.kx_symbols.specs.KeyFaults.{key_in}
use Rattle.kx_symbols.specs.Keys.{field_in}
use Rattle.kx_clients.specs.declared.key_repeat.KeyRepeat.{KeyRepeat}
use Rattle.kx_clients.specs.declared.key_repeat.KeyRepeat.TheVariants.{Yes, No, Default}

-- words are read without regard to case
abbrev pub is_repeat_word : List ℕ → Bool
is_repeat_word word = list_any (str_eq_ignore_ascii_case word) (codes "repeat" ∷ codes "repeats" ∷ codes "repeating" ∷ [])

abbrev pub repeat_words : List (List ℕ × KeyRepeat)
repeat_words = (codes "true", Yes) ∷ (codes "yes", Yes) ∷ (codes "on", Yes) ∷ (codes "false", No) ∷ (codes "no", No) ∷ (codes "off", No) ∷ (codes "default", Default) ∷ []

-- another value says nothing
abbrev pub repeat_in : Setting → Option KeyRepeat
repeat_in s = option_and_then (meaning_among repeat_words) (expression_in s)

-- what a field says whose word is this one
abbrev pub named_repeat : Name → Field → Option KeyRepeat
named_repeat word field = if is_repeat_word word.bytes then repeat_in field.setting else None

abbrev pub own_repeat : Field → Option KeyRepeat
own_repeat field = if is_some field.place.member then None else named_repeat field.place.word field

abbrev pub field_repeat : KeyField → Option KeyRepeat
field_repeat (fields.Field field) = own_repeat field
field_repeat (fields.List list) = None

-- what a field of a section gives keys as a default: `key.repeat`
abbrev pub default_repeat : Field → Option KeyRepeat
default_repeat field = if is_key_word field.place.word.bytes then option_and_then (λ member. named_repeat member field) field.place.member else None

-- the default after a statement
abbrev pub next_default : Option KeyRepeat → Statement → Option KeyRepeat
next_default d statement = option_or (option_and_then default_repeat (field_in statement)) d

abbrev pub RepeatOffer : Type 0
RepeatOffer = Offer ℕ (Unit {0}) KeyRepeat

module _ (codes : Codes) where
  -- a key statement gives what its last such field says, else the default before it
  abbrev pub key_offers : Option KeyRepeat → Mode → Option (Name × List KeyField) → List RepeatOffer
  key_offers d mode key = option_map_or (λ k. offers_to (λ said (cell : Unit {0}). said) mode (last_given field_repeat d k.1) (code_of codes k.0.bytes)) key []

  abbrev pub repeat_rules : Rules ℕ (Unit {0}) KeyRepeat (Option KeyRepeat)
  repeat_rules = record {
    start = None;
    next = λ d stated. next_default d stated.statement;
    offers = λ d place stated. key_offers d stated.mode (key_in stated.statement);
    faults = λ d place stated. [];
  }

  -- what a symbols body says of the key of a code, by precedence
  abbrev pub said_repeat : Body → ℕ → Option KeyRepeat
  said_repeat body code = value_of nat_eq (offers_of nat_eq repeat_rules no_moves body) code tt
