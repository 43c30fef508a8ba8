-- The words of a key's fields, which are read without regard to case.
use Rattle.std.specs.Prelude.{◌≡◌, ℕ, Any, Bool, not, true, is_some, ◌&&◌, ◌||◌, List, [], ◌∷◌, Option, Some, if◌then◌else◌, codes, map}
use Rattle.std.specs.Borrow.{Bor}
use Rattle.std.specs.List.{list_all, list_any}
use Rattle.std.specs.Str.{str_eq_ignore_ascii_case}
use Rattle.kx_tree.specs.declared.tree.FieldPlace.{FieldPlace}
use Rattle.kx_merge.specs.Words.{among}
use Rattle.kx_key_fields.specs.declared.words.RangeField.TheVariants as ranges
use Rattle.kx_key_fields.specs.declared.words.AttributeField.{AttributeField}
use Rattle.kx_key_fields.specs.declared.words.AttributeField.TheVariants as fields

abbrev pub used_words : List (List ℕ × AttributeField)
used_words =
    (codes "type", fields.KeyType) ∷ (codes "vmods", fields.VirtualMods) ∷ (codes "virtualMods", fields.VirtualMods)
    ∷ (codes "virtualModifiers", fields.VirtualMods)
    ∷ (codes "groupsWrap", fields.Range ranges.Wrap) ∷ (codes "wrapGroups", fields.Range ranges.Wrap)
    ∷ (codes "groupsClamp", fields.Range ranges.Clamp) ∷ (codes "clampGroups", fields.Range ranges.Clamp)
    ∷ (codes "groupsRedirect", fields.Range ranges.Redirect) ∷ (codes "redirectGroups", fields.Range ranges.Redirect) ∷ []

-- fields that are read, with any index and value, and not used
abbrev pub unused_words : List (List ℕ)
unused_words =
    codes "repeat" ∷ codes "repeats" ∷ codes "repeating" ∷ codes "lock" ∷ codes "locks" ∷ codes "locking"
    ∷ codes "radioGroup" ∷ codes "permanentRadioGroup" ∷ codes "allowNone"
    ∷ codes "overlay" ∷ codes "overlay1" ∷ codes "overlay2" ∷ []

-- what a field of a word sets, where it isn't a field of lists
abbrev pub field_named : List ℕ → Option AttributeField
field_named word = if list_any (str_eq_ignore_ascii_case word) unused_words then Some fields.Unused else among used_words word

-- the fields that give a key its lists
abbrev pub is_list_word : List ℕ → Bool
is_list_word word = str_eq_ignore_ascii_case word (codes "symbols") || str_eq_ignore_ascii_case word (codes "actions")

-- words by which people are told of all fields: each is read as one, and each that gives something is told
pub record AreUsual (words : List (List ℕ)) : Type 0 where
  pub read : list_all (λ w. is_list_word w || is_some (field_named w)) words ≡ true
  pub lists : (word : List ℕ) → is_list_word word ≡ true → list_any (str_eq_ignore_ascii_case word) words ≡ true
  pub fields : (field : AttributeField) → Any (λ w. field_named w ≡ Some field) words

-- the word before the point of a default for keys, as `key.type`
abbrev pub is_key_word : List ℕ → Bool
is_key_word word = str_eq_ignore_ascii_case word (codes "key")

-- a field of a symbols section that names a group
abbrev pub is_group_name : FieldPlace → Bool
is_group_name place = not (is_some place.member) && str_eq_ignore_ascii_case place.word.bytes (codes "name")

-- ---- Under names, for clauses and proofs

abbrev pub texts_of : List (Bor (List ℕ)) → List (List ℕ)
texts_of words = map (λ (w : Bor (List ℕ)). w.now) words

abbrev pub is_unused_word : List ℕ → Bool
is_unused_word word = list_any (str_eq_ignore_ascii_case word) unused_words
