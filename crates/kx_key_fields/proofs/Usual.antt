-- The words by which people are told of a key's fields.
use Rattle.std.proofs.Common.{◌≡◌, ◌||◌, ℕ, Any, Bool, true, false, List, [], ◌∷◌, Some, refl, arith}
use Rattle.std.specs.Prelude.{codes}
use Rattle.std.specs.List.{list_any}
use Rattle.std.specs.Str.{str_eq_ignore_ascii_case}
use Rattle.kx_key_fields.specs.Words.{AreUsual, field_named, is_list_word}
use Rattle.kx_key_fields.specs.declared.words.RangeField.TheVariants as ranges
use Rattle.kx_key_fields.specs.declared.words.AttributeField.{AttributeField}
use Rattle.kx_key_fields.specs.declared.words.AttributeField.TheVariants as fields

abbrev pub usual : List (List ℕ)
usual =
    codes "type" ∷ codes "symbols" ∷ codes "actions" ∷ codes "vmods" ∷ codes "groupsWrap" ∷ codes "groupsClamp"
    ∷ codes "groupsRedirect" ∷ codes "repeat" ∷ codes "lock" ∷ codes "radioGroup" ∷ codes "allowNone" ∷ codes "overlay" ∷ []

told : (field : AttributeField) → Any (λ w. field_named w ≡ Some field) usual
told fields.KeyType = (0, codes "type", omega arith, refl, refl)
told fields.VirtualMods = (3, codes "vmods", omega arith, refl, refl)
told (fields.Range ranges.Wrap) = (4, codes "groupsWrap", omega arith, refl, refl)
told (fields.Range ranges.Clamp) = (5, codes "groupsClamp", omega arith, refl, refl)
told (fields.Range ranges.Redirect) = (6, codes "groupsRedirect", omega arith, refl, refl)
told fields.Unused = (7, codes "repeat", omega arith, refl, refl)

among : (first symbols actions rest : Bool) → (symbols || actions) ≡ true → (first || (symbols || (actions || rest))) ≡ true
among true symbols actions rest h = refl
among false true actions rest h = refl
among false false true rest h = refl
among false false false rest h = cc

lists : (word : List ℕ) → is_list_word word ≡ true → list_any (str_eq_ignore_ascii_case word) usual ≡ true
lists word h = among (str_eq_ignore_ascii_case word (codes "type")) (str_eq_ignore_ascii_case word (codes "symbols")) (str_eq_ignore_ascii_case word (codes "actions")) _ h

pub usual_words : AreUsual usual
usual_words = record { read = refl; lists = lists; fields = told }
