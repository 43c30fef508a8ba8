-- Fields that are given one after another have what the last gives.
use Rattle.std.proofs.Common.{◌≡◌, ℕ, ◌+◌, ◌<◌, Bool, List, ◌∷◌, length, drop, get_or, Option, None, Some, refl, sym, ap, ◌∙◌}
use Rattle.std.specs.Option.{option_and_then, option_or}
use Rattle.kx_actions.specs.declared.action.KeyAction.{KeyAction}
use Rattle.kx_compat.specs.Given.{FieldValues}
use Rattle.kx_compat.specs.Giving.{last_values, value_action, value_first_level_only, value_modifier, with_value}
use Rattle.kx_compat.specs.declared.values.FieldValue.{FieldValue}
use Rattle.kx_compat.specs.declared.values.FieldValue.TheVariants.{Action}
use Rattle.kx_merge.proofs.Going.{drop_next}

abbrev made : Option KeyAction → Option ℕ → Option Bool → FieldValues
made a m l = record { action = a; modifier = m; first_level_only = l }

-- field by field
each_field : (v : FieldValues) (o : Option FieldValue)
    → made (option_or (option_and_then value_action o) v.action) (option_or (option_and_then value_modifier o) v.modifier) (option_or (option_and_then value_first_level_only o) v.first_level_only)
    ≡ with_value v o
each_field v None = refl
each_field v (Some (Action x)) = refl
each_field v _ = refl

module _ {X : Type 0} (gives : X → Option FieldValue) where
  pub last_next : (v : FieldValues) (x : X) (xs : List X) → last_values gives v (x ∷ xs) ≡ last_values gives (with_value v (gives x)) xs
  last_next v x xs = ap (λ w. last_values gives w xs) (each_field v (gives x))

  -- what is left is given after what the next gives
  pub last_goes : (before v : FieldValues) (xs : List X) (i : ℕ) (x : X) (o : Option FieldValue) → i < length xs → x ≡ get_or xs i x → o ≡ gives x → last_values gives before xs ≡ last_values gives v (drop i xs) → last_values gives before xs ≡ last_values gives (with_value v o) (drop (i + 1) xs)
  last_goes before v xs i x o within is gave left =
      left ∙ ap (last_values gives v) (drop_next xs i x within is) ∙ last_next v x (drop (i + 1) xs)
      ∙ ap (λ g. last_values gives (with_value v g) (drop (i + 1) xs)) (sym gave)
