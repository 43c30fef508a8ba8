-- Fields that are given one after another have what the last gives.
use Rattle.std.proofs.Common.{◌≡◌, ℕ, ◌+◌, ◌<◌, List, ◌∷◌, length, drop, get_or, Option, None, Some, refl, sym, ap, ◌∙◌}
use Rattle.std.specs.Option.{option_and_then, option_or}
use Rattle.kx_indicators.specs.Given.{IndicatorMapValues}
use Rattle.kx_indicators.specs.Giving.{last_values, value_group_states, value_groups, value_mod_states, value_modifiers, with_value}
use Rattle.kx_indicators.specs.declared.values.IndicatorMapValue.{IndicatorMapValue}
use Rattle.kx_indicators.specs.declared.values.IndicatorMapValue.TheVariants.{Modifiers}
use Rattle.kx_merge.proofs.Going.{drop_next}

abbrev made : Option ℕ → Option ℕ → Option ℕ → Option ℕ → IndicatorMapValues
made m s t g = record { modifiers = m; mod_states = s; group_states = t; groups = g }

-- field by field
each_field : (v : IndicatorMapValues) (o : Option IndicatorMapValue)
    → made (option_or (option_and_then value_modifiers o) v.modifiers) (option_or (option_and_then value_mod_states o) v.mod_states) (option_or (option_and_then value_group_states o) v.group_states) (option_or (option_and_then value_groups o) v.groups)
    ≡ with_value v o
each_field v None = refl
each_field v (Some (Modifiers x)) = refl
each_field v _ = refl

module _ {X : Type 0} (gives : X → Option IndicatorMapValue) where
  pub last_next : (v : IndicatorMapValues) (x : X) (xs : List X) → last_values gives v (x ∷ xs) ≡ last_values gives (with_value v (gives x)) xs
  last_next v x xs = ap (λ w. last_values gives w xs) (each_field v (gives x))

  -- what is left is given after what the next gives
  pub last_goes : (before v : IndicatorMapValues) (xs : List X) (i : ℕ) (x : X) (o : Option IndicatorMapValue) → i < length xs → x ≡ get_or xs i x → o ≡ gives x → last_values gives before xs ≡ last_values gives v (drop i xs) → last_values gives before xs ≡ last_values gives (with_value v o) (drop (i + 1) xs)
  last_goes before v xs i x o within is gave left =
      left ∙ ap (last_values gives v) (drop_next xs i x within is) ∙ last_next v x (drop (i + 1) xs)
      ∙ ap (λ g. last_values gives (with_value v g) (drop (i + 1) xs)) (sym gave)
