-- Defaults after statements are what the last gives.
use Rattle.std.proofs.Common.{◌≡◌, ℕ, List, [], ◌∷◌, ◌++◌, fold, option_to_list, Option, None, Some, refl, sym, ◌∙◌}
use Rattle.std.specs.List.{flat_map}
use Rattle.kx_actions.specs.Defaults.{next_defaults}
use Rattle.kx_actions.specs.declared.defaults.ActionDefaults.{ActionDefaults}
use Rattle.kx_tree.specs.declared.tree.Field.{Field}
use Rattle.kx_tree.specs.declared.tree.Statement.{Statement}
use Rattle.kx_compat.specs.Giving.{last_values}
use Rattle.kx_compat.specs.Sections.{DefaultsAreLast, given_actions, given_value, next_default, no_defaults, standing}
use Rattle.kx_compat.specs.declared.defaults.CompatDefaults.{CompatDefaults}
use Rattle.kx_symbols.specs.Keys.{field_in}
use Rattle.kx_compat.proofs.Lasting.{last_next}

module _ (names : List (List ℕ)) where
  values_go : (ss : List Statement) (d : CompatDefaults) → (fold (λ d s. next_default names d (field_in s)) d ss).values ≡ last_values (λ s. given_value names s.0 (field_in s.1)) d.values (standing names d.actions ss)
  values_go [] d = refl
  values_go (s ∷ ss) d =
      values_go ss (next_default names d (field_in s))
      ∙ sym (last_next (λ s. given_value names s.0 (field_in s.1)) d.values (d.actions, s) (standing names (given_actions names d.actions (field_in s)) ss))

  one : (actions : ActionDefaults) (o : Option Field) (fields : List Field) → fold (next_defaults names) actions (option_to_list o ++ fields) ≡ fold (next_defaults names) (given_actions names actions o) fields
  one actions None fields = refl
  one actions (Some field) fields = refl

  actions_go : (ss : List Statement) (d : CompatDefaults) → (fold (λ d s. next_default names d (field_in s)) d ss).actions ≡ fold (next_defaults names) d.actions (flat_map (λ s. option_to_list (field_in s)) ss)
  actions_go [] d = refl
  actions_go (s ∷ ss) d = actions_go ss (next_default names d (field_in s)) ∙ sym (one d.actions (field_in s) (flat_map (λ s. option_to_list (field_in s)) ss))

  pub defaults_are_last : DefaultsAreLast names
  defaults_are_last = record { actions_are = λ ss. actions_go ss no_defaults; values_are = λ ss. values_go ss no_defaults }
