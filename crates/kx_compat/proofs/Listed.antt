-- What records show is listed in their order.
use Rattle.std.proofs.Common.{◌≡◌, ℕ, ◌+◌, ◌<◌, zero, suc, Bool, false, List, [], ◌∷◌, ◌++◌, map, take, length, get_or, Option, None, Some, unwrap_or, refl, sym, ap, ◌∙◌, subst, arith}
use Rattle.std.specs.Map.{keys_of}
use Rattle.std.specs.Option.{option_and_then, option_map, option_map_or}
use Rattle.std.proofs.Math.Path.{fun_ext}
use Rattle.indexmap.specs.IndexMap.{IndexMap, get, keys}
use Rattle.ks_core.specs.Table.{KeysymTable}
use Rattle.kx_actions.specs.declared.action.KeyAction.{KeyAction}
use Rattle.kx_include.specs.Expansion.{Body}
use Rattle.kx_merge.specs.Bodies.{no_moves, offers_of}
use Rattle.kx_merge.specs.Plain.{plain_form}
use Rattle.kx_merge.specs.Records.{Shows, cell_in}
use Rattle.kx_merge.specs.declared.plain.Plain.{Plain}
use Rattle.kx_compat.specs.Interpretations.{Interpretation}
use Rattle.kx_compat.specs.SameMatch.{same_match}
use Rattle.kx_compat.specs.contracts.interpretation_match.InterpretationMatchPartialEq.TheImpl.{ghosts}
use Rattle.kx_compat.specs.declared.interpretation_match.InterpretationMatch.{InterpretationMatch}
use Rattle.kx_compat.proofs.Same.{told_as_said}
use Rattle.kx_compat.specs.Given.{FieldValues}
use Rattle.kx_compat.specs.Giving.{no_values, value_action, value_first_level_only, value_modifier, values_cell, interpretation_with}
use Rattle.kx_compat.specs.Meaning.{compat_rules, interpretation_by, interpretation_offers, interpretations_of}
use Rattle.kx_compat.specs.Shown.{interpretation_recorded}
use Rattle.kx_compat.specs.declared.values.Cell.{Cell}
use Rattle.kx_compat.specs.declared.values.Cell.TheVariants as cells
use Rattle.kx_compat.specs.declared.values.FieldValue.{FieldValue}
use Rattle.kx_compat.specs.declared.values.FieldValue.TheVariants.{Action, Modifier, FirstLevelOnly}

action_shown : (o : Option (Plain FieldValues)) → (option_map_or (λ (r : Plain FieldValues). r.values) o no_values).action ≡ option_and_then value_action (cell_in (plain_form values_cell) o cells.Action)
action_shown None = refl
action_shown (Some v) = one v.values.action
  where
    one : (a : Option KeyAction) → a ≡ option_and_then value_action (option_map Action a)
    one None = refl
    one (Some x) = refl

modifier_shown : (o : Option (Plain FieldValues)) → (option_map_or (λ (r : Plain FieldValues). r.values) o no_values).modifier ≡ option_and_then value_modifier (cell_in (plain_form values_cell) o cells.Modifier)
modifier_shown None = refl
modifier_shown (Some v) = one v.values.modifier
  where
    one : (m : Option ℕ) → m ≡ option_and_then value_modifier (option_map Modifier m)
    one None = refl
    one (Some x) = refl

levels_shown : (o : Option (Plain FieldValues)) → (option_map_or (λ (r : Plain FieldValues). r.values) o no_values).first_level_only ≡ option_and_then value_first_level_only (cell_in (plain_form values_cell) o cells.Levels)
levels_shown None = refl
levels_shown (Some v) = one v.values.first_level_only
  where
    one : (l : Option Bool) → l ≡ option_and_then value_first_level_only (option_map FirstLevelOnly l)
    one None = refl
    one (Some x) = refl

module _ {S : Type 0} (records : IndexMap InterpretationMatch (Plain FieldValues) S) (table : KeysymTable) (names : List (List ℕ)) (body : Body) where
  as-said : Shows {K = InterpretationMatch} {C = Cell} {V = FieldValue} {R = Plain FieldValues} (plain_form values_cell) ghosts.eq (keys records) (get ghosts.eq records) (offers_of ghosts.eq (compat_rules table names) no_moves body)
      → Shows {K = InterpretationMatch} {C = Cell} {V = FieldValue} {R = Plain FieldValues} (plain_form values_cell) same_match (keys records) (get same_match records) (interpretation_offers table names body)
  as-said shows = subst (λ eq. Shows {K = InterpretationMatch} {C = Cell} {V = FieldValue} {R = Plain FieldValues} (plain_form values_cell) eq (keys records) (get eq records) (offers_of eq (compat_rules table names) no_moves body)) told_as_said shows

  shown-by : Shows {K = InterpretationMatch} {C = Cell} {V = FieldValue} {R = Plain FieldValues} (plain_form values_cell) same_match (keys records) (get same_match records) (interpretation_offers table names body) → (interpretation_match : InterpretationMatch) → interpretation_recorded records interpretation_match ≡ interpretation_by (interpretation_offers table names body) interpretation_match
  shown-by shows interpretation_match =
      let o = get same_match records interpretation_match in
      let a = action_shown o ∙ ap (option_and_then value_action) (shows.cells_are interpretation_match cells.Action) in
      let m = modifier_shown o ∙ ap (option_and_then value_modifier) (shows.cells_are interpretation_match cells.Modifier) in
      let l = levels_shown o ∙ ap (option_and_then value_first_level_only) (shows.cells_are interpretation_match cells.Levels) in
      λ i. record { interpretation_match = interpretation_match; action = a i; modifier = m i; first_level_only = unwrap_or (l i) false }

  pub listed_are : (all : List Interpretation) → Shows {K = InterpretationMatch} {C = Cell} {V = FieldValue} {R = Plain FieldValues} (plain_form values_cell) ghosts.eq (keys records) (get ghosts.eq records) (offers_of ghosts.eq (compat_rules table names) no_moves body)
      → all ≡ map (interpretation_recorded records) (keys records) → all ≡ interpretations_of table names body
  listed_are all derived is =
      let shows = as-said derived in
      is ∙ ap (λ f. map f (keys records)) (fun_ext (shown-by shows)) ∙ ap (map (interpretation_by (interpretation_offers table names body))) shows.names_are

-- what is read of records for an interpretation match
pub recorded : {S : Type 0} (records : IndexMap InterpretationMatch (Plain FieldValues) S) (interpretation_match : InterpretationMatch) (o : Option (Plain FieldValues)) (i : Interpretation) → o ≡ get ghosts.eq records interpretation_match → i ≡ interpretation_with interpretation_match (option_map_or (λ (r : Plain FieldValues). r.values) o no_values) → i ≡ interpretation_recorded records interpretation_match
recorded records interpretation_match o i found is = is ∙ ap (λ p. interpretation_with interpretation_match (option_map_or (λ (r : Plain FieldValues). r.values) p no_values)) (found ∙ ap (λ eq. get eq records interpretation_match) told_as_said)

-- the keys of entries, one by one
listed_next : {K V A : Type 0} (f : K → A) (es : List (K × V)) (i : ℕ) (d : K × V) → i < length es → map f (take (i + 1) (keys_of es)) ≡ map f (take i (keys_of es)) ++ f (get_or es i d).0 ∷ []
listed_next f [] i d within = absurd (omega (arith, within))
listed_next f (x ∷ xs) zero d within = refl
listed_next f (x ∷ xs) (suc i) d within =
    let next : suc i + 1 ≡ suc (i + 1) = omega arith in
    rw next (ap (λ rest. f x.0 ∷ rest) (listed_next f xs i d (omega (arith, within))))

pub listed_more : {K V A : Type 0} (f : K → A) (es items : List (K × V)) (i : ℕ) (d : K × V) (before after : List A) (a : A) → items ≡ es → i < length items
    → before ≡ map f (take i (keys_of es)) → after ≡ before ++ a ∷ [] → a ≡ f (get_or items i d).0 → after ≡ map f (take (i + 1) (keys_of es))
listed_more f es items i d before after a same within is pushed given =
    pushed ∙ ap (λ xs. xs ++ a ∷ []) is ∙ ap (λ x. map f (take i (keys_of es)) ++ x ∷ []) given
    ∙ subst (λ xs. map f (take i (keys_of xs)) ++ f (get_or items i d).0 ∷ [] ≡ map f (take (i + 1) (keys_of xs))) same (sym (listed_next f items i d within))
