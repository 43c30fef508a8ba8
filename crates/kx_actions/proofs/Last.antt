-- Fields that are given one after another have what the last gives.
use Rattle.std.proofs.Common.{◌≡◌, ℕ, ◌+◌, ◌<◌, Bool, true, false, List, [], ◌∷◌, length, drop, get_or, fold, Option, None, Some, cond, is_some, refl, sym, ap, ◌∙◌}
use Rattle.std.specs.Option.{option_and_then, option_or}
use Rattle.kx_lex.specs.declared.name.Name.{Name}
use Rattle.kx_tree.specs.declared.tree.Field.{Field}
use Rattle.kx_tree.specs.declared.tree.Index.{Index}
use Rattle.kx_tree.specs.declared.tree.Setting.{Setting}
use Rattle.kx_tables.specs.declared.rows.GroupChange.{GroupChange}
use Rattle.kx_actions.specs.Defaults.{default_for, default_given, defaulted, defaults_after, given_as, is_same, kind_of, next_defaults, next_for, no_defaults, settings_for, taken_up}
use Rattle.kx_actions.specs.Settings.{given_affect, given_clear_locks, given_group, given_latch_to_lock, given_modifiers, last_settings, no_settings, with_given}
use Rattle.kx_actions.specs.Values.{member_given, setting_given}
use Rattle.kx_merge.specs.Words.{among}
use Rattle.kx_actions.specs.Words.{argument_words, of_kind}
use Rattle.kx_actions.specs.declared.action.ActionMods.{ActionMods}
use Rattle.kx_actions.specs.declared.action.Affect.{Affect}
use Rattle.kx_actions.specs.declared.defaults.ActionDefaults.{ActionDefaults}
use Rattle.kx_actions.specs.declared.kinds.ActionField.{ActionField}
use Rattle.kx_actions.specs.declared.kinds.ActionKind.{ActionKind}
use Rattle.kx_actions.specs.declared.kinds.ActionKind.TheVariants as kinds
use Rattle.kx_actions.specs.declared.settings.Given.{Given}
use Rattle.kx_actions.specs.declared.settings.Given.TheVariants as given
use Rattle.kx_actions.specs.declared.settings.Settings.{Settings}
use Rattle.kx_merge.proofs.Going.{drop_next}

abbrev made : Option ActionMods → Option GroupChange → Option Affect → Option Bool → Option Bool → Settings
made m g a c l = record { modifiers = m; group = g; affect = a; clear_locks = c; latch_to_lock = l }

-- what is given after what was
abbrev pub with_any : Settings → Option Given → Settings
with_any s None = s
with_any s (Some g) = with_given s g

-- field by field
each_field : (s : Settings) (o : Option Given)
    → made (option_or (option_and_then given_modifiers o) s.modifiers) (option_or (option_and_then given_group o) s.group) (option_or (option_and_then given_affect o) s.affect) (option_or (option_and_then given_clear_locks o) s.clear_locks) (option_or (option_and_then given_latch_to_lock o) s.latch_to_lock)
    ≡ with_any s o
each_field s None = refl
each_field s (Some (given.Modifiers x)) = refl
each_field s _ = refl

module _ {X : Type 0} (gives : X → Option Given) where
  pub last_next : (s : Settings) (x : X) (xs : List X) → last_settings gives s (x ∷ xs) ≡ last_settings gives (with_any s (gives x)) xs
  last_next s x xs = ap (λ t. last_settings gives t xs) (each_field s (gives x))

  -- what is left is given after what the next gives
  pub last_goes : (before s : Settings) (xs : List X) (i : ℕ) (x : X) (g : Given) → i < length xs → x ≡ get_or xs i x → Some g ≡ gives x → last_settings gives before xs ≡ last_settings gives s (drop i xs) → last_settings gives before xs ≡ last_settings gives (with_given s g) (drop (i + 1) xs)
  last_goes before s xs i x g within is gave left =
      left ∙ ap (last_settings gives s) (drop_next xs i x within is) ∙ last_next s x (drop (i + 1) xs)
      ∙ ap (λ o. last_settings gives (with_any s o) (drop (i + 1) xs)) (sym gave)

-- NoAction has no fields
abbrev Fits : ActionKind → Option Given → Type 0
Fits kinds.NoAction (Some g) = ⊥
Fits _ _ = Unit {0}

same_either : (b : Bool) (o : Option Given) → cond b o o ≡ o
same_either true o = refl
same_either false o = refl

one : (d : ActionDefaults) (k kind : ActionKind) (o : Option Given) → Fits k o → settings_for (taken_up d k o) kind ≡ with_any (settings_for d kind) (cond (is_same kind k) o None)
one d k kind None h = sym (ap (with_any (settings_for d kind)) (same_either (is_same kind k) None))
one d kinds.NoAction kind (Some g) h = absurd h
one d kinds.SetMods kinds.SetMods (Some g) h = refl
one d kinds.LatchMods kinds.LatchMods (Some g) h = refl
one d kinds.LockMods kinds.LockMods (Some g) h = refl
one d kinds.SetGroup kinds.SetGroup (Some g) h = refl
one d kinds.LatchGroup kinds.LatchGroup (Some g) h = refl
one d kinds.LockGroup kinds.LockGroup (Some g) h = refl
one d k kind (Some g) h = refl

module _ (names : List (List ℕ)) where
  no_member : (i : Option Index) (f : Option ActionField) (setting : Setting) → option_and_then (λ field. setting_given names field setting) (cond (is_some i) None (option_and_then (of_kind kinds.NoAction) f)) ≡ None
  no_member None None setting = refl
  no_member None (Some f) setting = refl
  no_member (Some i) f setting = refl

  no_default : (field : Field) (member : Option Name) → option_and_then (λ m. member_given names kinds.NoAction m field.place.index field.setting) member ≡ None
  no_default field None = refl
  no_default field (Some m) = no_member field.place.index (among argument_words m.bytes) field.setting

  fits : (k : ActionKind) (field : Field) (o : Option Given) → default_for names k field ≡ o → Fits k o
  fits kinds.NoAction field None e = tt
  fits kinds.NoAction field (Some g) e = let is : None ≡ Some g = sym (no_default field field.place.member) ∙ e in cc
  fits kinds.SetMods field o e = tt
  fits _ field o e = tt

  next_one : (d : ActionDefaults) (kind : ActionKind) (field : Field) (k : Option ActionKind) → settings_for (next_for names d field k) kind ≡ with_any (settings_for d kind) (given_as names kind field k)
  next_one d kind field None = refl
  next_one d kind field (Some k) = one d k kind (default_for names k field) (fits k field (default_for names k field) refl)

  go : (d : ActionDefaults) (kind : ActionKind) (statements : List Field) → settings_for (fold (next_defaults names) d statements) kind ≡ last_settings (default_given names kind) (settings_for d kind) statements
  go d kind [] = refl
  go d kind (s ∷ ss) =
      go (next_defaults names d s) kind ss
      ∙ ap (λ x. last_settings (default_given names kind) x ss) (next_one d kind s (kind_of s))
      ∙ sym (last_next (default_given names kind) (settings_for d kind) s ss)

  none_for : (kind : ActionKind) → settings_for no_defaults kind ≡ no_settings
  none_for kinds.SetMods = refl
  none_for _ = refl

  -- of default statements the last counts
  pub last_defaults : (statements : List Field) (kind : ActionKind) → settings_for (defaults_after names statements) kind ≡ defaulted names statements kind
  last_defaults statements kind = go no_defaults kind statements ∙ ap (λ s. last_settings (default_given names kind) s statements) (none_for kind)
