-- What the levels of printed keys do, and what the keys are mapped to.
use Rattle.std.proofs.Common.{◌≡◌, ℕ, ◌<◌, ◌==◌, ◌^◌, ◌&&◌, ◌||◌, Bool, true, false, cond, [], Option, None, Some, is_some, length, slice_get, refl, sym, ap, ap₂, ◌∙◌, arith}
use Rattle.std.proofs.lemmas.Option.{slice_get_within}
use mathlib.Core.Bool.{or-false}
use Rattle.std.specs.List.{list_any}
use Rattle.std.specs.Option.{option_and_then, option_map_or}
use Rattle.kx_actions.specs.Becoming.{does_lock, does_unlock}
use Rattle.kx_actions.specs.declared.action.KeyAction.{KeyAction}
use Rattle.kx_keys.specs.Vmodmap.{level_action_at, interpretation_at, only_keysym}
use Rattle.kx_keys.specs.LevelActions.{action_meant, level_actions_of}
use Rattle.kx_builder.specs.Resolved.{ResolvedCell}
use Rattle.kx_compat.specs.Choosing.{chosen}
use Rattle.kx_compat.specs.Interpretations.{Interpretation}
use Rattle.kx_keys.specs.Rows.{mods_of}
use Rattle.kx_keys.specs.Selecting.{RealSet}
use Rattle.kx_keys.specs.Mapping.{Mapping, first_place, modmap_of}
use Rattle.kx_virtual_mods.specs.Sets.{any_below, has}
use Rattle.kx_mods.specs.Mods.{mask}
use Rattle.kx_mods.specs.declared.mods.Mods.{Mods}
use Rattle.kx_symbols.specs.Actions.{defined}
use Rattle.kx_tables.specs.Sound.{ActionHolds}
use Rattle.kx_tables.specs.declared.rows.Action.{Action}
use Rattle.kx_tables.specs.declared.rows.Action.TheVariants as rows
use Rattle.kx_keys.specs.Given.{KeyGiven}
use Rattle.kx_keys.specs.GroupTypes.{group_count, has_action, level_keysyms}
use Rattle.roundtrip_meaning.specs.Given.{IsGiven, affected_of, key_action}
use Rattle.roundtrip_meaning.proofs.ResolvingKeys.{count_is}
use Rattle.roundtrip_meaning.proofs.ResolvingMasks.{mods_again, some_below}
use Rattle.roundtrip_text.specs.Source.{CellFits, GroupFits, KeyFits, PrintedGroup, PrintedKey, cell_at}
use Rattle.roundtrip_text.proofs.TablesLists.{each_at}

-- ---- Actions

locks_again : (locks unlocks : Bool) → does_lock (affected_of locks unlocks) ≡ locks
locks_again true true = refl
locks_again true false = refl
locks_again false true = refl
locks_again false false = refl

unlocks_again : (locks unlocks : Bool) → does_unlock (affected_of locks unlocks) ≡ unlocks
unlocks_again true true = refl
unlocks_again true false = refl
unlocks_again false true = refl
unlocks_again false false = refl

module _ (real : ℕ → RealSet) (real_is : (set r : ℕ) → set < 2 ^ 8 → r < 8 → real set r ≡ has set r) where
  named_again : (mods : Mods) → mask mods < 2 ^ 8 → mods_of (real (mask mods)) ≡ mods
  named_again mods small = mods_again mods (real (mask mods)) small (λ r less. real_is (mask mods) r small less)

  -- an action means what was printed
  pub action_again : (modmap : RealSet) (a : Action) → ActionHolds a → action_meant modmap real (key_action a) ≡ a
  action_again modmap rows.None holds = refl
  action_again modmap (rows.SetMods mods clear) holds = ap (λ m. rows.SetMods m clear) (named_again mods holds)
  action_again modmap (rows.LatchMods mods clear latch) holds = ap (λ m. rows.LatchMods m clear latch) (named_again mods holds)
  action_again modmap (rows.LockMods mods locks unlocks) holds = λ i. rows.LockMods (named_again mods holds i) (locks_again locks unlocks i) (unlocks_again locks unlocks i)
  action_again modmap (rows.SetGroup change clear) holds = refl
  action_again modmap _ holds = refl

  -- a level does that, or nothing where none is printed
  defined_again : (modmap : RealSet) (a : Action) → ActionHolds a → option_map_or (action_meant modmap real) (defined (key_action a)) rows.None ≡ a
  defined_again modmap rows.None holds = refl
  defined_again modmap (rows.SetMods mods clear) holds = action_again modmap (rows.SetMods mods clear) holds
  defined_again modmap (rows.LatchMods mods clear latch) holds = action_again modmap (rows.LatchMods mods clear latch) holds
  defined_again modmap (rows.LockMods mods locks unlocks) holds = action_again modmap (rows.LockMods mods locks unlocks) holds
  defined_again modmap (rows.SetGroup change clear) holds = refl
  defined_again modmap _ holds = refl

  module _ (k : PrintedKey) (fits : KeyFits k) (key : KeyGiven) (given : IsGiven k key) (modmap : Mods) where
    none_chosen : (group level : ℕ) → option_and_then (λ (i : Interpretation). i.action) (interpretation_at [] modmap key group level) ≡ None
    none_chosen group level = by (has_action key) (only_keysym (level_keysyms key group level))
      where
        by : (t : Bool) (o : Option ℕ) → option_and_then (λ (i : Interpretation). i.action) (cond t None (option_and_then (λ keysym. chosen [] keysym (level == 0) (mask modmap)) o)) ≡ None
        by true o = refl
        by false None = refl
        by false (Some keysym) = refl

    -- a level with an action tells that the key has one
    acts : (group level : ℕ) → group < length k.groups → level < key.width group → is_some (key.action group level) ≡ true → has_action key ≡ true
    unfolding has_action
    acts group level here there is =
        some_below (group_count key) (λ group. any_below (key.width group) (λ level. is_some (key.action group level))) group (let n = count_is k fits key given in omega (arith, here, n))
        (some_below (key.width group) (λ level. is_some (key.action group level)) level there is)

    -- the group and the level of a cell
    record Placed (group level : ℕ) (d : ResolvedCell) : Type 0 where
      printed : PrintedGroup
      group_at : slice_get k.groups group ≡ Some printed
      cell_there : slice_get printed.cells level ≡ Some d

    placed : (group level : ℕ) (d : ResolvedCell) → cell_at k group level ≡ Some d → Placed group level d
    placed group level d at = by (slice_get k.groups group) refl at
      where
        by : (o : Option PrintedGroup) → slice_get k.groups group ≡ o → option_and_then (λ (p : PrintedGroup). slice_get p.cells level) o ≡ Some d → Placed group level d
        by None none is = cc
        by (Some p) there is = record { printed = p; group_at = there; cell_there = is }

    level_action_again : (group level : ℕ) (d : ResolvedCell) → cell_at k group level ≡ Some d → level_action_at [] modmap key group level ≡ defined (key_action d.action)
    level_action_again group level d at = by (has_action key) refl (key.action group level) refl
      where
        here : Placed group level d
        here = placed group level d at

        wide : level < key.width group
        wide =
            let inside = slice_get_within here.printed.cells level d here.cell_there in
            let width : key.width group ≡ length here.printed.cells = given.width_is group ∙ ap (λ o. option_map_or (λ (p : PrintedGroup). length p.cells) o 0) here.group_at in
            omega (arith, inside, width)

        by : (t : Bool) → has_action key ≡ t → (o : Option KeyAction) → key.action group level ≡ o → cond t (key.action group level) (option_and_then (λ (i : Interpretation). i.action) (interpretation_at [] modmap key group level)) ≡ defined (key_action d.action)
        by true has o is = given.action_is group level d at
        by false has None is = none_chosen group level ∙ sym is ∙ given.action_is group level d at
        by false has (Some a) is = let never : true ≡ false = sym (acts group level (slice_get_within k.groups group here.printed here.group_at) wide (ap is_some is)) ∙ has in cc

    -- what a printed level does
    pub level_actions_again : (group level : ℕ) (d : ResolvedCell) → cell_at k group level ≡ Some d → level_actions_of real [] modmap key group level ≡ d.action
    level_actions_again group level d at =
        let here = placed group level d at in
        ap (λ o. option_map_or (action_meant (has (mask modmap)) real) o rows.None) (level_action_again group level d at)
        ∙ defined_again (has (mask modmap)) d.action (each_at CellFits here.printed.cells (each_at GroupFits k.groups fits.groups group here.printed here.group_at).cells level d here.cell_there).does

-- ---- Modifier maps

-- a key is mapped to what the maps of its code give, where none are of keysyms
pub modmap_again : (m : Mapping) (code : ℕ) (mods : Mods) → mask mods < 2 ^ 8 → m.keysym_maps ≡ [] → ((real : ℕ) → real < 8 → m.key_maps code real ≡ has (mask mods) real) → modmap_of m code ≡ mods
modmap_again m code mods small none maps =
    mods_again mods (λ real. m.key_maps code real || list_any (λ (e : ℕ × ℕ). option_map_or (λ p. p.code == code) (first_place e.0 m) false && has e.1 real) m.keysym_maps) small
    (λ real less. ap₂ (λ a es. a || list_any (λ (e : ℕ × ℕ). option_map_or (λ p. p.code == code) (first_place e.0 m) false && has e.1 real) es) (maps real less) none ∙ or-false (has (mask mods) real))
