-- The lists that the fields of a printed key give.
use Rattle.std.proofs.Common.{◌≡◌, ℕ, ◌+◌, false, is_some, codes, List, [], ◌∷◌, ◌++◌, length, map, fold, Option, None, Some, refl, sym, ap, ap₂, ◌∙◌, arith, append_assoc, append-nil}
use Rattle.std.specs.Option.{option_map_or}
use Rattle.kx_actions.specs.declared.action.KeyAction.{KeyAction}
use Rattle.kx_key_lists.specs.Places.{given_list, group_for}
use Rattle.kx_tree.specs.declared.tree.KeyField.{KeyField}
use Rattle.kx_tree.specs.declared.tree.KeyField.TheVariants as fields
use Rattle.kx_tree.specs.declared.tree.List.{List as Listed}
use Rattle.kx_tree.specs.declared.tree.Setting.{Setting}
use Rattle.kx_tree.specs.declared.tree.Setting.TheVariants.{To}
use Rattle.kx_tree.specs.declared.tree.Value.TheVariants as values
use Rattle.kx_symbols.specs.Actions.{actions_of}
use Rattle.kx_symbols.specs.Keysyms.{Level, levels_of}
use Rattle.kx_symbols.specs.Known.{Known}
use Rattle.kx_symbols.specs.Lists.{StatementLists, field_kind, field_lists, set_lists, lists_of, no_lists}
use Rattle.kx_tree.specs.declared.tree.FieldPlace.{FieldPlace}
use Rattle.roundtrip_tree.specs.Shows.{name_at}
use Rattle.roundtrip_meaning.specs.Groups.{IsOther, IsListFor, GroupLists, AreGroups, end, other, lists}
use Rattle.roundtrip_meaning.proofs.Pushed.{list_pushed, length-push}

other_field : (known : Known) (s : StatementLists) (f : KeyField) → IsOther f → field_lists known s f ≡ s
other_field known s f is = ap (field_lists known s) is.is ∙ silent (field_kind is.field.place) (λ kind. set_lists known s is.field.place.index kind is.field.setting) is.kind
  where
    silent : {K : Type 0} (kind : Option K) (set : K → StatementLists) → is_some kind ≡ false → option_map_or set kind s ≡ s
    silent None set h = refl
    silent (Some k) set h = cc

as_placed : (word : List ℕ) (n : ℕ) (list : Listed) (known : Known) (s : StatementLists) (f : KeyField) (is : IsListFor word n list f)
    → field_lists known s f ≡ field_lists known s (fields.Field (record is.field { place = record { word = name_at word is.word_span; member = None; index = Some is.index }; setting = To (values.List list) }))
as_placed word n list known s f is = ap (field_lists known s) is.is ∙ ap₂ (λ (p : FieldPlace) (t : Setting). field_lists known s (fields.Field (record is.field { place = p; setting = t }))) is.place_is is.setting_is

symbols_field : (known : Known) (s : StatementLists) (n : ℕ) (list : Listed) (f : KeyField) (is : IsListFor (codes "symbols") n list f) → field_lists known s f ≡ record s { symbols = given_list s.symbols (group_for s.symbols (Some is.index)) (levels_of known.names list) }
symbols_field known s n list f is = as_placed (codes "symbols") n list known s f is

actions_field : (known : Known) (s : StatementLists) (n : ℕ) (list : Listed) (f : KeyField) (is : IsListFor (codes "actions") n list f) → field_lists known s f ≡ record s { actions = given_list s.actions (group_for s.actions (Some is.index)) (actions_of known list) }
actions_field known s n list f is = as_placed (codes "actions") n list known s f is

abbrev symbols_of : List GroupLists → List (List Level)
symbols_of gs = map (λ (g : GroupLists). g.symbols) gs

abbrev actions_in : List GroupLists → List (List (Option KeyAction))
actions_in gs = map (λ (g : GroupLists). g.actions) gs

pub groups_left : (known : Known) (n : ℕ) (gs : List GroupLists) (fs : List KeyField) (s : StatementLists) → AreGroups known n gs fs → n ≡ length s.symbols → n ≡ length s.actions
    → fold (field_lists known) s fs ≡ (let t : StatementLists = record { symbols = s.symbols ++ map Some (symbols_of gs); actions = s.actions ++ map Some (actions_in gs) } in t)
groups_left known n [] [] s end a b = λ i. record { symbols = sym (append-nil s.symbols) i; actions = sym (append-nil s.actions) i }
groups_left known n (g ∷ gs) [] s are a b = elim are [ ]
groups_left known n gs (f ∷ fs) s (other is are) a b = ap (λ t. fold (field_lists known) t fs) (other_field known s f is) ∙ groups_left known n gs fs s are a b
groups_left known n (g ∷ gs) (x ∷ y ∷ fs) s (lists symbols actions is ls ia as_ are) a b =
    let one : field_lists known s x ≡ (let t : StatementLists = record { symbols = s.symbols ++ Some g.symbols ∷ []; actions = s.actions } in t) =
    symbols_field known s n symbols x is
    ∙ (λ i. record { symbols = (list_pushed s.symbols is.index n (levels_of known.names symbols) is.group_is a ∙ ap (λ l. s.symbols ++ Some l ∷ []) ls) i; actions = s.actions }) in
    let t : StatementLists = record { symbols = s.symbols ++ Some g.symbols ∷ []; actions = s.actions } in
    let two : field_lists known t y ≡ (let u : StatementLists = record { symbols = s.symbols ++ Some g.symbols ∷ []; actions = s.actions ++ Some g.actions ∷ [] } in u) =
    actions_field known t n actions y ia
    ∙ (λ i. record { symbols = t.symbols; actions = (list_pushed s.actions ia.index n (actions_of known actions) ia.group_is b ∙ ap (λ l. s.actions ++ Some l ∷ []) as_) i }) in
    let u : StatementLists = record { symbols = s.symbols ++ Some g.symbols ∷ []; actions = s.actions ++ Some g.actions ∷ [] } in
    let rest = groups_left known (n + 1) gs fs u are (let l = length-push s.symbols (Some g.symbols) in omega (arith, l, a)) (let l = length-push s.actions (Some g.actions) in omega (arith, l, b)) in
    ap (λ v. fold (field_lists known) (field_lists known v y) fs) one ∙ ap (λ v. fold (field_lists known) v fs) two ∙ rest
    ∙ (λ i. record { symbols = append_assoc s.symbols (Some g.symbols ∷ []) (map Some (symbols_of gs)) i; actions = append_assoc s.actions (Some g.actions ∷ []) (map Some (actions_in gs)) i })

-- the lists of a printed key are those of its groups
pub lists_are : (known : Known) (gs : List GroupLists) (fs : List KeyField) → AreGroups known 0 gs fs → lists_of known fs ≡ (let t : StatementLists = record { symbols = map Some (symbols_of gs); actions = map Some (actions_in gs) } in t)
lists_are known gs fs are = groups_left known 0 gs fs no_lists are refl refl
