-- Going over the fields of a key statement.
use Rattle.std.proofs.Common.{rules, refl, ◌≡◌, ℕ, ◌+◌, ◌<◌, List, [], ◌∷◌, ◌++◌, length, drop, get_or, Option, Some, Contains, Result, IfOk, sym, ap, ◌∙◌, subst}
use Rattle.std.proofs.lemmas.List.Elements.{Contains-append_left, Contains-append_right}
use Rattle.kx_lex.specs.declared.fault.Fault.{Fault}
use Rattle.kx_lex.specs.declared.fault.Fault.TheVariants.{Memory, UnknownField}
use Rattle.kx_lex.specs.declared.name.Name.{Name}
use Rattle.kx_lex.specs.declared.token.Span.{Span}
use Rattle.kx_include.specs.IncludeFaults.{at}
use Rattle.kx_merge.specs.Records.{AreOffered}
use Rattle.kx_tree.specs.declared.tree.Declaration.{Declaration}
use Rattle.kx_tree.specs.declared.tree.Entry.{Entry as MapEntry}
use Rattle.kx_tree.specs.declared.tree.Field.{Field}
use Rattle.kx_tree.specs.declared.tree.KeyField.{KeyField}
use Rattle.kx_tree.specs.declared.tree.Mode.{Mode}
use Rattle.kx_tree.specs.declared.tree.Statement.{Statement as Said}
use Rattle.kx_tree.specs.declared.tree.Statement.TheVariants as said
use Rattle.kx_symbols.specs.KeyFaults.{field_faults, fields_faults, other_faults}
use Rattle.kx_symbols.specs.Keys.{KeyContent, key_form, key_offer, offered}
use Rattle.kx_symbols.specs.Lists.{StatementLists, field_lists, no_lists}
use Rattle.kx_symbols.specs.Known.{Known}
use Rattle.kx_symbols.specs.declared.cells.Cell.{Cell}
use Rattle.kx_symbols.specs.declared.cells.CellValue.{CellValue}
use Rattle.kx_merge.proofs.Going.{drop_next}

pub field_blames : (file : ℕ) (known : Known) (whole : Span) (fs : List KeyField) (lists : StatementLists) (i : ℕ) (f : KeyField) (e : Fault) → i < length fs → f ≡ get_or fs i f
    → fields_faults file known whole no_lists fs ≡ fields_faults file known whole lists (drop i fs) → Contains (Memory ∷ field_faults file known.modifiers whole lists f) e → Contains (Memory ∷ fields_faults file known whole no_lists fs) e
field_blames file known whole fs lists i f e within is left has =
    subst (λ all. Contains (Memory ∷ all) e) (sym (left ∙ ap (fields_faults file known whole lists) (drop_next fs i f within is)))
    (Contains-append_left (Memory ∷ field_faults file known.modifiers whole lists f) (fields_faults file known whole (field_lists known lists f) (drop (i + 1) fs)) e has)

pub front_blames : (front back : List Fault) (e : Fault) → Contains front e → Contains (Memory ∷ (front ++ back)) e
front_blames front back e has = Contains-append_right (Memory ∷ []) (front ++ back) e (Contains-append_left front back e has)

pub behind_memory : (fs : List Fault) (e : Fault) → Contains fs e → Contains (Memory ∷ fs) e
behind_memory fs e has = Contains-append_right (Memory ∷ []) fs e has

-- a statement of no kind that a symbols section has
pub unknown_blamed : (file : ℕ) (modifiers : List (List ℕ)) (word : Span) (s : Said) → ((ds : List Declaration) → s ≡ said.VirtualModifiers ds → ⊥) → ((name : Name) (es : List MapEntry) → s ≡ said.ModifierMap name es → ⊥) → ((f : Field) → s ≡ said.Field f → ⊥)
    → Contains (Memory ∷ other_faults file modifiers word s) (UnknownField (at file word))
unknown_blamed file modifiers word (said.VirtualModifiers ds) not_mods not_map not_field = absurd (not_mods ds refl)
unknown_blamed file modifiers word (said.ModifierMap name es) not_mods not_map not_field = absurd (not_map name es refl)
unknown_blamed file modifiers word (said.Field f) not_mods not_map not_field = absurd (not_field f refl)
unknown_blamed file modifiers word _ not_mods not_map not_field = behind_memory (UnknownField (at file word) ∷ []) (UnknownField (at file word)) (search rules)

pub key_given : {X : Type 0} (items : X → List (ℕ × KeyContent)) (known : Known) (fs : List KeyField) (mode : Mode) (code : ℕ) (o : Option ℕ) (r : Result X Fault) → o ≡ Some code
    → IfOk r (λ x. AreOffered {K = ℕ} {C = Cell} {V = CellValue} {R = KeyContent} mode key_form (items x) (key_offer known fs mode code ∷ []))
    → IfOk r (λ x. AreOffered {K = ℕ} {C = Cell} {V = CellValue} {R = KeyContent} mode key_form (items x) (offered known fs mode o))
key_given items known fs mode code o r some given =
    subst (λ p. IfOk r (λ x. AreOffered {K = ℕ} {C = Cell} {V = CellValue} {R = KeyContent} mode key_form (items x) (offered known fs mode p))) (sym some) given
