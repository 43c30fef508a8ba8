-- Types by name are what the records show.
use Rattle.std.proofs.Common.{◌≡◌, ℕ, Bool, true, false, cond, List, [], ◌∷◌, map, Option, None, Some, refl, sym, ap, ◌∙◌, position}
use Rattle.std.specs.Map.{keys_of, lookup}
use Rattle.std.specs.Option.{option_and_then}
use Rattle.std.specs.Str.{bytes_eq}
use Rattle.indexmap.specs.IndexMap.{IndexMap, get, keys}
use Rattle.kx_include.specs.Expansion.{Body}
use Rattle.kx_merge.specs.Records.{Shows, cell_in}
use Rattle.kx_merge.specs.Single.{single_form}
use Rattle.kx_merge.specs.declared.single.Single.{Single}
use Rattle.kx_types.specs.Shown.{shown_entry}
use Rattle.kx_types.specs.Types.{NamedTypes, TypesShow, names_in, type_named, type_offers}
use Rattle.kx_types.specs.KeyTypes.{Definition}

abbrev Records : Type 0
Records = List (List ℕ × Single Definition)

looked_up : (test : List ℕ → Bool) (es : Records) → option_and_then (λ d. d) (lookup test (map shown_entry es)) ≡ option_and_then (λ (d : Single Definition). d.value) (lookup test es)
looked_up test [] = refl
looked_up test (e ∷ es) = elim (test e.0) as (λ b. option_and_then (λ d. d) (cond b (Some e.1.value) (lookup test (map shown_entry es))) ≡ option_and_then (λ (d : Single Definition). d.value) (cond b (Some e.1) (lookup test es))) [ true ↦ refl | false ↦ looked_up test es ]

pub named_is : (name : List ℕ) (types : NamedTypes) (es : Records) (o : Option (Single Definition)) → map shown_entry es ≡ types → lookup (bytes_eq name) es ≡ o → type_named types name ≡ option_and_then (λ (d : Single Definition). d.value) o
named_is name types es o shown found = ap (λ ts. type_named ts name) (sym shown) ∙ looked_up (bytes_eq name) es ∙ ap (option_and_then (λ (d : Single Definition). d.value)) found

names_shown : (es : Records) → names_in (map shown_entry es) ≡ keys_of es
names_shown [] = refl
names_shown (e ∷ es) = ap (λ ns. e.0 ∷ ns) (names_shown es)

pub place_is : (name : List ℕ) (types : NamedTypes) (es : Records) → map shown_entry es ≡ types → position (bytes_eq name) (names_in types) ≡ position (bytes_eq name) (keys_of es)
place_is name types es shown = ap (position (bytes_eq name)) (ap names_in (sym shown) ∙ names_shown es)

cell_is : (o : Option (Single Definition)) → cell_in single_form o tt ≡ option_and_then (λ (d : Single Definition). d.value) o
cell_is None = refl
cell_is (Some d) = refl

-- records that show what a body offers are its types
pub types_show : {S : Type 0} (m : IndexMap (List ℕ) (Single Definition) S) (names : List (List ℕ)) (body : Body) → Shows single_form bytes_eq (keys m) (get bytes_eq m) (type_offers names body) → TypesShow (map shown_entry m.entries) names body
types_show m names body shows = record {
  names_are = names_shown m.entries ∙ shows.names_are;
  definitions_are = λ name. looked_up (bytes_eq name) m.entries ∙ sym (cell_is (lookup (bytes_eq name) m.entries)) ∙ shows.cells_are name tt;
}
