-- Aliases by name, and the targets that a body gives.
use Rattle.std.proofs.Common.{◌≡◌, ℕ, Bool, true, false, cond, ◌&&◌, not, List, [], ◌∷◌, map, Option, None, Some, refl, sym, ap, ◌∙◌}
use Rattle.std.proofs.lemmas.Slice.Eq.{bytes_eq-Decides}
use Rattle.std.specs.Map.{lookup}
use Rattle.std.specs.Option.{option_or, option_and_then}
use Rattle.std.specs.Str.{bytes_eq}
use Rattle.indexmap.specs.IndexMap.{IndexMap, get, keys}
use Rattle.kx_include.specs.Expansion.{Body}
use Rattle.kx_merge.specs.Offers.{first_weak, is_hidden, last_strong, seen}
use Rattle.kx_merge.specs.Records.{Shows, cell_in}
use Rattle.kx_merge.specs.Single.{single_form}
use Rattle.kx_merge.specs.declared.single.Single.{Single}
use Rattle.kx_codes.specs.Aliases.{AliasOffer, Aliases, alias_offers, aliases_of, target_in, target_of}
use Rattle.kx_codes.specs.Codes.{Codes, CodesShow, name_of, paired}
use Rattle.kx_codes.specs.Indexed.{Indexed, Stands}
use Rattle.kx_codes.specs.Pairs.{pairs_of}
use Rattle.kx_codes.specs.Records.{shown_alias}

-- ---- The aliases of a body

module _ (target : List ℕ → Option (List ℕ)) (name : List ℕ) where
  found_in : (os : List AliasOffer) → (seen bytes_eq name os ≡ [] → target name ≡ None) → target_in (map (λ (o : AliasOffer). (o.name, target o.name)) os) name ≡ target name
  found_in [] none = sym (none refl)
  found_in (o ∷ os) none = by (bytes_eq name o.name) (λ h. (bytes_eq-Decides name o.name).0 h) (found_in os) none
    where
      others : Option (Option (List ℕ))
      others = lookup (bytes_eq name) (map (λ (p : AliasOffer). (p.name, target p.name)) os)

      by : (b : Bool) → (b ≡ true → name ≡ o.name) → ((seen bytes_eq name os ≡ [] → target name ≡ None) → option_and_then (λ t. t) others ≡ target name) → (cond (b && not (is_hidden bytes_eq name os)) (o ∷ seen bytes_eq name os) (seen bytes_eq name os) ≡ [] → target name ≡ None) → option_and_then (λ t. t) (cond b (Some (target o.name)) others) ≡ target name
      by true same rest unseen = ap target (sym (same refl))
      by false same rest unseen = rest unseen

aliases_found : (body : Body) (name : List ℕ) → target_in (aliases_of body) name ≡ target_of body name
aliases_found body name = found_in (target_of body) name (alias_offers body) (ap (λ os. option_or (last_strong tt os) (first_weak tt os)))

-- ---- Records

looked_up : (test : List ℕ → Bool) (es : List (List ℕ × Single (List ℕ))) → option_and_then (λ t. t) (lookup test (map shown_alias es)) ≡ cell_in single_form (lookup test es) tt
looked_up test [] = refl
looked_up test (e ∷ es) = by (test e.0) (looked_up test es)
  where
    by : (b : Bool) → option_and_then (λ t. t) (lookup test (map shown_alias es)) ≡ cell_in single_form (lookup test es) tt → option_and_then (λ t. t) (cond b (Some e.1.value) (lookup test (map shown_alias es))) ≡ cell_in single_form (cond b (Some e.1) (lookup test es)) tt
    by true rest = refl
    by false rest = rest

-- what is found by a name among aliases is what its record holds
pub target_is : (name : List ℕ) (aliases : Aliases) (es : List (List ℕ × Single (List ℕ))) (o : Option (Single (List ℕ))) → map shown_alias es ≡ aliases → lookup (bytes_eq name) es ≡ o → target_in aliases name ≡ cell_in single_form o tt
target_is name aliases es o shown found = ap (λ given. target_in given name) (sym shown) ∙ looked_up (bytes_eq name) es ∙ ap (λ r. cell_in single_form r tt) found

-- pairs and records that show a body are its codes
pub codes_show : {S : Type 0} (c : Codes) (pairs : Indexed) (m : IndexMap (List ℕ) (Single (List ℕ)) S) (body : Body) → c ≡ record { by_name = pairs.by_name; by_code = pairs.by_code; aliases = map shown_alias m.entries } → Stands pairs (pairs_of body) → Shows single_form bytes_eq (keys m) (get bytes_eq m) (alias_offers body) → CodesShow c body
codes_show c pairs m body is stands shows = record {
  codes_are = λ name. ap (λ x. paired x name) is ∙ stands.codes_are name;
  names_are = λ code. ap (λ x. name_of x code) is ∙ stands.names_are code;
  targets_are = λ name. ap (λ x. target_in x.aliases name) is ∙ looked_up (bytes_eq name) m.entries ∙ shows.cells_are name tt;
}

-- what codes that show a body hold of a name is what the body's aliases do
pub target_same : (c : Codes) (body : Body) → CodesShow c body → (name : List ℕ) → target_in c.aliases name ≡ target_in (aliases_of body) name
target_same c body shows name = shows.targets_are name ∙ sym (aliases_found body name)
