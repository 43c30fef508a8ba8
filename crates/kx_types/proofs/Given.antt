-- Records of a type statement are those of a statement that is one.
use Rattle.std.proofs.Common.{◌≡◌, ℕ, List, [], ◌∷◌, Option, Some, Result, IfOk, subst}
use Rattle.kx_lex.specs.declared.fault.Fault.{Fault}
use Rattle.kx_lex.specs.declared.name.Name.{Name}
use Rattle.kx_merge.specs.Records.{AreOffered}
use Rattle.kx_merge.specs.Single.{single_form}
use Rattle.kx_merge.specs.declared.single.Single.{Single}
use Rattle.kx_tree.specs.declared.tree.Field.{Field}
use Rattle.kx_tree.specs.declared.tree.Mode.{Mode}
use Rattle.kx_types.specs.KeyTypes.{Definition, definition_of}
use Rattle.kx_types.specs.TypeFields.{sayings_of}
use Rattle.kx_types.specs.Types.{TypeOffer, said_offers, type_offer}

abbrev Offered : Mode → List (List ℕ × Single Definition) → List TypeOffer → Type 0
Offered mode records os = AreOffered {K = List ℕ} {C = Unit {0}} {V = Definition} mode single_form records os

pub said_given : {X : Type 0} (items : X → List (List ℕ × Single Definition)) (r : Result X Fault) (mode : Mode) (names : List (List ℕ)) (name : Name) (fields same : List Field) (o : Option (Name × List Field)) → Some (name, fields) ≡ o → same ≡ fields
    → IfOk r (λ x. Offered mode (items x) (type_offer mode name.bytes (definition_of (sayings_of names same)) ∷ [])) → IfOk r (λ x. Offered mode (items x) (said_offers names mode o))
said_given items r mode names name fields same o is alike given = subst (λ t. IfOk r (λ x. Offered mode (items x) (said_offers names mode t))) is (subst (λ fs. IfOk r (λ x. Offered mode (items x) (said_offers names mode (Some (name, fs))))) alike given)
