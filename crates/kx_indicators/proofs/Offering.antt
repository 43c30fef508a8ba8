-- The offers of a statement that is there.
use Rattle.std.proofs.Common.{◌≡◌, ℕ, List, Option, Result, IfOk, subst}
use Rattle.kx_lex.specs.declared.fault.Fault.{Fault}
use Rattle.kx_lex.specs.declared.name.Name.{Name}
use Rattle.kx_merge.specs.Plain.{plain_form}
use Rattle.kx_merge.specs.Records.{AreOffered}
use Rattle.kx_merge.specs.declared.plain.Plain.{Plain}
use Rattle.kx_tree.specs.declared.tree.Field.{Field}
use Rattle.kx_tree.specs.declared.tree.Mode.{Mode}
use Rattle.kx_indicators.specs.Given.{IndicatorMapValues}
use Rattle.kx_indicators.specs.Giving.{values_cell}
use Rattle.kx_indicators.specs.Meaning.{IndicatorMapOffer, said_offers}
use Rattle.kx_indicators.specs.declared.values.IndicatorMapField.{IndicatorMapField}
use Rattle.kx_indicators.specs.declared.values.IndicatorMapValue.{IndicatorMapValue}

abbrev Offered : Mode → List (ℕ × Plain IndicatorMapValues) → List IndicatorMapOffer → Type 0
Offered mode records os = AreOffered {K = ℕ} {C = IndicatorMapField} {V = IndicatorMapValue} {R = Plain IndicatorMapValues} mode (plain_form values_cell) records os

pub said_offered : {X : Type 0} (items : X → List (ℕ × Plain IndicatorMapValues)) (r : Result X Fault) (mode : Mode) (indicator_maps names : List (List ℕ)) (d : IndicatorMapValues) (i o : Option (Name × List Field)) → i ≡ o
    → IfOk r (λ x. Offered mode (items x) (said_offers indicator_maps names d mode i)) → IfOk r (λ x. Offered mode (items x) (said_offers indicator_maps names d mode o))
said_offered items r mode indicator_maps names d i o is given = subst (λ i. IfOk r (λ x. Offered mode (items x) (said_offers indicator_maps names d mode i))) is given
