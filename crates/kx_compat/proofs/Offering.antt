-- The offers of a statement that is there.
use Rattle.std.proofs.Common.{◌≡◌, ℕ, List, Option, Result, IfOk, subst}
use Rattle.ks_core.specs.Table.{KeysymTable}
use Rattle.kx_lex.specs.declared.fault.Fault.{Fault}
use Rattle.kx_merge.specs.Plain.{plain_form}
use Rattle.kx_merge.specs.Records.{AreOffered}
use Rattle.kx_merge.specs.declared.plain.Plain.{Plain}
use Rattle.kx_tree.specs.declared.tree.Mode.{Mode}
use Rattle.kx_compat.specs.declared.interpretation_match.InterpretationMatch.{InterpretationMatch}
use Rattle.kx_compat.specs.Given.{FieldValues}
use Rattle.kx_compat.specs.Giving.{values_cell}
use Rattle.kx_compat.specs.Meaning.{InterpretationOffer, said_offers}
use Rattle.kx_compat.specs.Sections.{Interpreted}
use Rattle.kx_compat.specs.declared.defaults.CompatDefaults.{CompatDefaults}
use Rattle.kx_compat.specs.declared.values.Cell.{Cell}
use Rattle.kx_compat.specs.declared.values.FieldValue.{FieldValue}

abbrev Offered : Mode → List (InterpretationMatch × Plain FieldValues) → List InterpretationOffer → Type 0
Offered mode records os = AreOffered {K = InterpretationMatch} {C = Cell} {V = FieldValue} {R = Plain FieldValues} mode (plain_form values_cell) records os

pub said_offered : {X : Type 0} (items : X → List (InterpretationMatch × Plain FieldValues)) (r : Result X Fault) (mode : Mode) (table : KeysymTable) (names : List (List ℕ)) (d : CompatDefaults) (i o : Option Interpreted) → i ≡ o
    → IfOk r (λ x. Offered mode (items x) (said_offers table names d mode i)) → IfOk r (λ x. Offered mode (items x) (said_offers table names d mode o))
said_offered items r mode table names d i o is given = subst (λ i. IfOk r (λ x. Offered mode (items x) (said_offers table names d mode i))) is given
