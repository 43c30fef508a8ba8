-- Records without groups, by what statements give them.
use Rattle.std.specs.Prelude.{Option}
use Rattle.kx_merge.specs.Records.{Form}
use Rattle.kx_merge.specs.declared.plain.Plain.{Plain}

abbrev pub plain_form : {C V X : Type 0} → (V → C → Option X) → Form (Plain V) C X
plain_form cell = record { cell = λ r c. cell r.values c; width = λ r g. 0 }
