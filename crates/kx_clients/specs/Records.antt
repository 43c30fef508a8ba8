-- What records of what is said of repeating hold.
use Rattle.std.specs.Prelude.{ℕ, Bool, false, Option, nat_eq, unwrap_or}
use Rattle.indexmap.specs.IndexMap.{IndexMap, get}
use Rattle.kx_compat.specs.SameMatch.{same_match}
use Rattle.kx_compat.specs.declared.interpretation_match.InterpretationMatch.{InterpretationMatch}
use Rattle.kx_merge.specs.Plain.{plain_form}
use Rattle.kx_merge.specs.Records.{cell_in}
use Rattle.kx_merge.specs.declared.plain.Plain.{Plain}
use Rattle.kx_clients.specs.declared.interpretation_repeats.SaidOfMatch.{SaidOfMatch}
use Rattle.kx_clients.specs.declared.key_repeat.KeyRepeat.{KeyRepeat}
use Rattle.kx_clients.specs.declared.key_repeats.SaidOfKey.{SaidOfKey}

-- of keys, by code

abbrev pub repeat_cell : SaidOfKey → Unit {0} → Option KeyRepeat
repeat_cell r c = r.said

abbrev pub repeat_recorded : {S : Type 0} → IndexMap ℕ (Plain SaidOfKey) S → ℕ → Option KeyRepeat
repeat_recorded records code = cell_in (plain_form repeat_cell) (get nat_eq records code) tt

-- of interpretations, by what they are told apart by

abbrev pub truth_cell : SaidOfMatch → Unit {0} → Option Bool
truth_cell r c = r.said

abbrev pub truth_recorded : {S : Type 0} → IndexMap InterpretationMatch (Plain SaidOfMatch) S → InterpretationMatch → Bool
truth_recorded records interpretation_match = unwrap_or (cell_in (plain_form truth_cell) (get same_match records interpretation_match) tt) false
