-- What a record of a virtual modifier holds.
use Rattle.std.specs.Prelude.{ℕ, nat_eq, unwrap_or}
use Rattle.indexmap.specs.IndexMap.{IndexMap, get}
use Rattle.kx_merge.specs.Records.{cell_in}
use Rattle.kx_merge.specs.Single.{single_form}
use Rattle.kx_merge.specs.declared.single.Single.{Single}

-- the mask that records by number hold; none where they hold none
abbrev pub mask_recorded : {S : Type 0} → IndexMap ℕ (Single ℕ) S → ℕ → ℕ
mask_recorded records number = unwrap_or (cell_in single_form (get nat_eq records number) tt) 0
