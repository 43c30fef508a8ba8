-- What is given in a list, each once.
use Rattle.std.specs.Prelude.{Bool, List, [], fold, Option}
use Rattle.std.specs.Option.{option_map_or}
use Rattle.indexmap.specs.IndexSet.{insert_key}

-- what is given, each once, in the order of first appearance
abbrev pub each_once : {X K : Type 0} → (K → K → Bool) → (X → Option K) → List X → List K
each_once eq f xs = fold (λ ks x. option_map_or (insert_key eq ks) (f x) ks) [] xs

-- ---- Under a name, for clauses and proofs

module _ {X K : Type 0} (eq : K → K → Bool) (f : X → Option K) where
  abbrev pub with_key : List K → Option K → List K
  with_key ks k = option_map_or (insert_key eq ks) k ks
