-- What the last of several gives.
use Rattle.std.specs.Prelude.{List, fold, Option}
use Rattle.std.specs.Option.{option_or}

-- of those that give anything; where none does, what there was before them
abbrev pub last_given : {X Y : Type 0} → (X → Option Y) → Option Y → List X → Option Y
last_given gives before xs = fold (λ last x. option_or (gives x) last) before xs
