-- The keysyms of a level as they are kept: one, or those of braces.
use Rattle.std.specs.Prelude.{ℕ, List, [], ◌∷◌}
use Rattle.kx_symbols.specs.declared.keysyms.KeptKeysyms.{KeptKeysyms}
use Rattle.kx_symbols.specs.declared.keysyms.KeptKeysyms.TheVariants.{One, Several}

abbrev pub kept_keysyms : KeptKeysyms → List ℕ
kept_keysyms (One keysym) = keysym ∷ []
kept_keysyms (Several keysyms) = keysyms.value
