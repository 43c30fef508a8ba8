-- How the modifiers of an interpretation go together with those of a key (the X Keyboard Extension's compatibility map).
use Rattle.std.specs.Prelude.{ℕ, ◌==◌, ◌||◌, not, Bool}
use Rattle.std.specs.Int.RustNames.{bit_and}
use Rattle.kx_mods.specs.declared.condition.Condition.{Condition}
use Rattle.kx_mods.specs.declared.condition.Condition.TheVariants.{Exactly, AllOf, NoneOf, AnyOf, AnyOfOrNone}

-- whether an interpretation's modifiers, a mask, go together with those of a key, a mask
abbrev pub holds : Condition → ℕ → ℕ → Bool
holds Exactly wanted key = wanted == key
holds AllOf wanted key = bit_and wanted key == wanted
holds NoneOf wanted key = bit_and wanted key == 0
holds AnyOf wanted key = not (bit_and wanted key == 0)
holds AnyOfOrNone wanted key = key == 0 || not (bit_and wanted key == 0)
