use Rattle.std.proofs.Common.{◌≡◌, ℕ, List, [], ◌∷◌, length, refl, ◌∙◌, arith}
use Rattle.std.proofs.lemmas.Bool.Decides.{nat_tests}
use Rattle.kx_mods.specs.Mods.{mask}
use Rattle.kx_text.specs.Typing.{joined, text_of, text_of_each}
use Rattle.kx_text.proofs.typing.text_of.Goals as goal
use Rattle.kx_text.proofs.typing.text_of.Goals.{in_default-via-then-keysyms-lt1, in_default-via-else-keysyms-lt1+else-keysyms-lt2}

of_several : (mods : ℕ) (keysyms : List ℕ) → (length keysyms ≡ 1 → ⊥) → text_of_each keysyms ≡ text_of mods keysyms
unfolding joined
of_several mods [] several = refl
of_several mods (keysym ∷ []) several = absurd (several refl)
of_several mods (first ∷ second ∷ keysyms) several = refl

pub returns-in_default : goal.returns-in_default
returns-in_default c =
    c.text_of_each.ensures ∙ of_several (mask c.args.unconsumed) c.args.keysyms.now (λ one. elim c.in_default.branch [
      | in_default-via-then-keysyms-lt1 w ↦ grind (arith, nat_tests, one)
      | in_default-via-else-keysyms-lt1+else-keysyms-lt2 w ↦ grind (arith, nat_tests, one)
    ])
