-- One push after another: a key grows before it is followed by another.
use Rattle.std.specs.Prelude.{List, [], ◌∷◌, ◌++◌, ◌≡◌}
use Rattle.std.proofs.Common.{ap, refl}
use Rattle.kx_builder.specs.Pushes.{change_last, key_with_group, with_group, with_key}
use Rattle.kx_builder.specs.Resolved.{Resolved, ResolvedGroup, ResolvedKey}

pub change_end : {X : Type 0} (change : X → X) (xs : List X) (x : X) → change_last change (xs ++ x ∷ []) ≡ xs ++ change x ∷ []
change_end change [] x = refl
change_end change (y ∷ []) x = refl
change_end change (y ∷ z ∷ zs) x = ap (λ ys. y ∷ ys) (change_end change (z ∷ zs) x)

-- a key, and then a group of it, are the key with the group
pub key_then_group : (r : Resolved) (k : ResolvedKey) (g : ResolvedGroup) → with_group (with_key r k) g ≡ with_key r (key_with_group g k)
key_then_group r k g = λ i. record r { keys = change_end (key_with_group g) r.keys k i }
