-- A fault of a part is one of the whole.
use Rattle.std.proofs.Common.{◌≡◌, ◌+◌, List, [], ◌∷◌, ◌++◌, Contains, sym, subst}
use Rattle.std.proofs.lemmas.List.Elements.{Contains-append_left}
use Rattle.kx_merge.proofs.Going.{blamed}

pub blamed_back : {F : Type 0} (m : F) (fs gs : List F) (e : F) → fs ≡ [] → Contains gs e → Contains (m ∷ (fs ++ gs)) e
blamed_back m fs gs e none has = subst (λ hs. Contains (m ∷ (hs ++ gs)) e) (sym none) (blamed m gs e has)

pub blamed_second : {F : Type 0} (m : F) (fs gs hs : List F) (e : F) → fs ≡ [] → Contains (m ∷ gs) e → Contains (m ∷ (fs ++ (gs ++ hs))) e
blamed_second m fs gs hs e none has = subst (λ xs. Contains (m ∷ (xs ++ (gs ++ hs))) e) (sym none) (Contains-append_left (m ∷ gs) hs e has)
