-- An Err that is answered for another is no Ok.
use Rattle.std.proofs.Common.{◌≡◌, Result, Ok, Err, None, refl}
use Rattle.std.specs.Result.{IsErrAnd, result_ok}

pub no_ok : {X F : Type 0} (r : Result X F) (e : F) → IsErrAnd r (λ y. y ≡ e) → result_ok r ≡ None
no_ok (Ok x) e is = absurd is
no_ok (Err y) e is = refl
