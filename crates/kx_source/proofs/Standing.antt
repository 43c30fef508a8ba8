-- What is known of tables over any library that has the same bodies is known of that for which a library stands.
use Rattle.std.proofs.Common.{Result, Ok, Err, IfOk, IfErr, OnOk}

module _ {A E : Type 0} where
  pub on_ok : {P : Type 0} (r : Result A E) → P → OnOk r P
  on_ok (Ok x) p = p
  on_ok (Err e) p = tt

  pub on_ok_map : {P Q : Type 0} (r : Result A E) → (P → Q) → OnOk r P → OnOk r Q
  on_ok_map (Ok x) f p = f p
  on_ok_map (Err e) f p = tt

  pub if_ok_map : {P Q : A → Type 0} (r : Result A E) → ((x : A) → P x → Q x) → IfOk r P → IfOk r Q
  if_ok_map (Ok x) f p = f x p
  if_ok_map (Err e) f p = tt

  pub if_err_map : {P Q : E → Type 0} (r : Result A E) → ((e : E) → P e → Q e) → IfErr r P → IfErr r Q
  if_err_map (Ok x) f p = tt
  if_err_map (Err e) f p = f e p
