-- Bytes that come one at a time.
use Rattle.std.proofs.Common.{◌≡◌, ℕ, ◌+◌, List, [], ◌++◌, Option, None, Some, OnOk, Result, Ok, Err, inl, inr, length, refl, sym, ap, ◌∙◌, arith, append_assoc}
use Rattle.std.proofs.lemmas.List.{length-append}
use Rattle.std.specs.Io.KnownBytes.{Consumes, IsAtEnd}
use Rattle.kx_lines.specs.EventLines.{Kept}
use Rattle.kx_lines.specs.Input.{Came, FailsBehind, IsOver, IsWithin, Waiting, budget, coming}
use Rattle.kx_lines.specs.LineParts.{MovesPart}

Consumes-nothing : (a : Option (List ℕ)) → Consumes a a []
Consumes-nothing None = tt
Consumes-nothing (Some xs) = refl

Consumes-then : (a b c : Option (List ℕ)) (s t : List ℕ) → Consumes a b s → Consumes b c t → Consumes a c (s ++ t)
Consumes-then None b c s t h k = tt
Consumes-then (Some xs) None c s t h k = absurd h
Consumes-then (Some xs) (Some ys) None s t h k = k
Consumes-then (Some xs) (Some ys) (Some zs) s t h k = h ∙ ap (λ l. s ++ l) k ∙ sym (append_assoc s t zs)

pub came_nothing : (a : Option (List ℕ)) (n : ℕ) → Came a n a n []
came_nothing a n = record { consumed = Consumes-nothing a; spent = omega arith }

pub came_more : (a b c : Option (List ℕ)) (k m n : ℕ) (s t : List ℕ) → Came a k b m s → Came b m c n t → Came a k c n (s ++ t)
came_more a b c k m n s t h g =
    record {
      consumed = Consumes-then a b c s t h.consumed g.consumed;
      spent = omega (arith, h.spent, g.spent, length-append s t);
    }

over_from : (a b : Option (List ℕ)) (m n : ℕ) (bytes : List ℕ) → Came a m b n bytes → IsOver b n → IsOver a m
over_from None b m n bytes came over = tt
over_from (Some xs) None m n bytes came over = absurd came.consumed
over_from (Some xs) (Some ys) m n bytes came over = omega (arith, over, came.spent, ap length came.consumed, length-append bytes ys)

-- bytes that waited are gone
pub came_moved : (left : Option (List ℕ)) (w v : Waiting) (kept longer : Kept) (h : MovesPart w v kept longer) → Came (coming w left) (budget w) (coming v left) (budget v) h.part
came_moved left w v kept longer h =
    record { consumed = by left; spent = omega (arith, h.allowed, ap length h.moved, length-append h.part v.bytes) }
  where
    by : (left : Option (List ℕ)) → Consumes (coming w left) (coming v left) h.part
    by None = tt
    by (Some rest) = ap (λ bytes. bytes ++ rest) h.moved ∙ append_assoc h.part v.bytes rest

-- a reader that fails later fails
pub fails_from : {R : Type 0} (left : R → Option (List ℕ)) (taken failures : R → ℕ) (f g h : R) (w v : Waiting) (bytes : List ℕ) → failures g ≡ failures f → taken g + v.allowance ≡ taken f + w.allowance
    → Came (coming w (left f)) (budget w) (coming v (left g)) (budget v) bytes → FailsBehind left taken failures v g h → FailsBehind left taken failures w f h
fails_from left taken failures f g h w v bytes same counted came fails =
    elim fails [
      | inl changed ↦ inl (λ still. changed (still ∙ sym same))
      | inr over ↦ inr (omega (arith, counted, over.0), over_from (coming w (left f)) (coming v (left g)) (budget w) (budget v) bytes came over.1)
    ]

-- a reader that is at its end once bytes came has no more than these
pub within_at_end : (a b : Option (List ℕ)) (m n : ℕ) (bytes : List ℕ) → Came a m b n bytes → IsAtEnd b → IsWithin a m
within_at_end None b m n bytes came end = tt
within_at_end (Some xs) None m n bytes came end = absurd came.consumed
within_at_end (Some xs) (Some ys) m n bytes came end = omega (arith, came.spent, ap length came.consumed, length-append bytes ys, ap length end)

-- what is left once bytes came is within what may come, so all is
pub within_from : (a b : Option (List ℕ)) (m n : ℕ) (bytes : List ℕ) → Came a m b n bytes → IsWithin b n → IsWithin a m
within_from None b m n bytes came few = tt
within_from (Some xs) None m n bytes came few = absurd came.consumed
within_from (Some xs) (Some ys) m n bytes came few = omega (arith, few, came.spent, ap length came.consumed, length-append bytes ys)

-- what holds whatever is answered holds of an Ok
pub within_whatever : {A E P : Type 0} (r : Result A E) → P → OnOk r P
within_whatever (Ok x) p = p
within_whatever (Err e) p = tt
