-- Known bytes that grow in steps.
use Rattle.std.proofs.Common.{◌≡◌, ℕ, List, [], ◌++◌, Option, None, Some, take, drop, refl, sym, ap, ◌∙◌, append_assoc, append-nil, take-append-drop}
use Rattle.std.specs.Io.KnownBytes.{Appends}
use Rattle.ks_core.specs.Device.{Begins}

pub Appends-nothing : (a : Option (List ℕ)) → Appends a a []
Appends-nothing None = tt
Appends-nothing (Some xs) = sym (append-nil xs)

pub Appends-then : (a b c : Option (List ℕ)) (s t : List ℕ) → Appends a b s → Appends b c t → Appends a c (s ++ t)
Appends-then None b c s t h k = tt
Appends-then (Some xs) None c s t h k = absurd h
Appends-then (Some xs) (Some ys) None s t h k = k
Appends-then (Some xs) (Some ys) (Some zs) s t h k = k ∙ ap (λ l. l ++ t) h ∙ append_assoc xs s t

-- a beginning of the text is put, and the rest is left
pub record PutSoFar (old new : Option (List ℕ)) (text rest : List ℕ) : Type 0 where
  pub part : List ℕ
  pub parted : text ≡ part ++ rest
  pub put : Appends old new part

pub PutSoFar-nothing : (a : Option (List ℕ)) (text : List ℕ) → PutSoFar a a text text
PutSoFar-nothing a text = record { part = []; parted = refl; put = Appends-nothing a }

-- n more bytes of what was left are put
pub PutSoFar-more : (a b c : Option (List ℕ)) (text rest : List ℕ) (n : ℕ) → PutSoFar a b text rest → Appends b c (take n rest) → PutSoFar a c text (drop n rest)
PutSoFar-more a b c text rest n h put =
    record {
      part = h.part ++ take n rest;
      parted = h.parted ∙ ap (λ l. h.part ++ l) (sym (take-append-drop n rest)) ∙ sym (append_assoc h.part (take n rest) (drop n rest));
      put = Appends-then a b c h.part (take n rest) h.put put;
    }

-- a beginning of a text is one of a longer text
pub Begins-longer : (a b : Option (List ℕ)) (s t : List ℕ) → Begins a b s → Begins a b (s ++ t)
Begins-longer a b s t h =
    record { part = h.part; rest = h.rest ++ t; parted = ap (λ l. l ++ t) h.parted ∙ append_assoc h.part h.rest t; put = h.put }

-- a beginning that is put after another text
pub Begins-after : (a b c : Option (List ℕ)) (s t : List ℕ) → Appends a b s → Begins b c t → Begins a c (s ++ t)
Begins-after a b c s t h k =
    record {
      part = s ++ k.part;
      rest = k.rest;
      parted = ap (λ l. s ++ l) k.parted ∙ sym (append_assoc s k.part k.rest);
      put = Appends-then a b c s k.part h k.put;
    }
