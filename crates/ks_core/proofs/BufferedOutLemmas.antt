-- Texts written to a buffer in turn are one text written.
use Rattle.std.proofs.Common.{◌≡◌, ◌≢◌, ℕ, zero, suc, ◌+◌, Bool, true, false, List, [], ◌∷◌, ◌++◌, Option, Some, Result, Ok, Err, slice_get, take, refl, sym, ap, subst, ◌∙◌, add-one, append_assoc, append-nil, true≢false}
use Rattle.std.specs.List.{flat_map}
use Rattle.std.specs.Io.KnownBytes.{Appends}
use Rattle.ks_core.specs.Device.{Begins, Puts}
use Rattle.ks_core.specs.BufferedOut.{Gathered, Gathers, Writes, Finishes, nothing_gathered}
use Rattle.ks_core.proofs.DeviceLemmas.{Appends-nothing, Appends-then, Begins-longer, Begins-after}

pub Gathers-then : (a b c : Option (List ℕ)) (x y z s t : List ℕ) → Gathers a x b y s → Gathers b y c z t → Gathers a x c z (s ++ t)
Gathers-then a b c x y z s t h k =
    record {
      sent = h.sent ++ k.sent;
      put = Appends-then a b c h.sent k.sent h.put k.put;
      joined = sym (append_assoc x s t) ∙ ap (λ l. l ++ t) h.joined ∙ append_assoc h.sent y t ∙ ap (λ l. h.sent ++ l) k.joined ∙ sym (append_assoc h.sent k.sent z);
    }

module _ {D : Type 0} (written : D → Option (List ℕ)) (failures : D → ℕ) where
  -- nothing is written
  pub writes_nothing : (d : D) (p : Gathered) → Writes written failures d p d p []
  writes_nothing d p =
      record {
        still = λ _. (refl, refl);
        gathers = λ valid. (valid, refl, record { sent = []; put = Appends-nothing (written d); joined = append-nil p.waiting });
        begins = λ valid failed. absurd (true≢false (sym failed ∙ valid));
      }

  -- one text is written, and then another
  pub writes_then : (d e f : D) (p q r : Gathered) (s t : List ℕ) → Writes written failures d p e q s → Writes written failures e q f r t → Writes written failures d p f r (s ++ t)
  writes_then d e f p q r s t h k =
      record {
        still = λ failed.
            let first = h.still failed in
            let second = k.still (ap (λ (g : Gathered). g.failed) first.0 ∙ failed) in (second.0 ∙ first.0, second.1 ∙ first.1);
        gathers = λ valid.
            let second = k.gathers valid in
            let first = h.gathers second.0 in (
              first.0,
              second.1 ∙ first.1,
              Gathers-then (written d) (written e) (written f) p.waiting q.waiting r.waiting s t first.2 second.2,
            );
        begins = λ valid failed. by (q.failed) refl valid failed;
      }
    where
      by : (b : Bool) → q.failed ≡ b → p.failed ≡ false → r.failed ≡ true → (failures f ≢ failures d) × Begins (written d) (written f) (p.waiting ++ (s ++ t))
      by true q_failed valid failed =
          let first = h.begins valid q_failed in
          let second = k.still q_failed in
          subst (λ g. (failures g ≢ failures d) × Begins (written d) (written g) (p.waiting ++ (s ++ t))) (sym second.1)
          (first.0, rw (← append_assoc p.waiting s t) (Begins-longer (written d) (written e) (p.waiting ++ s) t first.1))
      by false q_valid valid failed =
          let first = h.gathers q_valid in
          let second = k.begins q_valid failed in (
            λ same. second.0 (same ∙ sym first.1),
            subst (Begins (written d) (written f)) (sym (append_assoc first.2.sent q.waiting t) ∙ ap (λ l. l ++ t) (sym first.2.joined) ∙ append_assoc p.waiting s t)
                (Begins-after (written d) (written e) (written f) first.2.sent (q.waiting ++ t) first.2.put second.1),
          )

  -- a piece joins what waits, and the device is left alone
  pub writes_gathered : (d : D) (p q : Gathered) (piece : List ℕ) → (p.failed ≡ true → q ≡ p) → (p.failed ≡ false → q ≡ record { waiting = p.waiting ++ piece; failed = false }) → Writes written failures d p d q piece
  writes_gathered d p q piece still gathered =
      record {
        still = λ failed. (still failed, refl);
        gathers = λ valid. by (p.failed) refl valid;
        begins = λ valid failed. absurd (true≢false (sym failed ∙ ap (λ (g : Gathered). g.failed) (gathered valid)));
      }
    where
      by : (b : Bool) → p.failed ≡ b → q.failed ≡ false → (p.failed ≡ false) × (failures d ≡ failures d) × Gathers (written d) p.waiting (written d) q.waiting piece
      by true failed valid = absurd (true≢false (sym failed ∙ ap (λ (g : Gathered). g.failed) (sym (still failed)) ∙ valid))
      by false valid q_valid = (valid, refl, record { sent = []; put = Appends-nothing (written d); joined = sym (ap (λ (g : Gathered). g.waiting) (gathered valid)) })

  -- a text that is written to a new buffer, which is then done with, is put
  pub writes_finish : {A E : Type 0} (d e f : D) (q : Gathered) (r : Result A E) (text : List ℕ) → Writes written failures d nothing_gathered e q text → Finishes written failures e q f r → Puts written failures d f r text
  writes_finish {A} {E} d e f q (Ok x) text h k =
      let valid = k.all in
      let told = h.gathers valid.0 in
      record {
        all = subst (Appends (written d) (written f)) (sym told.2.joined) (Appends-then (written d) (written e) (written f) told.2.sent q.waiting told.2.put valid.2);
        begun = tt;
        counted = valid.1 ∙ told.1;
      }
  writes_finish {A} {E} d e f q (Err x) text h k = by (q.failed) refl
    where
      by : (b : Bool) → q.failed ≡ b → Puts {A = A} {E = E} written failures d f (Err x) text
      by true failed =
          let told = h.begins refl failed in
          let same = k.still failed in
          record {
            all = tt;
            begun = subst (λ g. Begins (written d) (written g) text) (sym same) told.1;
            counted = subst (λ g. failures g ≢ failures d) (sym same) told.0;
          }
      by false valid =
          let told = h.gathers valid in
          let broke = k.begun valid in
          record {
            all = tt;
            begun = subst (Begins (written d) (written f)) (sym told.2.joined) (Begins-after (written d) (written e) (written f) told.2.sent q.waiting told.2.put broke.1);
            counted = λ same. broke.0 (same ∙ sym told.1);
          }

flat_map-take : {X : Type 0} (f : X → List ℕ) (xs : List X) (i : ℕ) (x : X) → slice_get xs i ≡ Some x → flat_map f (take (suc i) xs) ≡ flat_map f (take i xs) ++ f x
flat_map-take f [] i x at = cc
flat_map-take f (y ∷ ys) zero x at = let same : y ≡ x = cc in rw same (append-nil (f x))
flat_map-take f (y ∷ ys) (suc i) x at = ap (λ t. f y ++ t) (flat_map-take f ys i x at) ∙ sym (append_assoc (f y) (flat_map f (take i ys)) (f x))

-- of a list's texts, one more is written
pub writes_more : {X D : Type 0} (written : D → Option (List ℕ)) (failures : D → ℕ) (d e f : D) (p q r : Gathered) (text_of : X → List ℕ) (xs : List X) (i : ℕ) (x : X) → slice_get xs i ≡ Some x
    → Writes written failures d p e q (flat_map text_of (take i xs)) → Writes written failures e q f r (text_of x) → Writes written failures d p f r (flat_map text_of (take (i + 1) xs))
writes_more written failures d e f p q r text_of xs i x at so_far here =
    subst (λ t. Writes written failures d p f r t) (sym (ap (λ n. flat_map text_of (take n xs)) (add-one i) ∙ flat_map-take text_of xs i x at))
    (writes_then written failures d e f p q r (flat_map text_of (take i xs)) (text_of x) so_far here)
