-- The machine values of a `WordsHandle`. Assumes `Logic`.
--     handle_out, handle_in    what it owns is its slot, and the allocator's handle
use Rattle.kx_slots.proofs.Walk.{◌≡◌, List, [], ◌∷◌, ◌++◌, refl, ap, ◌∙◌, Ura, RawPtr, layout, RattleType, Valss, Ptr, ptr_val, nothing, shape}
use Rattle.kx_slots.proofs.Walk.{within, Val, of_list, vstruct, Goal, Item, Seq, Step, ‵, ◌$◌, drop, feq_i, feq_l, fjoin, fpack, fpick, fsplit, move}
use Rattle.kx_slots.proofs.Walk.{step, Logic, handle_tells, Good, Option}
use Rattle.std.specs.contracts.alloc.Global as heap
use Rattle.kx_slots.proofs.RawBoxes.{two}
use Rattle.kx_slots.proofs.Slots.{Heap, allocator}
use Rattle.kx_slots.specs.Slot.{slot}
use Rattle.kx_sources.specs.contracts.words_handle.WordsHandle as handle
use Rattle.kx_sources.specs.contracts.words.Words as held

abbrev pub R : RattleType
R = held.the_row

abbrev pub Handle : RattleType
Handle = handle.the_row

module _ {M : Type 1} {𝓤 : Ura M} {𝓛 : Logic 𝓤} {K : Type 0} {Γ : List (Item 𝓤)} {G : Goal 𝓤 𝓛.H} where
  pub handle_out : K → (d : Handle.Denot) (vs : List Val)
      → ((h : Val) → vs ≡ two (ptr_val d.at) h ∷ [] → Good (layout Heap) h
      → Seq K 𝓛 (‵ (slot d.alloc R d.at d.value) ∷ ‵ (Heap.own_val d.alloc (h ∷ [])) ∷ Γ) G)
      → Seq K 𝓛 (‵ (Handle.own_val d vs) ∷ Γ) G
  handle_out t d vs next =
      fsplit t $ fpick t (λ parts. fsplit t $ feq_l t (λ whole. fsplit t $ feq_l t (λ pointer. fsplit t $
      handle_tells allocator t d.alloc parts.1.0 (λ h heap_handle fits.
      move t (1 ∷ []) $ drop t $ move t (1 ∷ []) $
      let spelt : List Val → List Val → List Val = λ ps hs. vstruct (of_list (ps ++ (hs ++ []))) ∷ [] in
      next h (whole ∙ ap (λ ps. spelt ps parts.1.0) pointer ∙ ap (spelt (ptr_val d.at ∷ [])) heap_handle) fits))))

  pub handle_in : K → (p : Ptr) (h : Val) (a : Heap.Denot) (x : Option R.Denot)
      → Step K 𝓛 (‵ (Handle.own_val (record { at = p; alloc = a; value = x }) (two (ptr_val p) h ∷ [])) ∷ Γ) G
      (‵ (slot a R p x) ∷ ‵ (Heap.own_val a (h ∷ [])) ∷ Γ) G
  handle_in t p h a x = step (λ rest.
      let pointer : List Val = ptr_val p ∷ [] in let whole : List Val = two (ptr_val p) h ∷ [] in
      nothing t $ move t (2 ∷ 0 ∷ []) $ fjoin t $ feq_i t (List Val) pointer pointer refl $ fjoin t $ feq_i t (List Val) whole whole refl $ fjoin t $
      fpack t (Valss (RawPtr ∷ heap.the_field.row ∷ [])) (within (shape handle.the_type) (p, (heap.the_field.into a, tt)) whole) (pointer, (h ∷ [], tt)) $ fjoin t $ rest)
