-- The machine values of a `RawBox`: a pointer to a block, and the allocator's handle. Assumes `Logic`.
--     two                  the machine value of a struct of two fields
--     raw_fits             it has the struct's type
--     at_block             what a box owns lies in a block
--     raw_out, raw_in      what a `RawBox` owns is what the box owns, and the handle
use Rattle.kx_slots.proofs.Walk.{◌≡◌, ℕ, List, [], ◌∷◌, ◌++◌, refl, ap, ◌∙◌, true, ◌&&◌, T, Ura, fst∗, never, RawPtr, lone, layout, Laws, RattleType}
use Rattle.kx_slots.proofs.Walk.{Valss, Ptr, block_ptr, in_a_block, null_ptr, ptr_val, nothing, shape, within, impl, dnil, tnil, Val, WT, has_ty}
use Rattle.kx_slots.proofs.Walk.{of_list, vcons, vnil, vptr, vstruct, Goal, Item, Seq, Step, ‵, ◌$◌, drop, feq_i, feq_l, fjoin, fpack, fpick, fsplit}
use Rattle.kx_slots.proofs.Walk.{move, step, Logic, sem, Al, handle_tells, Good, Ghosts, and_tt, box_owns}
use mir.Raw.{raw as bare}
use Rattle.kx_slots.specs.contracts.raw_box.RawBox as raw_box

abbrev pub two : Val → Val → Val
two v w = vstruct (vcons v (vcons w vnil))

-- R is the row of what the box has, A the allocator's
module _ (R A : RattleType) (laws : Laws A) (g : Ghosts A.Denot) where
  abbrev pub Raw : RattleType
  Raw = raw_box.the_row R A g

  abbrev pub boxed : A.Denot → Ptr → R.Denot → base.Fml.Fml
  boxed a = box_owns (g.dealloc_token a) R

  abbrev allocator : Al
  allocator = record { row = A; laws = laws; g = g; d = impl [] tnil dnil; drops = impl [] tnil dnil }

  pub raw_fits : (b o : ℕ) (h : Val) → Good (layout A) h → T (has_ty (layout A) h && true) × WT (two (vptr b o) h)
  raw_fits b o h fits = (and_tt (has_ty (layout A) h) fits.0, (tt, (fits.1, tt)))

  module _ {M : Type 1} {𝓤 : Ura M} {𝓛 : Logic 𝓤} {K : Type 0} {Γ : List (Item 𝓤)} {G : Goal 𝓤 𝓛.H} where
    pub at_block : K → (a : A.Denot) (p : Ptr) (x : R.Denot)
        → ((b o : ℕ) → p ≡ block_ptr b o → Seq K 𝓛 (‵ (boxed a (block_ptr b o) x) ∷ Γ) G)
        → Seq K 𝓛 (‵ (boxed a p x) ∷ Γ) G
    at_block t a p x next = in_a_block t p (λ q. boxed a q x) (fst∗ 𝓤 (never 𝓤) (sem 𝓛 (g.dealloc_token a (bare (lone R.mir)) null_ptr))) next

  module _ {M : Type 1} {𝓤 : Ura M} {𝓛 : Logic 𝓤} {K : Type 0} {Γ : List (Item 𝓤)} {G : Goal 𝓤 𝓛.H} where
    pub raw_out : K → (d : Raw.Denot) (vs : List Val)
        → ((b o : ℕ) (h : Val) → d.at ≡ block_ptr b o → vs ≡ two (vptr b o) h ∷ [] → Good (layout A) h
        → Seq K 𝓛 (‵ (boxed d.alloc (block_ptr b o) d.value) ∷ ‵ (A.own_val d.alloc (h ∷ [])) ∷ Γ) G)
        → Seq K 𝓛 (‵ (Raw.own_val d vs) ∷ Γ) G
    raw_out t d vs next =
        fsplit t $ fpick t (λ parts. fsplit t $ feq_l t (λ whole. fsplit t $ feq_l t (λ first. fsplit t $
        handle_tells allocator t d.alloc parts.1.0 (λ h second fits.
        move t (1 ∷ []) $ drop t $ move t (1 ∷ []) $
        at_block t d.alloc d.at d.value (λ b o is.
        let made : List Val → List Val → List Val = λ ps hs. vstruct (of_list (ps ++ (hs ++ []))) ∷ [] in
        let spelled : vs ≡ two (vptr b o) h ∷ [] = whole ∙ ap (λ ps. made ps parts.1.0) (first ∙ ap (λ p. ptr_val p ∷ []) is) ∙ ap (made (vptr b o ∷ [])) second in
        next b o h is spelled fits)))))

    pub raw_in : K → (b o : ℕ) (h : Val) (a : A.Denot) (x : R.Denot)
        → Step K 𝓛 (‵ (Raw.own_val (record { at = block_ptr b o; alloc = a; value = x }) (two (vptr b o) h ∷ [])) ∷ Γ) G
        (‵ (boxed a (block_ptr b o) x) ∷ ‵ (A.own_val a (h ∷ [])) ∷ Γ) G
    raw_in t b o h a x = step (λ rest.
        let pointer : List Val = vptr b o ∷ [] in let whole : List Val = two (vptr b o) h ∷ [] in
        nothing t $ move t (2 ∷ 0 ∷ []) $ fjoin t $ feq_i t (List Val) pointer pointer refl $ fjoin t $ feq_i t (List Val) whole whole refl $ fjoin t $
        fpack t (Valss (RawPtr ∷ A ∷ [])) (within (shape (raw_box.the_type R A g)) (block_ptr b o, (a, tt)) whole) (pointer, (h ∷ [], tt)) $ fjoin t $ rest)
