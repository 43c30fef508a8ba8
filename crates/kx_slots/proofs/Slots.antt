-- What a handle of one pointer owns, for any type of what lies there. Assumes `Logic`.
--     boxed          what a box of the C library's heap owns, at a pointer
--     either_slot    a slot is empty at null, or has a block's value
--     null_fits      a handle at null has its type
use Rattle.kx_slots.proofs.Walk.{◌≡◌, ℕ, List, [], ◌∷◌, refl, true, ◌&&◌, T, lit<, Ura, ent, fst∗, guard, guard_i, never, snd∗, via, full_share}
use Rattle.kx_slots.proofs.Walk.{fact_use, lone, layout, RattleType, Ptr, Testable, block_ptr, in_a_block, lies_at, null_ptr, ptr_val, impl, dnil}
use Rattle.kx_slots.proofs.Walk.{tnil, Val, WT, has_ty, Goal, Item, Seq, ‵, ◌$◌, feq_l, given, learn, use1, Logic, sem, Al, Good}
use Rattle.kx_slots.proofs.Walk.{dealloc_token-Testable, ghosts, Global, Option, and_tt, box_owns}
use mir.Raw.{raw as bare}
use Rattle.std.proofs.alloc.Global.TheLaws as heap_laws
use Rattle.std.specs.contracts.alloc.Global as heap
use Rattle.std.specs.declared.option.Option.TheVariants.{None, Some}
use Rattle.kx_slots.specs.Slot.{slot}
use Rattle.kx_slots.proofs.RawBoxes.{two}

abbrev pub Heap : RattleType
Heap = heap.the_row

abbrev pub allocator : Al
allocator = record { row = Heap; laws = heap_laws.the_row_laws; g = ghosts; d = impl [] tnil dnil; drops = impl [] tnil dnil }

pub null_fits : (h : Val) → Good (layout Heap) h → T (has_ty (layout Heap) h && true) × WT (two (ptr_val null_ptr) h)
null_fits h fits = (and_tt (has_ty (layout Heap) h) fits.0, (record { fits = lit< tt }, (fits.1, tt)))

module _ (R : RattleType) where
  abbrev pub boxed : Global → Ptr → R.Denot → base.Fml.Fml
  boxed a = box_owns (ghosts.dealloc_token a) R

  module _ {M : Type 1} {𝓤 : Ura M} (𝓛 : Logic 𝓤) where
    -- the right to free a block tells that its pointer may be compared with null
    tested : (a : Global) (p : Ptr) (x : R.Denot) → ent 𝓤 (sem 𝓛 (boxed a p x)) (guard 𝓤 (Testable p) (sem 𝓛 (boxed a p x)))
    tested a p x =
        let token = sem 𝓛 (ghosts.dealloc_token a (bare (lone R.mir)) p) in let value = sem 𝓛 (lies_at R full_share p x) in
        fact_use 𝓤 (Testable p) (via 𝓤 _ (snd∗ 𝓤 value token) (dealloc_token-Testable 𝓛 a (bare (lone R.mir)) p)) (guard_i 𝓤 (Testable p) (sem 𝓛 (boxed a p x)))

  module _ {M : Type 1} {𝓤 : Ura M} {𝓛 : Logic 𝓤} {K : Type 0} {Γ : List (Item 𝓤)} {G : Goal 𝓤 𝓛.H} where
    pub either_slot : K → (a : Global) (p : Ptr) (v : Option R.Denot)
        → (p ≡ null_ptr → v ≡ None → Seq K 𝓛 Γ G)
        → ((b o : ℕ) (x : R.Denot) → p ≡ block_ptr b o → v ≡ Some x → Testable (block_ptr b o) → Seq K 𝓛 (‵ (boxed a (block_ptr b o) x) ∷ Γ) G)
        → Seq K 𝓛 (‵ (slot a R p v) ∷ Γ) G
    either_slot t a p None none one = feq_l t (λ e. none e refl)
    either_slot t a p (Some x) none one =
        in_a_block t p (λ q. boxed a q x) (fst∗ 𝓤 (never 𝓤) (sem 𝓛 (ghosts.dealloc_token a (bare (lone R.mir)) null_ptr))) (λ b o e.
        use1 𝓛 (given (Testable (block_ptr b o)) (‵ (boxed a (block_ptr b o) x))) (tested 𝓛 a (block_ptr b o) x) $ learn t (λ u. one b o x e refl u))
