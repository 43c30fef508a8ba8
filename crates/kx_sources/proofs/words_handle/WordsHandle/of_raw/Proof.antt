-- `of_raw` keeps what the box owned, at the same pointer.
use Rattle.kx_slots.proofs.Walk.{◌≡◌, List, [], ◌∷◌, ◌++◌, refl, sym, subst, ftrue, SProp, emp, ent, id⊢, fact, fact_i, tables, yes, owns, block_ptr}
use Rattle.kx_slots.proofs.Walk.{plain, types_at, nothing, Goes-dropped, Stays, stay_dropped, walk_of, Val, vptr, WpFn, alloc_all, free_all, get}
use Rattle.kx_slots.proofs.Walk.{get_in, look_at, pass_all, sets, ‵, raw, ◌⊛◌, ◌$◌, ◌∵◌, !, by, fjoin, fsplit, keep, move, qed, split, suffices, use0}
use Rattle.kx_slots.proofs.Walk.{agg, sub, whole, and_then, enter, fld, no_more, of_opd, returns, stop, leaves, proved_at, ghosts}
use Rattle.std.proofs.alloc.Global.TheLaws as heap_laws
use Rattle.std.specs.declared.option.Option.TheVariants.{Some}
use Rattle.kx_slots.proofs.RawBoxes.{Raw, raw_fits, raw_out, two}
use Rattle.kx_slots.proofs.Slots.{Heap}
use Rattle.kx_sources.proofs.WordsHandleValues.{R, handle_in}
use Rattle.kx_sources.proofs.words_handle.WordsHandle.of_raw.Code as code
use Rattle.kx_sources.proofs.words_handle.WordsHandle.of_raw.Statement.{statement}
use Rattle.kx_sources.specs.contracts.words_handle.WordsHandle.of_raw.{clauses, ended}
use Rattle.kx_sources.specs.contracts.words_handle.WordsHandle.of_raw.Key.{name as #of_raw}

pub of_raw_spec : {M : Type 1} → statement M
of_raw_spec 𝓤 𝓛 𝓜 𝓡 wired =
    let 𝓣 = tables 𝓤 𝓛.H 𝓜 𝓡 𝓡.env in let fn = code.function in let c = clauses 𝓛 𝓜.mem 𝓡.returns in let laws = heap_laws.the_row_laws in
    let stays : Stays ended.signature.params ended.kept = (stay_dropped (plain (λ _. Raw R Heap laws ghosts)) yes, tt) in
    proved_at 𝓛 ended stays c 𝓜 𝓡 (Goes-dropped 𝓛 0 (plain (λ _. Raw R Heap laws ghosts)) yes (λ κs x f. refl), tt) #of_raw fn (code.unfolded 𝓤 𝓛.H 𝓜 𝓡 wired) (λ z are.
    let κs = z.0.0 in let given = z.0.3.0 in
    let Post : Val → SProp 𝓤 = (walk_of 𝓛 ended stays c).post z in
    let Run : List Val → SProp 𝓤 = λ ws. WpFn 𝓤 𝓛.H 𝓣.C 𝓣.Λ fn ws Post in
    qed 𝓛 ((‵ ftrue ⊛ ‵ (owns (types_at ended.signature.params κs) z.0.3 z.0.4)) ∷ raw ((c κs z.0.3).requires z.1) ∷ []) ∵
    split ! $ move ! (1 ∷ []) $ fsplit ! $
    raw_out R Heap laws ghosts ! given z.0.4.0 (λ b o h is spelled fits.
    let w : Val = two (vptr b o) h in let typed = raw_fits R Heap laws ghosts b o h fits in
    suffices ! (Run (w ∷ [])) (subst (λ us. ent 𝓤 (Run (w ∷ [])) (Run us)) (sym (λ i. spelled i ++ [])) (id⊢ 𝓤 (Run (w ∷ [])))) $
    enter ! 𝓣.C 𝓣.Λ fn (w ∷ []) Post $ alloc_all ! (λ l. pass_all ! refl (typed, tt) $
    sets ! (of_opd ! (get_in ! (fld ! refl (stop !)) (sub ! 0 refl (whole !)))) refl (tt, tt) $
    sets ! (of_opd ! (get_in ! (fld ! refl (stop !)) (sub ! 1 refl (whole !)))) refl fits $
    sets ! (of_opd ! (get ! refl)) refl (tt, tt) $
    sets ! (agg ! (and_then ! (get ! refl) (and_then ! (get ! refl) (no_more !)))) refl typed $
    handle_in ! (block_ptr b o) h given.alloc (Some given.value) $
    use0 𝓛 (raw (fact 𝓤 (Some given.value ≡ Some given.value))) (fact_i 𝓤 (Some given.value ≡ Some given.value) (emp 𝓤) refl) $ nothing ! $ nothing ! $ fjoin ! $
    returns ! (look_at ! 0 refl) $ free_all ! refl $ keep ! (4 ∷ 0 ∷ 2 ∷ 1 ∷ []) $
    by ! (leaves 𝓛 ended stays c z w (record { at = block_ptr b o; alloc = given.alloc; value = Some given.value }) (tt, tt) (tt, tt)))))
