-- `into_raw` tests the pointer, and gives what the slot has.
use Rattle.kx_slots.proofs.Walk.{◌≡◌, List, [], ◌∷◌, ◌++◌, refl, sym, subst, lit<, ftrue, SProp, emp, ent, id⊢, fact, fact_i, tables, yes, layout}
use Rattle.kx_slots.proofs.Walk.{RattleType, owns, Ptr, block_ptr, null_ptr, ptr_val, tests_null, plain, type_at, types_at, nothing, Goes-dropped}
use Rattle.kx_slots.proofs.Walk.{Stays, stay_dropped, walk_of, Val, vcons, vnil, vptr, WpFn, alloc_all, env, free_all, get, get_in, look_at, pass_all}
use Rattle.kx_slots.proofs.Walk.{sets, sets_last, ‵, raw, ◌⊛◌, ◌$◌, ◌∵◌, !, at_ret, by, fjoin, fsplit, keep, move, qed, split, suffices, use0, use1}
use Rattle.kx_slots.proofs.Walk.{live, agg, sub, whole, and_then, bin, branches, enter, exec, first, fld, lit, no_more, of_opd, returns, stop, after}
use Rattle.kx_slots.proofs.Walk.{Ptr-Good, Good, Some-of, none_of, leaves, proved_at, ghosts, and_tt}
use Rattle.core.specs.declared.option.Option.TheVariants.{None, Some}
use Rattle.std.proofs.alloc.Global.TheLaws as heap_laws
use Rattle.kx_slots.proofs.RawBoxes.{Raw, raw_fits, raw_in, two}
use Rattle.kx_slots.proofs.Slots.{Heap, either_slot, null_fits}
use Rattle.kx_sources.proofs.GatheringHandleValues.{Handle, R, handle_out}
use Rattle.kx_sources.proofs.gathering_handle.GatheringHandle.into_raw.Code as code
use Rattle.kx_sources.proofs.gathering_handle.GatheringHandle.into_raw.Statement.{statement}
use Rattle.kx_sources.specs.contracts.gathering_handle.GatheringHandle.into_raw.{clauses, ended}
use Rattle.kx_sources.specs.contracts.gathering_handle.GatheringHandle.into_raw.Key.{name as #into_raw}

pub into_raw_spec : {M : Type 1} → statement M
into_raw_spec 𝓤 𝓛 𝓜 𝓡 wired =
    let 𝓣 = tables 𝓤 𝓛.H 𝓜 𝓡 𝓡.env in let fn = code.function in let c = clauses 𝓛 𝓜.mem 𝓡.returns in let laws = heap_laws.the_row_laws in
    let Raws : RattleType = Raw R Heap laws ghosts in
    let stays : Stays ended.signature.params ended.kept = (stay_dropped (plain (λ _. Handle)) yes, tt) in
    proved_at 𝓛 ended stays c 𝓜 𝓡 (Goes-dropped 𝓛 0 (plain (λ _. Handle)) yes (λ κs x f. refl), tt) #into_raw fn (code.unfolded 𝓤 𝓛.H 𝓜 𝓡 wired) (λ z are.
    let κs = z.0.0 in let given = z.0.3.0 in
    let Post : Val → SProp 𝓤 = (walk_of 𝓛 ended stays c).post z in
    let Run : List Val → SProp 𝓤 = λ ws. WpFn 𝓤 𝓛.H 𝓣.C 𝓣.Λ fn ws Post in
    let Result : RattleType = type_at ended.signature.result κs in
    let runs : (w : Val) → z.0.4.0 ≡ w ∷ [] → ent 𝓤 (Run (w ∷ [])) (Run (z.0.4.0 ++ [])) =
    λ w spelled. subst (λ us. ent 𝓤 (Run (w ∷ [])) (Run us)) (sym (λ i. spelled i ++ [])) (id⊢ 𝓤 (Run (w ∷ []))) in
    qed 𝓛 ((‵ ftrue ⊛ ‵ (owns (types_at ended.signature.params κs) z.0.3 z.0.4)) ∷ raw ((c κs z.0.3).requires z.1) ∷ []) ∵
    split ! $ move ! (1 ∷ []) $ fsplit ! $
    handle_out ! given z.0.4.0 (λ h spelled fits.
    let spelled_at : (p : Ptr) → given.at ≡ p → z.0.4.0 ≡ two (ptr_val p) h ∷ [] = λ p is. subst (λ q. z.0.4.0 ≡ two (ptr_val q) h ∷ []) is spelled in
    either_slot R ! given.alloc given.at given.value
    -- at null
    (λ is none. let w : Val = two (ptr_val null_ptr) h in
    suffices ! (Run (w ∷ [])) (runs w (spelled_at null_ptr is)) $
    enter ! 𝓣.C 𝓣.Λ fn (w ∷ []) Post $ alloc_all ! (λ l. pass_all ! refl (null_fits h fits, tt) $
    sets ! (of_opd ! (get_in ! (fld ! refl (stop !)) (sub ! 0 refl (whole !)))) refl (Ptr-Good null_ptr) $
    sets ! (of_opd ! (get_in ! (fld ! refl (stop !)) (sub ! 1 refl (whole !)))) refl fits $
    sets ! (bin ! (get ! refl) (lit ! tt) tt) refl (tt, tt) $ first ! $ branches ! (get ! refl)
    (λ _. sets_last ! (agg ! (and_then ! (lit ! tt) (no_more !))) refl (tt, (record { fits = lit< tt }, tt)) $
    exec ! 𝓣.C 𝓣.Λ (env fn.locals l) (after 4 fn.body) (at_ret (env fn.locals l) Post) $
    sets ! (of_opd ! (get ! refl)) refl (tt, (record { fits = lit< tt }, tt)) $
    use0 𝓛 (‵ (Result.own_val None (live 0 vnil ∷ []))) (none_of 𝓛 Raws) $
    use0 𝓛 (raw (fact 𝓤 (given.value ≡ None))) (fact_i 𝓤 (given.value ≡ None) (emp 𝓤) none) $ nothing ! $ nothing ! $ fjoin ! $
    returns ! (look_at ! 0 refl) $ free_all ! refl $ keep ! (5 ∷ 0 ∷ 2 ∷ 1 ∷ []) $
    by ! (leaves 𝓛 ended stays c z (live 0 vnil) None (tt, tt) (tt, tt)))
    (λ wrong. absurd wrong)))
    -- in a block
    (λ b o x is some test. let w : Val = two (vptr b o) h in let typed = raw_fits R Heap laws ghosts b o h fits in
    let result : Val = live 1 (vcons w vnil) in let raw_box : Raws.Denot = record { at = block_ptr b o; alloc = given.alloc; value = x } in
    let good : Good (layout Result) result = (and_tt _ typed.0, (record { fits = lit< tt }, (typed.1, tt))) in
    suffices ! (Run (w ∷ [])) (runs w (spelled_at (block_ptr b o) is)) $
    enter ! 𝓣.C 𝓣.Λ fn (w ∷ []) Post $ alloc_all ! (λ l. pass_all ! refl (typed, tt) $
    sets ! (of_opd ! (get_in ! (fld ! refl (stop !)) (sub ! 0 refl (whole !)))) refl (tt, tt) $
    sets ! (of_opd ! (get_in ! (fld ! refl (stop !)) (sub ! 1 refl (whole !)))) refl fits $
    sets ! (bin ! (get ! refl) (lit ! tt) (tests_null (block_ptr b o) test)) refl (tt, tt) $ first ! $ branches ! (get ! refl)
    (λ wrong. absurd wrong)
    (λ _. sets ! (of_opd ! (get ! refl)) refl (tt, tt) $
    sets ! (agg ! (and_then ! (get ! refl) (and_then ! (get ! refl) (no_more !)))) refl typed $
    sets_last ! (agg ! (and_then ! (lit ! tt) (and_then ! (get ! refl) (no_more !)))) refl good $
    exec ! 𝓣.C 𝓣.Λ (env fn.locals l) (after 4 fn.body) (at_ret (env fn.locals l) Post) $ sets ! (of_opd ! (get ! refl)) refl good $
    raw_in R Heap laws ghosts ! b o h given.alloc x $ use1 𝓛 (‵ (Result.own_val (Some raw_box) (result ∷ []))) (Some-of 𝓛 Raws raw_box w) $
    use0 𝓛 (raw (fact 𝓤 (given.value ≡ Some x))) (fact_i 𝓤 (given.value ≡ Some x) (emp 𝓤) some) $ nothing ! $ nothing ! $ fjoin ! $
    returns ! (look_at ! 0 refl) $ free_all ! refl $ keep ! (4 ∷ 0 ∷ 2 ∷ 1 ∷ []) $
    by ! (leaves 𝓛 ended stays c z result (Some raw_box) (tt, tt) (tt, tt)))))))
