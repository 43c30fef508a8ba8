-- `into_box` hands the pointer and the allocator to `from_raw`.
use Rattle.kx_slots.proofs.Walk.{◌≡◌, List, [], ◌∷◌, ◌++◌, refl, sym, ap, subst, ftrue, flft, SProp, ent, id⊢, ◌⊑◌, fact, tables, no, bounded, layout}
use Rattle.kx_slots.proofs.Walk.{param, param_laws, RattleType, owns, block_ptr, plain, types_at, nothing, only, calls_at_last, Lasts, lasts}
use Rattle.kx_slots.proofs.Walk.{triple_of, Stays, stay_dropped, walk_of, inst_fn, a_type, dcons, dnil, Val, vptr, WpFn, alloc_all, env, free_all}
use Rattle.kx_slots.proofs.Walk.{get, get_in, lands_last, look_at, pass_all, sets, ‵, raw, ◌⊛◌, ◌$◌, ◌∵◌, !, at_ret, await, by, drop, feq_i, fjoin}
use Rattle.kx_slots.proofs.Walk.{fsplit, join, keep, later, move, pick, qed, rewrite, some, split, split3, suffices, use1, sub, whole, and_then}
use Rattle.kx_slots.proofs.Walk.{blocks, enter, exec, first, fld, no_more, of_opd, returns, stop, Goes-blank, after, fm, Good, leaves, proved_at}
use Rattle.kx_slots.proofs.Walk.{box_in, box_out}
use Rattle.std_alloc.proofs.BoxSteps.Form as box
use Rattle.std_alloc.proofs.boxed.Box.from_raw.Met.{met}
use Rattle.std_alloc.specs.contracts.boxed.Box.from_raw as from_raw
use Rattle.kx_slots.proofs.RawBoxes.{Raw, raw_fits, raw_out, two}
use Rattle.kx_slots.proofs.raw_box.RawBox.into_box.Code as code
use Rattle.kx_slots.proofs.raw_box.RawBox.into_box.Statement.{statement}
use Rattle.kx_slots.specs.contracts.raw_box.RawBox.into_box.{clauses, ended}
use Rattle.kx_slots.specs.contracts.raw_box.RawBox.into_box.Key.{name as #into_box}

pub into_box_spec : {M : Type 1} → statement M
into_box_spec 𝓤 𝓛 𝓜 𝓡 wired T A T-laws A-laws g d T-drops A-drops allocates T-let_go A-let_go =
    let 𝓣 = tables 𝓤 𝓛.H 𝓜 𝓡 𝓡.env in
    let args = bounded (a_type ∷ a_type ∷ []) (T, (A, tt)) (dcons d (dcons T-drops (dcons A-drops dnil))) in
    let fn = inst_fn args code.function in
    let R : RattleType = param 0 T in let Z : RattleType = param 1 A in let Z-laws = param_laws 1 A A-laws in
    let E : box.Bx = record { row = T; laws = T-laws; al = record { row = A; laws = A-laws; g = g; d = d; drops = A-drops } } in
    let Boxed : RattleType = box.B E in
    let own = ended T A g d T-drops A-drops in let c = clauses T A g d T-drops A-drops 𝓛 𝓜.mem 𝓡.returns in
    let stays : Stays own.signature.params own.kept = (stay_dropped (plain (λ _. Raw R Z Z-laws g)) no, tt) in
    proved_at 𝓛 own stays c 𝓜 𝓡 (Goes-blank 𝓛 2 (plain (λ _. Raw R Z Z-laws g)) no (λ κs x f. tt), tt) (#into_box args) fn
    (code.unfolded 𝓤 𝓛.H 𝓜 𝓡 wired (T, (A, tt)) d T-drops A-drops) (λ z are.
    let κs = z.0.0 in let qs = z.0.1 in let given = z.0.3.0 in
    let Post : Val → SProp 𝓤 = (walk_of 𝓛 own stays c).post z in
    let Run : List Val → SProp 𝓤 = λ ws. WpFn 𝓤 𝓛.H 𝓣.C 𝓣.Λ fn ws Post in
    let alive = ‵ (flft κs.0 qs.0) ⊛ ‵ (flft κs.1.0 qs.1.0) ⊛ ‵ ftrue in
    qed 𝓛 ((alive ⊛ ‵ (owns (types_at own.signature.params κs) z.0.3 z.0.4)) ∷ raw ((c κs z.0.3).requires z.1) ∷ []) ∵
    split ! $ move ! (1 ∷ []) $ fsplit ! $
    raw_out R Z Z-laws g ! given z.0.4.0 (λ b o h is spelled fits.
    -- [the box; the handle; nothing more is passed; the lifetimes' tokens; the bounds]
    let w : Val = two (vptr b o) h in let typed = raw_fits R Z Z-laws g b o h fits in
    let call = triple_of 𝓛 (from_raw.signature T A g d A-drops) (from_raw.spec T A g d A-drops 𝓛 𝓜.mem 𝓡.returns) in
    let passed : call.Ghost = ((κs, qs, tt, (given.alloc, (block_ptr b o, tt)), (h ∷ [], (vptr b o ∷ [], tt))), given.value) in
    move ! (4 ∷ []) $ use1 𝓛 (raw (fact 𝓤 (κs.0 ⊑ T.lives)) ⊛ raw (fact 𝓤 (κs.1.0 ⊑ A.lives)) ⊛ ‵ ftrue) (id⊢ 𝓤 _) $ split3 ! $
    move ! (2 ∷ []) $ drop ! $ move ! (1 ∷ 2 ∷ []) $ join ! $ move ! (1 ∷ 0 ∷ []) $ join ! $
    move ! (2 ∷ []) $ feq_i ! (List Val) (vptr b o ∷ []) (vptr b o ∷ []) refl $ fjoin ! $ move ! (2 ∷ 0 ∷ []) $ fjoin ! $
    move ! (2 ∷ 0 ∷ []) $ join ! $ join ! $ use1 𝓛 (raw (call.pre passed)) (id⊢ 𝓤 _) $
    suffices ! (Run (w ∷ [])) (subst (λ us. ent 𝓤 (Run (w ∷ [])) (Run us)) (sym (λ i. spelled i ++ [])) (id⊢ 𝓤 (Run (w ∷ [])))) $
    enter ! 𝓣.C 𝓣.Λ fn (w ∷ []) Post $ alloc_all ! (λ l. pass_all ! refl (typed, tt) $
    sets ! (of_opd ! (get_in ! (fld ! refl (stop !)) (sub ! 0 refl (whole !)))) refl (tt, tt) $
    sets ! (of_opd ! (get_in ! (fld ! refl (stop !)) (sub ! 1 refl (whole !)))) refl fits $
    first ! $ blocks ! $ sets ! (of_opd ! (get ! refl)) refl fits $
    calls_at_last ! (fm 𝓛 𝓜 𝓡) call (met 𝓤 𝓛 𝓜 𝓡 (code.calls-std_alloc::boxed::Box::from_raw 𝓡.env wired) T A T-laws A-laws g d A-drops allocates A-let_go) passed
    (and_then ! (get ! refl) (and_then ! (get ! refl) (no_more !))) (λ u.
    use1 𝓛 (later (some (λ (r : Boxed.Denot). (alive ⊛ ‵ (Boxed.own_val r (u ∷ []))) ⊛ some (λ (ls : Lasts (from_raw.ended T A g d A-drops) κs passed.0.3).
    ‵ (lasts (from_raw.ended T A g d A-drops) κs passed.0.3 ls) ⊛ (raw (fact 𝓤 (r.value ≡ given.value)) ⊛ raw (fact 𝓤 (r.alloc ≡ given.alloc))))))) (id⊢ 𝓤 (call.post passed u)) $
    await ! tt $ pick ! (λ r. split ! $ move ! (1 ∷ []) $ pick ! (λ _. split3 ! $ drop ! $ move ! (2 ∷ []) $ split ! $ move ! (1 ∷ []) $
    -- the box that came back is taken apart to see that its machine value has its type
    box_out E ! r (u ∷ []) (λ b' o' h' is' spelled' fits'. box_in E ! r b' o' r.value is' refl $
    rewrite ! 0 (λ xs. ‵ (Boxed.own_val r xs)) (sym spelled') refl $
    let good : Good (layout Boxed) u = subst (Good (layout Boxed)) (sym (ap only spelled')) (raw_fits R Z Z-laws g b' o' h' fits') in
    lands_last ! refl good $ exec ! 𝓣.C 𝓣.Λ (env fn.locals l) (after 3 fn.body) (at_ret (env fn.locals l) Post) $
    sets ! (of_opd ! (get ! refl)) refl good $ nothing ! $ nothing ! $ fjoin ! $
    returns ! (look_at ! 0 refl) $ free_all ! refl $ keep ! (2 ∷ 0 ∷ 1 ∷ 3 ∷ []) $
    by ! (leaves 𝓛 own stays c z u r ((tt, (tt, tt)), tt) (tt, tt)))))))))
