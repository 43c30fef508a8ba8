-- `of` takes the box apart, by `into_raw_with_allocator`, and puts the two parts together.
use Rattle.kx_slots.proofs.Walk.{◌≡◌, List, [], ◌∷◌, ◌++◌, refl, sym, ap, ◌∙◌, subst, flft, fsep, ftrue, SProp, emp, ent, id⊢, fact, fact_i, tables}
use Rattle.kx_slots.proofs.Walk.{RawPtr, no, bounded, param, param_laws, RattleType, owns, Ptr, block_ptr, ptr_val, plain, types_at, heard, nothing}
use Rattle.kx_slots.proofs.Walk.{only, Tuple, calls_at, triple_of, Stays, stay_dropped, walk_of, inst_fn, a_type, dcons, dnil, Val, of_list, vptr}
use Rattle.kx_slots.proofs.Walk.{vstruct, WpFn, alloc_all, free_all, get, get_in, lands_as, look_at, pass_all, sets, ‵, raw, ◌⊛◌, ◌$◌, ◌∵◌, !, await}
use Rattle.kx_slots.proofs.Walk.{by, drop, feq_l, fjoin, fpick, fsplit, join, keep, later, move, pick, qed, rewrite, some, split, split3, suffices}
use Rattle.kx_slots.proofs.Walk.{use0, use1, agg, sub, whole, and_then, enter, fld, no_more, of_opd, returns, stop, Goes-blank, handle_tells, fm}
use Rattle.kx_slots.proofs.Walk.{leaves, proved_at, box_in, box_out}
use Rattle.std_alloc.proofs.BoxSteps.Form as box
use Rattle.std_alloc.proofs.boxed.Box.into_raw_with_allocator.Met.{met}
use Rattle.std_alloc.specs.contracts.boxed.Box.into_raw_with_allocator as into_raw
use Rattle.kx_slots.proofs.RawBoxes.{at_block, boxed, raw_fits, raw_in, two}
use Rattle.kx_slots.proofs.raw_box.RawBox.of.Code as code
use Rattle.kx_slots.proofs.raw_box.RawBox.of.Statement.{statement}
use Rattle.kx_slots.specs.contracts.raw_box.RawBox.of.{clauses, ended}
use Rattle.kx_slots.specs.contracts.raw_box.RawBox.of.Key.{name as #of}

pub of_spec : {M : Type 1} → statement M
of_spec 𝓤 𝓛 𝓜 𝓡 wired T A T-laws A-laws g d T-drops A-drops allocates T-let_go A-let_go =
    let 𝓣 = tables 𝓤 𝓛.H 𝓜 𝓡 𝓡.env in
    let args = bounded (a_type ∷ a_type ∷ []) (T, (A, tt)) (dcons d (dcons T-drops (dcons A-drops dnil))) in
    let fn = inst_fn args code.function in
    let R : RattleType = param 0 T in let Z : RattleType = param 1 A in let Z-laws = param_laws 1 A A-laws in
    let E : box.Bx = record { row = T; laws = T-laws; al = record { row = A; laws = A-laws; g = g; d = d; drops = A-drops } } in
    let own = ended T A g d T-drops A-drops in let c = clauses T A g d T-drops A-drops 𝓛 𝓜.mem 𝓡.returns in
    let stays : Stays own.signature.params own.kept = (stay_dropped (plain (λ _. box.B E)) no, tt) in
    proved_at 𝓛 own stays c 𝓜 𝓡 (Goes-blank 𝓛 2 (plain (λ _. box.B E)) no (λ κs x f. tt), tt) (#of args) fn
    (code.unfolded 𝓤 𝓛.H 𝓜 𝓡 wired (T, (A, tt)) d T-drops A-drops) (λ z are.
    let κs = z.0.0 in let qs = z.0.1 in let given = z.0.3.0 in let a = given.alloc in
    let Post : Val → SProp 𝓤 = (walk_of 𝓛 own stays c).post z in
    let Run : List Val → SProp 𝓤 = λ ws. WpFn 𝓤 𝓛.H 𝓣.C 𝓣.Λ fn ws Post in
    let alive = ‵ (flft κs.0 qs.0) ⊛ ‵ (flft κs.1.0 qs.1.0) ⊛ ‵ ftrue in
    qed 𝓛 ((alive ⊛ ‵ (owns (types_at own.signature.params κs) z.0.3 z.0.4)) ∷ raw ((c κs z.0.3).requires z.1) ∷ []) ∵
    split ! $ move ! (1 ∷ []) $ fsplit ! $
    -- the box is looked into for its machine value
    box_out E ! given z.0.4.0 (λ b o h is spelled fits. box_in E ! given b o given.value is refl $
    let w : Val = box.word E h b o in let typed = raw_fits R Z Z-laws g b o h fits in
    let call = triple_of 𝓛 (into_raw.signature T A g d A-drops T-drops) (into_raw.spec T A g d A-drops T-drops 𝓛 𝓜.mem 𝓡.returns) in
    let passed : call.Ghost = ((κs, qs, tt, (given, tt), (w ∷ [], tt)), tt) in let Parts = Tuple (RawPtr ∷ Z ∷ []) in
    fjoin ! $ move ! (1 ∷ 0 ∷ []) $ join ! $ join ! $ use1 𝓛 (raw (call.pre passed)) (id⊢ 𝓤 _) $
    suffices ! (Run (w ∷ [])) (subst (λ us. ent 𝓤 (Run (w ∷ [])) (Run us)) (sym (λ i. spelled i ++ [])) (id⊢ 𝓤 (Run (w ∷ [])))) $
    enter ! 𝓣.C 𝓣.Λ fn (w ∷ []) Post $ alloc_all ! (λ l. pass_all ! refl (typed, tt) $ sets ! (of_opd ! (get ! refl)) refl typed $
    calls_at ! (fm 𝓛 𝓜 𝓡) call (met 𝓤 𝓛 𝓜 𝓡 (code.calls-std_alloc::boxed::Box::into_raw_with_allocator 𝓡.env wired) T A T-laws A-laws g d A-drops T-drops allocates A-let_go T-let_go) passed
    (and_then ! (get ! refl) (no_more !)) (λ u.
    use1 𝓛 (later (some (λ (r : Ptr × A.Denot). (alive ⊛ ‵ (Parts.own_val r (u ∷ []))) ⊛ some (λ (_ : (Unit {0} × (Unit {0} × Unit {0})) × Unit {0}).
    ‵ (fsep (fsep ftrue (fsep ftrue ftrue)) ftrue) ⊛ (raw (fact 𝓤 (r.1 ≡ a)) ⊛ ‵ (boxed R A A-laws g a r.0 given.value)))))) (id⊢ 𝓤 _) $
    await ! tt $ pick ! (λ r. split ! $ move ! (1 ∷ []) $ pick ! (λ _. split3 ! $ drop ! $ heard ! (r.1 ≡ a) (λ same.
    -- [what the box owned; the tokens with the two parts; ..]: the pointer leads to a block, and each part has its type
    at_block R A A-laws g ! a r.0 given.value (λ b' o' is'.
    move ! (1 ∷ []) $ split ! $ move ! (1 ∷ []) $ fpick ! (λ parts. fsplit ! $ feq_l ! (λ pair. fsplit ! $ feq_l ! (λ pointer. fsplit ! $
    rewrite ! 0 (λ s. ‵ (A.own_val s parts.1.0)) same refl $ handle_tells E.al ! a parts.1.0 (λ h' handle fits'.
    let made = raw_fits R Z Z-laws g b' o' h' fits' in
    let spelt : List Val → List Val → List Val = λ ps hs. vstruct (of_list (ps ++ (hs ++ []))) ∷ [] in
    lands_as ! (ap only (pair ∙ ap (λ ps. spelt ps parts.1.0) (pointer ∙ ap (λ p. ptr_val p ∷ []) is') ∙ ap (spelt (vptr b' o' ∷ [])) handle)) refl made $
    sets ! (of_opd ! (get_in ! (fld ! refl (stop !)) (sub ! 0 refl (whole !)))) refl (tt, tt) $
    sets ! (of_opd ! (get_in ! (fld ! refl (stop !)) (sub ! 1 refl (whole !)))) refl fits' $
    sets ! (of_opd ! (get ! refl)) refl fits' $
    sets ! (agg ! (and_then ! (get ! refl) (and_then ! (get ! refl) (no_more !)))) refl made $
    move ! (3 ∷ 0 ∷ []) $ raw_in R Z Z-laws g ! b' o' h' a given.value $
    use0 𝓛 (raw (fact 𝓤 (given.value ≡ given.value))) (fact_i 𝓤 (given.value ≡ given.value) (emp 𝓤) refl) $ nothing ! $ nothing ! $ fjoin ! $
    returns ! (look_at ! 0 refl) $ free_all ! refl $ keep ! (4 ∷ 0 ∷ 2 ∷ 1 ∷ []) $
    by ! (leaves 𝓛 own stays c z (two (vptr b' o') h') (record { at = block_ptr b' o'; alloc = a; value = given.value }) ((tt, (tt, tt)), tt) (tt, tt))))))))))))))
