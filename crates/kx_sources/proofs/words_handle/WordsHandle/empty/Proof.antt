-- `empty` owns nothing.
use Rattle.kx_slots.proofs.Walk.{◌≡◌, List, [], ◌∷◌, ◌++◌, refl, sym, subst, ftrue, SProp, emp, ent, id⊢, fact, fact_i, tables, yes, owns, Ptr}
use Rattle.kx_slots.proofs.Walk.{null_ptr, ptr_val, plain, types_at, nothing, Goes-dropped, Stays, stay_dropped, walk_of, Val, WpFn, alloc_all}
use Rattle.kx_slots.proofs.Walk.{free_all, get, look_at, pass_all, sets, ‵, raw, ◌⊛◌, ◌$◌, ◌∵◌, !, by, feq_i, fjoin, fsplit, keep, move, qed, split}
use Rattle.kx_slots.proofs.Walk.{suffices, use0, agg, and_then, enter, lit, no_more, returns, handle_tells, leaves, proved_at, Option}
use Rattle.std.specs.declared.option.Option.TheVariants.{None}
use Rattle.kx_slots.proofs.RawBoxes.{two}
use Rattle.kx_slots.proofs.Slots.{Heap, allocator, null_fits}
use Rattle.kx_sources.proofs.WordsHandleValues.{R, handle_in}
use Rattle.kx_sources.proofs.words_handle.WordsHandle.empty.Code as code
use Rattle.kx_sources.proofs.words_handle.WordsHandle.empty.Statement.{statement}
use Rattle.kx_sources.specs.contracts.words_handle.WordsHandle.empty.{clauses, ended}
use Rattle.kx_sources.specs.contracts.words_handle.WordsHandle.empty.Key.{name as #empty}

pub empty_spec : {M : Type 1} → statement M
empty_spec 𝓤 𝓛 𝓜 𝓡 wired =
    let 𝓣 = tables 𝓤 𝓛.H 𝓜 𝓡 𝓡.env in let fn = code.function in let c = clauses 𝓛 𝓜.mem 𝓡.returns in
    let stays : Stays ended.signature.params ended.kept = (stay_dropped (plain (λ _. Heap)) yes, tt) in
    proved_at 𝓛 ended stays c 𝓜 𝓡 (Goes-dropped 𝓛 0 (plain (λ _. Heap)) yes (λ κs x f. refl), tt) #empty fn (code.unfolded 𝓤 𝓛.H 𝓜 𝓡 wired) (λ z are.
    let κs = z.0.0 in let a = z.0.3.0 in let none : Option R.Denot = None in
    let Post : Val → SProp 𝓤 = (walk_of 𝓛 ended stays c).post z in
    let Run : List Val → SProp 𝓤 = λ ws. WpFn 𝓤 𝓛.H 𝓣.C 𝓣.Λ fn ws Post in
    qed 𝓛 ((‵ ftrue ⊛ ‵ (owns (types_at ended.signature.params κs) z.0.3 z.0.4)) ∷ raw ((c κs z.0.3).requires z.1) ∷ []) ∵
    split ! $ move ! (1 ∷ []) $ fsplit ! $
    handle_tells allocator ! a z.0.4.0 (λ h spelled fits.
    suffices ! (Run (h ∷ [])) (subst (λ us. ent 𝓤 (Run (h ∷ [])) (Run us)) (sym (λ i. spelled i ++ [])) (id⊢ 𝓤 (Run (h ∷ [])))) $
    enter ! 𝓣.C 𝓣.Λ fn (h ∷ []) Post $ alloc_all ! (λ l. pass_all ! refl (fits, tt) $
    sets ! (agg ! (and_then ! (lit ! tt) (and_then ! (get ! refl) (no_more !)))) refl (null_fits h fits) $
    feq_i ! Ptr null_ptr null_ptr refl $ handle_in ! null_ptr h a none $
    use0 𝓛 (raw (fact 𝓤 (none ≡ None))) (fact_i 𝓤 (none ≡ None) (emp 𝓤) refl) $ nothing ! $ nothing ! $ fjoin ! $
    returns ! (look_at ! 0 refl) $ free_all ! refl $ keep ! (4 ∷ 0 ∷ 2 ∷ 1 ∷ []) $
    by ! (leaves 𝓛 ended stays c z (two (ptr_val null_ptr) h) (record { at = null_ptr; alloc = a; value = none }) (tt, tt) (tt, tt)))))
