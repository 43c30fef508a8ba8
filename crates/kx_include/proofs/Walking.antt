-- Going over a list of items, or of parts, one by one: those after are expanded.
use Rattle.std.proofs.Common.{◌≡◌, ℕ, ◌≤◌, List, [], ◌∷◌, ◌++◌, length, sym, subst, arith, inl, inr}
use Rattle.std.proofs.lemmas.List.{append_assoc, append-nil}
use Rattle.kx_lex.specs.declared.fault.Fault.{Fault}
use Rattle.kx_tree.specs.declared.tree.Kind.{Kind}
use Rattle.kx_include.specs.Expansion.{Body}
use Rattle.kx_include.specs.IncludeFaults.{Findings, all_of, HasFaultFrom}
use Rattle.kx_include.specs.Library.{Library}
use Rattle.kx_include.specs.Limits.{most_parts}
use Rattle.kx_include.specs.Sharing.{AreKnown, Blames, Expands, Grows, bodies_of}
use Rattle.kx_include.specs.declared.expansion.Map.{Map}
use Rattle.kx_include.proofs.Knowing.{grows_on, regrow}
use Rattle.kx_include.proofs.Progress.{Left, left-step, left-none, fault-left, fault-first}

module _ (library : Library) (kind : Kind) {E X : Type 0} (found : ℕ → X → Findings) (Are : ℕ → List Body → List X → List E → Type 0) (Is : ℕ → List Body → X → E → Type 0) where
  pub record GoneAt (bodies : List Body) (seen count d : ℕ) (all left : List X) (made : List E) : Type 0 where
    pub going : Left seen (all_of (found d) all) count (all_of (found d) left)
    pub joins : (more : List Body) (rest : List E) → Are d (bodies ++ more) left rest → Are d (bodies ++ more) all (made ++ rest)

  pub record Gone (most seen : ℕ) (old new : List Map) (all left : List X) (made : List E) (depth count : ℕ) : Type 0 where
    pub grown : Grows old new
    pub known : AreKnown library kind new
    pub gone : (d : ℕ) → depth ≤ d → GoneAt (bodies_of new) seen count d all left made
    pub within : depth ≤ most
    pub few : count ≤ most_parts

  pub gone_fault : (most seen : ℕ) (old now : List Map) (all left : List X) (made : List E) (depth count : ℕ) (x : X) (rest : List X) (e : Fault) → left ≡ x ∷ rest → Gone most seen old now all left made depth count → Blames count (found most x) e → Blames seen (all_of (found most) all) e
  gone_fault most seen old now all left made depth count x rest e is gone (inl memory) = inl memory
  gone_fault most seen old now all left made depth count x rest e is gone (inr has) =
      let at = gone.gone most gone.within in
      inr (fault-left seen (all_of (found most) all) count (all_of (found most) left) e at.going gone.few
      (subst (λ xs. HasFaultFrom count (all_of (found most) xs) e) (sym is) (fault-first count (found most x) (all_of (found most) rest) e has)))

  module _ (none : (d : ℕ) (bodies : List Body) → Are d bodies [] []) (one : (d : ℕ) (bodies : List Body) (x : X) (e : E) (xs : List X) (es : List E) → Is d bodies x e → Are d bodies xs es → Are d bodies (x ∷ xs) (e ∷ es)) where
    pub gone_step : (most seen : ℕ) (old now new : List Map) (all left : List X) (made after : List E) (depth count deeper next reach : ℕ) (x : X) (e : E) (rest : List X) → left ≡ x ∷ rest → after ≡ made ++ e ∷ [] → depth ≤ next → deeper ≤ next → next ≤ most
        → Gone most seen old now all left made depth count → Expands library kind most count now new (λ d. found d x) (λ d bs. Is d bs x e) deeper reach → Gone most seen old new all rest after next reach
    gone_step most seen old now new all left made after depth count deeper next reach x e rest is is_after h k within gone expands =
        subst (λ es. Gone most seen old new all rest es next reach) (sym is_after) (record {
          grown = grows_on old now new gone.grown expands.grown;
          known = expands.known;
          gone = λ d room.
              let at = gone.gone d (omega arith) in
              let met = expands.meant d (omega arith) in
              record {
                going = left-step seen (all_of (found d) all) count reach (found d x) (all_of (found d) rest) (subst (λ xs. Left seen (all_of (found d) all) count (all_of (found d) xs)) is at.going) met.faultless met.counted;
                joins = λ more es are_rest.
                    subst (Are d (bodies_of new ++ more) all) (sym (append_assoc made (e ∷ []) es))
                    (regrow (λ bs. Are d bs left (e ∷ es) → Are d bs all (made ++ (e ∷ es))) now new expands.grown (λ others. at.joins others (e ∷ es)) more
                    (subst (λ xs. Are d (bodies_of new ++ more) xs (e ∷ es)) (sym is) (one d (bodies_of new ++ more) x e rest es (met.means more) are_rest)));
              };
          within = within;
          few = expands.few;
        })

    pub gone_all : (most seen : ℕ) (old now : List Map) (all left : List X) (made : List E) (depth count : ℕ) → length left ≡ 0 → Gone most seen old now all left made depth count → Expands library kind most seen old now (λ d. all_of (found d) all) (λ d bs. Are d bs all made) depth count
    gone_all most seen old now all (x ∷ xs) made depth count is gone = absurd (omega (arith, is))
    gone_all most seen old now all [] made depth count is gone = record {
      grown = gone.grown;
      known = gone.known;
      meant = λ d h.
          let at = gone.gone d h in
          let ends = left-none seen (all_of (found d) all) count at.going in
          record {
            faultless = ends.0;
            counted = ends.1;
            means = λ more. subst (Are d (bodies_of now ++ more) all) (append-nil made) (at.joins more [] (none d (bodies_of now ++ more)));
          };
      within = gone.within;
      few = gone.few;
    }
