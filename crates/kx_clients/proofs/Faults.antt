-- The faults of what is read of repeating: of keys there are none, and those of interpretations are those that compat sections have.
use Rattle.std.proofs.Common.{◌≡◌, ◌++◌, ◌∷◌, [], Bool, Contains, List, None, Option, Some, ap, arith, inl, inr, refl, ◌∙◌, ℕ, IfErr, Result, Ok, Err, subst, sym}
use Rattle.std.proofs.lemmas.List.Elements.{All-cons, All-contains, All-nil, Contains-append_cases, Contains-append_left, Contains-append_right}
use Rattle.std.specs.List.{flat_map}
use Rattle.std.specs.Option.{option_map_or}
use Rattle.std.specs.Result.{IsErrAnd}
use Rattle.ks_core.specs.Table.{KeysymTable}
use Rattle.kx_compat.specs.Matches.{predicate_faults}
use Rattle.kx_compat.specs.Meaning.{compat_faults, compat_rules}
use Rattle.kx_compat.specs.SameMatch.{same_match}
use Rattle.kx_compat.specs.Sections.{Interpreted, interpretation_faults, interpretation_in, no_defaults, next_default, own_faults, stated_faults}
use Rattle.kx_compat.specs.declared.defaults.CompatDefaults.{CompatDefaults}
use Rattle.kx_include.specs.Expansion.{Body, End, Begin, Own, Inc}
use Rattle.kx_include.specs.declared.place.Place.{Place}
use Rattle.kx_lex.specs.declared.fault.Fault.{Fault}
use Rattle.kx_lex.specs.declared.fault.Fault.TheVariants.{Memory}
use Rattle.kx_merge.specs.Bodies.{Moves, Rules, faults, no_moves}
use Rattle.kx_tree.specs.declared.tree.Stated.{Stated}
use Rattle.kx_symbols.specs.Keys.{field_in}
use Rattle.kx_symbols.specs.KeyFaults.{symbol_faults}
use Rattle.kx_clients.specs.InterpretationRepeats.{all_match_faults, next_truth, said_faults, truth_rules}

-- ---- Of keys

module _ {K C V D : Type 0} (eq : K → K → Bool) (rules : Rules K C V D) (moves : Moves K C) (none : (d : D) (place : Place) (stated : Stated) → rules.faults d place stated ≡ []) where
  pub no_faults : (d : D) (body : Body) → faults eq rules moves d body ≡ []
  no_faults d End = refl
  no_faults d (Begin rest) = no_faults rules.start rest
  no_faults d (Own place stated rest) = ap (λ fs. fs ++ faults eq rules moves (rules.next d stated) rest) (none d place stated) ∙ no_faults (rules.next d stated) rest
  no_faults d (Inc mode group body rest) = ap (λ fs. fs ++ faults eq rules moves d rest) (no_faults rules.start body) ∙ no_faults d rest

-- ---- Of interpretations

module _ (file : ℕ) (names : List (List ℕ)) (e : Fault) where
  said_within : (i : Option Interpreted) (others : List Fault) → Contains (said_faults names file i) e → Contains (option_map_or (interpretation_faults file names) i others) e
  said_within None others has = absurd (omega (arith, has.1))
  said_within (Some i) others has = Contains-append_left (symbol_faults file i.0 ++ predicate_faults file names i.1) (flat_map (own_faults file names) i.2) e has

module _ (table : KeysymTable) (names : List (List ℕ)) (e : Fault) where
  within : (d : Option Bool) (k : CompatDefaults) (body : Body) → Contains (faults same_match (truth_rules table names) no_moves d body) e → Contains (faults same_match (compat_rules table names) no_moves k body) e
  within d k End has = has
  within d k (Begin rest) has = within None no_defaults rest has
  within d k (Own place stated rest) has =
      let i = interpretation_in stated.statement in
      let next = next_default names k (field_in stated.statement) in
      let said = stated_faults place.file names stated in
      elim (Contains-append_cases (said_faults names place.file i) (faults same_match (truth_rules table names) no_moves (next_truth d stated.statement) rest) e has) [
        | inl own ↦ Contains-append_left said (faults same_match (compat_rules table names) no_moves next rest) e (said_within place.file names e i _ own)
        | inr more ↦ Contains-append_right said (faults same_match (compat_rules table names) no_moves next rest) e (within (next_truth d stated.statement) next rest more)
      ]
  within d k (Inc mode group body rest) has =
      elim (Contains-append_cases (faults same_match (truth_rules table names) no_moves None body) (faults same_match (truth_rules table names) no_moves d rest) e has) [
        | inl inside ↦ Contains-append_left (faults same_match (compat_rules table names) no_moves no_defaults body) (faults same_match (compat_rules table names) no_moves k rest) e (within None no_defaults body inside)
        | inr more ↦ Contains-append_right (faults same_match (compat_rules table names) no_moves no_defaults body) (faults same_match (compat_rules table names) no_moves k rest) e (within d k rest more)
      ]

-- lack of memory, or one of more
pub among_more : (fs gs : List Fault) (e : Fault) → (Contains fs e → Contains gs e) → Contains (Memory ∷ fs) e → Contains (Memory ∷ gs) e
among_more fs gs e more has =
    elim (Contains-append_cases (Memory ∷ []) fs e has) [
      | inl memory ↦ Contains-append_left (Memory ∷ []) gs e memory
      | inr fault ↦ Contains-append_right (Memory ∷ []) gs e (more fault)
    ]

pub match_refused : (table : KeysymTable) (names : List (List ℕ)) (body : Body) (e : Fault) → Contains (Memory ∷ all_match_faults table names body) e → Contains (Memory ∷ compat_faults table names body) e
match_refused table names body e has = among_more (all_match_faults table names body) (compat_faults table names body) e (within table names e None no_defaults body) has

-- where there are no faults, memory is lacking
pub out_of_memory : (fs : List Fault) (e : Fault) → fs ≡ [] → Contains (Memory ∷ fs) e → e ≡ Memory
out_of_memory fs e none has = All-contains (λ (x : Fault). x ≡ Memory) (Memory ∷ []) e (All-cons (λ (x : Fault). x ≡ Memory) Memory [] refl (All-nil (λ (x : Fault). x ≡ Memory))) (subst (λ gs. Contains (Memory ∷ gs) e) none has)

-- an Err that is answered for another is the same
pub passed : {X : Type 0} (r : Result X Fault) (P : Fault → Type 0) (e : Fault) → IsErrAnd r (λ y. y ≡ e) → P e → IfErr r P
passed (Ok x) P e is has = absurd is
passed (Err y) P e is has = subst P (sym is) has

pub memory_first : (fs : List Fault) (e : Fault) → e ≡ Memory → Contains (Memory ∷ fs) e
memory_first fs e is = (0, omega arith, sym is)
