-- A source with a fault means no tables and no answers.
use Rattle.std.proofs.Common.{ℕ, [], ◌≡◌, inl, inr, ◌<◌, ◌≤◌, List, length, Contains, slice_get, Some, ap, subst, arith}
use Rattle.std.proofs.lemmas.Option.{slice_get_within}
use Rattle.ks_core.specs.Table.{KeysymTable}
use Rattle.kx_headline.proofs.Texts.{Laws, library-one, read-has_tree}
use Rattle.kx_headline.specs.Played.{AnswersAs}
use Rattle.kx_include.specs.IncludeFaults.{IsWhole, HasIncludeFault}
use Rattle.kx_include.specs.Library.{Library}
use Rattle.kx_include.specs.Source.{Handed, IsRead}
use Rattle.kx_lex.specs.declared.fault.Fault.{Fault}
use Rattle.kx_run.specs.Replies.{Answer}
use Rattle.kx_run.specs.declared.direction.Event.{Event}
use Rattle.kx_source.specs.Source.{HasFault, HasFaultIn, Means, statement_faults}
use Rattle.kx_tables.specs.Content.{Content}

none_in : {xs : List Fault} {e : Fault} → xs ≡ [] → Contains xs e → ⊥
none_in {xs} {e} none has =
    let within : has.0 < length xs = has.1 in
    let empty : length xs ≡ 0 = ap (λ (faults : List Fault). length faults) none in
    omega arith

none_past : {X : Type 0} (xs : List X) (n : ℕ) (x : X) → length xs ≤ n → slice_get xs n ≡ Some x → ⊥
none_past xs n x past is = let within = slice_get_within xs n x is in omega arith

module _ (names : KeysymTable) where
  whole-no_fault : (library : Library) (e : Fault) → IsWhole library → HasIncludeFault library e → ⊥
  whole-no_fault library e whole (inl has) = none_in whole.0 has
  whole-no_fault library e whole (inr found) = none_past _ _ found.0 whole.1 found.1

  faultless-no_fault : (library : Library) (e : Fault) → IsWhole library → statement_faults names library ≡ [] → HasFaultIn names library e → ⊥
  faultless-no_fault library e whole faultless (inl has) = whole-no_fault library e whole has
  faultless-no_fault library e whole faultless (inr (_, has)) = none_in faultless has

  faulty-none : Laws → (source : List ℕ) (files : Handed) (e : Fault) (library : Library) → HasFault source files names e → IsRead source files library → IsWhole library → statement_faults names library ≡ [] → ⊥
  faulty-none laws source files e library (inl no_tree) read whole faultless = read-has_tree laws source files library e read no_tree
  faulty-none laws source files e library (inr (inl many)) read whole faultless = let few = read.few_files in let past = many.0 in omega arith
  faulty-none laws source files e library (inr (inr inside)) read whole faultless =
      let same : inside.library ≡ library = library-one laws source files inside.library library inside.read read in
      faultless-no_fault library e whole faultless (subst (λ l. HasFaultIn names l e) same inside.has)

  pub means-none : Laws → (source : List ℕ) (files : Handed) (e : Fault) (content : Content) → HasFault source files names e → Means source files names content → ⊥
  means-none laws source files e content has means = faulty-none laws source files e means.library has means.read means.whole means.faultless

  pub answers-none : Laws → (source : List ℕ) (files : Handed) (e : Fault) (events : List Event) (answers : List Answer) → HasFault source files names e → AnswersAs source files names events answers → ⊥
  answers-none laws source files e events answers has meant = let compiled = meant.compiled in faulty-none laws source files e compiled.library has compiled.read compiled.whole compiled.faultless
