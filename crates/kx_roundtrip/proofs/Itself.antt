-- A printed text means the tables that were printed, and has no fault.
use Rattle.std.proofs.Common.{◌≡◌, ℕ, ◌<◌, ◌≤◌, List, [], length, Contains, Some, slice_get, inl, inr, ap, subst, arith}
use Rattle.std.proofs.lemmas.Option.{slice_get_within}
use Rattle.ks_core.specs.Table.{KeysymTable}
use Rattle.kx_lex.specs.Reading.{IsReading, StopsWith}
use Rattle.kx_lex.specs.declared.fault.Fault.{Fault}
use Rattle.kx_lex.specs.declared.token.Token.{Token}
use Rattle.kx_tree.specs.Sections.{Spells, StopsWith as TokensStop}
use Rattle.kx_tree.specs.declared.tree.Tree.{Tree}
use Rattle.kx_print.specs.Printed.{printed}
use Rattle.kx_source.specs.Source.{HasFault, HasFaultIn, HoldsAll, Means}
use Rattle.kx_tables.specs.Content.{Content}
use Rattle.kx_roundtrip.specs.Again.{AreNames, CanBePrinted}
use Rattle.kx_roundtrip.proofs.Bodies.{whole}
use Rattle.kx_roundtrip.proofs.Faults.{faultless}
use Rattle.kx_roundtrip.proofs.Meaning.{holds_again}
use Rattle.kx_roundtrip.proofs.Written.{OneReading, library, read_once, written}

-- what is proved of tokens and trees
pub record Laws : Type 0 where
  pub once : OneReading
  pub stopped : (text : List ℕ) (tokens : List Token) (e : Fault) → StopsWith text e → IsReading text tokens → ⊥
  pub source_stopped : (text : List ℕ) (tokens : List Token) (e : Fault) (tree : Tree) → TokensStop text tokens e → Spells text tokens tree → ⊥

none_in : {xs : List Fault} {e : Fault} → xs ≡ [] → Contains xs e → ⊥
none_in {xs} {e} none has =
    let within : has.0 < length xs = has.1 in
    let empty : length xs ≡ 0 = ap (λ (faults : List Fault). length faults) none in
    omega arith

none_past : {X : Type 0} (xs : List X) (n : ℕ) (x : X) → length xs ≤ n → slice_get xs n ≡ Some x → ⊥
none_past xs n x past is = let within = slice_get_within xs n x is in omega arith

module _ (laws : Laws) (c : Content) (names : KeysymTable) (can : CanBePrinted c) (table : AreNames names) where
  pub means_again : (d : Content) → Means (printed c) [] names d → d ≡ c
  means_again d means =
      holds_again c can.sound names table can.few_types d
      (subst (λ l. HoldsAll names l d) (read_once c can.sound laws.once means.library means.read) means.holds)

  no_fault_in : (e : Fault) → HasFaultIn names (library c can.sound) e → ⊥
  no_fault_in e (inl (inl has)) = none_in (whole c can.sound).0 has
  no_fault_in e (inl (inr found)) = none_past _ _ found.0 (whole c can.sound).1 found.1
  no_fault_in e (inr (_, has)) = none_in (faultless c can.sound names table can.few_types) has

  pub no_fault : (e : Fault) → HasFault (printed c) [] names e → ⊥
  no_fault e (inl (inl long)) = let short = can.short in let past = long.0 in omega arith
  no_fault e (inl (inr (short, inl stop))) = laws.stopped (printed c) (written c can.sound).tokens e stop (written c can.sound).reading
  no_fault e (inl (inr (short, inr (tokens, reading, stop)))) =
      let same : tokens ≡ (written c can.sound).tokens = laws.once.one_reading (printed c) tokens (written c can.sound).tokens reading (written c can.sound).reading in
      laws.source_stopped (printed c) (written c can.sound).tokens e (written c can.sound).tree (subst (λ (ts : List Token). TokensStop (printed c) ts e) same stop) (written c can.sound).spelled
  no_fault e (inr (inl many)) = let past = many.0 in omega arith
  no_fault e (inr (inr inside)) = no_fault_in e (subst (λ l. HasFaultIn names l e) (read_once c can.sound laws.once inside.library inside.read) inside.has)
