-- What a session answers, by what was read of its source and by the answers to the lines after it.
use Rattle.std.proofs.Common.{◌≡◌, ◌⊎◌, ℕ, Bool, true, false, List, [], Option, None, Some, Result, Ok, Err, IfSome, inl, inr, refl, sym, subst}
use Rattle.std.proofs.lemmas.List.{append-nil}
use Rattle.std.specs.Io.KnownBytes.{Appends}
use Rattle.ks_core.specs.Table.{KeysymTable}
use Rattle.kx_include.specs.Source.{Handed}
use Rattle.kx_source.specs.Source.{HasFault, Means}
use Rattle.kx_lex.specs.declared.fault.Fault.{Fault}
use Rattle.kx_lex.specs.declared.fault.Fault.TheVariants.{Memory}
use Rattle.kx_tables.specs.Content.{Content}
use Rattle.kx_tool.proofs.Written.{compiled_by}
use Rattle.kx_lines.specs.Input.{FailsBehind, FailsToRead, IsOver, IsWithin, Waiting, budget, coming, nothing_read}
use Rattle.kx_tool.specs.Replay.{Answers, AnswersSession, Replays, known_lines}
use Rattle.kx_lines.specs.Sources.{ReadsSource}
use Rattle.kx_lines.specs.declared.fault.ReplayFault.{ReplayFault}
use Rattle.kx_lines.specs.declared.fault.SessionFault.TheVariants.{Compile, Replay}
use Rattle.kx_lines.specs.declared.input.TheConstants.{MOST_BYTES}

over_all : (left : Option (List ℕ)) (most : ℕ) → IsOver (coming nothing_read left) most → IsOver left most
over_all None most over = tt
over_all (Some text) most over = over

-- what is true of a reader with nothing taken yet is true of the reader
pub fails_all : {R : Type 0} (left : R → Option (List ℕ)) (taken failures : R → ℕ) (f g : R) (input : Waiting) → input ≡ nothing_read → FailsBehind left taken failures input f g → FailsToRead left taken failures f g MOST_BYTES
fails_all left taken failures f g input is fails =
    elim (subst (λ (w : Waiting). FailsBehind left taken failures w f g) is fails) [
      | inl changed ↦ inl changed
      | inr over ↦ inr (over.0, over_all (left f) MOST_BYTES over.1)
    ]

pub within_all : (left : Option (List ℕ)) (input : Waiting) → input ≡ nothing_read → IsWithin (coming input left) (budget input) → IsWithin left MOST_BYTES
within_all left input is few = by left (subst (λ (w : Waiting). IsWithin (coming w left) (budget w)) is few)
  where
    by : (left : Option (List ℕ)) → IsWithin (coming nothing_read left) MOST_BYTES → IsWithin left MOST_BYTES
    by None few = tt
    by (Some text) few = few

module _ {D : Type 0} (written : D → Option (List ℕ)) (failures : D → ℕ) (files : Handed) (names : KeysymTable) where
  answers_known : (left later : Option (List ℕ)) (k m : ℕ) (source : List ℕ) (content : Content) (d e : D) (r : Result (Unit {0}) ReplayFault)
      → ReadsSource (coming nothing_read left) k later m source true → Means source files names content → Replays written failures content names (known_lines later) d e r
      → IfSome left (λ text. Answers written failures text files names d e r)
  answers_known None later k m source content d e r read means replays = tt
  answers_known (Some text) later k m source content d e r read means replays =
      record {
        content = content;
        compiled = compiled_by (subst (λ s. Means s files names content) read.is means);
        means = subst (λ s. Means s files names content) read.is means;
        answers = subst (λ lines. Replays written failures content names lines d e r) (read.lines refl) replays;
      }

  session_ok : (left : Option (List ℕ)) (d e : D) → IfSome left (λ text. Answers written failures {A = Unit {0}} text files names d e (Ok tt))
      → IfSome left (λ text. AnswersSession written failures {A = Unit {0}} text files names d e (Ok tt))
  session_ok None d e h = tt
  session_ok (Some text) d e h = h

  session_err : (left : Option (List ℕ)) (d e : D) (fault : ReplayFault) → IfSome left (λ text. Answers written failures {A = Unit {0}} text files names d e (Err fault))
      → IfSome left (λ text. AnswersSession written failures {A = Unit {0}} text files names d e (Err (Replay fault)))
  session_err None d e fault h = tt
  session_err (Some text) d e fault h = inr h

  pub session_answered : (left later : Option (List ℕ)) (k m : ℕ) (input : Waiting) (source : List ℕ) (content : Content) (d e : D) (r : Result (Unit {0}) ReplayFault)
      → input ≡ nothing_read → ReadsSource (coming input left) k later m source true → Means source files names content → Replays written failures content names (known_lines later) d e r → r ≡ Ok tt
      → IfSome left (λ text. AnswersSession written failures {A = Unit {0}} text files names d e (Ok tt))
  session_answered left later k m input source content d e r is read means replays ok =
      session_ok left d e
      (subst (λ s. IfSome left (λ text. Answers written failures text files names d e s)) ok
      (answers_known left later k m source content d e r (subst (λ (w : Waiting). ReadsSource (coming w left) k later m source true) is read) means replays))

  pub session_stopped : (left later : Option (List ℕ)) (k m : ℕ) (input : Waiting) (source : List ℕ) (content : Content) (d e : D) (r : Result (Unit {0}) ReplayFault) (fault : ReplayFault)
      → input ≡ nothing_read → ReadsSource (coming input left) k later m source true → Means source files names content → Replays written failures content names (known_lines later) d e r → r ≡ Err fault
      → IfSome left (λ text. AnswersSession written failures {A = Unit {0}} text files names d e (Err (Replay fault)))
  session_stopped left later k m input source content d e r fault is read means replays err =
      session_err left d e fault
      (subst (λ s. IfSome left (λ text. Answers written failures text files names d e s)) err
      (answers_known left later k m source content d e r (subst (λ (w : Waiting). ReadsSource (coming w left) k later m source true) is read) means replays))

  refused_known : (left later : Option (List ℕ)) (k m : ℕ) (source : List ℕ) (has_lines : Bool) (d : D) (fault : Fault)
      → ReadsSource (coming nothing_read left) k later m source has_lines → (fault ≡ Memory) ⊎ HasFault source files names fault
      → IfSome left (λ text. AnswersSession written failures {A = Unit {0}} text files names d d (Err (Compile fault)))
  refused_known None later k m source has_lines d fault read has = tt
  refused_known (Some text) later k m source has_lines d fault read has = (refl, subst (λ s. (fault ≡ Memory) ⊎ HasFault s files names fault) read.is has)

  pub session_refused : (left later : Option (List ℕ)) (k m : ℕ) (input : Waiting) (source : List ℕ) (has_lines : Bool) (d : D) (fault : Fault)
      → input ≡ nothing_read → ReadsSource (coming input left) k later m source has_lines → (fault ≡ Memory) ⊎ HasFault source files names fault
      → IfSome left (λ text. AnswersSession written failures {A = Unit {0}} text files names d d (Err (Compile fault)))
  session_refused left later k m input source has_lines d fault is read has =
      refused_known left later k m source has_lines d fault (subst (λ (w : Waiting). ReadsSource (coming w left) k later m source has_lines) is read) has

  -- where there are no lines, nothing is answered
  appends_none : (known : Option (List ℕ)) → Appends known known []
  appends_none None = tt
  appends_none (Some bytes) = sym (append-nil bytes)

  silent : (content : Content) (d : D) → Replays written failures {A = Unit {0}} content names (Some []) d d (Ok tt)
  silent content d = ((refl, appends_none (written d)), refl)

  silent_known : (left later : Option (List ℕ)) (k m : ℕ) (source : List ℕ) (content : Content) (d : D)
      → ReadsSource (coming nothing_read left) k later m source false → Means source files names content
      → IfSome left (λ text. Answers written failures {A = Unit {0}} text files names d d (Ok tt))
  silent_known None later k m source content d read means = tt
  silent_known (Some text) later k m source content d read means =
      record {
        content = content;
        compiled = compiled_by (subst (λ s. Means s files names content) read.is means);
        means = subst (λ s. Means s files names content) read.is means;
        answers = subst (λ lines. Replays written failures {A = Unit {0}} content names (Some lines) d d (Ok tt)) (sym (read.none refl)) (silent content d);
      }

  pub session_silent : (left later : Option (List ℕ)) (k m : ℕ) (input : Waiting) (source : List ℕ) (content : Content) (d : D)
      → input ≡ nothing_read → ReadsSource (coming input left) k later m source false → Means source files names content
      → IfSome left (λ text. AnswersSession written failures {A = Unit {0}} text files names d d (Ok tt))
  session_silent left later k m input source content d is read means =
      session_ok left d d (silent_known left later k m source content d (subst (λ (w : Waiting). ReadsSource (coming w left) k later m source false) is read) means)
