-- What is answered while lines of events are read, and what that makes of each end.
use Rattle.std.proofs.Common.{◌≡◌, ◌≤◌, ◌==◌, ℕ, ◌+◌, true, false, List, [], ◌∷◌, ◌++◌, Option, None, Some, Result, Ok, Err, IfSome, IfErr, inl, inr, length, refl, sym, ap, ◌∙◌, subst, arith, append_assoc, append-nil}
use Rattle.std.specs.Io.KnownBytes.{Appends, IsAtEnd}
use Rattle.std.proofs.lemmas.List.{length-append}
use Rattle.ks_core.specs.Device.{Begins}
use Rattle.ks_core.specs.Table.{KeysymTable}
use Rattle.ks_core.specs.Lines.{lines_of}
use Rattle.ks_core.specs.BufferedOut.{Finishes, Gathered, Writes, nothing_gathered}
use Rattle.ks_core.proofs.DeviceLemmas.{Begins-longer}
use Rattle.ks_core.proofs.BufferedOutLemmas.{writes_nothing, writes_then, writes_finish}
use Rattle.kx_tables.specs.Content.{Content}
use Rattle.kx_tables.specs.Keymap.{keymap_of}
use Rattle.kx_run.specs.Player.{Played}
use Rattle.kx_run.specs.Replies.{world_after}
use Rattle.kx_run.specs.World.{World, opening}
use Rattle.kx_lines.specs.Answer.{answers_from}
use Rattle.kx_lines.specs.EventLines.{KeepsLine, Kept, events_in, well_formed_lines, is_well_formed}
use Rattle.kx_lines.specs.Input.{Came, Waiting, budget, coming}
use Rattle.kx_lines.specs.LineParts.{MovesPart}
use Rattle.kx_tool.specs.Putting.{FailsAt, PutsOrWaits, StopsAt}
use Rattle.kx_tool.specs.Replay.{Replays, answers_to, known_lines}
use Rattle.kx_lines.specs.declared.fault.ReplayFault.{ReplayFault}
use Rattle.kx_lines.specs.declared.fault.ReplayFault.TheVariants as faults
use Rattle.kx_tool.proofs.Answering.{answers_from-append, world_after-append, events_in-append}
use Rattle.kx_lines.proofs.Lines.{EachFree, EachIs, Free, joined, joined-more, each_free_more, each_is_more, well_formed_lines-all, well_formed_lines-append, well_formed_lines-stop, free_more, free_nothing, free_part, length-joined, lines_of-cut, lines_of-joined, lines_of-whole}
use Rattle.kx_lines.proofs.Reading.{came_more, came_moved, came_nothing}

-- the answers to lines that are all well formed
abbrev pub answers_by : Content → KeysymTable → List (List ℕ) → List ℕ
answers_by content names lines = answers_from content names opening (events_in lines)

abbrev pub world_by : Content → List (List ℕ) → World
world_by content lines = world_after (keymap_of content) opening (events_in lines)

module _ {D : Type 0} (written : D → Option (List ℕ)) (failures : D → ℕ) where
  -- Whole lines were read and answered, and a part of the next one was read.
  pub record AnsweredSoFar (content : Content) (names : KeysymTable) (old : Option (List ℕ)) (old_budget : ℕ) (new : Option (List ℕ)) (new_budget : ℕ) (d e : D) (buffered : Gathered) (kept : Kept) (played : Played) (number : ℕ) : Type 0 where
    pub done : List (List ℕ)
    pub part : List ℕ
    pub came : Came old old_budget new new_budget (joined done ++ part)
    pub done_free : EachFree done
    pub part_free : Free part
    pub formed : EachIs is_well_formed true done
    pub keeps : KeepsLine kept part
    pub numbered : number ≡ length done + 1
    pub played_is : played ≡ record { content = content; world = world_by content done }
    pub told : Writes written failures d nothing_gathered e buffered (answers_by content names done)

  pub answered_nothing : (content : Content) (names : KeysymTable) (old : Option (List ℕ)) (old_budget : ℕ) (d : D) (buffered : Gathered) (kept : Kept) (played : Played)
      → buffered ≡ nothing_gathered → KeepsLine kept [] → played ≡ record { content = content; world = opening } → AnsweredSoFar content names old old_budget old old_budget d d buffered kept played 1
  answered_nothing content names old old_budget d buffered kept played fresh keeps start =
      record {
        done = [];
        part = [];
        came = came_nothing old old_budget;
        done_free = tt;
        part_free = free_nothing;
        formed = tt;
        keeps = keeps;
        numbered = refl;
        played_is = start;
        told = subst (λ p. Writes written failures d nothing_gathered d p []) (sym fresh) (writes_nothing written failures d nothing_gathered);
      }

  -- what waited is put, and a new buffer begins
  pub writes_put : {A E : Type 0} (d e f : D) (p q : Gathered) (x : A) (text : List ℕ) → Writes written failures d nothing_gathered e p text → Finishes written failures {A = A} {E = E} e p f (Ok x) → q ≡ nothing_gathered
      → Writes written failures d nothing_gathered f q text
  writes_put {A} {E} d e f p q x text told finished fresh =
      let put = writes_finish written failures {A = A} {E = E} d e f p (Ok x) text told finished in
      subst (λ g. Writes written failures d nothing_gathered f g text) (sym fresh)
      (record {
        still = λ failed. absurd cc;
        gathers = λ formed. (refl, put.counted, record { sent = text; put = put.all; joined = sym (append-nil text) });
        begins = λ formed failed. absurd cc;
      })

  -- a part of a line that waited
  pub answered_part : (content : Content) (names : KeysymTable) (old left : Option (List ℕ)) (old_budget : ℕ) (w v : Waiting) (d e : D) (buffered : Gathered) (kept longer : Kept) (played : Played) (number : ℕ)
      → AnsweredSoFar content names old old_budget (coming w left) (budget w) d e buffered kept played number → MovesPart w v kept longer
      → AnsweredSoFar content names old old_budget (coming v left) (budget v) d e buffered longer played number
  answered_part content names old left old_budget w v d e buffered kept longer played number h moves =
      record {
        done = h.done;
        part = h.part ++ moves.part;
        came = subst (λ t. Came old old_budget (coming v left) (budget v) t) (append_assoc (joined h.done) h.part moves.part)
            (came_more old (coming w left) (coming v left) old_budget (budget w) (budget v) _ _ h.came (came_moved left w v kept longer moves));
        done_free = h.done_free;
        part_free = free_part h.part moves.part h.part_free moves.free;
        formed = h.formed;
        keeps = moves.keeps h.part h.keeps;
        numbered = h.numbered;
        played_is = h.played_is;
        told = h.told;
      }

  -- one more byte of a line
  pub answered_byte : (content : Content) (names : KeysymTable) (old mid new : Option (List ℕ)) (old_budget mid_budget new_budget : ℕ) (d e : D) (buffered : Gathered) (kept longer : Kept) (played : Played) (number byte : ℕ)
      → AnsweredSoFar content names old old_budget mid mid_budget d e buffered kept played number → Came mid mid_budget new new_budget (byte ∷ []) → (byte == 10) ≡ false
      → ((line : List ℕ) → KeepsLine kept line → KeepsLine longer (line ++ byte ∷ [])) → AnsweredSoFar content names old old_budget new new_budget d e buffered longer played number
  answered_byte content names old mid new old_budget mid_budget new_budget d e buffered kept longer played number byte h came other keeps =
      record {
        done = h.done;
        part = h.part ++ byte ∷ [];
        came = subst (λ t. Came old old_budget new new_budget t) (append_assoc (joined h.done) h.part (byte ∷ [])) (came_more old mid new old_budget mid_budget new_budget _ _ h.came came);
        done_free = h.done_free;
        part_free = free_more h.part byte h.part_free other;
        formed = h.formed;
        keeps = keeps h.part h.keeps;
        numbered = h.numbered;
        played_is = h.played_is;
        told = h.told;
      }

  -- a line is answered
  told_line : (content : Content) (names : KeysymTable) (done : List (List ℕ)) (line : List ℕ) (d e f : D) (p q : Gathered) (played : Played) → played ≡ record { content = content; world = world_by content done }
      → Writes written failures d nothing_gathered e p (answers_by content names done) → Writes written failures e p f q (answers_from played.content names played.world (events_in (line ∷ [])))
      → Writes written failures d nothing_gathered f q (answers_by content names (done ++ line ∷ []))
  told_line content names done line d e f p q played is h here =
      subst (λ t. Writes written failures d nothing_gathered f q t)
      (sym (ap (answers_from content names opening) (events_in-append done (line ∷ [])) ∙ answers_from-append content names opening (events_in done) (events_in (line ∷ []))))
      (writes_then written failures d e f nothing_gathered p q (answers_by content names done) _ h
      (subst (λ (w : Played). Writes written failures e p f q (answers_from w.content names w.world (events_in (line ∷ [])))) is here))

  world_line : (content : Content) (done : List (List ℕ)) (line : List ℕ) (played after : Played) → played ≡ record { content = content; world = world_by content done }
      → after ≡ record played { world = world_after (keymap_of played.content) played.world (events_in (line ∷ [])) } → after ≡ record { content = content; world = world_by content (done ++ line ∷ []) }
  world_line content done line played after is stepped =
      stepped
      ∙ ap (λ (w : Played). record w { world = world_after (keymap_of w.content) w.world (events_in (line ∷ [])) }) is
      ∙ ap (λ w. record { content = content; world = w })
      (sym (ap (world_after (keymap_of content) opening) (events_in-append done (line ∷ [])) ∙ world_after-append content opening (events_in done) (events_in (line ∷ []))))

  -- a whole line: its line feed came, it is well formed, and it is answered
  pub answered_line : (content : Content) (names : KeysymTable) (old mid new : Option (List ℕ)) (old_budget mid_budget new_budget : ℕ) (d e f : D) (p q : Gathered) (kept empty : Kept) (played after : Played) (number : ℕ)
      → AnsweredSoFar content names old old_budget mid mid_budget d e p kept played number → Came mid mid_budget new new_budget (10 ∷ [])
      → ((line : List ℕ) → KeepsLine kept line → true ≡ is_well_formed line)
      → ((line : List ℕ) → KeepsLine kept line → Writes written failures e p f q (answers_from played.content names played.world (events_in (line ∷ []))))
      → ((line : List ℕ) → KeepsLine kept line → after ≡ record played { world = world_after (keymap_of played.content) played.world (events_in (line ∷ [])) })
      → KeepsLine empty [] → AnsweredSoFar content names old old_budget new new_budget d f q empty after (number + 1)
  answered_line content names old mid new old_budget mid_budget new_budget d e f p q kept empty played after number h came formed told stepped keeps =
      record {
        done = h.done ++ h.part ∷ [];
        part = [];
        came = subst (λ t. Came old old_budget new new_budget t)
            (append_assoc (joined h.done) h.part (10 ∷ []) ∙ sym (joined-more h.done h.part) ∙ sym (append-nil (joined (h.done ++ h.part ∷ []))))
            (came_more old mid new old_budget mid_budget new_budget _ _ h.came came);
        done_free = each_free_more h.done h.part h.done_free h.part_free;
        part_free = free_nothing;
        formed = each_is_more is_well_formed true h.done h.part h.formed (sym (formed h.part h.keeps));
        keeps = keeps;
        numbered = omega (arith, h.numbered, length-append h.done (h.part ∷ []));
        played_is = world_line content h.done h.part played after h.played_is (stepped h.part h.keeps);
        told = told_line content names h.done h.part d e f p q played h.played_is h.told (told h.part h.keeps);
      }

  -- the number of the next line is small, since each line takes a byte
  pub number_small : (content : Content) (names : KeysymTable) (old new : Option (List ℕ)) (old_budget new_budget : ℕ) (d e : D) (buffered : Gathered) (kept : Kept) (played : Played) (number : ℕ)
      → AnsweredSoFar content names old old_budget new new_budget d e buffered kept played number → number ≤ old_budget + 1
  number_small content names old new old_budget new_budget d e buffered kept played number h =
      omega (arith, h.numbered, h.came.spent, length-append (joined h.done) h.part, length-joined h.done)

  -- ---- The ends

  -- the answers so far are a beginning of all
  pub begins_all : (content : Content) (names : KeysymTable) (a b : Option (List ℕ)) (done rest : List (List ℕ)) → EachIs is_well_formed true done → Begins a b (answers_by content names done)
      → Begins a b (answers_to content names (done ++ rest))
  begins_all content names a b done rest formed begun =
      subst (λ t. Begins a b t)
      (sym (ap (λ ls. answers_by content names ls) (well_formed_lines-append done rest formed) ∙ ap (answers_from content names opening) (events_in-append done (well_formed_lines rest))
      ∙ answers_from-append content names opening (events_in done) (events_in (well_formed_lines rest))))
      (Begins-longer a b (answers_by content names done) _ begun)

  -- a fact of the known bytes, of which some came
  known_by : (old new : Option (List ℕ)) (m n : ℕ) (bytes : List ℕ) (P : List (List ℕ) → Type 0) → Came old m new n bytes
      → ((rest : List ℕ) → new ≡ Some rest → P (lines_of (bytes ++ rest))) → IfSome (known_lines old) P
  known_by None new m n bytes P came fact = tt
  known_by (Some text) None m n bytes P came fact = absurd came.consumed
  known_by (Some text) (Some rest) m n bytes P came fact = subst (λ t. P (lines_of t)) (sym came.consumed) (fact rest refl)

  -- what waits may be put before the next byte comes
  pub answered_put : (content : Content) (names : KeysymTable) (old new : Option (List ℕ)) (old_budget new_budget : ℕ) (d e f : D) (p q : Gathered) (kept : Kept) (played : Played) (number : ℕ)
      → AnsweredSoFar content names old old_budget new new_budget d e p kept played number → PutsOrWaits written failures e p f q → AnsweredSoFar content names old old_budget new new_budget d f q kept played number
  answered_put content names old new old_budget new_budget d e f p q kept played number h put =
      record {
        done = h.done;
        part = h.part;
        came = h.came;
        done_free = h.done_free;
        part_free = h.part_free;
        formed = h.formed;
        keeps = h.keeps;
        numbered = h.numbered;
        played_is = h.played_is;
        told = elim put [
          | inl done ↦ writes_put d e f p q tt (answers_by content names h.done) h.told done.0 done.1
          | inr still ↦ subst (λ g. Writes written failures d nothing_gathered g q (answers_by content names h.done)) (sym still.0)
              (subst (λ (g : Gathered). Writes written failures d nothing_gathered e g (answers_by content names h.done)) (sym still.1) h.told)
        ];
      }

  -- the lines that are still to come follow those that are answered
  lines_after : (done : List (List ℕ)) (part rest : List ℕ) → EachFree done → lines_of ((joined done ++ part) ++ rest) ≡ done ++ lines_of (part ++ rest)
  lines_after done part rest free = ap lines_of (append_assoc (joined done) part rest) ∙ lines_of-joined done (part ++ rest) free

  begun_known : (content : Content) (names : KeysymTable) (old new : Option (List ℕ)) (old_budget new_budget : ℕ) (d e g : D) (buffered : Gathered) (kept : Kept) (played : Played) (number : ℕ)
      (h : AnsweredSoFar content names old old_budget new new_budget d e buffered kept played number) → Begins (written d) (written g) (answers_by content names h.done)
      → IfSome (known_lines old) (λ all. Begins (written d) (written g) (answers_to content names all))
  begun_known content names old new old_budget new_budget d e g buffered kept played number h begun =
      known_by old new old_budget new_budget (joined h.done ++ h.part) (λ all. Begins (written d) (written g) (answers_to content names all)) h.came
      (λ rest is. subst (λ all. Begins (written d) (written g) (answers_to content names all)) (sym (lines_after h.done h.part rest h.done_free))
      (begins_all content names (written d) (written g) h.done (lines_of (h.part ++ rest)) h.formed begun))

  all_begun : (a b : Option (List ℕ)) (text : List ℕ) → Appends a b text → Begins a b text
  all_begun a b text put = record { part = text; rest = []; parted = sym (append-nil text); put = put }

  -- no next byte comes
  pub replays_failed : (content : Content) (names : KeysymTable) (old new : Option (List ℕ)) (old_budget new_budget : ℕ) (d e g : D) (buffered : Gathered) (kept : Kept) (played : Played) (number : ℕ) (reading : Type 0) (fault : ReplayFault)
      → AnsweredSoFar content names old old_budget new new_budget d e buffered kept played number → FailsAt written failures reading e buffered g fault
      → Replays written failures {A = Unit {0}} content names (known_lines old) d g (Err fault)
  replays_failed content names old new old_budget new_budget d e g buffered kept played number reading faults.Memory h failed = absurd failed
  replays_failed content names old new old_budget new_budget d e g buffered kept played number reading (faults.Image x) h failed = absurd failed
  replays_failed content names old new old_budget new_budget d e g buffered kept played number reading (faults.Line x) h failed = absurd failed
  replays_failed content names old new old_budget new_budget d e g buffered kept played number reading faults.Read h failed =
      let put = writes_finish written failures {A = Unit {0}} {E = ReplayFault} d e g buffered (Ok tt) (answers_by content names h.done) h.told failed.1 in
      (begun_known content names old new old_budget new_budget d e g buffered kept played number h (all_begun (written d) (written g) _ put.all), put.counted)
  replays_failed content names old new old_budget new_budget d e g buffered kept played number reading faults.Write h failed =
      let put = writes_finish written failures {A = Unit {0}} {E = ReplayFault} d e g buffered (Err faults.Write) (answers_by content names h.done) h.told failed in
      (begun_known content names old new old_budget new_budget d e g buffered kept played number h put.begun, put.counted)

  pub failed_reading : (e g : D) (buffered : Gathered) (reading : Type 0) (fault : ReplayFault) → FailsAt written failures reading e buffered g fault → fault ≡ faults.Read → reading
  failed_reading e g buffered reading faults.Memory failed is = absurd failed
  failed_reading e g buffered reading (faults.Image x) failed is = absurd failed
  failed_reading e g buffered reading (faults.Line x) failed is = absurd failed
  failed_reading e g buffered reading faults.Read failed is = failed.0
  failed_reading e g buffered reading faults.Write failed is = cc

  -- The line that is read is a whole one of the known lines: others may follow it.
  pub record LineComes (old : Option (List ℕ)) (done : List (List ℕ)) (line : List ℕ) : Type 0 where
    pub known : IfSome (known_lines old) (λ all. (more : List (List ℕ)) × (all ≡ done ++ line ∷ more))

  pub line_ends : (content : Content) (names : KeysymTable) (old new : Option (List ℕ)) (old_budget new_budget : ℕ) (d e : D) (buffered : Gathered) (kept : Kept) (played : Played) (number : ℕ)
      (h : AnsweredSoFar content names old old_budget new new_budget d e buffered kept played number) → IsAtEnd new → IfSome (known_lines old) (λ all. all ≡ h.done ++ h.part ∷ [])
  line_ends content names old new old_budget new_budget d e buffered kept played number h end =
      known_by old new old_budget new_budget (joined h.done ++ h.part) (λ all. all ≡ h.done ++ h.part ∷ []) h.came
      (λ rest is. ap (λ r. lines_of ((joined h.done ++ h.part) ++ r)) (subst IsAtEnd is end) ∙ ap lines_of (append-nil (joined h.done ++ h.part)) ∙ lines_of-whole h.done h.part h.done_free h.part_free)

  pub line_comes_last : (old : Option (List ℕ)) (done : List (List ℕ)) (line : List ℕ) → IfSome (known_lines old) (λ all. all ≡ done ++ line ∷ []) → LineComes old done line
  line_comes_last None done line known = record { known = tt }
  line_comes_last (Some text) done line known = record { known = ([], known) }

  pub line_comes : (content : Content) (names : KeysymTable) (old mid new : Option (List ℕ)) (old_budget mid_budget new_budget : ℕ) (d e : D) (buffered : Gathered) (kept : Kept) (played : Played) (number : ℕ)
      (h : AnsweredSoFar content names old old_budget mid mid_budget d e buffered kept played number) → Came mid mid_budget new new_budget (10 ∷ []) → LineComes old h.done h.part
  line_comes content names old mid new old_budget mid_budget new_budget d e buffered kept played number h came =
      record {
        known = known_by old new old_budget new_budget ((joined h.done ++ h.part) ++ 10 ∷ []) (λ all. (more : List (List ℕ)) × (all ≡ h.done ++ h.part ∷ more))
            (came_more old mid new old_budget mid_budget new_budget (joined h.done ++ h.part) (10 ∷ []) h.came came)
            (λ rest is. (lines_of rest, lines_of-cut h.done h.part rest h.done_free h.part_free));
      }

  stopped_known : (content : Content) (names : KeysymTable) (old : Option (List ℕ)) (done : List (List ℕ)) (line : List ℕ) (number : ℕ) (d g : D) → LineComes old done line → EachIs is_well_formed true done → is_well_formed line ≡ false
      → number ≡ length done + 1 → Appends (written d) (written g) (answers_by content names done)
      → IfSome (known_lines old) (λ all. (number ≡ length (well_formed_lines all) + 1) × (number ≤ length all) × Appends (written d) (written g) (answers_to content names all))
  stopped_known content names None done line number d g comes formed bad numbered put = tt
  stopped_known content names (Some text) done line number d g comes formed bad numbered put =
      let more = comes.known.0 in
      let is = comes.known.1 in
      let good : well_formed_lines (lines_of text) ≡ done = ap well_formed_lines is ∙ well_formed_lines-stop done line more formed bad in (
        numbered ∙ ap (λ ls. length ls + 1) (sym good),
        omega (arith, numbered, ap length is, length-append done (line ∷ more)),
        subst (λ ls. Appends (written d) (written g) (answers_by content names ls)) (sym good) put,
      )

  -- a line that is neither empty nor an event ends the answers, unless the writer failed
  pub replays_stopped : (content : Content) (names : KeysymTable) (old new : Option (List ℕ)) (old_budget new_budget : ℕ) (d e g : D) (buffered : Gathered) (kept : Kept) (played : Played) (number : ℕ) (fault : ReplayFault)
      (h : AnsweredSoFar content names old old_budget new new_budget d e buffered kept played number) → LineComes old h.done h.part → StopsAt written failures kept number e buffered g fault
      → Replays written failures {A = Unit {0}} content names (known_lines old) d g (Err fault)
  replays_stopped content names old new old_budget new_budget d e g buffered kept played number faults.Memory h comes stops = absurd stops
  replays_stopped content names old new old_budget new_budget d e g buffered kept played number (faults.Image x) h comes stops = absurd stops
  replays_stopped content names old new old_budget new_budget d e g buffered kept played number faults.Read h comes stops = absurd stops
  replays_stopped content names old new old_budget new_budget d e g buffered kept played number faults.Write h comes stops =
      let put = writes_finish written failures {A = Unit {0}} {E = ReplayFault} d e g buffered (Err faults.Write) (answers_by content names h.done) h.told stops in
      (begun_known content names old new old_budget new_budget d e g buffered kept played number h put.begun, put.counted)
  replays_stopped content names old new old_budget new_budget d e g buffered kept played number (faults.Line stop) h comes stops =
      let put = writes_finish written failures {A = Unit {0}} {E = ReplayFault} d e g buffered (Ok tt) (answers_by content names h.done) h.told stops.2 in
      (stopped_known content names old h.done h.part stop d g comes h.formed (stops.1 h.part h.keeps) (stops.0 ∙ h.numbered) put.all, put.counted)

  -- all lines are answered, and what waits is put
  pub replays_ended : (content : Content) (names : KeysymTable) (old new : Option (List ℕ)) (old_budget new_budget : ℕ) (d e f g : D) (buffered last : Gathered) (kept : Kept) (played : Played) (number : ℕ) (r : Result (Unit {0}) ReplayFault)
      (h : AnsweredSoFar content names old old_budget new new_budget d e buffered kept played number) → IsAtEnd new → true ≡ is_well_formed h.part
      → Writes written failures e buffered f last (answers_from played.content names played.world (events_in (h.part ∷ [])))
      → Finishes written failures f last g r → IfErr r (λ fault. fault ≡ faults.Write) → Replays written failures content names (known_lines old) d g r
  replays_ended content names old new old_budget new_budget d e f g buffered last kept played number (Ok x) h end formed told finished write =
      let put = writes_finish written failures {A = Unit {0}} {E = ReplayFault} d f g last (Ok x) _ (told_line content names h.done h.part d e f buffered last played h.played_is h.told told) finished in
      let each = each_is_more is_well_formed true h.done h.part h.formed (sym formed) in
      (ended old (line_ends content names old new old_budget new_budget d e buffered kept played number h end) each put.all, put.counted)
    where
      ended : (old : Option (List ℕ)) → IfSome (known_lines old) (λ all. all ≡ h.done ++ h.part ∷ []) → EachIs is_well_formed true (h.done ++ h.part ∷ []) → Appends (written d) (written g) (answers_by content names (h.done ++ h.part ∷ []))
          → IfSome (known_lines old) (λ all. (well_formed_lines all ≡ all) × Appends (written d) (written g) (answers_to content names all))
      ended None is each put = tt
      ended (Some text) is each put =
          let all = well_formed_lines-all (h.done ++ h.part ∷ []) each in (
            ap well_formed_lines is ∙ all ∙ sym is,
            subst (λ ls. Appends (written d) (written g) (answers_by content names ls)) (sym (ap well_formed_lines is ∙ all)) put,
          )
  replays_ended content names old new old_budget new_budget d e f g buffered last kept played number (Err fault) h end formed told finished write =
      let whole = told_line content names h.done h.part d e f buffered last played h.played_is h.told told in
      let put = writes_finish written failures {A = Unit {0}} {E = ReplayFault} d f g last (Err fault) _ whole finished in
      subst (λ r. Replays written failures {A = Unit {0}} content names (known_lines old) d g (Err r)) (sym write)
      (broken old (line_ends content names old new old_budget new_budget d e buffered kept played number h end) (each_is_more is_well_formed true h.done h.part h.formed (sym formed)) put.begun, put.counted)
    where
      broken : (old : Option (List ℕ)) → IfSome (known_lines old) (λ all. all ≡ h.done ++ h.part ∷ []) → EachIs is_well_formed true (h.done ++ h.part ∷ []) → Begins (written d) (written g) (answers_by content names (h.done ++ h.part ∷ []))
          → IfSome (known_lines old) (λ all. Begins (written d) (written g) (answers_to content names all))
      broken None is each begun = tt
      broken (Some text) is each begun =
          subst (λ ls. Begins (written d) (written g) (answers_by content names ls)) (sym (ap well_formed_lines is ∙ well_formed_lines-all (h.done ++ h.part ∷ []) each)) begun
