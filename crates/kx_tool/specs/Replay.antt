-- How event lines are answered, and what is left where answering ends early.
use Rattle.std.specs.Prelude.{◌≡◌, ◌≢◌, ◌+◌, ◌≤◌, ◌⊎◌, ℕ, List, Option, Some, Result, Ok, Err, length, IfSome}
use Rattle.std.specs.Option.{option_map}
use Rattle.std.specs.Io.KnownBytes.{Appends}
use Rattle.ks_core.specs.Device.{Begins}
use Rattle.ks_core.specs.Table.{KeysymTable}
use Rattle.ks_core.specs.Lines.{lines_of}
use Rattle.kx_image.specs.Image.{IsImage, HasImageFault}
use Rattle.kx_image.specs.declared.fault.ImageFault.{ImageFault}
use Rattle.kx_tables.specs.Content.{Content}
use Rattle.kx_tables.specs.Keymap.{keymap_of}
use Rattle.kx_run.specs.World.{opening}
use Rattle.kx_include.specs.Source.{Handed}
use Rattle.kx_source.specs.Source.{HasFault, Means}
use Rattle.kx_lex.specs.declared.fault.Fault.TheVariants.{Memory}
use Rattle.kx_lines.specs.Answer.{answers_from}
use Rattle.kx_tool.specs.Compiled.{IsCompiled}
use Rattle.kx_lines.specs.EventLines.{events_in, well_formed_lines}
use Rattle.kx_lines.specs.Sources.{lines_in, source_in}
use Rattle.kx_lines.specs.declared.fault.ReplayFault.{ReplayFault}
use Rattle.kx_lines.specs.declared.fault.ReplayFault.TheVariants as faults
use Rattle.kx_lines.specs.declared.fault.SessionFault.{SessionFault}
use Rattle.kx_lines.specs.declared.fault.SessionFault.TheVariants.{Compile, Replay}

-- the lines of known bytes
abbrev pub known_lines : Option (List ℕ) → Option (List (List ℕ))
known_lines bytes = option_map lines_of bytes

-- the answers to the lines before the first that is neither empty nor an event
abbrev pub answers_to : Content → KeysymTable → List (List ℕ) → List ℕ
answers_to content names lines = answers_from content names opening (events_in (well_formed_lines lines))

-- the bytes are no image, for this fault, and nothing is written
pub record RefusesImage {A D : Type 0} (bytes : List ℕ) (d e : D) (r : Result A ReplayFault) : Type 0 where
  pub fault : ImageFault
  pub is : r ≡ Err (faults.Image fault)
  pub has : HasImageFault bytes fault
  pub still : e ≡ d

-- `written` and `failures` read the bytes that a writer holds, where they are known, and its count of failures
module _ {D : Type 0} (written : D → Option (List ℕ)) (failures : D → ℕ) where
  -- Lines are answered from a keymap's tables by a writer d, which is left as e: each line, or those before the first that is neither
  -- empty nor an event, which is named by its number from 1; or a beginning of the answers, where a device failed.
  abbrev pub Replays : {A : Type 0} → Content → KeysymTable → Option (List (List ℕ)) → D → D → Result A ReplayFault → Type 0
  Replays content names lines d e (Ok x) =
      IfSome lines (λ all. (well_formed_lines all ≡ all) × Appends (written d) (written e) (answers_to content names all))
      × (failures e ≡ failures d)
  Replays content names lines d e (Err faults.Memory) = e ≡ d
  Replays content names lines d e (Err (faults.Image fault)) = ⊥
  Replays content names lines d e (Err (faults.Line number)) =
      IfSome lines (λ all. (number ≡ length (well_formed_lines all) + 1) × (number ≤ length all) × Appends (written d) (written e) (answers_to content names all))
      × (failures e ≡ failures d)
  Replays content names lines d e (Err faults.Read) =
      IfSome lines (λ all. Begins (written d) (written e) (answers_to content names all)) × (failures e ≡ failures d)
  Replays content names lines d e (Err faults.Write) =
      IfSome lines (λ all. Begins (written d) (written e) (answers_to content names all)) × (failures e ≢ failures d)

  -- the bytes are the image of tables, from which the lines are answered
  pub record ReplaysImage {A : Type 0} (bytes : List ℕ) (names : KeysymTable) (lines : Option (List (List ℕ))) (d e : D) (r : Result A ReplayFault) : Type 0 where
    pub content : Content
    pub image : IsImage content bytes
    pub answers : Replays content names lines d e r

  -- the text's source is compiled to tables, from which the lines after it are answered
  pub record Answers {A : Type 0} (text : List ℕ) (files : Handed) (names : KeysymTable) (d e : D) (r : Result A ReplayFault) : Type 0 where
    pub content : Content
    pub compiled : IsCompiled (source_in text) files names (keymap_of content)
    pub means : Means (source_in text) files names content
    pub answers : Replays content names (Some (lines_in text)) d e r

  -- a session over a text: where its source is refused, and where it can't be read whole, nothing is written
  abbrev pub AnswersSession : {A : Type 0} → List ℕ → Handed → KeysymTable → D → D → Result A SessionFault → Type 0
  AnswersSession text files names d e (Ok x) = Answers text files names d e (Ok x)
  AnswersSession text files names d e (Err (Compile fault)) =
      (e ≡ d) × ((fault ≡ Memory) ⊎ HasFault (source_in text) files names fault)
  AnswersSession {A} text files names d e (Err (Replay fault)) =
      ((fault ≡ faults.Read) × (e ≡ d)) ⊎ Answers {A = A} text files names d e (Err fault)
