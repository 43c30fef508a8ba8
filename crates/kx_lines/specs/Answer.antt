-- The lines that answer events.
use Rattle.std.specs.Prelude.{ℕ, ◌+◌, ◌==◌, List, [], ◌∷◌, ◌++◌, codes, decimal, length, map, if◌then◌else◌}
use Rattle.ks_core.specs.Table.{KeysymTable}
use Rattle.ks_core.specs.Names.{name_of_keysym}
use Rattle.ks_core.specs.PrintedName.{printed_name}
use Rattle.kx_tables.specs.Content.{Content, indicator_name}
use Rattle.kx_tables.specs.Keymap.{keymap_of}
use Rattle.kx_tables.specs.declared.rows.IndicatorRow.{IndicatorRow}
use Rattle.kx_run.specs.Replies.{Answer, Glance, Status, run}
use Rattle.kx_run.specs.World.{World}
use Rattle.kx_run.specs.declared.direction.Direction.{Direction}
use Rattle.kx_run.specs.declared.direction.Direction.TheVariants.{Down, Up}
use Rattle.kx_run.specs.declared.direction.Event.{Event}
use Rattle.kx_mods.specs.Mods.{mod_names}
use Rattle.kx_print.specs.Masks.{chosen, set_text}
use Rattle.kx_print.specs.Phrases.{joined}

-- modifiers after a label, as printed text writes them
abbrev pub mods_text : List ℕ → ℕ → List ℕ
mods_text label mask = label ++ set_text mod_names mask

-- keysyms joined by commas, by the names that are written for them
abbrev pub keysym_names : KeysymTable → List ℕ → List ℕ
keysym_names names keysyms = joined (codes ",") (map (name_of_keysym names) keysyms)

-- `?` for an unknown code, `-` for no keysym
abbrev pub keysyms_text : KeysymTable → Glance → List ℕ
keysyms_text names look =
    if look.known then (if length look.syms == 0 then codes "-" else keysym_names names look.syms) else codes "?"

abbrev pub direction_text : Direction → List ℕ
direction_text Down = codes " down "
direction_text Up = codes " up "

abbrev pub event_text : Event → List ℕ
event_text event = decimal event.code ++ direction_text event.direction

-- the consumed modifiers, and those of the state
abbrev pub all_mods_text : ℕ → Status → List ℕ
all_mods_text consumed state =
    mods_text (codes " consumed=") consumed
    ++ (mods_text (codes " base=") state.base ++ (mods_text (codes " latched=") state.latched ++ mods_text (codes " locked=") state.locked))

-- the effective group, counted from 1
abbrev pub group_text : Status → List ℕ
group_text state = codes " group=" ++ decimal (state.effective_group + 1)

-- an indicator's name as printed text writes it
abbrev pub lit_name : Content → IndicatorRow → List ℕ
lit_name content row = printed_name (indicator_name content row)

-- the lit indicators joined by commas
abbrev pub lit_names : Content → ℕ → List ℕ
lit_names content lit = joined (codes ",") (chosen lit (map (lit_name content) content.indicators))

-- they, where there are any
abbrev pub lit_text : Content → ℕ → List ℕ
lit_text content lit = if lit == 0 then [] else codes " lit=" ++ lit_names content lit

-- the end of an answer: the modifiers, the group and the lit indicators
abbrev pub tail_text : Content → Answer → List ℕ
tail_text content answer =
    all_mods_text answer.look.consumed answer.state ++ (group_text answer.state ++ (lit_text content answer.lit ++ 10 ∷ []))

-- the same where no indicator is lit
abbrev pub unlit_tail : ℕ → Status → List ℕ
unlit_tail consumed state = all_mods_text consumed state ++ (group_text state ++ 10 ∷ [])

-- the line that answers an event
unfoldable pub answer_line : Content → KeysymTable → Event → Answer → List ℕ
answer_line content names event answer = event_text event ++ (keysyms_text names answer.look ++ tail_text content answer)

-- a line for each event with its reply
abbrev pub lines_with : Content → KeysymTable → List Event → List Answer → List ℕ
lines_with content names (event ∷ events) (answer ∷ answers) =
    answer_line content names event answer ++ lines_with content names events answers
lines_with content names _ _ = []

-- the lines that answer events in a state of the keyboard: one for each reply of the run
abbrev pub answers_from : Content → KeysymTable → World → List Event → List ℕ
answers_from content names world events = lines_with content names events (run (keymap_of content) world events)
