-- The answers to lines of events, a line at a time.
use Rattle.std.proofs.Common.{◌≡◌, ℕ, List, [], ◌∷◌, ◌++◌, refl, sym, ap, ◌∙◌, append_assoc}
use Rattle.std.proofs.lemmas.List.Elements.{filter_map-append}
use Rattle.ks_core.specs.Table.{KeysymTable}
use Rattle.kx_tables.specs.Content.{Content}
use Rattle.kx_tables.specs.Keymap.{keymap_of}
use Rattle.kx_run.specs.Replies.{answer, world_after}
use Rattle.kx_run.specs.World.{World, step}
use Rattle.kx_run.specs.declared.direction.Event.{Event}
use Rattle.kx_lines.specs.Answer.{answer_line, answers_from}
use Rattle.kx_lines.specs.EventLines.{event_of, events_in}

pub answers_from-append : (content : Content) (names : KeysymTable) (world : World) (xs ys : List Event) → answers_from content names world (xs ++ ys)
    ≡ answers_from content names world xs ++ answers_from content names (world_after (keymap_of content) world xs) ys
answers_from-append content names world [] ys = refl
answers_from-append content names world (event ∷ xs) ys =
    let first = answer_line content names event (answer (keymap_of content) world event.code event.direction) in
    let next = step (keymap_of content) world event.code event.direction in
    ap (λ t. first ++ t) (answers_from-append content names next xs ys)
    ∙ sym (append_assoc first (answers_from content names next xs) (answers_from content names (world_after (keymap_of content) next xs) ys))

pub world_after-append : (content : Content) (world : World) (xs ys : List Event) → world_after (keymap_of content) world (xs ++ ys) ≡ world_after (keymap_of content) (world_after (keymap_of content) world xs) ys
world_after-append content world [] ys = refl
world_after-append content world (event ∷ xs) ys = world_after-append content (step (keymap_of content) world event.code event.direction) xs ys

pub events_in-append : (lines rest : List (List ℕ)) → events_in (lines ++ rest) ≡ events_in lines ++ events_in rest
events_in-append lines rest = filter_map-append event_of lines rest

-- an empty line is no event
pub no_event : (text : List ℕ) → text ≡ [] → events_in (text ∷ []) ≡ []
unfolding event_of
no_event text is = ap (λ t. events_in (t ∷ [])) is
