-- What the structs of C say of keyboards.
use Rattle.std.specs.Prelude.{◌≡◌, ◌==◌, ◌≤◌, ℕ, Bool, false, not, true, take}
use Rattle.kx_run.specs.Player.{Played}
use Rattle.kx_run.specs.Replies.{Answer, Glance, Status, answer}
use Rattle.kx_run.specs.World.{step}
use Rattle.kx_run.specs.declared.direction.Direction.{Direction}
use Rattle.kx_run.specs.declared.direction.Direction.TheVariants.{Down, Up}
use Rattle.kx_tables.specs.Keymap.{keymap_of}
use Rattle.kx_calls.specs.declared.reply.XkcLook.{XkcLook}
use Rattle.kx_calls.specs.declared.reply.XkcReply.{XkcReply}
use Rattle.kx_calls.specs.declared.state.XkcState.{XkcState}

abbrev pub byte : Bool → ℕ
byte true = 1
byte false = 0

abbrev pub status : XkcState → Status
status s =
    record {
      base = s.base;
      latched = s.latched;
      locked = s.locked;
      base_group = s.base_group;
      latched_group = s.latched_group;
      locked_group = s.locked_group;
      effective_group = s.effective_group;
    }

abbrev pub told : XkcReply → Answer
told r =
    record {
      look = record { known = r.known == 1; syms = take r.count r.keysyms; consumed = r.consumed };
      state = status r.state;
      lit = r.lit;
    }

abbrev pub glimpsed : XkcLook → Glance
glimpsed l = record { known = l.known == 1; syms = take l.count l.keysyms; consumed = l.consumed }

-- a reply's count counts places that it has, and its truths are 0 or 1
abbrev pub IsReply : XkcReply → Answer → Type 0
IsReply r answer = (told r ≡ answer) × ((r.count ≤ 8) × (r.known ≤ 1))

abbrev pub IsLook : XkcLook → Glance → Type 0
IsLook l glance = (glimpsed l ≡ glance) × ((l.count ≤ 8) × (l.known ≤ 1))

abbrev pub direction : Bool → Direction
direction true = Down
direction false = Up

-- a press is told by any number but 0
abbrev pub told_direction : ℕ → Direction
told_direction down = direction (not (down == 0))

-- a keyboard after an event
abbrev pub behind : Played → ℕ → ℕ → Played
behind p code down = record p { world = step (keymap_of p.content) p.world code (told_direction down) }

abbrev pub reply_to : Played → ℕ → ℕ → Answer
reply_to p code down = answer (keymap_of p.content) p.world code (told_direction down)
