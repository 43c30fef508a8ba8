-- Actions as calls.
use Rattle.std.specs.Prelude.{ℕ, pos, negsuc, ◌+◌, Bool, true, false, List, [], ◌++◌, codes, decimal, if◌then◌else◌}
use Rattle.kx_mods.specs.declared.mods.Mods.{Mods}
use Rattle.kx_tables.specs.declared.rows.Action.{Action}
use Rattle.kx_tables.specs.declared.rows.Action.TheVariants as actions
use Rattle.kx_tables.specs.declared.rows.GroupChange.{GroupChange}
use Rattle.kx_tables.specs.declared.rows.GroupChange.TheVariants.{Absolute, Relative}
use Rattle.kx_print.specs.Masks.{mods_text}

-- an absolute group is counted from 1, a relative one has a sign
abbrev pub change_text : GroupChange → List ℕ
change_text (Absolute group) = decimal (group + 1)
change_text (Relative (pos n)) = codes "+" ++ decimal n
change_text (Relative (negsuc n)) = codes "-" ++ decimal (n + 1)

abbrev pub mods_argument : Mods → List ℕ
mods_argument mods = codes "modifiers=" ++ mods_text mods

abbrev pub group_argument : GroupChange → List ℕ
group_argument change = codes "group=" ++ change_text change

-- a word after other arguments, where it is set
abbrev pub flag : List ℕ → Bool → List ℕ
flag word is_set = if is_set then codes "," ++ word else []

-- what LockMods does not do; `both` is not written
abbrev pub affect : Bool → Bool → List ℕ
affect true true = []
affect true false = codes ",affect=lock"
affect false true = codes ",affect=unlock"
affect false false = codes ",affect=neither"

abbrev pub call : List ℕ → List ℕ → List ℕ
call word arguments = word ++ (codes "(" ++ (arguments ++ codes ")"))

abbrev pub action_text : Action → List ℕ
action_text actions.None = call (codes "NoAction") []
action_text (actions.SetMods mods clear_locks) =
    call (codes "SetMods") (mods_argument mods ++ flag (codes "clearLocks") clear_locks)
action_text (actions.LatchMods mods clear_locks latch_to_lock) =
    call (codes "LatchMods") (mods_argument mods ++ (flag (codes "clearLocks") clear_locks ++ flag (codes "latchToLock") latch_to_lock))
action_text (actions.LockMods mods locks unlocks) = call (codes "LockMods") (mods_argument mods ++ affect locks unlocks)
action_text (actions.SetGroup group clear_locks) =
    call (codes "SetGroup") (group_argument group ++ flag (codes "clearLocks") clear_locks)
action_text (actions.LatchGroup group clear_locks latch_to_lock) =
    call (codes "LatchGroup") (group_argument group ++ (flag (codes "clearLocks") clear_locks ++ flag (codes "latchToLock") latch_to_lock))
action_text (actions.LockGroup group) = call (codes "LockGroup") (group_argument group)
