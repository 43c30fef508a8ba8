-- What the printed key statements of tables say.
use Rattle.std.specs.Prelude.{ℕ, pos, negsuc, ◌+◌, Bool, true, false, List, [], ◌∷◌, ◌++◌, codes, map, if◌then◌else◌}
use Rattle.kx_builder.specs.Resolved.{ResolvedCell}
use Rattle.ks_core.specs.Name.{is_word}
use Rattle.kx_mods.specs.Mods.{mask, mod_names}
use Rattle.kx_mods.specs.declared.mods.Mods.{Mods}
use Rattle.kx_print.specs.Printed.{keysym_text}
use Rattle.kx_tables.specs.declared.rows.Action.{Action}
use Rattle.kx_tables.specs.declared.rows.Action.TheVariants as actions
use Rattle.kx_tables.specs.declared.rows.GroupChange.{GroupChange}
use Rattle.kx_tables.specs.declared.rows.GroupChange.TheVariants.{Absolute, Relative}
use Rattle.kx_tables.specs.declared.rows.Range.{Range}
use Rattle.kx_tables.specs.declared.rows.Range.TheVariants.{Wrap, Clamp, Redirect}
use Rattle.roundtrip_text.specs.KeyPhrases.{KeysymPhrase, Worded, Numbered, ArgumentPhrase, Flag, Words, Natural, Signed, CallPhrase, FieldPhrase, Clamped, RedirectedTo, GroupPhrase, KeyPhrase, key_slices}
use Rattle.roundtrip_text.specs.Slices.{Slice}
use Rattle.roundtrip_text.specs.Source.{PrintedGroup, PrintedKey}
use Rattle.roundtrip_text.specs.Spelled.{set_words}

abbrev pub keysym_phrase : ℕ → KeysymPhrase
keysym_phrase keysym = if is_word (keysym_text keysym) then Worded (keysym_text keysym) else Numbered (keysym_text keysym)

abbrev pub level_phrases : ResolvedCell → List KeysymPhrase
level_phrases d = map keysym_phrase d.syms

-- ---- Actions

abbrev pub mods_phrase : Mods → ArgumentPhrase
mods_phrase mods = Words (codes "modifiers") (set_words mod_names (mask mods))

abbrev pub change_phrase : GroupChange → ArgumentPhrase
change_phrase (Absolute group) = Natural (codes "group") (group + 1)
change_phrase (Relative (pos n)) = Signed (codes "group") true n
change_phrase (Relative (negsuc n)) = Signed (codes "group") false (n + 1)

abbrev pub flag_phrases : List ℕ → Bool → List ArgumentPhrase
flag_phrases word is_set = if is_set then Flag word ∷ [] else []

abbrev pub two_flags : Bool → Bool → List ArgumentPhrase
two_flags clear_locks latch_to_lock = flag_phrases (codes "clearLocks") clear_locks ++ flag_phrases (codes "latchToLock") latch_to_lock

abbrev pub affect_phrases : Bool → Bool → List ArgumentPhrase
affect_phrases true true = []
affect_phrases true false = Words (codes "affect") (codes "lock" ∷ []) ∷ []
affect_phrases false true = Words (codes "affect") (codes "unlock" ∷ []) ∷ []
affect_phrases false false = Words (codes "affect") (codes "neither" ∷ []) ∷ []

abbrev pub call_phrase : List ℕ → List ArgumentPhrase → CallPhrase
call_phrase word arguments = record { word = word; arguments = arguments }

abbrev pub action_phrase : Action → CallPhrase
action_phrase actions.None = call_phrase (codes "NoAction") []
action_phrase (actions.SetMods mods clear_locks) = call_phrase (codes "SetMods") (mods_phrase mods ∷ flag_phrases (codes "clearLocks") clear_locks)
action_phrase (actions.LatchMods mods clear_locks latch_to_lock) = call_phrase (codes "LatchMods") (mods_phrase mods ∷ two_flags clear_locks latch_to_lock)
action_phrase (actions.LockMods mods locks unlocks) = call_phrase (codes "LockMods") (mods_phrase mods ∷ affect_phrases locks unlocks)
action_phrase (actions.SetGroup group clear_locks) = call_phrase (codes "SetGroup") (change_phrase group ∷ flag_phrases (codes "clearLocks") clear_locks)
action_phrase (actions.LatchGroup group clear_locks latch_to_lock) = call_phrase (codes "LatchGroup") (change_phrase group ∷ two_flags clear_locks latch_to_lock)
action_phrase (actions.LockGroup group) = call_phrase (codes "LockGroup") (change_phrase group ∷ [])

abbrev pub call_of : ResolvedCell → CallPhrase
call_of d = action_phrase d.action

-- ---- Keys

abbrev pub group_phrase : PrintedGroup → GroupPhrase
group_phrase g = record { key_type = g.type_name; symbols = map level_phrases g.cells; actions = map call_of g.cells }

abbrev pub range_phrases : Range → List FieldPhrase
range_phrases Wrap = []
range_phrases Clamp = Clamped ∷ []
range_phrases (Redirect group) = RedirectedTo (group + 1) ∷ []

abbrev pub key_phrase : PrintedKey → KeyPhrase
key_phrase k = record { name = k.name; groups = map group_phrase k.groups; ranges = range_phrases k.range }

abbrev pub key_statement_slices : PrintedKey → List Slice
key_statement_slices k = key_slices (key_phrase k)
