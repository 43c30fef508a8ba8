-- Counts of notes, which stop at 2^32 - 1.
use Rattle.std.specs.Prelude.{ℕ, ◌+◌, min}
use Rattle.ks_core.specs.declared.notes.Notes.{Notes}
use Rattle.ks_core.specs.declared.notes.Note.{Note}
use Rattle.ks_core.specs.declared.notes.Note.TheVariants.{UnknownKeysym, UnknownKey, OtherType, LostLevels, IdleAction}

-- the sum, which stops at the greatest count
abbrev pub sum_of : ℕ → ℕ → ℕ
sum_of a b = min (a + b) 4294967295

-- the counts with one more note
abbrev pub counted : Notes → Note → Notes
counted n UnknownKeysym = record n { keysyms = sum_of n.keysyms 1 }
counted n UnknownKey = record n { keys = sum_of n.keys 1 }
counted n OtherType = record n { types = sum_of n.types 1 }
counted n LostLevels = record n { levels = sum_of n.levels 1 }
counted n IdleAction = record n { actions = sum_of n.actions 1 }

-- the counts of both, kind by kind
abbrev pub added : Notes → Notes → Notes
added m n = record {
  keysyms = sum_of m.keysyms n.keysyms;
  keys = sum_of m.keys n.keys;
  types = sum_of m.types n.types;
  levels = sum_of m.levels n.levels;
  actions = sum_of m.actions n.actions;
}
