use Rattle.std.proofs.Common.{◌≡◌, ℕ, ◌<◌, ◌⊎◌, Some}
use Rattle.std.specs.List.{Contains}
use Rattle.kx_text.specs.Characters.{character_of}
use Rattle.kx_text.specs.OlderCharacters.{older_characters}
use Rattle.kx_text.proofs.CharacterTable.{row_at}
use Rattle.kx_text.proofs.characters.add_older.Given as goal

abbrev pub invariant-loop-place : goal.invariant-loop-place
invariant-loop-place l = record {
  kept : (k : ℕ) → Contains l.initial.keysyms.items k → Contains l.keysyms.items k;
  each : (k : ℕ) → Contains l.keysyms.items k → Contains l.initial.keysyms.items k ⊎ (character_of k ≡ Some l.fn.number);
  all : (i : ℕ) → i < l.place → (row_at older_characters i).1 ≡ l.fn.number → Contains l.keysyms.items (row_at older_characters i).0;
}
