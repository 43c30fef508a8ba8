-- What the tables are in which a name of X11 is found by its hash, and read at its place.
use Rattle.std.specs.Prelude.{◌≡◌, ℕ, ◌+◌, ◌-◌, ◌*◌, ◌/◌, ◌%◌, Bool, true, ◌&&◌, ◌==◌, List, [], ◌∷◌, nat_le, fold, map, take, drop, length, slice_index, slice_index_or}
use Rattle.std.specs.List.{list_all}
use Rattle.ks_core.specs.Entry.{Entry}
use Rattle.ks_core.specs.X11.{x11_names}

-- a number of the bytes of a name
abbrev pub hash_step : ℕ → ℕ → ℕ
hash_step hash byte = (hash * 33 + byte) % 4194304

unfoldable pub hash_of : List ℕ → ℕ
hash_of name = fold hash_step 0 name

unfoldable pub slot_of : List (List ℕ) → ℕ → ℕ
slot_of shifts hash = (hash + slice_index (slice_index_or shifts (hash / 4096 % 1024 / 32) []) (hash / 4096 % 32)) % 4096

unfoldable pub in_slot : List (List ℕ) → ℕ → ℕ
in_slot slots slot = slice_index (slice_index_or slots (slot / 64) []) (slot % 64)

-- the place that a name has among the names, if it is one
unfoldable pub place_of : List (List ℕ) → List (List ℕ) → List ℕ → ℕ
unfolding slot_of in_slot hash_of
place_of shifts slots name = in_slot slots (slot_of shifts (hash_of name))

-- each name's slot has its place, from that place on
unfoldable pub all_placed : List (List ℕ) → List (List ℕ) → ℕ → List Entry → Bool
all_placed shifts slots place [] = true
all_placed shifts slots place (e ∷ es) = place_of shifts slots e.0 == place && all_placed shifts slots (place + 1) es

pub record IsPlacing (shifts slots : List (List ℕ)) : Type 0 where
  pub shifted : length shifts ≡ 32
  pub slotted : length slots ≡ 64
  pub placed : all_placed shifts slots 0 x11_names ≡ true

-- the parts of a text that end at these places
unfoldable pub cut : ℕ → List ℕ → List ℕ → List (List ℕ)
cut from [] text = []
cut from (end ∷ ends) text = take (end - from) text ∷ cut end ends (drop (end - from) text)

-- no place is less than the one before it
unfoldable pub steps : ℕ → List ℕ → Bool
steps from [] = true
steps from (end ∷ ends) = nat_le from end && steps end ends

-- cut at its starts, the text is the names
pub record IsText (starts text : List ℕ) : Type 0 where
  pub named : cut 0 starts text ≡ [] ∷ map (λ (e : Entry). e.0) x11_names
  pub rising : steps 0 starts ≡ true
  pub few : nat_le (length starts) 4096 ≡ true
  pub inside : list_all (λ start. nat_le start (length text)) starts ≡ true
