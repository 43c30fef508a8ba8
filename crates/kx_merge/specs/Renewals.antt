-- Records whose values are taken back, and what is given to them again.
use Rattle.std.specs.Prelude.{◌≡◌, Bool, true, false, if◌then◌else◌, ℕ, List, [], ◌∷◌, ◌++◌, drop, get_or, Option}
use Rattle.std.specs.List.{list_any}
use Rattle.indexmap.specs.IndexMap.{IndexMap, get, keys}
use Rattle.kx_merge.specs.Offers.{Offer, is_about, is_replace, is_strong, names_behind, value_of, width_of}
use Rattle.kx_merge.specs.Records.{Form, Shows}

-- none of the offers takes back what stands before it
pub data AreGentle {K C V : Type 0} : List (Offer K C V) → Type 0 where
  none : AreGentle []
  more : {o : Offer K C V} {os : List (Offer K C V)} → is_replace o.mode ≡ false → AreGentle os → AreGentle (o ∷ os)

-- all of the offers are under augment
pub data AreWeak {K C V : Type 0} : List (Offer K C V) → Type 0 where
  no_offer : AreWeak []
  an_offer : {o : Offer K C V} {os : List (Offer K C V)} → is_strong o.mode ≡ false → AreWeak os → AreWeak (o ∷ os)

module _ {K C V : Type 0} (eq : K → K → Bool) where
  -- none of the offers takes back what stands before it for a record
  pub data AreGentleTo (k : K) : List (Offer K C V) → Type 0 where
    none : AreGentleTo k []
    more : {o : Offer K C V} {os : List (Offer K C V)} → (is_about eq k o ≡ true → is_replace o.mode ≡ false) → AreGentleTo k os → AreGentleTo k (o ∷ os)

  -- keys were noted, of which alone the offers take values back, unless they may take back all
  pub record TakesBack (all : Bool) (old new : List K) (os : List (Offer K C V)) : Type 0 where
    pub keys : List K
    pub noted : new ≡ old ++ keys
    pub gentle : all ≡ false → (k : K) → list_any (eq k) keys ≡ false → AreGentleTo k os

  -- some offers give to the records of some keys what all give to them, whatever stands before, and to others nothing
  pub record Picks (keys : List K) (all picked : List (Offer K C V)) : Type 0 where
    pub values_here : (k : K) (c : C) (os ps : List (Offer K C V)) → list_any (eq k) keys ≡ true → value_of eq os k c ≡ value_of eq ps k c → value_of eq (os ++ picked) k c ≡ value_of eq (ps ++ all) k c
    pub values_away : (k : K) (c : C) (os : List (Offer K C V)) → list_any (eq k) keys ≡ false → value_of eq (os ++ picked) k c ≡ value_of eq os k c
    pub widths_here : (k : K) (g : ℕ) (os ps : List (Offer K C V)) → list_any (eq k) keys ≡ true → width_of eq os k g ≡ width_of eq ps k g → width_of eq (os ++ picked) k g ≡ width_of eq (ps ++ all) k g
    pub widths_away : (k : K) (g : ℕ) (os : List (Offer K C V)) → list_any (eq k) keys ≡ false → width_of eq (os ++ picked) k g ≡ width_of eq os k g
    pub named : (ks : List K) → names_behind eq ks all ≡ ks → names_behind eq ks picked ≡ ks

-- what some offers give to the records of some keys is merged into them
pub record TakesUp {K C V R : Type 0} (form : Form R C V) (eq : K → K → Bool) (keys names : List K) (at : K → Option R) (new_names : List K) (new_at : K → Option R) (all : List (Offer K C V)) : Type 0 where
  pub picked : List (Offer K C V)
  pub picks : Picks eq keys all picked
  pub shows : (os : List (Offer K C V)) → Shows form eq names at os → Shows form eq new_names new_at (os ++ picked)

-- the same of a table of records
abbrev pub TableTakesUp : {K C V R S : Type 0} → Form R C V → (K → K → Bool) → List K → IndexMap K R S → IndexMap K R S → List (Offer K C V) → Type 0
TableTakesUp form eq keys_taken old new all = TakesUp form eq keys_taken (keys old) (get eq old) (keys new) (get eq new) all

-- the keys that are among names
abbrev pub held : {K : Type 0} → (K → K → Bool) → List K → List K → List K
held eq names [] = []
held eq names (k ∷ ks) = if list_any (eq k) names then k ∷ held eq names ks else held eq names ks

-- the keys that were noted after the entry at a place, where each place has the number of those before
abbrev pub keys_since : {K : Type 0} → List ℕ → List K → ℕ → List K
keys_since marks keys place = drop (get_or marks place 0) keys
