-- Records, and what they show of offers.
use Rattle.std.specs.Prelude.{◌≡◌, ℕ, Bool, List, [], ◌∷◌, Option, None, Some}
use Rattle.indexmap.specs.IndexMap.{IndexMap, get, keys}
use Rattle.kx_tree.specs.declared.tree.Mode.{Mode}
use Rattle.kx_merge.specs.Offers.{Offer, value_of, width_of, names_of}

-- a family of records: what their cells hold, and how wide their groups are
pub record Form (R C V : Type 0) : Type 0 where
  pub cell : R → C → Option V
  pub width : R → ℕ → ℕ

module _ {K C V R : Type 0} (mode : Mode) (form : Form R C V) where
  -- a record and what tells it apart are an offer
  pub record IsOffered (key : K) (r : R) (o : Offer K C V) : Type 0 where
    pub mode_is : o.mode ≡ mode
    pub name_is : o.name ≡ key
    pub value_is : (c : C) → o.value c ≡ form.cell r c
    pub width_is : (g : ℕ) → o.width g ≡ form.width r g

  -- records in order are offers in order
  pub data AreOffered : List (K × R) → List (Offer K C V) → Type 0 where
    none : AreOffered [] []
    more : {key : K} {r : R} {records : List (K × R)} {o : Offer K C V} {os : List (Offer K C V)} → IsOffered key r o → AreOffered records os → AreOffered ((key, r) ∷ records) (o ∷ os)

module _ {C V R : Type 0} (form : Form R C V) where
  abbrev pub cell_in : Option R → C → Option V
  cell_in None c = None
  cell_in (Some r) c = form.cell r c

  abbrev pub width_in : Option R → ℕ → ℕ
  width_in None g = 0
  width_in (Some r) g = form.width r g

module _ {K C V R : Type 0} (form : Form R C V) (eq : K → K → Bool) where
  -- records by name: those that offers name, in order, each with the cells and widths that the offers give it
  pub record Shows (names : List K) (at : K → Option R) (os : List (Offer K C V)) : Type 0 where
    pub names_are : names ≡ names_of eq os
    pub cells_are : (k : K) (c : C) → cell_in form (at k) c ≡ value_of eq os k c
    pub widths_are : (k : K) (g : ℕ) → width_in form (at k) g ≡ width_of eq os k g

  -- the same of a table of records
  abbrev pub TableShows : {S : Type 0} → IndexMap K R S → List (Offer K C V) → Type 0
  TableShows table os = Shows (keys table) (get eq table) os

  -- a record has what offers give it
  pub record IsGood (os : List (Offer K C V)) (key : K) (r : R) : Type 0 where
    pub cells_are : (c : C) → form.cell r c ≡ value_of eq os key c
    pub widths_are : (g : ℕ) → form.width r g ≡ width_of eq os key g
