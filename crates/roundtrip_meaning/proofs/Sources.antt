-- A printed text is read as its own sections alone.
use Rattle.std.proofs.Common.{◌≡◌, ℕ, List, [], ◌∷◌, length, map, refl, ap, ap₂, subst, arith}
use Rattle.kx_include.specs.Expansion.{Begin, Body, End, Own, body_of, items_body}
use Rattle.kx_include.specs.IncludeFaults.{Findings, IsWhole, all_of, both, findings, in_depth, in_item, nothing}
use Rattle.kx_parse.specs.IncludeText.{Part}
use Rattle.kx_include.specs.Library.{Library}
use Rattle.kx_include.specs.Texts.{IsLibrary}
use Rattle.kx_include.specs.declared.expanding.TheConstants.{MOST_DEPTH}
use Rattle.kx_include.specs.declared.place.Place.{Place}
use Rattle.kx_lex.specs.declared.fault.At.{At}
use Rattle.kx_tree.specs.declared.tree.Stated.{Stated}
use Rattle.kx_tree.specs.declared.tree.Item.TheVariants as items
use Rattle.kx_tree.specs.declared.tree.Kind.TheVariants.{Compat, Keycodes, Symbols, Types}
use Rattle.kx_tree.specs.declared.tree.Tree.{Tree}
use Rattle.roundtrip_meaning.specs.Bodies.{own_body, place_of}
use Rattle.roundtrip_meaning.specs.Sources.{indicators_body, library_of, symbols_place}
use Rattle.roundtrip_meaning.proofs.Alone.{library_is}
use Rattle.roundtrip_tree.specs.Sources.{sections_of}

-- ---- Statements

all_own : (inner : Part → Body) (place : Place) (ss : List Stated) (rest : Body) → items_body inner place (map items.Statement ss) rest ≡ own_body place ss rest
all_own inner place [] rest = refl
all_own inner place (s ∷ ss) rest = ap (Own place s) (all_own inner place ss rest)

nothing_found : (inner : At → Part → Findings) (file : ℕ) (ss : List Stated) → all_of (in_item inner file) (map items.Statement ss) ≡ nothing
nothing_found inner file [] = refl
nothing_found inner file (s ∷ ss) = ap (both nothing) (nothing_found inner file ss)

-- ---- The bodies

module _ (ks ts ss : List Stated) where
  pub keycodes_are : (ds : List Stated) → body_of (library_of ks ts ds ss) Keycodes ≡ Begin (own_body (place_of 0) ks End)
  keycodes_are [] = ap Begin (all_own _ (place_of 0) ks End)
  keycodes_are (d ∷ ds) = ap Begin (all_own _ (place_of 0) ks End)

  pub types_are : (ds : List Stated) → body_of (library_of ks ts ds ss) Types ≡ Begin (own_body (place_of 1) ts End)
  types_are [] = ap Begin (all_own _ (place_of 1) ts End)
  types_are (d ∷ ds) = ap Begin (all_own _ (place_of 1) ts End)

  pub indicators_are : (ds : List Stated) → body_of (library_of ks ts ds ss) Compat ≡ indicators_body ds
  indicators_are [] = refl
  indicators_are (d ∷ ds) = ap Begin (all_own _ (place_of 2) (d ∷ ds) End)

  pub symbols_are : (ds : List Stated) → body_of (library_of ks ts ds ss) Symbols ≡ Begin (own_body (symbols_place ds) ss End)
  symbols_are [] = ap Begin (all_own _ (place_of 2) ss End)
  symbols_are (d ∷ ds) = ap Begin (all_own _ (place_of 3) ss End)

  no_findings : (ds : List Stated) → findings (library_of ks ts ds ss) ≡ nothing
  no_findings [] =
      ap₂ both (nothing_found (in_depth MOST_DEPTH (library_of ks ts [] ss) Keycodes) 0 ks)
      (ap₂ both (nothing_found (in_depth MOST_DEPTH (library_of ks ts [] ss) Types) 0 ts) (ap₂ both (nothing_found (in_depth MOST_DEPTH (library_of ks ts [] ss) Symbols) 0 ss) refl))
  no_findings (d ∷ ds) =
      ap₂ both (nothing_found (in_depth MOST_DEPTH (library_of ks ts (d ∷ ds) ss) Keycodes) 0 ks)
      (ap₂ both (nothing_found (in_depth MOST_DEPTH (library_of ks ts (d ∷ ds) ss) Types) 0 ts)
      (ap₂ both (nothing_found (in_depth MOST_DEPTH (library_of ks ts (d ∷ ds) ss) Compat) 0 (d ∷ ds))
      (ap₂ both (nothing_found (in_depth MOST_DEPTH (library_of ks ts (d ∷ ds) ss) Symbols) 0 ss) refl)))

  pub is_whole : (ds : List Stated) → IsWhole (library_of ks ts ds ss)
  is_whole ds = (ap (λ (f : Findings). f.faults) (no_findings ds), (let none_visited : length (findings (library_of ks ts ds ss)).visits ≡ 0 = ap (λ (f : Findings). length f.visits) (no_findings ds) in omega (arith, none_visited)))

-- without files a tree of these sections is such a library
pub read_alone : (ks ts ds ss : List Stated) (tree : Tree) (library : Library) → tree ≡ record { sections = sections_of ks ts ds ss } → IsLibrary tree [] library → library ≡ library_of ks ts ds ss
read_alone ks ts ds ss tree library tree_is is = library_is (sections_of ks ts ds ss) library (subst (λ t. IsLibrary t [] library) tree_is is)
