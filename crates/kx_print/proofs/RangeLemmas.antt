-- The fields of a key, and of its cells.
use Rattle.std.proofs.Common.{◌≡◌, ℕ, ◌+◌, ◌<◌, ◌≤◌, List, [], ◌∷◌, ◌++◌, Some, codes, decimal, length, map, slice_get, refl, sym, ap, ◌∙◌, arith, append-nil}
use Rattle.std.proofs.lemmas.List.{map-append}
use Rattle.std.specs.List.{flat_map}
use Rattle.kx_tables.proofs.Bounds.{sum_up_to}
use Rattle.kx_tables.specs.Content.{Content, levels_of}
use Rattle.kx_tables.specs.Sound.{GroupHolds, Sound}
use Rattle.kx_tables.specs.declared.rows.GroupRow.{GroupRow}
use Rattle.kx_tables.specs.declared.rows.Range.{Range}
use Rattle.kx_tables.specs.declared.rows.Range.TheVariants.{Wrap, Clamp, Redirect}
use Rattle.kx_print.specs.Phrases.{joined, numbered}
use Rattle.kx_print.specs.Printed.{group_fields, keysym_text, on_new_line, range_fields, symbols_text}
use Rattle.kx_print.proofs.Listing.{joined-append, lead}

-- the cells of a group lie within their table
pub levels_within : (c : Content) (i : ℕ) (g : GroupRow) → Sound c → slice_get c.groups i ≡ Some g → g.first_cell + levels_of c g ≤ length c.cells
levels_within c i g sound at =
    let holds : GroupHolds c i g = sound.groups i g at in
    omega (arith, sum_up_to (levels_of c) c.groups i g at, holds.first_cell, sound.counts.cells)

-- one field more after others
one_behind : (fields : List (List ℕ)) (field : List ℕ) → joined (codes ",") (map on_new_line fields) ++ ((lead (codes ",") fields ++ on_new_line field) ++ []) ≡ joined (codes ",") (map on_new_line (fields ++ field ∷ []))
one_behind fields field =
    ap (λ t. joined (codes ",") (map on_new_line fields) ++ t) (append-nil (lead (codes ",") fields ++ on_new_line field) ∙ ap (λ t. lead (codes ",") fields ++ t) (sym (append-nil (on_new_line field))) ∙ ap (λ b. b ++ (on_new_line field ++ [])) (lead-map fields))
    ∙ sym (ap (joined (codes ",")) (map-append on_new_line fields (field ∷ [])) ∙ joined-append (codes ",") (map on_new_line fields) (on_new_line field) [])
  where
    lead-map : (pieces : List (List ℕ)) → lead (codes ",") pieces ≡ lead (codes ",") (map on_new_line pieces)
    lead-map [] = refl
    lead-map (piece ∷ pieces) = refl

-- the field of a range after those of the groups
pub range_behind : (fields : List (List ℕ)) (before : List ℕ) (range : Range) → before ≡ lead (codes ",") fields → joined (codes ",") (map on_new_line fields) ++ flat_map (λ field. before ++ on_new_line field) (range_fields range) ≡ joined (codes ",") (map on_new_line (fields ++ range_fields range))
range_behind fields before Wrap is = append-nil (joined (codes ",") (map on_new_line fields)) ∙ ap (λ l. joined (codes ",") (map on_new_line l)) (sym (append-nil fields))
range_behind fields before Clamp is =
    ap (λ b. joined (codes ",") (map on_new_line fields) ++ ((b ++ on_new_line (codes "groupsClamp")) ++ [])) is ∙ one_behind fields (codes "groupsClamp")
range_behind fields before (Redirect group) is =
    ap (λ b. joined (codes ",") (map on_new_line fields) ++ ((b ++ on_new_line (codes "groupsRedirect= " ++ decimal (group + 1))) ++ [])) is ∙ one_behind fields (codes "groupsRedirect= " ++ decimal (group + 1))

-- no group, no field
pub lead-none : (c : Content) (groups : List GroupRow) → length groups ≡ 0 → [] ≡ lead (codes ",") (numbered (group_fields c) 1 groups)
lead-none c [] none = refl
lead-none c (g ∷ groups) none = absurd (omega arith)

pub lead-some : (c : Content) (groups : List GroupRow) → 0 < length groups → codes "," ≡ lead (codes ",") (numbered (group_fields c) 1 groups)
unfolding group_fields
lead-some c [] some = absurd (omega arith)
lead-some c (g ∷ groups) some = refl

-- two keysyms or more stand in braces
pub several : (keysyms : List ℕ) → 2 ≤ length keysyms → symbols_text keysyms ≡ codes "{ " ++ (joined (codes ", ") (map keysym_text keysyms) ++ codes " }")
several [] two = absurd (omega arith)
several (a ∷ []) two = absurd (omega arith)
several (a ∷ (b ∷ keysyms)) two = refl
