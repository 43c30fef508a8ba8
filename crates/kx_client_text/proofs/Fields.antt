-- The fields of a key after the first.
use Rattle.std.proofs.Common.{◌≡◌, ◌==◌, ℕ, zero, suc, ◌<◌, List, [], ◌∷◌, ◌++◌, ap, ◌∙◌, arith, codes, cond, length, map, refl}
use Rattle.std.proofs.Math.Dec.{eqb-suc-zero}
use Rattle.kx_print.specs.Phrases.{joined, numbered}
use Rattle.kx_print.specs.Printed.{fields_of, group_fields, groups_of, on_new_line, range_fields}
use Rattle.kx_print.proofs.Listing.{lead}
use Rattle.kx_tables.specs.Content.{Content}
use Rattle.kx_tables.specs.declared.rows.GroupRow.{GroupRow}
use Rattle.kx_tables.specs.declared.rows.KeyRow.{KeyRow}
use Rattle.kx_tables.specs.declared.rows.Range.{Range}
use Rattle.kx_tables.specs.declared.rows.Range.TheVariants.{Wrap, Clamp, Redirect}
use Rattle.kx_client_text.specs.Written.{comma_before, range_comma}

-- fields after one, with the comma between them
pub behind_first : (first : List ℕ) (fields : List (List ℕ)) → on_new_line first ++ (lead (codes ",") fields ++ joined (codes ",") (map on_new_line fields)) ≡ joined (codes ",") (map on_new_line (first ∷ fields))
behind_first first [] = refl
behind_first first (field ∷ fields) = refl

range_leads : (range : Range) → range_comma range ≡ lead (codes ",") (range_fields range)
range_leads Wrap = refl
range_leads Clamp = refl
range_leads (Redirect group) = refl

-- a key with groups has fields
pub some_groups : (c : Content) (groups : List GroupRow) (range : Range) → 0 < length groups → codes "," ≡ lead (codes ",") (numbered (group_fields c) 1 groups ++ range_fields range)
unfolding group_fields
some_groups c [] range some = absurd (omega (arith, some))
some_groups c (g ∷ groups) range some = refl

-- one without has at most that of its range
pub no_groups : (c : Content) (groups : List GroupRow) (range : Range) → length groups ≡ 0 → range_comma range ≡ lead (codes ",") (numbered (group_fields c) 1 groups ++ range_fields range)
no_groups c [] range none = range_leads range
no_groups c (g ∷ groups) range none = absurd (omega (arith, none))

comma_of : (c : Content) (groups : List GroupRow) (range : Range) (n : ℕ) → length groups ≡ n → cond (n == 0) (range_comma range) (codes ",") ≡ lead (codes ",") (numbered (group_fields c) 1 groups ++ range_fields range)
comma_of c groups range zero none = no_groups c groups range none
comma_of c groups range (suc n) some = ap (λ b. cond b (range_comma range) (codes ",")) (eqb-suc-zero n) ∙ some_groups c groups range (omega (arith, some))

-- the comma before the fields of a key stands where it has any
pub comma_leads : (c : Content) (k : KeyRow) → length (groups_of c k) ≡ k.groups → comma_before k ≡ lead (codes ",") (fields_of c k)
comma_leads c k count = comma_of c (groups_of c k) k.range k.groups count
