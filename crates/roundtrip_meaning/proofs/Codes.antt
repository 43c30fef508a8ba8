-- The codes of printed keys.
use Rattle.std.proofs.Common.{◌≡◌, ◌≢◌, ℕ, zero, suc, ◌+◌, ◌<◌, false, cond, ◌||◌, List, [], ◌∷◌, ◌++◌, map, slice_get, Some, refl, sym, ap, ap₂, ◌∙◌, arith}
use Rattle.std.proofs.lemmas.Bool.{false_from_ne_true, ne_eqb}
use Rattle.std.proofs.lemmas.List.Folds.{list_any-append}
use Rattle.std.proofs.lemmas.Slice.Eq.{bytes_eq-Decides}
use Rattle.std.specs.List.{list_any}
use Rattle.std.specs.Option.{option_or, option_and_then}
use Rattle.std.specs.Str.{bytes_eq}
use Rattle.kx_codes.specs.Aliases.{aliases_of, target_in}
use Rattle.kx_codes.specs.CodeFaults.{faults_of}
use Rattle.kx_codes.specs.Codes.{Codes, code_of, paired}
use Rattle.kx_codes.specs.Pairs.{Pair, shares, pairs_of, code_in}
use Rattle.kx_include.specs.Expansion.{Body, Begin, End}
use Rattle.kx_include.specs.declared.place.Place.{Place}
use Rattle.kx_tree.specs.declared.tree.Stated.{Stated}
use Rattle.roundtrip_text.specs.Source.{EachOf, AreApart, AreRising, PrintedKey, KeyFits}
use Rattle.roundtrip_tree.specs.Shows.{AreShown, IsStated, IsKeycode, none, more}
use Rattle.roundtrip_meaning.specs.Bodies.{own_body, IsPair, Fresh}
use Rattle.roundtrip_meaning.proofs.Keycodes.{AllFit, pairs_are, keycodes_faultless}
use Rattle.roundtrip_meaning.proofs.Offered.{each_from, each_at}

abbrev pair_of : PrintedKey → Pair
pair_of k = record { name = k.name; code = k.code }

shown_pairs : (ks : List PrintedKey) (is : List Stated) → AreShown (λ (k : PrintedKey) i. IsStated (IsKeycode k.name k.code) i) ks is → AreShown IsPair (map pair_of ks) is
shown_pairs [] [] none = none
shown_pairs [] (i ∷ is) are = elim are [ ]
shown_pairs (k ∷ ks) [] are = elim are [ ]
shown_pairs (k ∷ ks) (i ∷ is) (more one are) = more one (shown_pairs ks is are)

all_fit : (ks : List PrintedKey) → EachOf KeyFits ks → AllFit (map pair_of ks)
all_fit [] each = tt
all_fit (k ∷ ks) each = (record { name = each.0.name_fits; code = each.0.code }, all_fit ks each.1)

-- ---- Pairs that share nothing

abbrev shares_none : List Pair → PrintedKey → Type 0
shares_none ps k = list_any (shares (pair_of k)) ps ≡ false

no_share : (k l : PrintedKey) → l.name ≢ k.name → l.code < k.code → shares (pair_of k) (pair_of l) ≡ false
no_share k l name code =
    ap₂ (λ a b. a || b) (false_from_ne_true (bytes_eq k.name l.name) (λ e. name (sym ((bytes_eq-Decides k.name l.name).0 e)))) (ne_eqb k.code l.code (λ e. omega (arith, e, code)))

grown : (ps : List Pair) (k : PrintedKey) (low : ℕ) (ks : List PrintedKey) → k.code < low → EachOf (λ (l : PrintedKey). k.name ≢ l.name) ks → AreRising (λ (l : PrintedKey). l.code) low ks → EachOf (shares_none ps) ks → EachOf (shares_none (ps ++ pair_of k ∷ [])) ks
grown ps k low [] less apart rising each = tt
grown ps k low (l ∷ ks) less apart rising each = (
  list_any-append (shares (pair_of l)) ps (pair_of k ∷ []) ∙ ap₂ (λ a b. a || (b || false)) each.0 (no_share l k apart.0 (let at_least = rising.0 in omega (arith, less, at_least))),
  grown ps k (l.code + 1) ks (let at_least = rising.0 in omega (arith, less, at_least)) apart.1 rising.1 each.1,
)

fresh : (ps : List Pair) (low : ℕ) (ks : List PrintedKey) → EachOf (shares_none ps) ks → AreApart (λ (k : PrintedKey). k.name) ks → AreRising (λ (k : PrintedKey). k.code) low ks → Fresh ps (map pair_of ks)
fresh ps low [] each apart rising = tt
fresh ps low (k ∷ ks) each apart rising = (each.0, fresh (ps ++ pair_of k ∷ []) (k.code + 1) ks (grown ps k (k.code + 1) ks (omega arith) apart.0 rising.1 each.1) apart.1 rising.1)

none_shared : (ks : List PrintedKey) → EachOf (shares_none []) ks
none_shared [] = tt
none_shared (k ∷ ks) = (refl, none_shared ks)

-- ---- The code of a name

coded : (ks : List PrintedKey) (i : ℕ) (k : PrintedKey) → AreApart (λ (k : PrintedKey). k.name) ks → slice_get ks i ≡ Some k → code_in (map pair_of ks) k.name ≡ Some k.code
coded [] i k apart is = cc
coded (l ∷ ks) zero k apart is =
    let here : l ≡ k = cc in
    ap (λ (m : PrintedKey). code_in (map pair_of (l ∷ ks)) m.name) (sym here)
    ∙ ap (λ t. cond t (Some l.code) (code_in (map pair_of ks) l.name)) ((bytes_eq-Decides l.name l.name).1 refl)
    ∙ ap (λ (m : PrintedKey). Some m.code) here
coded (l ∷ ks) (suc i) k apart is =
    ap (λ t. cond t (Some l.code) (code_in (map pair_of ks) k.name)) (false_from_ne_true (bytes_eq k.name l.name) (λ e. each_at (λ (m : PrintedKey). l.name ≢ m.name) ks i k apart.0 is (sym ((bytes_eq-Decides k.name l.name).0 e))))
    ∙ coded ks i k apart.1 is

-- ---- The section

module _ (place : Place) (ks : List PrintedKey) (is : List Stated) (shown : AreShown (λ (k : PrintedKey) i. IsStated (IsKeycode k.name k.code) i) ks is)
    (fit : EachOf KeyFits ks) (apart : AreApart (λ (k : PrintedKey). k.name) ks) (rising : AreRising (λ (k : PrintedKey). k.code) 0 ks) where
  abbrev pub keycodes : Body
  keycodes = Begin (own_body place is End)

  pub pairs_printed : pairs_of keycodes ≡ map pair_of ks
  pairs_printed = pairs_are place (map pair_of ks) is (shown_pairs ks is shown) (fresh [] 0 ks (none_shared ks) apart rising)

  -- whatever the aliases
  code_printed : (k : PrintedKey) → code_in (map pair_of ks) k.name ≡ Some k.code → code_of (record { by_name = pairs_of keycodes; by_code = pairs_of keycodes; aliases = aliases_of keycodes }) k.name ≡ Some k.code
  code_printed k coded =
      let codes : Codes = record { by_name = pairs_of keycodes; by_code = pairs_of keycodes; aliases = aliases_of keycodes } in
      ap (λ o. option_or o (option_and_then (paired codes) (target_in codes.aliases k.name))) (ap (λ ps. code_in ps k.name) pairs_printed ∙ coded)

  pub codes_printed : EachOf (λ (k : PrintedKey). code_of (record { by_name = pairs_of keycodes; by_code = pairs_of keycodes; aliases = aliases_of keycodes }) k.name ≡ Some k.code) ks
  codes_printed = each_from _ ks (λ i k is. code_printed k (coded ks i k apart is))

  pub codes_faultless : faults_of keycodes ≡ []
  codes_faultless = keycodes_faultless place (map pair_of ks) is End (shown_pairs ks is shown) (all_fit ks fit)
