-- The names of indicators without a fault are short, and each is there once.
use Rattle.std.proofs.Common.{◌≡◌, ℕ, ◌≤◌, nat_eq, nat_lt, Bool, true, false, cond, List, [], ◌∷◌, ◌++◌, length, Option, None, Some, All, refl, sym, ◌∙◌, subst, arith}
use Rattle.std.specs.Cmp.Lexicographic.{bytes_decides}
use Rattle.std.specs.List.{AllByRecursion, IsDistinct, flat_map, list_any}
use Rattle.std.specs.Str.{bytes_eq}
use Rattle.std.proofs.lemmas.Bool.Decides.{nat_tests}
use Rattle.std.proofs.lemmas.List.Elements.{All-head, All-nil, All-push, All-tail}
use Rattle.std.proofs.lemmas.Bool.{or_parts}
use Rattle.kx_basics.specs.declared.limits.TheConstants.{MOST_NAME_BYTES}
use Rattle.kx_include.specs.Expansion.{Body, End, Begin, Own, Inc}
use Rattle.kx_include.specs.IncludeFaults.{at}
use Rattle.kx_lex.specs.declared.fault.Fault.TheVariants.{TooMany}
use Rattle.kx_lex.specs.declared.name.Name.{Name}
use Rattle.kx_lex.specs.declared.token.Span.{Span}
use Rattle.kx_virtual_mods.specs.Counted.{Said, names_behind, names_of, statements_of, with_names}
use Rattle.kx_merge.specs.Bodies.{faults, faults_of, no_moves}
use Rattle.kx_merge.specs.Offers.{with_name}
use Rattle.kx_tree.specs.declared.tree.Field.{Field}
use Rattle.kx_tree.specs.declared.tree.Statement.{Statement}
use Rattle.kx_indicators.specs.Blocks.{indicator_in, indicator_map_names, next_default, own_faults, said_faults, written_name}
use Rattle.kx_indicators.specs.Bounds.{NamesAreValid}
use Rattle.kx_indicators.specs.declared.limits.TheConstants.{MOST_INDICATORS}
use Rattle.kx_indicators.specs.Given.{IndicatorMapValues}
use Rattle.kx_indicators.specs.Giving.{no_values}
use Rattle.kx_indicators.specs.Meaning.{indicator_map_rules}

none_left : {X : Type 0} (xs ys : List X) → xs ++ ys ≡ [] → xs ≡ []
none_left [] ys h = refl
none_left (x ∷ xs) ys h = cc

none_right : {X : Type 0} (xs ys : List X) → xs ++ ys ≡ [] → ys ≡ []
none_right [] ys h = h
none_right (x ∷ xs) ys h = cc

-- ---- Short

abbrev pub IsShort : List ℕ → Type 0
IsShort name = length name ≤ MOST_NAME_BYTES

not_long : (n : ℕ) (b : Bool) (file : ℕ) (whole : Span) → nat_lt MOST_NAME_BYTES n ≡ b → cond b (TooMany (at file whole) ∷ []) [] ≡ [] → n ≤ MOST_NAME_BYTES
not_long n true file whole is h = cc
not_long n false file whole is h = grind (arith, nat_tests, is)

said_short : (file : ℕ) (names : List (List ℕ)) (statement : Statement) (whole : Span) (o : Option (Name × List Field)) → said_faults file names statement whole o ≡ [] → All IsShort (written_name o)
said_short file names statement whole None h = All-nil IsShort
said_short file names statement whole (Some i) h = All-push IsShort [] i.0.bytes (All-nil IsShort) (not_long (length i.0.bytes) (nat_lt MOST_NAME_BYTES (length i.0.bytes)) file whole refl (none_left (cond (nat_lt MOST_NAME_BYTES (length i.0.bytes)) (TooMany (at file whole) ∷ []) []) (flat_map (own_faults file names) i.1) h))

abbrev EachShort : List Said → Type 0
EachShort [] = Unit {0}
EachShort (s ∷ ss) = All IsShort (indicator_map_names s.1.statement) × EachShort ss

each_append : (ss ts : List Said) → EachShort ss → EachShort ts → EachShort (ss ++ ts)
each_append [] ts h g = g
each_append (s ∷ ss) ts h g = (h.0, each_append ss ts h.1 g)

module _ (indicator_maps names : List (List ℕ)) where
  body_short : (body : Body) (d : IndicatorMapValues) → faults nat_eq (indicator_map_rules indicator_maps names) no_moves d body ≡ [] → EachShort (statements_of body)
  body_short End d h = tt
  body_short (Begin rest) d h = body_short rest no_values h
  body_short (Own place stated rest) d h =
      let own = said_faults place.file names stated.statement stated.span (indicator_in stated.statement) in
      let more = faults nat_eq (indicator_map_rules indicator_maps names) no_moves (next_default names d stated.statement) rest in
      (said_short place.file names stated.statement stated.span (indicator_in stated.statement) (none_left own more h), body_short rest (next_default names d stated.statement) (none_right own more h))
  body_short (Inc mode group body rest) d h =
      let inner = faults nat_eq (indicator_map_rules indicator_maps names) no_moves no_values body in
      let more = faults nat_eq (indicator_map_rules indicator_maps names) no_moves d rest in
      each_append (statements_of body) (statements_of rest) (body_short body no_values (none_left inner more h)) (body_short rest d (none_right inner more h))

-- ---- Each once

module _ (P : List ℕ → Type 0) where
  with_one : (ks : List (List ℕ)) (k : List ℕ) → All P ks → P k → All P (with_name bytes_eq ks k)
  with_one ks k all p = by (list_any (bytes_eq k) ks)
    where
      by : (b : Bool) → All P (cond b ks (ks ++ k ∷ []))
      by true = all
      by false = All-push P ks k all p

with_all : (ks more : List (List ℕ)) → All IsShort ks → All IsShort more → All IsShort (with_names ks more)
with_all ks [] all h = all
with_all ks (k ∷ more) all h = with_all (with_name bytes_eq ks k) more (with_one IsShort ks k all (All-head IsShort k more h)) (All-tail IsShort k more h)

behind_short : (ks : List (List ℕ)) (saids : List Said) → All IsShort ks → EachShort saids → All IsShort (names_behind indicator_map_names ks saids)
behind_short ks [] all h = all
behind_short ks (s ∷ ss) all h = behind_short (with_names ks (indicator_map_names s.1.statement)) ss (with_all ks (indicator_map_names s.1.statement) all h.0) h.1

pub names_short : (indicator_maps names : List (List ℕ)) (body : Body) → faults_of nat_eq (indicator_map_rules indicator_maps names) no_moves body ≡ [] → All IsShort (names_of indicator_map_names (statements_of body))
names_short indicator_maps names body h = behind_short [] (statements_of body) (All-nil IsShort) (body_short indicator_maps names body no_values h)

all-push : (P : List ℕ → Type 0) (ks : List (List ℕ)) (k : List ℕ) → AllByRecursion P ks → P k → AllByRecursion P (ks ++ k ∷ [])
all-push P [] k all last = (last, tt)
all-push P (j ∷ ks) k all last = (all.0, all-push P ks k all.1 last)

flipped : (j k : List ℕ) → bytes_eq k j ≡ false → bytes_eq j k ≡ false
flipped j k h = by (bytes_eq j k) refl
  where
    by : (b : Bool) → bytes_eq j k ≡ b → b ≡ false
    by false is = refl
    by true is = let same : bytes_eq k j ≡ true = (bytes_decides k j).1 (sym ((bytes_decides j k).0 is)) in let never : true ≡ false = sym same ∙ h in cc

distinct-push : (ks : List (List ℕ)) (k : List ℕ) → list_any (bytes_eq k) ks ≡ false → IsDistinct bytes_eq ks → IsDistinct bytes_eq (ks ++ k ∷ [])
unfolding IsDistinct
distinct-push [] k h d = (tt, tt)
distinct-push (j ∷ ks) k h d =
    let none = or_parts (bytes_eq k j) (list_any (bytes_eq k) ks) h in
    (all-push (λ y. bytes_eq j y ≡ false) ks k d.0 (flipped j k none.0), distinct-push ks k none.1 d.1)

distinct-with : (ks : List (List ℕ)) (k : List ℕ) → IsDistinct bytes_eq ks → IsDistinct bytes_eq (with_name bytes_eq ks k)
distinct-with ks k d = by (list_any (bytes_eq k) ks) refl
  where
    by : (b : Bool) → list_any (bytes_eq k) ks ≡ b → IsDistinct bytes_eq (cond b ks (ks ++ k ∷ []))
    by true h = d
    by false h = distinct-push ks k h d

distinct-fold : (ks more : List (List ℕ)) → IsDistinct bytes_eq ks → IsDistinct bytes_eq (with_names ks more)
distinct-fold ks [] d = d
distinct-fold ks (k ∷ more) d = distinct-fold (with_name bytes_eq ks k) more (distinct-with ks k d)

distinct-behind : (ks : List (List ℕ)) (saids : List Said) → IsDistinct bytes_eq ks → IsDistinct bytes_eq (names_behind indicator_map_names ks saids)
distinct-behind ks [] d = d
distinct-behind ks (s ∷ ss) d = distinct-behind (with_names ks (indicator_map_names s.1.statement)) ss (distinct-fold ks (indicator_map_names s.1.statement) d)

pub names_apart : (saids : List Said) → IsDistinct bytes_eq (names_of indicator_map_names saids)
unfolding IsDistinct
names_apart saids = distinct-behind [] saids tt

pub names_valid : (indicator_maps names : List (List ℕ)) (body : Body) (ks : List (List ℕ)) → ks ≡ names_of indicator_map_names (statements_of body) → length ks ≤ MOST_INDICATORS → faults_of nat_eq (indicator_map_rules indicator_maps names) no_moves body ≡ [] → NamesAreValid ks
names_valid indicator_maps names body ks are few h = record {
  few = few;
  short = subst (All IsShort) (sym are) (names_short indicator_maps names body h);
  apart = subst (IsDistinct bytes_eq) (sym are) (names_apart (statements_of body));
}
