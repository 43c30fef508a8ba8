-- There are no more types than names that statements write.
use Rattle.std.proofs.Common.{◌≡◌, ℕ, ◌≤◌, ◌||◌, Bool, true, false, List, [], ◌∷◌, ◌++◌, map, length, Option, None, Some, refl, sym, ap, ◌∙◌, if◌then◌else◌, arith}
use Rattle.std.specs.List.{IsDistinct, flat_map, list_any}
use Rattle.std.specs.Str.{bytes_eq}
use Rattle.std.specs.Cmp.Lexicographic.{bytes_decides, nat_list_eq_equiv}
use Rattle.std.proofs.lemmas.Grind.{flat_map-append}
use Rattle.std.proofs.lemmas.List.Folds.{list_any-append}
use Rattle.std.proofs.lemmas.List.{length-map}
use Rattle.std.proofs.lemmas.Map.Keys.{IsDistinct-push}
use Rattle.std.proofs.lemmas.Map.Made.{length-le_from_is_member}
use mathlib.Core.Bool.{or-false, or-true}
use Rattle.kx_include.specs.Expansion.{Body, End, Begin, Own, Inc}
use Rattle.kx_virtual_mods.specs.Counted.{Said, Text, names_behind as names_behind_saids, names_with, statements_of, with_names}
use Rattle.kx_merge.specs.Bodies.{gather, gathered, moved, no_moves, offers}
use Rattle.kx_merge.specs.Offers.{names_behind, names_of, with_name}
use Rattle.kx_tree.specs.declared.tree.Field.{Field}
use Rattle.kx_tree.specs.declared.tree.Mode.{Mode}
use Rattle.kx_lex.specs.declared.name.Name.{Name}
use Rattle.kx_types.specs.KeyTypes.{Definition}
use Rattle.kx_types.specs.TypeFaults.{type_in}
use Rattle.kx_types.specs.Types.{NamedTypes, TypeOffer, TypesShow, declared_names, said_offers, type_names, type_offers, type_rules, written_name}
use Rattle.kx_virtual_mods.proofs.Bits.{or-inner}

-- ---- A name is among names to which others were added where it is among either

module _ (q : Text) where
  pub among : List Text → Bool
  among ks = list_any (bytes_eq q) ks

  with_among : (ks : List Text) (k : Text) → among (with_name bytes_eq ks k) ≡ (among ks || bytes_eq q k)
  unfolding among
  with_among ks k = by (list_any (bytes_eq k) ks) refl
    where
      there : (b : Bool) → bytes_eq q k ≡ b → list_any (bytes_eq k) ks ≡ true → among ks ≡ (among ks || b)
      there false e h = sym (or-false (among ks))
      there true e h = ap (λ t. list_any (bytes_eq t) ks) ((bytes_decides q k).0 e) ∙ h ∙ sym (or-true (among ks))

      by : (b : Bool) → list_any (bytes_eq k) ks ≡ b → among (if b then ks else ks ++ k ∷ []) ≡ (among ks || bytes_eq q k)
      by true h = there (bytes_eq q k) refl h
      by false h = list_any-append (bytes_eq q) ks (k ∷ []) ∙ ap (λ b. among ks || b) (or-false (bytes_eq q k))

  more_among : (ks more : List Text) → among (with_names ks more) ≡ (among ks || among more)
  unfolding among
  more_among ks [] = sym (or-false (among ks))
  more_among ks (k ∷ more) = more_among (with_name bytes_eq ks k) more ∙ ap (λ b. b || among more) (with_among ks k) ∙ or-inner (among ks) (bytes_eq q k) (among more)

  written : List Said → List Text
  written saids = flat_map (λ (s : Said). type_names s.1.statement) saids

  saids_among : (ks : List Text) (saids : List Said) → among (names_behind_saids type_names ks saids) ≡ (among ks || among (written saids))
  unfolding among written
  saids_among ks [] = sym (or-false (among ks))
  saids_among ks (s ∷ saids) =
      saids_among (names_with type_names ks s) saids
      ∙ ap (λ b. b || among (written saids)) (more_among ks (type_names s.1.statement))
      ∙ or-inner (among ks) (among (type_names s.1.statement)) (among (written saids))
      ∙ ap (λ b. among ks || b) (sym (list_any-append (bytes_eq q) (type_names s.1.statement) (written saids)))

  offered : List TypeOffer → Bool
  offered os = list_any (λ (o : TypeOffer). bytes_eq q o.name) os

  offers_among : (ks : List Text) (os : List TypeOffer) → among (names_behind bytes_eq ks os) ≡ (among ks || offered os)
  unfolding among offered
  offers_among ks [] = sym (or-false (among ks))
  offers_among ks (o ∷ os) = offers_among (with_name bytes_eq ks o.name) os ∙ ap (λ b. b || offered os) (with_among ks o.name) ∙ or-inner (among ks) (bytes_eq q o.name) (offered os)

  -- ---- What a body offers is offered to the names that its statements write

  gathered_offered : (mode : Mode) (os : List TypeOffer) (ks : List Text) → offered (map (gather bytes_eq mode os) ks) ≡ among ks
  unfolding among offered
  gathered_offered mode os [] = refl
  gathered_offered mode os (k ∷ ks) = ap (λ b. bytes_eq q k || b) (gathered_offered mode os ks)

  moved_offered : (group : Option ℕ) (os : List TypeOffer) → offered (moved no_moves group os) ≡ offered os
  unfolding offered
  moved_offered None os = refl
  moved_offered (Some n) [] = refl
  moved_offered (Some n) (o ∷ os) = ap (λ b. bytes_eq q o.name || b) (moved_offered (Some n) os)

  said_offered : (names : List Text) (mode : Mode) (o : Option (Name × List Field)) → offered (said_offers names mode o) ≡ among (written_name o)
  unfolding among offered
  said_offered names mode None = refl
  said_offered names mode (Some t) = refl

  body_offered : (names : List Text) (d : Unit {0}) (body : Body) → offered (offers bytes_eq (type_rules names) no_moves d body) ≡ among (written (statements_of body))
  unfolding among written offered
  body_offered names d End = refl
  body_offered names d (Begin rest) = body_offered names tt rest
  body_offered names d (Own place stated rest) =
      list_any-append (λ (o : TypeOffer). bytes_eq q o.name) (said_offers names stated.mode (type_in stated.statement)) (offers bytes_eq (type_rules names) no_moves tt rest)
      ∙ (λ i. said_offered names stated.mode (type_in stated.statement) i || body_offered names tt rest i)
      ∙ sym (list_any-append (bytes_eq q) (type_names stated.statement) (written (statements_of rest)))
  body_offered names d (Inc mode group body rest) =
      let inner = offers bytes_eq (type_rules names) no_moves tt body in
      list_any-append (λ (o : TypeOffer). bytes_eq q o.name) (moved no_moves group (gathered bytes_eq mode inner)) (offers bytes_eq (type_rules names) no_moves d rest)
      ∙ (λ i. (moved_offered group (gathered bytes_eq mode inner) ∙ gathered_offered mode inner (names_of bytes_eq inner) ∙ offers_among [] inner ∙ body_offered names tt body) i || body_offered names d rest i)
      ∙ sym (ap among (written_append (statements_of body) (statements_of rest)) ∙ list_any-append (bytes_eq q) (written (statements_of body)) (written (statements_of rest)))
    where
      written_append : (xs ys : List Said) → written (xs ++ ys) ≡ written xs ++ written ys
      written_append xs ys = flat_map-append (λ (s : Said). type_names s.1.statement) xs ys

  pub same_names : (names : List Text) (body : Body) → among (declared_names names body) ≡ among (names_behind_saids type_names [] (statements_of body))
  unfolding among
  same_names names body = offers_among [] (type_offers names body) ∙ body_offered names tt body ∙ sym (saids_among [] (statements_of body))

-- ---- No name is there twice

pub with_distinct : (ks : List Text) (k : Text) → IsDistinct bytes_eq ks → IsDistinct bytes_eq (with_name bytes_eq ks k)
with_distinct ks k distinct = by (list_any (bytes_eq k) ks) refl
  where
    by : (b : Bool) → list_any (bytes_eq k) ks ≡ b → IsDistinct bytes_eq (if b then ks else ks ++ k ∷ [])
    by true h = distinct
    by false h = IsDistinct-push nat_list_eq_equiv ks k distinct h

behind_distinct : (ks : List Text) (os : List TypeOffer) → IsDistinct bytes_eq ks → IsDistinct bytes_eq (names_behind bytes_eq ks os)
behind_distinct ks [] distinct = distinct
behind_distinct ks (o ∷ os) distinct = behind_distinct (with_name bytes_eq ks o.name) os (with_distinct ks o.name distinct)

no_names : IsDistinct bytes_eq []
unfolding IsDistinct
no_names = tt

pub types_few : (names : List Text) (body : Body) (types : NamedTypes) (counted : List Text) (n : ℕ) → TypesShow types names body → counted ≡ names_behind_saids type_names [] (statements_of body) → length counted ≤ n → length types ≤ n
unfolding among
types_few names body types counted n shows is few =
    let fewer = length-le_from_is_member nat_list_eq_equiv (declared_names names body) counted (behind_distinct [] (type_offers names body) no_names) (λ q there. ap (λ ks. list_any (bytes_eq q) ks) is ∙ sym (same_names q names body) ∙ there) in
    let same : length (declared_names names body) ≡ length types = ap length (sym shows.names_are) ∙ length-map types (λ (t : List ℕ × Option Definition). t.0) in
    omega (arith, fewer, same, few)
