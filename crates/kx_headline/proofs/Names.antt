-- The names of groups that a body gives are one list.
use Rattle.std.proofs.Common.{◌≡◌, ℕ, ◌-◌, ◌<◌, ◌≤◌, List, [], length, refl, sym, ◌∙◌, ap, arith}
use Rattle.std.proofs.lemmas.List.{ext_get_or}
use Rattle.std.proofs.lemmas.Option.{unwrap_or-slice_get, slice_get_past}
use Rattle.kx_basics.specs.declared.limits.TheConstants.{MOST_GROUPS}
use Rattle.kx_include.specs.Expansion.{Body}
use Rattle.kx_group_names.specs.Names.{AreGroupNames, name_at}

module _ (body : Body) where
  same_at : (names others : List (List ℕ)) → AreGroupNames names body → AreGroupNames others body → (group : ℕ) → group < MOST_GROUPS → name_at names group ≡ name_at others group
  same_at names others a b group less = a.names_are group less ∙ sym (b.names_are group less)

  past : (names : List (List ℕ)) (group : ℕ) → length names ≤ group → name_at names group ≡ []
  past names group behind = rw (slice_get_past names group behind) refl

  -- the last of them has bytes, so that none is the front of another
  never_longer : (names others : List (List ℕ)) → AreGroupNames names body → AreGroupNames others body → length names < length others → ⊥
  never_longer names others a b longer =
      let last = length others - 1 in
      let few = b.few in
      let none : name_at others last ≡ [] = sym (same_at names others a b last (omega arith)) ∙ past names last (omega arith) in
      let empty : length others ≡ 0 = ap (λ (ns : List (List ℕ)). length ns) (b.ends none) in
      omega arith

  as_long : (names others : List (List ℕ)) → AreGroupNames names body → AreGroupNames others body → length names ≡ length others
  as_long names others a b = omega (arith, never_longer names others a b, never_longer others names b a)

  pub names-one : (names others : List (List ℕ)) → AreGroupNames names body → AreGroupNames others body → names ≡ others
  names-one names others a b = ext_get_or [] names others (as_long names others a b) (λ group less.
      let few = a.few in
      sym (unwrap_or-slice_get names group []) ∙ same_at names others a b group (omega arith) ∙ unwrap_or-slice_get others group [])
