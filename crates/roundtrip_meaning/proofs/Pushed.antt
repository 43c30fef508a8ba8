-- A list for the group after those that have one.
use Rattle.std.proofs.Common.{◌≡◌, ℕ, zero, suc, ◌+◌, ◌-◌, false, cond, List, [], ◌∷◌, ◌++◌, length, map, replicate, slice_get, set, Option, None, Some, is_some, refl, ap, ap₂, ◌∙◌, arith}
use Rattle.std.specs.Option.{option_and_then, option_map_or}
use Rattle.kx_key_lists.specs.Lists.{Lists, has_list, level_in, width_in}
use Rattle.kx_key_lists.specs.Places.{given_list, group_for}
use Rattle.kx_tree.specs.declared.tree.Index.{Index}
use Rattle.kx_key_lists.specs.Groups.{group_at}
use Rattle.kx_merge.specs.ByGroup.{at_group, with_group}

set_end : {X : Type 0} (xs : List X) (a b : X) → set (xs ++ a ∷ []) (length xs) b ≡ xs ++ b ∷ []
set_end [] a b = refl
set_end (x ∷ xs) a b = ap (λ ys. x ∷ ys) (set_end xs a b)

pub pushed : {X : Type 0} (xs : List (Option X)) (n : ℕ) (x : X) → n ≡ length xs → with_group xs n x ≡ xs ++ Some x ∷ []
pushed xs n x size =
    let one : n + 1 - length xs ≡ 1 = omega (arith, size) in
    ap₂ (λ k i. set (xs ++ replicate k None) i (Some x)) one size ∙ set_end xs None (Some x)

past_end : {X : Type 0} (xs : List X) → slice_get xs (length xs) ≡ None
past_end [] = refl
past_end (x ∷ xs) = past_end xs

none_there : {X : Type 0} (lists : Lists X) (n : ℕ) → n ≡ length lists → has_list lists n ≡ false
none_there lists n size = ap (λ i. is_some (at_group lists i)) size ∙ ap (λ o. is_some (option_and_then (λ l. l) o)) (past_end lists)

-- a list for that group is pushed
pub list_pushed : {X : Type 0} (lists : Lists X) (index : Index) (n : ℕ) (levels : List (Option X)) → group_at index.value ≡ Some n → n ≡ length lists → given_list lists (group_for lists (Some index)) levels ≡ lists ++ Some levels ∷ []
list_pushed lists index n levels at size =
    ap (λ g. given_list lists (option_and_then (λ group. cond (has_list lists group) None (Some group)) g) levels) at
    ∙ ap (λ t. given_list lists (cond t None (Some n)) levels) (none_there lists n size)
    ∙ pushed lists n levels size

pub length-push : {X : Type 0} (xs : List X) (x : X) → length (xs ++ x ∷ []) ≡ length xs + 1
length-push [] x = refl
length-push (y ∷ xs) x = let rest = length-push xs x in omega (arith, rest)

get_some : {X : Type 0} (xs : List X) (i : ℕ) → at_group (map Some xs) i ≡ slice_get xs i
get_some [] i = refl
get_some (x ∷ xs) zero = refl
get_some (x ∷ xs) (suc i) = get_some xs i

-- what lists that each group has give
pub level_of : {X : Type 0} (ls : List (List (Option X))) (group level : ℕ) → level_in (map Some ls) group level ≡ option_and_then (λ levels. at_group levels level) (slice_get ls group)
level_of ls group level = ap (λ o. option_and_then (λ levels. at_group levels level) o) (get_some ls group)

pub width_of : {X : Type 0} (ls : List (List (Option X))) (group : ℕ) → width_in (map Some ls) group ≡ option_map_or length (slice_get ls group) 0
width_of ls group = ap (λ o. option_map_or length o 0) (get_some ls group)
