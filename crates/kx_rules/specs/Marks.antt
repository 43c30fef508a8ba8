-- How the code marks what rules take, place by place.
use Rattle.std.specs.Prelude.{ℕ, ◌+◌, Bool, true, false, not, ◌&&◌, nat_le, nat_lt, List, [], ◌∷◌, length, get_or, filter, slice_set, Option, None, Some, if◌then◌else◌}
use Rattle.std.specs.List.{enumerate_from}
use Rattle.kx_rules.specs.Mappings.{is_field}
use Rattle.kx_rules.specs.Matches.{Groups}
use Rattle.kx_rules.specs.Uses.{options_at}
use Rattle.kx_rules.specs.declared.marks.Subject.{Subject}
use Rattle.kx_rules.specs.declared.marks.Subject.TheVariants.{Items, Groups as GroupsOf}
use Rattle.kx_rules.specs.declared.uses.Use.{Use}
use Rattle.kx_rules.specs.declared.uses.Use.TheVariants.{Named, AllOptions, Grouped}

abbrev pub place_in : Subject → Use → Option ℕ
place_in (Items field) (Named other place) = if is_field field other then Some place else None
place_in (Items field) AllOptions = None
place_in (Items field) (Grouped place) = None
place_in GroupsOf (Named other place) = None
place_in GroupsOf AllOptions = None
place_in GroupsOf (Grouped place) = Some place

abbrev pub is_all : Use → Bool
is_all AllOptions = true
is_all (Named field place) = false
is_all (Grouped place) = false

unfoldable pub mark : ℕ → List Bool → List Bool
mark place marks = if nat_lt place (length marks) then slice_set marks place true else marks

abbrev pub mark_some : Option ℕ → List Bool → List Bool
mark_some None marks = marks
mark_some (Some place) marks = mark place marks

abbrev pub mark_all : List ℕ → List Bool → List Bool
mark_all [] marks = marks
mark_all (place ∷ places) marks = mark_all places (mark place marks)

-- the marks with those of uses
abbrev pub marked : Subject → List Use → List Bool → List Bool
marked subject [] marks = marks
marked subject (found ∷ uses) marks = marked subject uses (mark_some (place_in subject found) marks)

-- the marks of options with those of the groups from a place on
abbrev pub with_groups : Groups → ℕ → List Bool → List Bool → List Bool
with_groups groups place [] marks = marks
with_groups groups place (flag ∷ flags) marks = with_groups groups (place + 1) flags (if flag then mark_all (options_at groups place) marks else marks)

-- the items with bytes that have no mark, each with its place
abbrev pub unmarked : List Bool → List (List ℕ) → List (ℕ × List ℕ)
unmarked marks items = filter (λ (e : ℕ × List ℕ). nat_le 1 (length e.1) && not (get_or marks e.0 false)) (enumerate_from 0 items)
