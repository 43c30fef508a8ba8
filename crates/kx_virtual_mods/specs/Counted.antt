-- The names that the statements of bodies write, each once, in the order of first appearance, and a limit to how many
-- there may be.
use Rattle.std.specs.Prelude.{ℕ, nat_lt, List, [], ◌∷◌, ◌++◌, fold, length, if◌then◌else◌}
use Rattle.std.specs.List.{flat_map}
use Rattle.std.specs.Str.{bytes_eq}
use Rattle.kx_include.specs.Expansion.{Body, End, Begin, Own, Inc}
use Rattle.kx_include.specs.IncludeFaults.{at}
use Rattle.kx_include.specs.declared.place.Place.{Place}
use Rattle.kx_lex.specs.declared.fault.Fault.{Fault}
use Rattle.kx_lex.specs.declared.fault.Fault.TheVariants.{TooMany}
use Rattle.kx_merge.specs.Offers.{with_name}
use Rattle.kx_tree.specs.declared.tree.Stated.{Stated}
use Rattle.kx_tree.specs.declared.tree.Statement.{Statement}

-- a name by its bytes
abbrev pub Text : Type 0
Text = List ℕ

-- a statement and the section where it stands
abbrev pub Said : Type 0
Said = Place × Stated

-- the statements of a body in order, with those that an include brings in its place; hidden ones count too
abbrev pub statements_of : Body → List Said
statements_of End = []
statements_of (Begin rest) = statements_of rest
statements_of (Own place stated rest) = (place, stated) ∷ statements_of rest
statements_of (Inc mode group body rest) = statements_of body ++ statements_of rest

-- those of bodies one after another
abbrev pub all_statements : List Body → List Said
all_statements bodies = flat_map statements_of bodies

module _ (names : Statement → List Text) where
  -- those before a statement, and after them those that it writes for the first time
  abbrev pub names_with : List Text → Said → List Text
  names_with before said = fold (with_name bytes_eq) before (names said.1.statement)

  -- each name once, in the order of first appearance
  abbrev pub names_of : List Said → List Text
  names_of saids = fold names_with [] saids

  -- the first statement with which there are more names than the limit
  abbrev pub crossing : ℕ → List Text → List Said → List Fault
  crossing limit before [] = []
  crossing limit before (said ∷ saids) =
      if nat_lt limit (length (names_with before said)) then TooMany (at said.0.file said.1.span) ∷ []
      else crossing limit (names_with before said) saids

  abbrev pub count_faults : ℕ → List Said → List Fault
  count_faults limit saids = crossing limit [] saids

-- names, and after them those of others that aren't there yet
abbrev pub with_names : List Text → List Text → List Text
with_names before more = fold (with_name bytes_eq) before more

-- ---- Under a name, for clauses and proofs

abbrev pub names_behind : (names : Statement → List Text) → List Text → List Said → List Text
names_behind names before saids = fold (names_with names) before saids
