-- What is gathered of keycodes bodies.
use Rattle.std.specs.Prelude.{◌≡◌, ℕ, List, [], ◌∷◌, length, slice_get, Contains, Option, None, Some, Result, Ok, Err}
use Rattle.kx_lex.specs.declared.fault.Fault.{Fault}
use Rattle.kx_lex.specs.declared.fault.Fault.TheVariants.{Memory}
use Rattle.kx_include.specs.Expansion.{Body, End}
use Rattle.kx_include.specs.Shared.{body_at}
use Rattle.kx_codes.specs.CodeFaults.{faults_of}
use Rattle.kx_codes.specs.Indexed.{Indexed}
use Rattle.kx_codes.specs.Numbers.{IsOnce, StandsIn}
use Rattle.kx_codes.specs.Pairs.{Pair, pairs_from, pairs_of}

-- what a body without a fault leaves on what was left before it, by the numbers of names
pub record Took (before after : List (List ℕ)) (old new : Indexed) (body : Body) : Type 0 where
  pub pairs_are : (ps : List Pair) → StandsIn before old ps → StandsIn after new (pairs_from ps body)
  pub faultless : faults_of body ≡ []

-- what a body without a fault leaves
pub record Leaves (names : List (List ℕ)) (body : Body) (ps : Indexed) : Type 0 where
  pub pairs_are : StandsIn names ps (pairs_of body)
  pub faultless : faults_of body ≡ []

-- lack of memory or a fault of a body
abbrev pub Blames : Body → Fault → Type 0
Blames body e = Contains (Memory ∷ faults_of body) e

abbrev pub IsGathered : List (List ℕ) → Body → Result Indexed Fault → Type 0
IsGathered names body (Ok ps) = Leaves names body ps
IsGathered names body (Err e) = Blames body e

abbrev pub IsFound : List (List ℕ) → Body → Option (Result Indexed Fault) → Type 0
IsFound names body None = body ≡ End
IsFound names body (Some r) = IsGathered names body r

-- what was gathered of each of the bodies, in order, over names that have a number each
pub record AreGathered (names : List (List ℕ)) (done : List (Result Indexed Fault)) (bodies : List Body) : Type 0 where
  pub once : IsOnce names
  pub count_is : length done ≡ length bodies
  pub each_is : (n : ℕ) → IsFound names (body_at bodies n) (slice_get done n)
