-- What a line does to a state, as the code takes it: a text that is included is left to the caller.
use Rattle.std.specs.Prelude.{◌≡◌, ℕ, ◌+◌, Bool, true, false, List, ◌∷◌, drop, Option, None, Some}
use Rattle.std.specs.List.{prefix_len}
use Rattle.kx_rule_lines.specs.Lines.{Line}
use Rattle.kx_rules.specs.Names.{Names}
use Rattle.kx_rule_lines.specs.Pieces.{Piece}
use Rattle.kx_rules.specs.Rules.{Reading, State, Texts, after, anew, included, is_room, lines_of, opening, run, text_of}
use Rattle.kx_rule_lines.specs.declared.scan.Kind.{Kind}
use Rattle.kx_rules.specs.declared.state.Taken.{Taken}
use Rattle.kx_rules.specs.declared.state.Taken.TheVariants.{Next, Inner, Unexpected}

abbrev pub IsFound : List ℕ → State → State → Option (List ℕ) → Type 0
IsFound text old new (Some entered) = (is_room old text ≡ true) × (entered ≡ text) × (new ≡ opening old text)
IsFound text old new None = (is_room old text ≡ false) × (new ≡ record (anew old) { is_full = true })

abbrev pub IsEnteredAs : Option (List ℕ) → State → State → Option (List ℕ) → Type 0
IsEnteredAs None old new entered = (entered ≡ None) × (new ≡ anew old)
IsEnteredAs (Some text) old new entered = IsFound text old new entered

abbrev pub IsEntered : Texts → List ℕ → State → State → Option (List ℕ) → Type 0
IsEntered texts name old new entered = IsEnteredAs (text_of texts name) old new entered

abbrev pub IsCutAt : Option ℕ → Taken → Type 0
IsCutAt None taken = taken ≡ Next
IsCutAt (Some left) taken = taken ≡ Unexpected left

-- what a line makes of a state
abbrev pub reading : Names → Texts → ℕ → Line → State → Reading
reading names texts depth line old = after names (included depth names texts) old line

abbrev pub IsTaken : Names → Texts → ℕ → Line → State → State → Taken → Type 0
IsTaken names texts depth line old new Next = reading names texts depth line old ≡ (new, None)
IsTaken names texts depth line old new (Unexpected left) = reading names texts depth line old ≡ (new, Some left)
IsTaken names texts depth line old new (Inner text) = (shallower : ℕ) × (depth ≡ shallower + 1) × (reading names texts depth line old ≡ (anew (run names (included shallower names texts) new (lines_of text.now)).0, None))

-- the first piece passes a test, and after it stands the rest
abbrev pub BeginsWith : (Kind → Bool) → List Piece → List Piece → Type 0
BeginsWith test ps rest = (p : Piece) × (test p.kind ≡ true) × (ps ≡ p ∷ rest)

-- after all pieces that pass a test stands one of a kind, and after that the rest
abbrev pub IsBehind : (Kind → Bool) → Kind → List Piece → List Piece → Type 0
IsBehind test kind ps rest = (p : Piece) × (p.kind ≡ kind) × (drop (prefix_len (λ q. test q.kind) ps) ps ≡ p ∷ rest)
