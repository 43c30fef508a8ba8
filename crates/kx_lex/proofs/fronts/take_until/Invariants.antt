use Rattle.std.proofs.Common.{◌≡◌, ◌++◌, List, length}
use Rattle.kx_lex.specs.PlacedTokens.{front_until}
use Rattle.kx_lex.specs.Passing.{Ends, IsAtToken, ReadsEnd}
use Rattle.kx_lex.specs.declared.token.Token.{Token}
use Rattle.kx_lex.proofs.fronts.take_until.Given as goal

abbrev pub invariant-tokens : goal.invariant-tokens
invariant-tokens l = record {
  taken : (us : List Token) → ReadsEnd l.text l.bytes us → (ts : List Token) × ReadsEnd l.text l.rest ts × (l.tokens.items ++ front_until l.stop ts ≡ l.initial.tokens.items ++ front_until l.stop us);
  ends : Ends l.text l.rest;
  at : IsAtToken l.rest;
}

abbrev pub decreases-tokens : goal.decreases-tokens
decreases-tokens l = length l.rest
