use Rattle.std.proofs.Common.{◌≡◌, ◌≢◌, ◌<◌, ◌≤◌, ℕ, List, length, drop, sym, inr, arith, ◌+◌, ◌∙◌, length-drop}
use Rattle.kx_lex.specs.Reading.{bad_byte, open_string, open_key_name}
use Rattle.kx_lex.specs.declared.scan.Piece.TheVariants.{Gap, Lexeme, End}
use Rattle.kx_lex.specs.declared.token.TokenKind.{TokenKind}
use Rattle.kx_lex.proofs.Readings.{SoFar, SoFar-skipped, SoFar-space, SoFar-taken, SoFar-ended, SoFar-stopped, stopped-has_no_reading}
use Rattle.kx_lex.proofs.scan.lex.Goals as goal

shorter : (rest left : List ℕ) (n : ℕ) → left ≡ drop n rest → n ≤ length rest → 0 < n → length left < length rest
shorter rest left n is within some = rw is (omega (arith, length-drop n rest))

shorter_still : (rest left behind : List ℕ) → behind ≡ drop 1 left → length left < length rest → length behind < length rest
shorter_still rest left behind is less = rw is (omega (arith, less, length-drop 1 left))

gap-not_end : (n : ℕ) → Gap n ≢ End
gap-not_end n e = cc

lexeme-not_end : (kind : TokenKind) (n : ℕ) → Lexeme kind n ≢ End
lexeme-not_end kind n e = cc

pub returns-in-End-clause-read : goal.returns-in-End-clause-read
returns-in-End-clause-read c = SoFar-ended c.pieces.invariant (sym c.in-End.ensures.exact)

pub pieces-preserved-in-Gap : goal.pieces-preserved-in-Gap
pieces-preserved-in-Gap c = rw c.past-rest.ensures (SoFar-skipped c.pieces.invariant c.in-Gap.len (omega (arith, c.in-Gap.ensures.within)) (sym c.in-Gap.ensures.exact))

pub pieces-preserved : goal.pieces-preserved
pieces-preserved c =
    rw (c.past-rest-in-Lexeme.ensures, c.push_reserved.ensures.items, c.in_ok-reserve-in-Lexeme.ensures.items, c.place.ensures)
    (SoFar-taken c.pieces.invariant c.in-Lexeme.kind c.in-Lexeme.len (omega (arith, c.in-Lexeme.ensures.within)) (sym c.in-Lexeme.ensures.exact))

pub returns-in-BadByte-clause-stopped : goal.returns-in-BadByte-clause-stopped
returns-in-BadByte-clause-stopped c _ = inr (rw c.place-in-BadByte.ensures (SoFar-stopped c.pieces.invariant _ (bad_byte (sym c.in-BadByte.ensures.exact))))

pub returns-in-BadByte-clause-complete : goal.returns-in-BadByte-clause-complete
returns-in-BadByte-clause-complete c ts r _ = absurd (stopped-has_no_reading (SoFar-stopped c.pieces.invariant _ (bad_byte (sym c.in-BadByte.ensures.exact))) r)

pub returns-in-OpenString-clause-stopped : goal.returns-in-OpenString-clause-stopped
returns-in-OpenString-clause-stopped c _ = inr (rw c.place-in-OpenString.ensures (SoFar-stopped c.pieces.invariant _ (open_string _ (sym c.in-OpenString.ensures.exact))))

pub returns-in-OpenString-clause-complete : goal.returns-in-OpenString-clause-complete
returns-in-OpenString-clause-complete c ts r _ = absurd (stopped-has_no_reading (SoFar-stopped c.pieces.invariant _ (open_string _ (sym c.in-OpenString.ensures.exact))) r)

pub returns-in-OpenKeyName-clause-stopped : goal.returns-in-OpenKeyName-clause-stopped
returns-in-OpenKeyName-clause-stopped c _ = inr (rw c.place-in-OpenKeyName.ensures (SoFar-stopped c.pieces.invariant _ (open_key_name _ (sym c.in-OpenKeyName.ensures.exact))))

pub returns-in-OpenKeyName-clause-complete : goal.returns-in-OpenKeyName-clause-complete
returns-in-OpenKeyName-clause-complete c ts r _ = absurd (stopped-has_no_reading (SoFar-stopped c.pieces.invariant _ (open_key_name _ (sym c.in-OpenKeyName.ensures.exact))) r)

pub pieces-preserved-then-byte_at-eq32 : goal.pieces-preserved-then-byte_at-eq32
pieces-preserved-then-byte_at-eq32 c =
    let taken : SoFar c.args.text.now c.past-rest-in-Lexeme.result.now (c.pieces.offset + c.in-Lexeme.len) c.push_reserved.new.self.items =
    rw (c.past-rest-in-Lexeme.ensures, c.push_reserved.ensures.items, c.in_ok-reserve-in-Lexeme.ensures.items, c.place.ensures)
    (SoFar-taken c.pieces.invariant c.in-Lexeme.kind c.in-Lexeme.len (omega (arith, c.in-Lexeme.ensures.within)) (sym c.in-Lexeme.ensures.exact)) in
    rw c.past-rest-then-byte_at-eq32.ensures (SoFar-space c.past-rest-in-Lexeme.result.now taken (sym c.byte_at.ensures ∙ c.if-byte_at-eq32.true))

pub pieces-smaller-in-Gap : goal.pieces-smaller-in-Gap
pieces-smaller-in-Gap c =
    shorter c.pieces.rest.now c.past-rest.result.now c.in-Gap.len c.past-rest.ensures c.in-Gap.ensures.within (c.in-Gap.ensures.some (gap-not_end c.in-Gap.len))

pub pieces-smaller : goal.pieces-smaller
pieces-smaller c =
    shorter c.pieces.rest.now c.past-rest-in-Lexeme.result.now c.in-Lexeme.len c.past-rest-in-Lexeme.ensures c.in-Lexeme.ensures.within
    (c.in-Lexeme.ensures.some (lexeme-not_end c.in-Lexeme.kind c.in-Lexeme.len))

pub pieces-smaller-then-byte_at-eq32 : goal.pieces-smaller-then-byte_at-eq32
pieces-smaller-then-byte_at-eq32 c =
    shorter_still c.pieces.rest.now c.past-rest-in-Lexeme.result.now c.past-rest-then-byte_at-eq32.result.now c.past-rest-then-byte_at-eq32.ensures
    (shorter c.pieces.rest.now c.past-rest-in-Lexeme.result.now c.in-Lexeme.len c.past-rest-in-Lexeme.ensures c.in-Lexeme.ensures.within
    (c.in-Lexeme.ensures.some (lexeme-not_end c.in-Lexeme.kind c.in-Lexeme.len)))
