use Rattle.std.proofs.Common.{◌≡◌, ℕ, ◌+◌, false, take, drop}
use Rattle.lexer.specs.Bytes.{line_ends}
use Rattle.lexer.specs.Lexing.{skipped}
use Rattle.lexer.proofs.scan.blanks.Given as goal

abbrev pub invariant-loop-i : goal.invariant-loop-i
invariant-loop-i l = record {
  skips : (p : ℕ) → skipped l.comment (p + l.i) (drop l.i l.bytes) ≡ skipped false p l.bytes;
  lines : l.lines ≡ line_ends (take l.i l.bytes);
}
