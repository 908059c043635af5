use Rattle.std.proofs.Common.{◌+◌, refl, add-zero, arith}
use Rattle.std.proofs.lemmas.Bool.Decides.{nat_tests}
use Rattle.std.proofs.lemmas.List.{at_drop_more, at_drop_all}
use Rattle.lexer.specs.Bytes.{line_ends}
use Rattle.lexer.specs.Lexing.{skipped}
use Rattle.lexer.proofs.Lines.{line_below, line_more}
use Rattle.lexer.proofs.scan.blanks.Goals as goal
use Rattle.lexer.proofs.scan.blanks.Goals.{in-10, in-35, in-32, in_default}

pub loop-i-init : goal.loop-i-init
unfolding line_ends
loop-i-init c = record { skips = λ p. rw add-zero; lines = refl }

pub overflow_add-lines : goal.overflow_add-lines
overflow_add-lines c = omega (arith, line_below c.args.bytes.now c.loop-i.i)

pub returns-in_default-2-clause-value : goal.returns-in_default-2-clause-value
unfolding skipped
returns-in_default-2-clause-value c = λ p.
    let e = at_drop_more (skipped c.loop-i.comment (p + c.loop-i.i)) c.args.bytes.now c.loop-i.i 0 c.loop-i-test.true in
    let i = c.loop-i.invariant.skips p in
    grind (arith, nat_tests)

pub loop-i-preserved : goal.loop-i-preserved
unfolding skipped
loop-i-preserved c =
    let m = line_more c.args.bytes.now c.loop-i.i c.loop-i-test.true in
    record {
      skips = λ p.
          let e = at_drop_more (skipped c.loop-i.comment (p + c.loop-i.i)) c.args.bytes.now c.loop-i.i 0 c.loop-i-test.true in
          let i = c.loop-i.invariant.skips p in
          elim c.match-b.branch [
            | in-10 w ↦ grind (arith, nat_tests)
            | in-35 w ↦ grind (arith, nat_tests)
            | in-32 w ↦ grind (arith, nat_tests)
            | in_default w ↦ grind (arith, nat_tests)
          ];
      lines = elim c.match-b.branch [
        | in-10 w ↦ grind (arith, nat_tests)
        | in-35 w ↦ grind (arith, nat_tests)
        | in-32 w ↦ grind (arith, nat_tests)
        | in_default w ↦ grind (arith, nat_tests)
      ];
    }

pub returns-clause-value : goal.returns-clause-value
unfolding skipped
returns-clause-value c = λ p.
    let e = at_drop_all (skipped c.loop-i.comment (p + c.loop-i.i)) c.args.bytes.now c.loop-i.i c.loop-i-test.false in
    let i = c.loop-i.invariant.skips p in
    omega arith
