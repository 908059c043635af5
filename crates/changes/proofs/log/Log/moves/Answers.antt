use Rattle.std.proofs.Common.{true, false, vec_items, sym, refl, ◌∙◌, arith}
use Rattle.fs.specs.Change.{makes}
use Rattle.changes.specs.Changes.{change_of}
use Rattle.changes.specs.Logs.{under}
use Rattle.changes.proofs.Logged.{counts_next}
use Rattle.changes.proofs.log.Log.moves.Goals as goal
use Rattle.changes.proofs.log.Log.moves.Goals.{else-lies_below, then-lies_below+then-makes, then-lies_below+else-makes}

pub loop-c-preserved : goal.loop-c-preserved
loop-c-preserved c =
    let x = c.c-item.result in
    let next = counts_next (under c.args.above) (vec_items c.args.self.now.held) c.loop-c.c-index x (omega arith) cc in
    let lies = sym c.lies_below.ensures in
    elim c.if-lies_below.branch [
      | then-lies_below+then-makes w ↦ (
          let k = next true true (lies ∙ w.if-lies_below.true) (sym w.makes.ensures ∙ w.if-makes.true) in
          record { made = omega arith; gone = omega arith; few_made = omega arith; few_gone = omega arith })
      | then-lies_below+else-makes w ↦ (
          let k = next true false (lies ∙ w.if-lies_below.true) (sym w.makes.ensures ∙ w.if-makes.false) in
          record { made = omega arith; gone = omega arith; few_made = omega arith; few_gone = omega arith })
      | else-lies_below w ↦ (
          let k = next false (makes (change_of x)) (lies ∙ w.if-lies_below.false) refl in
          record { made = omega arith; gone = omega arith; few_made = omega arith; few_gone = omega arith })
    ]
