use Rattle.std.proofs.Common.{◌≡◌, ◌≤◌, take}
use Rattle.changes.specs.Counts.{births, deaths}
use Rattle.changes.specs.Logs.{changes, under}
use Rattle.changes.proofs.log.Log.moves.Given as goal

abbrev pub invariant-loop-c : goal.invariant-loop-c
invariant-loop-c l = record {
  made : l.made ≡ births (under l.above) (take l.c-index (changes l.self));
  gone : l.gone ≡ deaths (under l.above) (take l.c-index (changes l.self));
  few_made : l.made ≤ l.c-index;
  few_gone : l.gone ≤ l.c-index;
}
