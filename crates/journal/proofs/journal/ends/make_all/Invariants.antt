use Rattle.std.proofs.Common.{◌≡◌, drop, map}
use Rattle.fs.specs.Change.{calls}
use Rattle.fs.specs.Rig.{Rig, taken}
use Rattle.changes.specs.Changes.{change_of}
use Rattle.journal.proofs.journal.ends.make_all.Given as goal

-- the changes that are left are taken, and end where all would
abbrev pub invariant-loop-c : goal.invariant-loop-c
invariant-loop-c g l =
    (h : Rig) → calls (map change_of l.fn.all) (g.B.Inspect.means l.fn.b) ≡ taken h → calls (map change_of (drop l.c-index l.fn.all)) (g.B.Inspect.means l.b) ≡ taken h
