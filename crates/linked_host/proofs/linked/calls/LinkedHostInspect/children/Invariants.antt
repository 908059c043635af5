use Rattle.std.proofs.Common.{length}
use Rattle.values.specs.Texts.{path_text}
use Rattle.linked_host.specs.Arenas.{entries, slots_of}
use Rattle.linked_host.specs.Scans.{Counted, left_of}
use Rattle.linked_host.proofs.linked.calls.LinkedHostInspect.children.Given as goal

abbrev pub invariant-loop-cursor : goal.invariant-loop-cursor
invariant-loop-cursor l = Counted (entries l.self.arena) (path_text l.p) l.n l.cursor

abbrev pub decreases-loop-cursor : goal.decreases-loop-cursor
decreases-loop-cursor l = left_of (length (slots_of l.self.arena)) l.cursor
