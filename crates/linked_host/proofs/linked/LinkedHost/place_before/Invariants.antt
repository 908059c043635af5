use Rattle.std.proofs.Common.{◌≡◌, ◌-◌, ◌≤◌}
use Rattle.linked_host.specs.Arenas.{entries, Held}
use Rattle.linked_host.specs.Places.{dir_of, from_of}
use Rattle.linked_host.proofs.linked.LinkedHost.place_before.Given as goal

abbrev pub invariant-loop-j : goal.invariant-loop-j
invariant-loop-j l = Held l.self.arena l.at × (dir_of (entries l.self.arena) l.at ≡ dir_of (entries l.self.arena) l.initial.at) × (from_of l.at ≤ l.i)

abbrev pub decreases-loop-j : goal.decreases-loop-j
decreases-loop-j l = l.i - from_of l.at
