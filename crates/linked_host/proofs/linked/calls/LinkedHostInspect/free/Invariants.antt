use Rattle.std.proofs.Common.{◌≡◌, ◌≤◌, count_by, take}
use Rattle.linked_host.specs.Arenas.{slots_of}
use Rattle.linked_host.specs.Lookups.{is_free}
use Rattle.linked_host.proofs.linked.calls.LinkedHostInspect.free.Given as goal

-- the free ones of the slots so far
abbrev pub invariant-loop-slot : goal.invariant-loop-slot
invariant-loop-slot l = (l.n ≡ count_by is_free (take l.slot-index (slots_of l.self.arena))) × (l.n ≤ l.slot-index)
