use Rattle.std.proofs.Common.{is_some, ap, arith}
use Rattle.linked_host.specs.Arenas.{slots_of}
use Rattle.linked_host.specs.Scans.{some_within}
use Rattle.linked_host.proofs.arena.Arena.set_link.Goals as goal

pub slot_mut-requires : goal.slot_mut-requires
slot_mut-requires c =
    let a = c.args.self.now in
    omega (arith, some_within (slots_of a) c.in-First.i (ap is_some c.record-r.ensures), a.slots.ok.0)

pub slot_mut-requires-in-Next : goal.slot_mut-requires-in-Next
slot_mut-requires-in-Next c =
    let a = c.args.self.now in
    omega (arith, some_within (slots_of a) c.in-Next.i (ap is_some c.record-r-in-Next.ensures), a.slots.ok.0)
