use Rattle.std.proofs.Common.{arith}
use Rattle.linked_host.specs.Arenas.{slots_of}
use Rattle.linked_host.specs.Scans.{some_within}
use Rattle.linked_host.proofs.arena.Arena.unlink.Goals as goal

pub slot_mut-requires : goal.slot_mut-requires
slot_mut-requires c =
    let a = c.args.self.now in
    omega (arith, some_within (slots_of a) c.args.i c.requires.here, a.slots.ok.0, c.set_link.ensures.len)
