use Rattle.values.specs.Texts.{path_text}
use Rattle.linked_host.specs.Arenas.{slots_of}
use Rattle.linked_host.specs.Lookups.{stands_node}
use Rattle.linked_host.specs.Scans.{stands_some}
use Rattle.linked_host.proofs.linked.LinkedHost.node_at.Goals as goal

pub record-requires : goal.record-requires
record-requires c = stands_some (slots_of c.args.self.now.arena) _ c.in_ok-i.i c.in_ok-i.ensures

pub returns : goal.returns
returns c =
    let h = c.args.self.now in
    stands_node (slots_of h.arena) h.distinct (path_text c.args.p.now) c.in_ok-i.i c.record.result c.record.ensures c.in_ok-i.ensures
