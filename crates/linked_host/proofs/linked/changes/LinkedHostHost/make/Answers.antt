use Rattle.std.proofs.Common.{not, sym, refl, ap, ◌∙◌}
use Rattle.values.specs.Texts.{path_text}
use Rattle.host.specs.Stores.{node_of}
use Rattle.linked_host.specs.Arenas.{slots_of}
use Rattle.linked_host.specs.Linked.{rig_of}
use Rattle.linked_host.proofs.Changed.{make_36}
use Rattle.linked_host.specs.Lookups.{seen}
use Rattle.linked_host.proofs.linked.changes.LinkedHostHost.make.Goals as goal

pub returns-then-is_some : goal.returns-then-is_some
returns-then-is_some c =
    let h = c.args.self.now in
    let p = path_text c.args.p.now in
    let up = rw c.in_ok-head.ensures.ok_part at c.head.ensures in
    (make_36 (rig_of h) p (node_of c.args.node) up.0 (seen (slots_of h.arena) p c.find.result c.find.ensures ∙ ap not (sym c.if-is_some.ensures)), refl)
