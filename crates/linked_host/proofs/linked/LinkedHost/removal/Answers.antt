use Rattle.std.proofs.Common.{rules, ◌≡◌, ℕ, is_some, Some, sym, ap, ◌∙◌}
use Rattle.fs.specs.Tree.{at, children, blocked}
use Rattle.fs.proofs.Calls.{clear}
use Rattle.values.specs.Texts.{path_text}
use Rattle.values.specs.Texts.{Path}
use Rattle.linked_host.specs.Slots.{Stands, child_from}
use Rattle.linked_host.specs.Arenas.{slots_of, slot, entries}
use Rattle.linked_host.specs.Linked.{rig_of, tree_of}
use Rattle.linked_host.specs.declared.linked.LinkedHost.{LinkedHost}
use Rattle.linked_host.specs.declared.record.Record.{Record}
use Rattle.linked_host.proofs.Changed.{remove_37, remove_38, remove_clear}
use Rattle.linked_host.specs.Lookups.{blocked_by, fatherless}
use Rattle.linked_host.specs.Rows.{at_seen}
use Rattle.linked_host.specs.Scans.{fit_views, leads, path_some, stands_some, stands_path}
use Rattle.linked_host.proofs.linked.LinkedHost.removal.Goals as goal

-- the record of the path says whether the path has children
has : (h : LinkedHost) (p : Path) (i : ℕ) (r : Record) → slot h.arena i ≡ Some r → Stands (entries h.arena) (path_text p) i → blocked (at (tree_of h) (path_text p)) (children (tree_of h) (path_text p)) ≡ is_some r.first
has h p i r read s =
    let rs = slots_of h.arena in
    blocked_by (entries h.arena) (fit_views rs) h.distinct h.grounded (path_text p) (path_some p) r.first
    ((leads rs h.chained i r read).0 ∙ ap (λ d. child_from (entries h.arena) d 0) (stands_path rs (path_text p) i r read s))

pub returns-in_err-head : goal.returns-in_err-head
returns-in_err-head c =
    let h = c.args.self.now in
    let p = path_text c.args.p.now in
    let gone = remove_37 (rig_of h) p (fatherless (tree_of h) p h.grounded (rw c.in_err-head.ensures.ok_part at c.head.ensures)) in
    search rules

pub record-requires : goal.record-requires
record-requires c = stands_some (slots_of c.args.self.now.arena) (path_text c.args.p.now) c.in_ok-i.i (rw c.in_ok-i.ensures.ok_part at c.find.ensures)

pub returns-then-is_some : goal.returns-then-is_some
returns-then-is_some c =
    let h = c.args.self.now in
    let p = c.args.p.now in
    remove_38 (rig_of h) (path_text p) (has h p c.in_ok-i.i c.record.result c.record.ensures (rw c.in_ok-i.ensures.ok_part at c.find.ensures) ∙ sym c.if-is_some.ensures)

pub returns : goal.returns
returns c =
    let h = c.args.self.now in
    let p = c.args.p.now in
    let i = c.in_ok-i.i in
    let s = rw c.in_ok-i.ensures.ok_part at c.find.ensures in
    let head = rw c.in_ok-head.ensures.ok_part at c.head.ensures in
    let some = at_seen (entries h.arena) i (path_text p) (fit_views (slots_of h.arena)) s in
    let free = clear (rig_of h) (path_text p) some (has h p i c.record.result c.record.ensures s ∙ sym c.if-is_some.ensures) in
    record { held = head.1; heads = head.2; here = s; clear = free; allowed = remove_clear (rig_of h) (path_text p) free }
