use Rattle.std.proofs.Common.{◌≡◌, ◌<◌, [], length, sym, ap, ◌∙◌, arith}
use Rattle.fs.specs.Tree.{nothing, parent, is_dir}
use Rattle.values.specs.Texts.{path_text}
use Rattle.linked_host.specs.Slots.{child_from}
use Rattle.linked_host.specs.Linked.{tree_of}
use Rattle.linked_host.specs.Arenas.{slots_of, entries}
use Rattle.linked_host.specs.Scans.{path_some, same_link_is, stands_some, stands_path, leads}
use Rattle.linked_host.specs.Lookups.{shorter, dir_at, fatherless}
use Rattle.linked_host.proofs.linked.LinkedHost.+find.Goals as goal

pub search-requires : goal.search-requires
search-requires t c =
    let h = c.args.self.now in
    let es = entries h.arena in
    same_link_is h.arena.first (child_from es [] 0) h.headed ∙ ap (λ d. child_from es d 0) (sym c.in_default.ensures)

pub find-requires : goal.find-requires
find-requires t c =
    let p = path_text c.args.p.now in
    let up = c.in-Some.up in
    let is : path_text up ≡ parent p = c.in-Some.ensures in
    let same : length (path_text up) ≡ length (parent p) = ap length is in
    let less : length (parent p) < length p = shorter p (λ e. path_some up (is ∙ e)) in
    (omega (arith, c.decreases), tt)

pub record-requires : goal.record-requires
record-requires t c = stands_some (slots_of c.args.self.now.arena) _ c.in_ok-i.i c.in_ok-i.ensures

pub search-requires-2 : goal.search-requires-2
search-requires-2 t c =
    let h = c.args.self.now in
    let rs = slots_of h.arena in
    let es = entries h.arena in
    let named = stands_path rs _ c.in_ok-i.i c.record.result c.record.ensures c.in_ok-i.ensures in
    (leads rs h.chained c.in_ok-i.i c.record.result c.record.ensures).0 ∙ ap (λ d. child_from es d 0) (named ∙ c.in-Some.ensures)

pub returns-in_err-i : goal.returns-in_err-i
returns-in_err-i t c =
    let h = c.args.self.now in
    let u = tree_of h in
    let up = c.in-Some.up in
    rw c.from_residual.ensures (fatherless u (path_text c.args.p.now) h.grounded (ap (is_dir u) (sym c.in-Some.ensures) ∙ dir_at u (path_text up) nothing (path_some up) c.in_err-i.ensures))
