use Rattle.std.proofs.Common.{None, ap, ◌∙◌}
use Rattle.values.specs.Texts.{path_text}
use Rattle.linked_host.specs.Slots.{child_from}
use Rattle.linked_host.specs.Arenas.{slots_of, entries}
use Rattle.linked_host.specs.Lookups.{bare}
use Rattle.linked_host.specs.Scans.{fit_views, first_from, leads, path_some, stands_some, stands_path}
use Rattle.linked_host.proofs.linked.LinkedHost.first_child.Goals as goal

pub record-requires : goal.record-requires
record-requires c = stands_some (slots_of c.args.self.now.arena) _ c.in_ok-i.i c.in_ok-i.ensures

pub returns : goal.returns
returns c =
    let h = c.args.self.now in
    let rs = slots_of h.arena in
    let i = c.in_ok-i.i in
    let r = c.record.result in
    (leads rs h.chained i r c.record.ensures).0 ∙ ap (λ d. child_from (entries h.arena) d 0) (stands_path rs (path_text c.args.p.now) i r c.record.ensures c.in_ok-i.ensures)

pub returns-in_err-i : goal.returns-in_err-i
returns-in_err-i c =
    let h = c.args.self.now in
    let es = entries h.arena in
    let p = c.args.p.now in
    let none = bare es (fit_views (slots_of h.arena)) h.distinct h.grounded (path_text p) (path_some p) c.in_err-i.ensures in
    c.from_residual.ensures ∙ first_from es (path_text p) 0 None (λ x l. none x)
