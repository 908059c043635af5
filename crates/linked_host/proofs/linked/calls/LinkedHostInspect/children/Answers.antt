use Rattle.std.proofs.Common.{rules, ◌+◌, ◌<◌, ◌≤◌, length, sym, ap, ◌∙◌, subst, arith}
use Rattle.std.proofs.lemmas.List.{length-map}
use Rattle.values.specs.Texts.{path_text}
use Rattle.linked_host.specs.Slots.{is_child}
use Rattle.linked_host.specs.Links.{view}
use Rattle.linked_host.specs.Arenas.{slots_of, entries, slot}
use Rattle.linked_host.specs.Scans.{Counted, counted_first, counted_on, kids_few, left_of, child_some, view_at, fit_views, next_link, next_less}
use Rattle.linked_host.specs.Written.{children_from}
use Rattle.linked_host.proofs.linked.calls.LinkedHostInspect.children.Goals as goal

pub loop-cursor-init : goal.loop-cursor-init
loop-cursor-init c = search (rules, counted_first)

pub overflow_add-n : goal.overflow_add-n
overflow_add-n c =
    let h = c.args.self.now in
    let es = entries h.arena in
    let p = path_text c.args.p.now in
    let inv = subst (Counted es p c.loop-cursor.n) c.in-Some.is c.loop-cursor.invariant in
    let few : c.loop-cursor.n + 1 ≤ 256 = omega (arith, inv.1, kids_few p es, length-map (slots_of h.arena) view, h.arena.slots.ok.0, h.high) in
    omega arith

pub record-cursor-requires : goal.record-cursor-requires
record-cursor-requires c =
    let a = c.args.self.now.arena in
    let p = path_text c.args.p.now in
    let inv = subst (Counted (entries a) p c.loop-cursor.n) c.in-Some.is c.loop-cursor.invariant in
    child_some p (slot a c.in-Some.i) (ap (is_child p) (sym (view_at (slots_of a) c.in-Some.i)) ∙ inv.0)

pub loop-cursor-smaller : goal.loop-cursor-smaller
loop-cursor-smaller c =
    let h = c.args.self.now in
    let rs = slots_of h.arena in
    let p = path_text c.args.p.now in
    let r = c.record-cursor.result in
    let inv = subst (Counted (entries h.arena) p c.loop-cursor.n) c.in-Some.is c.loop-cursor.invariant in
    subst (λ o. left_of (length rs) r.next < left_of (length rs) o) (sym c.in-Some.is) (next_less rs h.chained p c.in-Some.i r c.record-cursor.ensures inv.0)

pub loop-cursor-preserved : goal.loop-cursor-preserved
loop-cursor-preserved c =
    let h = c.args.self.now in
    let rs = slots_of h.arena in
    let es = entries h.arena in
    let p = path_text c.args.p.now in
    let i = c.in-Some.i in
    let r = c.record-cursor.result in
    let inv = subst (Counted es p c.loop-cursor.n) c.in-Some.is c.loop-cursor.invariant in
    counted_on es p (i + 1) (c.loop-cursor.n + 1) r.next (next_link rs h.chained p i r c.record-cursor.ensures inv.0) inv.1

pub returns : goal.returns
returns c =
    let h = c.args.self.now in
    let es = entries h.arena in
    let p = path_text c.args.p.now in
    subst (Counted es p c.loop-cursor.n) c.in_default.is c.loop-cursor.invariant ∙ sym (children_from p es (fit_views (slots_of h.arena)) h.distinct)
