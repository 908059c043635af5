use Rattle.std.proofs.Common.{◌<◌, length, Some, sym, ap, ◌∙◌, subst, arith}
use Rattle.std.proofs.lemmas.Bool.{both_ways}
use Rattle.fs.specs.Tree.{parent}
use Rattle.fs.proofs.Trees.{same_eq}
use Rattle.values.specs.Texts.{path_text}
use Rattle.linked_host.specs.Slots.{is_child, path_of}
use Rattle.linked_host.specs.Links.{view}
use Rattle.linked_host.specs.Arenas.{slots_of, entries, slot}
use Rattle.linked_host.specs.Rows.{at_none}
use Rattle.linked_host.specs.Scans.{Passed, same_from, passed_first, to_first, child_some, view_at, next_passed, next_less, left_of}
use Rattle.linked_host.proofs.linked.LinkedHost.search.Goals as goal

pub loop-cursor-init : goal.loop-cursor-init
loop-cursor-init c =
    let es = entries c.args.self.now.arena in
    let p = path_text c.args.p.now in
    passed_first es p 0 c.args.head (to_first es (parent p) 0 c.args.head c.requires) (λ x l. absurd (omega arith))

pub record-r-requires : goal.record-r-requires
record-r-requires c =
    let a = c.args.self.now.arena in
    let p = path_text c.args.p.now in
    let at-child = (subst (Passed (entries a) p) c.in-Some.is c.loop-cursor.invariant).0 in
    child_some (parent p) (slot a c.in-Some.i) (ap (is_child (parent p)) (sym (view_at (slots_of a) c.in-Some.i)) ∙ at-child)

pub returns-then-eq : goal.returns-then-eq
returns-then-eq c =
    let a = c.args.self.now.arena in
    let same = same_eq (path_text c.record-r.result.path) (path_text c.args.p.now) (sym c.eq.ensures ∙ c.if-eq.true) in
    ap path_of (view_at (slots_of a) c.in-Some.i ∙ ap view c.record-r.ensures) ∙ ap Some same

pub loop-cursor-smaller : goal.loop-cursor-smaller
loop-cursor-smaller c =
    let h = c.args.self.now in
    let rs = slots_of h.arena in
    let p = path_text c.args.p.now in
    let inv = subst (Passed (entries h.arena) p) c.in-Some.is c.loop-cursor.invariant in
    subst (λ o. left_of (length rs) c.record-r.result.next < left_of (length rs) o) (sym c.in-Some.is) (next_less rs h.chained (parent p) c.in-Some.i c.record-r.result c.record-r.ensures inv.0)

pub loop-cursor-preserved : goal.loop-cursor-preserved
loop-cursor-preserved c =
    let h = c.args.self.now in
    let p = path_text c.args.p.now in
    let r = c.record-r.result in
    let inv = subst (Passed (entries h.arena) p) c.in-Some.is c.loop-cursor.invariant in
    next_passed (slots_of h.arena) h.chained p c.in-Some.i r c.record-r.ensures inv
    (λ k. both_ways c.eq.result c.if-eq.false (c.eq.ensures ∙ same_from (path_text r.path) p k))

pub returns : goal.returns
returns c =
    let es = entries c.args.self.now.arena in
    let p = path_text c.args.p.now in
    at_none es p (subst (Passed es p) c.in_default.is c.loop-cursor.invariant)
