use Rattle.std.proofs.Common.{◌<◌, length, set, Some, None, refl, subst, arith}
use Rattle.std.proofs.lemmas.Bool.{and_parts}
use Rattle.fs.specs.Tree.{at, parent, is_dir, is_nothing, with_node}
use Rattle.values.specs.Texts.{path_text}
use Rattle.host.specs.Stores.{node_of}
use Rattle.linked_host.specs.Places.{link_at, Before}
use Rattle.linked_host.specs.Arenas.{slots_of, entries, slots_linked, root_linked}
use Rattle.linked_host.specs.Linked.{tree_of}
use Rattle.linked_host.specs.declared.record.Record.{Record}
use Rattle.linked_host.proofs.Changed.{Left, kept_of, left_as, add_kept, add_tree}
use Rattle.linked_host.specs.Rows.{is_none}
use Rattle.linked_host.proofs.linked.LinkedHost.grow.Goals as goal
use Rattle.linked_host.proofs.linked.LinkedHost.grow.Goals.{After-insert}

left : (c : After-insert) → Left c.args.self.now c.insert.new.self (with_node (path_text c.args.p.now) (node_of c.args.node) (tree_of c.args.self.now))
left c =
    let h = c.args.self.now in
    let a = h.arena in
    let rs = slots_of a in
    let t = tree_of h in
    let p = path_text c.args.p.now in
    let i = c.args.i in
    let at' = c.place_before-at.result in
    let there = c.place_before-at.ensures.0 in
    let r : Record = record { path = c.args.p.now; node = c.args.node; first = None; next = link_at a.first rs at' } in
    let is = and_parts (is_dir t (parent p)) (is_nothing (at t p)) c.requires.vacant in
    let none = is_none (at t p) is.1 in
    let before : Before (entries a) (parent p) i at' = subst (λ d. Before (entries a) d i at') c.requires.head.1.0 c.place_before-at.ensures.1 in
    let within : i < length rs = omega (arith, c.requires.within, a.slots.ok.0) in
    left_as h c.insert.new.self (with_node p (node_of c.args.node) t) (slots_linked at' (Some i) (set rs i (Some r))) (root_linked at' (Some i) a.first) c.insert.ensures
    (add_kept a.first rs (kept_of h) i r at' there before within c.requires.free refl refl is.0 none)
    (add_tree a.first rs (kept_of h) i r at' there before within c.requires.free refl refl is.0 none)

pub invariant_of-self : goal.invariant_of-self
invariant_of-self c =
    let h = c.args.self.now in
    let k = left c in
    record { low = omega (arith, h.low, k.len); high = omega (arith, h.high, k.len); few = h.few; distinct = k.kept.distinct; grounded = k.kept.grounded; headed = k.kept.headed; chained = k.kept.chained }

pub returns : goal.returns
returns c = let k = left (goal.at.returns c).After-insert in record { tree = k.tree; capacity = k.len; allowance = refl }
