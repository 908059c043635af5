use Rattle.std.proofs.Common.{◌≡◌, true, set, None, sym, refl, ap, ◌∙◌, subst, arith}
use Rattle.fs.specs.Tree.{at, children, parent, removable, without}
use Rattle.values.specs.Texts.{path_text}
use Rattle.linked_host.specs.Places.{next_of, Before}
use Rattle.linked_host.specs.Arenas.{slots_of, slot, entries, slots_linked, root_linked, Written}
use Rattle.linked_host.specs.Linked.{tree_of}
use Rattle.linked_host.proofs.Changed.{Left, kept_of, left_as, rm_kept, rm_tree}
use Rattle.linked_host.proofs.Linking.{held}
use Rattle.linked_host.specs.Scans.{stands_some, stands_path}
use Rattle.linked_host.proofs.linked.LinkedHost.prune.Goals as goal
use Rattle.linked_host.proofs.linked.LinkedHost.prune.Goals.{After-unlink}

pub unlink-requires : goal.unlink-requires
unlink-requires c =
    record { at = c.place_before-at.ensures.0; here = stands_some (slots_of c.args.self.now.arena) (path_text c.args.p.now) c.args.i c.requires.here }

left : (c : After-unlink) → Left c.args.self.now c.unlink.new.self (without (path_text c.args.p.now) (tree_of c.args.self.now))
left c =
    let h = c.args.self.now in
    let a = h.arena in
    let rs = slots_of a in
    let t = tree_of h in
    let p = path_text c.args.p.now in
    let i = c.args.i in
    let there = held (slot a i) (stands_some rs p i c.requires.here) in
    let r = there.0 in
    let next : next_of (slot a i) ≡ r.next = ap next_of there.1 in
    let at' = c.place_before-at.result in
    let is : path_text r.path ≡ p = stands_path rs p i r there.1 c.requires.here in
    let clear : removable (at t (path_text r.path)) (children t (path_text r.path)) ≡ true = ap (λ q. removable (at t q) (children t q)) is ∙ c.requires.clear in
    let before : Before (entries a) (parent (path_text r.path)) i at' = subst (λ d. Before (entries a) d i at') (c.requires.heads.0 ∙ ap parent (sym is)) c.place_before-at.ensures.1 in
    left_as h c.unlink.new.self (without p t) (set (slots_linked at' r.next rs) i None) (root_linked at' r.next a.first)
    (subst (λ o. Written a c.unlink.new.self (set (slots_linked at' o rs) i None) (root_linked at' o a.first)) next c.unlink.ensures)
    (rm_kept a.first rs (kept_of h) i r at' c.place_before-at.ensures.0 before there.1 clear)
    (rm_tree a.first rs (kept_of h) i r at' c.place_before-at.ensures.0 before there.1 clear ∙ ap (λ q. without q t) is)

pub invariant_of-self : goal.invariant_of-self
invariant_of-self c =
    let h = c.args.self.now in
    let k = left c in
    record { low = omega (arith, h.low, k.len); high = omega (arith, h.high, k.len); few = h.few; distinct = k.kept.distinct; grounded = k.kept.grounded; headed = k.kept.headed; chained = k.kept.chained }

pub returns : goal.returns
returns c = let k = left (goal.at.returns c).After-unlink in record { tree = k.tree; capacity = k.len; allowance = refl }
