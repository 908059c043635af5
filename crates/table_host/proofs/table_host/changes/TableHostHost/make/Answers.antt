use Rattle.std.proofs.Common.{◌≡◌, ◌-◌, ◌<◌, length, sym, refl, ap, ◌∙◌, subst, arith}
use Rattle.std.proofs.lemmas.Bool.{and_from}
use Rattle.values.specs.Texts.{path_text}
use Rattle.fs.specs.Rig.{taken}
use Rattle.fs.specs.Tree.{at, with_node, is_dir, is_nothing, parent, Sorted, Rooted}
use Rattle.fs.proofs.Calls.{make_39, make_40, make_taken}
use Rattle.fs.proofs.Rooting.{rooted_with}
use Rattle.fs.proofs.Trees.{sorted_with}
use Rattle.host.specs.Stores.{node_of}
use Rattle.host.proofs.Storing.{some_stored}
use Rattle.table_host.specs.Records.{tree_of, nodes}
use Rattle.table_host.specs.Tables.{rig_of}
use Rattle.table_host.specs.declared.record.Record.{Record}
use Rattle.table_host.specs.Kept.{count_of}
use Rattle.table_host.specs.PlacesLemmas.{grown, with_tree}
use Rattle.table_host.proofs.table_host.changes.TableHostHost.make.Goals as goal

pub returns-then-self : goal.returns-then-self
returns-then-self c =
    let h = c.args.self.now in
    (make_39 (rig_of h) (path_text c.args.p.now) (node_of c.args.node) (sym c.if-not-parent_is_dir.ensures) (ap is_nothing c.in-Err.ensures.none) (omega (arith, count_of h)), refl)

pub returns-then-self-eq0 : goal.returns-then-self-eq0
returns-then-self-eq0 c =
    let h = c.args.self.now in
    (make_40 (rig_of h) (path_text c.args.p.now) (node_of c.args.node) (sym c.if-not-parent_is_dir.ensures) (ap is_nothing c.in-Err.ensures.none) (omega (arith, count_of h)) c.if-self-eq0.true, refl)

pub insert-requires : goal.insert-requires
insert-requires c =
    let h = c.args.self.now in
    record { place = omega (arith, c.in-Err.ensures.within, count_of h); used = h.within; room = omega (arith, h.room) }

pub invariant_of-self : goal.invariant_of-self
invariant_of-self c =
    let h = c.args.self.now in
    let t = (rig_of h).tree in
    let p = path_text c.args.p.now in
    let n = node_of c.args.node in
    let r : Record = record { path = c.args.p.now; node = c.args.node } in
    let place = c.in-Err.ensures in
    let same : tree_of (nodes c.insert.new.self) ≡ with_node p n t = grown (nodes h.table) (nodes c.insert.new.self) r c.in-Err.i place c.insert.ensures.nodes in
    let free = and_from (is_dir t (parent p)) (is_nothing (at t p)) (sym c.if-not-parent_is_dir.ensures) (ap is_nothing place.none) in
    record {
      room = omega (arith, h.room, c.insert.ensures.room);
      within = c.insert.ensures.within;
      fits = omega (arith, c.insert.ensures.used);
      low = h.low;
      high = h.high;
      few = omega (arith, h.few);
      ordered = subst Sorted (sym same) (sorted_with p n t (some_stored c.args.node) h.ordered);
      grounded = subst Rooted (sym same) (rooted_with p n t (some_stored c.args.node) free h.grounded);
    }

pub returns : goal.returns
returns c =
    let h = c.args.self.now in
    let t = (rig_of h).tree in
    let p = path_text c.args.p.now in
    let r : Record = record { path = c.args.p.now; node = c.args.node } in
    let place = c.in-Err.ensures in
    let free : length t < h.capacity = omega (arith, count_of h) in
    make_taken (rig_of h) p (node_of c.args.node) (sym c.if-not-parent_is_dir.ensures) (ap is_nothing place.none) free c.if-self-eq0.false
    ∙ ap taken (sym (with_tree h.capacity (h.allowance - 1) (grown (nodes h.table) (nodes c.insert.new.self) r c.in-Err.i place c.insert.ensures.nodes)))
