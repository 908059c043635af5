use Rattle.std.proofs.Common.{◌≡◌, ◌-◌, true, sym, ap, ◌∙◌, subst, arith}
use Rattle.values.specs.Texts.{path_text}
use Rattle.fs.specs.Rig.{taken}
use Rattle.fs.specs.Tree.{nothing, at, children, without, removable, Sorted, Rooted}
use Rattle.fs.proofs.Calls.{clear, remove_taken}
use Rattle.fs.proofs.Rooting.{rooted_remove}
use Rattle.fs.proofs.Trees.{sorted_put}
use Rattle.table_host.specs.Records.{tree_of, nodes}
use Rattle.table_host.specs.Tables.{rig_of}
use Rattle.table_host.specs.Kept.{count_of}
use Rattle.table_host.specs.PlacesLemmas.{shrunk, with_tree}
use Rattle.table_host.proofs.table_host.changes.TableHostHost.rm.Goals as goal

pub remove-requires : goal.remove-requires
remove-requires c =
    let h = c.args.self.now in
    record { place = omega (arith, c.in-Ok.ensures.within, count_of h); used = h.within }

pub invariant_of-self : goal.invariant_of-self
invariant_of-self c =
    let h = c.args.self.now in
    let t = (rig_of h).tree in
    let p = path_text c.args.p.now in
    let place = c.in-Ok.ensures in
    let free : removable (at t p) (children t p) ≡ true = clear (rig_of h) p place.some (sym c.if-blocked.ensures) in
    let same : tree_of (nodes c.remove.new.self) ≡ without p t = shrunk (nodes h.table) (nodes c.remove.new.self) p c.in-Ok.i place c.remove.ensures.nodes in
    record {
      room = omega (arith, h.room, c.remove.ensures.room);
      within = c.remove.ensures.within;
      fits = omega (arith, h.fits, c.remove.ensures.used);
      low = h.low;
      high = h.high;
      few = omega (arith, h.few);
      ordered = subst Sorted (sym same) (sorted_put p nothing t h.ordered);
      grounded = subst Rooted (sym same) (rooted_remove p t free h.grounded);
    }

pub returns : goal.returns
returns c =
    let h = c.args.self.now in
    let t = (rig_of h).tree in
    let p = path_text c.args.p.now in
    let place = c.in-Ok.ensures in
    let free : removable (at t p) (children t p) ≡ true = clear (rig_of h) p place.some (sym c.if-blocked.ensures) in
    remove_taken (rig_of h) p free c.if-self-eq0.false ∙ ap taken (sym (with_tree h.capacity (h.allowance - 1) (shrunk (nodes h.table) (nodes c.remove.new.self) p c.in-Ok.i place c.remove.ensures.nodes)))
