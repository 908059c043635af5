use Rattle.std.proofs.Common.{sym, refl, ap, ◌∙◌}
use Rattle.fs.specs.Tree.{nothing, is_dir}
use Rattle.values.specs.Texts.{path_text}
use Rattle.host.specs.Stores.{node_of}
use Rattle.linked_host.specs.Arenas.{slots_of}
use Rattle.linked_host.specs.Linked.{tree_of}
use Rattle.linked_host.specs.Lookups.{stands_node, dir_at}
use Rattle.linked_host.specs.Scans.{path_some, stands_some, stands_text}
use Rattle.linked_host.proofs.linked.LinkedHost.head.Goals as goal

pub returns-in_default : goal.returns-in_default
returns-in_default c =
    let root = c.in_default.ensures in
    (ap (is_dir (tree_of c.args.self.now)) root, tt, (sym root, refl))

pub record-requires : goal.record-requires
record-requires c = stands_some (slots_of c.args.self.now.arena) _ c.in_ok-i.i c.in_ok-i.ensures

pub returns-in-Directory : goal.returns-in-Directory
returns-in-Directory c =
    let h = c.args.self.now in
    let rs = slots_of h.arena in
    let up = c.in-Some.up in
    let d = path_text up in
    let is = c.in-Some.ensures in
    let i = c.in_ok-i.i in
    let s = c.in_ok-i.ensures in
    (ap (is_dir (tree_of h)) (sym is) ∙ dir_at (tree_of h) d _ (path_some up) (stands_node rs h.distinct d i c.record.result c.record.ensures s ∙ ap node_of c.in-Directory.is), stands_some rs d i s, (stands_text rs d i s ∙ is, refl))

pub returns-in-File : goal.returns-in-File
returns-in-File c =
    let h = c.args.self.now in
    let up = c.in-Some.up in
    let d = path_text up in
    ap (is_dir (tree_of h)) (sym c.in-Some.ensures)
    ∙ dir_at (tree_of h) d _ (path_some up) (stands_node (slots_of h.arena) h.distinct d c.in_ok-i.i c.record.result c.record.ensures c.in_ok-i.ensures ∙ ap node_of c.in-File.is)

pub returns-in_err-i : goal.returns-in_err-i
returns-in_err-i c =
    let h = c.args.self.now in
    let up = c.in-Some.up in
    rw c.from_residual.ensures (ap (is_dir (tree_of h)) (sym c.in-Some.ensures) ∙ dir_at (tree_of h) (path_text up) nothing (path_some up) c.in_err-i.ensures)
