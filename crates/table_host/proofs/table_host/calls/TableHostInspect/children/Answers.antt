use Rattle.std.proofs.Common.{◌≡◌, count_by, sym, ◌∙◌, rules}
use Rattle.std.proofs.iter.runs.Made.{chains}
use Rattle.values.specs.Texts.{path_text}
use Rattle.fs.specs.Tree.{same, parent}
use Rattle.table_host.specs.Records.{nodes}
use Rattle.table_host.specs.PlacesLemmas.{children_counted}
use Rattle.table_host.proofs.table_host.calls.TableHostInspect.children.Goals as goal

pub returns : goal.returns
returns c =
    let rs = nodes c.args.self.now.table in
    let p = path_text c.args.p.now in
    let counted : c.count.result ≡ count_by (λ r. same (parent (path_text r.path)) p) rs = search (rules, chains) in
    counted ∙ sym (children_counted rs p)
