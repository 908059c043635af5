use Rattle.std.proofs.Common.{vec_items, rules, tests, ◌∙◌}
use Rattle.std.proofs.lemmas.Iterator.{YieldsList-from_slice}
use Rattle.std.proofs.lemmas.Iterator.Search.{any_from_yields_List}
use Rattle.values.specs.Texts.{path_text}
use Rattle.fs.specs.Tree.{same}
use Rattle.records.specs.Entries.{entry_of, entry_path}
use Rattle.index.proofs.Lookups.{listed_any}
use Rattle.index.proofs.packages.Package.lists.Goals as goal

pub returns : goal.returns
returns c =
    let p = path_text c.args.path.now in
    let xs = vec_items c.args.self.now.entries in
    let any = any_from_yields_List (λ x. same p (entry_path (entry_of x))) _ _ c.any.result c.any.ensures.ran (YieldsList-from_slice xs (c.iter.ensures.rest ∙ c.deref.ensures.value)) (λ x b q k. search (rules, tests)) in
    any ∙ listed_any p xs
