use Rattle.std.proofs.Common.{vec_items, rules, tests, ◌∙◌}
use Rattle.std.proofs.lemmas.Iterator.{YieldsList-from_slice}
use Rattle.std.proofs.lemmas.Iterator.Adapters.{position_from-zero}
use Rattle.std.proofs.lemmas.Iterator.Search.{position_from_yields_List}
use Rattle.values.specs.Texts.{name_text}
use Rattle.fs.specs.Tree.{same}
use Rattle.index.proofs.Lookups.{named_at}
use Rattle.index.proofs.index.Index.position.Goals as goal

pub returns : goal.returns
returns c =
    let n = name_text c.args.name.now in
    let xs = vec_items c.args.self.now.packages in
    let at = position_from_yields_List (λ x. same n (name_text x.name)) _ _ _ c.position.ensures.ran (YieldsList-from_slice xs (c.iter.ensures.rest ∙ c.deref.ensures.value)) (λ x b q k. search (rules, tests)) in
    at ∙ position_from-zero (λ x. same n (name_text x.name)) xs ∙ named_at n 0 xs
