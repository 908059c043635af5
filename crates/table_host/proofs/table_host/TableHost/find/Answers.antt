use Rattle.std.proofs.Common.{length, rules, subst}
use Rattle.std.proofs.lemmas.Fn.{always_returns_same}
use Rattle.std.specs.List.Sorted.{IsBinarySearchResult, IsSearchInRange}
use Rattle.values.specs.Texts.{path_text}
use Rattle.table_host.specs.Records.{nodes}
use Rattle.table_host.specs.PlacesLemmas.{order_to, searched}
use Rattle.table_host.proofs.table_host.TableHost.find.Goals as goal

pub returns : goal.returns
returns c =
    let h = c.args.self.now in
    let p = path_text c.args.p.now in
    searched (nodes h.table) p h.ordered c.binary_search_by.result
    (subst (λ rs. IsSearchInRange c.binary_search_by.result (length rs)) c.nodes.ensures c.binary_search_by.ensures.bound)
    (subst (λ rs. IsBinarySearchResult (order_to p) rs c.binary_search_by.result) c.nodes.ensures (c.binary_search_by.ensures.position (order_to p) (always_returns_same _ _ _ (λ a r f k. search rules))))
