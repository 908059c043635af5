use Rattle.std.proofs.Common.{◌≡◌, reverse, vec_items, rules}
use Rattle.std.specs.List.{find}
use Rattle.std.specs.Option.{option_map}
use Rattle.std.proofs.lemmas.Iterator.Adapters.{YieldsList-from_rev_slice}
use Rattle.std.proofs.lemmas.Iterator.Search.{find_from_yields_List}
use borrow.Author.Tests.{tests}
use Rattle.values.specs.Texts.{path_text}
use Rattle.changes.proofs.Logged.{alters, latest}
use Rattle.changes.proofs.log.Log.latest.Goals as goal

pub returns : goal.returns
returns c =
    let held = vec_items c.args.self.now.held in
    let p = path_text c.args.p.now in
    let found : option_map (λ y. y.now) c.find.result ≡ find (alters p) (reverse held) =
    find_from_yields_List (alters p) _ _ c.find.result c.find.ensures.ran (YieldsList-from_rev_slice held cc) (λ x b q k. search (rules, tests)) in
    latest p held c.copied.result cc
