use Rattle.std.proofs.Common.{◌≡◌, false, true, is_some, rules}
use Rattle.std.proofs.lemmas.Iterator.{IsFirst-from_position, YieldsList-from_slice}
use borrow.Author.Tests.{tests}
use Rattle.linked_host.specs.Arenas.{slots_of, entries}
use Rattle.linked_host.specs.Lookups.{first_free}
use Rattle.linked_host.specs.Scans.{fit_views}
use Rattle.linked_host.specs.Written.{length_from}
use Rattle.linked_host.proofs.linked.LinkedHost.vacancy.Goals as goal

pub returns : goal.returns
returns c =
    let h = c.args.self.now in
    let rs = slots_of h.arena in
    first_free rs c.position.result _ _ (length_from (entries h.arena) (fit_views rs) h.distinct) h.arena.slots.ok.0
    (IsFirst-from_position _ _ c.position.result (λ o. is_some o ≡ false) (λ o. is_some o ≡ true) c.position.ensures.ran (YieldsList-from_slice rs cc) (λ x q k. search (rules, tests)) (λ x q k. search (rules, tests)))
