use Rattle.std.proofs.Common.{sym, ◌∙◌}
use Rattle.syntax.proofs.Readings.{quits, goes, has, lacking}
use Rattle.grammar.specs.Chains.{reference}
use Rattle.chains.proofs.reference.next_reference.Goals as goal

pub returns-in_err-word : goal.returns-in_err-word
unfolding reference
returns-in_err-word g c = quits _ c.in_err-word.ensures c.from_residual.ensures.1

pub returns-in_err-kind : goal.returns-in_err-kind
unfolding reference
returns-in_err-kind g c =
    let o = c.in_err-kind.ensures in
    goes _ c.in_ok-word.ensures (lacking _ _ (sym o.ok_part ∙ c.referred.ensures) o.value c.at.ensures c.from_residual-in_err-kind.ensures.1)

pub returns : goal.returns
unfolding reference
returns g c = goes _ c.in_ok-word.ensures (has _ _ _ (sym c.in_ok-kind.ensures.ok_part ∙ c.referred.ensures) c.next_bracketed.ensures)
