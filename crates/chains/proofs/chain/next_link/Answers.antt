use Rattle.std.proofs.Common.{refl}
use Rattle.syntax.proofs.Readings.{quits, goes, done}
use Rattle.grammar.specs.Chains.{link}
use Rattle.chains.specs.Meanings.{link_of}
use Rattle.chains.proofs.chain.next_link.Goals as goal

pub returns-in_err-arrow : goal.returns-in_err-arrow
unfolding link
returns-in_err-arrow g c = quits _ c.in_err-arrow.ensures c.from_residual.ensures.1

pub returns-in_err-right : goal.returns-in_err-right
unfolding link
returns-in_err-right g c = goes _ c.in_ok-arrow.ensures (quits _ c.in_err-right.ensures c.from_residual-in_err-right.ensures.1)

pub returns : goal.returns
unfolding link
returns g c = goes _ c.in_ok-arrow.ensures (goes _ c.in_ok-right.ensures (done link_of _ refl))
